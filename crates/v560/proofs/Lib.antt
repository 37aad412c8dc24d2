pub mod Stepping
pub mod Single
pub mod ScaleHolds
pub mod Numbering
pub mod Forms
pub mod Untouched
