pub mod Fitting
pub mod Channels
pub mod Stepping
pub mod ScaleHolds
pub mod Numbering
pub mod Forms
pub mod Untouched
