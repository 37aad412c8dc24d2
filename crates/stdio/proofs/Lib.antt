pub mod Moving
pub mod Keeping
