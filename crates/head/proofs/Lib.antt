pub mod Begins
pub mod CountedUp
pub mod Turns
