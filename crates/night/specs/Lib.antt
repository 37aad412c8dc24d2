pub mod Lines
pub mod Runs
pub mod Streams
pub mod Tallies
