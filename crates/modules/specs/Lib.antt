pub mod Entries
pub mod Heads
