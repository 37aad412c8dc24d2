pub mod Running
pub mod Marked
