pub mod Outcomes
pub mod Counting
pub mod Registers
pub mod Joined
pub mod Module
