pub mod Walked
pub mod Permitted
