pub mod Start
pub mod Columns
