pub mod Ring
pub mod Stores
