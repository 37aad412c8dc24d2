pub mod EveryCaseRight
pub mod Steps
