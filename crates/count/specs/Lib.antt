pub mod Counter
pub mod Chain
pub mod Determined
