pub mod Bits
pub mod Carry
pub mod Determined
pub mod Mapping
pub mod Repeats
pub mod Tests
