pub mod Captured
