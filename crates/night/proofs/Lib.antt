pub mod Tallying
pub mod Sound
pub mod Going
pub mod Continued
pub mod Streamed
pub mod Numbered
pub mod Drained
pub mod Blind
