pub mod Length
pub mod Numbers
pub mod Layout
pub mod Writer
pub mod Reader
pub mod Lines
