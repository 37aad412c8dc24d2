pub mod Look
pub mod Requests
pub mod Places
pub mod Numbers
pub mod Choices
