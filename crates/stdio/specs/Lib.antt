pub mod Window
pub mod Listings
