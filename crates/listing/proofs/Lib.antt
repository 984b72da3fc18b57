pub mod Listing
pub mod Longest
pub mod Once
