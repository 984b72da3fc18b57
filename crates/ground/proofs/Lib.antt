pub mod Truth
pub mod Tests
pub mod Lists
pub mod Deciding
pub mod Places
