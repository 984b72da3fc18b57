-- what a reader must believe
pub mod Decides
pub mod Lists
pub mod Promises
