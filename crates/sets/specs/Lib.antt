-- what a reader must believe
pub mod Members
pub mod Promises
