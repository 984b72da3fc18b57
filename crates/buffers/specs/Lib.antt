-- what a reader must believe
pub mod Decimal
pub mod Writing
pub mod Promises
