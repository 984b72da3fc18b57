-- what a reader must believe
pub mod Words
pub mod Runs
pub mod Promises
-- for the contracts of private functions
pub mod Columns
pub mod Stacks
pub mod Piles
