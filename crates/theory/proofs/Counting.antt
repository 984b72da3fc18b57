-- How many nodes a conversion makes.
pub mod Room
pub mod Bound
