pub mod Putting
pub mod Fitting
pub mod Writes
pub mod Laws
