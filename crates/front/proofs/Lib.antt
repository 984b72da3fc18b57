pub mod Refused
pub mod Outcomes
pub mod Room
pub mod Cap
