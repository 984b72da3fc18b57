pub mod Refusing
pub mod Meaning
pub mod Outcomes
pub mod Worked
pub mod Computing
pub mod Claims
