-- When a promise refuses, and with what number.
pub mod Faults
pub mod Refusals
