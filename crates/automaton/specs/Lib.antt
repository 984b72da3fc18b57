-- what a reader must believe
pub mod Held
pub mod File
pub mod Checks
pub mod Refusals
pub mod Answers
-- for the contracts of private functions
pub mod Handed
pub mod Inside
