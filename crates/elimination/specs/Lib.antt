-- what a reader must believe
pub mod Answers
-- for the contracts of private functions
pub mod Inside
