-- what a reader must believe
pub mod Listing
pub mod Answers
-- for the contracts of private functions
pub mod Inside
