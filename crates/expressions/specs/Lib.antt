-- what a reader must believe
pub mod Nodes
pub mod Words
pub mod Unfolding
pub mod Soundness
pub mod Making
pub mod Sizes
pub mod Answers
-- for the contracts of private functions
pub mod Inside
