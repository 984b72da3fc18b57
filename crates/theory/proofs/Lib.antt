pub mod Lists
pub mod Expressions
pub mod Nodes
pub mod Counting
pub mod Theorem
