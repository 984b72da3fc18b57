-- what a reader must believe
pub mod RowLists
pub mod Stages
pub mod Acceptance
pub mod Theorem
