-- what a reader must believe
pub mod Trees
pub mod Fillings
pub mod Expressions
