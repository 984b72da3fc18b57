-- nodes, and the expressions that they unfold to
pub mod KindLaws
pub mod Words
pub mod Chunks
pub mod Unfolding
pub mod Soundness
pub mod OpenSets
-- what the code checks, makes and measures
pub mod Places
pub mod Checks
pub mod Written
pub mod Decidable
-- what follows for those who call
pub mod Making
pub mod Once
pub mod Props
