-- what a reader must believe
pub mod Types
pub mod Refusals
pub mod Meanings
pub mod Slips
pub mod Conversions
pub mod Printings
pub mod Uniqueness
pub mod Kept
pub mod DraftFiles
pub mod WorkedDrafts
pub mod Shams
pub mod ComputedFiles
pub mod Computed
pub mod Claims
