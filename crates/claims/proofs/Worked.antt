-- The worked drafts, and the shams.
pub mod Drafts
pub mod DraftsHeld
pub mod DraftRuns
pub mod DraftTables
pub mod WorkedDrafts
pub mod Shams
