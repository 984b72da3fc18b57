-- One outcome for each promise, and some outcome, whose numbers and buffers fit their types.
pub mod Uniqueness
pub mod Told
pub mod TypedValues
pub mod TypedTables
pub mod TypedConversions
pub mod KeptTables
pub mod KeptRuns
pub mod KeptConversions
pub mod Kept
pub mod Returned
