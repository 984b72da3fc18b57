-- The reader, record by record, finds what the definition says.
pub mod Verdicts
pub mod Frames
pub mod Growing
pub mod Below
pub mod Heads
pub mod Whole
