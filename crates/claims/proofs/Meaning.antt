-- What the promises mean: files, runs, tables, conversions, the text.
pub mod Meanings
pub mod Slips
pub mod Done
pub mod Conversions
pub mod Printings
