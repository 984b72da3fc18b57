-- what the words and the rows mean
pub mod Spelling
pub mod Reaching
pub mod Piling
pub mod Answers
-- the table of the rows, and a scan of it
pub mod Scanning
pub mod Values
pub mod Tabling
pub mod Firing
-- the pile in memory, the rounds, and the public promises
pub mod Stacking
pub mod Producing
pub mod Promised
