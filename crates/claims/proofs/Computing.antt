-- Computed cases.
pub mod ComputedFiles
pub mod ComputedSets
pub mod ComputedRuns
pub mod ComputedTables
pub mod ComputedStages
pub mod Computed
