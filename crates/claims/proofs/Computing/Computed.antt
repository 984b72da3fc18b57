-- The definitions give what the hand gives.
use Rattle.claims.specs.Computed.{Computed}
use Rattle.claims.proofs.Computing.ComputedFiles.{file-cases}
use Rattle.claims.proofs.Computing.ComputedSets.{set_cases}
use Rattle.claims.proofs.Computing.ComputedRuns.{run-cases}
use Rattle.claims.proofs.Computing.ComputedTables.{table-cases}
use Rattle.claims.proofs.Computing.ComputedStages.{stage_cases}

pub computed : Computed
computed = record { files = file-cases; sets = set_cases; runs = run-cases; tables = table-cases; stages = stage_cases }
