-- What a conversion must mean, at every stop and at the end, for every automaton that a file can hold.
use Rattle.std.specs.Prelude.{ℕ, ◌<◌, ◌≤◌, ◌+◌, ◌≡◌, false, ◌⊎◌, ◌↔◌, length}
use mathlib.Core.List.{Memᴰ}
use Rattle.sets.specs.Members.{has}
use Rattle.automaton.specs.Held.{Held}
use Rattle.meaning.specs.Trees.{Tree}
use Rattle.trees.specs.Runs.{Accepted}
use Rattle.meaning.specs.Expressions.{Denotes}
use Rattle.expressions.specs.Nodes.{node_at}
use Rattle.expressions.specs.Unfolding.{expr_at}
use Rattle.expressions.specs.Soundness.{SoundNodes}
use Rattle.theory.specs.declared.NodeRow.{NodeRow}
use Rattle.theory.specs.RowLists.{final_target, final_states}
use Rattle.theory.specs.Acceptance.{Accepts}
use Rattle.theory.specs.Stages.{Stage, unfolded_rows, Made, bound_of}

-- a stop of a conversion, where these states have been taken out [1.6] to [1.8]
pub record PartlyConverted (held : Held) (Gone : ℕ → Type 0) (stage : Stage) : Type 0 where
  -- the list accepts the trees that the automaton accepts, and no other [1.6]
  pub accepts : (t : Tree) → Accepts (unfolded_rows stage) t ↔ Accepted held t
  -- no state that is gone is open in a row [1.7]
  pub not_open : (row : NodeRow) → Memᴰ row stage.rows → (q : ℕ) → Gone q → has (node_at stage.table row.node).opens q ≡ false
  -- each row goes to a state that is left, or to the added one [8.4] [8.13]
  pub aimed : (row : NodeRow) → Memᴰ row stage.rows → ((row.target < held.states) × (Gone row.target → ⊥)) ⊎ (row.target ≡ final_target)
  -- each row's node is in the table [8.3]
  pub within : (row : NodeRow) → Memᴰ row stage.rows → row.node < length stage.table
  -- there are no more rows than at the start [1.8]
  pub no_more_rows : length stage.rows ≤ length held.rules + length (final_states held)
  -- the table is sound [7.9]
  pub sound : SoundNodes stage.table
  -- and keeps the bound [8.29]
  pub few : length stage.table ≤ bound_of held

-- the end of a conversion [1.9]
pub record WhollyConverted (held : Held) (made : Made) : Type 0 where
  -- the answer denotes the trees that the automaton accepts, and no other [1.9]
  pub denotes : (t : Tree) → Denotes (expr_at made.table made.node) t ↔ Accepted held t
  -- the answer is in the table [8.20]
  pub within : made.node < length made.table
  -- the table is sound [7.9]
  pub sound : SoundNodes made.table
  -- and keeps the bound [8.29]
  pub few : length made.table ≤ bound_of held
