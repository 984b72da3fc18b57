-- What `convert_partly` and `convert` promise, of the file's bytes, the lent words before and after, and what is returned.
use Rattle.std.specs.Prelude.{ℕ, ◌*◌, ◌/◌, ◌≤◌, ◌<◌, ◌≡◌, List, ◌++◌, map, length, take, drop, replicate, Result, Ok, Err}
use Rattle.ground.specs.Lists.{filled}
use Rattle.buffers.specs.Writing.{all_zero}
use Rattle.automaton.specs.declared.Refusal.{Refusal}
use Rattle.automaton.specs.declared.Refused.{Refused}
use Rattle.automaton.specs.Held.{Held}
use Rattle.automaton.specs.Checks.{holds, fault, verdict}
use Rattle.automaton.specs.Refusals.{refusal, no_refusal, number_of, fault_refusal}
use Rattle.expressions.specs.Nodes.{Table}
use Rattle.expressions.specs.Words.{node_width, table_of, words_of}
use Rattle.theory.specs.declared.NodeRow.{NodeRow}
use Rattle.theory.specs.RowLists.{list_places}
use Rattle.theory.specs.Stages.{Stage, Made, waits_for, stage_after, converted}
use Rattle.theory.specs.Theorem.{PartlyConverted, WhollyConverted}
use Rattle.elimination.specs.declared.ListRow.{ListRow}
use Rattle.elimination.specs.declared.Stopped.{Stopped}
use Rattle.elimination.specs.declared.Converted.{Converted}
use Rattle.elimination.specs.declared.Partly.{Partly}
use Rattle.elimination.specs.declared.Wholly.{Wholly}

-- how many whole nodes fit the lent words [0.25]
unfoldable pub whole_nodes : List ℕ → ℕ
whole_nodes words = length words / node_width

-- the lent words with a table in them, from the first word on; words past it are what they were [8.27] [4.24]
unfoldable pub written_to : List ℕ → Table → List ℕ
written_to before table = words_of table ++ drop (node_width * length table) before

-- ---- a partial conversion

-- a place past the rows [8.22]
abbrev pub unused_place : ListRow
unused_place = record { node = 0; target = 0; waits = 0 }

-- a row with its waiting number [8.22] [8.23]
unfoldable pub list_row : Table → NodeRow → ListRow
list_row table row = record { node = row.node; target = row.target; waits = waits_for table row }

-- the list as it is returned [8.22]
unfoldable pub list_of_rows : Stage → List ListRow
list_of_rows stage = filled list_places unused_place (map (list_row stage.table) stage.rows)

-- what is returned with a refusal: every other number 0 [4.20]
unfoldable pub refused_partly : Refusal → Partly
refused_partly given = record { refusal = given; nodes = 0; rows = 0; list = replicate list_places unused_place }

-- the numbers and the list of a result of `convert_partly` [8.21, 12.13]
abbrev pub partly_answer : Result Stopped Refused → Partly
partly_answer (Ok stopped) = record { refusal = no_refusal; nodes = stopped.nodes; rows = stopped.rows; list = stopped.list }
partly_answer (Err reason) = refused_partly (refusal (number_of reason))

-- what is returned of a stage: how many nodes, how many rows, and the list [8.21]
unfoldable pub partly_done : Stage → Partly
partly_done stage = record { refusal = no_refusal; nodes = length stage.table; rows = length stage.rows; list = list_of_rows stage }

-- the stage that stands in the words and in the returned list [8.21] [8.27]
abbrev pub row_of_place : ListRow → NodeRow
row_of_place place = record { node = place.node; target = place.target }

unfoldable pub stage_answered : List ℕ → Partly → Stage
stage_answered words r = record { table = table_of words r.nodes; rows = map row_of_place (take r.rows r.list) }

-- the promise of `convert_partly` [8.21] to [8.28]
pub record PartlyAnswered (file : List ℕ) (k : ℕ) (before after : List ℕ) (r : Partly) : Type 0 where
  -- 1 to 5, by the file [4.1] to [4.5]
  pub faulty : (number offset : ℕ) → verdict file ≡ fault number offset → (r ≡ refused_partly (fault_refusal number offset)) × (after ≡ before)
  -- 9: more states are to be taken out than there are [8.24]
  pub too_far : (held : Held) → verdict file ≡ holds held → held.states < k → (r ≡ refused_partly (refusal 9)) × (after ≡ before)
  -- 6: fewer whole nodes fit than are made, and every word is 0 [8.28] [4.22]
  pub short : (held : Held) → verdict file ≡ holds held → k ≤ held.states → whole_nodes before < length (stage_after k held).table
      → (r ≡ refused_partly (refusal 6)) × (after ≡ all_zero before)
  -- done: this table and this list [8.21] [8.27]
  pub done : (held : Held) → verdict file ≡ holds held → k ≤ held.states → length (stage_after k held).table ≤ whole_nodes before
      → (r ≡ partly_done (stage_after k held)) × (after ≡ written_to before (stage_after k held).table)
  -- and what they mean [1.6] to [1.8]
  pub means : (held : Held) → verdict file ≡ holds held → k ≤ held.states → length (stage_after k held).table ≤ whole_nodes before
      → PartlyConverted held (λ q. q < k) (stage_answered after r)

-- ---- a full conversion

-- what is returned with a refusal: every other number 0 [4.20]
unfoldable pub refused_whole : Refusal → Wholly
refused_whole given = record { refusal = given; nodes = 0; answer = 0 }

-- the numbers of a result of `convert` [8.26, 12.13]
abbrev pub wholly_answer : Result Converted Refused → Wholly
wholly_answer (Ok made) = record { refusal = no_refusal; nodes = made.nodes; answer = made.answer }
wholly_answer (Err reason) = refused_whole (refusal (number_of reason))

-- what is returned: how many nodes, and the answer [8.26]
unfoldable pub wholly_done : Made → Wholly
wholly_done made = record { refusal = no_refusal; nodes = length made.table; answer = made.node }

-- the table that stands in the words, and the returned answer [8.26] [8.27]
unfoldable pub made_answered : List ℕ → Wholly → Made
made_answered words r = record { table = table_of words r.nodes; node = r.answer }

-- the promise of `convert` [8.26] to [8.28]
pub record WhollyAnswered (file : List ℕ) (before after : List ℕ) (r : Wholly) : Type 0 where
  -- 1 to 5, by the file [4.1] to [4.5]
  pub faulty : (number offset : ℕ) → verdict file ≡ fault number offset → (r ≡ refused_whole (fault_refusal number offset)) × (after ≡ before)
  -- 6: fewer whole nodes fit than are made, and every word is 0 [8.28] [4.22]
  pub short : (held : Held) → verdict file ≡ holds held → whole_nodes before < length (converted held).table → (r ≡ refused_whole (refusal 6)) × (after ≡ all_zero before)
  -- done: this table and this answer [8.26] [8.27]
  pub done : (held : Held) → verdict file ≡ holds held → length (converted held).table ≤ whole_nodes before
      → (r ≡ wholly_done (converted held)) × (after ≡ written_to before (converted held).table)
  -- and what they mean [1.9]
  pub means : (held : Held) → verdict file ≡ holds held → length (converted held).table ≤ whole_nodes before → WhollyConverted held (made_answered after r)
