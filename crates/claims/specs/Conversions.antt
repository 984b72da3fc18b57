-- The third demand [1.6 to 1.10]: what a conversion means at every stop and at the end, and the room that is never too little.
use Rattle.std.specs.Prelude.{ℕ, ◌+◌, ◌≤◌, ◌<◌, ◌≡◌, Bool, true, false, ◌↔◌, length, take}
use mathlib.Core.List.{List, map, Memᴰ}
use Rattle.sets.specs.Members.{has, size, state_width}
use Rattle.automaton.specs.Held.{Held}
use Rattle.automaton.specs.Checks.{verdict, holds}
use Rattle.trees.specs.declared.ReachedStates.{ReachedStates}
use Rattle.meaning.specs.Trees.{Tree}
use Rattle.trees.specs.Words.{IsTree}
use Rattle.trees.specs.Runs.{Accepted}
use Rattle.trees.specs.Promises.{RunPromise}
use Rattle.expressions.specs.declared.Measured.{Measured}
use Rattle.automaton.specs.declared.Extent.{Extent}
use Rattle.meaning.specs.Expressions.{Denotes}
use Rattle.expressions.specs.Nodes.{node_at}
use Rattle.expressions.specs.Words.{table_of}
use Rattle.expressions.specs.Unfolding.{expr_at}
use Rattle.expressions.specs.Answers.{SoundAnswer, Measures}
use Rattle.listing.specs.Answers.{Lists}
use Rattle.elimination.specs.declared.ListRow.{ListRow}
use Rattle.elimination.specs.declared.Partly.{Partly}
use Rattle.elimination.specs.declared.Wholly.{Wholly}
use Rattle.theory.specs.RowLists.{ExprRow, final_states}
use Rattle.theory.specs.Acceptance.{Accepts}
use Rattle.theory.specs.Stages.{start, bound_of}
use Rattle.elimination.specs.Answers.{whole_nodes, PartlyAnswered, WhollyAnswered}
use Rattle.front.specs.Answers.{most_made}

-- the rows that a partial conversion reports: as many places of its list as it says [8.22]
abbrev pub reported : Partly → List ListRow
reported r = take r.rows r.list

-- a reported row as what it means: the expression of its node in the words, and its target [7.14, 8.3]
abbrev pub row_in : List ℕ → ℕ → ListRow → ExprRow
row_in words count row = record { expr = expr_at (table_of words count) row.node; target = row.target }

-- what stands after the first k states [1.6 to 1.8]
pub record Stopped (held : Held) (k : ℕ) (words : List ℕ) (r : Partly) : Type 0 where
  -- the list accepts the trees that the automaton accepts, and no other [1.6]
  pub accepts : (t : Tree) → Accepts (map (row_in words r.nodes) (reported r)) t ↔ Accepted held t
  -- no state that has been taken out is open in a row [1.7]
  pub not_open : (row : ListRow) → Memᴰ row (reported r) → (q : ℕ) → q < k → has (node_at (table_of words r.nodes) row.node).opens q ≡ false
  -- nor is it the target of one [8.13]
  pub not_aimed : (row : ListRow) → Memᴰ row (reported r) → (k ≤ row.target)
  -- the waiting number of a row is the number of states that are open in it [8.23]
  pub waits : (row : ListRow) → Memᴰ row (reported r) → row.waits ≡ size state_width (node_at (table_of words r.nodes) row.node).opens
  -- the list is no longer than at the start [1.8]
  pub no_more_rows : r.rows ≤ length (start held).rows
  -- so that the places of the list hold them all [8.22]
  pub all_reported : length (reported r) ≡ r.rows
  -- each row's node stands in the words, in a sound table [7.9, 8.27]
  pub sound : (row : ListRow) → Memᴰ row (reported r) → (s : Bool) → SoundAnswer words r.nodes row.node s → s ≡ true

-- what stands at the end [1.9]
pub record Ended (held : Held) (words : List ℕ) (r : Wholly) : Type 0 where
  -- the answer denotes the trees that the automaton accepts, and no other [1.9]
  pub denotes : (t : Tree) → Denotes (expr_at (table_of words r.nodes) r.answer) t ↔ Accepted held t
  -- the check says yes of it, and neither measuring nor listing refuses it 8 [7.9]
  pub sound : (s : Bool) → SoundAnswer words r.nodes r.answer s → s ≡ true
  pub measured : (before after : List ℕ) (m : Measured) → Measures words r.nodes r.answer before after m → m.refusal.number ≡ 8 → ⊥
  pub listed : (before after : List ℕ) (l : Extent) → Lists words r.nodes r.answer before after l → l.refusal.number ≡ 8 → ⊥

pub record ConvertsFaithfully : Type 0 where
  -- at every stop [1.6 to 1.8]
  pub stopped : (file : List ℕ) (k : ℕ) (before after : List ℕ) (r : Partly) → PartlyAnswered file k before after r → r.refusal.number ≡ 0
      → (held : Held) → verdict file ≡ holds held → Stopped held k after r
  -- at the end [1.9]
  pub ended : (file before after : List ℕ) (r : Wholly) → WhollyAnswered file before after r → r.refusal.number ≡ 0
      → (held : Held) → verdict file ≡ holds held → Ended held after r
  -- the run and the expression agree on every draft [1.3, 1.9]
  pub agree : (file before after : List ℕ) (r : Wholly) → WhollyAnswered file before after r → r.refusal.number ≡ 0
      → (held : Held) → verdict file ≡ holds held → (words : List ℕ) (tree : Tree) → IsTree held words tree → (s : ReachedStates) → RunPromise file words s
      → (s.yes ≡ true) ↔ Denotes (expr_at (table_of after r.nodes) r.answer) tree
  -- at the start there are t rows of the file and f of final states, over 1 + n + t nodes [8.21]
  pub start_rows : (held : Held) → length (start held).rows ≡ length held.rules + length (final_states held)
  pub start_nodes : (file : List ℕ) (held : Held) → verdict file ≡ holds held → length (start held).table ≡ 1 + held.states + length held.rules
  -- f, which the bound goes by, is how many members the final set has [8.1]
  pub finals_counted : (file : List ℕ) (held : Held) → verdict file ≡ holds held → length (final_states held) ≡ size state_width held.finals
  -- room for as many nodes as the bound says is never too little, for the whole conversion or a part of it [1.10, 8.29]
  pub room : (file before after : List ℕ) (r : Wholly) → WhollyAnswered file before after r
      → (held : Held) → verdict file ≡ holds held → bound_of held ≤ whole_nodes before → r.refusal.number ≡ 0
  pub partly_room : (file : List ℕ) (k : ℕ) (before after : List ℕ) (r : Partly) → PartlyAnswered file k before after r
      → (held : Held) → verdict file ≡ holds held → k ≤ held.states → bound_of held ≤ whole_nodes before → r.refusal.number ≡ 0
  -- and the bound is never more than this [8.30]
  pub most : (file : List ℕ) (held : Held) → verdict file ≡ holds held → bound_of held ≤ most_made
  pub most_room : (file before after : List ℕ) (r : Wholly) → WhollyAnswered file before after r
      → (held : Held) → verdict file ≡ holds held → most_made ≤ whole_nodes before → r.refusal.number ≡ 0
  pub partly_most_room : (file : List ℕ) (k : ℕ) (before after : List ℕ) (r : Partly) → PartlyAnswered file k before after r
      → (held : Held) → verdict file ≡ holds held → k ≤ held.states → most_made ≤ whole_nodes before → r.refusal.number ≡ 0
