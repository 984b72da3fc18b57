-- Some states of an automaton gone, on node numbers: the table is sound, the list accepts what the automaton accepts, and no state that is gone is open; and when all are, the joined answer denotes it.
use Prim.Native.Nat.{ℕ, ◌+◌, ◌<◌, ◌≤◌}
use native.Mathlib.Omega.{arith}
use mathlib.Core.Path.{◌≡◌, ◌∙◌, ap}
use mathlib.Core.Bool.{false}
use mathlib.Core.List.Memᴰ
use mathlib.Core.List.{List, map, Memᴰ}
use mathlib.Core.Logic.{◌⊎◌, inl, inr, ◌↔◌}
use lib.ListN.{length, length-append, length-map}
use Rattle.sets.specs.Members.{has}
use Rattle.automaton.specs.Held.{Held, Valid}
use Rattle.ground.specs.Lists.{All}
use Rattle.meaning.specs.Trees.{Tree}
use Rattle.trees.specs.Runs.{Accepted}
use Rattle.meaning.specs.Expressions.{Denotes}
use Rattle.expressions.specs.Nodes.{node_at}
use Rattle.expressions.specs.Unfolding.{expr_at}
use Rattle.expressions.specs.Soundness.{SoundNodes}
use Rattle.expressions.proofs.OpenSets.{open_of}
use Rattle.theory.specs.RowLists.{final_target, final_states}
use Rattle.theory.proofs.Expressions.OnExpressions.{rule_row, final_row, start_rows, eliminated_all, answer_of}
use Rattle.theory.specs.Acceptance.{Accepts}
use Rattle.theory.specs.declared.NodeRow.{NodeRow}
use Rattle.theory.specs.Stages.{unfolded_row, unfolded_rows, start, eliminated_stages, join_stage}
use Rattle.ground.proofs.Lists.{of-all}
use Rattle.theory.proofs.Expressions.Whole.{list-accepts, rows_left, gone-not-open, no_more_rows, answer-denotes}
use Rattle.theory.proofs.Nodes.Mirror.{Mirrors, Begins, begins-grown}
use Rattle.theory.proofs.Nodes.MirrorRows.{LowRows, MirrorsRows, steps-mirror, join_stage-mirrors}
use Rattle.theory.proofs.Nodes.StartTable.{start-mirrors, start-begins}

pub start-count : (held : Held) → length (start_rows held) ≡ length held.rules + length (final_states held)
unfolding start_rows
start-count held =
    length-append (map rule_row held.rules) (map final_row (final_states held))
    ∙ rw (length-map held.rules rule_row, length-map (final_states held) final_row)

-- ---- some states gone, in any order

module _ (held : Held) (v : Valid held) (gone : List ℕ) (states : All (λ q. q < held.states) gone) where
  pub stage-mirrors : MirrorsRows (start held).table (eliminated_stages gone (start held)) (eliminated_all gone (start_rows held))
  stage-mirrors =
      let s = start-mirrors held v in
      let r = steps-mirror held.states gone (start held) v.few_states states (start-begins held v) s.sound s.low in
      record { grown = r.grown; sound = r.sound; low = r.low; is = r.is ∙ ap (eliminated_all gone) s.is }

  pub stage-begins : Begins held.states (eliminated_stages gone (start held)).table
  stage-begins = begins-grown stage-mirrors.grown (start-begins held v)

  -- the rows unfold to the rows on expressions
  pub stage-rows : unfolded_rows (eliminated_stages gone (start held)) ≡ eliminated_all gone (start_rows held)
  unfolding unfolded_rows
  stage-rows = stage-mirrors.is

  pub stage-sound : SoundNodes (eliminated_stages gone (start held)).table
  stage-sound = stage-mirrors.sound

  pub stage-low : LowRows (eliminated_stages gone (start held)).table (eliminated_stages gone (start held)).rows
  stage-low = stage-mirrors.low

  pub stage-accepts : (t : Tree) → Accepts (unfolded_rows (eliminated_stages gone (start held))) t ↔ Accepted held t
  stage-accepts t = rw stage-rows (list-accepts held v gone states t)

  -- no state that is gone is in the open set of a row's node
  pub stage-not-open : (row : NodeRow) → Memᴰ row (eliminated_stages gone (start held)).rows → (q : ℕ) → Memᴰ q gone
      → has (node_at (eliminated_stages gone (start held)).table row.node).opens q ≡ false
  unfolding unfolded_rows
  stage-not-open row m q g =
      let table = (eliminated_stages gone (start held)).table in
      let rows = (eliminated_stages gone (start held)).rows in
      (open_of table stage-sound row.node (of-all (λ row. row.node < length table) rows stage-low m)).same q
      ∙ gone-not-open held v gone states (unfolded_row table row) (rw (← stage-rows) (Memᴰ.map (unfolded_row table) m)) q g

  -- each row goes to a state that is left, or to 16
  pub stage-aimed : (row : NodeRow) → Memᴰ row (eliminated_stages gone (start held)).rows
      → ((row.target < held.states) × (Memᴰ row.target gone → ⊥)) ⊎ (row.target ≡ final_target)
  stage-aimed row m =
      let table = (eliminated_stages gone (start held)).table in
      let k = (rows_left held v gone states (unfolded_row table row) (rw (← stage-mirrors.is) (Memᴰ.map (unfolded_row table) m))).aimed in
      either k.0 k.1
    where
      either : (row.target < held.states) ⊎ (row.target ≡ final_target) → (Memᴰ row.target gone → ⊥)
          → ((row.target < held.states) × (Memᴰ row.target gone → ⊥)) ⊎ (row.target ≡ final_target)
      either (inl h) n = inl (h, n)
      either (inr e) n = inr e

  pub stage-no-more : length (eliminated_stages gone (start held)).rows ≤ length held.rules + length (final_states held)
  stage-no-more =
      let stage = eliminated_stages gone (start held) in
      omega (arith, length-map stage.rows (unfolded_row stage.table), ap length stage-mirrors.is, no_more_rows held v gone states, start-count held)

  -- ---- and joined

  pub joined-mirrors : Mirrors (eliminated_stages gone (start held)).table (join_stage (eliminated_stages gone (start held))) (answer_of (eliminated_all gone (start_rows held)))
  joined-mirrors = rw (← stage-mirrors.is) (join_stage-mirrors held.states (eliminated_stages gone (start held)) stage-begins stage-sound stage-low)

  pub joined-denotes : ((q : ℕ) → q < held.states → Memᴰ q gone) → (t : Tree)
      → Denotes (expr_at (join_stage (eliminated_stages gone (start held))).table (join_stage (eliminated_stages gone (start held))).node) t ↔ Accepted held t
  joined-denotes all-gone t = rw joined-mirrors.is (answer-denotes held v gone states all-gone t)
