-- Room in the lent words, and the words that have a table.
use Prim.Native.Nat.{ℕ, ◌*◌, ◌≤◌, ◌<◌}
use native.Mathlib.Omega.{arith}
use mathlib.Core.Path.{◌≡◌, sym, ◌∙◌, ap}
use mathlib.Core.List.{List}
use lib.ListN.{length, drop, length-append, length-drop}
use Rattle.automaton.specs.declared.Refused.{Refused}
use Rattle.expressions.specs.Nodes.{Table, node_at}
use Rattle.expressions.specs.Words.{node_width, node_in, table_of, words_of}
use Rattle.expressions.proofs.Words.{length-words, table-words, node-whole, table_at}
use Rattle.theory.proofs.Nodes.Grows.{Grown, grown-longer}
use Rattle.elimination.specs.Answers.{written_to}
use Rattle.elimination.specs.Inside.{Ready, NoRoom}

-- room for so many nodes is room for fewer
pub ready-less : {words : List ℕ} {m n : ℕ} → Ready words n → m ≤ n → Ready words m
ready-less r h = let f = r.few in let g = r.roomy in record { few = omega arith; roomy = omega arith }

-- a table only grows: where there is no room for it, there is none for what comes of it
pub less-room : {before : List ℕ} {first longer : Table} {reason : Refused} → Grown first longer → NoRoom before first reason → NoRoom before longer reason
less-room g x = record { none = λ room. x.none (ready-less room (grown-longer g)); short = x.short }

-- ---- words that have a table

module _ (before : List ℕ) (table : Table) (after : List ℕ) (e : after ≡ written_to before table) where
  pub written-table : table_of after (length table) ≡ table
  unfolding written_to
  written-table = ap (λ (w : List ℕ). table_of w (length table)) e ∙ table-words table (drop (node_width * length table) before)

  written-whole : node_width * length table ≤ length after
  unfolding written_to
  written-whole = omega (arith, ap length e, length-append (words_of table) (drop (node_width * length table) before), length-words table)

  pub written-length : node_width * length table ≤ length before → length after ≡ length before
  unfolding written_to
  written-length h =
      omega (arith, ap length e, length-append (words_of table) (drop (node_width * length table) before), length-words table, length-drop (node_width * length table) before)

  -- a node of the table is read from the words
  pub written-node : (i : ℕ) → i < length table → node_in after i ≡ node_at table i
  written-node i h = node-whole after i (let w = written-whole in omega arith) ∙ sym (table_at after (length table) i h) ∙ ap (λ (t : Table). node_at t i) written-table
