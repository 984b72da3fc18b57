-- The words that hold a conversion's table are a sound table, whatever words go on after it.
use Prim.Native.Nat.{ℕ, ◌<◌, ◌≤◌}
use native.Mathlib.Omega.{arith}
use mathlib.Core.List.{List, ◌++◌, Memᴰ}
use lib.ListN.{length, length-append}
use Rattle.automaton.specs.Held.{Held, Valid}
use Rattle.expressions.specs.Nodes.{Table}
use Rattle.expressions.specs.Words.{words_of}
use Rattle.expressions.specs.Soundness.{SoundNodes, Sound, most_nodes}
use Rattle.expressions.proofs.Words.{length-words, table-words}
use Rattle.theory.specs.declared.NodeRow.{NodeRow}
use Rattle.theory.specs.Stages.{Stage, Made}
use Rattle.theory.specs.Theorem.{PartlyConverted, WhollyConverted}
use Rattle.theory.proofs.Counting.Bound.{bound-file}

-- a sound table's words are a sound table
words-sound : (table : Table) (rest : List ℕ) (answer : ℕ) → SoundNodes table → length table ≤ most_nodes → answer < length table → Sound (words_of table ++ rest) (length table) answer
words-sound table rest answer s few h =
    record {
      some = omega arith;
      few = few;
      roomy = omega (arith, length-append (words_of table) rest, length-words table);
      within = h;
      kept = rw (table-words table rest) s;
    }

module _ (held : Held) (v : Valid held) (rest : List ℕ) where
  -- at every stop, with any row's node for the answer
  pub stage-words-sound : (Gone : ℕ → Type 0) (stage : Stage) → PartlyConverted held Gone stage → (row : NodeRow) → Memᴰ row stage.rows
      → Sound (words_of stage.table ++ rest) (length stage.table) row.node
  stage-words-sound Gone stage p row m = let f = p.few in words-sound stage.table rest row.node p.sound (omega (arith, bound-file held v)) (p.within row m)

  -- at the end, for the answer
  pub made-words-sound : (made : Made) → WhollyConverted held made → Sound (words_of made.table ++ rest) (length made.table) made.node
  made-words-sound made w = let f = w.few in words-sound made.table rest made.node w.sound (omega (arith, bound-file held v)) w.within
