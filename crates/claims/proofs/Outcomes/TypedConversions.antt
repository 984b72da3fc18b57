-- Numbers fit their types: in the words that a conversion leaves and in what it returns.
use Prim.Native.Nat.{ℕ, ◌*◌, ◌≤◌, ◌<◌}
use native.Mathlib.Omega.{arith}
use mathlib.Core.Path.{◌≡◌}
use mathlib.Core.Logic.{◌⊎◌, inl, inr}
use mathlib.Core.List.{List, map, Memᴰ}
use lib.ListN.{length, length-replicate, length-map}
use Rattle.buffers.specs.Writing.{all_zero}
use Rattle.ground.proofs.Lists.{to-all}
use Rattle.ground.proofs.Places.{filled-length}
use Rattle.automaton.specs.declared.Refusal.{Refusal}
use Rattle.automaton.specs.Held.{Held, Valid}
use Rattle.expressions.specs.Nodes.{Table, node_at}
use Rattle.expressions.specs.Words.{node_width, words_of}
use Rattle.expressions.specs.Soundness.{SoundNodes, most_nodes}
use Rattle.expressions.proofs.Words.{length-words}
use Rattle.theory.specs.declared.NodeRow.{NodeRow}
use Rattle.theory.specs.RowLists.{list_places, final_target}
use Rattle.theory.specs.Stages.{stage_after, converted, waits_for}
use Rattle.theory.specs.Theorem.{PartlyConverted}
use Rattle.theory.proofs.Counting.Bound.{bound-file, finals-few}
use Rattle.theory.proofs.Theorem.{partly-ascending, wholly-ascending}
use Rattle.elimination.specs.Answers.{whole_nodes, written_to, unused_place, list_row, list_of_rows, refused_partly, partly_done, refused_whole, wholly_done}
use Rattle.front.specs.Answers.{most_made}
use Rattle.claims.specs.Types.{Byte, Word, Words, RefusalFits, PlaceFits, PartlyFits, WhollyFits}
use Rattle.claims.specs.Kept.{Stays}
use Rattle.claims.proofs.Outcomes.TypedValues.{all_replicate, all-filled, all-mapped, size_few}
use Rattle.claims.proofs.Outcomes.TypedTables.{sound-words}
use Rattle.claims.proofs.Outcomes.KeptTables.{stays-front}

-- ---- the words

pub written-stays : (before : List ℕ) (table : Table) → SoundNodes table → length table ≤ most_nodes → length table ≤ whole_nodes before → Stays Words before (written_to before table)
unfolding written_to whole_nodes
written-stays before table s few h = stays-front Word (words_of table) before (node_width * length table) (length-words table) (omega arith) (sound-words table s few)

pub zero-stays : (before : List ℕ) → Stays Words before (all_zero before)
zero-stays before = (length-replicate (length before) 0, λ _. all_replicate Word (length before) 0 (omega arith))

-- ---- a partial conversion

pub refused-part-fits : (given : Refusal) → RefusalFits given → PartlyFits (refused_partly given)
unfolding refused_partly
refused-part-fits given f =
    record {
      refusal = f;
      nodes = omega arith;
      rows = omega arith;
      list = all_replicate PlaceFits list_places unused_place (omega arith);
      list_places = length-replicate list_places unused_place;
    }

module _ (held : Held) (v : Valid held) (k : ℕ) (near : k ≤ held.states) where
  converted-part : PartlyConverted held (λ q. q < k) (stage_after k held)
  converted-part = partly-ascending held v k near

  few-made : length (stage_after k held).table ≤ most_made
  few-made = omega (arith, converted-part.few, bound-file held v)

  few-listed : length (stage_after k held).rows ≤ list_places
  few-listed = omega (arith, converted-part.no_more_rows, v.few_rules, finals-few held, v.few_states)

  row_fits : (row : NodeRow) → Memᴰ row (stage_after k held).rows → PlaceFits (list_row (stage_after k held).table row)
  unfolding list_row waits_for
  row_fits row m = (
    omega (arith, converted-part.within row m, few-made),
    go (converted-part.aimed row m),
    omega (arith, size_few (node_at (stage_after k held).table row.node).opens),
  )
    where
      go : ((row.target < held.states) × (row.target < k → ⊥)) ⊎ (row.target ≡ final_target) → Byte row.target
      go (inl x) = omega (arith, x.0, v.few_states)
      go (inr e) = omega arith

  -- its words, and what it returns
  pub part_stays : (before : List ℕ) → length (stage_after k held).table ≤ whole_nodes before → Stays Words before (written_to before (stage_after k held).table)
  part_stays before h = written-stays before (stage_after k held).table converted-part.sound (omega (arith, few-made)) h

  pub part-fits : PartlyFits (partly_done (stage_after k held))
  unfolding partly_done list_of_rows
  part-fits =
      let table = (stage_after k held).table in
      let rows = (stage_after k held).rows in
      record {
        refusal = omega arith;
        nodes = omega (arith, few-made);
        rows = omega (arith, few-listed);
        list = all-filled PlaceFits list_places unused_place (map (list_row table) rows) (omega arith) (all-mapped (λ row. Memᴰ row rows) PlaceFits (list_row table) row_fits rows (to-all (λ row. Memᴰ row rows) rows (λ row m. m)));
        list_places = filled-length list_places unused_place (map (list_row table) rows) (omega (arith, few-listed, length-map rows (list_row table)));
      }

-- ---- a full conversion

pub refused-whole-fits : (given : Refusal) → RefusalFits given → WhollyFits (refused_whole given)
unfolding refused_whole
refused-whole-fits given f = (f, omega arith, omega arith)

module _ (held : Held) (v : Valid held) where
  few-whole : length (converted held).table ≤ most_made
  few-whole = omega (arith, (wholly-ascending held v).few, bound-file held v)

  pub whole-stays : (before : List ℕ) → length (converted held).table ≤ whole_nodes before → Stays Words before (written_to before (converted held).table)
  whole-stays before h = written-stays before (converted held).table (wholly-ascending held v).sound (omega (arith, few-whole)) h

  pub whole-fits : WhollyFits (wholly_done (converted held))
  unfolding wholly_done
  whole-fits = (omega arith, omega (arith, few-whole), omega (arith, few-whole, (wholly-ascending held v).within))
