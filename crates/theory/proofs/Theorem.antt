-- The theorem: for every automaton that a file can hold and every list of distinct states of it, in any order; the ascending order [8.5] is an instance.
use Prim.Native.Nat.{ℕ, ◌<◌, ◌≤◌}
use native.Mathlib.Omega.{arith}
use mathlib.Core.Path.{◌≡◌}
use mathlib.Core.List.{List, Memᴰ}
use mathlib.Core.Logic.{◌⊎◌, inl, inr}
use lib.ListN.{length}
use Rattle.automaton.specs.Held.{Held, Valid}
use Rattle.ground.specs.Lists.{All}
use Rattle.theory.specs.RowLists.{final_target, ascending}
use Rattle.theory.specs.declared.NodeRow.{NodeRow}
use Rattle.theory.specs.Stages.{start, eliminated_stages, stage_after, join_stage, converted}
use Rattle.theory.specs.Theorem.{PartlyConverted, WhollyConverted}
use Rattle.ground.proofs.Lists.{of-all}
use Rattle.theory.proofs.Lists.{Distinct, in-ascending, all-ascending, distinct-ascending}
use Rattle.theory.proofs.Nodes.Converted.{stage-accepts, stage-not-open, stage-aimed, stage-low, stage-no-more, stage-sound, joined-mirrors, joined-denotes}
use Rattle.theory.proofs.Counting.Bound.{stage-few, joined-few}

-- ---- any distinct states, in any order

module _ (held : Held) (v : Valid held) (gone : List ℕ) (distinct : Distinct gone) (states : All (λ q. q < held.states) gone) where
  pub partly : PartlyConverted held (λ q. Memᴰ q gone) (eliminated_stages gone (start held))
  partly =
      let stage = eliminated_stages gone (start held) in
      record {
        accepts = stage-accepts held v gone states;
        not_open = stage-not-open held v gone states;
        aimed = stage-aimed held v gone states;
        within = λ row m. of-all (λ row. row.node < length stage.table) stage.rows (stage-low held v gone states) m;
        no_more_rows = stage-no-more held v gone states;
        sound = stage-sound held v gone states;
        few = stage-few held v gone distinct states;
      }

  pub wholly : ((q : ℕ) → q < held.states → Memᴰ q gone) → WhollyConverted held (join_stage (eliminated_stages gone (start held)))
  wholly all-gone =
      let m = joined-mirrors held v gone states in
      record { denotes = joined-denotes held v gone states all-gone; within = m.low; sound = m.sound; few = joined-few held v gone distinct states all-gone }

-- ---- ascending order

module _ (held : Held) (v : Valid held) where
  pub partly-ascending : (k : ℕ) → k ≤ held.states → PartlyConverted held (λ q. q < k) (stage_after k held)
  unfolding stage_after
  partly-ascending k h =
      let p = partly held v (ascending k) (distinct-ascending k) (all-ascending k held.states h) in
      record {
        accepts = p.accepts;
        not_open = λ row m q l. p.not_open row m q (in-ascending k q l);
        aimed = λ row m. either row (p.aimed row m);
        within = p.within;
        no_more_rows = p.no_more_rows;
        sound = p.sound;
        few = p.few;
      }
    where
      either : (row : NodeRow) → ((row.target < held.states) × (Memᴰ row.target (ascending k) → ⊥)) ⊎ (row.target ≡ final_target)
          → ((row.target < held.states) × (row.target < k → ⊥)) ⊎ (row.target ≡ final_target)
      either row (inl x) = inl (x.0, λ l. x.1 (in-ascending k row.target l))
      either row (inr e) = inr e

  pub wholly-ascending : WhollyConverted held (converted held)
  unfolding converted stage_after
  wholly-ascending =
      wholly held v (ascending held.states) (distinct-ascending held.states) (all-ascending held.states held.states (omega arith)) (λ q l. in-ascending held.states q l)
