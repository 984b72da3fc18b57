-- The states one after the other.
use Prim.Native.Nat.{ℕ, zero, suc, ◌+◌, ◌-◌, ◌<◌, ◌≤◌}
use native.Mathlib.Omega.{arith}
use native.Mathlib.Numerals.{add-one}
use Rattle.std.proofs.Common.{add-zero}
use mathlib.Core.Path.{◌≡◌, sym, subst}
use mathlib.Core.List.{List}
use Rattle.std.specs.Prelude.{Ok, Err}
use Rattle.automaton.specs.declared.Refused.{Refused}
use Rattle.sets.specs.Members.{state_width}
use Rattle.theory.specs.RowLists.{ascending}
use Rattle.theory.specs.Stages.{Stage, hole_at, eliminated_stage, eliminated_stages}
use Rattle.theory.proofs.Nodes.Grows.{Grown, grown-none, grown-then, grown-longer, step-grows, stages-grow}
use Rattle.theory.proofs.Nodes.Turns.{stages-next}
use Rattle.elimination.specs.declared.rows.Staged.{Staged}
use Rattle.elimination.specs.Inside.{NoRoom, HasStage, LowRows, NodeAndStage, StagesOn}
use Rattle.elimination.proofs.Room.{less-room}
use Rattle.elimination.proofs.OneState.{eliminated-low}

-- the stage after so many states
abbrev after : ℕ → Stage → Stage
after q stage = eliminated_stages (ascending q) stage

after_one : (q : ℕ) (stage : Stage) → eliminated_stage q (after q stage) ≡ after (q + 1) stage
unfolding ascending
after_one q stage = sym (rw (add-one q) (stages-next (ascending q) q stage))

-- more states taken out, and the table has grown
later-grows : (d q : ℕ) (stage : Stage) → Grown (after q stage).table (after (q + d) stage).table
later-grows zero q stage = rw (add-zero q) (grown-none (after q stage).table)
later-grows (suc d) q stage =
    let e : q + suc d ≡ (q + d) + 1 = omega arith in
    rw e (grown-then (later-grows d q stage) (subst (λ (t : Stage). Grown (after (q + d) stage).table t.table) (after_one (q + d) stage) (step-grows (q + d) (after (q + d) stage))))

pub record StateLoop (k : ℕ) (first : List ℕ) (begun : Staged) (words : List ℕ) (staged : Staged) (q : ℕ) : Type 0 where
  pub low : (stage : Stage) → NodeAndStage k stage → LowRows (after q stage).rows (after q stage).table
  pub goes : (before : List ℕ) (stage : Stage) → HasStage before stage first begun → NodeAndStage k stage → HasStage before (after q stage) words staged

module _ (k : ℕ) (few : k ≤ state_width) (first : List ℕ) (begun : Staged) where
  pub states-start : StateLoop k first begun first begun 0
  unfolding ascending eliminated_stages
  states-start = record { low = λ stage s. s.1; goes = λ before stage g s. g }

  module _ (words : List ℕ) (staged : Staged) (q : ℕ) (l : StateLoop k first begun words staged q) where
    pub states-end : q ≡ k → StagesOn (NodeAndStage k) (eliminated_stages (ascending k)) first begun words (Ok staged)
    states-end e before stage g s = subst (λ (n : ℕ). HasStage before (after n stage) words staged) e (l.goes before stage g s)

    module _ (h : q < k) (next : List ℕ) where
      suits : (stage : Stage) → NodeAndStage k stage → NodeAndStage (hole_at q) (after q stage)
      suits stage s = let a = s.0 in let b = grown-longer (stages-grow (ascending q) stage) in (omega arith, l.low stage s)

      pub states-next : (r : Staged) → StagesOn (NodeAndStage (hole_at q)) (eliminated_stage q) words staged next (Ok r)
          → StateLoop k first begun next r (q + 1)
      states-next r x =
          record {
            low = λ stage s. subst (λ (t : Stage). LowRows t.rows t.table) (after_one q stage) (eliminated-low q (omega arith) (after q stage) (suits stage s));
            goes = λ before stage g s. subst (λ (t : Stage). HasStage before t next r) (after_one q stage) (x before (after q stage) (l.goes before stage g s) (suits stage s));
          }

      pub states-full : (reason : Refused) → StagesOn (NodeAndStage (hole_at q)) (eliminated_stage q) words staged next (Err reason)
          → StagesOn (NodeAndStage k) (eliminated_stages (ascending k)) first begun next (Err reason)
      states-full reason x before stage g s =
          let e : q + 1 + (k - (q + 1)) ≡ k = omega arith in
          less-room (subst (λ (n : ℕ). Grown (after (q + 1) stage).table (after n stage).table) e (later-grows (k - (q + 1)) (q + 1) stage))
          (subst (λ (t : Stage). NoRoom before t.table reason) (after_one q stage) (x before (after q stage) (l.goes before stage g s) (suits stage s)))
