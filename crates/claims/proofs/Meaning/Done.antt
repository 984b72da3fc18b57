-- A conversion whose number is 0 was done: it was not asked for too many states, and there was room.
use Prim.Native.Nat.{ℕ, ◌<◌, ◌≤◌}
use native.Mathlib.Omega.{arith}
use native.Mathlib.Decide.{dec_lt}
use mathlib.Core.Path.{◌≡◌, ap}
use mathlib.Core.List.{List}
use lib.ListN.{length}
use Rattle.automaton.specs.Held.{Held}
use Rattle.automaton.specs.Checks.{holds, verdict}
use Rattle.elimination.specs.declared.Partly.{Partly}
use Rattle.elimination.specs.declared.Wholly.{Wholly}
use Rattle.theory.specs.Stages.{stage_after, converted}
use Rattle.elimination.specs.Answers.{whole_nodes, refused_partly, PartlyAnswered, refused_whole, WhollyAnswered}

-- ---- a full conversion

module _ (file before after : List ℕ) (r : Wholly) (x : WhollyAnswered file before after r) where
  pub whole_room : (held : Held) → verdict file ≡ holds held → r.refusal.number ≡ 0 → length (converted held).table ≤ whole_nodes before
  unfolding refused_whole
  whole_room held e z = go (dec_lt (whole_nodes before) (length (converted held).table))
    where
      go : Dec (whole_nodes before < length (converted held).table) → length (converted held).table ≤ whole_nodes before
      go (yes l) = absurd (omega (arith, ap (λ (a : Wholly). a.refusal.number) (x.short held e l).0))
      go (no l) = omega arith

-- ---- a partial conversion

module _ (file : List ℕ) (k : ℕ) (before after : List ℕ) (r : Partly) (x : PartlyAnswered file k before after r) where
  pub part-near : (held : Held) → verdict file ≡ holds held → r.refusal.number ≡ 0 → k ≤ held.states
  unfolding refused_partly
  part-near held e z = go (dec_lt held.states k)
    where
      go : Dec (held.states < k) → k ≤ held.states
      go (yes l) = absurd (omega (arith, ap (λ (a : Partly). a.refusal.number) (x.too_far held e l).0))
      go (no l) = omega arith

  pub part_room : (held : Held) → verdict file ≡ holds held → k ≤ held.states → r.refusal.number ≡ 0 → length (stage_after k held).table ≤ whole_nodes before
  unfolding refused_partly
  part_room held e h z = go (dec_lt (whole_nodes before) (length (stage_after k held).table))
    where
      go : Dec (whole_nodes before < length (stage_after k held).table) → length (stage_after k held).table ≤ whole_nodes before
      go (yes l) = absurd (omega (arith, ap (λ (a : Partly). a.refusal.number) (x.short held e h l).0))
      go (no l) = omega arith
