-- Each promise has one outcome; and where as many whole nodes fit as the bound says, it is never a refusal 6.
use Prim.Native.Nat.{ℕ, ◌*◌, ◌<◌, ◌≤◌}
use native.Mathlib.Omega.{arith}
use native.Mathlib.Decide.{dec_lt}
use mathlib.Core.Path.{◌≡◌, refl, sym, ap, subst}
use mathlib.Core.List.{List}
use lib.ListN.{length, drop}
use Rattle.automaton.specs.Held.{Held}
use Rattle.automaton.specs.Checks.{Verdict, holds, fault, verdict}
use Rattle.ground.proofs.Deciding.{alike}
use Rattle.automaton.proofs.Files.Pair.{verdict-valid}
use Rattle.expressions.specs.Soundness.{Sound}
use Rattle.expressions.specs.Words.{node_width}
use Rattle.elimination.specs.declared.Partly.{Partly}
use Rattle.elimination.specs.declared.Wholly.{Wholly}
use Rattle.theory.specs.Stages.{stage_after, converted, bound_of}
use Rattle.elimination.specs.Answers.{whole_nodes, written_to, partly_done, PartlyAnswered, wholly_done, WhollyAnswered}
use Rattle.theory.proofs.Theorem.{partly-ascending, wholly-ascending}
use Rattle.elimination.proofs.OnWords.{made-words-sound}

-- ---- a partial conversion

module _ (file : List ℕ) (k : ℕ) (before : List ℕ) where
  pub partly-once : (a b : List ℕ) (r s : Partly) → PartlyAnswered file k before a r → PartlyAnswered file k before b s → (r ≡ s) × (a ≡ b)
  partly-once a b r s x y = go (verdict file) refl
    where
      room : (held : Held) → verdict file ≡ holds held → k ≤ held.states → Dec (whole_nodes before < length (stage_after k held).table) → (r ≡ s) × (a ≡ b)
      room held e h (yes l) = alike (x.short held e h l) (y.short held e h l)
      room held e h (no l) = let m : length (stage_after k held).table ≤ whole_nodes before = omega arith in alike (x.done held e h m) (y.done held e h m)

      far : (held : Held) → verdict file ≡ holds held → Dec (held.states < k) → (r ≡ s) × (a ≡ b)
      far held e (yes h) = alike (x.too_far held e h) (y.too_far held e h)
      far held e (no h) = room held e (omega arith) (dec_lt (whole_nodes before) (length (stage_after k held).table))

      go : (v : Verdict) → verdict file ≡ v → (r ≡ s) × (a ≡ b)
      go (holds held) e = far held e (dec_lt held.states k)
      go (fault number offset) e = alike (x.faulty number offset e) (y.faulty number offset e)

  -- where as many whole nodes fit as the bound says, the conversion is done
  pub partly-fits : (after : List ℕ) (r : Partly) → PartlyAnswered file k before after r → (held : Held) → verdict file ≡ holds held → k ≤ held.states → bound_of held ≤ whole_nodes before → r.refusal.number ≡ 0
  unfolding partly_done
  partly-fits after r x held e h room =
      let few = (partly-ascending held (verdict-valid file held e) k h).few in
      ap (λ (a : Partly). a.refusal.number) (x.done held e h (omega arith)).0

-- ---- a full conversion

module _ (file before : List ℕ) where
  pub wholly-once : (a b : List ℕ) (r s : Wholly) → WhollyAnswered file before a r → WhollyAnswered file before b s → (r ≡ s) × (a ≡ b)
  wholly-once a b r s x y = go (verdict file) refl
    where
      room : (held : Held) → verdict file ≡ holds held → Dec (whole_nodes before < length (converted held).table) → (r ≡ s) × (a ≡ b)
      room held e (yes l) = alike (x.short held e l) (y.short held e l)
      room held e (no l) = let m : length (converted held).table ≤ whole_nodes before = omega arith in alike (x.done held e m) (y.done held e m)

      go : (v : Verdict) → verdict file ≡ v → (r ≡ s) × (a ≡ b)
      go (holds held) e = room held e (dec_lt (whole_nodes before) (length (converted held).table))
      go (fault number offset) e = alike (x.faulty number offset e) (y.faulty number offset e)

  module _ (after : List ℕ) (r : Wholly) (x : WhollyAnswered file before after r) (held : Held) (e : verdict file ≡ holds held) where
    pub wholly-fits : bound_of held ≤ whole_nodes before → r.refusal.number ≡ 0
    unfolding wholly_done
    wholly-fits room =
        let few = (wholly-ascending held (verdict-valid file held e)).few in
        ap (λ (a : Wholly). a.refusal.number) (x.done held e (omega arith)).0

    -- the words are a sound table for the answer
    pub wholly-sound : length (converted held).table ≤ whole_nodes before → Sound after r.nodes r.answer
    unfolding wholly_done written_to
    wholly-sound l =
        let d = x.done held e l in
        let v = verdict-valid file held e in
        subst (λ (w : List ℕ). Sound w r.nodes r.answer) (sym d.1)
        (subst (λ (a : Wholly). Sound (written_to before (converted held).table) a.nodes a.answer) (sym d.0)
        (made-words-sound held v (drop (node_width * length (converted held).table) before) (converted held) (wholly-ascending held v)))
