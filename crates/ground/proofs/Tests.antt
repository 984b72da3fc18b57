-- Tests: the few laws of `T` that the laws of expressions use.
use Prim.Native.Nat.{ℕ}
use mathlib.Core.Path.{◌≡◌, refl}
use mathlib.Core.Bool.{Bool, true, false, not, ◌&&◌, ◌||◌}
use mathlib.Core.Logic.{◌⊎◌, inl, inr}
use lib.Dec.{T, eqb, eqb_refl}
use borrow.Author.Tests.{ne_eqb}

pub or_left : (a b : Bool) → T a → T (a || b)
or_left true true t = tt
or_left true false t = tt
or_left false b t = absurd t

pub or_right : (a b : Bool) → T b → T (a || b)
or_right true true t = tt
or_right false true t = tt
or_right a false t = absurd t

pub or_cases : (a b : Bool) → T (a || b) → T a ⊎ T b
or_cases true b t = inl tt
or_cases false true t = inr tt
or_cases false false t = absurd t

pub and_both : (a b : Bool) → T a → T b → T (a && b)
and_both true true s t = tt
and_both true false s t = t
and_both false b s t = absurd s

pub and_cases : (a b : Bool) → T (a && b) → T a × T b
and_cases true true t = (tt, tt)
and_cases true false t = absurd t
and_cases false true t = absurd t
and_cases false false t = absurd t

pub of-true : {b : Bool} → b ≡ true → T b
of-true e = rw e tt

pub to-true : (b : Bool) → T b → b ≡ true
to-true true t = refl
to-true false t = absurd t

pub not_of_false : {b : Bool} → b ≡ false → T b → ⊥
not_of_false e t = rw e at t

pub to-false : (b : Bool) → (T b → ⊥) → b ≡ false
to-false true h = absurd (h tt)
to-false false h = refl

pub eq_test : (p q : ℕ) → p ≡ q → T (eqb p q)
eq_test p q e = rw e (eqb_refl q)

pub ne-not : (p q : ℕ) → (p ≡ q → ⊥) → T (not (eqb p q))
ne-not p q n = rw (ne_eqb p q n) tt
