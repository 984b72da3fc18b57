-- The kinds by their numbers: how many children those of a range have and what their open sets are, and what no kind has the number of.
use Prim.Native.Nat.{ℕ, zero, suc, ◌-◌, ◌<◌}
use native.Mathlib.Omega.{arith}
use mathlib.Core.Path.{◌≡◌, refl, ap}
use mathlib.Core.List.{List}
use Rattle.sets.specs.Members.{empty_set, state_width}
use Rattle.expressions.specs.Nodes.{otherᴷ, kind_of, child_count}
use Rattle.expressions.specs.Soundness.{Labelled, union_all, opens_of}

-- a number over 5 stands for no kind
pub other-kind : (kind : ℕ) → 5 < kind → kind_of kind ≡ otherᴷ
other-kind kind h = let e : kind ≡ suc (suc (suc (suc (suc (suc (kind - 6)))))) = omega arith in ap kind_of e

-- such a number is that of no label
pub no_kind : (kind label : ℕ) → 5 < kind → Labelled kind label → ⊥
no_kind kind label h l = rw (other-kind kind h) at l

-- a node of it has no children
pub other-count : (kind label : ℕ) → 5 < kind → child_count kind label ≡ 0
unfolding child_count
other-count kind label h = rw (other-kind kind h)

-- nor has one of the empty kind or of a hole
pub none-count : (kind label : ℕ) → kind < 2 → child_count kind label ≡ 0
unfolding child_count
none-count zero label h = refl
none-count (suc zero) label h = refl
none-count (suc (suc kind)) label h = absurd (omega arith)

-- an alternation and a concatenation have two
pub two-count : (kind label : ℕ) → 2 < kind → kind < 5 → child_count kind label ≡ 2
unfolding child_count
two-count zero label l h = absurd (omega arith)
two-count (suc zero) label l h = absurd (omega arith)
two-count (suc (suc zero)) label l h = absurd (omega arith)
two-count (suc (suc (suc zero))) label l h = refl
two-count (suc (suc (suc (suc zero)))) label l h = refl
two-count (suc (suc (suc (suc (suc kind))))) label l h = absurd (omega arith)

-- what the code needs of these where one arm stands for several kinds
pub ruleset counts = (none-count, two-count, other-count)

-- the open set of what has none of its own: the empty kind, and a number over 5
pub none-opens : (kind label : ℕ) (sets : List ℕ) → (0 < kind → 5 < kind) → opens_of kind label sets ≡ empty_set state_width
unfolding opens_of
none-opens zero label sets h = refl
none-opens (suc kind) label sets h = rw (other-kind (suc kind) (h (omega arith)))

-- of the latter alone
pub other-opens : (kind label : ℕ) (sets : List ℕ) → 5 < kind → opens_of kind label sets ≡ empty_set state_width
other-opens kind label sets h = none-opens kind label sets (λ _. h)

-- and of a symbol and an alternation
pub joined-opens : (kind label : ℕ) (sets : List ℕ) → 1 < kind → kind < 4 → opens_of kind label sets ≡ union_all sets
unfolding opens_of
joined-opens zero label sets l h = absurd (omega arith)
joined-opens (suc zero) label sets l h = absurd (omega arith)
joined-opens (suc (suc zero)) label sets l h = refl
joined-opens (suc (suc (suc zero))) label sets l h = refl
joined-opens (suc (suc (suc (suc kind)))) label sets l h = absurd (omega arith)
