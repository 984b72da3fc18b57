-- The meaning makes none of the slips: the claims of the expressions' own proofs, cited.
use Prim.Native.Nat.{ℕ}
use mathlib.Core.Path.{◌≡◌}
use mathlib.Core.Logic.{◌↔◌}
use Rattle.meaning.specs.Trees.{Tree, Forest, hole, node, []ᶠ, ◌∷ᶠ◌}
use Rattle.meaning.specs.Expressions.{Expr, emptyᴱ, catᴱ, Denotes}
use Rattle.meaning.proofs.Fillings.{Within, WithinAll}
use Rattle.meaning.proofs.Slips.{earlier_levels_kept, each_hole_apart, closed_with_empty, not_replaced_again, letters-apart, not-associative}
use Rattle.claims.specs.Slips.{Lacks, LackEach, NoSlip}

mutual
  lacks : (q : ℕ) (t : Tree) → Within (λ p. p ≡ q → ⊥) t → Lacks q t
  lacks q (hole p) w = w
  lacks q (node f ts) w = lack-each q ts w

  lack-each : (q : ℕ) (ts : Forest) → WithinAll (λ p. p ≡ q → ⊥) ts → LackEach q ts
  lack-each q []ᶠ w = tt
  lack-each q (t ∷ᶠ ts) w = (lacks q t w.0, lack-each q ts w.1)

mutual
  within : (q : ℕ) (t : Tree) → Lacks q t → Within (λ p. p ≡ q → ⊥) t
  within q (hole p) w = w
  within q (node f ts) w = within-each q ts w

  within-each : (q : ℕ) (ts : Forest) → LackEach q ts → WithinAll (λ p. p ≡ q → ⊥) ts
  within-each q []ᶠ w = tt
  within-each q (t ∷ᶠ ts) w = (within q t w.0, within-each q ts w.1)

empty-closed : (q : ℕ) (e : Expr) (t : Tree) → Denotes (catᴱ q e emptyᴱ) t ↔ (Denotes e t × Lacks q t)
empty-closed q e t =
    let c = closed_with_empty q e t in
    (λ x. ((c.0 x).0, lacks q t (c.0 x).1), λ x. c.1 (x.0, within q t x.1))

pub no_slip : NoSlip
no_slip =
    record {
      each_hole_apart = each_hole_apart;
      closed_with_empty = empty-closed;
      earlier_levels_kept = earlier_levels_kept;
      not_replaced_again = not_replaced_again;
      one_way = letters-apart;
      not_the_other = not-associative;
    }
