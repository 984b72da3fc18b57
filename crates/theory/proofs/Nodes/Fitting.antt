-- The shape of a row fits, and what it unfolds to; and the tests on a sound table's nodes are the tests on their expressions.
use Prim.Native.Nat.{ℕ, zero, suc, ◌<◌, ◌≤◌}
use native.Mathlib.Omega.{arith}
use mathlib.Core.Path.{◌≡◌, refl, sym, ◌∙◌, ap}
use mathlib.Core.Bool.{◌&&◌}
use mathlib.Core.List.{List, [], ◌∷◌, map}
use lib.ListN.{length, get_or, take, drop}
use lib.Dec.{eqb}
use Rattle.automaton.specs.Held.{Rule}
use Rattle.ground.specs.Lists.{All}
use Rattle.meaning.specs.Expressions.{Expr}
use Rattle.expressions.specs.Nodes.{Table, node_at, child_count, children, unused}
use Rattle.expressions.specs.Unfolding.{built_of, built, expr_at}
use Rattle.expressions.specs.Soundness.{Labelled, Fits, SoundNodes}
use Rattle.expressions.proofs.Soundness.{fits-at, expr-shape}
use Rattle.expressions.proofs.Making.{label-symbol, label-arity}
use Rattle.theory.proofs.Expressions.OnExpressions.{is_empty, is_hole}
use Rattle.theory.specs.Stages.{hole_at, rule_shape, is_empty_node, is_hole_node}

-- ---- the shape of a row

-- the children of a row's node are the holes of its sources
pub rule-children : (rule : Rule) → rule.symbol < 32 → length rule.sources ≤ 3 → children (rule_shape rule) ≡ map hole_at rule.sources
unfolding children child_count rule_shape
rule-children rule h few = rw (label-arity rule.symbol (length rule.sources) (omega arith)) (go rule.sources few)
  where
    go : (qs : List ℕ) → length qs ≤ 3 → take (length qs) (get_or (map hole_at qs) 0 0 ∷ get_or (map hole_at qs) 1 0 ∷ get_or (map hole_at qs) 2 0 ∷ []) ≡ map hole_at qs
    go [] l = refl
    go (p ∷ []) l = refl
    go (p ∷ q ∷ []) l = refl
    go (p ∷ q ∷ r ∷ []) l = refl
    go (p ∷ q ∷ r ∷ s ∷ qs) l = absurd (omega arith)

rule-unused : (rule : Rule) → rule.symbol < 32 → length rule.sources ≤ 3 → All (λ c. c ≡ 0) (unused (rule_shape rule))
unfolding unused child_count rule_shape
rule-unused rule h few = rw (label-arity rule.symbol (length rule.sources) (omega arith)) (go rule.sources few)
  where
    go : (qs : List ℕ) → length qs ≤ 3 → All (λ c. c ≡ 0) (drop (length qs) (get_or (map hole_at qs) 0 0 ∷ get_or (map hole_at qs) 1 0 ∷ get_or (map hole_at qs) 2 0 ∷ []))
    go [] l = (refl, (refl, (refl, tt)))
    go (p ∷ []) l = (refl, (refl, tt))
    go (p ∷ q ∷ []) l = (refl, tt)
    go (p ∷ q ∷ r ∷ []) l = tt
    go (p ∷ q ∷ r ∷ s ∷ qs) l = absurd (omega arith)

rule-labelled : (rule : Rule) → rule.symbol < 32 → length rule.sources ≤ 3 → Labelled (rule_shape rule).kind (rule_shape rule).label
unfolding rule_shape
rule-labelled rule h few = (
  rw (label-symbol rule.symbol (length rule.sources) (omega arith)) h,
  rw (label-arity rule.symbol (length rule.sources) (omega arith)) few,
)

pub rule_fits : (number : ℕ) (rule : Rule) → rule.symbol < 32 → length rule.sources ≤ 3 → All (λ c. c < number) (map hole_at rule.sources) → Fits number (rule_shape rule)
rule_fits number rule h few a =
    record {
      labelled = rule-labelled rule h few;
      earlier = rw (rule-children rule h few) a;
      zeros = rule-unused rule h few;
    }

-- ---- tests on nodes

empty-test : (kind label : ℕ) (es : List Expr) → Labelled kind label → eqb kind 0 ≡ is_empty (built_of kind label es)
unfolding built_of is_empty
empty-test zero label es l = refl
empty-test (suc zero) label es l = refl
empty-test (suc (suc zero)) label es l = refl
empty-test (suc (suc (suc zero))) label es l = refl
empty-test (suc (suc (suc (suc zero)))) label es l = refl
empty-test (suc (suc (suc (suc (suc zero))))) label es l = refl
empty-test (suc (suc (suc (suc (suc (suc k)))))) label es l = absurd l

hole-test : (q kind label : ℕ) (es : List Expr) → Labelled kind label → (eqb kind 1 && eqb q label) ≡ is_hole q (built_of kind label es)
unfolding built_of is_hole
hole-test q zero label es l = refl
hole-test q (suc zero) label es l = refl
hole-test q (suc (suc zero)) label es l = refl
hole-test q (suc (suc (suc zero))) label es l = refl
hole-test q (suc (suc (suc (suc zero)))) label es l = refl
hole-test q (suc (suc (suc (suc (suc zero))))) label es l = refl
hole-test q (suc (suc (suc (suc (suc (suc k)))))) label es l = absurd l

module _ (table : Table) (sound : SoundNodes table) (i : ℕ) (h : i < length table) where
  pub empty-node : is_empty_node table i ≡ is_empty (expr_at table i)
  unfolding built
  empty-node =
      let shape = (node_at table i).shape in
      empty-test shape.kind shape.label (map (expr_at table) (children shape)) (fits-at table sound i h).labelled
      ∙ ap is_empty (sym (expr-shape table sound i h))

  pub hole-node : (q : ℕ) → is_hole_node q table i ≡ is_hole q (expr_at table i)
  unfolding built
  hole-node q =
      let shape = (node_at table i).shape in
      hole-test q shape.kind shape.label (map (expr_at table) (children shape)) (fits-at table sound i h).labelled
      ∙ ap (is_hole q) (sym (expr-shape table sound i h))
