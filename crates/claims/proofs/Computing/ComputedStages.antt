-- Conversions, computed; and a small list with what it accepts.
use Prim.Native.Nat.{ℕ, zero, suc}
use native.Mathlib.Omega.{arith}
use mathlib.Core.Path.{◌≡◌, refl, ap, subst}
use mathlib.Core.List.Memᴰ
use mathlib.Core.List.{Memᴰ}
use Rattle.sets.specs.Members.{has, set_of, empty_set, one_set, union, without}
use Rattle.meaning.specs.Trees.{Tree, hole, []ᶠ}
use Rattle.meaning.specs.Fillings.{Family, Filled, at, under, none, both}
use Rattle.meaning.specs.Expressions.{holeᴱ, Denotes}
use Rattle.expressions.specs.Nodes.{label_of, children, child_count}
use Rattle.expressions.specs.Soundness.{cat_opens, opens_of, opens_in, completed}
use Rattle.meaning.proofs.Fillings.{filled-hole}
use Rattle.theory.specs.RowLists.{ExprRow, final_target, ascending, final_states}
use Rattle.ground.specs.Lists.{those}
use Rattle.theory.specs.Acceptance.{OpenOnly, fills, stays, AcceptsAt, Accepts}
use Rattle.theory.specs.Stages.{holes_table, rule_shape, rules_table, start_table, rule_rows, start, alt_made, cat_made, iter_made, join_made_from, join_made, looping_node, incoming_node, outgoing_node, stand_in_made, replaced_made, replaced_rows, remains_node, eliminated_stage, eliminated_stages, stage_after, join_stage, converted, node_bound}
use Rattle.elimination.specs.Answers.{whole_nodes}
use Rattle.claims.specs.Slips.{leaf, leafᴱ}
use Rattle.claims.specs.Computed.{waiting, StageCases}

-- ---- the list

leaf-filled : {σ : Family} {s t : Tree} → s ≡ leaf 0 → Filled σ s t → t ≡ leaf 0
leaf-filled e (at x) = let z : ◌≡◌ {A = ℕ} 0 1 = cc in absurd (omega arith)
leaf-filled e (under none) = e
leaf-filled e (under (both x xs)) = let z : ◌≡◌ {A = ℕ} 0 1 = cc in absurd (omega arith)

-- a row toward 0 is the leaf
toward-0 : (m : ℕ) (t : Tree) → AcceptsAt waiting m 0 t → t ≡ leaf 0
toward-0 zero t x = absurd x
toward-0 (suc m) t x = go x.0 x.1 x.2 x.3 x.4 x.5
  where
    go : (row : ExprRow) → Memᴰ row waiting → row.target ≡ 0 → (s : Tree) → Denotes row.expr s → Filled (OpenOnly row.expr (AcceptsAt waiting m)) s t → t ≡ leaf 0
    go row (Memᴰ.head e) j s d f = absurd (let z = ap (λ (r : ExprRow). r.target) e in omega arith)
    go row (Memᴰ.tail (Memᴰ.head e)) j s d f =
        let d' : Denotes (leafᴱ 0) s = subst (λ (r : ExprRow). Denotes r.expr s) e d in
        let e₁ = d'.1 in
        let e₂ = d'.2 in
        let l : s ≡ leaf 0 = cc in
        leaf-filled l f
    go row (Memᴰ.tail (Memᴰ.tail m)) j s d f = absurd (Memᴰ.not-nil m)

-- a row toward 16 waits for state 0
open-hole : (family : Family) (t : Tree) → OpenOnly (holeᴱ 0) family 0 t → family 0 t
open-hole family t (fills e x) = x
open-hole family t (stays e) = absurd (let z : ◌≡◌ {A = ℕ} 0 1 = cc in omega arith)

toward-16 : (m : ℕ) (t : Tree) → AcceptsAt waiting (suc m) final_target t → AcceptsAt waiting m 0 t
toward-16 m t x = go x.0 x.1 x.2 x.3 x.4 x.5
  where
    go : (row : ExprRow) → Memᴰ row waiting → row.target ≡ final_target → (s : Tree) → Denotes row.expr s → Filled (OpenOnly row.expr (AcceptsAt waiting m)) s t → AcceptsAt waiting m 0 t
    go row (Memᴰ.head e) j s d f =
        let d' : s ≡ hole 0 = subst (λ (r : ExprRow). Denotes r.expr s) e d in
        let f' : Filled (OpenOnly (holeᴱ 0) (AcceptsAt waiting m)) s t = subst (λ (r : ExprRow). Filled (OpenOnly r.expr (AcceptsAt waiting m)) s t) e f in
        open-hole (AcceptsAt waiting m) t (filled-hole (OpenOnly (holeᴱ 0) (AcceptsAt waiting m)) 0 s t d' f')
    go row (Memᴰ.tail (Memᴰ.head e)) j s d f = absurd (let z = ap (λ (r : ExprRow). r.target) e in omega arith)
    go row (Memᴰ.tail (Memᴰ.tail m)) j s d f = absurd (Memᴰ.not-nil m)

accepts_2 : AcceptsAt waiting 2 final_target (leaf 0)
accepts_2 = (record { expr = holeᴱ 0; target = 16 }, Memᴰ.head refl, refl, hole 0, refl, at (fills refl below))
  where
    below : AcceptsAt waiting 1 0 (leaf 0)
    below = (record { expr = leafᴱ 0; target = 0 }, Memᴰ.tail (Memᴰ.head refl), refl, leaf 0, ([]ᶠ, refl, refl), under none)

accepted : (t : Tree) → Accepts waiting t → t ≡ leaf 0
accepted t x = go x.0 x.1
  where
    go : (m : ℕ) → AcceptsAt waiting m final_target t → t ≡ leaf 0
    go zero y = absurd y
    go (suc m) y = toward-0 m t (toward-16 m t y)

pub stage_cases : StageCases
unfolding node_bound whole_nodes converted stage_after eliminated_stages eliminated_stage start start_table holes_table rules_table rule_shape rule_rows final_states those ascending join_stage join_made join_made_from alt_made cat_made iter_made stand_in_made replaced_rows replaced_made looping_node incoming_node outgoing_node remains_node completed opens_in opens_of cat_opens children child_count label_of has union without one_set empty_set set_of
stage_cases =
    record {
      p_start = (refl, refl);
      p_both = (refl, refl);
      alone_one = (refl, refl);
      two_leaves = (refl, refl);
      finals_ascend = refl;
      bound_of_most = (refl, refl);
      whole_nodes = (refl, refl);
      accepts_none_0 = λ r t x. x;
      accepts_none_1 = λ t x. toward-16 0 t x;
      accepts_2 = accepts_2;
      accepts_just = λ t. (accepted t, λ e. rw e (2, accepts_2));
    }
