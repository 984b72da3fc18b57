-- Acceptance by levels of a family of sets of trees, one set toward each target: it is the least family that is closed under the rows. And what a list accepts [8.31] is such.
use Prim.Native.Nat.{ℕ, zero, suc, ◌≤◌}
use native.Mathlib.Omega.{arith}
use mathlib.Core.Path.{◌≡◌}
use mathlib.Core.List.{List, Memᴰ}
use mathlib.Core.Logic.{◌↔◌}
use lib.Dec.{T}
use Rattle.meaning.specs.Trees.{Tree}
use Rattle.meaning.specs.Fillings.{Family, Filled}
use Rattle.meaning.specs.Expressions.{Expr, Denotes, is_open}
use Rattle.ground.proofs.Tests.{to-true, not_of_false}
use Rattle.meaning.proofs.Fillings.{filled_more, filled-more-in, filled-level}
use Rattle.meaning.proofs.Opens.{denoted-within}
use Rattle.theory.specs.RowLists.{ExprRow, final_target}
use Rattle.theory.specs.Acceptance.{OpenOnly, fills, stays, AcceptsAt, Accepts}

-- toward r at the level after m: a tree of `rows r`, at each of whose holes a tree stands that level m has toward that state
abbrev pub Toward : Family → ℕ → Family
Toward G zero r t = ⊥
Toward G (suc m) r t = (s : Tree) × G r s × Filled (Toward G m) s t

-- at some level
abbrev pub Reached : Family → Family
Reached G r t = (m : ℕ) × Toward G m r t

pub toward-up : (G : Family) (m n r : ℕ) (t : Tree) → m ≤ n → Toward G m r t → Toward G n r t
toward-up G zero n r t h x = absurd x
toward-up G (suc m) zero r t h x = absurd (omega arith)
toward-up G (suc m) (suc n) r t h x = (x.0, x.1, filled_more (λ p u y. toward-up G m n p u (omega arith) y) x.2)

-- it is closed under the rows
pub closed : {G : Family} {r : ℕ} {s t : Tree} → G r s → Filled (Reached G) s t → Reached G r t
closed {G} {s = s} g f = let k = filled-level (Toward G) (toward-up G) f in (suc k.0, (s, g, k.1))

-- and it lies in every family that is
pub least : (G P : Family) → ((r : ℕ) (s t : Tree) → G r s → Filled P s t → P r t) → (r : ℕ) (t : Tree) → Reached G r t → P r t
least G P h r t x = go x.0 r t x.1
  where
    go : (m r : ℕ) (t : Tree) → Toward G m r t → P r t
    go zero r t y = absurd y
    go (suc m) r t y = h r y.0 t y.1 (filled_more (go m) y.2)

-- ---- a list's rows as such a family

-- some row with target r denotes the tree
abbrev pub Denoted : List ExprRow → Family
Denoted rows r s = (row : ExprRow) × Memᴰ row rows × (row.target ≡ r) × Denotes row.expr s

-- a denoted tree has no hole that is not open, so that to fill the open holes is to fill them all
open_in : (e : Expr) (σ τ : Family) → ((p : ℕ) (u : Tree) → σ p u → τ p u) → (p : ℕ) (u : Tree) → T (is_open e p) → σ p u → OpenOnly e τ p u
open_in e σ τ h p u w x = fills (to-true (is_open e p) w) (h p u x)

open-out : (e : Expr) (σ τ : Family) → ((p : ℕ) (u : Tree) → σ p u → τ p u) → (p : ℕ) (u : Tree) → T (is_open e p) → OpenOnly e σ p u → τ p u
open-out e σ τ h p u w (fills _ x) = h p u x
open-out e σ τ h p u w (stays i) = absurd (not_of_false i w)

module _ (rows : List ExprRow) where
  of-accepts : (m r : ℕ) (t : Tree) → AcceptsAt rows m r t → Toward (Denoted rows) m r t
  of-accepts zero r t x = x
  of-accepts (suc m) r t x =
      (x.3, (x.0, x.1, x.2, x.4), filled-more-in (open-out x.0.expr (AcceptsAt rows m) (Toward (Denoted rows) m) (of-accepts m)) x.5 (denoted-within x.0.expr x.3 x.4))

  to-accepts : (m r : ℕ) (t : Tree) → Toward (Denoted rows) m r t → AcceptsAt rows m r t
  to-accepts zero r t x = x
  to-accepts (suc m) r t x =
      let d = x.1 in
      (d.0, d.1, d.2, x.0, d.3, filled-more-in (open_in d.0.expr (Toward (Denoted rows) m) (AcceptsAt rows m) (to-accepts m)) x.2 (denoted-within d.0.expr x.0 d.3))

  pub accepts : (t : Tree) → Accepts rows t ↔ Reached (Denoted rows) final_target t
  accepts t = (λ x. (x.0, of-accepts x.0 final_target t x.1), λ x. (x.0, to-accepts x.0 final_target t x.1))
