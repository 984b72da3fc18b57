-- The steps on node numbers mirror the steps on expressions, and keep the table sound.
use Prim.Native.Nat.{ℕ, ◌<◌, ◌≤◌}
use native.Mathlib.Omega.{arith}
use mathlib.Core.Path.{◌≡◌, refl, ◌∙◌, ap₂, subst}
use mathlib.Core.Bool.{Bool, true, false, cond}
use mathlib.Core.List.{List, [], ◌∷◌, map}
use lib.ListN.{length, length-append}
use Rattle.ground.specs.Lists.{All}
use Rattle.meaning.specs.Expressions.{Expr, emptyᴱ, holeᴱ, altᴱ, catᴱ, iterᴱ}
use Rattle.expressions.specs.declared.Shape.{Shape}
use Rattle.expressions.specs.Nodes.{Table, alt_shape, cat_shape, iter_shape}
use Rattle.expressions.specs.Unfolding.{built, expr_at}
use Rattle.expressions.specs.Soundness.{Fits, completed, SoundNodes}
use Rattle.ground.proofs.Lists.{all_map}
use Rattle.expressions.proofs.Unfolding.{built-alt, built-cat, built-iter}
use Rattle.expressions.proofs.Soundness.{sound-made, expr-made}
use Rattle.theory.proofs.Expressions.OnExpressions.{is_empty, is_hole, make_alt, make_cat, make_iter, joined_from, joined}
use Rattle.theory.specs.Stages.{hole_at, Made, already, added, alt_made, cat_made, iter_made, join_made_from, join_made}
use Rattle.theory.proofs.Nodes.Grows.{Grown, grown-none, grown-then, grown-longer, grown-expr, with-grows}
use Rattle.theory.proofs.Nodes.Fitting.{empty-node, hole-node}
use Rattle.expressions.proofs.Making.{alt-fits, cat-fits, iter-fits}

-- ---- a node made

-- the made node stands in a sound table that goes on from the old one, and unfolds to this expression
pub record Mirrors (old : Table) (made : Made) (e : Expr) : Type 0 where
  pub grown : Grown old made.table
  pub sound : SoundNodes made.table
  pub low : made.node < length made.table
  pub is : expr_at made.table made.node ≡ e

pub already-mirrors : (table : Table) (i : ℕ) → SoundNodes table → i < length table → Mirrors table (already table i) (expr_at table i)
already-mirrors table i s h = record { grown = grown-none table; sound = s; low = h; is = refl }

pub added-mirrors : (table : Table) (shape : Shape) → SoundNodes table → Fits (length table) shape → Mirrors table (added table shape) (built (expr_at table) shape)
added-mirrors table shape s f =
    record {
      grown = with-grows table shape;
      sound = sound-made table shape s f;
      low = omega (arith, length-append table (completed table shape ∷ []));
      is = expr-made table shape;
    }

module _ (table : Table) (s : SoundNodes table) where
  pub alt-mirrors : (a b : ℕ) → a < length table → b < length table → Mirrors table (alt_made table a b) (make_alt (expr_at table a) (expr_at table b))
  unfolding alt_made make_alt
  alt-mirrors a b ha hb = rw (empty-node table s a ha, empty-node table s b hb) (go (is_empty (expr_at table a)) (is_empty (expr_at table b)))
    where
      new : Mirrors table (added table (alt_shape a b)) (altᴱ (expr_at table a) (expr_at table b))
      new = rw (← (built-alt (expr_at table) a b)) (added-mirrors table (alt_shape a b) s (alt-fits (length table) a b ha hb))

      go : (c d : Bool) → Mirrors table (cond c (already table b) (cond d (already table a) (added table (alt_shape a b)))) (cond c (expr_at table b) (cond d (expr_at table a) (altᴱ (expr_at table a) (expr_at table b))))
      go true d = already-mirrors table b s hb
      go false true = already-mirrors table a s ha
      go false false = new

  pub cat-mirrors : (q a b : ℕ) → q < 16 → a < length table → b < length table → Mirrors table (cat_made q table a b) (make_cat q (expr_at table a) (expr_at table b))
  unfolding cat_made make_cat
  cat-mirrors q a b hq ha hb = rw (hole-node table s a ha q) (go (is_hole q (expr_at table a)))
    where
      new : Mirrors table (added table (cat_shape q a b)) (catᴱ q (expr_at table a) (expr_at table b))
      new = rw (← (built-cat (expr_at table) q a b)) (added-mirrors table (cat_shape q a b) s (cat-fits (length table) q a b hq ha hb))

      go : (c : Bool) → Mirrors table (cond c (already table b) (added table (cat_shape q a b))) (cond c (expr_at table b) (catᴱ q (expr_at table a) (expr_at table b)))
      go true = already-mirrors table b s hb
      go false = new

-- what every table of a conversion begins with: the empty node, and the holes of the n states
pub record Begins (n : ℕ) (table : Table) : Type 0 where
  pub some_node : 0 < length table
  pub empty_first : expr_at table 0 ≡ emptyᴱ
  pub hole_low : (q : ℕ) → q < n → hole_at q < length table
  pub hole_is : (q : ℕ) → q < n → expr_at table (hole_at q) ≡ holeᴱ q

pub begins-grown : {n : ℕ} {old new : Table} → Grown old new → Begins n old → Begins n new
begins-grown x b =
    let l = grown-longer x in
    let f = b.some_node in
    record {
      some_node = omega arith;
      empty_first = grown-expr x 0 f ∙ b.empty_first;
      hole_low = λ q h. let i = b.hole_low q h in omega arith;
      hole_is = λ q h. grown-expr x (hole_at q) (b.hole_low q h) ∙ b.hole_is q h;
    }

pub iter-mirrors : (n q : ℕ) (table : Table) (a : ℕ) → Begins n table → q < n → n ≤ 16 → SoundNodes table → a < length table
    → Mirrors table (iter_made q table a) (make_iter q (expr_at table a))
unfolding iter_made make_iter
iter-mirrors n q table a b hq h16 s ha = rw (empty-node table s a ha) (go (is_empty (expr_at table a)))
  where
    new : Mirrors table (added table (iter_shape q a)) (iterᴱ q (expr_at table a))
    new = rw (← (built-iter (expr_at table) q a)) (added-mirrors table (iter_shape q a) s (iter-fits (length table) q a (omega arith) ha))

    go : (c : Bool) → Mirrors table (cond c (already table (hole_at q)) (added table (iter_shape q a))) (cond c (holeᴱ q) (iterᴱ q (expr_at table a)))
    go true = record { grown = grown-none table; sound = s; low = b.hole_low q hq; is = b.hole_is q hq }
    go false = new

-- ---- joining

abbrev pub Low : Table → List ℕ → Type 0
Low table is = All (λ i. i < length table) is

pub low-grown : {old new : Table} → Grown old new → (is : List ℕ) → Low old is → Low new is
low-grown x is a = all_map is (λ i h. let l = grown-longer x in omega arith) a

pub exprs-grown : {old new : Table} → Grown old new → (is : List ℕ) → Low old is → map (expr_at new) is ≡ map (expr_at old) is
exprs-grown x [] a = refl
exprs-grown x (i ∷ is) a = ap₂ ◌∷◌ (grown-expr x i a.0) (exprs-grown x is a.1)

join_from-mirrors : (table : Table) (a : ℕ) (bs : List ℕ) → SoundNodes table → a < length table → Low table bs
    → Mirrors table (join_made_from table a bs) (joined_from (expr_at table a) (map (expr_at table) bs))
unfolding join_made_from joined_from
join_from-mirrors table a [] s ha hb = already-mirrors table a s ha
join_from-mirrors table a (b ∷ bs) s ha hb =
    let m = alt-mirrors table s a b ha hb.0 in
    let r = join_from-mirrors (alt_made table a b).table (alt_made table a b).node bs m.sound m.low (low-grown m.grown bs hb.1) in
    record { grown = grown-then m.grown r.grown; sound = r.sound; low = r.low; is = r.is ∙ ap₂ joined_from m.is (exprs-grown m.grown bs hb.1) }

pub join-mirrors : (n : ℕ) (table : Table) (bs : List ℕ) → Begins n table → SoundNodes table → Low table bs → Mirrors table (join_made table bs) (joined (map (expr_at table) bs))
unfolding join_made joined
join-mirrors n table bs b s h =
    subst (λ (e : Expr). Mirrors table (join_made_from table 0 bs) (joined_from e (map (expr_at table) bs))) b.empty_first (join_from-mirrors table 0 bs s b.some_node h)
