-- A sound node's open word is the open set of its expression.
use Prim.Native.Nat.{ℕ, zero, suc, ◌^◌, ◌<◌}
use native.Mathlib.Omega.{arith}
use mathlib.Core.Path.{◌≡◌, sym, ◌∙◌, ap, ap₂}
use mathlib.Core.Bool.{Bool, true, false, cond, not, ◌&&◌, ◌||◌, or-false}
use mathlib.Core.List.{List, [], ◌∷◌, map}
use lib.ListN.{length, take}
use lib.Dec.{eqb}
use Rattle.sets.specs.Members.{has, set_of, union, without, one_set, state_width}
use Rattle.sets.proofs.Bits.{set_of-members, set_of-same}
use Rattle.ground.specs.Lists.{All}
use Rattle.meaning.specs.Expressions.{Expr, catᴱ, is_open, is_open_in}
use Rattle.expressions.specs.Nodes.{Kind, emptyᴷ, holeᴷ, symbolᴷ, altᴷ, catᴷ, iterᴷ, otherᴷ, kind_of, Table, node_at, arity_of, children_of, child_count, children}
use Rattle.expressions.specs.Unfolding.{exprs_of, built_by, built_of, built, expr_at}
use Rattle.expressions.specs.Soundness.{LabelledAs, union_all, cat_opens, opens_by, opens_of, opens_in, SoundNodes}
use Rattle.ground.proofs.Lists.{all_map}
use Rattle.sets.proofs.Membership.{empty-lt, one-lt, union-lt, has-empty, has_one, has-union, has-without, without-lt}
use Rattle.expressions.proofs.Soundness.{fits-at, opens_at, expr-shape}

-- the open set, as a set of states
unfoldable pub open_set : Expr → ℕ
open_set e = set_of state_width (λ p. is_open e p)

-- a set that is the open set of an expression
pub record OpenOf (set : ℕ) (e : Expr) : Type 0 where
  pub small : set < 2 ^ state_width
  pub same : (p : ℕ) → has set p ≡ is_open e p

pub open-set : (set : ℕ) (e : Expr) → OpenOf set e → set ≡ open_set e
unfolding open_set
open-set set e o = sym (set_of-members state_width set o.small) ∙ set_of-same state_width _ _ (λ p _. o.same p)

-- the union of the children's
union_all-lt : (sets : List ℕ) → union_all sets < 2 ^ state_width
union_all-lt [] = empty-lt state_width
union_all-lt (s ∷ sets) = union-lt state_width s (union_all sets)

union-open : (f : ℕ → ℕ) (g : ℕ → Expr) (cs : List ℕ) → All (λ c. OpenOf (f c) (g c)) cs → (p : ℕ) → has (union_all (map f cs)) p ≡ is_open_in (exprs_of (map g cs)) p
unfolding exprs_of
union-open f g [] h p = has-empty state_width p
union-open f g (c ∷ cs) h p =
    has-union state_width (f c) (union_all (map f cs)) p h.0.small (union_all-lt (map f cs))
    ∙ ap₂ ◌||◌ (h.0.same p) (union-open f g cs h.1 p)

cat-open : (q : ℕ) (a b : ℕ) (e f : Expr) → q < state_width → OpenOf a e → OpenOf b f → OpenOf (cat_opens q a b) (catᴱ q e f)
unfolding cat_opens
cat-open q a b e f h oa ob = record { small = small (has a q); same = λ p. rw (oa.same q) (same (is_open e q) p) }
  where
    small : (c : Bool) → cond c (union state_width (without state_width a q) b) a < 2 ^ state_width
    small true = union-lt state_width (without state_width a q) b
    small false = oa.small

    same : (c : Bool) (p : ℕ) → has (cond c (union state_width (without state_width a q) b) a) p ≡ cond c ((is_open e p && not (eqb p q)) || is_open f p) (is_open e p)
    same true p =
        has-union state_width (without state_width a q) b p (without-lt state_width a q) ob.small
        ∙ ap₂ ◌||◌ (has-without state_width a q p oa.small h ∙ ap (λ (x : Bool). x && not (eqb p q)) (oa.same p)) (ob.same p)
    same false p = oa.same p

-- one node, from its children
node-open : (kind : Kind) (label x y z : ℕ) (f : ℕ → ℕ) (g : ℕ → Expr) → LabelledAs kind label
    → All (λ c. OpenOf (f c) (g c)) (take (children_of kind label) (x ∷ y ∷ z ∷ []))
    → OpenOf (opens_by kind label (map f (take (children_of kind label) (x ∷ y ∷ z ∷ []))))
    (built_by kind label (map g (take (children_of kind label) (x ∷ y ∷ z ∷ []))))
unfolding exprs_of
node-open emptyᴷ label x y z f g l h = record { small = empty-lt state_width; same = has-empty state_width }
node-open holeᴷ label x y z f g l h = record { small = one-lt state_width label; same = λ p. has_one state_width label p l }
node-open symbolᴷ label x y z f g l h =
    record { small = union_all-lt (map f (take (arity_of label) (x ∷ y ∷ z ∷ []))); same = union-open f g (take (arity_of label) (x ∷ y ∷ z ∷ [])) h }
node-open altᴷ label x y z f g l h =
    record {
      small = union_all-lt (f x ∷ f y ∷ []);
      same = λ p. union-open f g (x ∷ y ∷ []) h p ∙ ap (λ (b : Bool). is_open (g x) p || b) (or-false (is_open (g y) p));
    }
node-open catᴷ label x y z f g l h = cat-open label (f x) (f y) (g x) (g y) l h.0 h.1.0
node-open iterᴷ label x y z f g l h =
    record {
      small = union-lt state_width (f x) (one_set state_width label);
      same = λ p. has-union state_width (f x) (one_set state_width label) p h.0.small (one-lt state_width label) ∙ ap₂ ◌||◌ (h.0.same p) (has_one state_width label p l);
    }
node-open otherᴷ label x y z f g l h = absurd l

-- every node, by those before it
pub open_of : (table : Table) → SoundNodes table → (i : ℕ) → i < length table → OpenOf (node_at table i).opens (expr_at table i)
unfolding opens_in opens_of built built_of children child_count
open_of table s i h = upto (suc i) i (omega arith) h
  where
    upto : (k i : ℕ) → i < k → i < length table → OpenOf (node_at table i).opens (expr_at table i)
    upto zero i l h = absurd (omega arith)
    upto (suc k) i l h =
        let n = (node_at table i).shape in
        let fits = fits-at table s i h in
        rw (opens_at table s i h, expr-shape table s i h)
        (node-open (kind_of n.kind) n.label n.first n.second n.third (λ c. (node_at table c).opens) (expr_at table) fits.labelled
        (all_map (children n) (λ c m. upto k c (omega arith) (omega arith)) fits.earlier))

-- a sound node's open word is the open set of its unfolded expression
pub open-word : (table : Table) → SoundNodes table → (i : ℕ) → i < length table → (node_at table i).opens ≡ open_set (expr_at table i)
open-word table s i h = open-set (node_at table i).opens (expr_at table i) (open_of table s i h)
