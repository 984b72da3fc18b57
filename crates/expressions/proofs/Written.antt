-- The laws of written-out sizes: holding at each node is holding at the end, and the sizes of a table grow node by node.
use Prim.Native.Nat.{ℕ, zero, suc, ◌+◌, ◌<◌, ◌≤◌}
use native.Mathlib.Omega.{arith}
use native.Mathlib.Numerals.{add-one}
use mathlib.Core.Path.{◌≡◌, refl, sym, ◌∙◌, ap}
use mathlib.Core.List.{List, [], ◌∷◌, ◌++◌, map, map-append, append-nil}
use lib.ListN.{length, get_or, set, take, drop, drop_of_length-le, length-map, get_or-append}
use lib.Seq.{set_at, take-suc, take_all, length-take-le, drop-cons, append_snoc}
use Rattle.ground.specs.Lists.{All}
use Rattle.meaning.specs.Expressions.{Expr, emptyᴱ}
use Rattle.expressions.specs.declared.Shape.{Shape}
use Rattle.expressions.specs.declared.Node.{Node}
use Rattle.expressions.specs.Nodes.{Kind, emptyᴷ, holeᴷ, symbolᴷ, altᴷ, catᴷ, iterᴷ, otherᴷ, kind_of, Table, no_node, node_at, arity_of, children_of, child_count, children}
use Rattle.expressions.specs.Words.{table_of}
use Rattle.expressions.specs.Unfolding.{exprs_of, built_by, built_of, built, unfolded, expr_at}
use Rattle.expressions.specs.Soundness.{Fits, Sound}
use Rattle.expressions.specs.Sizes.{written_size, written_sizes, held, held_size, sizes_of}
use Rattle.expressions.specs.Inside.{sum_all, size_over}
use Rattle.expressions.specs.Answers.{Measures, measured}
use Rattle.ground.proofs.Lists.{all_map, map_same}
use Rattle.expressions.proofs.KindLaws.{none-count, other-count}
use Rattle.expressions.proofs.Words.{length-table}
use Rattle.expressions.proofs.Unfolding.{length-unfolded, unfolded-snoc}

-- ---- one node

-- a held sum of held numbers is the held sum
pub held-sum : (f : ℕ → ℕ) (cs : List ℕ) (m : ℕ) → held (m + sum_all (map (λ c. held (f c)) cs)) ≡ held (m + sum_all (map f cs))
held-sum f [] m = refl
held-sum f (c ∷ cs) m =
    let h : held ((m + held (f c)) + sum_all (map (λ i. held (f i)) cs)) ≡ held ((m + held (f c)) + sum_all (map f cs)) = held-sum f cs (m + held (f c)) in
    omega arith

sizes-sum : (g : ℕ → Expr) (cs : List ℕ) → written_sizes (exprs_of (map g cs)) ≡ sum_all (map (λ c. written_size (g c)) cs)
unfolding exprs_of
sizes-sum g [] = refl
sizes-sum g (c ∷ cs) = ap (λ (n : ℕ). written_size (g c) + n) (sizes-sum g cs)

size-built : (kind : Kind) (label x y z : ℕ) (g : ℕ → Expr)
    → written_size (built_by kind label (map g (take (children_of kind label) (x ∷ y ∷ z ∷ []))))
    ≡ 1 + sum_all (map (λ c. written_size (g c)) (take (children_of kind label) (x ∷ y ∷ z ∷ [])))
size-built emptyᴷ label x y z g = refl
size-built holeᴷ label x y z g = refl
size-built symbolᴷ label x y z g = ap (λ (n : ℕ). 1 + n) (sizes-sum g (take (arity_of label) (x ∷ y ∷ z ∷ [])))
size-built altᴷ label x y z g = omega arith
size-built catᴷ label x y z g = omega arith
size-built iterᴷ label x y z g = omega arith
size-built otherᴷ label x y z g = refl

-- the held size of a shape's expression, by the held sizes of its children
pub held-built : (g : ℕ → Expr) (shape : Shape) → held_size (built g shape) ≡ held (size_over (λ c. held_size (g c)) shape)
unfolding held_size built built_of size_over children child_count
held-built g shape =
    ap held (size-built (kind_of shape.kind) shape.label shape.first shape.second shape.third g)
    ∙ sym (held-sum (λ c. written_size (g c)) (children shape) 1)

-- a node with no children has size 1
size-alone : (size : ℕ → ℕ) (shape : Shape) → child_count shape.kind shape.label ≡ 0 → held (size_over size shape) ≡ 1
unfolding size_over children
size-alone size shape e = rw e

pub none-size : (size : ℕ → ℕ) (shape : Shape) → shape.kind < 2 → held (size_over size shape) ≡ 1
none-size size shape h = size-alone size shape (none-count shape.kind shape.label h)

pub other-size : (size : ℕ → ℕ) (shape : Shape) → 5 < shape.kind → held (size_over size shape) ≡ 1
other-size size shape h = size-alone size shape (other-count shape.kind shape.label h)

pub ruleset sizes_alone = (none-size, other-size)

-- only the children's sizes count
pub size_same : (f g : ℕ → ℕ) (shape : Shape) → All (λ c. f c ≡ g c) (children shape) → size_over f shape ≡ size_over g shape
unfolding size_over
size_same f g shape h = ap (λ (ns : List ℕ). 1 + sum_all ns) (map_same f g (children shape) h)

-- ---- the sizes of a table

get_d_map : {A : Type 0} (f : A → ℕ) (xs : List A) (i : ℕ) (d : A) (e : ℕ) → i < length xs → get_or (map f xs) i e ≡ f (get_or xs i d)
get_d_map f [] i d e h = absurd (omega arith)
get_d_map f (x ∷ xs) zero d e h = refl
get_d_map f (x ∷ xs) (suc i) d e h = get_d_map f xs i d e (omega arith)

pub length-sizes : (table : Table) → length (sizes_of table) ≡ length table
unfolding sizes_of
length-sizes table = length-map (unfolded [] table) held_size ∙ length-unfolded [] table ∙ omega arith

-- a node's size is that of its unfolded expression
pub sizes-at : (table : Table) (i : ℕ) → i < length table → get_or (sizes_of table) i 0 ≡ held_size (expr_at table i)
unfolding sizes_of expr_at
sizes-at table i h = get_d_map held_size (unfolded [] table) i emptyᴱ 0 (omega (arith, length-unfolded [] table))

pub sizes-snoc : (table : Table) (node : Node) → sizes_of (table ++ (node ∷ [])) ≡ sizes_of table ++ (held_size (built (expr_at table) node.shape) ∷ [])
unfolding sizes_of
sizes-snoc table node = ap (map held_size) (unfolded-snoc table node) ∙ map-append held_size (unfolded [] table) (built (expr_at table) node.shape ∷ [])

-- ---- the scratch words, as far as node i

abbrev pub so_far : Table → List ℕ → ℕ → List ℕ
so_far table before i = sizes_of (take i table) ++ drop i before

pub so-far-none : (table : Table) (before : List ℕ) → before ≡ so_far table before 0
unfolding sizes_of unfolded
so-far-none table before = refl

pub so-far-all : (table : Table) (before : List ℕ) → length before ≡ length table → so_far table before (length before) ≡ sizes_of table
so-far-all table before e =
    rw (take_all (length before) table (omega arith), drop_of_length-le before {i = length before} (omega arith)) (append-nil (sizes_of table))

module _ (table : Table) (before : List ℕ) (i : ℕ) (h : i < length table) (fits : Fits i (node_at table i).shape) where
  many : length (sizes_of (take i table)) ≡ i
  many = length-sizes (take i table) ∙ length-take-le i table (omega arith)

  next : take (i + 1) table ≡ take i table ++ (node_at table i ∷ [])
  next = rw (add-one i) (take-suc table i no_node h)

  new-size : held (size_over (λ c. get_or (so_far table before i) c 0) (node_at table i).shape) ≡ held_size (built (expr_at (take i table)) (node_at table i).shape)
  new-size =
      ap held
      (size_same (λ c. get_or (so_far table before i) c 0) (λ c. held_size (expr_at (take i table) c)) (node_at table i).shape
      (all_map (children (node_at table i).shape)
      (λ c l. get_or-append (sizes_of (take i table)) (drop i before) 0 c (omega (arith, many)) ∙ sizes-at (take i table) c (omega (arith, length-take-le i table (omega arith))))
      fits.earlier))
      ∙ sym (held-built (expr_at (take i table)) (node_at table i).shape)

  pub so_far_more : i < length before
      → set (so_far table before i) i (held (size_over (λ c. get_or (so_far table before i) c 0) (node_at table i).shape)) ≡ so_far table before (i + 1)
  so_far_more l =
      rw (new-size, next, sizes-snoc (take i table) (node_at table i), add-one i, drop-cons before i 0 l)
      (set_at (sizes_of (take i table)) (get_or before i 0) (drop (suc i) before) (held_size (built (expr_at (take i table)) (node_at table i).shape)) i many
      ∙ sym (append_snoc (sizes_of (take i table)) _ (drop (suc i) before)))

-- ---- measuring: each outcome

module _ (words : List ℕ) (count answer : ℕ) (before : List ℕ) where
  pub measures-unsound : (Sound words count answer → ⊥) → Measures words count answer before before (measured 8 0)
  measures-unsound n = record { unsound = λ _. (refl, refl); short = λ s. absurd (n s); done = λ s. absurd (n s) }

  pub measures-short : Sound words count answer → length before < count → {after : List ℕ} → after ≡ before → Measures words count answer before after (measured 6 0)
  measures-short s h e = record { unsound = λ n. absurd (n s); short = λ _ _. (refl, e); done = λ _ l. absurd (omega arith) }

  pub measures-done : Sound words count answer → count ≤ length before → {sizes after : List ℕ} → sizes ≡ sizes_of (table_of words count) → after ≡ sizes ++ drop count before
      → Measures words count answer before after (measured 0 (get_or sizes answer 0))
  measures-done s h {sizes} e d =
      record {
        unsound = λ n. absurd (n s);
        short = λ _ l. absurd (omega arith);
        done = λ _ _. (ap (measured 0) answered, d ∙ rw e);
      }
    where
      answered : get_or sizes answer 0 ≡ held_size (expr_at (table_of words count) answer)
      answered =
          let within = s.within in
          rw e (sizes-at (table_of words count) answer (omega (arith, length-table words count)))
