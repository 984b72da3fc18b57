-- The laws of the expression that a node unfolds to: nodes appended change no earlier expression, and a node's expression is built from those of its children.
use Prim.Native.Nat.{ℕ, suc, ◌+◌, ◌<◌, ◌≤◌}
use native.Mathlib.Omega.{arith}
use mathlib.Core.Path.{◌≡◌, refl, sym, ◌∙◌, ap}
use mathlib.Core.List.{List, [], ◌∷◌, ◌++◌}
use lib.ListN.{length, get_or, take, drop, length-append, get_or-append, take-append-drop}
use lib.Seq.{get_or_at, length-take-le, split_at, append_snoc}
use Rattle.meaning.specs.Expressions.{Expr, emptyᴱ, holeᴱ, altᴱ, catᴱ, iterᴱ}
use Rattle.ground.specs.Lists.{All}
use Rattle.expressions.specs.declared.Shape.{Shape}
use Rattle.expressions.specs.declared.Node.{Node}
use Rattle.expressions.specs.Nodes.{Table, empty_shape, hole_shape, alt_shape, cat_shape, iter_shape, no_node, node_at, child_count, children}
use Rattle.expressions.specs.Unfolding.{built_of, built, unfolded, expr_at}
use Rattle.ground.proofs.Lists.{map_same}

pub unfolded-append : (earlier : List Expr) (table more : Table) → unfolded earlier (table ++ more) ≡ unfolded (unfolded earlier table) more
unfolding unfolded
unfolded-append earlier [] more = refl
unfolded-append earlier (n ∷ table) more = unfolded-append (earlier ++ (built (λ c. get_or earlier c emptyᴱ) n.shape ∷ [])) table more

pub length-unfolded : (earlier : List Expr) (table : Table) → length (unfolded earlier table) ≡ length earlier + length table
unfolding unfolded
length-unfolded earlier [] = omega arith
length-unfolded earlier (n ∷ table) =
    let e = built (λ c. get_or earlier c emptyᴱ) n.shape in
    let h = length-unfolded (earlier ++ (e ∷ [])) table in
    let k = length-append earlier (e ∷ []) in
    omega arith

unfolded-keeps : (earlier : List Expr) (table : Table) (i : ℕ) → i < length earlier → get_or (unfolded earlier table) i emptyᴱ ≡ get_or earlier i emptyᴱ
unfolding unfolded
unfolded-keeps earlier [] i h = refl
unfolded-keeps earlier (n ∷ table) i h =
    let e = built (λ c. get_or earlier c emptyᴱ) n.shape in
    let k : i < length (earlier ++ (e ∷ [])) = omega (arith, length-append earlier (e ∷ [])) in
    unfolded-keeps (earlier ++ (e ∷ [])) table i k ∙ get_or-append earlier (e ∷ []) emptyᴱ i h

-- nodes appended change no earlier expression
pub expr-append : (table more : Table) (i : ℕ) → i < length table → expr_at (table ++ more) i ≡ expr_at table i
unfolding expr_at
expr-append table more i h = rw unfolded-append (unfolded-keeps (unfolded [] table) more i (omega (arith, length-unfolded [] table)))

-- the expressions of a table with one node more
pub unfolded-snoc : (table : Table) (node : Node) → unfolded [] (table ++ (node ∷ [])) ≡ unfolded [] table ++ (built (expr_at table) node.shape ∷ [])
unfolding unfolded expr_at
unfolded-snoc table node = unfolded-append [] table (node ∷ [])

-- the expression of the node after a table
pub expr-new : (table : Table) (node : Node) → expr_at (table ++ (node ∷ [])) (length table) ≡ built (expr_at table) node.shape
unfolding expr_at unfolded
expr-new table node =
    rw unfolded-append (get_or_at (unfolded [] table) (built (λ c. get_or (unfolded [] table) c emptyᴱ) node.shape) [] emptyᴱ (length table) (length-unfolded [] table ∙ omega arith))

-- a node before the i-th has its expression in the table as far as i
pub expr-take : (table : Table) (i c : ℕ) → i ≤ length table → c < i → expr_at (take i table) c ≡ expr_at table c
expr-take table i c hi h =
    let l : c < length (take i table) = omega (arith, length-take-le i table hi) in
    sym (ap (λ (x : Table). expr_at x c) (sym (take-append-drop i table)) ∙ expr-append (take i table) (drop i table) c l)

-- a node's expression from those of the nodes before it, whatever the table goes on with
pub expr-at : (table : Table) (i : ℕ) → i < length table → expr_at table i ≡ built (expr_at (take i table)) (node_at table i).shape
expr-at table i h =
    let n = node_at table i in
    let l : length (take i table) ≡ i = length-take-le i table (omega arith) in
    let s : table ≡ (take i table ++ (n ∷ [])) ++ drop (suc i) table = split_at table i no_node h ∙ rw append_snoc in
    let k : i < length (take i table ++ (n ∷ [])) = omega (arith, length-append (take i table) (n ∷ [])) in
    ap (λ (x : Table). expr_at x i) s ∙ expr-append (take i table ++ (n ∷ [])) (drop (suc i) table) i k
    ∙ ap (expr_at (take i table ++ (n ∷ []))) (sym l) ∙ expr-new (take i table) n

-- ---- a shape over its children

-- only the children count
pub built-same : (f g : ℕ → Expr) (shape : Shape) → All (λ c. f c ≡ g c) (children shape) → built f shape ≡ built g shape
unfolding built
built-same f g shape h = ap (built_of shape.kind shape.label) (map_same f g (children shape) h)

pub built-empty : (f : ℕ → Expr) → built f empty_shape ≡ emptyᴱ
unfolding built built_of
built-empty f = refl

pub built-hole : (f : ℕ → Expr) (q : ℕ) → built f (hole_shape q) ≡ holeᴱ q
unfolding built built_of
built-hole f q = refl

pub built-alt : (f : ℕ → Expr) (a b : ℕ) → built f (alt_shape a b) ≡ altᴱ (f a) (f b)
unfolding built built_of children child_count
built-alt f a b = refl

pub built-cat : (f : ℕ → Expr) (q a b : ℕ) → built f (cat_shape q a b) ≡ catᴱ q (f a) (f b)
unfolding built built_of children child_count
built-cat f q a b = refl

pub built-iter : (f : ℕ → Expr) (q a : ℕ) → built f (iter_shape q a) ≡ iterᴱ q (f a)
unfolding built built_of children child_count
built-iter f q a = refl
