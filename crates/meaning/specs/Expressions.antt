-- The six kinds of expression, the trees that each denotes, and its open states [6.2 to 6.7, 7.7].
use Rattle.std.specs.Prelude.{ℕ, zero, suc, ◌≡◌, Bool, false, cond, not, ◌&&◌, ◌||◌, ◌⊎◌, eqb}
use Rattle.meaning.specs.Trees.{Tree, Forest, hole, node, []ᶠ, ◌∷ᶠ◌}
use Rattle.meaning.specs.Fillings.{Language, Filled, Only}

mutual
  pub data Expr : Type 0 where
    emptyᴱ : Expr
    holeᴱ : ℕ → Expr
    symbolᴱ : ℕ → Exprs → Expr
    altᴱ : Expr → Expr → Expr
    catᴱ : ℕ → Expr → Expr → Expr
    iterᴱ : ℕ → Expr → Expr

  pub data Exprs : Type 0 where
    []ᴱ : Exprs
    ◌∷ᴱ◌ : Expr → Exprs → Exprs

infixr 60 ◌∷ᴱ◌
-- concatenation over q, of E on the left and F on the right [6.6]
abbrev pub Concatenated : ℕ → Language → Language → Language
Concatenated q E F t = (s : Tree) × E s × Filled (Only q F) s t

-- the levels of an iteration over q; each keeps the one before it [6.7, 6.8]
abbrev pub Level : ℕ → Language → ℕ → Language
Level q E zero t = t ≡ hole q
Level q E (suc m) t = Level q E m t ⊎ Concatenated q E (Level q E m) t

-- iteration over q: all trees of all levels [6.7]
abbrev pub Iterated : ℕ → Language → Language
Iterated q E t = (m : ℕ) × Level q E m t

-- `Denotes e t`: t is a tree of e [6.2 to 6.7]
abbrev mutual
  pub Denotes : Expr → Tree → Type 0
  Denotes emptyᴱ t = ⊥
  Denotes (holeᴱ q) t = t ≡ hole q
  Denotes (symbolᴱ f es) t = (ts : Forest) × (t ≡ node f ts) × DenotesEach es ts
  Denotes (altᴱ a b) t = Denotes a t ⊎ Denotes b t
  Denotes (catᴱ q a b) t = Concatenated q (Denotes a) (Denotes b) t
  Denotes (iterᴱ q a) t = Iterated q (Denotes a) t

  -- one tree of each, in order [6.4]
  pub DenotesEach : Exprs → Forest → Type 0
  DenotesEach []ᴱ ts = ts ≡ []ᶠ
  DenotesEach (e ∷ᴱ es) ts = (t : Tree) × (us : Forest) × (ts ≡ t ∷ᶠ us) × Denotes e t × DenotesEach es us

-- is the state open in the expression? [7.7]
abbrev mutual
  pub is_open : Expr → ℕ → Bool
  is_open emptyᴱ p = false
  is_open (holeᴱ q) p = eqb p q
  is_open (symbolᴱ f es) p = is_open_in es p
  is_open (altᴱ a b) p = is_open a p || is_open b p
  is_open (catᴱ q a b) p = cond (is_open a q) ((is_open a p && not (eqb p q)) || is_open b p) (is_open a p)
  is_open (iterᴱ q a) p = is_open a p || eqb p q

  pub is_open_in : Exprs → ℕ → Bool
  is_open_in []ᴱ p = false
  is_open_in (e ∷ᴱ es) p = is_open e p || is_open_in es p
