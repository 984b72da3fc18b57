-- The words of a tree, and which words are a tree that can be run [5.1 to 5.3].
use Rattle.std.specs.Prelude.{ℕ, suc, ◌≤◌, ◌<◌, ◌≡◌, List, [], ◌∷◌, ◌++◌, length, get_or}
use Rattle.automaton.specs.Held.{Held}
use Rattle.meaning.specs.Trees.{Tree, Forest, hole, node, []ᶠ, ◌∷ᶠ◌}

-- the symbols of a tree in prefix order: a node's own, then those of its subtrees from the left. A hole has no symbol [5.1]
unfoldable mutual
  pub prefix : Tree → List ℕ
  prefix (hole p) = []
  prefix (node f ts) = f ∷ prefixes ts

  pub prefixes : Forest → List ℕ
  prefixes []ᶠ = []
  prefixes (t ∷ᶠ ts) = prefix t ++ prefixes ts

-- how many trees
unfoldable pub count : Forest → ℕ
count []ᶠ = 0
count (t ∷ᶠ ts) = suc (count ts)

-- a tree without holes, of known symbols, each with as many subtrees as its arity [5.3]
module _ (Known : ℕ → Type 0) (arity : ℕ → ℕ) where
  abbrev mutual
    pub OfKnown : Tree → Type 0
    OfKnown (hole p) = ⊥
    OfKnown (node f ts) = Known f × (count ts ≡ arity f) × AllOfKnown ts

    pub AllOfKnown : Forest → Type 0
    AllOfKnown []ᶠ = Unit {0}
    AllOfKnown (t ∷ᶠ ts) = OfKnown t × AllOfKnown ts

-- the known symbols are the declared ones [5.2]
abbrev pub KnownIn : Held → ℕ → Type 0
KnownIn held f = f < length held.arities

abbrev pub arity_in : Held → ℕ → ℕ
arity_in held f = get_or held.arities f 0

-- the most words of a tree [2.5]
abbrev pub most_words : ℕ
most_words = 4096

-- the words are this tree and nothing more [5.3]
pub record IsTree (held : Held) (words : List ℕ) (tree : Tree) : Type 0 where
  pub of_known : OfKnown (KnownIn held) (arity_in held) tree
  pub in_order : prefix tree ≡ words
  pub some_word : 1 ≤ length words
  pub few_words : length words ≤ most_words

-- there is no tree that the words are [5.3]
abbrev pub NoTree : Held → List ℕ → Type 0
NoTree held words = (tree : Tree) → IsTree held words tree → ⊥
