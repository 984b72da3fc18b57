-- The pile is right: words that are trees leave the reached sets of those trees, and words that leave a pile are trees whose reached sets it holds. So the words are one tree exactly where they leave a pile of one.
use Prim.Native.Nat.{ℕ, zero, suc, ◌<◌, ◌≤◌}
use native.Mathlib.Omega.{arith}
use mathlib.Core.Bool.{Bool, true, false, cond, ◌&&◌}
use mathlib.Core.Path.{◌≡◌, refl, sym, ◌∙◌, ap}
use mathlib.Core.List.{List, [], ◌∷◌, ◌++◌, append_assoc, append-nil}
use lib.Dec.{leb, ltb}
use lib.ListN.{length, take, drop, length-drop}
use lib.Seq.{take_at, drop_at}
use borrow.Author.Tests.{lt-ltb, le-ltb, le-leb, lt-leb, ltb-true, leb-true}
use Rattle.automaton.specs.Held.{Rule, Held}
use Rattle.meaning.specs.Trees.{Tree, Forest, hole, node, []ᶠ, ◌∷ᶠ◌}
use Rattle.trees.specs.Words.{prefix, prefixes, count, OfKnown, AllOfKnown, KnownIn, arity_in}
use Rattle.trees.specs.Piles.{reached_from, Pile, broken, pile, put, pile_of}
use Rattle.trees.proofs.Reaching.{reached_set, reached_sets}

pub count-sets : (rules : List Rule) (ts : Forest) → length (reached_sets rules ts) ≡ count ts
unfolding reached_sets count
count-sets rules []ᶠ = refl
count-sets rules (t ∷ᶠ ts) = ap suc (count-sets rules ts)

module _ (held : Held) where
  -- ---- one more symbol, by cases

  pub put-done : (f : ℕ) (sets : List ℕ) → KnownIn held f → arity_in held f ≤ length sets
      → put held f (pile sets) ≡ pile (reached_from held.rules f (take (arity_in held f) sets) ∷ drop (arity_in held f) sets)
  unfolding put
  put-done f sets k h = rw (lt-ltb f (length held.arities) k, le-leb (arity_in held f) (length sets) h)

  pub put-unknown : (f : ℕ) (p : Pile) → length held.arities ≤ f → put held f p ≡ broken
  unfolding put
  put-unknown f broken h = refl
  put-unknown f (pile sets) h = rw (le-ltb f (length held.arities) h)

  pub put-few : (f : ℕ) (sets : List ℕ) → length sets < arity_in held f → put held f (pile sets) ≡ broken
  unfolding put
  put-few f sets h = go (ltb f (length held.arities))
    where
      go : (b : Bool)
          → cond (b && leb (arity_in held f) (length sets)) (pile (reached_from held.rules f (take (arity_in held f) sets) ∷ drop (arity_in held f) sets)) broken ≡ broken
      go true = rw (lt-leb (arity_in held f) (length sets) h)
      go false = refl

  -- each word puts at most one set on
  pub few-sets : (ws sets : List ℕ) → pile_of held ws ≡ pile sets → length sets ≤ length ws
  unfolding pile_of put
  few-sets [] sets e = let none : [] ≡ sets = cc in omega (arith, ap length none)
  few-sets (f ∷ ws) sets e = go (pile_of held ws) (few-sets ws) e
    where
      go : (p : Pile) → ((before : List ℕ) → p ≡ pile before → length before ≤ length ws) → put held f p ≡ pile sets → length sets ≤ suc (length ws)
      go broken few h = absurd (cc)
      go (pile before) few h = one_more (ltb f (length held.arities) && leb (arity_in held f) (length before)) h
        where
          one_more : (b : Bool) → cond b (pile (reached_from held.rules f (take (arity_in held f) before) ∷ drop (arity_in held f) before)) broken ≡ pile sets → length sets ≤ suc (length ws)
          one_more true h =
              let same : (reached_from held.rules f (take (arity_in held f) before) ∷ drop (arity_in held f) before) ≡ sets = cc in
              omega (arith, ap length same, length-drop (arity_in held f) before, few before refl)
          one_more false h = absurd (cc)

  -- words that cannot be completed stay so
  pub stay-broken : (us ws : List ℕ) → pile_of held ws ≡ broken → pile_of held (us ++ ws) ≡ broken
  unfolding pile_of put
  stay-broken [] ws e = e
  stay-broken (u ∷ us) ws e = ap (put held u) (stay-broken us ws e)

  -- ---- trees leave their sets

  put-forest : (f : ℕ) (ts : Forest) (xs : List ℕ) → KnownIn held f → count ts ≡ arity_in held f
      → put held f (pile (reached_sets held.rules ts ++ xs)) ≡ pile (reached_from held.rules f (reached_sets held.rules ts) ∷ xs)
  put-forest f ts xs k e =
      let sets = reached_sets held.rules ts in
      let long : length sets ≡ arity_in held f = count-sets held.rules ts ∙ e in
      put-done f (sets ++ xs) k (simp lib.ListN.length-append (omega arith))
      ∙ rw (take_at sets xs (arity_in held f) long, drop_at sets xs (arity_in held f) long)

  mutual
    unfolding prefix prefixes reached_set reached_sets pile_of

    pub pile-tree : (t : Tree) (ws xs : List ℕ) → OfKnown (KnownIn held) (arity_in held) t → pile_of held ws ≡ pile xs
        → pile_of held (prefix t ++ ws) ≡ pile (reached_set held.rules t ∷ xs)
    pile-tree (hole p) ws xs k e = absurd k
    pile-tree (node f ts) ws xs k e = ap (put held f) (pile-trees ts ws xs k.2 e) ∙ put-forest f ts xs k.0 k.1

    pub pile-trees : (ts : Forest) (ws xs : List ℕ) → AllOfKnown (KnownIn held) (arity_in held) ts → pile_of held ws ≡ pile xs
        → pile_of held (prefixes ts ++ ws) ≡ pile (reached_sets held.rules ts ++ xs)
    pile-trees []ᶠ ws xs k e = e
    pile-trees (t ∷ᶠ ts) ws xs k e =
        ap (pile_of held) (append_assoc (prefix t) (prefixes ts) ws)
        ∙ pile-tree t (prefixes ts ++ ws) (reached_sets held.rules ts ++ xs) k.0 (pile-trees ts ws xs k.1 e)

  -- ---- what leaves a pile is trees

  -- a row of trees cut in two
  record Cut (ts : Forest) (k : ℕ) : Type 0 where
    front : Forest
    rest : Forest
    so-many : count front ≡ k
    words : prefixes ts ≡ prefixes front ++ prefixes rest
    sets : reached_sets held.rules ts ≡ reached_sets held.rules front ++ reached_sets held.rules rest
    front-known : AllOfKnown (KnownIn held) (arity_in held) front
    rest-known : AllOfKnown (KnownIn held) (arity_in held) rest

  cut : (ts : Forest) (k : ℕ) → k ≤ count ts → AllOfKnown (KnownIn held) (arity_in held) ts → Cut ts k
  unfolding count prefixes reached_sets
  cut ts zero h a = record { front = []ᶠ; rest = ts; so-many = refl; words = refl; sets = refl; front-known = tt; rest-known = a }
  cut []ᶠ (suc k) h a = absurd (omega arith)
  cut (t ∷ᶠ ts) (suc k) h a =
      let c = cut ts k (omega arith) a.1 in
      record {
        front = t ∷ᶠ c.front;
        rest = c.rest;
        so-many = ap suc c.so-many;
        words = ap (prefix t ++◌) c.words ∙ sym (append_assoc (prefix t) (prefixes c.front) (prefixes c.rest));
        sets = ap (reached_set held.rules t ∷◌) c.sets;
        front-known = (a.0, c.front-known);
        rest-known = c.rest-known;
      }

  -- the trees that words are, with their sets
  pub record Trees (words sets : List ℕ) : Type 0 where
    pub trees : Forest
    pub known : AllOfKnown (KnownIn held) (arity_in held) trees
    pub in_order : prefixes trees ≡ words
    pub reached : reached_sets held.rules trees ≡ sets

  -- one more symbol over such trees
  grow : (f : ℕ) (words ys xs : List ℕ) → Trees words ys → put held f (pile ys) ≡ pile xs → Trees (f ∷ words) xs
  unfolding put prefix prefixes reached_set reached_sets
  grow f words ys xs below e = go (ltb f (length held.arities)) (leb (arity_in held f) (length ys)) refl refl
    where
      done : KnownIn held f → arity_in held f ≤ length ys → Trees (f ∷ words) xs
      done k h =
          let ts = below.trees in
          let c = cut ts (arity_in held f) (omega (arith, h, count-sets held.rules ts, ap length below.reached)) below.known in
          let sets : pile xs ≡ pile (reached_from held.rules f (reached_sets held.rules c.front) ∷ reached_sets held.rules c.rest) =
          sym e ∙ ap (λ (l : List ℕ). put held f (pile l)) (sym below.reached ∙ c.sets) ∙ put-forest f c.front (reached_sets held.rules c.rest) k c.so-many
          in
          record {
            trees = node f c.front ∷ᶠ c.rest;
            known = ((k, c.so-many, c.front-known), c.rest-known);
            in_order = ap (f ∷◌) (sym c.words ∙ below.in_order);
            reached = cc;
          }

      go : (a b : Bool) → ltb f (length held.arities) ≡ a → leb (arity_in held f) (length ys) ≡ b → Trees (f ∷ words) xs
      go true true ea eb = done (ltb-true f (length held.arities) ea) (leb-true (arity_in held f) (length ys) eb)
      go true false ea eb = let z : broken ≡ pile xs = rw (ea, eb) at e in let y : ◌≡◌ {A = ℕ} 0 1 = cc in absurd (omega arith)
      go false b ea eb = let z : broken ≡ pile xs = rw ea at e in let y : ◌≡◌ {A = ℕ} 0 1 = cc in absurd (omega arith)

  pub unpile : (words sets : List ℕ) → pile_of held words ≡ pile sets → Trees words sets
  unfolding pile_of put prefixes reached_sets
  unpile [] sets e = record { trees = []ᶠ; known = tt; in_order = refl; reached = cc }
  unpile (f ∷ words) sets e = go (pile_of held words) refl (unpile words)
    where
      go : (p : Pile) → pile_of held words ≡ p → ((ys : List ℕ) → pile_of held words ≡ pile ys → Trees words ys) → Trees (f ∷ words) sets
      go broken d later = let z : broken ≡ pile sets = sym (ap (put held f) d) ∙ e in let y : ◌≡◌ {A = ℕ} 0 1 = cc in absurd (omega arith)
      go (pile ys) d later = grow f words ys sets (later ys d) (sym (ap (put held f) d) ∙ e)

  -- ---- one tree

  pub pile-of-tree : (t : Tree) → OfKnown (KnownIn held) (arity_in held) t → pile_of held (prefix t) ≡ pile (reached_set held.rules t ∷ [])
  unfolding pile_of
  pile-of-tree t k = ap (pile_of held) (sym (append-nil (prefix t))) ∙ pile-tree t [] [] k refl

  pub tree-of-pile : (words : List ℕ) (x : ℕ) → pile_of held words ≡ pile (x ∷ [])
      → (t : Tree) × OfKnown (KnownIn held) (arity_in held) t × (prefix t ≡ words) × (reached_set held.rules t ≡ x)
  unfolding prefixes reached_sets
  tree-of-pile words x e = let r = unpile words (x ∷ []) e in go r.trees r.known r.in_order r.reached
    where
      go : (ts : Forest) → AllOfKnown (KnownIn held) (arity_in held) ts → prefixes ts ≡ words → reached_sets held.rules ts ≡ x ∷ []
          → (t : Tree) × OfKnown (KnownIn held) (arity_in held) t × (prefix t ≡ words) × (reached_set held.rules t ≡ x)
      go []ᶠ k o r = let y : ◌≡◌ {A = ℕ} 0 1 = cc in absurd (omega arith)
      go (t ∷ᶠ []ᶠ) k o r = (t, k.0, sym (append-nil (prefix t)) ∙ o, cc)
      go (t ∷ᶠ (u ∷ᶠ ts)) k o r = let y : ◌≡◌ {A = ℕ} 0 1 = cc in absurd (omega arith)
