-- Lists: what some or each element is, what stands at a place, and lists in arrays that are longer.
use Prim.Native.Nat.{ℕ, zero, suc, ◌+◌, ◌-◌, ◌<◌, ◌≤◌}
use native.Mathlib.Decide.{dec_lt}
use native.Mathlib.Omega.{arith}
use mathlib.Core.Bool.{Bool, true, false, false≢true, ◌||◌, or-false, or_assoc, cond}
use mathlib.Core.Logic.{◌⊎◌, inl, inr}
use mathlib.Core.Path.{◌≡◌, refl, sym, ◌∙◌, ap, ap₂, subst}
use mathlib.Core.List.Memᴰ
use mathlib.Core.List.{List, [], ◌∷◌, ◌++◌, map, Memᴰ}
use lib.ListN.{length, get_or, replicate, length-append, length-take, length-replicate, get_or-replicate, get_or-append, get_or-eq_default}
use lib.Dec.{T}
use denote.Struct.Props.{props}
use lib.Seq.{get_or-take, get_or-append-add}
use Rattle.ground.specs.Lists.{All, filled, firsts, any_of, any_below, those}
use Rattle.ground.proofs.Truth.{or_left, or_right}
use Rattle.ground.proofs.Tests.{of-true}

-- ---- some element passes a test

module _ {A : Type 0} (test : A → Bool) where
  pub any-pick : (xs : List A) → any_of test xs ≡ true → (x : A) × Memᴰ x xs × (test x ≡ true)
  unfolding any_of
  any-pick [] e = absurd (false≢true e)
  any-pick (x ∷ xs) e = go (test x) refl (any-pick xs)
    where
      go : (b : Bool) → test x ≡ b → (any_of test xs ≡ true → (y : A) × Memᴰ y xs × (test y ≡ true)) → (y : A) × Memᴰ y (x ∷ xs) × (test y ≡ true)
      go true d later = (x, Memᴰ.head refl, d)
      go false d later = let r = later (rw d at e) in (r.0, Memᴰ.tail r.1, r.2)

  pub any-mem : (x : A) (xs : List A) → Memᴰ x xs → test x ≡ true → any_of test xs ≡ true
  unfolding any_of
  any-mem x [] m e = elim m [ ]
  any-mem x (y ∷ ys) m e = go (Memᴰ.cases_cons m) (λ l. any-mem x ys l e)
    where
      go : (x ≡ y) ⊎ Memᴰ x ys → (Memᴰ x ys → any_of test ys ≡ true) → any_of test (y ∷ ys) ≡ true
      go (inl d) later = rw (← d, e)
      go (inr l) later = or_right (test y) (any_of test ys) (later l)

  pub any_last : (xs : List A) (x : A) → any_of test (xs ++ (x ∷ [])) ≡ (any_of test xs || test x)
  unfolding any_of
  any_last [] x = or-false (test x)
  any_last (y ∷ ys) x = ap (λ (b : Bool). test y || b) (any_last ys x) ∙ sym (or_assoc (test y) (any_of test ys) (test x))

  -- two tests that agree on the elements
  pub any_same : (other : A → Bool) (xs : List A) → ((x : A) → Memᴰ x xs → test x ≡ other x) → any_of test xs ≡ any_of other xs
  unfolding any_of
  any_same other [] e = refl
  any_same other (x ∷ xs) e = ap₂ ◌||◌ (e x (Memᴰ.head refl)) (any_same other xs (λ y m. e y (Memᴰ.tail m)))

-- ---- some number below a bound passes a test

pub below-pick : (n : ℕ) (test : ℕ → Bool) → any_below n test ≡ true → (i : ℕ) × (i < n) × (test i ≡ true)
unfolding any_below
below-pick zero test e = absurd (false≢true e)
below-pick (suc n) test e = go (any_below n test) refl (below-pick n test)
  where
    go : (b : Bool) → any_below n test ≡ b → (any_below n test ≡ true → (i : ℕ) × (i < n) × (test i ≡ true)) → (i : ℕ) × (i < suc n) × (test i ≡ true)
    go true d later = let r = later d in (r.0, omega (arith, r.1), r.2)
    go false d later = (n, omega arith, rw d at e)

pub below-some : (n : ℕ) (test : ℕ → Bool) (i : ℕ) → i < n → test i ≡ true → any_below n test ≡ true
unfolding any_below
below-some zero test i h e = absurd (omega arith)
below-some (suc n) test i h e = go (dec_lt i n) (λ l. below-some n test i l e)
  where
    go : Dec (i < n) → (i < n → any_below n test ≡ true) → (any_below n test || test n) ≡ true
    go (yes l) later = or_left (any_below n test) (test n) (later l)
    go (no l) later = let same : i ≡ n = omega arith in or_right (any_below n test) (test n) (subst (λ (j : ℕ). test j ≡ true) same e)

-- ---- each element

pub of-all : {A : Type 0} (P : A → Type 0) {x : A} (xs : List A) → All P xs → Memᴰ x xs → P x
of-all {A = A} P [] a x3 = elim x3 [ ]
of-all P (y ∷ ys) a (Memᴰ.head e) = rw e a.0
of-all P (y ∷ ys) a (Memᴰ.tail m) = of-all P ys a.1 m

pub all-at : {A : Type 0} (P : A → Type 0) (xs : List A) → All P xs → (i : ℕ) (d : A) → i < length xs → P (get_or xs i d)
all-at P [] a i d h = absurd (omega arith)
all-at P (x ∷ xs) a zero d h = a.0
all-at P (x ∷ xs) a (suc i) d h = all-at P xs a.1 i d (omega arith)

-- a fact that has one proof at most of each element has one at most of them all
pub all-prop : {A : Type 0} (P : A → Type 0) → ((x : A) → IsProp (P x)) → (xs : List A) → IsProp (All P xs)
all-prop P h [] = Prim.hlevel props
all-prop P h (x ∷ xs) = let rest = all-prop P h xs in Prim.hlevel (props, h, rest)

pub all_map : {A : Type 0} {P Q : A → Type 0} (xs : List A) → ((x : A) → P x → Q x) → All P xs → All Q xs
all_map [] f h = tt
all_map (x ∷ xs) f h = (f x h.0, all_map xs f h.1)

-- ---- places

module _ {A : Type 0} where
  -- inside a list, what would stand past its end does not matter
  pub get_or-inside : (xs : List A) (i : ℕ) (d e : A) → i < length xs → get_or xs i d ≡ get_or xs i e
  get_or-inside [] i d e h = absurd (omega arith)
  get_or-inside (x ∷ xs) zero d e h = refl
  get_or-inside (x ∷ xs) (suc i) d e h = get_or-inside xs i d e (omega arith)

  pub member-at : (xs : List A) (i : ℕ) (d : A) → i < length xs → Memᴰ (get_or xs i d) xs
  member-at [] i d h = absurd (omega arith)
  member-at (x ∷ xs) zero d h = Memᴰ.head refl
  member-at (x ∷ xs) (suc i) d h = Memᴰ.tail (member-at xs i d (omega arith))

  pub place_of : (x : A) (xs : List A) (d : A) → Memᴰ x xs → (i : ℕ) × (i < length xs) × (get_or xs i d ≡ x)
  place_of x [] d m = elim m [ ]
  place_of x (y ∷ ys) d m = go (Memᴰ.cases_cons m) (place_of x ys d)
    where
      go : (x ≡ y) ⊎ Memᴰ x ys → (Memᴰ x ys → (i : ℕ) × (i < length ys) × (get_or ys i d ≡ x))
          → (i : ℕ) × (i < length (y ∷ ys)) × (get_or (y ∷ ys) i d ≡ x)
      go (inl e) later = (0, omega arith, sym e)
      go (inr l) later = let r = later l in (suc r.0, omega (arith, r.1), r.2)

module _ {A B : Type 0} (f : A → B) where
  pub get_or-map-inside : (xs : List A) (i : ℕ) (d : A) (e : B) → i < length xs → get_or (map f xs) i e ≡ f (get_or xs i d)
  get_or-map-inside [] i d e h = absurd (omega arith)
  get_or-map-inside (x ∷ xs) zero d e h = refl
  get_or-map-inside (x ∷ xs) (suc i) d e h = get_or-map-inside xs i d e (omega arith)

-- ---- lists in arrays

module _ {A : Type 0} (n : ℕ) (unused : A) (xs : List A) where
  pub get_or-filled : (i : ℕ) (d : A) → i < n → get_or (filled n unused xs) i d ≡ get_or xs i unused
  unfolding filled
  get_or-filled i d h = go (dec_lt i (length xs))
    where
      go : Dec (i < length xs) → get_or (xs ++ replicate (n - length xs) unused) i d ≡ get_or xs i unused
      go (yes l) = get_or-append xs (replicate (n - length xs) unused) d i l ∙ get_or-inside xs i d unused l
      go (no l) =
          let past : length xs + (i - length xs) ≡ i = omega arith in
          ap (λ (m : ℕ). get_or (xs ++ replicate (n - length xs) unused) m d) (sym past)
          ∙ get_or-append-add xs (replicate (n - length xs) unused) (i - length xs) d
          ∙ get_or-replicate (n - length xs) (i - length xs) unused d (omega arith)
          ∙ sym (get_or-eq_default xs unused (omega arith))

  pub get_or-firsts : (i : ℕ) (d : A) → i < n → get_or (firsts n unused xs) i d ≡ get_or xs i unused
  unfolding firsts
  get_or-firsts i d h = get_or-take n (filled n unused xs) i d h ∙ get_or-filled i d h

  pub length-firsts : length (firsts n unused xs) ≡ n
  unfolding firsts filled
  length-firsts = length-take n (xs ++ replicate (n - length xs) unused) ∙ simp (length-append, length-replicate) (omega arith)

-- what holds of each member holds of all
pub to-all : {A : Type 0} (P : A → Type 0) (xs : List A) → ((x : A) → Memᴰ x xs → P x) → All P xs
to-all P [] h = tt
to-all P (x ∷ xs) h = (h x (Memᴰ.head refl), to-all P xs (λ y m. h y (Memᴰ.tail m)))

-- ---- those that pass a test

module _ {A : Type 0} (test : A → Bool) where
  pub in-those : {x : A} (xs : List A) → Memᴰ x xs → T (test x) → Memᴰ x (those test xs)
  unfolding those
  in-those {x = x} [] x3 t = elim x3 [ ]
  in-those {x} (y ∷ ys) (Memᴰ.head e) t = go (test y) (rw e at t)
    where
      go : (b : Bool) → T b → Memᴰ x (cond b (y ∷ those test ys) (those test ys))
      go true t = Memᴰ.head e
      go false t = absurd t
  in-those {x} (y ∷ ys) (Memᴰ.tail m) t = go (test y) (in-those ys m t)
    where
      go : (b : Bool) → Memᴰ x (those test ys) → Memᴰ x (cond b (y ∷ those test ys) (those test ys))
      go true m = Memᴰ.tail m
      go false m = m

  pub of-those : {x : A} (xs : List A) → Memᴰ x (those test xs) → Memᴰ x xs × T (test x)
  unfolding those
  of-those [] m = absurd (Memᴰ.not-nil m)
  of-those {x} (y ∷ ys) m = go (test y) refl m (λ n. of-those ys n)
    where
      Found : Type 0
      Found = Memᴰ x (y ∷ ys) × T (test x)

      cases : test y ≡ true → (Memᴰ x (those test ys) → Memᴰ x ys × T (test x)) → (x ≡ y) ⊎ Memᴰ x (those test ys) → Found
      cases e k (inl i) = (Memᴰ.head i, rw i (of-true e))
      cases e k (inr n) = let r = k n in (Memᴰ.tail r.0, r.1)

      go : (b : Bool) → test y ≡ b → Memᴰ x (cond b (y ∷ those test ys) (those test ys)) → (Memᴰ x (those test ys) → Memᴰ x ys × T (test x)) → Found
      go true e n k = cases e k (Memᴰ.cases_cons n)
      go false e n k = let r = k n in (Memᴰ.tail r.0, r.1)

  pub those-length : (xs : List A) → length (those test xs) ≤ length xs
  unfolding those
  those-length [] = omega arith
  those-length (x ∷ xs) = go (test x) (those-length xs)
    where
      go : (b : Bool) → length (those test xs) ≤ length xs → length (cond b (x ∷ those test xs) (those test xs)) ≤ length (x ∷ xs)
      go true h = omega arith
      go false h = omega arith

-- ---- maps, and what holds of each

pub those-map : {A B : Type 0} (h : A → B) (f : A → Bool) (g : B → Bool) (xs : List A) → All (λ x. f x ≡ g (h x)) xs → map h (those f xs) ≡ those g (map h xs)
unfolding those
those-map h f g [] a = refl
those-map h f g (x ∷ xs) a = rw a.0 (go (g (h x)) (those-map h f g xs a.1))
  where
    go : (b : Bool) → map h (those f xs) ≡ those g (map h xs) → map h (cond b (x ∷ those f xs) (those f xs)) ≡ cond b (h x ∷ those g (map h xs)) (those g (map h xs))
    go true e = ap (h x ∷◌) e
    go false e = e

pub those-all : {A : Type 0} (P : A → Type 0) (test : A → Bool) (xs : List A) → All P xs → All P (those test xs)
unfolding those
those-all P test [] a = tt
those-all P test (x ∷ xs) a = go (test x) (those-all P test xs a.1)
  where
    go : (b : Bool) → All P (those test xs) → All P (cond b (x ∷ those test xs) (those test xs))
    go true r = (a.0, r)
    go false r = r

pub all_append : {A : Type 0} (P : A → Type 0) (xs ys : List A) → All P xs → All P ys → All P (xs ++ ys)
all_append P [] ys a b = b
all_append P (x ∷ xs) ys a b = (a.0, all_append P xs ys a.1 b)

pub those-append : {A : Type 0} (test : A → Bool) (xs ys : List A) → those test (xs ++ ys) ≡ those test xs ++ those test ys
unfolding those
those-append test [] ys = refl
those-append test (x ∷ xs) ys = go (test x) (those-append test xs ys)
  where
    go : (b : Bool) → those test (xs ++ ys) ≡ those test xs ++ those test ys → cond b (x ∷ those test (xs ++ ys)) (those test (xs ++ ys)) ≡ cond b (x ∷ those test xs) (those test xs) ++ those test ys
    go true e = ap (x ∷◌) e
    go false e = e

-- a map by two functions that agree
pub map_same : {A B : Type 0} (f g : A → B) (xs : List A) → All (λ x. f x ≡ g x) xs → map f xs ≡ map g xs
map_same f g [] h = refl
map_same f g (x ∷ xs) h = ap₂ ◌∷◌ h.0 (map_same f g xs h.1)
