-- Numbers in decimal: one digit more for each division by ten, the digits of a number below 10,000, and how many digits there are.
use Prim.Native.Nat.{ℕ, zero, suc, ◌+◌, ◌*◌, ◌/◌, ◌^◌, ◌<◌, ◌≤◌}
use native.Mathlib.Nat.{pow-suc, one-le-pow}
use native.Mathlib.Decide.{dec_lt}
use native.Mathlib.Omega.{arith}
use mathlib.Core.Path.{◌≡◌, refl, sym, ◌∙◌, ap}
use mathlib.Core.Bool.{Bool, true, false, cond}
use mathlib.Core.List.{List, [], ◌∷◌, ◌++◌, append_assoc}
use lib.ListN.{length, length-append, set, take, drop}
use Rattle.std.proofs.lemmas.List.{take_at, drop_at, drop-set, length-take-le, take-append-drop}
use lib.Dec.{ltb}
use borrow.Author.Tests.{lt-ltb, le-ltb, ltb-false}
use Rattle.buffers.specs.Decimal.{last_digit, decimal_in, decimal}

-- any number of turns above the number gives the same digits
turns_same : (f g n : ℕ) → n < f → n < g → decimal_in f n ≡ decimal_in g n
unfolding decimal_in
turns_same zero g n h k = absurd (omega arith)
turns_same (suc f) zero n h k = absurd (omega arith)
turns_same (suc f) (suc g) n h k = go (ltb n 10) refl (turns_same f g (n / 10))
  where
    go : (b : Bool) → ltb n 10 ≡ b → (n / 10 < f → n / 10 < g → decimal_in f (n / 10) ≡ decimal_in g (n / 10))
        → cond b (last_digit n ∷ []) (decimal_in f (n / 10) ++ (last_digit n ∷ [])) ≡ cond b (last_digit n ∷ []) (decimal_in g (n / 10) ++ (last_digit n ∷ []))
    go true e r = refl
    go false e r =
        let l : 10 ≤ n = ltb-false n 10 e in
        ap (λ (x : List ℕ). x ++ (last_digit n ∷ [])) (r (omega arith) (omega arith))

pub decimal-one : (n : ℕ) → n < 10 → decimal n ≡ last_digit n ∷ []
unfolding decimal decimal_in
decimal-one n h = rw (lt-ltb n 10 h)

pub decimal-more : (n : ℕ) → 10 ≤ n → decimal n ≡ decimal (n / 10) ++ (last_digit n ∷ [])
unfolding decimal decimal_in
decimal-more n h = rw (le-ltb n 10 h) (ap (λ (x : List ℕ). x ++ (last_digit n ∷ [])) (turns_same n (suc (n / 10)) (n / 10) (omega arith) (omega arith)))

pub decimal-two : (n : ℕ) → 10 ≤ n → n < 100 → decimal n ≡ last_digit (n / 10) ∷ last_digit n ∷ []
decimal-two n l h = decimal-more n l ∙ ap (λ (x : List ℕ). x ++ (last_digit n ∷ [])) (decimal-one (n / 10) (omega arith))

pub decimal-three : (n : ℕ) → 100 ≤ n → n < 1000 → decimal n ≡ last_digit (n / 100) ∷ last_digit (n / 10) ∷ last_digit n ∷ []
decimal-three n l h =
    let e : n / 10 / 10 ≡ n / 100 = omega arith in
    decimal-more n (omega arith) ∙ ap (λ (x : List ℕ). x ++ (last_digit n ∷ [])) (decimal-two (n / 10) (omega arith) (omega arith)) ∙ rw e

pub decimal-four : (n : ℕ) → 1000 ≤ n → n < 10000 → decimal n ≡ last_digit (n / 1000) ∷ last_digit (n / 100) ∷ last_digit (n / 10) ∷ last_digit n ∷ []
decimal-four n l h =
    let e : n / 10 / 10 ≡ n / 100 = omega arith in
    let f : n / 10 / 100 ≡ n / 1000 = omega arith in
    decimal-more n (omega arith) ∙ ap (λ (x : List ℕ). x ++ (last_digit n ∷ [])) (decimal-three (n / 10) (omega arith) (omega arith)) ∙ rw (e, f)

-- ---- how many digits

-- one more for each division by ten
one_more : (n : ℕ) → 10 ≤ n → length (decimal n) ≡ length (decimal (n / 10)) + 1
one_more n h = ap length (decimal-more n h) ∙ length-append (decimal (n / 10)) (last_digit n ∷ [])

-- so one more than its logarithm
pub digits-log : (k n : ℕ) → 10 ^ k ≤ n → n < 10 * 10 ^ k → length (decimal n) ≡ k + 1
digits-log zero n l h = ap length (decimal-one n (omega arith))
digits-log (suc k) n l h =
    let m : 10 ^ suc k ≡ 10 ^ k * 10 = pow-suc 10 k in
    omega (arith, one_more n (omega (arith, one-le-pow k 10 (omega arith))), digits-log k (n / 10) (omega arith) (omega arith))

-- a number below a power of ten has no more digits than that
pub digits-below : (k n : ℕ) → n < 10 ^ suc k → length (decimal n) ≤ suc k
digits-below zero n h = omega (arith, ap length (decimal-one n (omega arith)))
digits-below (suc k) n h = go (dec_lt n 10) (λ l. digits-below k (n / 10) l)
  where
    go : Dec (n < 10) → (n / 10 < 10 ^ suc k → length (decimal (n / 10)) ≤ suc k) → length (decimal n) ≤ suc (suc k)
    go (yes l) later = omega (arith, ap length (decimal-one n l))
    go (no l) later =
        let m : 10 ^ suc (suc k) ≡ 10 ^ suc k * 10 = pow-suc 10 (suc k) in
        omega (arith, later (omega arith), one_more n (omega arith))

-- at most 20 for a number of 64 bits
pub digits-twenty : (n : ℕ) → n < 2 ^ 64 → length (decimal n) ≤ 20
digits-twenty n h = digits-below 19 n (omega arith)

-- at most 4 for a number below 10,000
pub digits-four : (n : ℕ) → n < 10000 → length (decimal n) ≤ 4
digits-four n h = digits-below 3 n (omega arith)

-- ---- the digits of a number, written from the last to the first

-- one more: from place i on they stand, and those before it are the digits of what is left
pub digits_more : (ds part : List ℕ) (left i j : ℕ) → i ≡ j + 1 → i ≤ length part → length part ≡ length ds → drop i part ≡ drop i ds → decimal left ≡ take i ds
    → (drop j (set part j (last_digit left)) ≡ drop j ds) × (0 < j → decimal (left / 10) ≡ take j ds)
digits_more ds part left i j e l same there ahead = go (dec_lt left 10)
  where
    all : decimal left ++ drop i part ≡ ds
    all = rw (ahead, there) (take-append-drop i ds)

    long : length (decimal left) ≡ i
    long = ap length ahead ∙ length-take-le i ds (omega arith)

    stored : drop j (set part j (last_digit left)) ≡ last_digit left ∷ drop i part
    stored = drop-set part j (last_digit left) (omega arith) ∙ rw e

    -- what is ahead but for its last
    step : (front : List ℕ) → decimal left ≡ front ++ (last_digit left ∷ []) → (drop j (set part j (last_digit left)) ≡ drop j ds) × (front ≡ take j ds)
    step front f =
        let whole : front ++ (last_digit left ∷ drop i part) ≡ ds = sym (append_assoc front (last_digit left ∷ []) (drop i part)) ∙ rw f at all in
        let j_is : length front ≡ j = omega (arith, long, ap length f, length-append front (last_digit left ∷ [])) in
        (rw (stored, ← whole) (sym (drop_at front _ j j_is)), rw (← whole) (sym (take_at front _ j j_is)))

    go : Dec (left < 10) → (drop j (set part j (last_digit left)) ≡ drop j ds) × (0 < j → decimal (left / 10) ≡ take j ds)
    go (yes h) = let f = decimal-one left h in ((step [] f).0, λ g. absurd (omega (arith, long, ap length f)))
    go (no h) = let r = step (decimal (left / 10)) (decimal-more left (omega arith)) in (r.0, λ _. r.1)
