-- What a file is found to be, one record at a time, and what `read` returns then. The number of turns does not matter as long as there are enough.
use Prim.Native.Nat.{ℕ, zero, suc, ◌+◌, ◌≤◌, ◌<◌}
use mathlib.Core.Bool.{Bool, true, false, not}
use mathlib.Core.Path.{◌≡◌, refl, ap, ◌∙◌}
use mathlib.Core.List.{List}
use native.Mathlib.Omega.{arith}
use lib.Dec.{ltb}
use lib.ListN.{length, take, drop, length-drop}
use lib.Seq.{drop-drop}
use borrow.Author.Tests.{le-ltb, ltb-false, not-false}
use Rattle.automaton.specs.Held.{Held}
use Rattle.automaton.specs.Checks.{Verdict, holds, fault, SoFar, nothing, given, Found, wrong, more, end, wrong_if, number_at, is_none, kind_allowed, length_allowed, values, record_found, follow, verdict_from, verdict}
use Rattle.automaton.specs.Refusals.{refusal, no_refusal}
use Rattle.automaton.specs.Answers.{placed, no_automaton, reading_of, read_answer}
use Rattle.automaton.specs.Inside.{verdict_at, rest_answer}

-- the checks before a record's values have passed
pub record Passed (allowed : ℕ → Bool) (bytes : List ℕ) : Type 0 where
  pub four : 4 ≤ length bytes
  pub kind : allowed (number_at bytes 2) ≡ true
  pub sized : length_allowed (number_at bytes 2) (number_at bytes 0) ≡ true
  pub there : 4 + number_at bytes 0 ≤ length bytes

module _ (so_far : SoFar) (bytes : List ℕ) where
  pub found-values : Passed (kind_allowed so_far) bytes
      → record_found so_far bytes ≡ values so_far (number_at bytes 2) (take (number_at bytes 0) (drop 4 bytes))
  unfolding record_found
  found-values p = rw (le-ltb _ _ p.four, p.kind, p.sized, le-ltb _ _ p.there)

  -- a record that is not wrong has passed
  not-wrong : ((n : ℕ) → record_found so_far bytes ≡ wrong n → ⊥) → Passed (kind_allowed so_far) bytes
  unfolding record_found
  not-wrong =
      go (ltb (length bytes) 4) refl (not (kind_allowed so_far (number_at bytes 2))) refl (not (length_allowed (number_at bytes 2) (number_at bytes 0))) refl
      (ltb (length bytes) (4 + number_at bytes 0)) refl (values so_far (number_at bytes 2) (take (number_at bytes 0) (drop 4 bytes)))
    where
      go : (a : Bool) → ltb (length bytes) 4 ≡ a → (b : Bool) → not (kind_allowed so_far (number_at bytes 2)) ≡ b
          → (c : Bool) → not (length_allowed (number_at bytes 2) (number_at bytes 0)) ≡ c → (d : Bool) → ltb (length bytes) (4 + number_at bytes 0) ≡ d
          → (found : Found) → ((n : ℕ) → wrong_if a 1 (wrong_if b 2 (wrong_if c 3 (wrong_if d 1 found))) ≡ wrong n → ⊥)
          → Passed (kind_allowed so_far) bytes
      go true p b q c r d s found right = absurd (right 1 refl)
      go false p true q c r d s found right = absurd (right 2 refl)
      go false p false q true r d s found right = absurd (right 3 refl)
      go false p false q false r true s found right = absurd (right 1 refl)
      go false p false q false r false s found right =
          record { four = ltb-false _ _ p; kind = not-false _ q; sized = not-false _ r; there = ltb-false _ _ s }

  pub more-passed : (held : Held) → record_found so_far bytes ≡ more held → Passed (kind_allowed so_far) bytes
  more-passed held e = not-wrong (λ n w. let z : ◌≡◌ {A = ℕ} 0 1 = cc in omega arith)

  pub end-passed : (held : Held) → record_found so_far bytes ≡ end held → Passed (kind_allowed so_far) bytes
  end-passed held e = not-wrong (λ n w. let z : ◌≡◌ {A = ℕ} 0 1 = cc in omega arith)

-- ---- turns

taken-less : (t : ℕ) (bytes : List ℕ) → 4 ≤ length bytes → length bytes < suc t → length (drop (4 + number_at bytes 0) bytes) < t
taken-less t bytes four h = simp length-drop (omega arith)

pub enough : (t u offset : ℕ) (so_far : SoFar) (bytes : List ℕ) → length bytes < t → length bytes < u → verdict_from t offset so_far bytes ≡ verdict_from u offset so_far bytes
unfolding verdict_from
enough zero u offset so_far bytes h k = absurd (omega arith)
enough (suc t) zero offset so_far bytes h k = absurd (omega arith)
enough (suc t) (suc u) offset so_far bytes h k =
    go (record_found so_far bytes) refl
    (λ held p. enough t u (offset + (4 + number_at bytes 0)) (given held) (drop (4 + number_at bytes 0) bytes) (taken-less t bytes p.four h) (taken-less u bytes p.four k))
  where
    rest : ℕ → Held → Verdict
    rest turns held = verdict_from turns (offset + (4 + number_at bytes 0)) (given held) (drop (4 + number_at bytes 0) bytes)

    go : (found : Found) → record_found so_far bytes ≡ found → ((held : Held) → Passed (kind_allowed so_far) bytes → rest t held ≡ rest u held)
        → follow found offset (rest t) (is_none (drop 4 bytes)) ≡ follow found offset (rest u) (is_none (drop 4 bytes))
    go (wrong n) e ih = refl
    go (more held) e ih = ih held (more-passed so_far bytes held e)
    go (end held) e ih = last (is_none (drop 4 bytes))
      where
        last : (b : Bool) → follow (end held) offset (rest t) b ≡ follow (end held) offset (rest u) b
        last true = refl
        last false = refl

-- ---- one record of a file, and where a fault of it lies

module _ (file : List ℕ) (offset : ℕ) (so_far : SoFar) where
  pub at-wrong : (n : ℕ) → record_found so_far (drop offset file) ≡ wrong n → verdict_at file offset so_far ≡ fault n offset
  unfolding verdict_at verdict_from
  at-wrong n e = rw e

  one-turn : (held : Held) → record_found so_far (drop offset file) ≡ more held
      → verdict_at file offset so_far
      ≡ verdict_from (length (drop offset file)) (offset + (4 + number_at (drop offset file) 0)) (given held) (drop (4 + number_at (drop offset file) 0) (drop offset file))
  unfolding verdict_at verdict_from
  one-turn held e = ap (λ (found : Found). follow found offset (λ held'. verdict_from (length (drop offset file)) (offset + (4 + number_at (drop offset file) 0)) (given held') (drop (4 + number_at (drop offset file) 0) (drop offset file))) (is_none (drop 4 (drop offset file)))) e

  pub at_more : (held : Held) → record_found so_far (drop offset file) ≡ more held
      → verdict_at file offset so_far ≡ verdict_at file (offset + (4 + number_at (drop offset file) 0)) (given held)
  unfolding verdict_at
  at_more held e =
      let bytes = drop offset file in
      let taken = 4 + number_at bytes 0 in
      let p = more-passed so_far bytes held e in
      one-turn held e
      ∙ enough (length bytes) (suc (length (drop taken bytes))) (offset + taken) (given held) (drop taken bytes) (taken-less (length bytes) bytes p.four (omega arith)) (omega arith)
      ∙ ap (λ (rest : List ℕ). verdict_from (suc (length rest)) (offset + taken) (given held) rest) (drop-drop taken offset file)

  pub at-end : (held : Held) → record_found so_far (drop offset file) ≡ end held
      → verdict_at file offset so_far ≡ follow (end held) offset (λ h. holds h) (is_none (drop 4 (drop offset file)))
  unfolding verdict_at verdict_from
  at-end held e = ap (λ (found : Found). follow found offset (λ held'. verdict_from (length (drop offset file)) (offset + (4 + number_at (drop offset file) 0)) (given held') (drop (4 + number_at (drop offset file) 0) (drop offset file))) (is_none (drop 4 (drop offset file)))) e ∙ last (is_none (drop 4 (drop offset file)))
    where
      last : (b : Bool) → follow (end held) offset (λ held'. verdict_from (length (drop offset file)) (offset + (4 + number_at (drop offset file) 0)) (given held') (drop (4 + number_at (drop offset file) 0) (drop offset file))) b ≡ follow (end held) offset (λ h. holds h) b
      last true = refl
      last false = refl

-- ---- what `read` returns, one record at a time: where a fault lies does not matter

same-answer : (turns o p : ℕ) (so_far : SoFar) (bytes : List ℕ) → reading_of (verdict_from turns o so_far bytes) ≡ reading_of (verdict_from turns p so_far bytes)
unfolding verdict_from reading_of
same-answer zero o p so_far bytes = refl
same-answer (suc turns) o p so_far bytes =
    go (record_found so_far bytes) (is_none (drop 4 bytes))
    (λ held. same-answer turns (o + (4 + number_at bytes 0)) (p + (4 + number_at bytes 0)) (given held) (drop (4 + number_at bytes 0) bytes))
  where
    rest : ℕ → Held → Verdict
    rest offset held = verdict_from turns (offset + (4 + number_at bytes 0)) (given held) (drop (4 + number_at bytes 0) bytes)

    go : (found : Found) (last : Bool) → ((held : Held) → reading_of (rest o held) ≡ reading_of (rest p held))
        → reading_of (follow found o (rest o) last) ≡ reading_of (follow found p (rest p) last)
    go (wrong n) last ih = refl
    go (more held) last ih = ih held
    go (end held) true ih = refl
    go (end held) false ih = refl

module _ (so_far : SoFar) (bytes : List ℕ) where
  pub answer-wrong : (n : ℕ) → record_found so_far bytes ≡ wrong n → rest_answer so_far bytes ≡ record { refusal = refusal n; automaton = no_automaton }
  unfolding rest_answer verdict_from reading_of
  answer-wrong n e = rw e

  pub answer-more : (held : Held) → record_found so_far bytes ≡ more held → rest_answer so_far bytes ≡ rest_answer (given held) (drop (4 + number_at bytes 0) bytes)
  unfolding rest_answer verdict_from
  answer-more held e =
      let taken = 4 + number_at bytes 0 in
      let p = more-passed so_far bytes held e in
      ap (λ (found : Found). reading_of (follow found 0 (λ next. verdict_from (length bytes) (0 + taken) (given next) (drop taken bytes)) (is_none (drop 4 bytes)))) e
      ∙ same-answer (length bytes) (0 + taken) 0 (given held) (drop taken bytes)
      ∙ ap reading_of (enough (length bytes) (suc (length (drop taken bytes))) 0 (given held) (drop taken bytes) (taken-less (length bytes) bytes p.four (omega arith)) (omega arith))

  module _ (held : Held) (e : record_found so_far bytes ≡ end held) where
    pub answer-end : is_none (drop 4 bytes) ≡ true → rest_answer so_far bytes ≡ record { refusal = no_refusal; automaton = placed held }
    unfolding rest_answer verdict_from reading_of
    answer-end last = rw (e, last)

    pub answer-past : is_none (drop 4 bytes) ≡ false → rest_answer so_far bytes ≡ record { refusal = refusal 5; automaton = no_automaton }
    unfolding rest_answer verdict_from reading_of
    answer-past last = rw (e, last)

-- nothing was read before the first record
pub answer-whole : (file : List ℕ) → rest_answer nothing file ≡ read_answer file
unfolding rest_answer read_answer verdict
answer-whole file = refl
