-- The promises on values, tables and lent bytes are kept.
use Prim.Native.Nat.{ℕ, ◌+◌, ◌≤◌}
use native.Mathlib.Omega.{arith}
use native.Mathlib.Decide.{dec_le}
use mathlib.Core.Path.{◌≡◌, refl, sym, ◌∙◌, subst}
use mathlib.Core.Bool.{true, false}
use mathlib.Core.List.{List, ◌++◌}
use lib.ListN.{length, take, drop, length-append, length-drop}
use lib.Seq.{sets, sets-eq, length-sets}
use Rattle.ground.specs.Lists.{All}
use Rattle.buffers.specs.Writing.{Puts}
use Rattle.ground.proofs.Lists.{all_append}
use Rattle.ground.proofs.Deciding.{decides-yes, decides-no}
use Rattle.automaton.specs.declared.Automaton.{Automaton}
use Rattle.automaton.specs.Held.{Valid}
use Rattle.automaton.specs.File.{file_of}
use Rattle.automaton.specs.Refusals.{refusal, no_refusal}
use Rattle.automaton.specs.Answers.{held_by}
use Rattle.automaton.proofs.Values.{dec-valid}
use Rattle.automaton.proofs.Files.FileOf.{file-length}
use Rattle.writer.specs.Answers.{writing, Written}
use Rattle.expressions.specs.declared.Shape.{Shape}
use Rattle.expressions.specs.Words.{table_of, put_node}
use Rattle.expressions.specs.Unfolding.{expr_at}
use Rattle.expressions.specs.Soundness.{Fits, completed, Sound}
use Rattle.expressions.specs.Sizes.{held_size, sizes_of}
use Rattle.expressions.specs.Making.{Room, Makes}
use Rattle.expressions.specs.Answers.{SoundAnswer, measured, Measures}
use Rattle.expressions.proofs.Words.{length-table, length-put}
use Rattle.expressions.proofs.Written.{length-sizes}
use Rattle.expressions.proofs.Decidable.{dec-fits, dec-room, dec-sound}
use Rattle.listing.specs.Answers.{listed, listing_of, Lists}
use Rattle.claims.specs.Types.{Byte, Word, Long, Bytes, Words, WritingFits, RefusalFits, MeasuredFits, ListedFits}
use Rattle.claims.specs.Kept.{YesFits, Kept, Stays, KeptBoth}
use Rattle.claims.proofs.Outcomes.TypedValues.{all_take, all_drop, front-typed, file-bytes}
use Rattle.claims.proofs.Outcomes.TypedTables.{shape-fits, completed-fits, put_typed, size_word, sizes-words, listing-bytes}

-- what stands first, and then the rest of the buffer
pub over-front : (front before : List ℕ) (n : ℕ) → length front ≡ n → n ≤ length before → length (front ++ drop n before) ≡ length before
over-front front before n e h = omega (arith, length-append front (drop n before), length-drop n before)

pub stays-front : (P : ℕ → Type 0) (front before : List ℕ) (n : ℕ) → length front ≡ n → n ≤ length before → All P front → Stays (All P) before (front ++ drop n before)
stays-front P front before n e h a = (over-front front before n e h, front-typed P front before n a)

-- a buffer that is left alone
pub stays_same : (Typed : List ℕ → Type 0) (before : List ℕ) → Stays Typed before before
stays_same Typed before = (refl, λ t. t)

-- ---- bytes put into lent bytes

module _ (before : List ℕ) (at : ℕ) (bytes : List ℕ) (long : Long (length before)) (place : Long at) (b : Bytes bytes) where
  sets-bytes : at + length bytes ≤ length before → Bytes before → Bytes (sets before at bytes)
  sets-bytes h t =
      subst Bytes (sym (sets-eq bytes before at h))
      (all_append Byte (take at before ++ bytes) (drop (at + length bytes) before) (all_append Byte (take at before) bytes (all_take Byte at before t) b) (all_drop Byte (at + length bytes) before t))

  pub puts-kept : KeptBoth Long Bytes before (Puts before at bytes)
  puts-kept = go (dec_le (at + length bytes) (length before))
    where
      go : Dec (at + length bytes ≤ length before) → KeptBoth Long Bytes before (Puts before at bytes)
      go (yes h) = (
        sets before at bytes,
        at + length bytes,
        record { fits = λ _. record { bytes_there = refl; next_place = refl }; short = λ l. absurd (omega arith) },
        (length-sets before at bytes, sets-bytes h),
        omega arith,
      )
      go (no n) = (before, at, record { fits = λ h. absurd (n h); short = λ l. (refl, refl) }, stays_same Bytes before, place)

-- ---- a value

pub write_kept : (value : Automaton) (before : List ℕ) → KeptBoth WritingFits Bytes before (Written value before)
write_kept value before = go (dec-valid (held_by value)) (dec_le (length (file_of (held_by value))) (length before))
  where
    go : Dec (Valid (held_by value)) → Dec (length (file_of (held_by value)) ≤ length before) → KeptBoth WritingFits Bytes before (Written value before)
    go (no n) d = (before, writing (refusal 4) 0, record { unfit = λ k. (refl, refl); short = λ v l. absurd (n v); done = λ v l. absurd (n v) }, stays_same Bytes before, omega arith)
    go (yes v) (no n) = (before, writing (refusal 6) 0, record { unfit = λ k. absurd (k v); short = λ w l. (refl, refl); done = λ w l. absurd (n l) }, stays_same Bytes before, omega arith)
    go (yes v) (yes h) =
        let file = file_of (held_by value) in (
          file ++ drop (length file) before,
          writing no_refusal (length file),
          record { unfit = λ k. absurd (k v); short = λ w l. absurd (omega arith); done = λ w l. (refl, refl) },
          stays-front Byte file before (length file) refl h (file-bytes (held_by value) v),
          omega (arith, file-length (held_by value) v),
        )

-- ---- tables

pub sound-kept : (words : List ℕ) (count answer : ℕ) → Kept YesFits (SoundAnswer words count answer)
sound-kept words count answer = go (dec-sound words count answer)
  where
    go : Dec (Sound words count answer) → Kept YesFits (SoundAnswer words count answer)
    go (yes s) = (true, decides-yes s, tt)
    go (no n) = (false, decides-no n, tt)

pub make-kept : (before : List ℕ) (count : ℕ) (shape : Shape) → KeptBoth RefusalFits Words before (Makes before count shape)
make-kept before count shape = go (dec-fits count shape) (dec-room before count)
  where
    go : Dec (Fits count shape) → Dec (Room before count) → KeptBoth RefusalFits Words before (Makes before count shape)
    go (no n) d = (before, refusal 8, record { unfit = λ k. (refl, refl); full = λ f k. absurd (n f); done = λ f m. absurd (n f) }, stays_same Words before, omega arith)
    go (yes f) (no n) = (before, refusal 6, record { unfit = λ k. absurd (k f); full = λ g k. (refl, refl); done = λ g m. absurd (n m) }, stays_same Words before, omega arith)
    go (yes f) (yes m) =
        let node = completed (table_of before count) shape in
        let few = m.few in
        let typed : Words before → Words (put_node before count node) = λ w. put_typed before w count node (completed-fits before w count shape (shape-fits count shape (omega arith) f)) in (
          put_node before count node,
          refusal 0,
          record { unfit = λ k. absurd (k f); full = λ g k. absurd (k m); done = λ g l. (refl, refl) },
          (length-put before count node m.roomy, typed),
          omega arith,
        )

pub measure-kept : (words : List ℕ) (count answer : ℕ) (before : List ℕ) → KeptBoth MeasuredFits Words before (Measures words count answer before)
measure-kept words count answer before = go (dec-sound words count answer) (dec_le count (length before))
  where
    go : Dec (Sound words count answer) → Dec (count ≤ length before) → KeptBoth MeasuredFits Words before (Measures words count answer before)
    go (no n) d = (before, measured 8 0, record { unsound = λ k. (refl, refl); short = λ s l. absurd (n s); done = λ s l. absurd (n s) }, stays_same Words before, omega arith)
    go (yes s) (no n) = (before, measured 6 0, record { unsound = λ k. absurd (k s); short = λ t l. (refl, refl); done = λ t l. absurd (n l) }, stays_same Words before, omega arith)
    go (yes s) (yes h) = (
      sizes_of (table_of words count) ++ drop count before,
      measured 0 (held_size (expr_at (table_of words count) answer)),
      record { unsound = λ k. absurd (k s); short = λ t l. absurd (omega arith); done = λ t l. (refl, refl) },
      stays-front Word (sizes_of (table_of words count)) before count (length-sizes (table_of words count) ∙ length-table words count) h (sizes-words (table_of words count)),
      (omega arith, size_word (expr_at (table_of words count) answer)),
    )

pub list-kept : (words : List ℕ) (count answer : ℕ) (before : List ℕ) → Long (length before) → KeptBoth ListedFits Bytes before (Lists words count answer before)
unfolding listing_of
list-kept words count answer before long = go (dec-sound words count answer) (dec_le (length (listing_of words count answer)) (length before))
  where
    go : Dec (Sound words count answer) → Dec (length (listing_of words count answer) ≤ length before) → KeptBoth ListedFits Bytes before (Lists words count answer before)
    go (no n) d = (before, listed 8 0, record { unsound = λ k. (refl, refl); short = λ s l. absurd (n s); done = λ s l. absurd (n s) }, stays_same Bytes before, omega arith)
    go (yes s) (no n) = (before, listed 6 0, record { unsound = λ k. absurd (k s); short = λ t l. (refl, refl); done = λ t l. absurd (n l) }, stays_same Bytes before, omega arith)
    go (yes s) (yes h) =
        let text = listing_of words count answer in (
          text ++ drop (length text) before,
          listed 0 (length text),
          record { unsound = λ k. absurd (k s); short = λ t l. absurd (omega arith); done = λ t l. (refl, refl) },
          stays-front Byte text before (length text) refl h (listing-bytes (table_of words count) answer),
          (omega arith, omega arith),
        )
