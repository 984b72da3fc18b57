-- What `list` promises, of what it is lent and answers.
use Rattle.std.specs.Prelude.{ℕ, ◌≤◌, ◌<◌, ◌≡◌, List, ◌++◌, length, drop}
use Rattle.automaton.specs.Refusals.{refusal}
use Rattle.expressions.specs.Words.{table_of}
use Rattle.expressions.specs.Soundness.{Sound}
use Rattle.automaton.specs.declared.Extent.{Extent}
use Rattle.listing.specs.Listing.{plain_label, listing}

-- the answer of `list` with this refusal and this length
abbrev pub listed : ℕ → ℕ → Extent
listed number size = record { refusal = refusal number; length = size }

-- the listing of the first so many nodes of the words, with labels as numbers [9.4] to [9.7]
unfoldable pub listing_of : List ℕ → ℕ → ℕ → List ℕ
listing_of words count answer = listing plain_label (table_of words count) answer

-- what `list` promises, of the words, the bytes before and after, and its result: 8 for words that are not sound, then 6 for too few bytes, and nothing changes; else the bytes begin with the listing, and its length is returned [9.8]
pub record Lists (words : List ℕ) (count answer : ℕ) (before after : List ℕ) (result : Extent) : Type 0 where
  pub unsound : (Sound words count answer → ⊥) → (result ≡ listed 8 0) × (after ≡ before)
  pub short : Sound words count answer → length before < length (listing_of words count answer) → (result ≡ listed 6 0) × (after ≡ before)
  pub done : Sound words count answer → length (listing_of words count answer) ≤ length before
      → (result ≡ listed 0 (length (listing_of words count answer)))
      × (after ≡ listing_of words count answer ++ drop (length (listing_of words count answer)) before)
