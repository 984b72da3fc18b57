-- What is written into lent bytes and lent words.
use Rattle.std.specs.Prelude.{ℕ, ◌+◌, ◌<◌, ◌≤◌, ◌≡◌, List, length, replicate}
use Rattle.std.proofs.lemmas.List.Edits.{sets}

-- these bytes stand from this place on, all else is unchanged, and the answer is the place after them [2.11]
pub record Wrote (before : List ℕ) (at : ℕ) (bytes : List ℕ) (after : List ℕ) (next : ℕ) : Type 0 where
  pub bytes_there : after ≡ sets before at bytes
  pub next_place : next ≡ at + length bytes

-- what a function that puts bytes promises: where they fit from that place on, they stand there; where they do not, nothing is changed and the answer is the given place [2.11]
pub record Puts (before : List ℕ) (at : ℕ) (bytes : List ℕ) (after : List ℕ) (next : ℕ) : Type 0 where
  pub fits : at + length bytes ≤ length before → Wrote before at bytes after next
  pub short : length before < at + length bytes → (after ≡ before) × (next ≡ at)

-- as many words, and each of them 0 [7.21]
abbrev pub all_zero : List ℕ → List ℕ
all_zero before = replicate (length before) 0
