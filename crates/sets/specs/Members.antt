-- Sets of numbers below a width. A set is itself a number, bit i for member i, and everything is over the width: a wider set is the same definition at another number.
use Rattle.std.specs.Prelude.{ℕ, zero, suc, ◌+◌, ◌/◌, ◌%◌, ◌^◌, Bool, false, cond, not, ◌&&◌, ◌||◌, leb, eqb}

-- membership: bit i of the set is 1 [2.7]
unfoldable pub has : ℕ → ℕ → Bool
has a i = eqb (a / 2 ^ i % 2) 1

-- the set of those numbers below the width that pass a test [2.7]
unfoldable pub set_of : ℕ → (ℕ → Bool) → ℕ
set_of zero test = 0
set_of (suc width) test = set_of width test + cond (test width) (2 ^ width) 0

-- how many of the numbers below the width pass a test [2.8]
unfoldable pub how_many : ℕ → (ℕ → Bool) → ℕ
how_many zero test = 0
how_many (suc width) test = how_many width test + cond (test width) 1 0

-- the empty set [2.8]
unfoldable pub empty_set : ℕ → ℕ
empty_set width = set_of width (λ i. false)

-- the set of one number; for a number that is not below the width it is empty [2.8, 2.9]
unfoldable pub one_set : ℕ → ℕ → ℕ
one_set width q = set_of width (λ i. eqb i q)

-- the set that a word has: bit i of the word for member i, bits from the width on left out [2.10]
abbrev pub of_word : ℕ → ℕ → ℕ
of_word width word = word % 2 ^ width

-- what is in one set or in the other [2.8]
unfoldable pub union : ℕ → ℕ → ℕ → ℕ
union width a b = set_of width (λ i. has a i || has b i)

-- has the set a member at or past the count? Bit i stands for member i, so this is a comparison of numbers [2.8]
abbrev pub has_past : ℕ → ℕ → Bool
has_past a count = leb (2 ^ count) a

-- the set with one number taken out; a number that is not in it changes nothing [2.8, 2.9]
unfoldable pub without : ℕ → ℕ → ℕ → ℕ
without width a q = set_of width (λ i. has a i && not (eqb i q))

-- the number of members [2.8]
unfoldable pub size : ℕ → ℕ → ℕ
size width a = how_many width (λ i. has a i)

-- the width of a set of states: states are 0 to 15 [2.1, 2.7]
abbrev pub state_width : ℕ
state_width = 16
