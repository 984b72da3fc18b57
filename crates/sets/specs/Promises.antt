-- What each function on sets of states promises, of what it is given and what it returns.
use Rattle.std.specs.Prelude.{ℕ, Bool, ◌≡◌}
use Rattle.sets.specs.declared.StateSet.{StateSet}
use Rattle.sets.specs.Members.{has, empty_set, one_set, of_word, union, has_past, without, size, state_width}

-- `empty`: the set with no state [2.8]
abbrev pub IsEmpty : StateSet → Type 0
IsEmpty r = r.0 ≡ empty_set state_width

-- `one`: the set of this state alone [2.8, 2.9]
abbrev pub IsOne : ℕ → StateSet → Type 0
IsOne state r = r.0 ≡ one_set state_width state

-- `of_word`: the states of a word's low bits [2.10]
abbrev pub IsOfWord : ℕ → StateSet → Type 0
IsOfWord word r = r.0 ≡ of_word state_width word

-- `union`: what is in one or the other [2.8]
abbrev pub IsUnion : StateSet → StateSet → StateSet → Type 0
IsUnion self other r = r.0 ≡ union state_width self.0 other.0

-- `has`: yes exactly for a member [2.8, 2.9]
abbrev pub SaysMember : StateSet → ℕ → Bool → Type 0
SaysMember self state r = r ≡ has self.0 state

-- `past`: yes exactly where a member is at or past the count [2.8]
abbrev pub SaysPast : StateSet → ℕ → Bool → Type 0
SaysPast self count r = r ≡ has_past self.0 count

-- `without`: the same members but this one [2.8, 2.9]
abbrev pub IsWithout : StateSet → ℕ → StateSet → Type 0
IsWithout self state r = r.0 ≡ without state_width self.0 state

-- `count`: the number of members [2.8]
abbrev pub IsCount : StateSet → ℕ → Type 0
IsCount self r = r ≡ size state_width self.0
