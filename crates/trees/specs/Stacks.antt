-- The pile in memory, for the contracts of the private functions.
use Rattle.std.specs.Prelude.{ℕ, zero, suc, ◌≤◌, ◌<◌, ◌≡◌, List, [], ◌∷◌, length, get_or, take, drop, Option, None, Some, MatchOption}
use Rattle.trees.specs.Words.{most_words}

-- so many places hold so many sets
pub record Holds (room : ℕ) (places : List ℕ) (depth : ℕ) : Type 0 where
  pub long : length places ≡ room
  pub within : depth ≤ room
  pub few : room ≤ most_words

-- the first `depth` places, from the top down
unfoldable pub down : List ℕ → ℕ → List ℕ
down places zero = []
down places (suc depth) = get_or places depth 0 ∷ down places depth

-- the one set that is left; none where there are none or more
abbrev pub alone : List ℕ → Option ℕ
alone [] = None
alone (x ∷ []) = Some x
alone (x ∷ (y ∷ sets)) = None

-- so many sets are taken off; of the numbers that are given, the first so many are those sets
pub record TakenOff (count : ℕ) (before after sets : List ℕ) : Type 0 where
  pub enough : count ≤ length before
  pub left : after ≡ drop count before
  pub taken : take count sets ≡ take count before

abbrev pub TakesOff : (count : ℕ) (before after : List ℕ) → Option (List ℕ) → Type 0
TakesOff count before after given = MatchOption given (length before < count) (λ sets. TakenOff count before after sets)
