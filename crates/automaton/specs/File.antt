-- The bytes of the file that holds an automaton, record by record [3.1 to 3.4, 3.20].
use Rattle.std.specs.Prelude.{ℕ, ◌/◌, ◌%◌, List, [], ◌∷◌, ◌++◌, length}
use Rattle.automaton.specs.Held.{Rule, Held}

-- a number as two bytes, the low one first [3.1]
unfoldable pub two_bytes : ℕ → List ℕ
two_bytes n = n % 256 ∷ n / 256 % 256 ∷ []

-- a record: how long its payload is, its kind, the payload [3.1]
unfoldable pub file_record : ℕ → List ℕ → List ℕ
file_record kind payload = two_bytes (length payload) ++ (two_bytes kind ++ payload)

-- kind 1: how many states, and the set of the final ones [3.2]
unfoldable pub head_record : ℕ → ℕ → List ℕ
head_record states finals = file_record 1 (states ∷ two_bytes finals)

-- kind 2: one more symbol [3.2]
unfoldable pub symbol_record : ℕ → List ℕ
symbol_record arity = file_record 2 (arity ∷ [])

-- kind 3: a row [3.2]
unfoldable pub row_record : Rule → List ℕ
row_record rule = file_record 3 (rule.symbol ∷ rule.target ∷ rule.sources)

-- kind 9: the end [3.2]
unfoldable pub end_record : List ℕ
end_record = file_record 9 []

-- the bytes of each element, one after the other
unfoldable pub each : {A : Type 0} → (A → List ℕ) → List A → List ℕ
each bytes [] = []
each bytes (x ∷ xs) = bytes x ++ each bytes xs

-- the file of an automaton [3.4, 3.20]
unfoldable pub file_of : Held → List ℕ
file_of held = head_record held.states held.finals ++ (each symbol_record held.arities ++ (each row_record held.rules ++ end_record))
