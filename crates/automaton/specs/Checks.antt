-- The checks of each record in their order, and what a file's bytes are found to be [3.7 to 3.16].
use Rattle.std.specs.Prelude.{ℕ, zero, suc, ◌+◌, ◌*◌, Bool, true, false, cond, not, ◌&&◌, ◌||◌, List, [], ◌∷◌, ◌++◌, leb, ltb, eqb, length, get_or, take, drop}
use Rattle.sets.specs.Members.{has_past, state_width}
use Rattle.automaton.specs.Held.{Rule, Held, most_symbols, most_arity, most_rows}

-- a whole automaton; or a fault: its refusal number, and where its record begins or would begin (for bytes after the end, where they begin)
pub data Verdict : Type 0 where
  holds : Held → Verdict
  fault : (number offset : ℕ) → Verdict

-- what the records so far gave: nothing yet, or the kind 1 with what followed it
pub data SoFar : Type 0 where
  nothing : SoFar
  given : Held → SoFar

-- what one record is found to be: wrong, by a refusal number; good, with what is held then; or the end
pub data Found : Type 0 where
  wrong : ℕ → Found
  more : Held → Found
  end : Held → Found

abbrev pub wrong_if : Bool → ℕ → Found → Found
wrong_if true number found = wrong number
wrong_if false number found = found

-- the number that two bytes are, the low one first [3.1]
unfoldable pub number_at : List ℕ → ℕ → ℕ
number_at bytes at = get_or bytes at 0 + 256 * get_or bytes (at + 1) 0

abbrev pub is_none : {A : Type 0} → List A → Bool
is_none [] = true
is_none (x ∷ xs) = false

-- may this kind stand here? [3.4, 3.9]
unfoldable pub kind_allowed : SoFar → ℕ → Bool
kind_allowed nothing kind = eqb kind 1
kind_allowed (given held) kind =
    (eqb kind 2 && is_none held.rules) || ((eqb kind 3 || eqb kind 9) && not (is_none held.arities))

-- has the kind such a length? [3.2, 3.10]
unfoldable pub length_allowed : ℕ → ℕ → Bool
length_allowed kind size =
    (eqb kind 1 && eqb size 3) || (eqb kind 2 && eqb size 1) || (eqb kind 3 && (leb 2 size && leb size 5)) || (eqb kind 9 && eqb size 0)

-- the values of a kind 1 [3.13]
unfoldable pub head_values : List ℕ → Found
head_values payload =
    let states = get_or payload 0 0 in
    let finals = number_at payload 1 in
    wrong_if (ltb states 1 || ltb state_width states) 4
    (wrong_if (has_past finals states) 4
    (more (record { states = states; finals = finals; arities = []; rules = [] })))

-- the values of a kind 2 [3.12, 3.14]
unfoldable pub symbol_values : Held → List ℕ → Found
symbol_values held payload =
    let arity = get_or payload 0 0 in
    wrong_if (leb most_symbols (length held.arities)) 4
    (wrong_if (ltb most_arity arity) 4
    (more (record { states = held.states; finals = held.finals; arities = held.arities ++ (arity ∷ []); rules = held.rules })))

-- is each of these below the bound?
unfoldable pub all_below : ℕ → List ℕ → Bool
all_below bound [] = true
all_below bound (x ∷ xs) = ltb x bound && all_below bound xs

-- the values of a kind 3 [3.12, 3.15]
unfoldable pub row_values : Held → List ℕ → Found
row_values held payload =
    let rule : Rule = record { symbol = get_or payload 0 0; target = get_or payload 1 0; sources = drop 2 payload } in
    wrong_if (leb most_rows (length held.rules)) 4
    (wrong_if (leb (length held.arities) rule.symbol) 4
    (wrong_if (not (eqb (length payload) (2 + get_or held.arities rule.symbol 0))) 3
    (wrong_if (leb held.states rule.target) 4
    (wrong_if (not (all_below held.states rule.sources)) 4
    (more (record { states = held.states; finals = held.finals; arities = held.arities; rules = held.rules ++ (rule ∷ []) }))))))

unfoldable pub values : SoFar → ℕ → List ℕ → Found
values nothing kind payload = head_values payload
values (given held) kind payload = cond (eqb kind 2) (symbol_values held payload) (cond (eqb kind 3) (row_values held payload) (end held))

-- one record: its four first bytes, its kind, its length, its payload, its values [3.7 to 3.15]
unfoldable pub record_found : SoFar → List ℕ → Found
record_found so_far bytes =
    let size = number_at bytes 0 in
    let kind = number_at bytes 2 in
    wrong_if (ltb (length bytes) 4) 1
    (wrong_if (not (kind_allowed so_far kind)) 2
    (wrong_if (not (length_allowed kind size)) 3
    (wrong_if (ltb (length bytes) (4 + size)) 1
    (values so_far kind (take size (drop 4 bytes))))))

-- what a record leads to: the fault; the rest of the file, with what is held then; or, at the end record, the whole, or a fault where bytes follow [3.16]
abbrev pub follow : Found → ℕ → (Held → Verdict) → Bool → Verdict
follow (wrong number) offset rest last = fault number offset
follow (more held) offset rest last = rest held
follow (end held) offset rest true = holds held
follow (end held) offset rest false = fault 5 (offset + 4)

-- what the bytes from an offset on are found to be. A record takes at least 4 bytes, so one turn for each byte, and one, is enough
unfoldable pub verdict_from : ℕ → ℕ → SoFar → List ℕ → Verdict
verdict_from zero offset so_far bytes = fault 1 offset
verdict_from (suc turns) offset so_far bytes =
    let taken = 4 + number_at bytes 0 in
    follow (record_found so_far bytes) offset (λ held. verdict_from turns (offset + taken) (given held) (drop taken bytes)) (is_none (drop 4 bytes))

-- what a file is found to be
unfoldable pub verdict : List ℕ → Verdict
verdict file = verdict_from (suc (length file)) 0 nothing file
