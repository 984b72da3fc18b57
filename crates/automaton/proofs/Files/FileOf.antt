-- The file of a valid automaton reads as that automaton, and is at most 747 bytes long.
use Prim.Native.Nat.{ℕ, zero, suc, ◌+◌, ◌*◌, ◌^◌, ◌≤◌, ◌<◌}
use mathlib.Core.Bool.{true, not}
use mathlib.Core.Path.{◌≡◌, refl, sym, ap, ◌∙◌}
use mathlib.Core.List.{List, [], ◌∷◌, ◌++◌, append_assoc, append-nil}
use native.Mathlib.Nat.{lt_of_lt_of_le}
use native.Mathlib.Omega.{arith}
use lib.Dec.{lit<}
use lib.Pow.{pow_mono}
use lib.ListN.{length, get_or, drop, length-append}
use borrow.Author.Tests.{le-ltb, le-leb, lt-leb, eq-eqb}
use Rattle.automaton.specs.Held.{Rule, Held, ValidRule, Valid}
use Rattle.ground.specs.Lists.{All}
use Rattle.automaton.specs.File.{two_bytes, file_record, head_record, symbol_record, row_record, end_record, each, file_of}
use Rattle.automaton.specs.Checks.{holds, SoFar, nothing, given, Found, more, end, number_at, is_none, kind_allowed, length_allowed, head_values, symbol_values, row_values, values, record_found, follow, verdict_from, verdict}
use Rattle.automaton.proofs.Finding.Frames.{length-row}
use Rattle.automaton.proofs.Files.Records.{number_of, record-rest, record-length, record-read}
use Rattle.automaton.proofs.Files.Inverse.{all-below}

-- ---- one record of the file

module _ (turns offset : ℕ) (so_far : SoFar) (bytes : List ℕ) where
  turn_more : (held : Held) → record_found so_far bytes ≡ more held
      → verdict_from (suc turns) offset so_far bytes ≡ verdict_from turns (offset + (4 + number_at bytes 0)) (given held) (drop (4 + number_at bytes 0) bytes)
  unfolding verdict_from
  turn_more held e =
      ap (λ (found : Found). follow found offset (λ held'. verdict_from turns (offset + (4 + number_at bytes 0)) (given held') (drop (4 + number_at bytes 0) bytes)) (is_none (drop 4 bytes))) e

  turn_end : (held : Held) → record_found so_far bytes ≡ end held → drop 4 bytes ≡ [] → verdict_from (suc turns) offset so_far bytes ≡ holds held
  unfolding verdict_from
  turn_end held e l = rw (e, l)

-- a record that is found good is passed over
pass : (turns offset kind : ℕ) (payload rest : List ℕ) (so_far : SoFar) (held : Held) → kind < 65536 → length payload < 65536
    → kind_allowed so_far kind ≡ true → length_allowed kind (length payload) ≡ true → values so_far kind payload ≡ more held
    → (offset' : ℕ) × (verdict_from (suc turns) offset so_far (file_record kind payload ++ rest) ≡ verdict_from turns offset' (given held) rest)
pass turns offset kind payload rest so_far held k p a l v =
    let bytes = file_record kind payload ++ rest in (
      offset + (4 + number_at bytes 0),
      turn_more turns offset so_far bytes held (record-read kind payload rest k p so_far a l ∙ v)
          ∙ ap (λ (l : List ℕ). verdict_from turns (offset + (4 + number_at bytes 0)) (given held) l) (record-rest kind payload rest k p),
    )

-- ---- the end

-- with a symbol known, a row and the end may stand here
some-allowed : (held : Held) → 1 ≤ length held.arities → (kind_allowed (given held) 3 ≡ true) × (kind_allowed (given held) 9 ≡ true)
unfolding kind_allowed
some-allowed held some = go held.arities some
  where
    go : (arities : List ℕ) → 1 ≤ length arities → (not (is_none arities) ≡ true) × (not (is_none arities) ≡ true)
    go [] h = absurd (omega arith)
    go (x ∷ xs) h = (refl, refl)

end_read : (turns offset : ℕ) (held : Held) → 1 ≤ length held.arities → verdict_from (suc turns) offset (given held) end_record ≡ holds held
unfolding end_record file_record two_bytes values length_allowed
end_read turns offset held some =
    turn_end turns offset (given held) end_record held
    (rw append-nil at (record-read 9 [] [] (lit< tt) (lit< tt) (given held) (some-allowed held some).1 refl)) refl

-- ---- the rows

module _ (held : Held) (rule : Rule) (valid : ValidRule held.states held.arities rule) where
  row_fits : length held.rules < 64
      → values (given held) 3 (rule.symbol ∷ rule.target ∷ rule.sources) ≡ more (record { states = held.states; finals = held.finals; arities = held.arities; rules = held.rules ++ (rule ∷ []) })
  unfolding values row_values
  row_fits few =
      rw (lt-leb 64 (length held.rules) few, lt-leb (length held.arities) rule.symbol valid.known, eq-eqb (suc (suc (length rule.sources))) (2 + get_or held.arities rule.symbol 0) (omega (arith, valid.suited)), lt-leb held.states rule.target valid.aimed, all-below held.states rule.sources valid.sourced)

pub all-get : (P : ℕ → Type 0) (xs : List ℕ) (i : ℕ) → P 0 → All P xs → P (get_or xs i 0)
all-get P [] i z a = z
all-get P (x ∷ xs) zero z a = a.0
all-get P (x ∷ xs) (suc i) z a = all-get P xs i z a.1

-- the length of a row's payload is right for its kind
row_sized : (arities sources : List ℕ) (symbol : ℕ) → length sources ≡ get_or arities symbol 0 → All (λ a. a ≤ 3) arities → length_allowed 3 (suc (suc (length sources))) ≡ true
row_sized arities sources symbol e small =
    let few : length sources ≤ 3 = rw e (all-get (λ a. a ≤ 3) arities symbol (omega arith) small) in
    sym (length-row (suc (suc (length sources)))) ∙ rw (le-leb 2 (suc (suc (length sources))) (omega arith), le-leb (suc (suc (length sources))) 5 (omega arith))

-- an automaton with more of each
abbrev plus : Held → List ℕ → List Rule → Held
plus held arities rules = record { states = held.states; finals = held.finals; arities = held.arities ++ arities; rules = held.rules ++ rules }

rows-read : (turns offset : ℕ) (held : Held) (rules : List Rule) → 1 ≤ length held.arities → All (λ a. a ≤ 3) held.arities
    → length held.rules + length rules ≤ 64 → All (ValidRule held.states held.arities) rules → length rules < turns
    → verdict_from turns offset (given held) (each row_record rules ++ end_record) ≡ holds (plus held [] rules)
unfolding each row_record
rows-read zero offset held rules some small few valid t = absurd (omega arith)
rows-read (suc turns) offset held [] some small few valid t =
    end_read turns offset held some ∙ ap holds (λ i. record { states = held.states; finals = held.finals; arities = sym (append-nil held.arities) i; rules = sym (append-nil held.rules) i })
rows-read (suc turns) offset held (rule ∷ rules) some small few valid t =
    let next : Held = record { states = held.states; finals = held.finals; arities = held.arities; rules = held.rules ++ (rule ∷ []) } in
    let payload = rule.symbol ∷ rule.target ∷ rule.sources in
    let arity : length rule.sources ≤ 3 = rw valid.0.suited (all-get (λ a. a ≤ 3) held.arities rule.symbol (omega arith) small) in
    let p = pass turns offset 3 payload (each row_record rules ++ end_record) (given held) next (lit< tt) (omega arith) (some-allowed held some).0 (row_sized held.arities rule.sources rule.symbol valid.0.suited small) (row_fits held rule valid.0 (omega arith)) in
    ap (verdict_from (suc turns) offset (given held)) (append_assoc (row_record rule) (each row_record rules) end_record) ∙ p.1
    ∙ rows-read turns p.0 next rules some small (simp length-append (omega arith)) valid.1 (omega arith)
    ∙ ap holds (λ i. record { states = held.states; finals = held.finals; arities = held.arities ++ []; rules = append_assoc held.rules (rule ∷ []) rules i })

-- ---- the symbols

all-mid : {A : Type 0} (P : A → Type 0) (xs : List A) (x : A) (ys : List A) → All P (xs ++ (x ∷ ys)) → P x
all-mid P [] x ys a = a.0
all-mid P (y ∷ xs) x ys a = all-mid P xs x ys a.1

module _ (states finals : ℕ) (rules : List Rule) where
  abbrev with-known : List ℕ → List Rule → Held
  with-known known rows = record { states = states; finals = finals; arities = known; rules = rows }

  symbol-fits : (known : List ℕ) (arity : ℕ) → length known < 32 → arity ≤ 3 → values (given (with-known known [])) 2 (arity ∷ []) ≡ more (with-known (known ++ (arity ∷ [])) [])
  unfolding values symbol_values
  symbol-fits known arity less small = rw (lt-leb 32 (length known) less, le-ltb 3 arity small)

  symbols-read : (turns offset : ℕ) (known arities : List ℕ) → 1 ≤ length (known ++ arities) → All (λ a. a ≤ 3) (known ++ arities) → length (known ++ arities) ≤ 32
      → length rules ≤ 64 → All (ValidRule states (known ++ arities)) rules → length arities + length rules < turns
      → verdict_from turns offset (given (with-known known [])) (each symbol_record arities ++ (each row_record rules ++ end_record)) ≡ holds (with-known (known ++ arities) rules)
  unfolding each symbol_record kind_allowed length_allowed
  symbols-read zero offset known arities some small few many valid t = absurd (omega arith)
  symbols-read (suc turns) offset known [] some small few many valid t =
      rows-read (suc turns) offset (with-known known []) rules (rw append-nil at some) (rw append-nil at small) (omega arith) (rw append-nil at valid) (omega arith)
  symbols-read (suc turns) offset known (arity ∷ arities) some small few many valid t =
      let e : (known ++ (arity ∷ [])) ++ arities ≡ known ++ (arity ∷ arities) = append_assoc known (arity ∷ []) arities in
      let rest = each symbol_record arities ++ (each row_record rules ++ end_record) in
      let less : length known < 32 = omega (arith, rw length-append at few) in
      let p = pass turns offset 2 (arity ∷ []) rest (given (with-known known [])) (with-known (known ++ (arity ∷ [])) []) (lit< tt) (lit< tt) refl refl (symbol-fits known arity less (all-mid (λ a. a ≤ 3) known arity arities small)) in
      ap (verdict_from (suc turns) offset (given (with-known known []))) (append_assoc (symbol_record arity) (each symbol_record arities) (each row_record rules ++ end_record)) ∙ p.1
      ∙ symbols-read turns p.0 (known ++ (arity ∷ [])) arities (rw e some) (rw e small) (rw e few) many (rw e valid) (omega arith)
      ∙ ap (λ (l : List ℕ). holds (with-known l rules)) e

-- ---- lengths

pub symbols-length : (arities : List ℕ) → length (each symbol_record arities) ≡ 5 * length arities
unfolding each symbol_record
symbols-length [] = refl
symbols-length (arity ∷ arities) =
    let one : length (file_record 2 (arity ∷ [])) ≡ 5 = record-length 2 (arity ∷ []) [] (lit< tt) (lit< tt) in
    simp (length-append, one, symbols-length arities) (omega arith)

module _ (states : ℕ) (arities : List ℕ) (small : All (λ a. a ≤ 3) arities) where
  row-length : (rule : Rule) → ValidRule states arities rule → (length (row_record rule) ≤ 9) × (6 ≤ length (row_record rule))
  unfolding row_record
  row-length rule valid =
      let few : length rule.sources ≤ 3 = rw valid.suited (all-get (λ a. a ≤ 3) arities rule.symbol (omega arith) small) in
      rw (record-length 3 (rule.symbol ∷ rule.target ∷ rule.sources) [] (lit< tt) (omega arith)) (omega arith)

  rows-length : (rules : List Rule) → All (ValidRule states arities) rules → (length (each row_record rules) ≤ 9 * length rules) × (length rules ≤ length (each row_record rules))
  unfolding each
  rows-length [] valid = omega arith
  rows-length (rule ∷ rules) valid =
      let one = row-length rule valid.0 in
      let more = rows-length rules valid.1 in
      simp length-append (omega arith)

pub head-length : (states finals : ℕ) → length (head_record states finals) ≡ 7
unfolding head_record two_bytes
head-length states finals = record-length 1 (states ∷ two_bytes finals) [] (lit< tt) (lit< tt)

pub end-length : length end_record ≡ 4
unfolding end_record
end-length = record-length 9 [] [] (lit< tt) (lit< tt)

pub file-parts : (held : Held) → length (file_of held) ≡ 7 + (5 * length held.arities + (length (each row_record held.rules) + 4))
unfolding file_of
file-parts held = simp (length-append, head-length, symbols-length, end-length)

-- no valid file is longer than 747 bytes
pub file-length : (held : Held) → Valid held → length (file_of held) ≤ 747
file-length held v = omega (arith, file-parts held, rows-length held.states held.arities v.small_arities held.rules v.valid_rules, v.few_symbols, v.few_rules)

-- ---- the file

finals-small : (held : Held) → Valid held → held.finals < 65536
finals-small held v = lt_of_lt_of_le v.finals_within (pow_mono v.few_states)

head-fits : (held : Held) → Valid held → values nothing 1 (held.states ∷ two_bytes held.finals) ≡ more (record { states = held.states; finals = held.finals; arities = []; rules = [] })
unfolding values head_values number_at two_bytes
head-fits held v =
    rw (number_of held.finals (finals-small held v), le-ltb held.states 1 v.some_state, le-ltb 16 held.states v.few_states, lt-leb (2 ^ held.states) held.finals v.finals_within)

-- the file of a valid automaton reads as that automaton
pub file-verdict : (held : Held) → Valid held → verdict (file_of held) ≡ holds held
unfolding verdict file_of head_record kind_allowed length_allowed two_bytes
file-verdict held v =
    let rest = each symbol_record held.arities ++ (each row_record held.rules ++ end_record) in
    let start : Held = record { states = held.states; finals = held.finals; arities = []; rules = [] } in
    let p = pass (length (file_of held)) 0 1 (held.states ∷ two_bytes held.finals) rest nothing start (lit< tt) (lit< tt) refl refl (head-fits held v) in
    p.1
    ∙ symbols-read held.states held.finals held.rules (length (file_of held)) p.0 [] held.arities v.some_symbol v.small_arities v.few_symbols v.few_rules v.valid_rules
    (omega (arith, file-parts held, rows-length held.states held.arities v.small_arities held.rules v.valid_rules))
