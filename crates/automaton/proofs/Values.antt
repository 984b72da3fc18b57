-- What a value says and what a file holds: the value of what a file holds says just that, and which values a file can hold is decided.
use Prim.Native.Nat.{ℕ, ◌^◌, ◌≤◌, ◌<◌}
use mathlib.Core.Path.{◌≡◌, refl, sym, ap, ap₂, ◌∙◌}
use mathlib.Core.List.{List, [], ◌∷◌, map}
use mathlib.Core.Logic.{◌↔◌}
use native.Mathlib.Decide.{ℕ_discrete, dec_le, dec_lt}
use native.Mathlib.Omega.{arith}
use lib.ListN.{length, get_or, length-map}
use Rattle.automaton.specs.Held.{Rule, Held, ValidRule, Valid}
use Rattle.ground.specs.Lists.{All, filled, firsts}
use Rattle.automaton.specs.File.{file_of}
use Rattle.automaton.specs.Checks.{holds, verdict}
use Rattle.automaton.specs.Answers.{placed_row, unused_row, placed, read_answer, rule_held, held_by}
use Rattle.automaton.specs.declared.Row.{Row}
use Rattle.automaton.specs.declared.Reading.{Reading}
use Rattle.ground.proofs.Deciding.{both, decided-as, dec-all}
use Rattle.automaton.proofs.Files.Records.{Bytes}
use Rattle.automaton.proofs.Files.Pair.{verdict-valid, verdict-file}
use Rattle.automaton.proofs.Files.FileOf.{file-verdict, all-get}
use Rattle.ground.proofs.Places.{filled-length, filled-take, firsts-take}

-- a byte string reads as an automaton exactly when that is valid and the bytes are its file
pub reads-exactly : (bytes : List ℕ) (held : Held) → Bytes bytes → (verdict bytes ≡ holds held) ↔ (Valid held × (bytes ≡ file_of held))
reads-exactly bytes held b = (
  λ e. (verdict-valid bytes held e, verdict-file bytes held b e),
  λ p. ap verdict p.1 ∙ file-verdict held p.0,
)

-- ---- the value of what a file holds says what the file holds

first-places : {A : Type 0} (n k : ℕ) (unused other : A) (xs : List A) → k ≡ length xs → length xs ≤ n → firsts k other (filled n unused xs) ≡ xs
first-places n k unused other xs e h =
    firsts-take k other (filled n unused xs) (rw (filled-length n unused xs h) (omega arith)) ∙ filled-take n unused xs k e

rule-again : (states : ℕ) (arities : List ℕ) (rule : Rule) → All (λ a. a ≤ 3) arities → ValidRule states arities rule → rule_held arities (placed_row rule) ≡ rule
unfolding rule_held placed_row
rule-again states arities rule small valid =
    let few : length rule.sources ≤ 3 = rw valid.suited (all-get (λ a. a ≤ 3) arities rule.symbol (omega arith) small) in
    ap (λ (sources : List ℕ). record { symbol = rule.symbol; target = rule.target; sources = sources }) (first-places 3 (get_or arities rule.symbol 0) 0 0 rule.sources (sym valid.suited) few)

rules-again : (states : ℕ) (arities : List ℕ) (rules : List Rule) → All (λ a. a ≤ 3) arities → All (ValidRule states arities) rules → map (rule_held arities) (map placed_row rules) ≡ rules
rules-again states arities [] small valid = refl
rules-again states arities (rule ∷ rules) small valid =
    ap₂ (λ (r : Rule) (rs : List Rule). r ∷ rs) (rule-again states arities rule small valid.0) (rules-again states arities rules small valid.1)

pub held-placed : (held : Held) → Valid held → held_by (placed held) ≡ held
unfolding held_by placed
held-placed held v =
    let arities = first-places 32 (length held.arities) 0 0 held.arities refl v.few_symbols in
    let rows = first-places 64 (length held.rules) unused_row unused_row (map placed_row held.rules) (sym (length-map held.rules placed_row)) (rw (length-map held.rules placed_row) v.few_rules) in
    ap₂ (λ (known : List ℕ) (rs : List Row). record { states = held.states; finals = held.finals; arities = known; rules = map (rule_held known) rs }) arities rows
    ∙ ap (λ (rules : List Rule). record { states = held.states; finals = held.finals; arities = held.arities; rules = rules }) (rules-again held.states held.arities held.rules v.small_arities v.valid_rules)

-- ---- what no file can hold is decided

dec-rule : (states : ℕ) (arities : List ℕ) (rule : Rule) → Dec (ValidRule states arities rule)
dec-rule states arities rule =
    decided-as
    (both (dec_lt rule.symbol (length arities))
    (both (ℕ_discrete (length rule.sources) (get_or arities rule.symbol 0))
    (both (dec_lt rule.target states) (dec-all (λ q. q < states) (λ q. dec_lt q states) rule.sources))))
    (λ p. record { known = p.0; suited = p.1.0; aimed = p.1.1.0; sourced = p.1.1.1 })
    (λ v. (v.known, (v.suited, (v.aimed, v.sourced))))

pub dec-valid : (held : Held) → Dec (Valid held)
dec-valid held =
    decided-as
    (both (dec_le 1 held.states)
    (both (dec_le held.states 16)
    (both (dec_lt held.finals (2 ^ held.states))
    (both (dec_le 1 (length held.arities))
    (both (dec_le (length held.arities) 32)
    (both (dec-all (λ a. a ≤ 3) (λ a. dec_le a 3) held.arities)
    (both (dec_le (length held.rules) 64) (dec-all (ValidRule held.states held.arities) (dec-rule held.states held.arities) held.rules))))))))
    (λ p.
    record {
      some_state = p.0;
      few_states = p.1.0;
      finals_within = p.1.1.0;
      some_symbol = p.1.1.1.0;
      few_symbols = p.1.1.1.1.0;
      small_arities = p.1.1.1.1.1.0;
      few_rules = p.1.1.1.1.1.1.0;
      valid_rules = p.1.1.1.1.1.1.1;
    })
    (λ v. (v.some_state, (v.few_states, (v.finals_within, (v.some_symbol, (v.few_symbols, (v.small_arities, (v.few_rules, v.valid_rules))))))))

-- what `read` promises has one outcome
pub read-once : (file : List ℕ) (r s : Reading) → r ≡ read_answer file → s ≡ read_answer file → r ≡ s
read-once file r s p q = p ∙ sym q
