-- What `read` hands over, for every room above: a file's fault as its refusal, or a value that says what the file holds.
use Prim.Native.Nat.{ℕ}
use mathlib.Core.Path.{◌≡◌, refl, sym, ◌∙◌, ap}
use mathlib.Core.List.{List}
use Rattle.automaton.specs.declared.Automaton.{Automaton}
use Rattle.automaton.specs.declared.Reading.{Reading}
use Rattle.automaton.specs.declared.Refusal.{Refusal}
use Rattle.automaton.specs.Held.{Held, Valid}
use Rattle.automaton.specs.Checks.{Verdict, holds, fault, verdict}
use Rattle.std.specs.Prelude.{Ok, Err}
use native.Mathlib.Omega.{arith}
use Rattle.automaton.specs.declared.Refused.{Refused}
use Rattle.automaton.specs.declared.Refused.TheVariants.{BreaksOff, Kind, Length, Limit, PastEnd, Short, NoTree, Unsound, TooFar}
use Rattle.automaton.specs.Refusals.{refusal, no_refusal, number_of, fault_refusal}
use Rattle.automaton.specs.Answers.{placed, held_by, reading_of, read_answer, read_of}
use Rattle.automaton.specs.Handed.{Handed}
use Rattle.automaton.proofs.Files.Faults.{fault-some}
use Rattle.automaton.proofs.Files.Pair.{verdict-valid}
use Rattle.automaton.proofs.Values.{held-placed}
use Rattle.automaton.proofs.Refusing.{number-some}

-- the fault that a reading refuses
pub record Faulty (file : List ℕ) (refusal : Refusal) : Type 0 where
  pub number : ℕ
  pub offset : ℕ
  pub in_file : verdict file ≡ fault number offset
  pub given : refusal ≡ fault_refusal number offset

-- what the file holds, and that the value says so
pub record Holding (file : List ℕ) (value : Automaton) : Type 0 where
  pub held : Held
  pub in_file : verdict file ≡ holds held
  pub said : held_by value ≡ held
  pub handed : Handed value

placed-handed : (held : Held) → Valid held → Handed (placed held)
placed-handed held v = let e = held-placed held v in record { is = ap placed (sym e); valid = rw e v }

module _ (file : List ℕ) (reading : Reading) (is_read : reading ≡ read_answer file) where
  -- ---- from what the file is found to be

  pub read-refused : (number offset : ℕ) → verdict file ≡ fault number offset → reading.refusal ≡ fault_refusal number offset
  unfolding read_answer reading_of
  read-refused number offset e = ap (λ (r : Reading). r.refusal) is_read ∙ ap (λ (v : Verdict). (reading_of v).refusal) e

  pub read_done : (held : Held) → verdict file ≡ holds held → reading.refusal ≡ no_refusal
  unfolding read_answer reading_of
  read_done held e = ap (λ (r : Reading). r.refusal) is_read ∙ ap (λ (v : Verdict). (reading_of v).refusal) e

  pub read-value : (held : Held) → verdict file ≡ holds held → reading.automaton ≡ placed held
  unfolding read_answer reading_of
  read-value held e = ap (λ (r : Reading). r.automaton) is_read ∙ ap (λ (v : Verdict). (reading_of v).automaton) e

  pub read-says : (held : Held) → verdict file ≡ holds held → held_by reading.automaton ≡ held
  read-says held e = ap held_by (read-value held e) ∙ held-placed held (verdict-valid file held e)

  -- ---- from the number of the answer

  pub read-no-fault : reading.refusal.number ≡ 0 → (number offset : ℕ) → verdict file ≡ fault number offset → ⊥
  read-no-fault z number offset e = fault-some file number offset e (sym (ap (λ (r : Refusal). r.number) (read-refused number offset e)) ∙ z)

  pub read-fault : (reading.refusal.number ≡ 0 → ⊥) → Faulty file reading.refusal
  read-fault n = go (verdict file) refl
    where
      go : (v : Verdict) → verdict file ≡ v → Faulty file reading.refusal
      go (holds held) e = absurd (n (ap (λ (r : Refusal). r.number) (read_done held e)))
      go (fault number offset) e = record { number = number; offset = offset; in_file = e; given = read-refused number offset e }

  pub read_held : reading.refusal.number ≡ 0 → Holding file reading.automaton
  read_held z = go (verdict file) refl
    where
      go : (v : Verdict) → verdict file ≡ v → Holding file reading.automaton
      go (holds held) e =
          record { held = held; in_file = e; said = read-says held e; handed = rw (read-value held e) (placed-handed held (verdict-valid file held e)) }
      go (fault number offset) e = absurd (read-no-fault z number offset e)

-- ---- from the result of `read`

module _ (file : List ℕ) where
  -- a reason is that of the file's fault
  pub result-fault : (reason : Refused) → read_of (Err reason) ≡ read_answer file → Faulty file (refusal (number_of reason))
  result-fault reason e = read-fault file (read_of (Err reason)) e (number-some reason)

  -- a value says what the file holds
  pub result-held : (value : Automaton) → read_of (Ok value) ≡ read_answer file → Holding file value
  result-held value e = read_held file (read_of (Ok value)) e refl

-- the number of one reason is no other's
pub number-short : (reason : Refused) → number_of reason ≡ 6 → reason ≡ Short
number-short BreaksOff e = absurd (omega arith)
number-short Kind e = absurd (omega arith)
number-short Length e = absurd (omega arith)
number-short Limit e = absurd (omega arith)
number-short PastEnd e = absurd (omega arith)
number-short Short e = refl
number-short NoTree e = absurd (omega arith)
number-short Unsound e = absurd (omega arith)
number-short TooFar e = absurd (omega arith)
