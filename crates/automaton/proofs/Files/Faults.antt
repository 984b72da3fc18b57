-- A file's fault has one of the numbers 1 to 5; and a file has one fault, or holds one thing.
use Prim.Native.Nat.{ℕ, zero, suc, ◌+◌, ◌^◌, ◌≤◌}
use native.Mathlib.Omega.{arith}
use mathlib.Core.Bool.{Bool, true, false, cond, not, ◌||◌}
use mathlib.Core.Path.{◌≡◌, subst}
use mathlib.Core.List.{List}
use lib.Dec.{leb, ltb, eqb}
use lib.ListN.{length, get_or, take, drop}
use Rattle.automaton.specs.Held.{Held}
use Rattle.automaton.specs.Checks.{Verdict, verdict, verdict_from, holds, fault, SoFar, nothing, given, Found, wrong, more, end, wrong_if, follow, number_at, is_none, kind_allowed, length_allowed, head_values, symbol_values, row_values, values, record_found, all_below}

-- a number that a fault may have
abbrev Numbered : ℕ → Type 0
Numbered number = (1 ≤ number) × (number ≤ 5)

abbrev NumberedFound : Found → Type 0
NumberedFound (wrong number) = Numbered number
NumberedFound (more held) = Unit {0}
NumberedFound (end held) = Unit {0}

abbrev NumberedVerdict : Verdict → Type 0
NumberedVerdict (holds held) = Unit {0}
NumberedVerdict (fault number offset) = Numbered number

numbered-if : (b : Bool) (number : ℕ) (found : Found) → Numbered number → NumberedFound found → NumberedFound (wrong_if b number found)
numbered-if true number found h k = h
numbered-if false number found h k = k

numbered-cond : (b : Bool) (one other : Found) → NumberedFound one → NumberedFound other → NumberedFound (cond b one other)
numbered-cond true one other h k = h
numbered-cond false one other h k = k

four : Numbered 4
four = (omega arith, omega arith)

numbered-values : (so_far : SoFar) (kind : ℕ) (payload : List ℕ) → NumberedFound (values so_far kind payload)
unfolding values head_values symbol_values row_values
numbered-values nothing kind payload =
    let states = get_or payload 0 0 in
    numbered-if (ltb states 1 || ltb 16 states) 4 _ four (numbered-if (leb (2 ^ states) (number_at payload 1)) 4 _ four tt)
numbered-values (given held) kind payload =
    let symbol = get_or payload 0 0 in
    numbered-cond (eqb kind 2) (symbol_values held payload) (cond (eqb kind 3) (row_values held payload) (end held))
    (numbered-if (leb 32 (length held.arities)) 4 _ four (numbered-if (ltb 3 symbol) 4 _ four tt))
    (numbered-cond (eqb kind 3) (row_values held payload) (end held)
    (numbered-if (leb 64 (length held.rules)) 4 _ four
    (numbered-if (leb (length held.arities) symbol) 4 _ four
    (numbered-if (not (eqb (length payload) (2 + get_or held.arities symbol 0))) 3 _ (omega arith, omega arith)
    (numbered-if (leb held.states (get_or payload 1 0)) 4 _ four
    (numbered-if (not (all_below held.states (drop 2 payload))) 4 _ four tt)))))
    tt)

numbered-record : (so_far : SoFar) (bytes : List ℕ) → NumberedFound (record_found so_far bytes)
unfolding record_found
numbered-record so_far bytes =
    let size = number_at bytes 0 in
    let kind = number_at bytes 2 in
    numbered-if (ltb (length bytes) 4) 1 _ (omega arith, omega arith)
    (numbered-if (not (kind_allowed so_far kind)) 2 _ (omega arith, omega arith)
    (numbered-if (not (length_allowed kind size)) 3 _ (omega arith, omega arith)
    (numbered-if (ltb (length bytes) (4 + size)) 1 _ (omega arith, omega arith) (numbered-values so_far kind (take size (drop 4 bytes))))))

numbered-follow : (found : Found) (offset : ℕ) (rest : Held → Verdict) (last : Bool) → NumberedFound found → ((held : Held) → NumberedVerdict (rest held)) → NumberedVerdict (follow found offset rest last)
numbered-follow (wrong number) offset rest last h k = h
numbered-follow (more held) offset rest last h k = k held
numbered-follow (end held) offset rest true h k = tt
numbered-follow (end held) offset rest false h k = (omega arith, omega arith)

numbered-from : (turns offset : ℕ) (so_far : SoFar) (bytes : List ℕ) → NumberedVerdict (verdict_from turns offset so_far bytes)
unfolding verdict_from
numbered-from zero offset so_far bytes = (omega arith, omega arith)
numbered-from (suc turns) offset so_far bytes =
    let taken = 4 + number_at bytes 0 in
    numbered-follow (record_found so_far bytes) offset (λ held. verdict_from turns (offset + taken) (given held) (drop taken bytes)) (is_none (drop 4 bytes))
    (numbered-record so_far bytes) (λ held. numbered-from turns (offset + taken) (given held) (drop taken bytes))

pub fault-number : (file : List ℕ) (number offset : ℕ) → verdict file ≡ fault number offset → (1 ≤ number) × (number ≤ 5)
unfolding verdict
fault-number file number offset e = subst NumberedVerdict e (numbered-from (suc (length file)) 0 nothing file)

-- so it is not 0
pub fault-some : (file : List ℕ) (number offset : ℕ) → verdict file ≡ fault number offset → number ≡ 0 → ⊥
fault-some file number offset e z = let some = (fault-number file number offset e).0 in omega arith

-- ---- one verdict

pub one-held : (file : List ℕ) (held other : Held) → verdict file ≡ holds held → verdict file ≡ holds other → held ≡ other
one-held file held other d e = cc

pub one_number : (file : List ℕ) (number offset other place : ℕ) → verdict file ≡ fault number offset → verdict file ≡ fault other place → number ≡ other
one_number file number offset other place d e = cc

pub never_both : (file : List ℕ) (held : Held) (number offset : ℕ) → verdict file ≡ holds held → verdict file ≡ fault number offset → ⊥
never_both file held number offset d e = let z : ◌≡◌ {A = ℕ} 0 1 = cc in omega arith
