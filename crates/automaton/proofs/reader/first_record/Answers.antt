use Rattle.std.proofs.Common.{ℕ, ◌≡◌, ◌+◌, List, [], ◌∷◌, get_or, take, drop, length, length-drop, ◌-◌, sym, ◌∙◌, arith, false}
use Rattle.std.specs.Int.{w16, from_le_bytes}
use Rattle.std.proofs.lemmas.Result.{err_from_is_err_and}
use Rattle.std.proofs.lemmas.List.{take_all}
use Rattle.automaton.specs.Checks.{number_at, kind_allowed}
use Rattle.automaton.specs.Inside.{code_of}
use Rattle.automaton.proofs.Finding.Frames.{found-short, found-kind, found-length, found-cut, found-record, allowed-none}
use Rattle.automaton.proofs.reader.first_record.Goals as goal

number-read : (bytes : List ℕ) (i n : ℕ) → n ≡ from_le_bytes w16 (get_or bytes i 0 ∷ get_or bytes (i + 1) 0 ∷ []) → n ≡ number_at bytes i
unfolding number_at
number-read bytes i n e = omega (arith, e)

-- the bytes after the first four, as the pattern gives them
after : (bytes : List ℕ) → take (length bytes - 4) (drop 4 bytes) ≡ drop 4 bytes
after bytes = take_all (length bytes - 4) (drop 4 bytes) (omega (arith, length-drop 4 bytes))

pub returns-in_default : goal.returns-in_default
returns-in_default g c = λ so_far same. found-short so_far c.args.bytes.now 0 0 (omega arith)

pub returns-in_err-kind : goal.returns-in_err-kind
returns-in_err-kind g c = λ so_far same.
    let bytes = c.args.bytes.now in
    let size = number-read bytes 0 c.from_le_bytes-size.result c.from_le_bytes-size.ensures in
    let kind = number-read bytes 2 c.from_le_bytes.result c.from_le_bytes.ensures in
    let p = err_from_is_err_and c.from_residual.result c.from_residual.ensures.1 in
    rw (p.1, p.2, c.in_err-kind.ensures.0) (found-kind so_far bytes c.from_le_bytes-size.result c.from_le_bytes.result (omega arith) size kind (allowed-none so_far c.from_le_bytes.result c.in_err-kind.ensures.1))

pub returns-then-not-allowed : goal.returns-then-not-allowed
returns-then-not-allowed g c = λ so_far same.
    let bytes = c.args.bytes.now in
    let size = number-read bytes 0 c.from_le_bytes-size.result c.from_le_bytes-size.ensures in
    let kind = number-read bytes 2 c.from_le_bytes.result c.from_le_bytes.ensures in
    let known : kind_allowed so_far c.from_le_bytes.result ≡ false = rw c.in_ok-kind.ensures (sym (same c.in_ok-kind.kind c.allowed.result c.allowed.ensures) ∙ c.if-not-allowed.true) in
    found-kind so_far bytes c.from_le_bytes-size.result c.from_le_bytes.result (omega arith) size kind known

pub returns-then-not-takes : goal.returns-then-not-takes
returns-then-not-takes g c = λ so_far same.
    let bytes = c.args.bytes.now in
    let size = number-read bytes 0 c.from_le_bytes-size.result c.from_le_bytes-size.ensures in
    let kind = number-read bytes 2 c.from_le_bytes.result c.from_le_bytes.ensures in
    let known = sym (same c.in_ok-kind.kind c.allowed.result c.allowed.ensures) ∙ c.if-not-allowed.false in
    found-length so_far bytes c.from_le_bytes-size.result (code_of c.in_ok-kind.kind) (omega arith) size (sym c.in_ok-kind.ensures ∙ kind) known (sym c.takes.ensures ∙ c.if-not-takes.true)

pub returns-in_default-split_at_checked : goal.returns-in_default-split_at_checked
returns-in_default-split_at_checked g c = λ so_far same.
    let bytes = c.args.bytes.now in
    let size = number-read bytes 0 c.from_le_bytes-size.result c.from_le_bytes-size.ensures in
    let kind = number-read bytes 2 c.from_le_bytes.result c.from_le_bytes.ensures in
    let known = sym (same c.in_ok-kind.kind c.allowed.result c.allowed.ensures) ∙ c.if-not-allowed.false in
    found-cut so_far bytes c.from_le_bytes-size.result (code_of c.in_ok-kind.kind) (omega arith) size (sym c.in_ok-kind.ensures ∙ kind) known (sym c.takes.ensures ∙ c.if-not-takes.false) (omega (arith, length-drop 4 bytes, c.from.ensures, simp (after bytes) at c.in_default-split_at_checked.ensures.cases))

pub returns : goal.returns
returns g c = λ so_far same.
    let bytes = c.args.bytes.now in
    let size = number-read bytes 0 c.from_le_bytes-size.result c.from_le_bytes-size.ensures in
    let kind = number-read bytes 2 c.from_le_bytes.result c.from_le_bytes.ensures in
    let known = sym (same c.in_ok-kind.kind c.allowed.result c.allowed.ensures) ∙ c.if-not-allowed.false in
    found-record so_far bytes c.from_le_bytes-size.result c.in_ok-kind.kind c.in-Some.payload.now c.in-Some.rest.now (omega arith) size (sym c.in_ok-kind.ensures ∙ kind) known (sym c.takes.ensures ∙ c.if-not-takes.false) (rw (after bytes, c.from.ensures) at c.in-Some.ensures.cases)
