use Rattle.std.proofs.Common.{rules, arith, ◌≡◌, ◌+◌, ℕ, ◌*◌, get_or, List, ◌∙◌, sym}
use Rattle.std.proofs.lemmas.Result.{err_from_is_err_and}
use Rattle.automaton.specs.Checks.{nothing, number_at, kind_allowed}
use Rattle.automaton.proofs.Finding.Heads.{head-long, head_few, head-many, head-past, head_read}
use Rattle.automaton.proofs.reader.head.Goals as goal
use Rattle.automaton.proofs.reader.head.Goals.{then-states-lt1-via-then-states-lt1, then-states-lt1-via-else-states-lt1+then-states-gt-MOST_STATES, then-states-lt1-via-else-states-lt1+else-states-gt-MOST_STATES+then-past}

finals-read : (payload : List ℕ) (n : ℕ) → n ≡ get_or payload 1 0 + get_or payload 2 0 * 256 → n ≡ number_at payload 1
unfolding number_at
finals-read payload n e = omega (arith, e)

pub returns-in_err-record : goal.returns-in_err-record
unfolding kind_allowed
returns-in_err-record c =
    let p = err_from_is_err_and c.from_residual.result c.from_residual.ensures.1 in
    rw (p.1, p.2) (c.in_err-record.ensures nothing (λ kind yes post. search (rules, post)))

pub bounds-payload-0 : goal.bounds-payload-0
unfolding kind_allowed
bounds-payload-0 c = omega (arith, head-long _ _ _ _ (c.in_ok-record.ensures nothing (λ kind yes post. search (rules, post))))

pub bounds-payload-1 : goal.bounds-payload-1
unfolding kind_allowed
bounds-payload-1 c = omega (arith, head-long _ _ _ _ (c.in_ok-record.ensures nothing (λ kind yes post. search (rules, post))))

pub bounds-payload-2 : goal.bounds-payload-2
unfolding kind_allowed
bounds-payload-2 c = omega (arith, head-long _ _ _ _ (c.in_ok-record.ensures nothing (λ kind yes post. search (rules, post))))

pub returns-then-states-lt1 : goal.returns-then-states-lt1
unfolding kind_allowed
returns-then-states-lt1 c =
    let payload = c.in_ok-record.record.payload.now in
    let read = c.in_ok-record.ensures nothing (λ kind yes post. search (rules, post)) in
    let finals = finals-read payload c.from_le_bytes.result c.from_le_bytes.ensures in
    elim c.then-states-lt1.branch [
      | then-states-lt1-via-then-states-lt1 w ↦ head_few _ _ _ _ read _ finals w.if-states-lt1.true
      | then-states-lt1-via-else-states-lt1+then-states-gt-MOST_STATES w ↦ head-many _ _ _ _ read _ finals w.if-states-lt1.false w.if-states-gt-MOST_STATES.true
      | then-states-lt1-via-else-states-lt1+else-states-gt-MOST_STATES+then-past w ↦
          head-past _ _ _ _ read _ finals w.if-states-lt1.false w.if-states-gt-MOST_STATES.false (sym w.past.ensures ∙ w.if-past.true)
    ]

pub returns : goal.returns
unfolding kind_allowed
returns c =
    let payload = c.in_ok-record.record.payload.now in
    let read = c.in_ok-record.ensures nothing (λ kind yes post. search (rules, post)) in
    head_read _ _ _ _ read _ (finals-read payload c.from_le_bytes.result c.from_le_bytes.ensures) c.if-states-lt1.false c.if-states-gt-MOST_STATES.false
    (sym c.past.ensures ∙ c.if-past.false)
