use Rattle.std.proofs.Common.{arith, ℕ, ◌≡◌, ◌+◌, ◌-◌, ◌≤◌, List, length, get_or, take, drop, ◌∙◌, length-drop}
use Rattle.std.proofs.lemmas.List.{take_all}
use Rattle.std.proofs.lemmas.Result.{err_from_is_err_and}
use Rattle.automaton.proofs.Finding.Growing.{row-many, row-unknown, row-unsuited, row-aimless, row-sourceless, row-added}
use Rattle.automaton.proofs.Automaton.add_row.Goals as goal
use Rattle.automaton.proofs.Automaton.add_row.Goals.{then-self-ge-MOST_ROWS-via-then-self-ge-MOST_ROWS, then-self-ge-MOST_ROWS-via-else-self-ge-MOST_ROWS+then-self-symbol}

-- the bytes after the first two, as the pattern gives them
after : (payload : List ℕ) → take (length payload - 2) (drop 2 payload) ≡ drop 2 payload
after payload = take_all (length payload - 2) (drop 2 payload) (omega (arith, length-drop 2 payload))

left : (payload : List ℕ) → length (take (length payload - 2) (drop 2 payload)) ≡ length payload - 2
left payload = rw after (length-drop 2 payload)

-- the length against the arity that the code looked up
module _ (payload arities : List ℕ) (place arity : ℕ) (p : place ≡ get_or payload 0 0) (a : arity ≡ get_or arities place 0) (two : 2 ≤ length payload) where
  suits : length (take (length payload - 2) (drop 2 payload)) ≡ arity → length payload ≡ 2 + get_or arities (get_or payload 0 0) 0
  suits e = rw (← p, ← a) (omega (arith, left payload))

  unsuited : (length (take (length payload - 2) (drop 2 payload)) ≡ arity → ⊥) → length payload ≡ 2 + get_or arities (get_or payload 0 0) 0 → ⊥
  unsuited n e = n (left payload ∙ (let l : length payload ≡ 2 + arity = rw (a, p) e in omega arith))

pub returns-then-self-ge-MOST_ROWS : goal.returns-then-self-ge-MOST_ROWS
returns-then-self-ge-MOST_ROWS c = λ held s.
    elim c.then-self-ge-MOST_ROWS.branch [
      | then-self-ge-MOST_ROWS-via-then-self-ge-MOST_ROWS w ↦ row-many held c.args.self.now s c.args.payload.now w.if-self-ge-MOST_ROWS.true
      | then-self-ge-MOST_ROWS-via-else-self-ge-MOST_ROWS+then-self-symbol w ↦ row-unknown held c.args.self.now s c.args.payload.now w.if-self-ge-MOST_ROWS.false w.if-self-symbol.true
    ]

pub returns-then-sources-from : goal.returns-then-sources-from
returns-then-sources-from c = λ held s.
    let a = c.args in
    row-unsuited held a.self.now s a.payload.now c.if-self-ge-MOST_ROWS.false c.if-self-symbol.false
    (unsuited a.payload.now a.self.now.arities c.from.result c.from-2.result c.from.ensures c.from-2.ensures c.requires.two c.if-sources-from.true)

pub returns-then-self-target : goal.returns-then-self-target
returns-then-self-target c = λ held s.
    let a = c.args in
    row-aimless held a.self.now s a.payload.now c.if-self-ge-MOST_ROWS.false c.if-self-symbol.false
    (suits a.payload.now a.self.now.arities c.from.result c.from-2.result c.from.ensures c.from-2.ensures c.requires.two c.if-sources-from.false)
    c.if-self-target.true

pub returns-in_err-sources : goal.returns-in_err-sources
returns-in_err-sources c = λ held s.
    let a = c.args in
    let p = err_from_is_err_and c.from_residual.result c.from_residual.ensures.1 in
    rw (p.1, p.2, c.in_err-sources.ensures.0)
    (row-sourceless held a.self.now s a.payload.now c.if-self-ge-MOST_ROWS.false c.if-self-symbol.false
    (suits a.payload.now a.self.now.arities c.from.result c.from-2.result c.from.ensures c.from-2.ensures c.requires.two c.if-sources-from.false)
    c.if-self-target.false (rw (after a.payload.now) at c.in_err-sources.ensures.1))

pub returns : goal.returns
returns c = λ held s.
    let a = c.args in
    row-added held a.self.now s a.payload.now c.if-self-ge-MOST_ROWS.false c.if-self-symbol.false
    (suits a.payload.now a.self.now.arities c.from.result c.from-2.result c.from.ensures c.from-2.ensures c.requires.two c.if-sources-from.false)
    c.if-self-target.false (rw (after a.payload.now) at c.in_ok-sources.ensures.0) c.from-3.result c.from-3.ensures c.in_ok-sources.sources (rw (after a.payload.now) at c.in_ok-sources.ensures.1)
