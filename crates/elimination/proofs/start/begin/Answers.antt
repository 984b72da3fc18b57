use native.Mathlib.Omega.{arith}
use Rattle.std.proofs.lemmas.Result.{err_from_is_err_and}
use Rattle.elimination.proofs.Conversion.{begin-full, begin-gives, rules-full, rules-room}
use Rattle.elimination.proofs.start.begin.Goals as goal

pub returns-in_err-holes : goal.returns-in_err-holes
returns-in_err-holes c =
    let a = c.args in
    let given = a.given.now in
    let w = c.states-n in
    let p = err_from_is_err_and c.from_residual.result c.from_residual.ensures.1 in
    rw (p.1, p.2) (begin-full given.value given.handed w.result w.ensures a.words.now c.put_holes.new.words c.in_err-holes.field-0.0 c.in_err-holes.ensures)

pub returns-in_err-staged : goal.returns-in_err-staged
returns-in_err-staged c =
    let a = c.args in
    let given = a.given.now in
    let w = c.states-n in
    let f = c.from_residual-in_err-staged in
    let p = err_from_is_err_and f.result f.ensures.1 in
    rw (p.1, p.2)
    (rules-full given.value given.handed w.result w.ensures a.words.now c.put_holes.new.words c.in_ok-holes.holes c.in_ok-holes.ensures c.put_rules.new.words c.in_err-staged.field-0.0 c.in_err-staged.ensures)

pub put_finals-requires : goal.put_finals-requires
put_finals-requires c =
    let a = c.args in
    let given = a.given.now in
    let w = c.states-n in
    record {
      n_le_state_width = omega arith;
      state_width_len_bound = rules-room given.value given.handed w.result w.ensures a.words.now c.put_holes.new.words c.in_ok-holes.holes c.in_ok-holes.ensures c.put_rules.new.words c.in_ok-staged.staged c.in_ok-staged.ensures;
    }

pub returns : goal.returns
returns c =
    let a = c.args in
    let given = a.given.now in
    let w = c.states-n in
    begin-gives given.value given.handed w.result w.ensures a.words.now c.put_holes.new.words c.in_ok-holes.holes c.in_ok-holes.ensures c.put_rules.new.words c.in_ok-staged.staged c.in_ok-staged.ensures c.put_finals.new.list c.put_finals.ensures
