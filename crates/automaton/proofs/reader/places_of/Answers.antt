use Rattle.std.proofs.Common.{rules, arith, ◌≡◌, ◌+◌, ◌<◌, ◌∷◌, ◌++◌, [], take, length, get_or, length-take-le, refl, sym}
use Rattle.std.proofs.lemmas.List.{take_more}
use Rattle.automaton.specs.Checks.{all_below}
use Rattle.ground.proofs.Places.{filled_none, filled-set}
use Rattle.automaton.proofs.Finding.Below.{below-snoc, below_fails}
use Rattle.automaton.proofs.reader.places_of.Goals as goal

pub loop-i-init : goal.loop-i-init
unfolding all_below
loop-i-init c = record { below = refl; placed = filled_none 3 0 }

pub returns-then-states-state : goal.returns-then-states-state
returns-then-states-state c =
    let xs = c.args.sources.now in
    let less : c.loop-i.i < length xs = search rules in
    let is : c.in-Some.field-0.now ≡ get_or xs c.loop-i.i 0 = search rules in
    (refl, below_fails c.args.states xs c.loop-i.i less (rw is at c.if-states-state.true))

pub loop-i-preserved : goal.loop-i-preserved
loop-i-preserved c =
    let xs = c.args.sources.now in
    let i = c.loop-i.i in
    let less : i < length xs = search rules in
    let is : c.in-Some.field-0.now ≡ get_or xs i 0 = search rules in
    let more : take (i + 1) xs ≡ take i xs ++ (get_or xs i 0 ∷ []) = take_more xs i 0 less in
    let count : i ≡ length (take i xs) = sym (length-take-le i xs (omega arith)) in
    record {
      below = rw more (below-snoc c.args.states (take i xs) (get_or xs i 0) c.loop-i.invariant.below (rw is at c.if-states-state.false));
      placed = rw (more, c.loop-i.invariant.placed, is) (filled-set 3 0 (take i xs) (get_or xs i 0) i count (omega arith));
    }
