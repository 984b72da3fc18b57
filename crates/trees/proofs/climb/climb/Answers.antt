use Prim.Native.Nat.{◌<◌}
use mathlib.Core.Path.{◌≡◌}
use mathlib.Core.List.{reverse}
use lib.ListN.{length, get_or}
use native.Mathlib.Omega.{arith}
use Rattle.std.proofs.Common.{rules}
use Rattle.std.proofs.lemmas.List.{length_push}
use Rattle.std.proofs.lemmas.Iterator.Adapters.{YieldsList-from_rev_slice}
use Rattle.std.proofs.lemmas.Iterator.Consumers.{YieldsList-turn}
use Rattle.trees.proofs.Stacking.{left-none, left-broken, left-more, room-left}
use Rattle.trees.proofs.climb.climb.Goals as goal
use Rattle.trees.proofs.climb.climb.Goals.{In-Some}

pub loop-word-init : goal.loop-word-init
loop-word-init g c = rw c.new-pile.ensures (left-none c.args.runner.now c.args.words.now)

-- the word that is read in a turn
turn : (g : _) (c : In-Some g) → (length c.loop-word.yielded < length (reverse c.args.words.now)) × (c.in-Some.field-0.now ≡ get_or (reverse c.args.words.now) (length c.loop-word.yielded) c.in-Some.field-0.now)
turn g c =
    YieldsList-turn (YieldsList-from_rev_slice c.args.words.now cc) c.loop-word.yielded _ c.loop-word.yielded_by _ _ c.in-Some.field-0 c.in-Some.is c.next.ensures.steps

pub put-requires : goal.put-requires
put-requires g c =
    let read = turn g (goal.at.put-requires g c).In-Some in
    let room = room-left c.args.runner.now c.args.words.now (length c.loop-word.yielded) c.in-Some.field-0.now c.loop-word.pile read c.loop-word.invariant in
    (search rules, (omega (arith, room), c.requires.places_fit))

pub returns-in_err-put : goal.returns-in_err-put
returns-in_err-put g c =
    let read = turn g (goal.at.returns-in_err-put g c).In-Some in
    rw c.from_residual.ensures (left-broken c.args.runner.now c.args.words.now (length c.loop-word.yielded) c.in-Some.field-0.now c.loop-word.pile read c.loop-word.invariant c.in_err-put.ensures)

pub loop-word-preserved : goal.loop-word-preserved
loop-word-preserved g c =
    let read = turn g (goal.at.loop-word-preserved g c).In-Some in
    rw (length_push c.loop-word.yielded c.in-Some.field-0) (left-more c.args.runner.now c.args.words.now (length c.loop-word.yielded) c.in-Some.field-0.now c.loop-word.pile read c.loop-word.invariant _ c.in_ok-put.ensures)
