use Prim.Native.Nat.{ℕ}
use Rattle.std.proofs.Common.{rules}
use native.Mathlib.Omega.{arith}
use mathlib.Core.Path.{◌≡◌, sym, ap, subst, ◌∙◌}
use Rattle.automaton.specs.Held.{Held}
use Rattle.trees.specs.Piles.{put, pile, broken}
use lib.ListN.{get_or}
use Rattle.automaton.specs.Answers.{held_by}
use Rattle.trees.specs.Words.{arity_in, KnownIn}
use Rattle.trees.proofs.Values.{so-many-symbols, arity-read}
use Rattle.trees.proofs.Firing.{small-arity}
use Rattle.trees.proofs.Piling.{put-unknown, put-few}
use Rattle.trees.proofs.Stacking.{put-leaf, put-over}
use Rattle.trees.proofs.climb.put.Goals as goal
use Rattle.trees.proofs.climb.put.Goals.{After-from-2, in-0, in_default+in_ok-take-in_default}

pub returns-then-from-word : goal.returns-then-from-word
returns-then-from-word g c =
    let a = c.runner.inside.automaton.now in
    subst (λ (held : Held). put held c.args.word (pile c.args.pile.now) ≡ broken) c.runner.view_is
    (put-unknown (held_by a) c.args.word (pile c.args.pile.now) (omega (arith, so-many-symbols a)))

pub bounds-a-symbol : goal.bounds-a-symbol
bounds-a-symbol g c = omega (arith, so-many-symbols c.runner.inside.automaton.now, c.runner.invariant.valid.few_symbols)

pub leaf-set-requires : goal.leaf-set-requires
leaf-set-requires g c = omega (arith, so-many-symbols c.runner.inside.automaton.now, c.runner.invariant.valid.few_symbols)

-- the arity that is read
arity_of : (g : _) (c : After-from-2 g) → c.from-2.result ≡ arity_in (held_by c.runner.inside.automaton.now) c.args.word
arity_of g c = arity-read c.runner.inside.automaton.now c.args.word c.from-symbol.result c.from-2.result (omega arith) c.from-symbol.ensures c.from-2.ensures

pub take-requires : goal.take-requires
take-requires g c =
    let a = c.runner.inside.automaton.now in
    let f = c.args.word in
    let arity = arity_of g (goal.at.take-requires g c).After-from-2 in
    (search rules, (omega arith, omega (arith, small-arity (held_by a) f c.runner.invariant.valid)))

pub returns-in_err-take-in_default : goal.returns-in_err-take-in_default
returns-in_err-take-in_default g c =
    let a = c.runner.inside.automaton.now in
    let f = c.args.word in
    let arity = arity_of g (goal.at.returns-in_err-take-in_default g c).After-from-2 in
    let few : put (held_by a) f (pile c.args.pile.now) ≡ broken = put-few (held_by a) f c.args.pile.now (omega (arith, c.in_err-take-in_default.ensures)) in
    rw c.from_residual.ensures (subst (λ (held : Held). put held f (pile c.args.pile.now) ≡ broken) c.runner.view_is few)

pub returns : goal.returns
returns g c =
    let a = c.runner.inside.automaton.now in
    let f = c.args.word in
    let known : KnownIn (held_by a) f = omega (arith, so-many-symbols a) in
    let arity = arity_of g (goal.at.returns g c).After-from-2 in
    subst (λ (held : Held). put held f (pile c.args.pile.now) ≡ pile c.push.new.self) c.runner.view_is (elim c.match-from.branch [
      | in-0 w ↦ rw (c.push.ensures, w.set-is, w.pile-is)
          (put-leaf (held_by a) c.runner.inside.columns c.runner.invariant f known c.args.pile.now w.leaf-set.result (sym arity ∙ w.in-0.is)
          (w.leaf-set.ensures ∙ ap (λ (s : ℕ). get_or c.runner.inside.columns.leaves s 0) c.from-symbol.ensures))
      | in_default+in_ok-take-in_default w ↦ rw (c.push.ensures, w.set-is, w.pile-is)
          (put-over (held_by a) c.runner.inside.columns c.runner.invariant f known c.args.pile.now w.scan-set.result w.in_ok-take-in_default.field-0 w.take.new.self (omega arith)
          (rw arity at w.in_ok-take-in_default.ensures) w.scan-set.ensures)
    ])
