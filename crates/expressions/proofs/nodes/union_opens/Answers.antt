-- `nodes::union_opens` meets its contract: the sets joined from the left.
use Rattle.std.proofs.Common.{rules, ℕ, ◌%◌, ◌^◌, List, [], ◌∷◌, ◌++◌, map, ◌≡◌, ◌∙◌}
use Rattle.std.specs.Fn.{Called}
use Rattle.std.specs.Iterator.{Drains}
use Rattle.std.specs.List.{FoldsTo}
use Rattle.std.specs.declared.option.Option.{Option}
use Rattle.std.proofs.lemmas.Iterator.{YieldsList, YieldsList-from_slice, YieldsList-from_take}
use Rattle.std.proofs.lemmas.Fn.{fold_over}
use denote.Param.Members.{Mut}
use Rattle.sets.specs.Members.{union, state_width}
use Rattle.sets.proofs.Bits.{empty-zero}
use Rattle.expressions.specs.Nodes.{node_at, places, children}
use Rattle.expressions.specs.Soundness.{union_all}
use Rattle.expressions.specs.Inside.{nodes_of}
use Rattle.expressions.proofs.Places.{union-more}
use Rattle.expressions.proofs.nodes.union_opens.Goals as goal

-- what each call of the closure keeps, over a chain
kept : {S A B F C : Type 0} {steps : S → Option A → S → Type 0} {v : A → B} {g : Mut F (C × (A × Unit {0})) C} {f : F} {s : S} {all : List B} {a r : C} (J : List B → C → Type 0)
    → ((ys : List B) (x : C) (y : A) (z : C) (k : F) → J ys x → Called g f (x, (y, tt)) z k → J (ys ++ (v y ∷ [])) z × (k ≡ f))
    → YieldsList steps v s all → J [] a
    → (xs : List A) × (k : F) × Drains steps s xs × FoldsTo {P = F × C} (λ p x q. Called g p.0 (p.1, (x, tt)) q.1 q.0) (f, a) xs (k, r) → J all r
kept {steps = steps} {v = v} {g = g} {f = f} {s = s} {all = all} {a = a} {r = r} J step y j ran = fold_over steps v g J f step s all a r y.runs j ran

pub returns : goal.returns
unfolding children
returns c =
    let f : ℕ → ℕ = λ i. (node_at (nodes_of c.args.nodes.now) i).opens in
    let e = kept (λ cs set. set.0 ≡ union_all (map f cs))
    (λ cs set x next k j called. let d : next.0 ≡ union state_width set.0 (f x.now % 2 ^ state_width) = search rules in (union-more f cs x.now j d, search rules))
    (YieldsList-from_take {s = c.take-children.result} c.args.used (YieldsList-from_slice (places c.args.shape) cc) cc) (empty-zero state_width) c.fold.ensures.ran in
    c.wide.ensures ∙ e ∙ rw c.requires
