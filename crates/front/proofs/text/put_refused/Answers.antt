use Rattle.std.proofs.Common.{List, ℕ, ◌++◌, drop, ap, ◌∙◌}
use Rattle.front.proofs.Refused.{refused-there}
use Rattle.front.proofs.text.put_refused.Goals as goal

pub returns : goal.returns
returns c = ap (λ (line : List ℕ). line ++ drop 10 c.args.out.now) (c.copy_from_slice.ensures.after ∙ refused-there c.args.reason)
