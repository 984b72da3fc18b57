-- `nodes::places_fit` meets its contract: the tests of the places, one by one.
use Rattle.std.proofs.Common.{rules, tests}
use Rattle.std.proofs.lemmas.Iterator.{YieldsList-from_slice}
use Rattle.std.proofs.lemmas.Iterator.Consumers.{YieldsList-from_enumerate}
use Rattle.std.proofs.lemmas.Iterator.Search.{all_from_yields_List}
use Rattle.expressions.specs.Nodes.{places}
use Rattle.expressions.proofs.Places.{place_test, fits-decided}
use Rattle.expressions.proofs.nodes.places_fit.Goals as goal

pub returns : goal.returns
returns c =
    fits-decided c.args.number c.args.shape c.requires
    (all_from_yields_List (place_test c.args.number c.args.used) _ _ _ c.all.ensures.ran (YieldsList-from_enumerate (YieldsList-from_slice (places c.args.shape) cc) cc) (λ x b q k. search (rules, tests)))
