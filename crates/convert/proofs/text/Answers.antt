-- `text` meets its contract: with this room the text always stands in the bytes.
use Rattle.automaton.specs.Refusals.{extent_of}
use borrow.Author.Rules.{rules}
use Rattle.std.specs.Prelude.{Ok}
use Rattle.front.proofs.Room.{never-refused, text-within, text-exact}
use Rattle.convert.proofs.text.Goals as goal

pub unwrap-requires : goal.unwrap-requires
unwrap-requires c =
    let p = c.printed in
    never-refused c.args.file.now c.args.nodes.now c.args.out.now (search rules) (search rules) p.new.nodes p.new.out p.result p.ensures

pub returns : goal.returns
returns c =
    let file = c.args.file.now in
    let nodes = c.args.nodes.now in
    let out = c.args.out.now in
    let p = c.printed in
    let done = rw c.unwrap.ensures at p.ensures in
    record {
      exact = text-exact file nodes out (search rules) (search rules) p.new.nodes p.new.out (extent_of (Ok c.unwrap.result)) done;
      within = text-within file nodes out (search rules) (search rules) p.new.nodes p.new.out (extent_of (Ok c.unwrap.result)) done;
    }
