use Rattle.automaton.proofs.Finding.Growing.{symbol-limit, symbol-added}
use Rattle.automaton.proofs.Automaton.add_symbol.Goals as goal

pub returns-then-self-ge-MOST_SYMBOLS : goal.returns-then-self-ge-MOST_SYMBOLS
returns-then-self-ge-MOST_SYMBOLS c = λ held s. symbol-limit held c.args.self.now s c.args.payload.now c.then-self-ge-MOST_SYMBOLS.either

pub returns : goal.returns
returns c = λ held s. symbol-added held c.args.self.now s c.args.payload.now c.if-self-ge-MOST_SYMBOLS.false c.if-arity-gt-MOST_ARITY.false c.from.result c.from.ensures
