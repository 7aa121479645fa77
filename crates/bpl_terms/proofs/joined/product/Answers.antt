use Rattle.std.specs.Prelude.{pos}
use Rattle.logic_core.specs.Tree.{mul, num}
use Rattle.bpl_terms.proofs.Runs.{run_begins}
use Rattle.bpl_terms.proofs.joined.product.Goals as goal

pub loop-next-init : goal.loop-next-init
loop-next-init c = run_begins mul (num (pos 1)) c.in-Some.first c.args.terms.items c.reverse.new.self.items c.pop.new.self.items c.reverse.ensures.items c.in-Some.ensures.items
