use Rattle.std.specs.Prelude.{true}
use Rattle.logic_core.specs.Tree.{truth, equal}
use Rattle.bpl_terms.proofs.Runs.{run_begins}
use Rattle.bpl_terms.proofs.joined.equations.Goals as goal

pub loop-next-init : goal.loop-next-init
loop-next-init c = run_begins equal (truth true) c.in-Some.first c.args.terms.items c.reverse.new.self.items c.pop.new.self.items c.reverse.ensures.items c.in-Some.ensures.items
