use Rattle.std.proofs.Common.{arith}
use Rattle.std.proofs.lemmas.Grind.{common_steps}
use Rattle.bpl_statement_faults.proofs.Counted.{counted_pop}
use Rattle.bpl_statement_faults.proofs.label_stack.LabelStack.pop.Goals as goal

pub invariant_of-self-in-Some : goal.invariant_of-self-in-Some
invariant_of-self-in-Some c =
    counted_pop c.self.inside.counts.entries c.put_count.new.counts.entries c.self.inside.labels.items c.pop.new.self.items c.in-Some.label c.saturating_sub-count.result c.self.invariant
    (grind (arith, common_steps)) (grind (arith, common_steps)) (grind (arith, common_steps))
