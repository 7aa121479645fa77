use Rattle.std.proofs.Common.{arith}
use Rattle.std.proofs.lemmas.Grind.{common_steps}
use Rattle.bpl_statement_faults.proofs.Counted.{counted_push}
use Rattle.bpl_statement_faults.proofs.label_stack.LabelStack.push.Goals as goal

pub invariant_of-self-2 : goal.invariant_of-self-2
invariant_of-self-2 c =
    counted_push c.self.inside.counts.entries c.put_count.new.counts.entries c.self.inside.labels.items c.push.new.self.items c.args.label c.in_ok-count.count c.self.invariant
    (grind (arith, common_steps)) (grind (arith, common_steps)) (grind (arith, common_steps))
