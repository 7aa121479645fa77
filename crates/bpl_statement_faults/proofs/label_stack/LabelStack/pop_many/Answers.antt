use Rattle.std.proofs.Common.{ap, ◌∙◌, drop}
use Rattle.std.proofs.lemmas.List.{drop-drop}
use Rattle.bpl_statement_faults.proofs.label_stack.LabelStack.pop_many.Goals as goal

pub loop-i-preserved : goal.loop-i-preserved
loop-i-preserved c = c.in_ok-pop.ensures ∙ ap (drop 1) c.loop-i.invariant ∙ drop-drop 1 c.loop-i._i c.args.self.now
