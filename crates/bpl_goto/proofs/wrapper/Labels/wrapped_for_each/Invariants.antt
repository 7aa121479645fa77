use Rattle.std.proofs.Common.{◌≡◌, drop}
use Rattle.bpl_model.specs.StmtView.{stmts_of}
use Rattle.bpl_goto.specs.Removed.{wrapped_for}
use Rattle.bpl_goto.proofs.wrapper.Labels.wrapped_for_each.Given as goal

abbrev pub invariant-loop-label : goal.invariant-loop-label
invariant-loop-label l = wrapped_for l.self.named l.self.longest (stmts_of l.inner.items) (drop l.label-index l.labels) ≡ wrapped_for l.self.named l.self.longest (stmts_of l.fn.before.items) l.labels
