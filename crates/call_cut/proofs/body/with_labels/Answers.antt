use Rattle.std.proofs.Common.{ap, sym, ◌∙◌, length}
use Rattle.call_cut.proofs.Labels.{before_none}
use Rattle.call_cut.proofs.body.with_labels.Goals as goal

pub returns-then-as_slice-ne1 : goal.returns-then-as_slice-ne1
returns-then-as_slice-ne1 c = sym (before_none c.args.labels.now c.args.stmts.items (λ e. c.if-as_slice-ne1.true (ap length c.as_slice.ensures.value ∙ e)))
