use Rattle.std.proofs.Common.{ap, ◌∙◌, nat_lt}
use Rattle.bv_base.specs.Text.{is_among}
use Rattle.bpl_statement_faults.specs.StackView.{stack_seen}
use Rattle.bpl_statement_faults.proofs.Counted.{counted_among}
use Rattle.bpl_statement_faults.proofs.label_stack.LabelStack.contains.Goals as goal

pub returns : goal.returns
returns c =
    ap (nat_lt 0) (c.count_of.ensures ∙ c.self.invariant c.args.label.now)
    ∙ counted_among c.args.label.now (stack_seen c.self.inside.labels.items)
    ∙ ap (λ s. is_among s c.args.label.now) c.self.view_is
