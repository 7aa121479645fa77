use Rattle.std.proofs.Common.{sym, ◌∙◌}
use Rattle.bpl_dependencies.proofs.reach.are_settled.Goals as goal

pub returns : goal.returns
returns c h = sym c.in_ok-next.ensures ∙ (sym c.deref.ensures.value ∙ c.are_same.ensures h)
