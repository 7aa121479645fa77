use Rattle.std.proofs.Common.{◌∙◌, ap, sym}
use Rattle.vc_rebuild.specs.Change.{checked_requires}
use Rattle.vc_rebuild.proofs.change.check_as_many.Goals as goal

pub returns : goal.returns
returns c told =
    ap checked_requires (sym c.specs_of.ensures) ∙ sym c.checked_requires-before.ensures ∙ c.same_number.ensures told ∙ c.checked_requires-after.ensures ∙ ap checked_requires c.specs_of-2.ensures
