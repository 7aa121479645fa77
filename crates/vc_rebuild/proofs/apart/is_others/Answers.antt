use Rattle.std.proofs.Common.{◌∙◌, sym, true≢false}
use Rattle.vc_rebuild.proofs.apart.is_others.Goals as goal

pub returns-then-is_at : goal.returns-then-is_at
returns-then-is_at c none other = absurd (true≢false (sym c.if-is_at.true ∙ c.is_at.ensures ∙ other))

pub returns : goal.returns
returns c none other = sym c.in_ok-own.ensures ∙ none
