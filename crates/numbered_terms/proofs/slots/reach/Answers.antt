use Rattle.std.proofs.Common.{ap, ◌∙◌, length, None, arith}
use Rattle.std.proofs.lemmas.List.{length_push}
use Rattle.numbered_terms.specs.Slots.{kept_at}
use Rattle.numbered_terms.proofs.FlagsTaken.{empty_more}
use Rattle.numbered_terms.proofs.slots.reach.Goals as goal

pub returns-in_err-push-clause-alike : goal.returns-in_err-push-clause-alike
returns-in_err-push-clause-alike c d n = ap (λ os. kept_at os n) d.in_err-push.ensures.items ∙ d.loop.invariant.0 n

pub loop-preserved : goal.loop-preserved
loop-preserved c d = (
  λ n. ap (λ os. kept_at os n) d.in_ok-push.ensures.items ∙ empty_more d.loop.slots.items n ∙ d.loop.invariant.0 n,
  omega (arith, d.loop.invariant.1, ap length d.in_ok-push.ensures.items, length_push d.loop.slots.items None),
)
