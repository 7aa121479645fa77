use Rattle.quantifier_triggers.proofs.SameValidity.{valid_before}
use Rattle.quantifier_triggers.proofs.SortedObligations.{stays_sorted}
use Rattle.quantifier_triggers.proofs.choice_laws.obligations_are_kept.Goals as goal

pub returns : goal.returns
returns c = λ o. (stays_sorted o, valid_before o)
