use Rattle.quantifier_triggers.proofs.Rules.{left_out_only_uncovered}
use Rattle.quantifier_triggers.proofs.choice_laws.left_out_only_uncovered.Goals as goal

pub returns : goal.returns
returns c = left_out_only_uncovered
