use Rattle.quantifier_triggers.proofs.Rules.{chosen_triggers_meet_the_rules}
use Rattle.quantifier_triggers.proofs.choice_laws.chosen_triggers_meet_the_rules.Goals as goal

pub returns : goal.returns
returns c = chosen_triggers_meet_the_rules
