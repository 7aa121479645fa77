-- What the code's rules stand for, and their words.
use Rattle.proof_core.specs.Rule as rule
use Rattle.proof_core.specs.declared.rule.Rule.{Rule}
use Rattle.proof_core.specs.declared.rule.Rule.TheVariants.{Close, Split, Instantiate, Skolem, Replace, Unfold, Back, Past, Differ, Combine, Tighten, Trichotomy}

abbrev pub rule_of : Rule → rule.Rule
rule_of Close = rule.close
rule_of Split = rule.split
rule_of Instantiate = rule.instantiate
rule_of Skolem = rule.skolem
rule_of Replace = rule.replace
rule_of Unfold = rule.«unfold»
rule_of Back = rule.back
rule_of Past = rule.past
rule_of Differ = rule.differ
rule_of Combine = rule.combine
rule_of Tighten = rule.tighten
rule_of Trichotomy = rule.trichotomy
