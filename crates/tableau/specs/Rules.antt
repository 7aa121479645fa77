-- The rules of the code's table.
use Rattle.std.specs.Prelude.{List}
use Rattle.logic_core.specs.Def.{Def}
use Rattle.tableau_branch.specs.Branch.{Branch, Attempt}
use Rattle.tableau_branch.specs.Move.{Move}
use Rattle.logic_rules.specs.Closing.{close}
use Rattle.logic_rules.specs.Flattening.{flatten}
use Rattle.logic_rules.specs.Skolem.{skolem}
use Rattle.logic_rules.specs.Rewriting.{rewrite}
use Rattle.theory_rules.specs.Back.{back}
use Rattle.logic_rules.specs.Unfolding.{unfold_call}
use Rattle.theory_rules.specs.Combining.{combine}
use Rattle.theory_rules.specs.Trichotomy.{trichotomy}
use Rattle.logic_rules.specs.Splitting.{split}
use Rattle.theory_rules.specs.Condition.{condition}
use Rattle.theory_rules.specs.Past.{past}
use Rattle.theory_rules.specs.Differ.{differ}
use Rattle.logic_rules.specs.Instantiating.{instantiate}
use Rattle.tableau.specs.declared.rules.Rule.{Rule}
use Rattle.tableau.specs.declared.rules.Rule.TheVariants as rule

abbrev pub rule_of : List Def → Rule → Branch → Attempt Move
rule_of defs rule.Close = close
rule_of defs rule.Flatten = flatten defs
rule_of defs rule.Skolem = skolem defs
rule_of defs rule.Rewrite = rewrite defs
rule_of defs rule.Back = back defs
rule_of defs rule.Unfold = unfold_call defs
rule_of defs rule.Combine = combine defs
rule_of defs rule.Trichotomy = trichotomy defs
rule_of defs rule.Split = split defs
rule_of defs rule.Condition = condition defs
rule_of defs rule.Past = past defs
rule_of defs rule.Differ = differ defs
rule_of defs rule.Instantiate = instantiate defs
