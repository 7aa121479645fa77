use Rattle.std.proofs.Common.{◌∙◌, ap}
use Rattle.std.specs.Option.{option_copied}
use Rattle.logic_core.specs.Sorts.{is}
use Rattle.logic_core.specs.Tree.{boolean}
use Rattle.numbered_facts.proofs.sorts.is_boolean.Goals as goal

pub returns-clause-is : goal.returns-clause-is
returns-clause-is c = c.is_of_formulas.ensures ∙ ap (is boolean) (c.find_sort.ensures.right c.args.id (option_copied c.sort_at.result) c.sort_at.ensures).1
