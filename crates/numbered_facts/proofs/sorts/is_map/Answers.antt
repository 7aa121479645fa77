use Rattle.std.proofs.Common.{◌∙◌, ap}
use Rattle.std.specs.Option.{option_copied}
use Rattle.numbered_facts.specs.Sorted.{is_map}
use Rattle.numbered_facts.proofs.sorts.is_map.Goals as goal

pub returns-clause-is : goal.returns-clause-is
returns-clause-is c = c.is_of_maps.ensures ∙ ap is_map (c.find_sort.ensures.right c.args.id (option_copied c.sort_at.result) c.sort_at.ensures).1
