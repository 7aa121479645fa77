use Rattle.std.proofs.Common.{◌≡◌, ◌<◌, length, drop}
use Rattle.std.specs.List.{AllByRecursion}
use Rattle.logic_core.specs.View.{trees_of}
use Rattle.logic_core.specs.Before.{before, tree_before}
use Rattle.logic_core.specs.Junction.{operands}
use Rattle.numbered_terms.specs.Lists.{terms_at}
use Rattle.numbered_forms.proofs.junction.operands.Given as goal

-- the parts so far, and then what the terms that are left give
abbrev pub invariant-loop-id : goal.invariant-loop-id
invariant-loop-id l = record {
  made : before tree_before (terms_at l.terms l.parts.items) (operands l.connective (trees_of (terms_at l.terms (drop l.id-index l.ids)))) ≡ operands l.connective (trees_of (terms_at l.terms l.ids));
  within : AllByRecursion (λ j. j < length l.terms) l.parts.items;
}
