use Rattle.std.proofs.Common.{◌≡◌, ◌+◌, ◌*◌, ◌<◌, length, option_map, drop}
use Rattle.std.specs.List.{AllByRecursion}
use Rattle.logic_core.specs.View.{trees_of}
use Rattle.logic_core.specs.Before.{before, tree_before}
use Rattle.logic_core.specs.Junction.{negated_each}
use Rattle.term_bank.specs.Numbered.{Begins}
use Rattle.numbered_terms.specs.Lists.{terms_at}
use Rattle.numbered_forms.proofs.negation.+negated.Given as goal

abbrev pub decreases-negated : goal.decreases-negated
decreases-negated l = 2 * l.id + 1

abbrev pub decreases-negated_each : goal.decreases-negated_each
decreases-negated_each l = 2 * l.below

abbrev pub invariant-negated_each-loop-id : goal.invariant-negated_each-loop-id
invariant-negated_each-loop-id l = record {
  made : option_map (before tree_before (terms_at l.terms l.parts.items)) (negated_each (trees_of (terms_at l.fn.terms (drop l.id-index l.ids)))) ≡ negated_each (trees_of (terms_at l.fn.terms l.ids));
  within : AllByRecursion (λ j. j < length l.terms) l.parts.items;
  grows : Begins l.fn.terms l.terms;
}
