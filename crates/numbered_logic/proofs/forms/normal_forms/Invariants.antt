use Rattle.std.proofs.Common.{◌<◌, [], length}
use Rattle.std.specs.List.{AllByRecursion}
use Rattle.logic_core.specs.Normal.{normal}
use Rattle.numbered_terms.specs.Stored.{Grows}
use Rattle.numbered_logic.proofs.Several.{GivenTo}
use Rattle.numbered_logic.proofs.forms.normal_forms.Given as goal

abbrev pub invariant-loop-id : goal.invariant-loop-id
invariant-loop-id l = record {
  grows : Grows l.fn.store l.store;
  low : AllByRecursion (λ i. i < length l.store.terms) l.forms.items;
  given : GivenTo (λ t. normal l.fn.store.vars l.fn.store.defs [] t) l.fn.store.terms l.ids l.store.terms l.forms.items l.id-index;
}
