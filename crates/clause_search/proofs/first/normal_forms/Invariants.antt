use Rattle.std.proofs.Common.{◌≡◌, ◌<◌, ◌++◌, Some, length, drop}
use Rattle.std.specs.List.{AllByRecursion}
use Rattle.logic_core.specs.Normal.{normal}
use Rattle.logic_core.specs.Wide.{◌>>=◌}
use Rattle.tableau_branch.specs.Branch.{each}
use Rattle.numbered_terms.specs.Lists.{terms_at}
use Rattle.numbered_terms.specs.Stored.{Grows}
use Rattle.clause_search.proofs.FirstFacts.{form, ahead}
use Rattle.clause_search.proofs.first.normal_forms.Given as goal

abbrev pub invariant-loop-formula : goal.invariant-loop-formula
invariant-loop-formula l = record {
  grows : Grows l.fn.store l.store;
  made : ahead l.fn.store (drop l.formula-index l.formulas) (terms_at l.store.terms l.forms.items) ≡ each (form l.fn.store) l.formulas;
  within : AllByRecursion (λ i. i < length l.store.terms) l.forms.items;
}
