use Rattle.std.proofs.Common.{◌≡◌, drop}
use Rattle.std.specs.List.{list_any}
use Rattle.term_bank.specs.Numbered.{at}
use Rattle.numbered_terms.specs.Stored.{Grows}
use Rattle.numbered_branches.specs.Branches.{NumberedFact}
use Rattle.clause_search.specs.Rare.{has_choice}
use Rattle.clause_search.proofs.rare.any_has_choice.Given as goal

abbrev pub invariant-loop-fact : goal.invariant-loop-fact
invariant-loop-fact l = record {
  grows : Grows l.fn.store l.store;
  ahead : list_any (λ (f : NumberedFact). has_choice (at l.fn.store.terms f.term)) (drop l.fact-index l.facts) ≡ list_any (λ (f : NumberedFact). has_choice (at l.fn.store.terms f.term)) l.facts;
}
