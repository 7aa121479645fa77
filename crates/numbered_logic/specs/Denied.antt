-- Facts of numbers, each with the number of its normal Not.
use Rattle.std.specs.Prelude.{◌≡◌, List, length, map}
use Rattle.std.specs.List.{AllByRecursion}
use Rattle.logic_core.specs.Tree.{Tree}
use Rattle.logic_core.specs.Junction.{negated}
use Rattle.term_bank.specs.Numbered.{at}
use Rattle.tableau_branch.specs.Branch.{Fact}
use Rattle.numbered_branches.specs.Branches.{NumberedFact, fact_at, IsFactBelow}
use Rattle.numbered_facts.specs.Answers.{StandsFor}
use Rattle.numbered_logic.specs.declared.closing.Denied.{Denied}

module _ (ts : List Tree) where
  -- the number of the normal Not, where there is one
  abbrev pub IsDenied : Denied → Type 0
  IsDenied d = IsFactBelow (length ts) d.fact × StandsFor ts d.negation (negated (at ts d.fact.term))

  abbrev pub AreDenied : List Denied → List NumberedFact → Type 0
  AreDenied ds fs = AllByRecursion IsDenied ds × (map (λ (d : Denied). d.fact) ds ≡ fs)

  abbrev pub denied_at : Denied → Fact
  denied_at d = fact_at ts d.fact
