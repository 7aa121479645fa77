-- What an oriented fact of numbers with its left side stands for.
use Rattle.std.specs.Prelude.{◌<◌, Option, List, [], length, map}
use Rattle.logic_core.specs.Tree.{Tree}
use Rattle.term_bank.specs.Numbered.{at}
use Rattle.tableau_branch.specs.Branch.{Fact, At}
use Rattle.logic_rules.specs.Rewriting.{left_in_another}
use Rattle.numbered_terms.specs.Stored.{Numbered}
use Rattle.numbered_branches.specs.Branches.{NumberedFact, fact_at}
use Rattle.numbered_instances.specs.declared.lefts.Left.{Left}

module _ (ts : List Tree) where
  abbrev pub left_at : Left → At Tree
  left_at l = record { at = l.at; fact = fact_at ts l.fact; what = at ts l.term }

  abbrev pub IsLeftOver : Left → Type 0
  IsLeftOver l = (l.fact.term < length ts) × (l.term < length ts)

-- the left side of a fact that occurs in another of these facts
abbrev pub left_among : Numbered → List NumberedFact → Fact → Option Tree
left_among n fs f = left_in_another n.defs (record { facts = map (fact_at n.terms) fs; calls = []; marks = []; vars = n.vars; next = 0 }) f
