-- An Exists that is found in the facts of a branch of numbers, and what it stands for.
use Rattle.std.specs.Prelude.{◌≡◌, ◌<◌, Option, Some, None, List, length}
use Rattle.logic_core.specs.Tree.{Kind, Tree}
use Rattle.term_bank.specs.Numbered.{at}
use Rattle.tableau_branch.specs.Branch.{At}
use Rattle.numbered_branches.specs.Branches.{NumberedFact}
use Rattle.numbered_logic.specs.declared.skolemizing.FoundExists.{FoundExists}

module _ (ts : List Tree) where
  abbrev pub exists_at : FoundExists → At (List Kind × Tree)
  exists_at a = record { at = a.at; fact = record { term = at ts a.formula; number = a.number }; what = (a.sorts.items, at ts a.body) }

  -- at a place in these facts, and over these terms
  pub record IsExistsIn (fs : List NumberedFact) (a : FoundExists) : Type 0 where
    pub place : a.at < length fs
    pub body : a.body < length ts

  -- what is found in these facts stands for what is found in facts
  abbrev pub FindsExists : List NumberedFact → Option FoundExists → Option (At (List Kind × Tree)) → Type 0
  FindsExists fs None o = o ≡ None
  FindsExists fs (Some a) o = IsExistsIn fs a × (o ≡ Some (exists_at a))
