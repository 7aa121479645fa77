-- What is found in the facts of a branch of numbers, and what it stands for.
use Rattle.std.specs.Prelude.{◌≡◌, ◌<◌, Option, Some, None, List, length, map}
use Rattle.std.specs.List.{AllByRecursion}
use Rattle.logic_core.specs.Tree.{Tree}
use Rattle.term_bank.specs.Numbered.{at}
use Rattle.tableau_branch.specs.Branch.{At}
use Rattle.numbered_branches.specs.Branches.{NumberedFact}
use Rattle.numbered_logic.specs.declared.found.Found.{Found}
use Rattle.numbered_logic.specs.declared.found.FoundOne.{FoundOne}

module _ (ts : List Tree) where
  abbrev pub found_at : Found → At (List Tree)
  found_at a = record { at = a.at; fact = record { term = at ts a.formula; number = a.number }; what = map (at ts) a.terms.items }

  abbrev pub found_one_at : FoundOne → At Tree
  found_one_at a = record { at = a.at; fact = record { term = at ts a.formula; number = a.number }; what = at ts a.term }

  -- at a place in these facts, and over these terms
  pub record IsFoundIn (fs : List NumberedFact) (a : Found) : Type 0 where
    pub place : a.at < length fs
    pub formula : a.formula < length ts
    pub terms : AllByRecursion (λ i. i < length ts) a.terms.items

  pub record IsOneFoundIn (fs : List NumberedFact) (a : FoundOne) : Type 0 where
    pub place : a.at < length fs
    pub formula : a.formula < length ts
    pub term : a.term < length ts

  -- what is found in these facts stands for what is found in facts
  abbrev pub Finds : List NumberedFact → Option Found → Option (At (List Tree)) → Type 0
  Finds fs None o = o ≡ None
  Finds fs (Some a) o = IsFoundIn fs a × (o ≡ Some (found_at a))

  abbrev pub FindsOne : List NumberedFact → Option FoundOne → Option (At Tree) → Type 0
  FindsOne fs None o = o ≡ None
  FindsOne fs (Some a) o = IsOneFoundIn fs a × (o ≡ Some (found_one_at a))
