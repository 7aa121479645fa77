-- Terms that are passed: no tuple of one of them alone is asked for.
use Rattle.std.specs.Prelude.{◌≡◌, ℕ, ◌<◌, nat_eq, Bool, true, false, not, ◌&&◌, ◌||◌, Option, Some, option_to_list, List, [], ◌∷◌, map, find, flat_map, length}
use Rattle.std.specs.List.{list_any, AllByRecursion}
use Rattle.logic_core.specs.Tree.{Kind, Tree, bound, read, Trees}
use Rattle.logic_core.specs.Def.{Def}
use Rattle.logic_core.specs.Same.{same_trees}
use Rattle.logic_core.specs.View.{trees_of}
use Rattle.term_bank.specs.Numbered.{at}
use Rattle.tableau_branch.specs.Branch.{Mark}
use Rattle.tableau_branch.specs.Oriented.{is_variable}
use Rattle.quantifier_triggers.specs.Match.{Found, matched, tuples_from}
use Rattle.numbered_terms.specs.Stored.{AreStored}

-- the tuples of one term that fail the test are those of these terms
abbrev pub Tells : List Tree → List ℕ → (List Tree → Bool) → Type 0
Tells ts passed new = (j : ℕ) → j < length ts → new (at ts j ∷ []) ≡ not (list_any (nat_eq j) passed)

-- each such test finds the same tuple first in both
abbrev pub FindOne : List Tree → List ℕ → List (List Tree) → List (List Tree) → Type 0
FindOne ts passed xs ys = (new : List Tree → Bool) → Tells ts passed new → find new xs ≡ find new ys

-- each such test finds a tuple
abbrev pub FindSome : List Tree → List ℕ → List (List Tree) → Type 0
FindSome ts passed xs = (new : List Tree → Bool) → Tells ts passed new → list_any new xs ≡ true

-- the mark of a fact with this term alone
abbrev pub mark_alone : List Tree → ℕ → ℕ → Mark
mark_alone ts fact j = record { fact = at ts fact; tuple = at ts j ∷ [] }

-- the only number, if there is one, joins the others
abbrev pub JoinsAlone : List ℕ → List ℕ → List ℕ → Type 0
JoinsAlone is old new = (ts : List Tree) → AreStored ts → AllByRecursion (λ i. i < length ts) is → (j : ℕ) → j < length ts
    → list_any (nat_eq j) new ≡ (list_any (nat_eq j) old || same_trees (trees_of (map (at ts) is)) (trees_of (at ts j ∷ [])))

-- where the pattern, of one variable, matches the term, this one is found for the variable
abbrev pub FindsAlone : Tree → Tree → Tree → Type 0
FindsAlone p t u = (vars : List Kind) (defs : List Def) (kinds : List Kind) (o : Option Tree) (c : Found) → matched vars defs kinds false p t (o ∷ []) ≡ Some c → c ≡ Some u ∷ []

-- each such test fails the tuples of which this pattern, and then these, match this term, and then these
abbrev pub IsPassed : List Tree → List ℕ → Tree → Tree → Trees → Found → Type 0
IsPassed ts passed p t rest b = (vars : List Kind) (defs : List Def) (kinds : List Kind) (terms : List Tree)
    → FindOne ts passed [] (flat_map (λ c. tuples_from vars defs kinds terms rest c) (option_to_list (matched vars defs kinds false p t b)))

abbrev pub is_bound : Tree → Bool
is_bound (bound v) = true
is_bound t = false

-- a Read of a variable at a bound one
abbrev pub reads_bound : Tree → Bool
reads_bound (read m i) = is_variable m && is_bound i
reads_bound t = false
