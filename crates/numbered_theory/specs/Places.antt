-- Facts by number with what is found in them, and the ways of a number, and what they stand for.
use Rattle.std.specs.Prelude.{◌≡◌, ℕ, ◌<◌, Option, Some, None, Result, Ok, Err, List, [], ◌∷◌, map, length}
use Rattle.std.specs.List.{AllByRecursion}
use Rattle.logic_core.specs.Tree.{Kind, Tree}
use Rattle.logic_core.specs.declared.fault.NormalFault.{NormalFault}
use Rattle.logic_core.specs.declared.fault.NormalFault.TheVariants.{Wide}
use Rattle.term_bank.specs.Numbered.{at}
use Rattle.tableau_branch.specs.Branch as branch
use Rattle.tableau_branch.specs.Branch.{Attempt, none, leaves, gives}
use Rattle.numbered_branches.specs.Branches.{NumberedFact, fact_at}
use Rattle.numbered_theory.specs.declared.undecided.Place.{Place}
use Rattle.numbered_theory.specs.declared.trichotomy.Ways.{Ways}

module _ (ts : List Tree) where
  abbrev pub place_at : Place → branch.At Tree
  place_at p = record { at = p.at; fact = fact_at ts p.fact; what = at ts p.what }

  abbrev pub ways_at : Ways → List Tree
  ways_at w = at ts w.below ∷ at ts w.zero ∷ at ts w.above ∷ []

pub record IsPlaceBelow (size : ℕ) (p : Place) : Type 0 where
  pub fact : (p.fact).term < size
  pub what : p.what < size

pub record AreWaysBelow (size : ℕ) (w : Ways) : Type 0 where
  pub below : w.below < size
  pub zero : w.zero < size
  pub above : w.above < size

-- they are those that stand for these
abbrev pub ArePlacesAt : List Tree → List Place → List (branch.At Tree) → Type 0
ArePlacesAt ts ps qs = AllByRecursion (IsPlaceBelow (length ts)) ps × (map (place_at ts) ps ≡ qs)

-- what was found in the fact at this place
abbrev pub placed : ℕ → NumberedFact → Option ℕ → List Place
placed n f None = []
placed n f (Some i) = record { at = n; fact = f; what = i } ∷ []

-- what code says of what it tries at a place, or at one place after another: None where there is nothing at any
abbrev pub OpensAt : List Tree → Result (Option Ways) NormalFault → Attempt (List Tree) → Type 0
OpensAt ts (Ok None) x = x ≡ none
OpensAt ts (Ok (Some w)) x = AreWaysBelow (length ts) w × (x ≡ gives (ways_at ts w))
OpensAt ts (Err e) x = e ≡ Wide → x ≡ leaves

abbrev pub FindsAt : List Tree → Result (Option (Place × Ways)) NormalFault → Attempt (branch.At Tree × List Tree) → Type 0
FindsAt ts (Ok None) x = x ≡ none
FindsAt ts (Ok (Some p)) x = IsPlaceBelow (length ts) p.0 × (AreWaysBelow (length ts) p.1 × (x ≡ gives (place_at ts p.0, ways_at ts p.1)))
FindsAt ts (Err e) x = e ≡ Wide → x ≡ leaves

-- of a branch its variables alone matter
abbrev pub over : List Kind → branch.Branch
over vars = record { facts = []; calls = []; marks = []; vars = vars; next = 0 }
