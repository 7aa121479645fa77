-- The rule close: a fact is false, or of two facts one is the normal Not of the other.
use Rattle.std.specs.Prelude.{nat_eq, nat_le, Bool, true, false, ◌||◌, Option, Some, None, List, [], ◌∷◌, ◌++◌, find, if◌then◌else◌}
use Rattle.logic_core.specs.Junction.{is_truth}
use Rattle.proof_core.specs.Close.{is_negation_of}
use Rattle.tableau_branch.specs.Branch.{Fact, Branch, Attempt, none, gives}
use Rattle.tableau_branch.specs.Move.{Move, closes}

-- one of the two is the normal Not of the other
abbrev pub are_opposed : Fact → Fact → Bool
are_opposed f g = is_negation_of g.term f.term || is_negation_of f.term g.term

-- the first pair by its later fact, and then by its earlier one; a fact that is false pairs with itself
abbrev pub pair_from : List Fact → List Fact → Option (Fact × Fact)
pair_from before [] = None
pair_from before (g ∷ gs) = elim (find (λ f. are_opposed f g) before) [
  | Some f ↦ Some (f, g)
  | None ↦ elim (is_truth false g.term) [ true ↦ Some (g, g) | false ↦ pair_from (before ++ g ∷ []) gs ]
]

-- f has the smaller number, and stands first unless only f is the normal Not of g
abbrev pub close_by : Fact → Fact → Move
close_by f g = if nat_eq f.number g.number || is_negation_of g.term f.term then record { ending = closes f.number g.number; made = [] }
    else record { ending = closes g.number f.number; made = [] }

abbrev pub close : Branch → Attempt Move
close b = elim (pair_from [] b.facts) [
  | None ↦ none
  | Some p ↦ gives (if nat_le (p.0).number (p.1).number then close_by p.0 p.1 else close_by p.1 p.0)
]
