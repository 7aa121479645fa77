-- The rule trichotomy by its two parts: the first number that isn't decided, with its three ways, and the three branches.
use Rattle.std.specs.Prelude.{true, false, Option, List, if◌then◌else◌}
use Rattle.std.specs.List.{list_any}
use Rattle.logic_core.specs.Tree.{Tree}
use Rattle.logic_core.specs.Def.{Def}
use Rattle.tableau_branch.specs.Branch.{Branch, At, Attempt, none, gives, each, unless_wide, first_attempt, places, without}
use Rattle.tableau_branch.specs.Move.{Move}
use Rattle.theory_rules.specs.Trichotomy.{undecided, is_not, decided_by, is_known_way, ways}
use Rattle.theory_rules.specs.ReadsBack.{after_attempt}

-- the branch in which the number is below, or above, zero
abbrev pub outer_of : Branch → At Tree → Branch
outer_of b a = if is_not (a.fact).term then without a.at b else b

-- the three ways, unless one of them is there
abbrev pub open_of : Branch → List (Option Tree) → Attempt (List Tree)
open_of b os = elim (list_any (is_known_way b) os) [ true ↦ none | false ↦ unless_wide (each (λ o. o) os) ]

module _ (defs : List Def) where
  abbrev pub open_ways : Branch → Tree → Attempt (List Tree)
  open_ways b d = open_of b (ways defs b d)

  abbrev pub open_at : Branch → At Tree → Attempt (At Tree × List Tree)
  open_at b a = after_attempt (open_ways b a.what) (λ ts. gives (a, ts))

  -- the rule by the two
  abbrev pub trichotomy_in_parts : Branch → Attempt Move
  trichotomy_in_parts b = after_attempt (first_attempt (open_at b) (places (undecided b) b)) (λ p. gives (decided_by b p.0 p.1))
