-- The rule trichotomy: of a fact Not Eq(d, 0) of Int, or of a fact Le(0, d) beside a fact Le(0, -d), three branches are made, in which d is below, at and above zero.
use Rattle.std.specs.Prelude.{Bool, true, false, ◌&&◌, Option, Some, None, option_map, List, [], ◌∷◌, map, if◌then◌else◌}
use Rattle.std.specs.List.{list_any, filter_map}
use Rattle.std.specs.Ordering.{int_eq}
use Rattle.logic_core.specs.Tree.{Tree, negation, equal, at_most}
use Rattle.logic_core.specs.Def.{Def}
use Rattle.logic_core.specs.Wide.{◌>>=◌, when}
use Rattle.logic_core.specs.Same.{same_parts, is_some_and}
use Rattle.logic_core.specs.Sum.{Linear}
use Rattle.logic_core.specs.Junction.{is_zero}
use Rattle.logic_core.specs.Tighten.{tighten}
use Rattle.logic_core.specs.Combine.{linear_of}
use Rattle.proof_core.specs.Maps.{below_zero, at_zero, above_zero}
use Rattle.tableau_branch.specs.Branch.{Fact, Branch, normal_in, is_there, each, Attempt, none, unless_wide, first_attempt, At, places, without}
use Rattle.tableau_branch.specs.Change.{Made}
use Rattle.tableau_branch.specs.Move.{Move, decides}
use Rattle.theory_rules.specs.Combining.{is_at_most, opposite}
use Rattle.tableau_branch.specs.Cases.{case}

-- the linear forms of the facts Le(0, s)
abbrev pub at_most_form : Fact → Option Linear
at_most_form f = when (is_at_most f.term) (linear_of f.term)

abbrev pub at_most_forms : List Fact → List Linear
at_most_forms fs = filter_map at_most_form fs

-- the second is the opposite of the first
abbrev pub is_opposite : Linear → Linear → Bool
is_opposite s r = same_parts (opposite s).parts r.parts && int_eq (opposite s).rest r.rest

-- beside the fact Le(0, s) there is a fact Le(0, -s)
abbrev pub has_opposite : Branch → Linear → Bool
has_opposite b s = list_any (is_opposite s) (at_most_forms b.facts)

-- d of Eq(d, 0)
abbrev pub equation_of_zero : Tree → Option Tree
equation_of_zero (equal d z) = when (is_zero z) (Some d)
equation_of_zero t = None

-- d of a fact Not Eq(d, 0) of Int, or of a fact Le(0, d) beside one of whose form is opposite; these are the forms
abbrev pub undecided_by : List Linear → Tree → Option Tree
undecided_by forms (negation t) = equation_of_zero t
undecided_by forms (at_most z d) = linear_of (at_most z d) >>= λ s. when (list_any (is_opposite s) forms) (Some d)
undecided_by forms t = None

abbrev pub undecided_in : Branch → Tree → Option Tree
undecided_in b t = undecided_by (at_most_forms b.facts) t

abbrev pub undecided : Branch → Fact → Option Tree
undecided b f = undecided_in b f.term

abbrev pub is_not : Tree → Bool
is_not (negation t) = true
is_not t = false

-- one more fact in each of three branches
abbrev pub three_cases : Branch → Branch → List Tree → List Made
three_cases outer inner (below ∷ zero ∷ above ∷ []) = case outer below ∷ case inner zero ∷ case outer above ∷ []
three_cases outer inner ts = []

-- a Not Eq goes in the first and in the third branch
abbrev pub decided_by : Branch → At Tree → List Tree → Move
decided_by b a ts = record { ending = decides a.what; made = three_cases (if is_not (a.fact).term then without a.at b else b) b ts }

abbrev pub is_known_way : Branch → Option Tree → Bool
is_known_way b o = is_some_and o (λ t. is_there (tighten t) b.facts)

module _ (defs : List Def) where
  -- Le(0, -d - 1), Eq(d, 0) and Le(0, d - 1), each where it stays in 128 bits
  abbrev pub ways : Branch → Tree → List (Option Tree)
  ways b d = map (normal_in defs b) (below_zero d ∷ at_zero d ∷ above_zero d ∷ [])

  -- passed over where one of the three is there already, after tightening
  abbrev pub trichotomy_at : Branch → At Tree → Attempt Move
  trichotomy_at b a = let os = ways b a.what in elim (list_any (is_known_way b) os) [ true ↦ none | false ↦ unless_wide (option_map (decided_by b a) (each (λ o. o) os)) ]

  abbrev pub trichotomy : Branch → Attempt Move
  trichotomy b = first_attempt (trichotomy_at b) (places (undecided b) b)
