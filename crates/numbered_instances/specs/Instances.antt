-- The tuples of a fact's triggers, and whether the fact has a mark with one.
use Rattle.std.specs.Prelude.{ℕ, nat_eq, Bool, true, false, not, ◌&&◌, List, [], ◌++◌}
use Rattle.std.specs.List.{list_any}
use Rattle.logic_core.specs.Tree.{Kind, Tree, for_all, Patterns, no_patterns, pattern}
use Rattle.logic_core.specs.Def.{Def}
use Rattle.quantifier_triggers.specs.Match.{tuples}
use Rattle.tableau_branch.specs.Branch.{Mark}
use Rattle.logic_rules.specs.Instantiating.{same_mark}
use Rattle.numbered_branches.specs.Branches.{NumberedMark}

-- those of the triggers of a quantifier, in order
abbrev pub tuples_by : List Kind → List Def → List Kind → List Tree → Patterns → List (List Tree)
tuples_by vars defs ss terms no_patterns = []
tuples_by vars defs ss terms (pattern ps rest) = tuples vars defs ps ss terms ++ tuples_by vars defs ss terms rest

-- none of a term that is no ForAll
abbrev pub tuples_in : List Kind → List Def → List Tree → Tree → List (List Tree)
tuples_in vars defs terms (for_all ss ps t) = tuples_by vars defs ss terms ps
tuples_in vars defs terms t = []

-- the body of a ForAll
abbrev pub body_in : Tree → Tree
body_in (for_all ss ps t) = t
body_in t = t

-- whether there is no mark of the fact with the tuple
abbrev pub is_new : List Mark → Tree → List Tree → Bool
is_new ms t us = not (list_any (λ (m : Mark). same_mark m (record { fact = t; tuple = us })) ms)

-- whether one of the marks is this one
abbrev pub is_marked : List NumberedMark → ℕ → ℕ → Bool
is_marked ms fact tuple = list_any (λ (m : NumberedMark). nat_eq m.fact fact && nat_eq m.tuple tuple) ms

abbrev pub is_for_all : Tree → Bool
is_for_all (for_all ss ps t) = true
is_for_all t = false
