-- Canonical numbers: definitions in a walk from the goal and then the axioms, variables by their first occurrence in the text.
use Rattle.std.specs.Prelude.{◌≡◌, ℕ, zero, suc, ◌+◌, nat_eq, option_map, unwrap_or, true, List, [], ◌∷◌, ◌++◌, map, flat_map, fold, length, slice_get, if◌then◌else◌}
use Rattle.std.specs.List.{list_any}
use Rattle.logic_core.specs.Tree.{Tree, truth}
use Rattle.logic_core.specs.Def.{Def, Obligation}
use Rattle.logic_core.specs.Variables.{variables, calls, joined, first_occurrences}

abbrev pub body : List Def → ℕ → Tree
body ds f = unwrap_or (option_map (λ d. d.body) (slice_get ds f)) (truth true)

-- the walk: a definition not yet numbered has its body walked first, and then takes the next number; bodies call definitions of lower numbers, so `depth` bounds it
abbrev pub visited : List Def → ℕ → List ℕ → ℕ → List ℕ
visited ds zero order f = joined order f
visited ds (suc depth) order f = let deeper = fold (visited ds depth) order (calls (body ds f)) in if list_any (nat_eq f) order then order else joined deeper f

-- the definitions that are reached, in the order of their new numbers
abbrev pub definition_order : Obligation → List ℕ
definition_order o = fold (visited o.defs (length o.defs)) [] (flat_map calls (o.goal ∷ o.axioms))

-- the terms in which variables take their numbers: the bodies of these definitions, the axioms and the goal
abbrev pub numbered_terms : Obligation → List ℕ → List Tree
numbered_terms o fs = map (body o.defs) fs ++ o.axioms ++ o.goal ∷ []

-- the variables in the order of their new numbers
abbrev pub variable_order : Obligation → List ℕ → List ℕ
variable_order o fs = first_occurrences [] (flat_map variables (numbered_terms o fs))

-- 0, 1 .. below n
abbrev pub up_from : ℕ → ℕ → List ℕ
up_from k zero = []
up_from k (suc n) = k ∷ up_from (k + 1) n

abbrev pub up_to : ℕ → List ℕ
up_to n = up_from 0 n

-- each definition is reached, each variable occurs, and both have their numbers
pub record IsCanonical (o : Obligation) : Type 0 where
  pub definitions : definition_order o ≡ up_to (length o.defs)
  pub variables : variable_order o (up_to (length o.defs)) ≡ up_to (length o.vars)
