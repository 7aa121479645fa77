-- Where a node of a proof stands: the sorts of the variables there, and the normal facts so far, numbered from 0.
use Rattle.std.specs.Prelude.{ℕ, ◌+◌, Option, Some, List, [], ◌∷◌, ◌++◌, length, slice_get}
use Rattle.logic_core.specs.Tree.{Kind, Tree, free, negation}
use Rattle.logic_core.specs.Def.{Def, Obligation}
use Rattle.logic_core.specs.Wide.{◌>>=◌}
use Rattle.logic_core.specs.Sorts.{sort_of}
use Rattle.logic_core.specs.Normal.{normal}

pub record Context : Type 0 where
  pub vars : List Kind
  pub facts : List Tree

-- the fact of a number, where there is one
abbrev pub fact : Context → ℕ → Option Tree
fact c f = slice_get c.facts f

abbrev pub with_fact : Context → Tree → Context
with_fact c t = record { vars = c.vars; facts = c.facts ++ t ∷ [] }

-- the variables with the numbers from n on, one for each sort
abbrev pub variables_from : ℕ → List Kind → List Tree
variables_from n [] = []
variables_from n (k ∷ ks) = free n ∷ variables_from (n + 1) ks

-- new variables of these sorts have the next numbers
abbrev pub new_variables : Context → List Kind → List Tree
new_variables c ks = variables_from (length c.vars) ks

abbrev pub with_variables : Context → List Kind → Context
with_variables c ks = record { vars = c.vars ++ ks; facts = c.facts }

module _ (defs : List Def) where
  -- the sort of a named term, which is to be closed, well sorted and over the variables there
  abbrev pub named : Context → Tree → Option Kind
  named c t = sort_of c.vars defs [] t

  -- the normal form of a formula becomes the next fact; None where making it leaves 128 bits
  abbrev pub appended : Context → Tree → Option Context
  appended c t = normal c.vars defs [] t >>= λ u. Some (with_fact c u)

  abbrev pub appended_each : Context → List Tree → Option Context
  appended_each c [] = Some c
  appended_each c (t ∷ ts) = appended c t >>= λ d. appended_each d ts

  -- a context for each child, with its own new fact
  abbrev pub children : Context → List Tree → Option (List Context)
  children c [] = Some []
  children c (t ∷ ts) = appended c t >>= λ d. children c ts >>= λ ds. Some (d ∷ ds)

-- at the start: the normal axioms in order, then the normal Not of the goal
abbrev pub start : Obligation → Option Context
start o = appended_each o.defs (record { vars = o.vars; facts = [] }) (o.axioms ++ negation o.goal ∷ [])
