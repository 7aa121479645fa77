-- What the code's variables and declarations stand for.
use Rattle.std.specs.Prelude.{ℕ, ◌+◌, Bool, true, Option, Some, None, List, [], ◌∷◌, reverse}
use Rattle.logic_terms.specs.Tree.{Kind}
use Rattle.logic_terms.specs.Same.{same_kind}
use Rattle.bpl_ast.specs.Place.{Name}
use Rattle.bpl_scopes.specs.declared.part.Role.{Role}
use Rattle.bpl_scopes.specs.Scopes.{Var}
use Rattle.bpl_declaration_faults.specs.DeclFaults.{Before as before}
use Rattle.bpl_declaration_faults.specs.declared.before.Before.{Before}

-- names that are declared together, as variables of one sort, numbered from k on
abbrev pub vars_named : Option Kind → Role → ℕ → List Name → List Var
vars_named s r k [] = []
vars_named s r k (n ∷ ns) = record { name = n.text; role = r; number = k; sort = s } ∷ vars_named s r (k + 1) ns

-- two sorts, where one that is missing agrees with any
abbrev pub sorts_agree : Option Kind → Option Kind → Bool
sorts_agree None k = true
sorts_agree (Some j) None = true
sorts_agree (Some j) (Some k) = same_kind j k

-- the last of the names first
abbrev pub before_seen : Before → before
before_seen b = record { names = reverse b.names; bodies = reverse b.bodies }
