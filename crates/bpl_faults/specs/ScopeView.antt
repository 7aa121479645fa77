-- What the code's variables and scopes stand for.
use Rattle.std.specs.Prelude.{◌≡◌, ℕ, List, map, Option, Some, None}
use Rattle.logic_terms.specs.Tree.{Kind}
use Rattle.bpl_scopes.specs.declared.shape.Shape.{Shape}
use Rattle.bpl_scopes.specs.Scopes.{Text, Var as variable, Scope as around, Meaning as sense, bound_to, stands_for, declared_as, nothing}
use Rattle.bpl_scopes.specs.Shape.{kind_seen}
use Rattle.bpl_scopes.specs.KnownSorts.{bounds_seen}
use Rattle.bpl_scopes.specs.CountsView.{counts_seen}
use Rattle.bpl_scopes.specs.TableView.{entity_seen}
use Rattle.bpl_faults.specs.declared.vars.Var.{Var}
use Rattle.bpl_faults.specs.declared.scope.Scope.{Scope}
use Rattle.bpl_faults.specs.declared.meaning.Meaning.{Meaning}
use Rattle.bpl_faults.specs.declared.meaning.Meaning.TheVariants.{Bound, Variable, Declared, Nothing}
use Rattle.bpl_faults.specs.VarsView.{var_seen}

abbrev pub scope_seen : Scope → around
scope_seen s = record { table = s.environment.now; counts = counts_seen s.counts; part = s.part; vars = s.vars.now; bounds = bounds_seen s.bounds.items }

abbrev pub meaning_seen : Meaning → sense
meaning_seen (Bound i k) = bound_to i (kind_seen k)
meaning_seen (Variable v) = stands_for (var_seen v)
meaning_seen (Declared e) = declared_as (entity_seen e)
meaning_seen Nothing = nothing

-- what a name means that bound variables may hide
abbrev pub if_bound : Option (ℕ × Option Shape) → sense → sense
if_bound None m = m
if_bound (Some b) m = bound_to b.0 (kind_seen b.1)
