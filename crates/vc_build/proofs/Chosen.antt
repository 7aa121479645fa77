-- The parts of an obligation with chosen triggers are well sorted, as the obligation is.
use Rattle.std.specs.Prelude.{◌≡◌, refl, IsTrue, List, [], map}
use mathlib.Core.Path.{subst, sym}
use Rattle.logic_core.specs.Tree.{Kind, Tree}
use Rattle.logic_core.specs.Def.{Def, Obligation}
use Rattle.logic_core.specs.Sorts.{bodies_sorted}
use Rattle.logic_core.specs.WellSorted.{IsWellSorted}
use Rattle.quantifier_triggers.specs.Choice.{with_triggers, def_with_triggers, obligation_with_triggers}
use Rattle.quantifier_triggers.proofs.SortedObligations

abbrev pub parts : List Kind → List Def → List Tree → Tree → Obligation
parts vars defs axioms goal = record { vars = vars; defs = defs; axioms = axioms; goal = goal }

pub parts_chosen : (o : Obligation) (vars : List Kind) (defs : List Def) (axioms : List Tree) (goal : Tree)
    → vars ≡ o.vars → defs ≡ map (def_with_triggers o.defs) o.defs → axioms ≡ map (with_triggers o.defs) o.axioms → goal ≡ with_triggers o.defs o.goal
    → parts vars defs axioms goal ≡ obligation_with_triggers o
parts_chosen o vars defs axioms goal vars_are defs_are axioms_are goal_is = λ i. parts (vars_are i) (defs_are i) (axioms_are i) (goal_is i)

pub chosen_sorted : (o made : Obligation) → IsWellSorted o → made ≡ obligation_with_triggers o → IsWellSorted made
chosen_sorted o made sorted same = subst IsWellSorted (sym same) (SortedObligations.stays_sorted o sorted)

-- so are the bodies of the definitions
pub chosen_bodies : (o : Obligation) (vars : List Kind) (defs : List Def) → IsWellSorted o → vars ≡ o.vars → defs ≡ map (def_with_triggers o.defs) o.defs → IsTrue (bodies_sorted vars [] defs)
chosen_bodies o vars defs sorted vars_are defs_are =
    let axioms = map (with_triggers o.defs) o.axioms in
    let goal = with_triggers o.defs o.goal in
    (chosen_sorted o (parts vars defs axioms goal) sorted (parts_chosen o vars defs axioms goal vars_are defs_are refl refl)).definitions
