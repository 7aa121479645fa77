-- The equations of assertions are well sorted, and so are obligations made of them.
use Rattle.std.specs.Prelude.{ℕ, IsTrue, List, [], All}
use Rattle.logic_core.specs.Tree.{Kind, Tree}
use Rattle.logic_core.specs.Def.{Def}
use Rattle.logic_core.specs.Sorts.{bodies_sorted}
use Rattle.logic_core.specs.WellSorted.{IsFormula, IsWellSorted}
use Rattle.flow_core.specs.Graph.{Graph}
use Rattle.passive_form.specs.declared.passive.Passive.{Passive}
use Rattle.passive_form.specs.Kept.{MayBePassified}
use Rattle.passive_form.specs.Incarnations.{passify}
use Rattle.block_wp.specs.Equations.{equations}
use Rattle.block_wp.specs.Broken.{EdgesRise, FormulasAreSorted}

-- over the graph's incarnations, with axioms beside it
abbrev pub IsSortedWith : Passive → List Def → List Tree → ℕ → ℕ → Type 0
IsSortedWith g defs axioms k at = IsWellSorted (record { vars = g.vars; defs = (equations g defs k at).defs; axioms = axioms; goal = (equations g defs k at).goal })

abbrev pub EquationsAreSorted : Type 0
EquationsAreSorted =
    (g : Passive) (defs : List Def) → EdgesRise g.blocks → FormulasAreSorted defs g → IsTrue (bodies_sorted g.vars [] defs)
    → (axioms : List Tree) → All (IsFormula g.vars defs) axioms → (k at : ℕ) → IsSortedWith g defs axioms k at

-- what the passive form of a graph has for the equations
pub record HasEquations (defs : List Def) (vars : List Kind) (g : Graph) : Type 0 where
  pub rises : EdgesRise (passify g vars).blocks
  pub formulas : FormulasAreSorted defs (passify g vars)
  pub obligations : (axioms : List Tree) → All (IsFormula vars defs) axioms → (k at : ℕ) → IsSortedWith (passify g vars) defs axioms k at

abbrev pub PassiveEquationsAreSorted : Type 0
PassiveEquationsAreSorted = (defs : List Def) (vars : List Kind) (g : Graph) → MayBePassified defs vars g → HasEquations defs vars g
