-- When an obligation is well sorted.
use Rattle.std.specs.Prelude.{◌≡◌, IsTrue, Some, List, [], All}
use Rattle.logic_terms.specs.Tree.{Kind, boolean, Tree}
use Rattle.logic_terms.specs.Def.{Def, Obligation}
use Rattle.logic_terms.specs.Sorts.{sort_of, bodies_sorted}

-- a closed, well-sorted term of Bool over these variables and definitions
abbrev pub IsFormula : List Kind → List Def → Tree → Type 0
IsFormula vars defs t = sort_of vars defs [] t ≡ Some boolean

-- each body has its definition's sort, and the axioms and the goal are formulas
pub record IsWellSorted (o : Obligation) : Type 0 where
  pub definitions : IsTrue (bodies_sorted o.vars [] o.defs)
  pub axioms : All (IsFormula o.vars o.defs) o.axioms
  pub goal : IsFormula o.vars o.defs o.goal
