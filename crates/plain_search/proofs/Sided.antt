-- The side of an equation that is defined by the other one.
use Rattle.std.proofs.Common.{◌≡◌, refl, ◌∙◌, ap, Bool, true, false, Option, Some, None, if◌then◌else◌}
use Rattle.logic_core.specs.Tree.{Tree}
use Rattle.tableau_branch.specs.Oriented.{defines, defined}
use Rattle.tableau_branch.specs.Sides.{at_side, side_between}
use Rattle.tableau_branch.specs.declared.oriented.Side.{Side}
use Rattle.tableau_branch.specs.declared.oriented.Side.TheVariants.{First, Second}

pub is_defined : (a b : Tree) (o : Option Side) → o ≡ side_between a b → at_side a b o ≡ defined a b
is_defined a b o e = ap (at_side a b) e ∙ by (defines b a) (defines a b)
  where
    by : (p q : Bool) → at_side a b (if p then Some Second else (if q then Some First else None)) ≡ (if p then Some b else (if q then Some a else None))
    by true q = refl
    by false true = refl
    by false false = refl
