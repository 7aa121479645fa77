-- The terms of a list of trees.
use Rattle.std.specs.Prelude.{◌≡◌, refl, ℕ, Some, None, List, [], ◌∷◌, slice_get}
use Rattle.std.proofs.Common.{ap}
use Rattle.logic_core.specs.Tree.{Tree, call}
use Rattle.logic_core.specs.Def.{Def}
use Rattle.logic_core.specs.Substitute.{substitute}
use Rattle.proof_core.specs.Replace.{body_of}
use Rattle.logic_core.specs.Subterm.{listed}
use Rattle.logic_core.specs.View.{trees_of}

pub listed_trees : (ts : List Tree) → listed (trees_of ts) ≡ ts
listed_trees [] = refl
listed_trees (t ∷ ts) = ap (λ us. t ∷ us) (listed_trees ts)

-- the body of a called definition, with the arguments
pub body_is : (defs : List Def) (n : ℕ) (ts : List Tree) (d : Def) → slice_get defs n ≡ Some d → body_of defs (call n (trees_of ts)) ≡ Some (substitute d.body ts)
body_is defs n ts d found = rw (found, listed_trees ts) refl

pub no_body : (defs : List Def) (n : ℕ) (ts : List Tree) → slice_get defs n ≡ None → body_of defs (call n (trees_of ts)) ≡ None
no_body defs n ts none = rw none refl
