-- Axioms by their names.
use Rattle.std.specs.Prelude.{ℕ, ◌+◌, cond, List, [], ◌∷◌, bytes_eq}
use Rattle.std.specs.List.{list_any}
use Rattle.logic_core.specs.Tree.{Tree}
use Rattle.bpl_model.specs.Module.{Name}
use Rattle.bpl_model.specs.Reach.{axiom_name}

-- of the axioms from the k-th on those whose names are among these
abbrev pub axioms_named : List Name → ℕ → List Tree → List Tree
axioms_named ns k [] = []
axioms_named ns k (a ∷ later) = let rest = axioms_named ns (k + 1) later in cond (list_any (bytes_eq (axiom_name k)) ns) (a ∷ rest) rest
