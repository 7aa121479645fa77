-- The axioms whose names are among those of reached declarations are the reached axioms.
use Rattle.std.specs.Prelude.{◌≡◌, refl, ℕ, ◌+◌, Bool, true, false, cond, List, [], ◌∷◌, ◌++◌, map, bytes_eq}
use Rattle.std.specs.List.{list_any}
use Rattle.logic_core.specs.Tree.{Tree}
use Rattle.bpl_model.specs.Module.{Name, Module}
use Rattle.bpl_model.specs.Reach.{axiom_name}
use Rattle.bpl_model.specs.Names.{with_names}
use Rattle.bpl_model.specs.Walk.{text_at}
use Rattle.bpl_model.proofs.NamedAt.{named_at}
use Rattle.vc_build.specs.Depends.{axioms_among}
use Rattle.vc_build.specs.NamedAxioms.{axioms_named}

-- the first axiom, and then the others
pub named_next : (ns : List Name) (k : ℕ) (a : Tree) (later : List Tree) → axioms_named ns k (a ∷ later) ≡ axioms_named ns k (a ∷ []) ++ axioms_named ns (k + 1) later
named_next ns k a later = by_test (list_any (bytes_eq (axiom_name k)) ns)
  where
    by_test : (b : Bool) → cond b (a ∷ axioms_named ns (k + 1) later) (axioms_named ns (k + 1) later) ≡ cond b (a ∷ []) [] ++ axioms_named ns (k + 1) later
    by_test true = refl
    by_test false = refl

pub named_are_reached : (m : Module) (reached : List ℕ) (k : ℕ) (ts : List Tree) → axioms_named (with_names [] (map (λ d. (text_at m.texts d).name) reached)) k ts ≡ axioms_among m reached k ts
named_are_reached m reached k [] = refl
named_are_reached m reached k (t ∷ ts) =
    let rest = named_are_reached m reached (k + 1) ts in
    λ i. cond (named_at m (axiom_name k) reached i) (t ∷ rest i) (rest i)
