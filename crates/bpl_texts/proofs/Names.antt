-- The names of a signature are those of its parameters and then those of its results.
use Rattle.std.proofs.Common.{◌≡◌, refl, ap, List, [], ◌∷◌, ◌++◌}
use Rattle.bpl_ast.specs.Place.{Name, Ty}
use Rattle.bpl_scopes.specs.Scopes.{only_names, texts_of}

pub both_texts : (ps qs : List (Name × Ty)) → texts_of (only_names (ps ++ qs)) ≡ texts_of (only_names ps) ++ texts_of (only_names qs)
both_texts [] qs = refl
both_texts (p ∷ ps) qs = ap (λ l. (p.0).text ∷ l) (both_texts ps qs)
