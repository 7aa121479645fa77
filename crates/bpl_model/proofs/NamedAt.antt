-- Whether one of the declarations at positions has a name, by the set of their names.
use Rattle.std.specs.Prelude.{◌≡◌, refl, ℕ, ◌||◌, List, [], ◌∷◌, map, bytes_eq}
use Rattle.std.specs.List.{list_any}
use Rattle.std.proofs.Common.{◌∙◌}
use Rattle.bpl_model.specs.Module.{Name, Module}
use Rattle.bpl_model.specs.Reach.{is_named}
use Rattle.bpl_model.specs.Names.{with_names}
use Rattle.bpl_model.specs.Walk.{text_at}
use Rattle.bpl_model.proofs.NamesPut.{names_among}

named_one : (m : Module) (n : Name) (ds : List ℕ) → list_any (bytes_eq n) (map (λ d. (text_at m.texts d).name) ds) ≡ list_any (is_named m n) ds
named_one m n [] = refl
named_one m n (d ∷ ds) = λ i. is_named m n d || named_one m n ds i

pub named_at : (m : Module) (n : Name) (ds : List ℕ) → list_any (bytes_eq n) (with_names [] (map (λ d. (text_at m.texts d).name) ds)) ≡ list_any (is_named m n) ds
named_at m n ds = names_among [] (map (λ d. (text_at m.texts d).name) ds) n ∙ named_one m n ds
