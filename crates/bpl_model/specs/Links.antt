-- What is kept of a module's declarations, by which the names of each procedure reach.
use Rattle.std.specs.Prelude.{◌≡◌, ℕ, List, [], ◌∷◌, map, length, filter}
use Rattle.std.specs.List.{range_with_len}
use lib.ListN.{replicate}
use Rattle.bpl_model.specs.Module.{Name, DeclText, Module}
use Rattle.bpl_model.specs.Names.{with_names, place}
use Rattle.bpl_model.specs.Reach.{axiom_name, positions}
use Rattle.bpl_model.specs.Walk.{text_at, with_entry, mention_rows, is_free}

-- over the declarations, and their names
module _ (ts : List DeclText) (ns : List Name) where
  -- each position stands in the row of its declaration's name
  abbrev pub with_places : List (List ℕ) → List ℕ → List (List ℕ)
  with_places T [] = T
  with_places T (d ∷ ds) = with_places (with_entry T (place ns (text_at ts d).name) d) ds

  abbrev pub named_rows : List ℕ → List (List ℕ)
  named_rows ds = with_places (replicate (length ns) []) ds

-- the names of all declarations
abbrev pub declared : Module → List Name
declared m = with_names [] (map (λ d. (text_at m.texts d).name) (positions m))

-- the names of the constants and functions
abbrev pub symbols : Module → List Name
symbols m = with_names (with_names [] (map (λ c. c.name) m.consts)) (map (λ f. f.name) m.functions)

-- the names of the axioms
abbrev pub axioms : Module → List Name
axioms m = with_names [] (map axiom_name (range_with_len 1 (length m.axioms)))

-- the axioms that name each constant and function, by its position
abbrev pub mentions : Module → List (List ℕ)
mentions m = mention_rows m.texts (symbols m) (axioms m) (positions m)

-- those that name none
abbrev pub free : Module → List ℕ
free m = filter (is_free m.texts (symbols m) (axioms m)) (positions m)

-- the names of the declarations, the positions of those of each name, and the axioms that name each and none
pub record IsLinked (m : Module) (names : List Name) (named : List (List ℕ)) (rows : List (List ℕ)) (unbound : List ℕ) : Type 0 where
  pub names_are : names ≡ declared m
  pub named_are : named ≡ named_rows m.texts (declared m) (positions m)
  pub rows_are : rows ≡ mentions m
  pub unbound_are : unbound ≡ free m
