-- The names in types one after another.
use Rattle.std.proofs.Common.{◌≡◌, List, [], ◌∷◌, ◌++◌}
use Rattle.std.specs.Prelude.{flat_map}
use Rattle.std.proofs.lemmas.Grind.{flat_map-append}
use Rattle.std.proofs.lemmas.List.{append-nil}
use Rattle.bpl_scopes.specs.Scopes.{Text}
use Rattle.bpl_texts.specs.Uses.{use_of}

pub uses_both : (h ms ns : List Text) → flat_map (use_of h) (ms ++ ns) ≡ flat_map (use_of h) ms ++ flat_map (use_of h) ns
uses_both h ms ns = flat_map-append (use_of h) ms ns

pub one_use : (h : List Text) (n : Text) → flat_map (use_of h) (n ∷ []) ≡ use_of h n
one_use h n = append-nil (use_of h n)
