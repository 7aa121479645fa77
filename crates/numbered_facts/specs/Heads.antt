-- Definitions with the same parameters and sorts, whatever their bodies.
use Rattle.std.specs.Prelude.{Bool, true, false, ◌&&◌, List, [], ◌∷◌}
use Rattle.logic_core.specs.Def.{Def}
use Rattle.logic_core.specs.Same.{same_kind, same_kinds}

abbrev pub same_head : Def → Def → Bool
same_head d e = same_kind d.sort e.sort && same_kinds d.params e.params

abbrev pub same_heads : List Def → List Def → Bool
same_heads [] [] = true
same_heads (d ∷ ds) (e ∷ es) = same_head d e && same_heads ds es
same_heads ds es = false
