-- What the laws of heads and of readings of user types say.
use Rattle.std.specs.Prelude.{◌≡◌, ℕ, List}
use Rattle.bpl_ast.specs.Statement.{Decl}
use Rattle.user_types.specs.Erased.{as_integers, maps_over, erased, told_apart}
use Rattle.body_revision.specs.Names.{DeclareAlike}
use Rattle.body_revision.specs.Revision.{all_put, AreRevised}
use Rattle.body_revision.specs.ReadHeads.{heads_from}

-- The heads of a program declare what it declares in the reading.
abbrev pub HeadsDeclareAll : Type 0
HeadsDeclareAll = (ds : List Decl) → DeclareAlike (heads_from as_integers 0 ds) (erased ds) × DeclareAlike (heads_from maps_over 0 ds) (told_apart ds)

-- A reading of a program with revisions is the reading, with these.
abbrev pub ReadingsKeepBodies : Type 0
ReadingsKeepBodies = (ds : List Decl) (cs : List (ℕ × Decl)) → AreRevised ds cs → (erased (all_put ds cs) ≡ all_put (erased ds) cs) × (told_apart (all_put ds cs) ≡ all_put (told_apart ds) cs)
