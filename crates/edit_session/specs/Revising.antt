-- Declarations take the places of ones of which they are revisions: what is new then.
use Rattle.std.specs.Prelude.{◌≡◌, ℕ, ◌<◌, List, [], ◌∷◌, map, length, slice_get, Some, None}
use Rattle.bpl_ast.specs.Statement.{Decl}
use Rattle.bpl_model.specs.Module.{Module}
use Rattle.bpl_model.specs.Typed.{IsTypedModule}
use Rattle.user_types.specs.Erased.{erased, told_apart}
use Rattle.body_revision.specs.Revised.{IsRevised}
use Rattle.body_revision.specs.Revision.{IsNew, AreNew, AreRevised, HaveNoFaults, HasPlaces, all_revised}
use Rattle.body_revision.specs.declared.revised.Revision.{Revision}
use Rattle.vc_build.specs.Large.{program_large}
use Rattle.vc_build.specs.Rebuild.{BuiltProc, built, rebuilt}
use Rattle.program_edits.specs.declared.replaced.Replacement.{Replacement}
use Rattle.goal_board.specs.Calls.{Board, BoardCall}
use Rattle.request_text.specs.Request.{Reply}
use Rattle.edit_session.specs.Told.{IsOpened}

abbrev pub changes : List Replacement → List (ℕ × Decl)
changes rs = map (λ (r : Replacement). (r.at, r.decl)) rs

-- each takes the place of a declaration of which it is a revision, and this is what it brings where user types are integers
pub record AreBrought (ds : List Decl) (rs : List Replacement) (vs : List Revision) : Type 0 where
  pub revised : AreRevised ds (changes rs)
  pub new : AreNew (erased ds) (changes rs) vs

-- and none has a fault where they are told apart
pub record AreRevisions (ds : List Decl) (rs : List Replacement) (vs : List Revision) : Type 0 where
  pub brought : AreBrought ds rs vs
  pub apart : HaveNoFaults (told_apart ds) (changes rs)

-- what one brings
pub record IsRevision (ds : List Decl) (r : Replacement) (v : Revision) : Type 0 where
  pub there : r.at < length ds
  pub revised : (d : Decl) → slice_get ds r.at ≡ Some d → IsRevised d.body r.decl.body
  pub new : IsNew (erased ds) r.at r.decl v

-- each has its places in the module, and every module on the way is one
abbrev pub CanBePut : Module → List Revision → Type 0
CanBePut m [] = IsTypedModule m
CanBePut m (v ∷ vs) = CanBePut m vs × (HasPlaces (all_revised m vs) v × IsTypedModule (all_revised m (v ∷ vs)))

-- the module exceeds no limit and is built, where this was built before, and the board has its goals
pub record IsReopened (workers : ℕ) (s : Board) (noted : List BoardCall) (t : Board) (noted' : List BoardCall) (turns : ℕ) (m : Module) (old new : List BuiltProc) (x : Reply) : Type 0 where
  pub within : program_large m ≡ None
  pub are_built : new ≡ built m
  pub opened : IsOpened workers s noted t noted' turns (rebuilt old m) m x
