-- What the module of a program without faults keeps, and that valid goals make its procedures safe.
use Rattle.std.specs.Prelude.{◌≡◌, List}
use Rattle.std.proofs.Common.{sym, subst, inl, inr}
use Rattle.bpl_ast.specs.Statement.{Decl}
use Rattle.bpl_model.specs.Module.{Module}
use Rattle.bpl_resolve.specs.ModuleLaws.{FaultlessIsTyped, FaultlessGoesForward}
use Rattle.vc_build.specs.Sound.{ValidGoalsAreSafe}
use Rattle.user_types.specs.Erased.{erased}
use Rattle.program_opening.specs.Opening.{program}
use Rattle.program_opening.specs.Laws.{IsSound, DeclaredModulesAreSound, ModulesAreSound, ProgramsAreSound}
use Rattle.program_opening.proofs.Openings.{program_of}
use Rattle.program_opening.proofs.OwnNames.{own_names}

pub declared_modules_are_sound : FaultlessIsTyped → FaultlessGoesForward → DeclaredModulesAreSound
declared_modules_are_sound typed forward ds m h =
    let found = program_of ds m (sym h) in
    subst IsSound (sym found.1) (record { typed = typed (erased ds) found.0; forward = forward (erased ds) found.0; own_names = own_names (erased ds) found.0 })

pub modules_are_sound : DeclaredModulesAreSound → ModulesAreSound
modules_are_sound sound text m (inl s) = sound s.decls m (sym s.is)
modules_are_sound sound text m (inr f) = absurd (let never = f.is in cc)

pub programs_are_sound : ModulesAreSound → ValidGoalsAreSafe → ProgramsAreSound
programs_are_sound sound safe text m p opens there valid =
    let s = sound text m opens in
    safe m p s.typed s.forward there valid
