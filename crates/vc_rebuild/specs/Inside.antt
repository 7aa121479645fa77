-- What holds of what is kept.
use Rattle.std.specs.Prelude.{◌≡◌, ◌⊎◌, ℕ, true, List, [], map, cond, is_some, Option, Some, None, Contains, bytes_eq}
use Rattle.std.specs.List.{AllByRecursion}
use Rattle.sha2.specs.Sha256.{sha256}
use Rattle.logic_core.specs.Def.{Obligation}
use Rattle.bpl_model.specs.Module.{Proc, Module}
use Rattle.bpl_model.specs.NoGoto.{BodyHasNoGoto}
use Rattle.rebuild_laws.specs.Resolved.{IsResolved}
use Rattle.vc_build.specs.declared.goal.Goal.{Goal}
use Rattle.vc_build.specs.Depends.{depends}
use Rattle.vc_build.specs.Goals.{goals_by_passes}
use Rattle.vc_build.specs.Rebuild.{BuiltProc, built}
use Rattle.vc_rebuild.specs.Kept.{with_text}

-- these are the goals and dependency texts of some program without faults
pub record AreOfProgram (bs : List BuiltProc) : Type 0 where
  pub typed : Module
  pub resolved : IsResolved typed
  pub are : bs ≡ built typed

-- at first there are none
abbrev pub AreBuilt : List BuiltProc → Type 0
AreBuilt bs = (bs ≡ []) ⊎ AreOfProgram bs

abbrev pub each_obligation : List Goal → List Obligation
each_obligation gs = map (λ (g : Goal). g.obligation) gs

abbrev pub SameObligations : List Goal → List Goal → Type 0
SameObligations gs hs = each_obligation gs ≡ each_obligation hs

-- of a module without gotos: whichever of these has the dependency text of a procedure with a body has its obligations
abbrev pub TextsDecide : List BuiltProc → Module → Type 0
TextsDecide old m = (p : Proc) → Contains m.procs p → is_some p.body ≡ true → (b : BuiltProc) → Contains old b → depends m p ≡ b.depends → SameObligations b.goals (goals_by_passes m p)

-- procedures of the one and of the other that have equal dependency texts have equal obligations
abbrev pub TextsFix : List BuiltProc → List BuiltProc → Type 0
TextsFix bs cs = (b c : BuiltProc) → Contains bs b → Contains cs c → b.depends ≡ c.depends → SameObligations b.goals c.goals

abbrev pub digests_of : List BuiltProc → List (List ℕ)
digests_of bs = map (λ (b : BuiltProc). sha256 b.depends) bs

-- this procedure, if it has the text, or else the first one that has it
abbrev pub found_from : List BuiltProc → Option BuiltProc → List ℕ → Option BuiltProc
found_from bs None text = None
found_from bs (Some b) text = cond (bytes_eq text b.depends) (Some b) (with_text bs text)

-- this procedure, if it has the text
abbrev pub having_text : Option BuiltProc → List ℕ → Option BuiltProc
having_text None text = None
having_text (Some b) text = cond (bytes_eq text b.depends) (Some b) None

abbrev pub HaveNoGoto : List Proc → Type 0
HaveNoGoto ps = AllByRecursion (λ p. BodyHasNoGoto p.body) ps
