-- Laws of what a text is, over the definitions alone.
use Rattle.std.specs.Prelude.{◌≡◌, ℕ, List, slice_get, Some, Contains}
use Rattle.std.specs.List.{AllByRecursion}
use Rattle.logic_core.specs.Valid.{Valid}
use Rattle.bpl_ast.specs.Statement.{Decl}
use Rattle.bpl_model.specs.Module.{Proc, Module}
use Rattle.bpl_model.specs.Typed.{IsTypedModule}
use Rattle.bpl_model.specs.Safe.{Safe}
use Rattle.bpl_goto.specs.Forward.{AllGoForward}
use Rattle.vc_build.specs.Goals.{goals}
use Rattle.program_opening.specs.Opening.{Opening, program, opening, Opens}

-- a text is one thing
abbrev pub OpensOnce : Type 0
OpensOnce = (text : List ℕ) (a b : Opening) → Opens text a → Opens text b → a ≡ b

-- and it is something
abbrev pub OpensSomething : Type 0
OpensSomething = (text : List ℕ) → (o : Opening) × Opens text o

-- no two procedures have one name
abbrev pub HaveOwnNames : List Proc → Type 0
HaveOwnNames ps = (i j : ℕ) (p q : Proc) → slice_get ps i ≡ Some p → slice_get ps j ≡ Some q → p.name ≡ q.name → i ≡ j

-- what the module of a program without faults keeps
pub record IsSound (m : Module) : Type 0 where
  pub typed : IsTypedModule m
  pub forward : AllGoForward m
  pub own_names : HaveOwnNames m.procs

-- of declarations, and of a text
abbrev pub DeclaredModulesAreSound : Type 0
DeclaredModulesAreSound = (ds : List Decl) (m : Module) → opening ds ≡ program m → IsSound m

abbrev pub ModulesAreSound : Type 0
ModulesAreSound = (text : List ℕ) (m : Module) → Opens text (program m) → IsSound m

-- In the program that a text is, a procedure all of whose goals are valid is safe: no execution of it, its gotos as they stand, fails from an entry state.
abbrev pub ProgramsAreSound : Type 0
ProgramsAreSound = (text : List ℕ) (m : Module) (p : Proc) → Opens text (program m) → Contains m.procs p
    → AllByRecursion (λ g. Valid g.obligation) (goals m p) → Safe m p
