-- What is kept of a program, and which of its procedures stood before.
use Rattle.std.specs.Prelude.{ℕ, Bool, not, List, map, length, filter, find, flat_map, is_some, Option, bytes_eq}
use Rattle.bpl_model.specs.Module.{Proc, Module}
use Rattle.vc_build.specs.declared.goal.Goal.{Goal}
use Rattle.vc_build.specs.Depends.{depends}
use Rattle.vc_build.specs.Goals.{goals_by_passes}
use Rattle.vc_build.specs.Rebuild.{BuiltProc, with_body, stands_in}

-- the procedures with a body, in order, and how many of them were built
pub record Program : Type 0 where
  pub procs : List BuiltProc
  pub rebuilt : ℕ

-- of a module without gotos
abbrev pub kept_of : Module → Proc → BuiltProc
kept_of m p = record { name = p.name; depends = depends m p; goals = goals_by_passes m p }

-- the first procedure with this dependency text
abbrev pub with_text : List BuiltProc → List ℕ → Option BuiltProc
with_text bs text = find (λ (b : BuiltProc). bytes_eq text b.depends) bs

-- the dependency text stands in no procedure before
abbrev pub is_new : List BuiltProc → BuiltProc → Bool
is_new old b = not (stands_in old b.depends)

abbrev pub having_body : List Proc → List Proc
having_body ps = filter (λ p. is_some p.body) ps

-- of how many of these that is so, in a module without gotos
abbrev pub new_in : List BuiltProc → Module → List Proc → ℕ
new_in old m ps = length (filter (λ p. is_new old (kept_of m p)) (having_body ps))

abbrev pub all_goals : List BuiltProc → List Goal
all_goals bs = flat_map (λ (b : BuiltProc). b.goals) bs

-- what is kept of a module without gotos, after these procedures
abbrev pub program_after : List BuiltProc → Module → Program
program_after old m = record { procs = map (kept_of m) (with_body m); rebuilt = new_in old m m.procs }
