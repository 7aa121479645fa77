-- What the code's answers say declarations and texts are.
use Rattle.std.specs.Prelude.{◌≡◌, ℕ, List}
use Rattle.program_opening.specs.ProcGoals.{goals_by_proc}
use Rattle.bpl_goto.specs.Forward.{AllGoForward}
use Rattle.program_opening.specs.Opening.{Opening, program, refused, Typing, typed, ill_typed, Opens}
use Rattle.program_opening.specs.declared.typing.Typed.{Typed}
use Rattle.program_opening.specs.declared.typing.Typed.TheVariants as found
use Rattle.program_opening.specs.declared.opening.Opened.{Opened}
use Rattle.program_opening.specs.declared.opening.Opened.TheVariants as opened

-- the answer is this, and in a module each goto goes forward
abbrev pub IsTypedAs : Typing → Typed → Type 0
IsTypedAs t (found.Module m) = (t ≡ typed m) × AllGoForward m
IsTypedAs t (found.Refused w) = t ≡ ill_typed w

-- the answer is this, and of a program the goals are there too
abbrev pub IsOpened : Opening → Opened → Type 0
IsOpened o (opened.Program p) = (o ≡ program p.module) × (p.goals.items ≡ goals_by_proc p.module)
IsOpened o (opened.Refused w) = o ≡ refused w

abbrev pub IsOpenedText : List ℕ → Opened → Type 0
IsOpenedText text a = (o : Opening) × Opens text o × IsOpened o a
