-- The limits on goals and on the bytes of their texts.
use Rattle.std.specs.Prelude.{ℕ, ◌+◌, nat_lt, List, [], ◌∷◌, cond, length, map, flat_map, Option, Some, None}
use Rattle.obligation_text.specs.Text.{obligation_text}
use Rattle.bpl_model.specs.Module.{Module}
use Rattle.vc_build.specs.declared.goal.Goal.{Goal}
use Rattle.vc_build.specs.declared.fault.Measure.{Measure}
use Rattle.vc_build.specs.declared.fault.Measure.TheVariants.{Count, Bytes}
use Rattle.vc_build.specs.Goals.{goals}

-- so many goals of a program at most
abbrev pub count_limit : ℕ
count_limit = 65_536

-- the texts of their obligations have so many bytes together at most
abbrev pub byte_limit : ℕ
byte_limit = 67_108_864

-- the first goal that exceeds a limit, goals before bytes, with the number there; these goals and bytes went before
abbrev pub large_after : ℕ → ℕ → List ℕ → Option (Measure × ℕ)
large_after n b [] = None
large_after n b (size ∷ sizes) =
    let rest = large_after (n + 1) (b + size) sizes in
    cond (nat_lt count_limit (n + 1)) (Some (Count, n + 1)) (cond (nat_lt byte_limit (b + size)) (Some (Bytes, b + size)) rest)

abbrev pub sizes_of : List Goal → List ℕ
sizes_of gs = map (λ g. length (obligation_text g.obligation)) gs

abbrev pub large : List Goal → Option (Measure × ℕ)
large gs = large_after 0 0 (sizes_of gs)

-- of a whole program
abbrev pub program_goals : Module → List Goal
program_goals m = flat_map (goals m) m.procs

abbrev pub program_large : Module → Option (Measure × ℕ)
program_large m = large (program_goals m)
