use Rattle.std.proofs.Common.{◌≡◌, ◌++◌, ◌-◌, map, drop, ℕ}
use Rattle.std.specs.Prelude.{slice_get}
use Rattle.bpl_model.specs.Module.{Local}
use Rattle.bpl_model.specs.Numbering.{first_global}
use Rattle.bpl_model.specs.Cut.{owned_global}
use Rattle.call_cut.proofs.own.push_owned_globals.Given as goal

-- the variables so far, and then those of the globals that are ahead
abbrev pub invariant-loop-number : goal.invariant-loop-number
invariant-loop-number l =
    let F : ℕ → Local = λ g. owned_global (slice_get l.parts.globals (g - first_global l.parts)) in
    l.own.items ++ map F (drop l.number-index l.modified) ≡ l.fn.own.items ++ map F l.modified
