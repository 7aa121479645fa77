use Rattle.std.proofs.Common.{◌≡◌, ◌++◌, drop, length, map, sum, string_bytes}
use Rattle.std.specs.Arc.{arc_value}
use Rattle.tableau.specs.Settled.{Settled}
use Rattle.edit_session.specs.Built.{goal_counts, told_lines}
use Rattle.edit_session.proofs.reported.push_all.Given as goal

-- as many answers are left as there are goals ahead, and with the lines of these come all lines
abbrev pub invariant-loop-i : goal.invariant-loop-i
invariant-loop-i l = record {
  ahead : sum (goal_counts (drop l.i l.procs)) ≡ length l.left;
  lines : map string_bytes l.lines.items ++ told_lines (drop l.i l.procs) (map (λ a. (arc_value {X = Settled} a).verdict) l.left) ≡ map string_bytes l.fn.lines.items ++ told_lines l.procs (map (λ a. (arc_value {X = Settled} a).verdict) l.answers);
}
