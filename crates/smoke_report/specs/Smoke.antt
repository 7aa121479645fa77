-- What is said of a program's points: those that the search shows to be unreachable, each with so many turns, and how many there are.
use Rattle.std.specs.Prelude.{ℕ, nat_eq, Bool, true, false, ◌&&◌, cond, List, [], ◌∷◌, ◌++◌, map, filter, length, Option, None}
use Rattle.std.specs.List.{list_all}
use Rattle.std.specs.Option.{option_or}
use Rattle.fault_text.specs.Words.{same_place}
use Rattle.flow_core.specs.declared.mark.GoalKind.{GoalKind}
use Rattle.flow_core.specs.declared.mark.GoalKind.TheVariants as why
use Rattle.flow_core.specs.declared.mark.Mark.{Mark}
use Rattle.bpl_model.specs.Module.{Module}
use Rattle.bpl_goto.specs.Removed.{remove_gotos}
use Rattle.tableau.specs.Search.{answer, is_proved}
use Rattle.smoke_report.specs.Put.{with_point}
use Rattle.vc_build.specs.declared.goal.Goal.{Goal}
use Rattle.vc_build.specs.declared.fault.Measure.{Measure}
use Rattle.vc_build.specs.Goals.{goals_at}
use Rattle.vc_build.specs.Large.{large}
use Rattle.smoke_report.specs.declared.program_point.ProgramPoint.{ProgramPoint}
use Rattle.smoke_report.specs.ProgramPoints.{program_points}
use Rattle.smoke_report.specs.Unreached.{point_line, summary}

-- ---- a point

-- the goals of its procedure with the point put in, after gotos are removed
abbrev pub point_goals : Module → ProgramPoint → List Goal
point_goals m x = goals_at (remove_gotos (with_point m x.proc x.number)) x.proc

abbrev pub is_point : ℕ → GoalKind → Bool
is_point n (why.Point k) = nat_eq k n
is_point n kind = false

abbrev pub is_mark_of : ProgramPoint → Mark → Bool
is_mark_of x mark = is_point x.number mark.kind && same_place mark.place x.point.mark.place

-- the search finds a proof of the goal
abbrev pub is_shown : ℕ → Goal → Bool
is_shown turns g = is_proved (answer g.obligation turns).verdict

abbrev pub is_shown_or_another : ℕ → ProgramPoint → Goal → Bool
is_shown_or_another turns x g = cond (is_mark_of x g.mark) (is_shown turns g) true

-- the search finds a proof of the goal with the point's mark
abbrev pub is_unreachable : ℕ → Module → ProgramPoint → Bool
is_unreachable turns m x = list_all (is_shown_or_another turns x) (point_goals m x)

abbrev pub unreachable : ℕ → Module → List ProgramPoint
unreachable turns m = filter (is_unreachable turns m) (program_points m)

abbrev pub none_unreachable : ℕ → Module → Bool
none_unreachable turns m = nat_eq (length (unreachable turns m)) 0

-- ---- the lines

abbrev pub smoke_lines : ℕ → Module → List (List ℕ)
smoke_lines turns m = map point_line (unreachable turns m) ++ summary (length (program_points m)) (length (unreachable turns m)) ∷ []

-- ---- the limits on goals, tested point by point

-- the first that exceeds one, with the number there
abbrev pub large_among : Module → List ProgramPoint → Option (Measure × ℕ)
large_among m [] = None
large_among m (x ∷ xs) = option_or (large (point_goals m x)) (large_among m xs)

abbrev pub points_large : Module → Option (Measure × ℕ)
points_large m = large_among m (program_points m)
