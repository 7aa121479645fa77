use Rattle.std.proofs.Common.{◌≡◌, drop}
use Rattle.std.specs.List.{list_all}
use Rattle.smoke_report.specs.Smoke.{is_shown_or_another}
use Rattle.smoke_report.proofs.search.are_shown.Given as goal

-- all are shown where those that are left are
abbrev pub invariant-loop-goal : goal.invariant-loop-goal
invariant-loop-goal l = list_all (is_shown_or_another l.turns l.point) (drop l.goal-index l.goals) ≡ list_all (is_shown_or_another l.turns l.point) l.goals
