use Rattle.vc_build.proofs.SortedGoals.{goals_sorted}
use Rattle.vc_build.proofs.proved_goals.goals_are_sorted.Goals as goal

pub returns : goal.returns
returns c = goals_sorted c.sequents_are_sorted.ensures c.remove_gotos_stays_typed.ensures c.remove_gotos_keeps_failures.ensures c.obligations_are_kept.ensures c.canonical_keeps.ensures
