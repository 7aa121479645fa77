use Rattle.goal_board.proofs.ByItself.{on_any_err, stepped_alone, unopened}
use Rattle.own_goals.proofs.alone.AloneGoalBoard.open_middle.Goals as goal

pub returns-clause-opened : goal.returns-clause-opened
returns-clause-opened c = rw (← c.self.view_is) (stepped_alone c.self.inside.board c.open_middle_noting.new.board _ _ _ _ tt c.in_ok-opened.ensures.step)

pub returns-in_err-opened-clause-memory : goal.returns-in_err-opened-clause-memory
returns-in_err-opened-clause-memory c = rw (← c.self.view_is) (on_any_err c.from_residual.result (unopened c.self.inside.board c.open_middle_noting.new.board c.in_err-opened.ensures.memory))
