use Rattle.std.proofs.lemmas.Result.{IfOk-weaker, on_err_weaker}
use Rattle.goal_board.proofs.ByItself.{stepped_alone, unopened}
use Rattle.own_goals.proofs.alone.AloneGoalBoard.open.Goals as goal

pub returns-clause-opened : goal.returns-clause-opened
returns-clause-opened c = rw (← c.self.view_is) (IfOk-weaker c.open_noting.result _ _ (λ o h. stepped_alone c.self.inside.board c.open_noting.new.board _ _ _ _ tt h) c.open_noting.ensures.step)

pub returns-clause-memory : goal.returns-clause-memory
returns-clause-memory c = rw (← c.self.view_is) (on_err_weaker c.open_noting.result (unopened c.self.inside.board c.open_noting.new.board) c.open_noting.ensures.memory)
