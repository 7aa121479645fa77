use Rattle.goal_board.proofs.ByItself.{stepped_alone}
use Rattle.own_goals.proofs.alone.AloneGoalBoard.look.Goals as goal

pub returns : goal.returns
returns c = rw (← c.self.view_is) (stepped_alone c.self.inside.board c.self.inside.board _ _ _ _ tt c.look.ensures)
