-- What the search's data over numbers stand for.
use Rattle.std.specs.Prelude.{Vec, List, map}
use Rattle.std.specs.declared.alloc.Global.{Global}
use Rattle.numbered_branches.specs.Branches as numbered
use Rattle.numbered_branches.specs.Moves as moves
use Rattle.numbered_branches.specs.declared.played.Ending.{Ending}
use Rattle.numbered_branches.specs.declared.played.Ending.TheVariants as ending
use Rattle.numbered_branches.specs.declared.played.Move.{Move}
use Rattle.numbered_branches.specs.declared.played.Played.{Played}
use Rattle.numbered_branches.specs.declared.step.Step.{Step}
use Rattle.numbered_branches.specs.StepView.{step_seen}

abbrev pub ending_seen : Ending → moves.NumberedEnding
ending_seen ending.GoesOn = moves.goes_on
ending_seen (ending.Closes f g) = moves.closes f g
ending_seen (ending.Forks f) = moves.forks f
ending_seen (ending.Chooses f i) = moves.chooses f i
ending_seen (ending.Passes i) = moves.passes i
ending_seen (ending.Decides i) = moves.decides i

abbrev pub move_seen : Move → moves.NumberedMove
move_seen m = record { ending = ending_seen m.ending; made = m.made.items }

abbrev pub each_seen : List (Vec Step Global) → List (List numbered.NumberedStep)
each_seen vs = map (λ (v : Vec Step Global). map step_seen v.items) vs

abbrev pub played_seen : Played → moves.NumberedPlayed
played_seen p = record { ending = ending_seen p.ending; steps = each_seen p.steps.items }
