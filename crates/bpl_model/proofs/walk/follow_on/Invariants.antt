use Rattle.std.proofs.Common.{◌≡◌, ◌-◌, length}
use Rattle.bpl_model.specs.Marking.{follow_on}
use Rattle.bpl_model.specs.Walk.{on, rows_of}
use Rattle.bpl_model.proofs.walk.follow_on.Given as goal

-- the rounds that are ahead
abbrev pub invariant-loop-round : goal.invariant-loop-round
invariant-loop-round l = (follow_on (on l.texts (rows_of l.rows)) (length l.texts - l._round) l.marking).marks ≡ (follow_on (on l.texts (rows_of l.rows)) (length l.texts) l.fn.marking).marks
