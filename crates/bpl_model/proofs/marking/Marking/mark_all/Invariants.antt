use Rattle.std.proofs.Common.{◌≡◌, drop}
use Rattle.bpl_model.specs.Marking.{mark_all}
use Rattle.bpl_model.proofs.marking.Marking.mark_all.Given as goal

-- the positions that are ahead
abbrev pub invariant-loop-position : goal.invariant-loop-position
invariant-loop-position l = mark_all l.self (drop l.position-index l.positions) ≡ mark_all l.fn.self l.positions
