use Rattle.std.proofs.Common.{◌≡◌, drop}
use Rattle.std.specs.List.{flat_map}
use Rattle.bpl_model.specs.Marking.{mark_all}
use Rattle.bpl_model.specs.Walk.{on, rows_of}
use Rattle.bpl_model.proofs.walk.follow.Given as goal

-- the declarations that are ahead
abbrev pub invariant-loop-r : goal.invariant-loop-r
invariant-loop-r l = mark_all l.marking (flat_map (on l.texts (rows_of l.rows)) (drop l.r-index l.from)) ≡ mark_all l.fn.marking (flat_map (on l.texts (rows_of l.rows)) l.from)
