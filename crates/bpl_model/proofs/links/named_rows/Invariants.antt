use Rattle.std.proofs.Common.{◌≡◌, drop}
use Rattle.bpl_model.specs.Walk.{rows_of}
use Rattle.bpl_model.specs.Links.{with_places, named_rows}
use Rattle.bpl_model.proofs.links.named_rows.Given as goal

-- the positions that are ahead
abbrev pub invariant-loop-d : goal.invariant-loop-d
invariant-loop-d l = with_places l.texts l.names (rows_of l.rows.items) (drop l.d-index l.positions) ≡ named_rows l.texts l.names l.positions
