use Rattle.std.proofs.Common.{◌≡◌, []}
use lib.ListN.{replicate}
use Rattle.bpl_model.specs.Walk.{rows_of}
use Rattle.bpl_model.proofs.mentions.empty_rows.Given as goal

-- so many rows so far
abbrev pub invariant-loop-row : goal.invariant-loop-row
invariant-loop-row l = rows_of l.rows.items ≡ replicate l._row []
