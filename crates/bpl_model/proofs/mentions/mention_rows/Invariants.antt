use Rattle.std.proofs.Common.{◌≡◌, drop}
use Rattle.bpl_model.specs.Walk.{mention_rows, with_axioms, rows_of}
use Rattle.bpl_model.proofs.mentions.mention_rows.Given as goal

-- the axioms that are ahead
abbrev pub invariant-loop-d : goal.invariant-loop-d
invariant-loop-d l = with_axioms l.texts l.symbols l.axioms (rows_of l.rows.items) (drop l.d-index l.positions) ≡ mention_rows l.texts l.symbols l.axioms l.positions
