use Rattle.std.proofs.Common.{◌≡◌, drop}
use Rattle.bpl_model.specs.Walk.{with_mentions, rows_of}
use Rattle.bpl_model.proofs.mentions.put_mentions.Given as goal

-- the names that are ahead
abbrev pub invariant-loop-lead : goal.invariant-loop-lead
invariant-loop-lead l = with_mentions l.texts l.symbols l.d (rows_of l.rows.items) (drop l.lead-index l.leads) ≡ with_mentions l.texts l.symbols l.d (rows_of l.fn.rows.items) l.leads
