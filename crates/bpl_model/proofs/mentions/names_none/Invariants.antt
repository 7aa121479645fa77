use Rattle.std.proofs.Common.{◌≡◌, drop}
use Rattle.bpl_model.specs.Walk.{names_none}
use Rattle.bpl_model.proofs.mentions.names_none.Given as goal

-- none so far
abbrev pub invariant-loop-lead : goal.invariant-loop-lead
invariant-loop-lead l = names_none l.texts l.symbols (drop l.lead-index l.leads) ≡ names_none l.texts l.symbols l.leads
