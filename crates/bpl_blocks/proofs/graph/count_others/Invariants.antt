use Rattle.std.proofs.Common.{◌≡◌, ◌+◌, ◌≤◌, length, drop}
use Rattle.std.specs.Prelude.{filter, not}
use Rattle.bpl_model.specs.Module.{Local}
use Rattle.bpl_blocks.proofs.graph.count_others.Given as goal

-- those so far, and then those that are ahead
abbrev pub invariant-loop-local : goal.invariant-loop-local
invariant-loop-local l = record {
  all : l.count + length (filter (λ (v : Local). not v.own) (drop l.local-index l.locals)) ≡ length (filter (λ (v : Local). not v.own) l.locals);
  fits : l.count ≤ l.local-index;
}
