use Rattle.std.proofs.Common.{◌≡◌, ◌++◌, map, drop}
use Rattle.bpl_model.specs.Cut.{owned}
use Rattle.call_cut.proofs.own.push_owned.Given as goal

-- the variables so far, and then those of the parameters that are ahead
abbrev pub invariant-loop-local : goal.invariant-loop-local
invariant-loop-local l = l.own.items ++ map owned (drop l.local-index l.ins) ≡ l.fn.own.items ++ map owned l.ins
