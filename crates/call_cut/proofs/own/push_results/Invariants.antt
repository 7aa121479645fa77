use Rattle.std.proofs.Common.{◌≡◌, ◌++◌, map, drop}
use Rattle.logic_core.specs.Renamed.{new_number}
use Rattle.call_cut.specs.Own.{result_by}
use Rattle.call_cut.proofs.own.push_results.Given as goal

-- the variables so far, and then those of the outs that are ahead
abbrev pub invariant-loop-local : goal.invariant-loop-local
invariant-loop-local l =
    l.own.items ++ map (result_by (new_number l.table)) (drop l.local-index l.outs) ≡ l.fn.own.items ++ map (result_by (new_number l.table)) l.outs
