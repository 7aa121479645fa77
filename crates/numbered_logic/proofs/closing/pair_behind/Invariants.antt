use Rattle.std.proofs.Common.{◌≡◌, [], map, take, drop}
use Rattle.logic_rules.specs.Closing.{pair_from}
use Rattle.numbered_logic.specs.Denied.{denied_at}
use Rattle.numbered_logic.proofs.closing.pair_behind.Given as goal

abbrev pub invariant-loop-i : goal.invariant-loop-i
invariant-loop-i l = pair_from (map (denied_at l.terms) (take l.i l.denied)) (map (denied_at l.terms) (drop l.i l.denied)) ≡ pair_from [] (map (denied_at l.terms) l.denied)
