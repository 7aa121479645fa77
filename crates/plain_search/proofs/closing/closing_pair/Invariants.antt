use Rattle.std.proofs.Common.{◌≡◌, [], take, drop}
use Rattle.logic_rules.specs.Closing.{pair_from}
use Rattle.plain_search.proofs.closing.closing_pair.Given as goal

abbrev pub invariant-loop-i : goal.invariant-loop-i
invariant-loop-i l = pair_from (take l.i l.facts) (drop l.i l.facts) ≡ pair_from [] l.facts
