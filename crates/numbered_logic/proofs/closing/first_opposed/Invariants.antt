use Rattle.std.proofs.Common.{◌≡◌, drop, find, map}
use Rattle.logic_rules.specs.Closing.{are_opposed}
use Rattle.numbered_logic.specs.Denied.{denied_at}
use Rattle.numbered_logic.proofs.closing.first_opposed.Given as goal

abbrev pub invariant-loop-other : goal.invariant-loop-other
invariant-loop-other l = find (λ f. are_opposed f (denied_at l.terms l.one)) (map (denied_at l.terms) (drop l.other-index l.denied)) ≡ find (λ f. are_opposed f (denied_at l.terms l.one)) (map (denied_at l.terms) l.denied)
