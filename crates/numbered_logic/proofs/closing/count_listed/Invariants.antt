use Rattle.std.proofs.Common.{take}
use Rattle.std.specs.List.{AllByRecursion}
use Rattle.numbered_logic.specs.Apart.{IsListed}
use Rattle.numbered_logic.specs.declared.closing.Denied.{Denied}
use Rattle.numbered_logic.proofs.closing.count_listed.Given as goal

abbrev pub invariant-loop-i : goal.invariant-loop-i
invariant-loop-i l = AllByRecursion (λ (x : Denied). IsListed l.numbers x.fact) (take l.i l.denied)
