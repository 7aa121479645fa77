use Rattle.std.proofs.Common.{◌≡◌, drop}
use Rattle.bpl_scopes.specs.KnownSorts.{shapes_seen}
use Rattle.bpl_declaration_faults.specs.DeclFaults.{agree}
use Rattle.bpl_declaration_faults.proofs.implementations.agree.Given as goal

abbrev pub invariant-loop-i : goal.invariant-loop-i
invariant-loop-i l = agree (shapes_seen (drop l.i l.mine)) (shapes_seen (drop l.i l.others)) ≡ agree (shapes_seen l.mine) (shapes_seen l.others)
