use Rattle.std.proofs.Common.{◌≡◌, ◌++◌, drop, take, reverse}
use Rattle.bpl_scopes.specs.declared.fault.TypeKind.TheVariants.{Twice as twice}
use Rattle.bpl_scopes.specs.Fault.{again, earlier, first_fault}
use Rattle.bpl_scopes.specs.Scopes.{texts_of}
use Rattle.bpl_faults.specs.Arguments.{names_seen}
use Rattle.bpl_declaration_faults.proofs.before.note_declared.Given as goal

abbrev pub invariant-loop-name : goal.invariant-loop-name
invariant-loop-name l = record {
  found : earlier l.faults.first (first_fault (again twice (reverse l.before) (names_seen (drop l.name-index l.names)))) ≡ earlier l.fn.faults.first (first_fault (again twice (reverse l.fn.before) (names_seen l.names)));
  names : l.before ≡ l.fn.before ++ texts_of (names_seen (take l.name-index l.names));
}
