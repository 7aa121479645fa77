use Rattle.std.proofs.Common.{◌≡◌, ◌++◌, ◌+◌, drop, length}
use Rattle.bpl_scopes.specs.Shape.{kind_seen}
use Rattle.bpl_declaration_faults.specs.DeclView.{vars_named}
use Rattle.bpl_declaration_faults.proofs.variables.push_named.Given as goal

abbrev pub invariant-loop-name : goal.invariant-loop-name
invariant-loop-name l = record {
  vars : l.vars ++ vars_named (kind_seen l.sort) l.role l.number (drop l.name-index l.names) ≡ l.fn.vars ++ vars_named (kind_seen l.sort) l.role l.from l.names;
  counted : l.number + length (drop l.name-index l.names) ≡ l.from + length l.names;
}
