use Rattle.std.proofs.Common.{◌≡◌, drop}
use Rattle.bpl_scopes.specs.CountsView.{counts_seen}
use Rattle.bpl_declaration_faults.specs.DeclFaults.{nothing_before, faults_after, first_from}
use Rattle.bpl_declaration_faults.specs.DeclView.{before_seen}
use Rattle.bpl_resolve.proofs.type_fault.first_fault_of.Given as goal

abbrev pub invariant-loop-i : goal.invariant-loop-i
invariant-loop-i l = first_from l.i (faults_after l.dependencies (counts_seen l.counts) (before_seen l.before) (drop l.i l.decls)) ≡ first_from 0 (faults_after l.dependencies (counts_seen l.counts) nothing_before l.decls)
