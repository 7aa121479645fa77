use Rattle.std.proofs.Common.{◌≡◌, drop, flat_map}
use Rattle.bpl_scopes.specs.CountsView.{counts_seen}
use Rattle.bpl_scopes.specs.Fault.{earlier, first_fault}
use Rattle.bpl_declaration_faults.specs.DeclFaults.{clause_faults_in}
use Rattle.bpl_declaration_faults.proofs.declared.Declared.note_each_spec.Given as goal

abbrev pub invariant-loop-clause : goal.invariant-loop-clause
invariant-loop-clause l = earlier l.faults.first (first_fault (flat_map (clause_faults_in l.self.environment.now (counts_seen l.self.counts) l.vars l.hidden) (drop l.clause-index l.clauses))) ≡ earlier l.fn.faults.first (first_fault (flat_map (clause_faults_in l.self.environment.now (counts_seen l.self.counts) l.vars l.hidden) l.clauses))
