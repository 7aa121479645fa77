use Rattle.std.proofs.Common.{◌≡◌, ◌≤◌, ◌+◌, drop, count_by}
use Rattle.bpl_ast.specs.Statement.{Decl}
use Rattle.body_revision.specs.Procedures.{is_axiom}
use Rattle.body_revision.proofs.axioms.count_axioms.Given as goal

abbrev pub invariant-loop-decl : goal.invariant-loop-decl
invariant-loop-decl l = record {
  counted : l.count + count_by (λ (d : Decl). is_axiom d.body) (drop l.decl-index l.decls) ≡ count_by (λ (d : Decl). is_axiom d.body) l.decls;
  few : l.count ≤ l.decl-index;
}
