use Rattle.std.proofs.Common.{◌≡◌, drop}
use Rattle.body_revision.specs.Procedures.{is_sought, any_decl}
use Rattle.body_revision.proofs.places.any_sought.Given as goal

abbrev pub invariant-loop-decl : goal.invariant-loop-decl
invariant-loop-decl l = any_decl (is_sought l.sought l.name) (drop l.decl-index l.decls) ≡ any_decl (is_sought l.sought l.name) l.decls
