use Rattle.std.proofs.Common.{◌≡◌, drop}
use Rattle.user_types.specs.Erased.{axioms_after}
use Rattle.user_types.proofs.constants.count_axioms.Given as goal

abbrev pub invariant-loop-decl : goal.invariant-loop-decl
invariant-loop-decl l = axioms_after l.axioms (drop l.decl-index l.decls) ≡ axioms_after 0 l.decls
