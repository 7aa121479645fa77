use Rattle.std.proofs.Common.{◌≡◌, ◌+◌, ◌++◌, drop}
use Rattle.vc_build.specs.NamedAxioms.{axioms_named}
use Rattle.vc_build.proofs.axioms.axioms_named.Given as goal

-- those found so far, and then those among the axioms that are left, are those among all
abbrev pub invariant-loop-i : goal.invariant-loop-i
invariant-loop-i l = l.found.items ++ axioms_named l.names (l.i + 1) (drop l.i l.axioms) ≡ axioms_named l.names 1 l.axioms
