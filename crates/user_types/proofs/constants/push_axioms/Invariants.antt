use Rattle.std.proofs.Common.{◌≡◌, ◌++◌, drop}
use Rattle.user_types.specs.Erased.{axioms_from}
use Rattle.user_types.specs.Views.{uniques_seen, counted}
use Rattle.user_types.proofs.constants.push_axioms.Given as goal

abbrev pub invariant-loop-constant : goal.invariant-loop-constant
invariant-loop-constant l = l.made.items ++ axioms_from (counted l.counts.items) l.number (uniques_seen (drop l.constant-index l.constants)) ≡ l.fn.made.items ++ axioms_from (λ i. 0) l.axioms (uniques_seen l.constants)
