use Rattle.std.proofs.Common.{◌≡◌, map}
use Rattle.std.specs.List.{range_with_len}
use Rattle.bpl_model.specs.Reach.{axiom_name}
use Rattle.bpl_model.proofs.declarations.axiom_names.Given as goal

-- the names so far
abbrev pub invariant-loop-k : goal.invariant-loop-k
invariant-loop-k l = l.names.items ≡ map axiom_name (range_with_len 1 l.k)
