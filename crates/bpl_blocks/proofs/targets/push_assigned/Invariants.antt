use Rattle.std.proofs.Common.{◌≡◌, ◌++◌, ℕ, map, drop}
use Rattle.logic_core.specs.Tree.{Tree}
use Rattle.bpl_blocks.proofs.targets.push_assigned.Given as goal

-- the variables so far, and then those that are ahead
abbrev pub invariant-loop-pair : goal.invariant-loop-pair
invariant-loop-pair l = l.set.items ++ map (λ (p : ℕ × Tree). p.0) (drop l.pair-index l.pairs) ≡ l.fn.set.items ++ map (λ (p : ℕ × Tree). p.0) l.pairs
