use Rattle.std.proofs.Common.{◌≡◌, ◌++◌, ℕ, drop}
use Rattle.std.specs.Prelude.{None, filter_map, slice_index_or}
use Rattle.bpl_blocks.specs.Blocks.{assume_all}
use Rattle.bpl_blocks.proofs.clauses.push_each.Given as goal

-- the commands so far, and then those of the variables that are ahead
abbrev pub invariant-loop-var : goal.invariant-loop-var
invariant-loop-var l = l.commands.items ++ assume_all (filter_map (λ (v : ℕ). slice_index_or l.clauses v None) (drop l.var-index l.vars)) ≡ l.fn.commands.items ++ assume_all (filter_map (λ (v : ℕ). slice_index_or l.clauses v None) l.vars)
