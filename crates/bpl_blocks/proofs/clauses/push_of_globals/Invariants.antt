use Rattle.std.proofs.Common.{◌≡◌, ◌++◌, map, drop}
use Rattle.bpl_model.specs.Module.{Global}
use Rattle.bpl_blocks.proofs.clauses.push_of_globals.Given as goal

-- the clauses so far, and then those of the globals that are ahead
abbrev pub invariant-loop-global : goal.invariant-loop-global
invariant-loop-global l = l.clauses.items ++ map (λ (g : Global). g.clause) (drop l.global-index l.globals) ≡ l.fn.clauses.items ++ map (λ (g : Global). g.clause) l.globals
