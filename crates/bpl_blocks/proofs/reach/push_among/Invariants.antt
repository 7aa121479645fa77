use Rattle.std.proofs.Common.{◌≡◌, ◌++◌, drop, false}
use Rattle.bpl_blocks.specs.Among.{clauses_among}
use Rattle.bpl_blocks.specs.Blocks.{assume_all}
use Rattle.bpl_blocks.proofs.reach.push_among.Given as goal

-- the commands so far, and then those of the globals that are ahead
abbrev pub invariant-loop-global : goal.invariant-loop-global
invariant-loop-global l = l.commands.items ++ assume_all (clauses_among l.declared l.reached l.is_reached (drop l.global-index l.globals)) ≡ l.fn.commands.items ++ assume_all (clauses_among l.declared l.reached false l.globals)
