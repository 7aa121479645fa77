use Rattle.std.proofs.Common.{◌≡◌, ◌++◌, map, drop}
use Rattle.flow_core.specs.declared.command.Command.TheVariants.{Assume}
use Rattle.loop_cut.proofs.invariants.push_assumed.Given as goal

-- the commands so far, and then those of the invariants that are ahead
abbrev pub invariant-loop-invariant : goal.invariant-loop-invariant
invariant-loop-invariant l =
    l.commands.items ++ map (λ i. Assume i.formula) (drop l.invariant-index l.invariants)
    ≡ l.fn.commands.items ++ map (λ i. Assume i.formula) l.invariants
