use Rattle.std.proofs.Common.{◌≡◌, ◌++◌, map, drop, []}
use Rattle.std.specs.Option.{option_map}
use Rattle.quantifier_triggers.specs.Choice.{cover}
use Rattle.quantifier_triggers.proofs.choice.cover.Given as goal

-- what is taken so far, and then what is taken of the rest
abbrev pub invariant-loop-candidate : goal.invariant-loop-candidate
invariant-loop-candidate l =
    option_map (λ us. l.taken.items ++ us) (cover l.variables l.covered.items (map (λ x. x.now) (drop l.candidate-index l.candidates))) ≡ cover l.variables [] (map (λ x. x.now) l.candidates)
