use Rattle.std.proofs.Common.{◌≡◌, map, take}
use Rattle.passive_form.specs.Incarnations.{read}
use Rattle.passive_form.proofs.made.read_each.Given as goal

abbrev pub invariant-loop-pair : goal.invariant-loop-pair
invariant-loop-pair l = l.all.items ≡ map (λ p. (p.0, read l.present p.1)) (take l.pair-index l.pairs)
