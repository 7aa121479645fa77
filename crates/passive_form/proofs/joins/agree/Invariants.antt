use Rattle.std.proofs.Common.{◌≡◌, nat_eq, drop}
use Rattle.std.specs.List.{list_all}
use Rattle.passive_form.specs.Incarnations.{incarnation, lasts}
use Rattle.passive_form.proofs.joins.agree.Given as goal

-- those before agree
abbrev pub invariant-loop-block : goal.invariant-loop-block
invariant-loop-block l = list_all (λ j. nat_eq l.number (incarnation j l.variable)) (lasts l.done (drop l.block-index l.blocks)) ≡ list_all (λ j. nat_eq l.number (incarnation j l.variable)) (lasts l.done l.blocks)
