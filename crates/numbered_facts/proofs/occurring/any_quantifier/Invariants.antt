use Rattle.std.proofs.Common.{◌≡◌, drop}
use Rattle.logic_core.specs.Subterm.{is_quantifier}
use Rattle.numbered_facts.specs.Inside.{picks_one}
use Rattle.numbered_facts.proofs.occurring.any_quantifier.Given as goal

abbrev pub invariant-loop-id : goal.invariant-loop-id
invariant-loop-id l = picks_one is_quantifier l.terms (drop l.id-index l.ids) ≡ picks_one is_quantifier l.terms l.ids
