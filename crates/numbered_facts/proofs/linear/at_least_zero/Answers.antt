use Rattle.std.proofs.Common.{subst, IfOk}
use Rattle.logic_core.specs.Normal.{zero_at_most}
use Rattle.term_bank.proofs.Numbers.{begins_then}
use Rattle.numbered_terms.specs.At.{IsAt}
use Rattle.numbered_facts.proofs.linear.at_least_zero.Goals as goal

pub returns-clause-grows : goal.returns-clause-grows
returns-clause-grows c = begins_then c.args.terms.now c.make.new.terms c.zero_at_most.new.terms c.make.ensures.grows c.zero_at_most.ensures.grows

pub returns-clause-gives : goal.returns-clause-gives
returns-clause-gives c = subst (λ t. IfOk c.zero_at_most.result (λ i. IsAt c.zero_at_most.new.terms i (zero_at_most t))) c.in_ok-side.ensures.gives.1 c.zero_at_most.ensures.gives
