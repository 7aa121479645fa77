use Rattle.std.proofs.Common.{◌∙◌, sym, ap, pos, Some, None, if◌then◌else◌}
use Rattle.logic_core.specs.Tree.{num}
use Rattle.term_bank.proofs.Numbers.{begins_same}
use Rattle.numbered_facts.proofs.saying.solved_alone.Goals as goal

pub returns-then-is_same-clause-gives : goal.returns-then-is_same-clause-gives
returns-then-is_same-clause-gives c = (c.in_ok-zero.ensures.number.0, ap (λ b. if b then Some (num (pos 0)) else None) (sym c.is_same.ensures ∙ c.if-is_same.true) ∙ ap Some (sym c.in_ok-zero.ensures.number.1))

pub returns-clause-grows : goal.returns-clause-grows
returns-clause-grows c = begins_same c.args.terms.now

pub returns-clause-gives : goal.returns-clause-gives
returns-clause-gives c = ap (λ b. if b then Some (num (pos 0)) else None) (sym c.is_same.ensures ∙ c.if-is_same.false)
