use Rattle.std.proofs.Common.{◌∙◌, sym, ap, length, arith}
use Rattle.logic_core.specs.Junction.{is_truth}
use Rattle.term_bank.specs.Numbered.{at}
use Rattle.numbered_terms.proofs.Items.{all_lower}
use Rattle.numbered_forms.proofs.Operands.{taken, put_last, both_below}
use Rattle.numbered_forms.proofs.junction.push_operand.Goals as goal

pub returns-in-Some-clause-gives : goal.returns-in-Some-clause-gives
returns-in-Some-clause-gives c = taken c.args.terms.now c.args.connective c.args.id c.args.parts.items c.in-Some.more.now c.append_numbers.result c.in-Some.ensures.nested c.append_numbers.ensures

pub returns-in-Some-clause-within : goal.returns-in-Some-clause-within
returns-in-Some-clause-within c = both_below (length c.args.terms.now) c.args.parts.items c.in-Some.more.now c.append_numbers.result c.requires.parts
    (all_lower c.args.id (length c.args.terms.now) c.in-Some.more.now (omega (arith, c.requires.id)) c.in-Some.ensures.within) c.append_numbers.ensures

pub returns-in-None-clause-gives : goal.returns-in-None-clause-gives
returns-in-None-clause-gives c = put_last c.args.terms.now c.args.connective c.args.id c.args.parts.items c.push_number.result c.in-None.ensures.other
    (ap (λ b. is_truth b (at c.args.terms.now c.args.id)) (sym c.neutral.ensures) ∙ sym c.if-is_truth.ensures) c.push_number.ensures
