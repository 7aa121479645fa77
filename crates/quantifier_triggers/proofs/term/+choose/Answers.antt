use Rattle.std.proofs.Common.{◌∙◌, refl, sym, arith, rules, FitsSigned}
use Rattle.std.specs.Int.{w128}
use Rattle.std.proofs.lemmas.Int.{to_z-of_z}
use Rattle.std.proofs.lemmas.Grind.{common_steps}
use Rattle.logic_core.specs.View.{trees_of, parts_of}
use Rattle.logic_core.specs.Before.{tree_before, part_before}
use Rattle.logic_core.proofs.Made.{made_more, made_all, trees_before_none, parts_before_none}
use Rattle.quantifier_triggers.specs.Choice.{each_with_triggers, parts_with_triggers}
use Rattle.quantifier_triggers.proofs.term.+choose.Goals as goal

pub choose_each-loop-term-preserved : goal.choose_each-loop-term-preserved
choose_each-loop-term-preserved t c = record {
  made = made_more tree_before (λ ys. each_with_triggers c.args.defs.now (trees_of ys)) c.args.terms.now _ _ c.loop-term.term-index _ _ _ c.loop-term-test.true c.term-item.is c.in_ok-push.ensures.items c.loop-term.invariant.made (rw c.in_ok-choose.ensures refl);
  less = grind (arith, common_steps);
}

pub choose_each-returns : goal.choose_each-returns
choose_each-returns t c = sym (trees_before_none c.loop-term.copies.items) ∙ made_all tree_before (λ ys. each_with_triggers c.args.defs.now (trees_of ys)) c.args.terms.now _ c.loop-term.term-index _ c.loop-term-test.false c.loop-term.invariant.made

pub choose_parts-loop-part-preserved : goal.choose_parts-loop-part-preserved
choose_parts-loop-part-preserved t c = let fits : FitsSigned w128 c.part-item.result.0 = search rules in record {
  made = made_more part_before (λ ys. parts_with_triggers c.args.defs.now (parts_of ys)) c.args.parts.now _ _ c.loop-part.part-index _ _ _ c.loop-part-test.true c.part-item.is c.in_ok-push.ensures.items c.loop-part.invariant.made (rw (to_z-of_z w128 _ fits, c.in_ok-choose.ensures) refl);
  less = grind (arith, common_steps);
}

pub choose_parts-returns : goal.choose_parts-returns
choose_parts-returns t c = sym (parts_before_none c.loop-part.copies.items) ∙ made_all part_before (λ ys. parts_with_triggers c.args.defs.now (parts_of ys)) c.args.parts.now _ c.loop-part.part-index _ c.loop-part-test.false c.loop-part.invariant.made
