use Rattle.std.proofs.Common.{◌∙◌, refl, sym, FitsSigned, arith, rules}
use Rattle.std.specs.Int.{w128}
use Rattle.std.proofs.lemmas.Int.{to_z-of_z}
use Rattle.std.proofs.lemmas.Grind.{common_steps}
use Rattle.logic_core.specs.View.{trees_of, parts_of, patterns_of, each_items}
use Rattle.logic_core.specs.Traversed.{traversed_each, traversed_parts, traversed_patterns}
use Rattle.logic_core.specs.Before.{tree_before, part_before, pattern_before}
use Rattle.logic_core.proofs.Picked.{stands_whole}
use Rattle.logic_core.proofs.Made.{made_more, made_all, trees_before_none, parts_before_none, patterns_before_none}
use Rattle.logic_core.proofs.traverse.+traverse.Goals as goal

pub traverse-returns-in-Some : goal.traverse-returns-in-Some
traverse-returns-in-Some g t c = sym (stands_whole (g.W.Walk.stands c.args.walk.now) (g.W.Walk.under c.args.walk.now) (g.W.Walk.number c.args.walk.now) c.args.depth c.args.term.now c.in-Some.found (sym c.in_ok-found.ensures ∙ c.in-Some.is))

pub traverse_each-loop-term-preserved : goal.traverse_each-loop-term-preserved
traverse_each-loop-term-preserved g t c = record {
  made = made_more tree_before (λ ys. traversed_each (g.W.Walk.stands c.args.walk.now) (g.W.Walk.under c.args.walk.now) (g.W.Walk.number c.args.walk.now) c.args.depth (trees_of ys)) c.args.each.now _ _ c.loop-term.term-index _ _ _ c.loop-term-test.true c.term-item.is c.in_ok-push.ensures.items c.loop-term.invariant.made (rw c.in_ok-traverse.ensures refl);
  less = grind (arith, common_steps);
}

pub traverse_each-returns : goal.traverse_each-returns
traverse_each-returns g t c = sym (trees_before_none c.loop-term.copies.items) ∙ made_all tree_before (λ ys. traversed_each (g.W.Walk.stands c.args.walk.now) (g.W.Walk.under c.args.walk.now) (g.W.Walk.number c.args.walk.now) c.args.depth (trees_of ys)) c.args.each.now _ c.loop-term.term-index _ c.loop-term-test.false c.loop-term.invariant.made

pub traverse_parts-loop-part-preserved : goal.traverse_parts-loop-part-preserved
traverse_parts-loop-part-preserved g t c = let fits : FitsSigned w128 c.part-item.result.0 = search rules in record {
  made = made_more part_before (λ ys. traversed_parts (g.W.Walk.stands c.args.walk.now) (g.W.Walk.under c.args.walk.now) (g.W.Walk.number c.args.walk.now) c.args.depth (parts_of ys)) c.args.parts.now _ _ c.loop-part.part-index _ _ _ c.loop-part-test.true c.part-item.is c.in_ok-push.ensures.items c.loop-part.invariant.made (rw (to_z-of_z w128 _ fits, c.in_ok-traverse.ensures) refl);
  less = grind (arith, common_steps);
}

pub traverse_parts-returns : goal.traverse_parts-returns
traverse_parts-returns g t c = sym (parts_before_none c.loop-part.copies.items) ∙ made_all part_before (λ ys. traversed_parts (g.W.Walk.stands c.args.walk.now) (g.W.Walk.under c.args.walk.now) (g.W.Walk.number c.args.walk.now) c.args.depth (parts_of ys)) c.args.parts.now _ c.loop-part.part-index _ c.loop-part-test.false c.loop-part.invariant.made

pub traverse_patterns-loop-pattern-preserved : goal.traverse_patterns-loop-pattern-preserved
traverse_patterns-loop-pattern-preserved g t c = record {
  made = made_more pattern_before (λ ys. traversed_patterns (g.W.Walk.stands c.args.walk.now) (g.W.Walk.under c.args.walk.now) (g.W.Walk.number c.args.walk.now) c.args.depth (patterns_of (each_items ys))) c.args.patterns.now _ _ c.loop-pattern.pattern-index _ _ _ c.loop-pattern-test.true c.pattern-item.is c.in_ok-push.ensures.items c.loop-pattern.invariant.made (rw (c.in_ok-traverse_each.ensures, c.deref.ensures.value) refl);
  less = grind (arith, common_steps);
}

pub traverse_patterns-returns : goal.traverse_patterns-returns
traverse_patterns-returns g t c = sym (patterns_before_none c.loop-pattern.copies.items) ∙ made_all pattern_before (λ ys. traversed_patterns (g.W.Walk.stands c.args.walk.now) (g.W.Walk.under c.args.walk.now) (g.W.Walk.number c.args.walk.now) c.args.depth (patterns_of (each_items ys))) c.args.patterns.now _ c.loop-pattern.pattern-index _ c.loop-pattern-test.false c.loop-pattern.invariant.made
