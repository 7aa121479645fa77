use Rattle.std.proofs.Common.{◌≡◌, ◌+◌, ◌∙◌, drop, find, arith}
use Rattle.std.specs.Prelude.{Some, None}
use Rattle.logic_core.specs.Subterm.{outside, outside_each, outside_parts}
use Rattle.logic_core.specs.View.{trees_of, parts_of}
use Rattle.tableau_branch.specs.Shapes.{has_shape}
use Rattle.tableau_branch.proofs.Lists.{drop_item, found_first}
use Rattle.tableau_branch.proofs.outside.+first.Goals as goal

pub first_in_parts-returns-in-Some : goal.first_in_parts-returns-in-Some
first_in_parts-returns-in-Some t c = let i = c.loop-part.part-index in let item = drop_item c.args.parts.now i c.part-item.result c.loop-part-test.true c.part-item.is in
    let rest = rw item at c.loop-part.invariant.rest in found_first (has_shape c.args.shape) (outside c.part-item.result.1) (outside_parts (parts_of (drop (i + 1) c.args.parts.now))) (Some c.in-Some.found.now) c.in-Some.ensures ∙ rest

pub first_in_parts-loop-part-preserved : goal.first_in_parts-loop-part-preserved
first_in_parts-loop-part-preserved t c = let i = c.loop-part.part-index in let item = drop_item c.args.parts.now i c.part-item.result c.loop-part-test.true c.part-item.is in
    let rest = rw item at c.loop-part.invariant.rest in let less = rw item at c.loop-part.invariant.less in record {
      rest = found_first (has_shape c.args.shape) (outside c.part-item.result.1) (outside_parts (parts_of (drop (i + 1) c.args.parts.now))) None c.in_default.ensures ∙ rest;
      less = omega arith;
    }

pub first_in_terms-returns-in-Some : goal.first_in_terms-returns-in-Some
first_in_terms-returns-in-Some t c = let i = c.loop-term.term-index in let item = drop_item c.args.terms.now i c.term-item.result c.loop-term-test.true c.term-item.is in
    let rest = rw item at c.loop-term.invariant.rest in found_first (has_shape c.args.shape) (outside c.term-item.result) (outside_each (trees_of (drop (i + 1) c.args.terms.now))) (Some c.in-Some.found.now) c.in-Some.ensures ∙ rest

pub first_in_terms-loop-term-preserved : goal.first_in_terms-loop-term-preserved
first_in_terms-loop-term-preserved t c = let i = c.loop-term.term-index in let item = drop_item c.args.terms.now i c.term-item.result c.loop-term-test.true c.term-item.is in
    let rest = rw item at c.loop-term.invariant.rest in let less = rw item at c.loop-term.invariant.less in record {
      rest = found_first (has_shape c.args.shape) (outside c.term-item.result) (outside_each (trees_of (drop (i + 1) c.args.terms.now))) None c.in_default.ensures ∙ rest;
      less = omega arith;
    }
