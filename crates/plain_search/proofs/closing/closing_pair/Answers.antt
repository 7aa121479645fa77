use Rattle.std.proofs.Common.{◌≡◌, ◌+◌, ◌∙◌, ap, sym, true, false, find, take, drop, Some, None}
use Rattle.logic_core.specs.Junction.{is_truth}
use Rattle.logic_rules.specs.Closing.{are_opposed, pair_from}
use Rattle.tableau_branch.proofs.Lists.{drop_item, take_item}
use Rattle.logic_rules.proofs.Pairs.{pairs_with, pairs_with_itself, pairs_later}
use Rattle.plain_search.proofs.closing.closing_pair.Goals as goal

pub returns-in-Some : goal.returns-in-Some
returns-in-Some c = let i = c.loop-i.i in let facts = c.args.facts.now in let item = drop_item facts i c.index-facts-i.result c.loop-i-test.true c.index-facts-i.is in
    let rest = rw item at c.loop-i.invariant in
    let here : find (λ f. are_opposed f c.index-facts-i.result) (take i facts) ≡ Some c.in-Some.earlier.now = sym c.in-Some.ensures in
    sym (pairs_with (take i facts) c.index-facts-i.result (drop (i + 1) facts) c.in-Some.earlier.now here) ∙ rest

pub returns-then-is_truth : goal.returns-then-is_truth
returns-then-is_truth c = let i = c.loop-i.i in let facts = c.args.facts.now in let item = drop_item facts i c.index-facts-i.result c.loop-i-test.true c.index-facts-i.is in
    let rest = rw item at c.loop-i.invariant in
    let here : find (λ f. are_opposed f c.index-facts-i.result) (take i facts) ≡ None = sym c.in_default.ensures in
    let truth : is_truth false (c.index-facts-i.result).term ≡ true = ap (is_truth false) (sym c.term.ensures) ∙ sym c.if-is_truth.ensures in
    sym (pairs_with_itself (take i facts) c.index-facts-i.result (drop (i + 1) facts) here truth) ∙ rest

pub loop-i-preserved : goal.loop-i-preserved
loop-i-preserved c = let i = c.loop-i.i in let facts = c.args.facts.now in let item = drop_item facts i c.index-facts-i.result c.loop-i-test.true c.index-facts-i.is in
    let rest = rw item at c.loop-i.invariant in
    let here : find (λ f. are_opposed f c.index-facts-i.result) (take i facts) ≡ None = sym c.in_default.ensures in
    let truth : is_truth false (c.index-facts-i.result).term ≡ false = ap (is_truth false) (sym c.term.ensures) ∙ sym c.if-is_truth.ensures in
    ap (λ fs. pair_from fs (drop (i + 1) facts)) (take_item facts i c.index-facts-i.result c.loop-i-test.true c.index-facts-i.is) ∙ sym (pairs_later (take i facts) c.index-facts-i.result (drop (i + 1) facts) here truth) ∙ rest
