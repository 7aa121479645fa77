use Rattle.std.proofs.Common.{◌≡◌, ap, sym, ◌∙◌, ◌&&◌, [], arith, drop-cons}
use Rattle.std.proofs.lemmas.List.{at_drop_all}
use Rattle.bpl_ast.specs.ExprView.{exprs_of}
use Rattle.bpl_scopes.specs.KnownSorts.{shapes_seen}
use Rattle.bpl_scopes.specs.Sorts.{sorts_in, are_same}
use Rattle.bpl_faults.specs.ScopeView.{scope_seen}
use Rattle.std.proofs.lemmas.Grind.{common_steps}
use Rattle.logic_terms.proofs.Booleans.{and_assoc}
use Rattle.bpl_faults.proofs.ExprSteps.{operands_next, all_next, terms_next, ints_next, indices_next, index_sort_next, triggers_next, patterns_next}
use Rattle.bpl_faults.proofs.ArgumentSteps.{arguments_next, sorts_next, rest_is}
use Rattle.bpl_faults.proofs.scope.Scope.+exprs.Goals as goal

pub operands-loop-x-preserved : goal.operands-loop-x-preserved
operands-loop-x-preserved t c = grind (arith, common_steps, operands_next, all_next, and_assoc, drop-cons)

pub terms-loop-term-preserved : goal.terms-loop-term-preserved
terms-loop-term-preserved t c = grind (arith, common_steps, terms_next, ints_next, and_assoc, drop-cons)

pub indices-loop-index-preserved : goal.indices-loop-index-preserved
indices-loop-index-preserved t c = grind (arith, common_steps, indices_next, index_sort_next, drop-cons)

pub arguments-loop-x-preserved : goal.arguments-loop-x-preserved
arguments-loop-x-preserved t c = grind (arith, common_steps, arguments_next, sorts_next, and_assoc, drop-cons)

pub triggers-loop-trigger-preserved : goal.triggers-loop-trigger-preserved
triggers-loop-trigger-preserved t c = grind (arith, common_steps, triggers_next, and_assoc, drop-cons)

pub patterns-loop-x-preserved : goal.patterns-loop-x-preserved
patterns-loop-x-preserved t c = grind (arith, common_steps, patterns_next, and_assoc, drop-cons)

pub arguments-returns-then-all-2-clause-sorts : goal.arguments-returns-then-all-2-clause-sorts
arguments-returns-then-all-2-clause-sorts t c =
    let S = scope_seen c.args.self.now in
    let rest = shapes_seen c.loop-x.rest.now in
    let at_end = at_drop_all (λ xs. c.loop-x.all && are_same rest (sorts_in S (exprs_of xs))) c.args.xs.now c.loop-x.x-index c.loop-x-test.false in
    c.is_empty.ensures ∙ rest_is c.loop-x.rest.now ∙ sym (ap (λ b. b && are_same rest []) c.if-all-2.true) ∙ sym at_end ∙ c.loop-x.invariant.sorts
