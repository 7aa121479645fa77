use Rattle.std.proofs.Common.{◌<◌, ◌++◌, List, sym, ap, subst, length}
use Rattle.std.specs.List.{AllByRecursion}
use Rattle.logic_core.specs.View.{patterns_of}
use Rattle.term_bank.specs.Node.{in_lists}
use Rattle.numbered_terms.specs.Lists.{terms_at, lists_at}
use Rattle.numbered_terms.proofs.Items.{row_below}
use Rattle.numbered_instances.specs.Instances.{tuples_by}
use Rattle.numbered_instances.proofs.Passing.{same_lists}
use Rattle.numbered_instances.proofs.TuplesBy.{trigger_next, triggers_all}
use Rattle.numbered_instances.proofs.tuples.tuples_by.Goals as goal

pub push_matches-requires-clause-trigger : goal.push_matches-requires-clause-trigger
push_matches-requires-clause-trigger c = let n = length c.args.terms.now in
    subst (AllByRecursion (λ j. j < n)) (sym c.deref.ensures.value) (row_below n c.args.triggers.now c.loop-trigger.trigger-index c.trigger-item.result c.requires.triggers c.loop-trigger-test.true c.trigger-item.is)

pub loop-trigger-init : goal.loop-trigger-init
loop-trigger-init c =
    let ts = c.args.terms.now in
    let whole = tuples_by c.args.vars.now c.args.defs.now c.args.sorts.now (terms_at ts c.args.ground.now) (patterns_of (lists_at ts c.args.triggers.now)) in
    record {
      tuples = same_lists ts c.args.passed.now (lists_at ts c.new-tuples.result.items ++ whole) whole (ap (λ vs. lists_at ts vs ++ whole) c.new-tuples.ensures.items);
      within = subst (λ vs. AllByRecursion (λ j. j < length ts) (in_lists vs)) (sym c.new-tuples.ensures.items) tt;
    }

pub loop-trigger-preserved : goal.loop-trigger-preserved
loop-trigger-preserved c =
    let ts = c.args.terms.now in let G = terms_at ts c.args.ground.now in let ws = c.args.triggers.now in
    let whole = tuples_by c.args.vars.now c.args.defs.now c.args.sorts.now G (patterns_of (lists_at ts ws)) in
    record {
      tuples = trigger_next ts c.args.passed.now c.args.vars.now c.args.defs.now c.args.sorts.now G ws c.loop-trigger.trigger-index c.trigger-item.result c.deref.result.now c.loop-trigger.tuples.items c.push_matches.new.tuples.items whole
          c.loop-trigger-test.true c.trigger-item.is c.deref.ensures.value c.in_ok-push_matches.ensures.tuples c.loop-trigger.invariant.tuples;
      within = c.in_ok-push_matches.ensures.within;
    }

pub returns-clause-tuples : goal.returns-clause-tuples
returns-clause-tuples c =
    let ts = c.args.terms.now in let G = terms_at ts c.args.ground.now in let ws = c.args.triggers.now in
    let whole = tuples_by c.args.vars.now c.args.defs.now c.args.sorts.now G (patterns_of (lists_at ts ws)) in
    triggers_all ts c.args.passed.now c.args.vars.now c.args.defs.now c.args.sorts.now G ws c.loop-trigger.trigger-index c.loop-trigger.tuples.items whole c.loop-trigger-test.false c.loop-trigger.invariant.tuples
