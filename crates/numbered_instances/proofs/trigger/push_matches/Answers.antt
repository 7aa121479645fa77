use Rattle.std.proofs.Common.{◌≡◌, ◌∙◌, ◌++◌, sym, ap, subst, None, map, reverse, length}
use Rattle.std.proofs.lemmas.Result.{on_ok_weaker}
use Rattle.logic_core.specs.View.{trees_of}
use Rattle.quantifier_triggers.specs.Match.{tuples, tuples_from}
use Rattle.numbered_terms.specs.Lists.{terms_at, lists_at}
use Rattle.numbered_instances.specs.Finding.{found_at, IsFoundBelow}
use Rattle.numbered_instances.proofs.FoundAt.{nothing_at, nothing_below}
use Rattle.numbered_instances.proofs.Passing.{same_lists, then_same}
use Rattle.numbered_instances.proofs.trigger.push_matches.Goals as goal

pub push_tuples-requires-clause-found : goal.push_tuples-requires-clause-found
push_tuples-requires-clause-found c = subst (IsFoundBelow (length c.args.terms.now)) (sym (c.deref-2.ensures.value ∙ c.in_ok-found.ensures)) (nothing_below (length c.args.terms.now) c.args.sorts.now)

pub returns-clause-tuples : goal.returns-clause-tuples
returns-clause-tuples c =
    let ts = c.args.terms.now in let old = lists_at ts c.args.tuples.now.items in let P = c.args.passed.now in
    let G = terms_at ts c.args.ground.now in let ps = trees_of (terms_at ts c.args.trigger.now) in
    let kinds : c.deref.result.now ≡ reverse c.args.sorts.now = c.deref.ensures.value ∙ c.in_ok-kinds.ensures in
    let found = ap (found_at ts) (c.deref-2.ensures.value ∙ c.in_ok-found.ensures) ∙ nothing_at ts c.args.sorts.now in
    let mid = old ++ tuples_from c.args.vars.now c.args.defs.now c.deref.result.now G ps (found_at ts c.deref-2.result.now) in
    let whole = old ++ tuples c.args.vars.now c.args.defs.now ps c.args.sorts.now G in
    on_ok_weaker c.push_tuples.result (λ s. then_same ts P (lists_at ts c.push_tuples.new.tuples.items) mid whole s (same_lists ts P mid whole (λ k. old ++ tuples_from c.args.vars.now c.args.defs.now (kinds k) G ps (found k)))) c.push_tuples.ensures.tuples
