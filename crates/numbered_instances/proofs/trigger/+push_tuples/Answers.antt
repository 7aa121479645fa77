use Rattle.std.proofs.Common.{◌≡◌, ◌∙◌, ◌++◌, ◌<◌, refl, sym, ap, subst, Some, None, false, List, option_to_list, flat_map, length}
use Rattle.std.specs.List.{AllByRecursion}
use Rattle.std.proofs.lemmas.Result.{on_ok_weaker}
use Rattle.logic_core.specs.Tree.{Tree}
use Rattle.logic_core.specs.View.{trees_of}
use Rattle.logic_core.specs.Wide.{when}
use Rattle.term_bank.specs.Numbered.{at}
use Rattle.term_bank.specs.Node.{in_lists}
use Rattle.quantifier_triggers.specs.Match.{Found, matched, tuples_from}
use Rattle.numbered_terms.specs.Lists.{terms_at, lists_at}
use Rattle.numbered_instances.specs.Finding.{found_at, IsFoundBelow}
use Rattle.numbered_instances.specs.Passed.{FindSome}
use Rattle.numbered_instances.proofs.MatchedTuples.{of_some, of_none}
use Rattle.numbered_instances.proofs.Passing.{same_lists, then_same, none_more, found_already, term_next, terms_all}
use Rattle.numbered_instances.proofs.trigger.+push_tuples.Goals as goal

pub push_term-matched-requires-clause-within : goal.push_term-matched-requires-clause-within
push_term-matched-requires-clause-within t c = subst (IsFoundBelow (length c.args.terms.now)) (sym c.in_ok-restore.ensures) c.requires.found

pub push_term-returns-then-has_new-clause-tuples : goal.push_term-returns-then-has_new-clause-tuples
push_term-returns-then-has_new-clause-tuples t c =
    let ts = c.args.terms.now in let vs = c.args.vars.now in let ds = c.args.defs.now in let ks = c.args.kinds.now in
    let K = λ (d : Found). tuples_from vs ds ks (terms_at ts c.args.ground.now) (trees_of (terms_at ts c.args.rest.now)) d in
    let o = matched vs ds ks false (at ts c.args.pattern) (at ts c.args.term) (found_at ts c.args.found.now) in
    let some = subst (λ ws. AllByRecursion (λ j. j < length ts) (in_lists ws) → FindSome ts c.args.passed.now (lists_at ts ws)) c.deref.ensures.value (c.has_new.ensures c.if-has_new.true ts) in
    found_already ts c.args.passed.now (lists_at ts c.args.tuples.now.items) (flat_map K (option_to_list o)) (some c.requires.within)

pub push_term-returns-then-is_passed-clause-tuples : goal.push_term-returns-then-is_passed-clause-tuples
push_term-returns-then-is_passed-clause-tuples t c =
    let ts = c.args.terms.now in let vs = c.args.vars.now in let ds = c.args.defs.now in let ks = c.args.kinds.now in
    let K = λ (d : Found). tuples_from vs ds ks (terms_at ts c.args.ground.now) (trees_of (terms_at ts c.args.rest.now)) d in
    let o = matched vs ds ks false (at ts c.args.pattern) (at ts c.args.term) (found_at ts c.args.found.now) in
    none_more ts c.args.passed.now (lists_at ts c.args.tuples.now.items) (flat_map K (option_to_list o)) (c.is_passed.ensures c.if-is_passed.true vs ds ks (terms_at ts c.args.ground.now))

pub push_term-returns-then-meets-clause-tuples : goal.push_term-returns-then-meets-clause-tuples
push_term-returns-then-meets-clause-tuples t c =
    let ts = c.args.terms.now in let vs = c.args.vars.now in let ds = c.args.defs.now in let ks = c.args.kinds.now in
    let after = found_at ts c.matched.new.found.items in let old = lists_at ts c.args.tuples.now.items in let P = c.args.passed.now in
    let K = λ (d : Found). tuples_from vs ds ks (terms_at ts c.args.ground.now) (trees_of (terms_at ts c.args.rest.now)) d in
    let o = matched vs ds ks false (at ts c.args.pattern) (at ts c.args.term) (found_at ts c.args.found.now) in
    let met : o ≡ Some after = ap (λ b. matched vs ds ks false (at ts c.args.pattern) (at ts c.args.term) (found_at ts b)) (sym c.in_ok-restore.ensures) ∙ c.in_ok-meets.ensures.gives ∙ ap (λ q. when q (Some after)) c.if-meets.true in
    let same : old ++ K (found_at ts c.deref-then-meets.result.now) ≡ old ++ flat_map K (option_to_list o) = ap (λ b. old ++ K (found_at ts b)) c.deref-then-meets.ensures.value ∙ ap (λ xs. old ++ xs) (sym (of_some K o after met)) in
    on_ok_weaker c.push_tuples.result (λ s. then_same ts P (lists_at ts c.push_tuples.new.tuples.items) (old ++ K (found_at ts c.deref-then-meets.result.now)) (old ++ flat_map K (option_to_list o)) s (same_lists ts P (old ++ K (found_at ts c.deref-then-meets.result.now)) (old ++ flat_map K (option_to_list o)) same)) c.push_tuples.ensures.tuples

pub push_term-returns-clause-tuples : goal.push_term-returns-clause-tuples
push_term-returns-clause-tuples t c =
    let ts = c.args.terms.now in let vs = c.args.vars.now in let ds = c.args.defs.now in let ks = c.args.kinds.now in
    let after = found_at ts c.matched.new.found.items in let old = lists_at ts c.args.tuples.now.items in
    let K = λ (d : Found). tuples_from vs ds ks (terms_at ts c.args.ground.now) (trees_of (terms_at ts c.args.rest.now)) d in
    let o = matched vs ds ks false (at ts c.args.pattern) (at ts c.args.term) (found_at ts c.args.found.now) in
    let met : o ≡ None = ap (λ b. matched vs ds ks false (at ts c.args.pattern) (at ts c.args.term) (found_at ts b)) (sym c.in_ok-restore.ensures) ∙ c.in_ok-meets.ensures.gives ∙ ap (λ q. when q (Some after)) c.if-meets.false in
    same_lists ts c.args.passed.now old (old ++ flat_map K (option_to_list o)) (of_none K o old met)

pub push_tuples-loop-term-init : goal.push_tuples-loop-term-init
push_tuples-loop-term-init t c = record { tuples = λ new h. refl; within = c.requires.within }

pub push_tuples-loop-term-preserved : goal.push_tuples-loop-term-preserved
push_tuples-loop-term-preserved t c =
    let ts = c.args.terms.now in let vs = c.args.vars.now in let ds = c.args.defs.now in let ks = c.args.kinds.now in
    let G = terms_at ts c.args.ground.now in let b = found_at ts c.args.found.now in
    let F : Tree → List (List Tree) = λ u. flat_map (λ d. tuples_from vs ds ks G (trees_of (terms_at ts c.in-Some.rest.now)) d) (option_to_list (matched vs ds ks false (at ts c.in-Some.pattern.now) u b)) in
    let old = lists_at ts c.args.tuples.now.items in
    record {
      tuples = term_next ts c.args.passed.now F c.args.ground.now c.loop-term.term-index c.term-item.result (lists_at ts c.loop-term.tuples.items) (lists_at ts c.push_term.new.tuples.items) (old ++ flat_map F G)
          c.loop-term-test.true c.term-item.is c.in_ok-push_term.ensures.tuples c.loop-term.invariant.tuples;
      within = c.in_ok-push_term.ensures.within;
    }

pub push_tuples-returns-clause-tuples : goal.push_tuples-returns-clause-tuples
push_tuples-returns-clause-tuples t c =
    let ts = c.args.terms.now in let vs = c.args.vars.now in let ds = c.args.defs.now in let ks = c.args.kinds.now in
    let G = terms_at ts c.args.ground.now in let b = found_at ts c.args.found.now in
    let F : Tree → List (List Tree) = λ u. flat_map (λ d. tuples_from vs ds ks G (trees_of (terms_at ts c.in-Some.rest.now)) d) (option_to_list (matched vs ds ks false (at ts c.in-Some.pattern.now) u b)) in
    let old = lists_at ts c.args.tuples.now.items in
    let whole = old ++ tuples_from vs ds ks G (trees_of (terms_at ts c.args.patterns.now)) b in
    then_same ts c.args.passed.now (lists_at ts c.loop-term.tuples.items) (old ++ flat_map F G) whole
    (terms_all ts c.args.passed.now F c.args.ground.now c.loop-term.term-index (lists_at ts c.loop-term.tuples.items) (old ++ flat_map F G) c.loop-term-test.false c.loop-term.invariant.tuples)
    (same_lists ts c.args.passed.now (old ++ flat_map F G) whole (ap (λ qs. old ++ tuples_from vs ds ks G (trees_of (terms_at ts qs)) b) (sym c.in-Some.ensures.cases.0)))
