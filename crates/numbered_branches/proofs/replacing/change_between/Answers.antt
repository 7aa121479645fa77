use Rattle.std.proofs.Common.{◌≡◌, refl, sym, ap, subst, ◌∙◌, ◌+◌, ◌&&◌, not, ℕ, map, drop, length, arith}
use Rattle.std.specs.List.{AllByRecursion}
use Rattle.numbered_facts.proofs.Growing.{same, then}
use Rattle.numbered_facts.specs.Atoms.{is_atom}
use Rattle.numbered_branches.specs.Branches.{fact_at}
use Rattle.numbered_branches.specs.Replacing.{IsPassed, is_access, is_plain}
use Rattle.numbered_branches.proofs.Replaced.{replacing_stays}
use Rattle.numbered_branches.proofs.Growing.{stays}
use Rattle.numbered_branches.proofs.Between.{from_front, to_rest, passed_on, behind_next, still_there}
use Rattle.numbered_branches.proofs.replacing.change_between.Goals as goal

pub loop-init : goal.loop-init
loop-init c = record {
  grows = same c.args.store.now;
  made = c.requires.made;
  vars = c.requires.vars;
  rest = from_front c.args.store.now c.args.replacing.now c.args.made.now c.args.from c.requires.front;
  behind = refl;
  order = c.requires.order;
}

pub pass_or_change-requires-clause-there : goal.pass_or_change-requires-clause-there
pass_or_change-requires-clause-there c = still_there c.args.store.now.terms c.loop.store.terms c.args.made.now.branch.facts c.loop.made.branch.facts c.loop.at c.loop.counter c.args.until c.loop.invariant.behind (omega (arith, c.loop-test.true)) c.requires.within

pub pass_or_change-requires-clause-replacing : goal.pass_or_change-requires-clause-replacing
pass_or_change-requires-clause-replacing c = replacing_stays c.args.store.now c.loop.store c.args.replacing.now c.loop.invariant.grows c.requires.replacing

pub pass_or_change-requires-clause-plain : goal.pass_or_change-requires-clause-plain
pass_or_change-requires-clause-plain c = λ e. let r = c.args.replacing.now in let n = c.args.store.now in
    ap (λ t. not (is_access r.ground) && is_atom t) (stays n c.loop.store r.left c.loop.invariant.grows c.requires.replacing.left) ∙ ap (λ ts. is_plain ts r) (sym c.terms.ensures) ∙ sym c.is_plain-plain.ensures ∙ e

pub returns-in_err-next-clause-grows : goal.returns-in_err-next-clause-grows
returns-in_err-next-clause-grows c = then c.args.store.now c.loop.store c.pass_or_change.new.store c.loop.invariant.grows c.pass_or_change.ensures.grows

pub loop-preserved : goal.loop-preserved
loop-preserved c = record {
  grows = then c.args.store.now c.loop.store c.pass_or_change.new.store c.loop.invariant.grows c.in_ok-next.ensures.grows;
  made = c.in_ok-next.ensures.made;
  vars = c.in_ok-next.ensures.vars;
  rest = c.in_ok-next.ensures.gives ∙ c.loop.invariant.rest;
  behind = c.in_ok-next.ensures.behind ∙ behind_next (map (fact_at c.loop.store.terms) c.loop.made.branch.facts) (map (fact_at c.args.store.now.terms) c.args.made.now.branch.facts) c.loop.at c.loop.counter c.loop.invariant.behind;
  order = omega (arith, c.loop-test.true);
}

pub returns-clause-gives : goal.returns-clause-gives
returns-clause-gives c =
    let n = c.args.store.now in let m = c.loop.store in let fs = map (fact_at n.terms) c.args.made.now.branch.facts in
    let ends : c.args.until ≡ c.loop.counter = omega (arith, c.loop.invariant.order, c.loop-test.false) in
    let passed = subst (λ (k : ℕ). AllByRecursion (IsPassed n.terms c.args.replacing.now) (drop k fs)) ends c.requires.rest in
    sym c.loop.invariant.rest ∙ to_rest m c.args.replacing.now c.loop.made c.loop.at (passed_on n m c.loop.invariant.grows c.args.replacing.now c.requires.replacing (drop c.loop.counter fs) (drop c.loop.at (map (fact_at m.terms) c.loop.made.branch.facts)) c.loop.invariant.behind passed)
