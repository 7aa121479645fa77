use Rattle.std.proofs.Common.{◌≡◌, ◌++◌, ◌∷◌, ◌+◌, List, ℕ, subst, drop, length, arith}
use Rattle.tableau_branch.proofs.Lists.{drop_item}
use Rattle.numbered_terms.proofs.Items.{item_below}
use Rattle.numbered_facts.proofs.Growing.{same, then}
use Rattle.numbered_instances.specs.Shared.{AreShared}
use Rattle.numbered_instances.proofs.SharedAtoms.{shared_out, numbers_on}
use Rattle.numbered_instances.proofs.shared.leave_until.Goals as goal

pub loop-at-init : goal.loop-at-init
loop-at-init c = record {
  grows = same c.args.store.now;
  order = c.requires.order;
  left = λ before h. h;
}

pub leave_fact-requires : goal.leave_fact-requires
leave_fact-requires c = let m = c.loop-at.store in
    item_below (length m.terms) c.args.listed.now c.loop-at.at c.index-listed-at.result (numbers_on c.args.store.now.terms m.terms c.loop-at.invariant.grows.terms c.args.listed.now c.requires.listed) (omega (arith, c.loop-at-test.true, c.requires.within)) c.index-listed-at.is

pub loop-at-preserved : goal.loop-at-preserved
loop-at-preserved c =
    let n = c.args.store.now in let m = c.loop-at.store in let o = c.leave_fact.new.store in let xs = c.args.listed.now in let at = c.loop-at.at in let mid = c.loop-at.counts.items in let x = c.index-listed-at.result in
    record {
      grows = then n m o c.loop-at.invariant.grows c.in_ok-leave_fact.ensures.grows;
      order = omega (arith, c.loop-at-test.true);
      left = λ before h. shared_out m.terms o.terms c.in_ok-leave_fact.ensures.grows.terms before (drop (at + 1) xs) mid c.leave_fact.new.counts.items x
          (subst (λ (ys : List ℕ). AreShared m.terms (before ++ ys) mid) (drop_item xs at x (omega (arith, c.loop-at-test.true, c.requires.within)) c.index-listed-at.is) (c.loop-at.invariant.left before h)) c.in_ok-leave_fact.ensures.less;
    }

pub returns-clause-left : goal.returns-clause-left
returns-clause-left c = λ before h. let ends : c.loop-at.at ≡ c.args.until = omega (arith, c.loop-at.invariant.order, c.loop-at-test.false) in
    subst (λ (k : ℕ). AreShared c.loop-at.store.terms (before ++ drop k c.args.listed.now) c.loop-at.counts.items) ends (c.loop-at.invariant.left before h)

pub returns-in_err-leave_fact-clause-grows : goal.returns-in_err-leave_fact-clause-grows
returns-in_err-leave_fact-clause-grows c = then c.args.store.now c.loop-at.store c.leave_fact.new.store c.loop-at.invariant.grows c.leave_fact.ensures.grows
