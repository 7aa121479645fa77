use Rattle.std.proofs.Common.{◌<◌, refl, sym, subst, length, arith}
use Rattle.numbered_branches.specs.Branches.{IsBranchOver}
use Rattle.numbered_branches.proofs.Changing.{branch_more}
use Rattle.numbered_branches.proofs.Listing.{all_at}
use Rattle.numbered_logic.proofs.CaseBranches.{case_next, all_cases}
use Rattle.numbered_logic.proofs.Later.{grows_same, grows_then, below_later}
use Rattle.numbered_logic.proofs.splitting.each_case.Goals as goal

pub loop-id-init : goal.loop-id-init
loop-id-init c = record { grows = grows_same c.args.store.now; made = rw c.new-all.ensures.items (tt, refl) }

pub case-requires-clause-term : goal.case-requires-clause-term
case-requires-clause-term c = let n = c.args.store.now in
    below_later n c.loop-id.store c.id-item.result c.loop-id.invariant.grows (all_at (λ i. i < length n.terms) c.args.ids.now c.loop-id.id-index c.id-item.result c.requires.ids c.loop-id-test.true c.id-item.is)

pub case-requires-clause-branch : goal.case-requires-clause-branch
case-requires-clause-branch c = let n = c.args.store.now in let m = c.loop-id.store in let g = c.loop-id.invariant.grows in
    subst (IsBranchOver m.terms) (sym c.in_ok-copy.ensures) (branch_more n.terms m.terms g.terms c.args.branch.now c.requires.branch).0

pub returns-in_err-copy-clause-grows : goal.returns-in_err-copy-clause-grows
returns-in_err-copy-clause-grows c = c.loop-id.invariant.grows

pub returns-in_err-made-clause-grows : goal.returns-in_err-made-clause-grows
returns-in_err-made-clause-grows c = grows_then c.args.store.now c.loop-id.store c.case.new.store c.loop-id.invariant.grows c.case.ensures.grows

pub returns-in_err-push-clause-grows : goal.returns-in_err-push-clause-grows
returns-in_err-push-clause-grows c = grows_then c.args.store.now c.loop-id.store c.case.new.store c.loop-id.invariant.grows c.case.ensures.grows

pub loop-id-preserved : goal.loop-id-preserved
loop-id-preserved c =
    let n = c.args.store.now in let m = c.loop-id.store in let o = c.case.new.store in let g = c.loop-id.invariant.grows in let h = c.case.ensures.grows in let i = c.id-item.result in
    let low = all_at (λ j. j < length n.terms) c.args.ids.now c.loop-id.id-index i c.requires.ids c.loop-id-test.true c.id-item.is in
    record {
      grows = grows_then n m o g h;
      made = case_next n c.args.branch.now c.args.ids.now c.requires.branch m o g h c.loop-id.all.items _ c.in_ok-made.made c.in_ok-copy.copy c.loop-id.id-index i c.loop-id-test.true c.id-item.is low c.in_ok-copy.ensures c.loop-id.invariant.made
          c.in_ok-made.ensures.made c.in_ok-push.ensures.items;
    }

pub returns-clause-made : goal.returns-clause-made
returns-clause-made c = all_cases c.args.store.now c.args.branch.now c.args.ids.now (c.loop-id.store).terms c.loop-id.all.items c.loop-id.id-index (omega (arith, c.loop-id-test.false)) c.loop-id.invariant.made
