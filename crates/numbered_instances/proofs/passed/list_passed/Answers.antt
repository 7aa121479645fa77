use Rattle.std.proofs.Common.{◌≡◌, ◌∙◌, nat_eq, not, List, sym, ap, subst, map, take, length, arith}
use Rattle.std.specs.List.{list_any}
use Rattle.std.proofs.lemmas.List.{take_all}
use Rattle.term_bank.specs.Numbered.{at}
use Rattle.numbered_branches.specs.Branches.{NumberedMark, IsMarkOver, mark_at}
use Rattle.numbered_branches.proofs.Listing.{all_at}
use Rattle.numbered_instances.specs.Instances.{is_new}
use Rattle.numbered_instances.specs.Passed.{Tells}
use Rattle.numbered_instances.proofs.Passing.{tells_next}
use Rattle.numbered_instances.proofs.passed.list_passed.Goals as goal

pub pass_mark-requires-clause-mark : goal.pass_mark-requires-clause-mark
pass_mark-requires-clause-mark c = all_at (IsMarkOver c.args.terms.now) c.args.marks.now c.loop-mark.mark-index c.mark-item.result c.requires.marks c.loop-mark-test.true c.mark-item.is

pub loop-mark-init : goal.loop-mark-init
loop-mark-init c = λ j low. sym (ap (λ is. not (list_any (nat_eq j) is)) c.clear.ensures)

pub loop-mark-preserved : goal.loop-mark-preserved
loop-mark-preserved c = tells_next c.args.terms.now c.args.marks.now c.loop-mark.mark-index c.mark-item.result c.args.fact c.loop-mark.passed c.pass_mark.new.passed c.loop-mark-test.true c.mark-item.is c.loop-mark.invariant c.in_ok-pass_mark.ensures

pub returns : goal.returns
returns c = let ts = c.args.terms.now in
    subst (λ (ms : List NumberedMark). Tells ts c.loop-mark.passed (is_new (map (mark_at ts) ms) (at ts c.args.fact))) (take_all c.loop-mark.mark-index c.args.marks.now (omega (arith, c.loop-mark-test.false))) c.loop-mark.invariant
