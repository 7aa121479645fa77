use Rattle.std.proofs.Common.{sym, subst, drop, true, List, ℕ}
use Rattle.std.proofs.lemmas.List.{at_drop_all}
use Rattle.recheck_report.specs.Lines.{lines}
use Rattle.recheck_report.specs.Recheck.{heads, Rechecks}
use Rattle.recheck_report.proofs.ShortLines.{lines_short}
use Rattle.recheck_report.proofs.Leading.{at_the_end}
use Rattle.recheck_report.proofs.answer.recheck.Goals as goal

pub loop-proc-init : goal.loop-proc-init
loop-proc-init c = record { leads = λ answer all r. r; short = lines_short c.args.proofs.now c.requires }

pub returns : goal.returns
returns c =
    let none = at_drop_all (λ ps. ps) c.args.procs.now c.loop-proc.proc-index c.loop-proc-test.false in
    subst (λ (line : List ℕ). Rechecks (heads c.args.procs.now) (lines c.args.proofs.now) line true) (sym c.in_ok-from_slice.ensures.items)
    (at_the_end c.args.procs.now (lines c.args.proofs.now) (drop c.loop-proc.proc-index c.args.procs.now) (lines c.loop-proc.rest.now) none c.loop-proc.invariant.leads)
