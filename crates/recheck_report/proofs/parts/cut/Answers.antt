use Rattle.std.proofs.Common.{◌∙◌, ◌≤◌, sym, ap, map, length, drop, true, false, arith}
use Rattle.recheck_report.specs.Lines.{without_feed, lines}
use Rattle.recheck_report.proofs.Pieces.{lines_are}
use Rattle.recheck_report.proofs.Steps.{Passes, passes, to_the_end}
use Rattle.recheck_report.proofs.parts.cut.Goals as goal

pub returns-then-is_mark-clause-program : goal.returns-then-is_mark-clause-program
returns-then-is_mark-clause-program c =
    let at_mark : Passes c.args.text.now c.loop-at.at c.min-next.result true = passes c.args.text.now c.loop-at.at c.first_length.result c.min-next.result true
    (record { inside = c.loop-at-test.true; within = c.first_length.ensures.within; line = c.first_length.ensures.line; next_is = c.min-next.ensures })
    (sym c.if-is_mark.true ∙ c.is_mark.ensures) in
    sym (c.loop-at.invariant.program ∙ at_mark.program)

pub returns-then-is_mark-clause-lines : goal.returns-then-is_mark-clause-lines
returns-then-is_mark-clause-lines c =
    let at_mark : Passes c.args.text.now c.loop-at.at c.min-next.result true = passes c.args.text.now c.loop-at.at c.first_length.result c.min-next.result true
    (record { inside = c.loop-at-test.true; within = c.first_length.ensures.within; line = c.first_length.ensures.line; next_is = c.min-next.ensures })
    (sym c.if-is_mark.true ∙ c.is_mark.ensures) in
    let inside : c.min-next.result ≤ length c.args.text.now = omega (arith, c.min-next.ensures) in
    ap lines (to_the_end c.args.text.now c.min-next.result inside) ∙ lines_are (drop c.min-next.result c.args.text.now) ∙ ap (map without_feed) (sym at_mark.behind) ∙ c.loop-at.invariant.lines

pub loop-at-preserved : goal.loop-at-preserved
loop-at-preserved c =
    let onward : Passes c.args.text.now c.loop-at.at c.min-next.result false = passes c.args.text.now c.loop-at.at c.first_length.result c.min-next.result false
    (record { inside = c.loop-at-test.true; within = c.first_length.ensures.within; line = c.first_length.ensures.line; next_is = c.min-next.ensures })
    (sym c.if-is_mark.false ∙ c.is_mark.ensures) in
    record {
      inside = omega (arith, c.min-next.ensures);
      program = c.loop-at.invariant.program ∙ onward.program;
      lines = ap (map without_feed) (sym onward.behind) ∙ c.loop-at.invariant.lines;
    }
