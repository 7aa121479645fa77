use Rattle.std.proofs.Common.{◌≡◌, ◌-◌, ◌∙◌, ap, length, take, drop, arith}
use Rattle.std.proofs.lemmas.List.{take_all, length-drop}
use Rattle.recheck_report.specs.Lines.{lines}
use Rattle.recheck_report.proofs.Pieces.{first_and_later}
use Rattle.recheck_report.proofs.line.take_line.Goals as goal

pub returns-clause-line : goal.returns-clause-line
returns-clause-line c =
    (first_and_later c.args.text.now c.first_length-end.result c.min-next.result c.first_length-end.ensures.within c.first_length-end.ensures.line c.min-next.ensures).0

pub returns-clause-rest : goal.returns-clause-rest
returns-clause-rest c =
    let text = c.args.text.now in
    let k = c.min-next.result in
    let whole : take (length text - k) (drop k text) ≡ drop k text = take_all (length text - k) (drop k text) (omega (arith, length-drop k text)) in
    ap lines whole ∙ (first_and_later text c.first_length-end.result k c.first_length-end.ensures.within c.first_length-end.ensures.line c.min-next.ensures).1
