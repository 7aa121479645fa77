use Rattle.std.proofs.Common.{◌++◌, map, string_bytes, ap, sym, ◌∙◌, arith}
use Rattle.std.proofs.lemmas.List.{append-nil}
use Rattle.stmt_checksum.proofs.SumEnds.{sums_end}
use Rattle.stmt_checksum.proofs.checksums.sum_lines.Goals as goal

pub returns : goal.returns
returns c =
    let least = c.min-i-end.ensures in
    let gone = sums_end c.args.module.now c.args.decls.now c.loop-i.i c.args.names.now c.args.marks.now (omega (arith, least, c.loop-i-test.false)) in
    sym (append-nil (map (λ l. l.items) c.loop-i.lines.items)) ∙ (ap (λ ls. map (λ l. l.items) c.loop-i.lines.items ++ ls) (sym gone) ∙ c.loop-i.invariant)
