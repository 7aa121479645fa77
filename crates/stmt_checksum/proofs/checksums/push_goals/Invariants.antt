use Rattle.std.proofs.Common.{◌≡◌, ◌++◌, map, drop}
use Rattle.std.specs.Prelude.{codes}
use Rattle.hex.specs.Hex.{encode_lower}
use Rattle.report_text.specs.Report.{head}
use Rattle.stmt_checksum.specs.Chain.{goal_sum}
use Rattle.stmt_checksum.proofs.checksums.push_goals.Given as goal

abbrev pub invariant-loop-mark : goal.invariant-loop-mark
invariant-loop-mark l = map (λ v. v.items) l.lines.items ++ map (λ g. head l.name g ++ codes " " ++ encode_lower (goal_sum l.chain g)) (drop l.mark-index l.marks)
    ≡ map (λ v. v.items) l.fn.lines.items ++ map (λ g. head l.name g ++ codes " " ++ encode_lower (goal_sum l.chain g)) l.marks
