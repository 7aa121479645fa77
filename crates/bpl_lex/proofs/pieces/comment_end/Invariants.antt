use Rattle.std.proofs.Common.{◌≡◌, ◌+◌, length, option_map}
use Rattle.bpl_lex.specs.Front.{comment_end}
use Rattle.bpl_lex.proofs.pieces.comment_end.Given as goal

abbrev pub invariant-loop-rest : goal.invariant-loop-rest
invariant-loop-rest l = record {
  rest : l.passed + length l.rest ≡ length l.bytes;
  same : option_map (λ n. l.passed + n) (comment_end l.rest) ≡ comment_end l.bytes;
}

abbrev pub decreases-loop-rest : goal.decreases-loop-rest
decreases-loop-rest l = length l.rest
