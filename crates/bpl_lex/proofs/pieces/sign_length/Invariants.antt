use Rattle.std.proofs.Common.{◌≡◌, ℕ, ◌<◌, ◌≤◌, length, take, false}
use Rattle.bpl_lex.specs.Shape.{is_sign}
use Rattle.bpl_lex.proofs.pieces.sign_length.Given as goal

abbrev pub invariant-loop-length : goal.invariant-loop-length
invariant-loop-length l = record {
  within : l.length ≤ length l.bytes;
  longer : (m : ℕ) → l.length < m → m ≤ length l.bytes → is_sign (take m l.bytes) ≡ false;
}

abbrev pub decreases-loop-length : goal.decreases-loop-length
decreases-loop-length l = l.length
