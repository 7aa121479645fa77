use Rattle.std.proofs.Common.{◌≡◌, Some, take}
use Rattle.proof_text.specs.States.{start, run}
use Rattle.proof_text.proofs.reading.read.Given as goal

-- the state is the one behind the bytes so far
abbrev pub invariant-loop-i : goal.invariant-loop-i
invariant-loop-i l = run start (take l.i l.text) ≡ Some l.state
