use Rattle.std.proofs.Common.{◌≡◌, drop}
use Rattle.logic_core.specs.View.{parts_of}
use Rattle.proof_core.specs.Says.{coefficient}
use Rattle.proof_core.proofs.says.coefficient.Given as goal

-- the atom isn't among the parts passed
abbrev pub invariant-loop-part : goal.invariant-loop-part
invariant-loop-part l = coefficient l.t (parts_of (drop l.part-index l.parts)) ≡ coefficient l.t (parts_of l.parts)
