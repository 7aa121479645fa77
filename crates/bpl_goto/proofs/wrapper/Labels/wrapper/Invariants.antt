use Rattle.std.proofs.Common.{◌≡◌, ◌+◌, ℕ, replicate}
use Rattle.std.specs.Prelude.{string_bytes}
use Rattle.bpl_goto.proofs.wrapper.Labels.wrapper.Given as goal

abbrev pub invariant-loop-sign : goal.invariant-loop-sign
invariant-loop-sign l = string_bytes l.text ≡ replicate {A = ℕ} (l.sign + 1) 64
