use Rattle.std.proofs.Common.{◌≡◌, drop}
use Rattle.logic_core.specs.View.{parts_of}
use Rattle.logic_core.specs.Before.{before, part_before}
use Rattle.logic_core.specs.Tighten.{divided}
use Rattle.linear_certs.proofs.divisor.divided.Given as goal

-- what is made so far, and then what the rest gives, is what all gives
abbrev pub invariant-loop-part : goal.invariant-loop-part
invariant-loop-part l = before part_before l.quotients.items (divided l.g (parts_of (drop l.part-index l.parts))) ≡ divided l.g (parts_of l.parts)
