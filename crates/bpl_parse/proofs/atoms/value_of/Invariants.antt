use Rattle.std.proofs.Common.{◌≡◌, ◌-◌, ◌^◌, min, take}
use Rattle.bpl_grammar.specs.Nesting.{value}
use Rattle.bpl_parse.proofs.atoms.value_of.Given as goal

-- the value of the digits so far, where it fits
abbrev pub invariant-loop-digit : goal.invariant-loop-digit
invariant-loop-digit l = l.value ≡ min (value (take l.digit-index l.digits)) (2 ^ 128 - 1)
