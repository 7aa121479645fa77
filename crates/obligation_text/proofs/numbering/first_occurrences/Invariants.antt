use Rattle.std.proofs.Common.{◌≡◌, [], drop}
use Rattle.logic_core.specs.Variables.{first_occurrences}
use Rattle.obligation_text.proofs.numbering.first_occurrences.Given as goal

-- with those that are left comes the order of all
abbrev pub invariant-loop-number : goal.invariant-loop-number
invariant-loop-number l = first_occurrences l.order (drop l.number-index l.numbers) ≡ first_occurrences [] l.numbers
