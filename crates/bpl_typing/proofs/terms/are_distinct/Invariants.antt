use Rattle.std.proofs.Common.{◌≡◌, drop}
use Rattle.bpl_model.specs.TypedTest.{distinct}
use Rattle.bpl_typing.proofs.terms.are_distinct.Given as goal

abbrev pub invariant-loop-i : goal.invariant-loop-i
invariant-loop-i l = distinct (drop l.i l.numbers) ≡ distinct l.numbers
