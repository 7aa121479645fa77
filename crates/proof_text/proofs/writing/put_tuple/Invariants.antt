use Rattle.std.proofs.Common.{◌≡◌, ◌++◌, drop}
use Rattle.proof_text.specs.Text.{tuple_text}
use Rattle.proof_text.proofs.writing.put_tuple.Given as goal

-- what is written, and then the texts of the rest, are the texts of all
abbrev pub invariant-loop-term : goal.invariant-loop-term
invariant-loop-term l = l.out.items ++ tuple_text (drop l.term-index l.terms) ≡ l.fn.out.items ++ tuple_text l.terms
