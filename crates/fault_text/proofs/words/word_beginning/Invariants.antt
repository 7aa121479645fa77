use Rattle.std.proofs.Common.{◌≡◌, drop}
use Rattle.std.specs.Prelude.{find}
use Rattle.fault_text.specs.Words.{begins_at}
use Rattle.fault_text.proofs.words.word_beginning.Given as goal

abbrev pub invariant-loop-token : goal.invariant-loop-token
invariant-loop-token l = find (begins_at l.at) (drop l.token-index l.tokens) ≡ find (begins_at l.at) l.tokens
