use Rattle.std.proofs.Common.{◌≡◌, ◌-◌, ◌≤◌, length, drop}
use Rattle.bpl_lex.specs.Lexing.{tokens_from, tokens}
use Rattle.bpl_lex.proofs.Steps.{after}
use Rattle.bpl_lex.proofs.lexing.tokens.Given as goal

abbrev pub invariant-loop-at : goal.invariant-loop-at
invariant-loop-at l = record {
  within : l.at ≤ length l.text;
  same : after l.found.items (tokens_from l.at 0 (drop l.at l.text)) ≡ tokens l.text;
}

abbrev pub decreases-loop-at : goal.decreases-loop-at
decreases-loop-at l = length l.text - l.at
