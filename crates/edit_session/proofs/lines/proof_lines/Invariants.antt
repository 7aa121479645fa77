use Rattle.std.proofs.Common.{◌≡◌, map, take, string_bytes}
use Rattle.std.specs.Arc.{arc_value}
use Rattle.tableau.specs.Settled.{Settled}
use Rattle.edit_session.specs.Program.{text_or_none}
use Rattle.edit_session.proofs.lines.proof_lines.Given as goal

abbrev pub invariant-loop-answer : goal.invariant-loop-answer
invariant-loop-answer l = map string_bytes l.found.items ≡ map (λ a. text_or_none (arc_value {X = Settled} a).found) (take l.answer-index l.answers)
