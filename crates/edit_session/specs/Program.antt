-- What a session asks of the program that is open.
use Rattle.std.specs.Prelude.{◌≡◌, ℕ, List, [], map, Option, Some, None}
use Rattle.bpl_ast.specs.Statement.{Decl}
use Rattle.bpl_model.specs.Module.{Module}
use Rattle.obligation_text.specs.Asked.{Asked, key_of}
use Rattle.proof_core.specs.Proof.{Proof}
use Rattle.proof_text.specs.Text.{proof_text}
use Rattle.board_core.specs.Kept.{Key}
use Rattle.tableau.specs.Search.{answer}
use Rattle.vc_build.specs.declared.goal.Goal.{Goal}
use Rattle.vc_build.specs.Large.{program_goals}
use Rattle.program_opening.specs.Opening.{program, opening}

-- the declarations have no fault, and this is their module
abbrev pub IsModuleOf : List Decl → Module → Type 0
IsModuleOf ds m = opening ds ≡ program m

-- a goal is asked with the session's turns
abbrev pub question : ℕ → Goal → Asked
question turns g = record { obligation = g.obligation; turns = turns }

abbrev pub questions : ℕ → Module → List Asked
questions turns m = map (question turns) (program_goals m)

abbrev pub keys : ℕ → Module → List Key
keys turns m = map key_of (questions turns m)

-- a proof's text, empty where there is none
abbrev pub text_or_none : Option Proof → List ℕ
text_or_none None = []
text_or_none (Some p) = proof_text p

abbrev pub proof_line : Asked → List ℕ
proof_line q = text_or_none (answer q.obligation q.turns).found

-- of each goal, in order
abbrev pub proof_lines : ℕ → Module → List (List ℕ)
proof_lines turns m = map proof_line (questions turns m)
