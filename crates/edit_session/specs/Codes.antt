-- Codes, by which proofs tell programs and sessions apart: those of their parts.
use Rattle.std.specs.Prelude.{ℕ, List, refl}
use Rattle.std.specs.Coded.{Coded, code_by, coded×, coded_list, coded_ℕ}
use Rattle.bpl_ast.specs.Statement.{Decl}
use Rattle.bpl_ast.specs.DeclCodes.{coded_decl}
use Rattle.bpl_model.specs.Module.{Module}
use Rattle.bpl_model.specs.Codes.{coded_module}
use Rattle.goal_board.specs.Calls.{Board, BoardCall}
use Rattle.goal_board.specs.Codes.{coded_board, coded_call}
use Rattle.edit_session.specs.Asking.{Taken}
use Rattle.edit_session.specs.Answers.{State}
use Rattle.edit_session.specs.Kept.{Session}

abbrev pub coded_taken : Coded Taken
coded_taken = code_by (List Decl × Module) (coded× (coded_list coded_decl) coded_module) (λ p. (p.decls, p.typed)) (λ q. record { decls = q.0; typed = q.1 }) (λ _. refl)

abbrev coded_state : Coded State
coded_state = code_by (List Decl × (ℕ × Board)) (coded× (coded_list coded_decl) (coded× coded_ℕ coded_board)) (λ s. (s.decls, (s.version, s.board))) (λ p. record { decls = p.0; version = p.1.0; board = p.1.1 }) (λ _. refl)

abbrev pub coded_session : Coded Session
coded_session = code_by (ℕ × (ℕ × (State × List BoardCall))) (coded× coded_ℕ (coded× coded_ℕ (coded× coded_state (coded_list coded_call)))) (λ s. (s.turns, (s.workers, (s.state, s.noted)))) (λ p. record { turns = p.0; workers = p.1.0; state = p.1.1.0; noted = p.1.1.1 }) (λ _. refl)
