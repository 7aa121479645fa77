-- Calls for which there was no memory change nothing, and stand before the calls of any open or edit.
use Rattle.std.proofs.Common.{◌≡◌, ◌⊎◌, ◌∙◌, refl, sym, ap, subst, arith, append_assoc, ℕ, ◌-◌, ◌^◌, ◌<◌, cond, List, [], ◌∷◌, ◌++◌, Ok, Err, inl, inr}
use Rattle.std.specs.Prelude.{⊤}
use Rattle.bpl_ast.specs.Statement.{Decl}
use Rattle.bpl_model.specs.Module.{Module}
use Rattle.request_text.specs.Request.{Request, Reply, accepted, memory}
use Rattle.program_edits.specs.Refusals.{IsChange}
use Rattle.board_core.specs.Board.{open_keys, gather, no_memory, gathered}
use Rattle.board_core.specs.Board as board
use Rattle.goal_board.specs.Calls.{Board, BoardCall, made}
use Rattle.goal_board.specs.Between.{Between, effects, has_effect}
use Rattle.goal_board.specs.Working.{Working, IsWork}
use Rattle.goal_board.specs.Working as working
use Rattle.goal_board.specs.Made.{AreMade}
use Rattle.goal_board.proofs.Betweens.{effects_are_between, betweens_add, others_decide_nothing}
use Rattle.goal_board.proofs.Making.{made_none, plays_alone}
use Rattle.edit_session.specs.Program.{keys}
use Rattle.edit_session.specs.Answers.{Asked}
use Rattle.edit_session.specs.Answers as answers
use Rattle.edit_session.specs.OwnCalls.{AreRefused, makes_none, LineCalls}
use Rattle.edit_session.specs.OwnCalls as own
use Rattle.edit_session.specs.Kept.{Session, IsReady, IsLater, HasRoom, IsAnswered}
use Rattle.edit_session.specs.Told.{IsUndone, moved, IsUnchanged}
use Rattle.edit_session.proofs.Answering.{no_later}

-- ---- refused calls

refused_more : (es fs : List BoardCall) → AreRefused es → AreRefused fs → AreRefused (es ++ fs)
refused_more [] fs h k = k
refused_more (e ∷ es) fs h k = (h.0, refused_more es fs h.1 k)

no_effects : (es : List BoardCall) → AreRefused es → effects es ≡ []
no_effects [] h = refl
no_effects (e ∷ es) h = ap (λ c. cond (has_effect c) (c ∷ effects es) (effects es)) h.0 ∙ no_effects es h.1

pub undone_between : (workers : ℕ) (s t : Board) (n n' : List BoardCall) → IsUndone workers s n t n' → Between workers s [] t
undone_between workers s t n n' h = subst (λ es. Between workers s es t) (no_effects h.calls h.refused) (effects_are_between workers s t h.calls (h.are).between)

-- a board by itself is as it was
pub undone_alone : (workers : ℕ) (s t : Board) (n n' : List BoardCall) → workers ≡ 0 → IsUndone workers s n t n' → s ≡ t
undone_alone workers s t n n' none h = plays_alone workers s t [] none (undone_between workers s t n n' h)

pub undone_none : (workers : ℕ) (s : Board) (n : List BoardCall) → IsUndone workers s n s n
undone_none workers s n = record { calls = []; are = made_none workers s n; refused = tt }

pub unopened : (workers : ℕ) (s t : Board) (n n' : List BoardCall) → AreMade workers s n t n' [] ⊎ AreMade workers s n t n' (made no_memory board.memory ∷ []) → IsUndone workers s n t n'
unopened workers s t n n' (inl none) = record { calls = []; are = none; refused = tt }
unopened workers s t n n' (inr one) = record { calls = made no_memory board.memory ∷ []; are = one; refused = (refl, tt) }

-- ---- before the calls of a line that changes the program

abbrev Changes : Asked → Type 0
Changes (Ok r) = IsChange r
Changes (Err b) = ⊤

refused_working : (es fs : List BoardCall) → AreRefused es → Working fs → Working (es ++ fs)
refused_working [] fs h k = k
refused_working (e ∷ es) fs h k = subst (λ c. Working (c ∷ es ++ fs)) (sym h.0) (working.Working.refused (refused_working es fs h.1 k))

refused_work : (es fs : List BoardCall) → AreRefused es → IsWork fs → IsWork (es ++ fs)
refused_work es fs h k = record {
  before = es ++ k.before;
  are = refused_working es k.before h k.are;
  is = elim k.is [
    | inl same ↦ inl (ap (λ l. es ++ l) same)
    | inr last ↦ inr (last.0, ap (λ l. es ++ l) last.1 ∙ sym (append_assoc es k.before (made gather (gathered last.0) ∷ [])))
  ];
}

calls_after : (turns : ℕ) (ds : List Decl) {w : Asked} {x : Reply} {fs : List BoardCall} (es : List BoardCall) → Changes w → AreRefused es → LineCalls turns ds w x fs → LineCalls turns ds w x (es ++ fs)
calls_after turns ds es change h (own.LineCalls.of_accepted {r = r} {goals = g} {new = k} {version = v} before p o refused asks) =
    subst (λ l. LineCalls turns ds (Ok r) (accepted g k v) l) (append_assoc es before (made (open_keys (keys turns p.typed)) o ∷ [])) (own.LineCalls.of_accepted (es ++ before) p o (refused_more es before h refused) asks)
calls_after turns ds es change h own.LineCalls.of_status = absurd change
calls_after turns ds es change h (own.LineCalls.of_report m shown is all) = absurd change
calls_after turns ds es change h (own.LineCalls.of_proofs shown all) = absurd change
calls_after turns ds es change h (own.LineCalls.of_memory {own = fs} work) = own.LineCalls.of_memory (refused_work es fs h work)
calls_after turns ds es change h (own.LineCalls.of_others {own = fs} none refused) = own.LineCalls.of_others none (refused_more es fs h refused)

are_working : (es : List BoardCall) → AreRefused es → Working es
are_working [] h = working.Working.no_more
are_working (e ∷ es) h = subst (λ c. Working (c ∷ es)) (sym h.0) (working.Working.refused (are_working es h.1))

-- ---- a board behind them

pub still_ready : (turns workers v : ℕ) (m : Module) (b t : Board) (n n' : List BoardCall) → IsReady turns v m b → IsUndone workers b n t n' → IsReady turns v m t
still_ready turns workers v m b t n n' ready undone =
    let d = others_decide_nothing workers b t [] (undone_between workers b t n n' undone) in
    record { goals = d.present ∙ ready.goals; version = d.version ∙ ready.version; unclosed = d.closed ∙ ready.unclosed }

pub board_room : (turns workers v : ℕ) (m : Module) (b : Board) → IsReady turns v m b → v < 2 ^ 64 - 1 → workers ≡ 0 → b.version < 2 ^ 64 - 1
board_room turns workers v m b ready room none = omega (arith, ready.version, room)

-- ---- a session behind them

pub unchanged_none : (s : Session) → IsUnchanged s s
unchanged_none s = record { is = refl; undone = undone_none s.workers s.state.board s.noted }

pub undone_session : (turns workers : ℕ) (ds : List Decl) (v : ℕ) (b t : Board) (n n' : List BoardCall) → IsUndone workers b n t n'
    → IsUnchanged (record { turns = turns; workers = workers; state = record { decls = ds; version = v; board = b }; noted = n }) (record { turns = turns; workers = workers; state = record { decls = ds; version = v; board = t }; noted = n' })
undone_session turns workers ds v b t n n' h = record { is = refl; undone = h }

-- an answer for want of memory
pub memory_after : (s t : Session) (r : Asked) → IsUnchanged s t → IsAnswered s r memory t
memory_after s t r h =
    let between = undone_between s.workers s.state.board t.state.board s.noted t.noted h.undone in
    subst (λ (u : Session). IsAnswered s r memory u) (sym h.is) (record {
      line = record { own = []; goes = between; answers = answers.Answers.out_of_memory };
      calls = λ some. ((h.undone).calls, ((h.undone).are).are_noted some, own.LineCalls.of_memory (record { before = (h.undone).calls; are = are_working (h.undone).calls (h.undone).refused; is = inl refl }));
    })

pub after_unchanged : (s t u : Session) (r : Request) (x : Reply) → IsChange r → IsUnchanged s t → IsAnswered t (Ok r) x u → IsAnswered s (Ok r) x u
after_unchanged s t u r x change h a =
    let b : IsAnswered (moved s t.state.board t.noted) (Ok r) x u = subst (λ (v : Session). IsAnswered v (Ok r) x u) h.is a in
    let between = undone_between s.workers s.state.board t.state.board s.noted t.noted h.undone in
    record {
      line = record { own = (b.line).own; goes = betweens_add s.workers s.state.board t.state.board u.state.board [] (b.line).own between (b.line).goes; answers = (b.line).answers };
      calls = λ some.
          let k = b.calls some in (
            (h.undone).calls ++ k.0,
            k.1 ∙ (ap (λ l. l ++ k.0) (((h.undone).are).are_noted some) ∙ append_assoc s.noted (h.undone).calls k.0),
            calls_after s.turns s.state.decls (h.undone).calls change (h.undone).refused k.2,
          );
    }

pub later_after : (s t u : Session) → IsUnchanged s t → IsLater t u → IsLater s u
later_after s t u h l =
    let k : IsLater (moved s t.state.board t.noted) u = subst (λ (v : Session). IsLater v u) h.is l in
    record {
      turns = k.turns;
      workers = k.workers;
      version = k.version;
      claims = λ none. omega (arith, k.claims none, ap (λ (b : Board). b.next) (undone_alone s.workers s.state.board t.state.board s.noted t.noted none h.undone));
    }

pub room_after : (s t : Session) → IsUnchanged s t → HasRoom s → HasRoom t
room_after s t h room = subst HasRoom (sym h.is) (record {
  version = room.version;
  claims = λ none. omega (arith, room.claims none, ap (λ (b : Board). b.next) (undone_alone s.workers s.state.board t.state.board s.noted t.noted none h.undone));
})

pub unchanged_later : (s t : Session) → IsUnchanged s t → IsLater s t
unchanged_later s t h = later_after s t t h (no_later t)
