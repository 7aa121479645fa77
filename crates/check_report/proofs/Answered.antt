-- What was done on the board for a program's goals, step by step.
use Rattle.std.proofs.Common.{◌≡◌, ◌≢◌, ◌⊎◌, ◌∙◌, refl, sym, ap, inl, inr, ℕ, List, [], ◌∷◌, ◌++◌, map, Option, append_assoc, append-nil}
use Rattle.std.proofs.lemmas.List.{map-append}
use Rattle.obligation_text.specs.Asked.{Asked, key_of}
use Rattle.board_core.specs.Kept.{Key}
use Rattle.tableau.specs.Settled.{Settled, settled_by}
use Rattle.vc_build.specs.declared.goal.Goal.{Goal}
use Rattle.program_opening.specs.ProcGoals.{ProcGoals}
use Rattle.report_laws.specs.Scratch.{verdict_on, verdicts}
use Rattle.board_core.specs.Board.{Reply, open_keys, no_memory, memory}
use Rattle.goal_board.specs.Calls.{Board, BoardCall, made}
use Rattle.goal_board.specs.Laws.{OthersDecideNothing}
use Rattle.goal_board.specs.Made.{AreMade, AreSettled, AreWork}
use Rattle.goal_board.specs.Working.{Settling, Working, IsGathered, IsWork}
use Rattle.goal_board.specs.Working as working
use Rattle.report_laws.specs.Summary.{verdicts_on}
use Rattle.report_laws.proofs.Mapped.{map_map}
use Rattle.check_report.specs.Questions.{question_on, questions_on, open_questions, AreAnswered, AreStarved}

-- ---- the verdicts

its_verdicts : (turns : ℕ) (gs : List Goal) → map (λ (a : Settled). a.verdict) (map settled_by (map (question_on turns) gs)) ≡ verdicts turns gs
its_verdicts turns [] = refl
its_verdicts turns (g ∷ gs) = ap (λ vs. verdict_on turns g ∷ vs) (its_verdicts turns gs)

verdicts_are : (turns : ℕ) (ps : List ProcGoals) → map (λ (a : Settled). a.verdict) (map settled_by (questions_on turns ps)) ≡ verdicts_on turns ps
verdicts_are turns [] = refl
verdicts_are turns (p ∷ ps) =
    ap (map (λ (a : Settled). a.verdict)) (map-append settled_by (map (question_on turns) p.goals) (questions_on turns ps))
    ∙ map-append (λ (a : Settled). a.verdict) (map settled_by (map (question_on turns) p.goals)) (map settled_by (questions_on turns ps))
    ∙ (λ i. its_verdicts turns p.goals i ++ verdicts_are turns ps i)

-- of answers to the questions
pub verdicts_by_answers : {X : Type 0} (value : X → Settled) (turns : ℕ) (ps : List ProcGoals) (xs : List X) → map value xs ≡ map settled_by (questions_on turns ps) → map (λ x. (value x).verdict) xs ≡ verdicts_on turns ps
verdicts_by_answers value turns ps xs e = sym (map_map value (λ (a : Settled). a.verdict) xs) ∙ ap (map (λ (a : Settled). a.verdict)) e ∙ verdicts_are turns ps

-- ---- the calls

pub keys_are : {X : Type 0} (value : X → Asked) (qs : List Asked) (xs : List X) → map value xs ≡ qs → map (λ x. key_of (value x)) xs ≡ map key_of qs
keys_are value qs xs e = sym (map_map value key_of xs) ∙ ap (map key_of) e

works : (cs : List BoardCall) → Settling cs → Working cs
works cs working.Settling.no_more = working.Working.no_more
works cs (working.Settling.settled s) = working.Working.settled (works _ s)
works cs (working.Settling.none_left s) = working.Working.none_left (works _ s)
works cs (working.Settling.looked s) = working.Working.looked (works _ s)

gathered_works : (own : List BoardCall) (shown : List (Option Settled)) → IsGathered own shown → IsWork own
gathered_works own shown g = record { before = g.before; are = works g.before g.are; is = inr (shown, g.is) }

pub none_work : IsWork []
none_work = record { before = []; are = working.Working.no_more; is = inl refl }

refused_work : IsWork (made no_memory memory ∷ [])
refused_work = record { before = made no_memory memory ∷ []; are = working.Working.refused working.Working.no_more; is = inl refl }

module _ (turns : ℕ) (ps : List ProcGoals) where
  pub none_made : (n : List BoardCall) → AreStarved turns ps n n
  none_made n = inl ([], sym (append-nil n), none_work)

  -- the open was refused
  pub none_opened : (workers : ℕ) (s : Board) (n : List BoardCall) (t : Board) (n' : List BoardCall) → workers ≢ 0 → AreMade workers s n t n' [] ⊎ AreMade workers s n t n' (made no_memory memory ∷ []) → AreStarved turns ps n n'
  none_opened workers s n t n' some (inl m) = inl ([], m.are_noted some, none_work)
  none_opened workers s n t n' some (inr m) = inl (made no_memory memory ∷ [], m.are_noted some, refused_work)

  module _ (workers : ℕ) (some : workers ≢ 0) (s : Board) (n : List BoardCall) (t : Board) (n' : List BoardCall) (keys : List Key) (opened : Reply Settled) (are : keys ≡ map key_of (questions_on turns ps)) (m : AreMade workers s n t n' (made (open_keys keys) opened ∷ [])) where
    -- the goals are present
    pub are_present : OthersDecideNothing → t.present ≡ map key_of (questions_on turns ps)
    are_present law = (law workers s t (made (open_keys keys) opened ∷ []) m.between).present ∙ are

    noted_open : n' ≡ n ++ open_questions turns ps opened ∷ []
    noted_open = m.are_noted some ∙ ap (λ ks. n ++ made (open_keys ks) opened ∷ []) are

    noted_more : (n'' own : List BoardCall) → n'' ≡ n' ++ own → n'' ≡ n ++ open_questions turns ps opened ∷ own
    noted_more n'' own e = e ∙ ap (λ l. l ++ own) noted_open ∙ append_assoc n (open_questions turns ps opened ∷ []) own

    module _ (u : Board) (n'' : List BoardCall) where
      pub worked : AreWork workers t n' u n'' → AreStarved turns ps n n''
      worked w = inr (opened, w.calls, noted_more n'' w.calls (w.are.are_noted some), w.work)

      pub answered : (these : List Settled) → AreSettled workers t n' u n'' these → these ≡ map settled_by (questions_on turns ps) → AreAnswered turns ps n n''
      answered these a right = record {
        opened = opened;
        own = a.calls;
        shown = a.shown;
        calls = noted_more n'' a.calls (a.are.are_noted some);
        gathered = a.gathered;
        verdicts = ap (map (λ (x : Settled). x.verdict)) (sym a.answers ∙ right) ∙ verdicts_are turns ps;
      }

  -- what was answered is work, where there is no memory for what follows
  pub answered_starves : (n n' : List BoardCall) → AreAnswered turns ps n n' → AreStarved turns ps n n'
  answered_starves n n' a = inr (a.opened, a.own, a.calls, gathered_works a.own a.shown a.gathered)
