-- The kept answers of all goals are the search's to their questions.
use Rattle.std.proofs.Common.{◌≡◌, ◌∙◌, refl, sym, ap, subst, append_assoc, ℕ, ◌+◌, ◌<◌, Bool, true, false, ◌||◌, cond, IsTrue, List, [], ◌∷◌, ◌++◌, map, find, drop, length, get_or, Option, Some, None, bytes_eq}
use Rattle.std.specs.List.{list_all}
use Rattle.std.specs.Option.{option_map}
use Rattle.logic_core.proofs.Booleans.{both_true}
use Rattle.tableau_branch.proofs.Lists.{drop_item}
use Rattle.obligation_text.specs.Asked.{Asked, key_of, KeysTellApart}
use Rattle.tableau.specs.Settled.{Settled, IsRight, settled_by}
use Rattle.bv_base.specs.Text.{is_among}
use Rattle.board_core.specs.Kept.{Key, kept_keys, kept_at}
use Rattle.board_core.specs.Board.{gather, gathered}
use Rattle.board_core.specs.Step.{reply}
use Rattle.board_core.specs.Laws.{ShowsRight}
use Rattle.goal_board.specs.Calls.{Board, answer_key, all_kept}
use Rattle.goal_board.specs.Found.{found}

-- a kept key has an answer
no_none : (es : List (Key × Settled)) (k : Key) → IsTrue (is_among (kept_keys es) k) → kept_at es k ≡ None → ⊥
no_none [] k h e = cc
no_none (x ∷ es) k h e = by_test (bytes_eq k x.0) (λ i f. no_none es k i f) h e
  where
    by_test : (b : Bool) → (IsTrue (is_among (kept_keys es) k) → kept_at es k ≡ None → ⊥) → IsTrue (b || is_among (kept_keys es) k) → option_map {T = Key × Settled} (λ p. p.1) (cond b (Some x) (find (λ p. bytes_eq k p.0) es)) ≡ None → ⊥
    by_test true rest h e = cc
    by_test false rest h e = rest h e

-- an answer of a question's key is the search's to that question
of_question : KeysTellApart → (q : Asked) (a : Settled) → answer_key a ≡ key_of q → IsRight a → a ≡ settled_by q
of_question apart q a e r = r.answered ∙ ap settled_by (apart a.question q e)

pub all_shown : KeysTellApart → (es : List (Key × Settled)) (ks : List Key) (qs : List Asked) → ks ≡ map key_of qs → IsTrue (list_all (is_among (kept_keys es)) ks)
    → ShowsRight Settled answer_key IsRight ks (map (kept_at es) ks) → found (map (kept_at es) ks) ≡ map settled_by qs
all_shown apart es [] [] same all right = refl
all_shown apart es [] (q ∷ qs) same all right = absurd (cc)
all_shown apart es (k ∷ ks) [] same all right = absurd (cc)
all_shown apart es (k ∷ ks) (q ∷ qs) same all right =
    let parts = both_true (is_among (kept_keys es) k) (list_all (is_among (kept_keys es)) ks) all in
    let here : k ≡ key_of q = cc in
    let behind : ks ≡ map key_of qs = cc in
    by_answer here (kept_at es k) refl parts.0 right (λ r. all_shown apart es ks qs behind parts.1 r)
  where
    by_answer : k ≡ key_of q → (r : Option Settled) → kept_at es k ≡ r → IsTrue (is_among (kept_keys es) k) → ShowsRight Settled answer_key IsRight (k ∷ ks) (r ∷ map (kept_at es) ks)
        → (ShowsRight Settled answer_key IsRight ks (map (kept_at es) ks) → found (map (kept_at es) ks) ≡ map settled_by qs)
        → found (r ∷ map (kept_at es) ks) ≡ settled_by q ∷ map settled_by qs
    by_answer here None e kept shows rest = absurd (no_none es k kept e)
    by_answer here (Some a) e kept shows rest = λ i. of_question apart q a (shows.0 ∙ here) shows.1 i ∷ rest shows.2 i

pub found_next : {A : Type 0} (x : Option A) (xs : List (Option A)) → found (x ∷ xs) ≡ found (x ∷ []) ++ found xs
found_next None xs = refl
found_next (Some a) xs = refl

-- what is found so far, behind which the next comes where it is there
pub found_pushed : {X A : Type 0} (value : X → A) (xs : List (Option X)) (i : ℕ) (x : Option X) (before after : List X) (total : List A) → i < length xs → x ≡ get_or xs i x → map value after ≡ map value before ++ found (option_map value x ∷ [])
    → map value before ++ found (map (option_map value) (drop i xs)) ≡ total → map value after ++ found (map (option_map value) (drop (i + 1) xs)) ≡ total
found_pushed value xs i x before after total within is step made =
    let rest = map (option_map value) (drop (i + 1) xs) in
    ap (λ w. w ++ found rest) step ∙ append_assoc (map value before) (found (option_map value x ∷ [])) (found rest)
    ∙ ap (λ w. map value before ++ w) (sym (found_next (option_map value x) rest))
    ∙ ap (λ l. map value before ++ found (map (option_map value) l)) (sym (drop_item xs i x within is)) ∙ made

-- what a gather shows where every goal has an answer
pub answers_are : KeysTellApart → (s : Board) (qs : List Asked) (xs : List (Option Settled)) → gathered xs ≡ reply s gather → ShowsRight Settled answer_key IsRight s.present xs
    → IsTrue (all_kept s) → s.present ≡ map key_of qs → found xs ≡ map settled_by qs
answers_are apart s qs xs told right all same =
    let is : xs ≡ map (kept_at s.kept) s.present = cc in
    ap found is ∙ all_shown apart s.kept s.present qs same all (subst (ShowsRight Settled answer_key IsRight s.present) is right)
