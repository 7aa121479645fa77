-- Answers at hand are those that a gather shows, where every present goal is kept.
use Rattle.std.proofs.Common.{◌≡◌, ◌∙◌, refl, sym, ap, true, IsTrue, List, [], ◌∷◌, map, Option}
use Rattle.std.specs.Prelude.{bytes_eq}
use Rattle.std.proofs.lemmas.Slice.Eq.{bytes_eq-Decides}
use Rattle.obligation_text.specs.Asked.{Asked, key_of, KeysTellApart}
use Rattle.tableau.specs.Settled.{Settled, IsRight, settled_by}
use Rattle.board_core.specs.Kept.{Key, kept_at}
use Rattle.board_core.specs.Board.{gather, gathered}
use Rattle.board_core.specs.Step.{reply}
use Rattle.board_core.specs.Sound.{IsSound}
use Rattle.board_core.proofs.Settling.{shows_right}
use Rattle.goal_board.specs.Calls.{Board, answer_key, all_kept}
use Rattle.goal_board.specs.Found.{found}
use Rattle.goal_board.proofs.Shown.{all_shown}

-- an answer that is right for its question is the search's to each question with that key
pub of_its_question : KeysTellApart → (a : Settled) (p q : Asked) (k l : Key) → p ≡ a.question → IsRight a → k ≡ key_of p → l ≡ key_of q → bytes_eq k l ≡ true → a ≡ settled_by q
of_its_question apart a p q k l is right key other same =
    let keys : key_of p ≡ key_of q = sym key ∙ (bytes_eq-Decides k l).0 same ∙ other in
    right.answered ∙ ap settled_by (sym is ∙ apart p q keys)

-- what a gather shows is what is kept
pub shown_are : (s : Board) (xs : List (Option Settled)) → gathered xs ≡ reply s gather → found xs ≡ found (map (kept_at s.kept) s.present)
shown_are s xs told = let is : xs ≡ map (kept_at s.kept) s.present = cc in ap found is

-- where every present goal is kept, its answer is the search's to its question
pub kept_are : KeysTellApart → (s : Board) (qs : List Asked) → IsSound Settled answer_key IsRight s → IsTrue (all_kept s) → s.present ≡ map key_of qs
    → found (map (kept_at s.kept) s.present) ≡ map settled_by qs
kept_are apart s qs sound all same = all_shown apart s.kept s.present qs same all (shows_right answer_key IsRight s.kept s.present sound.right)

-- the keys of questions that are asked again
pub asked_again : {X : Type 0} (value : X → Asked) (xs ys : List X) → map value ys ≡ map value xs → map (λ x. key_of (value x)) xs ≡ map key_of (map value ys)
asked_again {X} value xs ys same = each xs ∙ ap (map key_of) (sym same)
  where
    each : (zs : List X) → map (λ x. key_of (value x)) zs ≡ map key_of (map value zs)
    each [] = refl
    each (z ∷ zs) = ap (λ ks. key_of (value z) ∷ ks) (each zs)
