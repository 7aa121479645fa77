-- The hash of one more part of a sum.
use Rattle.std.proofs.Common.{◌≡◌, sym, ap, ◌∙◌, ℕ, ℤ, ◌+◌, ◌<◌, List, ◌∷◌, length, drop, get_or}
use Rattle.logic_core.specs.Tree.{Tree}
use Rattle.logic_core.specs.View.{parts_of}
use Rattle.term_bank.specs.Hash.{mixed, number_hash, hash_of, hash_of_parts}
use Rattle.term_bank.proofs.Steps.{left}

pub parts_next : (ps : List (ℤ × Tree)) (i h g : ℕ) (p : ℤ × Tree) (all : ℕ) → i < length ps → p ≡ get_or ps i p → hash_of_parts h (parts_of (drop i ps)) ≡ all
    → g ≡ mixed (mixed h (number_hash p.0)) (hash_of p.1) → hash_of_parts g (parts_of (drop (i + 1) ps)) ≡ all
parts_next ps i h g p all l e v q = ap (λ k. hash_of_parts k (parts_of (drop (i + 1) ps))) q ∙ ap (λ xs. hash_of_parts h (parts_of xs)) (sym (left ps i p l e)) ∙ v
