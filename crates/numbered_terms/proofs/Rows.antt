-- One more list of a quantifier's triggers.
use Rattle.std.proofs.Common.{◌≡◌, refl, sym, ap, ◌∙◌, ℕ, Vec, ◌+◌, ◌<◌, ◌≤◌, max, List, [], ◌∷◌, ◌++◌, length, drop, get_or, arith}
use Rattle.std.specs.declared.alloc.Global.{Global}
use Rattle.std.proofs.lemmas.List.{append_assoc, at_drop_all}
use Rattle.logic_core.specs.Size.{capped}
use Rattle.term_bank.specs.Node.{in_lists}
use Rattle.term_bank.proofs.Steps.{left}
use Rattle.numbered_terms.specs.Measures.{sum_over, most_over}
use Rattle.numbered_terms.proofs.Measuring.{sum_append, most_append}

module _ (ws : List (Vec ℕ Global)) (i : ℕ) (w : Vec ℕ Global) (l : i < length ws) (e : w ≡ get_or ws i w) where
  sum_next : (of : ℕ → ℕ) → sum_over of (in_lists (drop i ws)) ≡ sum_over of w.items + sum_over of (in_lists (drop (i + 1) ws))
  sum_next of = ap (λ vs. sum_over of (in_lists vs)) (left ws i w l e) ∙ sum_append of w.items (in_lists (drop (i + 1) ws))

  most_next : (of : ℕ → ℕ) → most_over of (in_lists (drop i ws)) ≡ max (most_over of w.items) (most_over of (in_lists (drop (i + 1) ws)))
  most_next of = ap (λ vs. most_over of (in_lists vs)) (left ws i w l e) ∙ most_append of w.items (in_lists (drop (i + 1) ws))

pub sizes_more : (of : ℕ → ℕ) (ws : List (Vec ℕ Global)) (i : ℕ) (w : Vec ℕ Global) (xs : List ℕ) (total total' s whole : ℕ) → i < length ws → w ≡ get_or ws i w → xs ≡ w.items → s ≡ capped (sum_over of xs) → total' ≡ capped (total + s)
    → capped (total + sum_over of (in_lists (drop i ws))) ≡ whole → capped (total' + sum_over of (in_lists (drop (i + 1) ws))) ≡ whole
sizes_more of ws i w xs total total' s whole l e q r t h = let one : s ≡ capped (sum_over of w.items) = r ∙ ap (λ ys. capped (sum_over of ys)) q in omega (arith, one, t, h, sum_next ws i w l e of)

pub reaches_more : (of : ℕ → ℕ) (ws : List (Vec ℕ Global)) (i : ℕ) (w : Vec ℕ Global) (xs : List ℕ) (most most' s whole : ℕ) → i < length ws → w ≡ get_or ws i w → xs ≡ w.items → s ≡ most_over of xs → most' ≡ max most s
    → max most (most_over of (in_lists (drop i ws))) ≡ whole → max most' (most_over of (in_lists (drop (i + 1) ws))) ≡ whole
reaches_more of ws i w xs most most' s whole l e q r t h = let one : s ≡ most_over of w.items = r ∙ ap (most_over of) q in omega (arith, one, t, h, most_next ws i w l e of)

pub numbers_more : (ns ns' xs whole : List ℕ) (ws : List (Vec ℕ Global)) (i : ℕ) (w : Vec ℕ Global) → i < length ws → w ≡ get_or ws i w → xs ≡ w.items → ns' ≡ ns ++ xs
    → ns ++ in_lists (drop i ws) ≡ whole → ns' ++ in_lists (drop (i + 1) ws) ≡ whole
numbers_more ns ns' xs whole ws i w l e q r h = ap (λ ys. ys ++ in_lists (drop (i + 1) ws)) (r ∙ ap (λ ys. ns ++ ys) q) ∙ append_assoc ns w.items (in_lists (drop (i + 1) ws)) ∙ ap (λ vs. ns ++ in_lists vs) (sym (left ws i w l e)) ∙ h

nothing_more : (ns : List ℕ) → ns ++ [] ≡ ns
nothing_more [] = refl
nothing_more (n ∷ ns) = ap (λ ys. n ∷ ys) (nothing_more ns)

pub numbers_all : (ns whole : List ℕ) (ws : List (Vec ℕ Global)) (i : ℕ) → length ws ≤ i → ns ++ in_lists (drop i ws) ≡ whole → ns ≡ whole
numbers_all ns whole ws i l h = sym (nothing_more ns) ∙ sym (at_drop_all (λ vs. ns ++ in_lists vs) ws i l) ∙ h
