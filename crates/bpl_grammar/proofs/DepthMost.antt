-- No reading of some tokens has the last of them deeper than is computed.
use Rattle.std.specs.Prelude.{◌≡◌, ℕ, zero, suc, Bool, true, false, ◌≤◌, List, [], ◌∷◌, IsTrue, Option, Some, None, option_map, ◌⊎◌}
use Rattle.std.proofs.Common.{refl, inl, inr, ◌∙◌, arith}
use Rattle.bpl_grammar.proofs.Booleans.{and_parts as and_true}
use Rattle.bpl_grammar.specs.Lexeme.{Lexeme, is_kind, reads}
use Rattle.bpl_grammar.specs.Part.{Part, ◌⨟◌, ◌∣◌, many, inside}
use Rattle.bpl_grammar.specs.Nesting.{Lies, of_kind, of_text, first, later, left, right, present, once, again, deeper, whole, by}
use Rattle.bpl_grammar.specs.Derivative.{empties_rule, empties, either, onto, within, left_after, left_of, enough}
use Rattle.bpl_grammar.specs.Depth.{most, depth_with, depth_rule, depth_of, deepest}
use Rattle.bpl_grammar.proofs.Sound.{TakesLeft}
use Rattle.bpl_grammar.proofs.Complete.{IsCut, takes_complete, enough_first, enough_next}
use Rattle.bpl_grammar.proofs.Decide.{always}
use Rattle.bpl_grammar.proofs.DepthFound.{LiesLeft}

-- a number that is computed, and no smaller
abbrev pub Reaches : Option ℕ → ℕ → Type 0
Reaches None n = ⊥
Reaches (Some m) n = n ≤ m

abbrev depth_after : ℕ → Lexeme → Part → Option ℕ
depth_after k t p = depth_with (empties_rule k) (depth_rule k t) t p

reaches_first : (a b : Option ℕ) (n : ℕ) → Reaches a n → Reaches (most a b) n
reaches_first None b n h = absurd h
reaches_first (Some m) None n h = h
reaches_first (Some m) (Some j) n h = omega arith

reaches_second : (a b : Option ℕ) (n : ℕ) → Reaches b n → Reaches (most a b) n
reaches_second None b n h = h
reaches_second (Some m) None n h = absurd h
reaches_second (Some m) (Some j) n h = omega arith

reaches_suc : (a : Option ℕ) (n : ℕ) → Reaches a n → Reaches (option_map suc a) (suc n)
reaches_suc None n h = h
reaches_suc (Some m) n h = omega arith

reaches_order : (b : Bool) (l r : Option ℕ) (n : ℕ) → Reaches l n → Reaches (elim b [ true ↦ most l r | false ↦ l ]) n
reaches_order true l r n h = reaches_first l r n h
reaches_order false l r n h = h

reaches_behind : (b : Bool) → IsTrue b → (l r : Option ℕ) (n : ℕ) → Reaches r n → Reaches (elim b [ true ↦ most l r | false ↦ l ]) n
reaches_behind true e l r n h = reaches_second l r n h
reaches_behind false e l r n h = absurd (cc)

lies_first : (a b : Option Part) (ts : List Lexeme) (n : ℕ) → LiesLeft a ts n → LiesLeft (either a b) ts n
lies_first None b ts n h = absurd h
lies_first (Some p) None ts n h = h
lies_first (Some p) (Some q) ts n h = left h

lies_second : (a b : Option Part) (ts : List Lexeme) (n : ℕ) → LiesLeft b ts n → LiesLeft (either a b) ts n
lies_second None b ts n h = h
lies_second (Some p) None ts n h = absurd h
lies_second (Some p) (Some q) ts n h = right h

lies_onto : (a : Option Part) (q : Part) (ts : List Lexeme) (n : ℕ) → LiesLeft a ts n → LiesLeft (onto a q) ts n
lies_onto None q ts n h = absurd h
lies_onto (Some p) q ts n h = first h

lies_later : (a : Option Part) (q : Part) (ts us : List Lexeme) (n : ℕ) → TakesLeft a ts us → Lies q us n → LiesLeft (onto a q) ts n
lies_later None q ts us n d h = absurd d
lies_later (Some p) q ts us n d h = later d h

lies_within : (a : Option Part) (ts : List Lexeme) (n : ℕ) → LiesLeft a ts n → LiesLeft (within a) ts (suc n)
lies_within None ts n h = h
lies_within (Some p) ts n h = deeper h

lies_order : (b : Bool) (l m : Option Part) (q : Part) (ts : List Lexeme) (n : ℕ) → LiesLeft (onto l q) ts n → LiesLeft (elim b [ true ↦ either (onto l q) m | false ↦ onto l q ]) ts n
lies_order true l m q ts n h = lies_first (onto l q) m ts n h
lies_order false l m q ts n h = h

lies_behind : (b : Bool) → IsTrue b → (l m : Option Part) (q : Part) (ts : List Lexeme) (n : ℕ) → LiesLeft m ts n → LiesLeft (elim b [ true ↦ either (onto l q) m | false ↦ onto l q ]) ts n
lies_behind true e l m q ts n h = lies_second (onto l q) m ts n h
lies_behind false e l m q ts n h = absurd (cc)

-- the tokens are one token, which lies no deeper than computed; or a token and others, and the last lies in what is left
abbrev pub IsLaid : ℕ → Part → List Lexeme → ℕ → Type 0
IsLaid k p ts n = ((t : Lexeme) × (ts ≡ t ∷ []) × Reaches (depth_after k t p) n) ⊎ ((t : Lexeme) × (rest : List Lexeme) × (ts ≡ t ∷ rest) × LiesLeft (left_after k t p) rest n)

laid_first : (k : ℕ) (p q : Part) (ts : List Lexeme) (n : ℕ) → IsLaid k p ts n → IsLaid k (p ⨟ q) ts n
laid_first k p q ts n (inl h) = inl (h.0, h.1, reaches_order (empties k p) (depth_after k h.0 p) (depth_after k h.0 q) n h.2)
laid_first k p q ts n (inr h) = inr (h.0, h.1, h.2, lies_order (empties k p) (left_after k h.0 p) (left_after k h.0 q) q h.1 n (lies_onto (left_after k h.0 p) q h.1 n h.3))

laid_next : (k : ℕ) (p q : Part) (ts us : List Lexeme) (n : ℕ) → ts ≡ us → IsTrue (empties k p) → IsLaid k q us n → IsLaid k (p ⨟ q) ts n
laid_next k p q ts us n e z (inl h) = inl (h.0, e ∙ h.1, reaches_behind (empties k p) z (depth_after k h.0 p) (depth_after k h.0 q) n h.2)
laid_next k p q ts us n e z (inr h) = inr (h.0, h.1, e ∙ h.2, lies_behind (empties k p) z (left_after k h.0 p) (left_after k h.0 q) q h.1 n h.3)

laid_later : (k : ℕ) (p q : Part) (ts us : List Lexeme) (n : ℕ) → IsCut k p ts us → Lies q us n → (IsTrue (empties k p) → IsLaid k q us n) → IsLaid k (p ⨟ q) ts n
laid_later k p q ts us n (inl h) l ih = laid_next k p q ts us n h.0 h.1 (ih h.1)
laid_later k p q ts us n (inr h) l ih = inr (h.0, h.1, h.2, lies_order (empties k p) (left_after k h.0 p) (left_after k h.0 q) q h.1 n (lies_later (left_after k h.0 p) q h.1 us n h.3 l))

laid_left : (k : ℕ) (p q : Part) (ts : List Lexeme) (n : ℕ) → IsLaid k p ts n → IsLaid k (p ∣ q) ts n
laid_left k p q ts n (inl h) = inl (h.0, h.1, reaches_first (depth_after k h.0 p) (depth_after k h.0 q) n h.2)
laid_left k p q ts n (inr h) = inr (h.0, h.1, h.2, lies_first (left_after k h.0 p) (left_after k h.0 q) h.1 n h.3)

laid_right : (k : ℕ) (p q : Part) (ts : List Lexeme) (n : ℕ) → IsLaid k q ts n → IsLaid k (p ∣ q) ts n
laid_right k p q ts n (inl h) = inl (h.0, h.1, reaches_second (depth_after k h.0 p) (depth_after k h.0 q) n h.2)
laid_right k p q ts n (inr h) = inr (h.0, h.1, h.2, lies_second (left_after k h.0 p) (left_after k h.0 q) h.1 n h.3)

laid_once : (k : ℕ) (p : Part) (ts : List Lexeme) (n : ℕ) → IsLaid k p ts n → IsLaid k (many p) ts n
laid_once k p ts n (inl h) = inl h
laid_once k p ts n (inr h) = inr (h.0, h.1, h.2, lies_onto (left_after k h.0 p) (many p) h.1 n h.3)

laid_again : (k : ℕ) (p : Part) (ts us : List Lexeme) (n : ℕ) → IsCut k p ts us → Lies (many p) us n → IsLaid k (many p) us n → IsLaid k (many p) ts n
laid_again k p ts us n (inl h) l (inl j) = inl (j.0, h.0 ∙ j.1, j.2)
laid_again k p ts us n (inl h) l (inr j) = inr (j.0, j.1, h.0 ∙ j.2, j.3)
laid_again k p ts us n (inr h) l j = inr (h.0, h.1, h.2, lies_later (left_after k h.0 p) (many p) h.1 us n h.3 l)

laid_inside : (k : ℕ) (p : Part) (ts : List Lexeme) (n : ℕ) → IsLaid k p ts n → IsLaid k (inside p) ts (suc n)
laid_inside k p ts n (inl h) = inl (h.0, h.1, reaches_suc (depth_after k h.0 p) n h.2)
laid_inside k p ts n (inr h) = inr (h.0, h.1, h.2, lies_within (left_after k h.0 p) h.1 n h.3)

laid_one : (b : Bool) → IsTrue b → Reaches (elim b [ true ↦ Some 0 | false ↦ None ]) 0
laid_one true h = omega arith
laid_one false h = absurd (cc)

pub lies_complete : (k : ℕ) {p : Part} {ts : List Lexeme} {n : ℕ} → Lies p ts n → IsTrue (enough k p) → IsLaid k p ts n
lies_complete k (of_kind {k = j} {t = t} h) e = inl (t, refl, laid_one (is_kind j t) h)
lies_complete k (of_text {w = w} {t = t} h) e = inl (t, refl, laid_one (reads w t) h)
lies_complete k (first {p = p} {q = q} {ts = ts} {n = n} l) e = laid_first k p q ts n (lies_complete k l (enough_first (empties k p) (enough k q) (enough k p) e))
lies_complete k (later {p = p} {q = q} {ts = ts} {us = us} {n = n} d l) e =
    laid_later k p q ts us n (takes_complete k d (enough_first (empties k p) (enough k q) (enough k p) e)) l
    (λ z. lies_complete k l (enough_next (empties k p) (enough k q) (enough k p) e z))
lies_complete k (left {p = p} {q = q} {ts = ts} {n = n} l) e = laid_left k p q ts n (lies_complete k l (and_true (enough k p) (enough k q) e).0)
lies_complete k (right {p = p} {q = q} {ts = ts} {n = n} l) e = laid_right k p q ts n (lies_complete k l (and_true (enough k p) (enough k q) e).1)
lies_complete k (present l) e = lies_complete k l e
lies_complete k (once {p = p} {ts = ts} {n = n} l) e = laid_once k p ts n (lies_complete k l e)
lies_complete k (again {p = p} {ts = ts} {us = us} {n = n} d l) e = laid_again k p ts us n (takes_complete k d e) l (lies_complete k l e)
lies_complete k (deeper {p = p} {ts = ts} {n = n} l) e = laid_inside k p ts n (lies_complete k l e)
lies_complete k (whole l) e = lies_complete k l e
lies_complete zero (by l) e = absurd (cc)
lies_complete (suc k) (by l) e = lies_complete k l e

laid_nowhere : (p : Part) (n : ℕ) → IsLaid 12 p [] n → ⊥
laid_nowhere p n (inl h) = absurd (cc (h.1))
laid_nowhere p n (inr h) = absurd (cc (h.2))

pub lies_nowhere : (o : Option Part) (n : ℕ) → LiesLeft o [] n → ⊥
lies_nowhere None n h = h
lies_nowhere (Some p) n h = laid_nowhere p n (lies_complete 12 h (always p))

pub reach_one : (t : Lexeme) (p : Part) (n : ℕ) → IsLaid 12 p (t ∷ []) n → Reaches (depth_of t p) n
reach_one t p n (inl h) =
    let same : t ≡ h.0 = cc (h.1) in
    rw same h.2
reach_one t p n (inr h) =
    let none_left : h.1 ≡ [] = cc (h.2) in
    absurd (lies_nowhere (left_after 12 h.0 p) n (rw none_left at h.3))

reach_next : (o : Option Part) (ts : List Lexeme) (n : ℕ) → ((q : Part) → Lies q ts n → Reaches (deepest ts q) n) → LiesLeft o ts n → Reaches (elim o [ Some q ↦ deepest ts q | None ↦ None ]) n
reach_next None ts n ih h = absurd h
reach_next (Some q) ts n ih h = ih q h

pub laid_more : (t u : Lexeme) (ts : List Lexeme) (p : Part) (n : ℕ) → IsLaid 12 p (t ∷ u ∷ ts) n → LiesLeft (left_of t p) (u ∷ ts) n
laid_more t u ts p n (inl h) = absurd (cc (h.1))
laid_more t u ts p n (inr h) =
    let same : t ≡ h.0 = cc (h.2) in
    let rest : u ∷ ts ≡ h.1 = cc (h.2) in
    rw (same, rest) h.3

-- no reading has the last of the tokens deeper than is computed
pub lies_reach : (ts : List Lexeme) (p : Part) (n : ℕ) → Lies p ts n → Reaches (deepest ts p) n
lies_reach [] p n l = absurd (laid_nowhere p n (lies_complete 12 l (always p)))
lies_reach (t ∷ []) p n l = reach_one t p n (lies_complete 12 l (always p))
lies_reach (t ∷ u ∷ ts) p n l = reach_next (left_of t p) (u ∷ ts) n (λ q. lies_reach (u ∷ ts) q n) (laid_more t u ts p n (lies_complete 12 l (always p)))
