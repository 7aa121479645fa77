-- A part's spellings and beginnings go on in what is left after their first token.
use Rattle.std.specs.Prelude.{◌≡◌, ℕ, zero, suc, Bool, true, false, ◌&&◌, List, [], ◌∷◌, IsTrue, Option, Some, None, ◌⊎◌}
use Rattle.std.proofs.Common.{refl, inl, inr, ◌∙◌}
use Rattle.bpl_grammar.proofs.Booleans.{and_both, and_parts as and_true, or_first, or_second}
use Rattle.bpl_lex.specs.Token.{Kind}
use Rattle.bpl_grammar.specs.Lexeme.{Lexeme, is_kind, reads}
use Rattle.bpl_grammar.specs.Part.{Part, inside, nothing, ◌⨟◌, ◌∣◌, maybe, many}
use Rattle.bpl_grammar.specs.Spelling.{Takes, of_kind, of_text, empty, both, left, right, absent, present, no_more, again, deeper, whole, by, Begins, none, first, later, once}
use Rattle.bpl_grammar.specs.Derivative.{within, empties, either, onto, left_after, enough}
use Rattle.bpl_grammar.proofs.Sound.{TakesLeft, BeginsLeft}

-- into either and onto

pub takes_left : (a b : Option Part) (ts us : List Lexeme) → TakesLeft a ts us → TakesLeft (either a b) ts us
takes_left None b ts us h = absurd h
takes_left (Some p) None ts us h = h
takes_left (Some p) (Some q) ts us h = left h

pub takes_right : (a b : Option Part) (ts us : List Lexeme) → TakesLeft b ts us → TakesLeft (either a b) ts us
takes_right None b ts us h = h
takes_right (Some p) None ts us h = absurd h
takes_right (Some p) (Some q) ts us h = right h

pub takes_onto : (a : Option Part) (q : Part) (ts us vs : List Lexeme) → TakesLeft a ts us → Takes q us vs → TakesLeft (onto a q) ts vs
takes_onto None q ts us vs h d = absurd h
takes_onto (Some p) q ts us vs h d = both h d

-- The part takes nothing, and may; or it takes a first token, and what is left the others.
abbrev pub IsCut : ℕ → Part → List Lexeme → List Lexeme → Type 0
IsCut n p ts us = ((ts ≡ us) × IsTrue (empties n p)) ⊎ ((t : Lexeme) × (rest : List Lexeme) × (ts ≡ t ∷ rest) × TakesLeft (left_after n t p) rest us)

in_order_front : (b : Bool) (l m : Option Part) (q : Part) (ts vs : List Lexeme) → TakesLeft (onto l q) ts vs → TakesLeft (elim b [ true ↦ either (onto l q) m | false ↦ onto l q ]) ts vs
in_order_front true l m q ts vs h = takes_left (onto l q) m ts vs h
in_order_front false l m q ts vs h = h

in_order_back : (b : Bool) → IsTrue b → (l m : Option Part) (q : Part) (ts vs : List Lexeme) → TakesLeft m ts vs → TakesLeft (elim b [ true ↦ either (onto l q) m | false ↦ onto l q ]) ts vs
in_order_back true e l m q ts vs h = takes_right (onto l q) m ts vs h
in_order_back false e l m q ts vs h = absurd (cc)

pub enough_next : (a b c : Bool) → IsTrue (c && elim a [ true ↦ b | false ↦ true ]) → IsTrue a → IsTrue b
enough_next true b true h e = h
enough_next true b false h e = absurd (cc)
enough_next false b c h e = absurd (cc)

pub enough_first : (a b c : Bool) → IsTrue (c && elim a [ true ↦ b | false ↦ true ]) → IsTrue c
enough_first a b true h = refl
enough_first a b false h = absurd (cc)

cut_one : (n : ℕ) (k : Kind) (t : Lexeme) (ts : List Lexeme) (b : Bool) → is_kind k t ≡ b → IsTrue b → TakesLeft (elim b [ true ↦ Some nothing | false ↦ None ]) ts ts
cut_one n k t ts true e h = empty
cut_one n k t ts false e h = absurd (cc)

cut_text : (w : List ℕ) (t : Lexeme) (ts : List Lexeme) (b : Bool) → IsTrue b → TakesLeft (elim b [ true ↦ Some nothing | false ↦ None ]) ts ts
cut_text w t ts true h = empty
cut_text w t ts false h = absurd (cc)

cut_back : (n : ℕ) (p q : Part) (ts us vs : List Lexeme) → ts ≡ us → IsTrue (empties n p) → IsCut n q us vs → IsCut n (p ⨟ q) ts vs
cut_back n p q ts us vs e z (inl h) = inl (e ∙ h.0, and_both (empties n p) (empties n q) z h.1)
cut_back n p q ts us vs e z (inr h) = inr (h.0, h.1, e ∙ h.2, in_order_back (empties n p) z (left_after n h.0 p) (left_after n h.0 q) q h.1 vs h.3)

cut_both : (n : ℕ) (p q : Part) (ts us vs : List Lexeme) → IsCut n p ts us → Takes q us vs → (IsTrue (empties n p) → IsCut n q us vs) → IsCut n (p ⨟ q) ts vs
cut_both n p q ts us vs (inl h) d ih = cut_back n p q ts us vs h.0 h.1 (ih h.1)
cut_both n p q ts us vs (inr h) d ih = inr (h.0, h.1, h.2, in_order_front (empties n p) (left_after n h.0 p) (left_after n h.0 q) q h.1 vs (takes_onto (left_after n h.0 p) q h.1 us vs h.3 d))

cut_left : (n : ℕ) (p q : Part) (ts us : List Lexeme) → IsCut n p ts us → IsCut n (p ∣ q) ts us
cut_left n p q ts us (inl h) = inl (h.0, or_first (empties n p) (empties n q) h.1)
cut_left n p q ts us (inr h) = inr (h.0, h.1, h.2, takes_left (left_after n h.0 p) (left_after n h.0 q) h.1 us h.3)

cut_right : (n : ℕ) (p q : Part) (ts us : List Lexeme) → IsCut n q ts us → IsCut n (p ∣ q) ts us
cut_right n p q ts us (inl h) = inl (h.0, or_second (empties n p) (empties n q) h.1)
cut_right n p q ts us (inr h) = inr (h.0, h.1, h.2, takes_right (left_after n h.0 p) (left_after n h.0 q) h.1 us h.3)

cut_present : (n : ℕ) (p : Part) (ts us : List Lexeme) → IsCut n p ts us → IsCut n (maybe p) ts us
cut_present n p ts us (inl h) = inl (h.0, refl)
cut_present n p ts us (inr h) = inr h

cut_again : (n : ℕ) (p : Part) (ts us vs : List Lexeme) → IsCut n p ts us → Takes (many p) us vs → IsCut n (many p) us vs → IsCut n (many p) ts vs
cut_again n p ts us vs (inl h) d (inl k) = inl (h.0 ∙ k.0, refl)
cut_again n p ts us vs (inl h) d (inr k) = inr (k.0, k.1, h.0 ∙ k.2, k.3)
cut_again n p ts us vs (inr h) d k = inr (h.0, h.1, h.2, takes_onto (left_after n h.0 p) (many p) h.1 us vs h.3 d)

takes_within : (o : Option Part) (ts us : List Lexeme) → TakesLeft o ts us → TakesLeft (within o) ts us
takes_within None ts us h = h
takes_within (Some p) ts us h = deeper h

cut_inside : (n : ℕ) (p : Part) (ts us : List Lexeme) → IsCut n p ts us → IsCut n (inside p) ts us
cut_inside n p ts us (inl h) = inl h
cut_inside n p ts us (inr h) = inr (h.0, h.1, h.2, takes_within (left_after n h.0 p) h.1 us h.3)

pub takes_complete : (n : ℕ) {p : Part} {ts us : List Lexeme} → Takes p ts us → IsTrue (enough n p) → IsCut n p ts us
takes_complete n (of_kind {k = k} {t = t} {ts = ts} h) e = inr (t, ts, refl, cut_one n k t ts (is_kind k t) refl h)
takes_complete n (of_text {w = w} {t = t} {ts = ts} h) e = inr (t, ts, refl, cut_text w t ts (reads w t) h)
takes_complete n empty e = inl (refl, refl)
takes_complete n (both {p = p} {q = q} {ts = ts} {us = us} {vs = vs} d d') e =
    cut_both n p q ts us vs (takes_complete n d (enough_first (empties n p) (enough n q) (enough n p) e)) d'
    (λ z. takes_complete n d' (enough_next (empties n p) (enough n q) (enough n p) e z))
takes_complete n (left {p = p} {q = q} {ts = ts} {us = us} d) e = cut_left n p q ts us (takes_complete n d (and_true (enough n p) (enough n q) e).0)
takes_complete n (right {p = p} {q = q} {ts = ts} {us = us} d) e = cut_right n p q ts us (takes_complete n d (and_true (enough n p) (enough n q) e).1)
takes_complete n absent e = inl (refl, refl)
takes_complete n (present {p = p} {ts = ts} {us = us} d) e = cut_present n p ts us (takes_complete n d e)
takes_complete n no_more e = inl (refl, refl)
takes_complete n (again {p = p} {ts = ts} {us = us} {vs = vs} d d') e = cut_again n p ts us vs (takes_complete n d e) d' (takes_complete n d' e)
takes_complete n (deeper {p = p} {ts = ts} {us = us} d) e = cut_inside n p ts us (takes_complete n d e)
takes_complete n (whole d) e = takes_complete n d e
takes_complete zero (by d) e = absurd (cc)
takes_complete (suc n) (by d) e = takes_complete n d e

-- the same of beginnings

pub begins_left : (a b : Option Part) (ts : List Lexeme) → BeginsLeft a ts → BeginsLeft (either a b) ts
begins_left None b ts h = absurd h
begins_left (Some p) None ts h = h
begins_left (Some p) (Some q) ts h = left h

pub begins_right : (a b : Option Part) (ts : List Lexeme) → BeginsLeft b ts → BeginsLeft (either a b) ts
begins_right None b ts h = h
begins_right (Some p) None ts h = absurd h
begins_right (Some p) (Some q) ts h = right h

begins_first : (a : Option Part) (q : Part) (ts : List Lexeme) → BeginsLeft a ts → BeginsLeft (onto a q) ts
begins_first None q ts h = absurd h
begins_first (Some p) q ts h = first h

begins_later : (a : Option Part) (q : Part) (ts us : List Lexeme) → TakesLeft a ts us → Begins q us → BeginsLeft (onto a q) ts
begins_later None q ts us h b = absurd h
begins_later (Some p) q ts us h b = later h b

begun_front : (b : Bool) (l m : Option Part) (q : Part) (ts : List Lexeme) → BeginsLeft (onto l q) ts → BeginsLeft (elim b [ true ↦ either (onto l q) m | false ↦ onto l q ]) ts
begun_front true l m q ts h = begins_left (onto l q) m ts h
begun_front false l m q ts h = h

begun_back : (b : Bool) → IsTrue b → (l m : Option Part) (q : Part) (ts : List Lexeme) → BeginsLeft m ts → BeginsLeft (elim b [ true ↦ either (onto l q) m | false ↦ onto l q ]) ts
begun_back true e l m q ts h = begins_right (onto l q) m ts h
begun_back false e l m q ts h = absurd (cc)

-- the tokens are no tokens, or a token and a beginning of what is left
abbrev pub IsBegun : ℕ → Part → List Lexeme → Type 0
IsBegun n p ts = (ts ≡ []) ⊎ ((t : Lexeme) × (rest : List Lexeme) × (ts ≡ t ∷ rest) × BeginsLeft (left_after n t p) rest)

begun_one : (t : Lexeme) (b : Bool) → IsTrue b → BeginsLeft (elim b [ true ↦ Some nothing | false ↦ None ]) []
begun_one t true h = none
begun_one t false h = absurd (cc)

begun_first : (n : ℕ) (p q : Part) (ts : List Lexeme) → IsBegun n p ts → IsBegun n (p ⨟ q) ts
begun_first n p q ts (inl h) = inl h
begun_first n p q ts (inr h) = inr (h.0, h.1, h.2, begun_front (empties n p) (left_after n h.0 p) (left_after n h.0 q) q h.1 (begins_first (left_after n h.0 p) q h.1 h.3))

begun_next : (n : ℕ) (p q : Part) (ts us : List Lexeme) → ts ≡ us → IsTrue (empties n p) → IsBegun n q us → IsBegun n (p ⨟ q) ts
begun_next n p q ts us e z (inl h) = inl (e ∙ h)
begun_next n p q ts us e z (inr h) = inr (h.0, h.1, e ∙ h.2, begun_back (empties n p) z (left_after n h.0 p) (left_after n h.0 q) q h.1 h.3)

begun_later : (n : ℕ) (p q : Part) (ts us : List Lexeme) → IsCut n p ts us → Begins q us → (IsTrue (empties n p) → IsBegun n q us) → IsBegun n (p ⨟ q) ts
begun_later n p q ts us (inl h) b ih = begun_next n p q ts us h.0 h.1 (ih h.1)
begun_later n p q ts us (inr h) b ih = inr (h.0, h.1, h.2, begun_front (empties n p) (left_after n h.0 p) (left_after n h.0 q) q h.1 (begins_later (left_after n h.0 p) q h.1 us h.3 b))

begun_left : (n : ℕ) (p q : Part) (ts : List Lexeme) → IsBegun n p ts → IsBegun n (p ∣ q) ts
begun_left n p q ts (inl h) = inl h
begun_left n p q ts (inr h) = inr (h.0, h.1, h.2, begins_left (left_after n h.0 p) (left_after n h.0 q) h.1 h.3)

begun_right : (n : ℕ) (p q : Part) (ts : List Lexeme) → IsBegun n q ts → IsBegun n (p ∣ q) ts
begun_right n p q ts (inl h) = inl h
begun_right n p q ts (inr h) = inr (h.0, h.1, h.2, begins_right (left_after n h.0 p) (left_after n h.0 q) h.1 h.3)

begun_once : (n : ℕ) (p : Part) (ts : List Lexeme) → IsBegun n p ts → IsBegun n (many p) ts
begun_once n p ts (inl h) = inl h
begun_once n p ts (inr h) = inr (h.0, h.1, h.2, begins_first (left_after n h.0 p) (many p) h.1 h.3)

begun_again : (n : ℕ) (p : Part) (ts us : List Lexeme) → IsCut n p ts us → Begins (many p) us → IsBegun n (many p) us → IsBegun n (many p) ts
begun_again n p ts us (inl h) b (inl k) = inl (h.0 ∙ k)
begun_again n p ts us (inl h) b (inr k) = inr (k.0, k.1, h.0 ∙ k.2, k.3)
begun_again n p ts us (inr h) b k = inr (h.0, h.1, h.2, begins_later (left_after n h.0 p) (many p) h.1 us h.3 b)

begins_within : (o : Option Part) (ts : List Lexeme) → BeginsLeft o ts → BeginsLeft (within o) ts
begins_within None ts h = h
begins_within (Some p) ts h = deeper h

begun_inside : (n : ℕ) (p : Part) (ts : List Lexeme) → IsBegun n p ts → IsBegun n (inside p) ts
begun_inside n p ts (inl h) = inl h
begun_inside n p ts (inr h) = inr (h.0, h.1, h.2, begins_within (left_after n h.0 p) h.1 h.3)

pub begins_complete : (n : ℕ) {p : Part} {ts : List Lexeme} → Begins p ts → IsTrue (enough n p) → IsBegun n p ts
begins_complete n none e = inl refl
begins_complete n (of_kind {k = k} {t = t} h) e = inr (t, [], refl, begun_one t (is_kind k t) h)
begins_complete n (of_text {w = w} {t = t} h) e = inr (t, [], refl, begun_one t (reads w t) h)
begins_complete n (first {p = p} {q = q} {ts = ts} b) e = begun_first n p q ts (begins_complete n b (enough_first (empties n p) (enough n q) (enough n p) e))
begins_complete n (later {p = p} {q = q} {ts = ts} {us = us} d b) e =
    begun_later n p q ts us (takes_complete n d (enough_first (empties n p) (enough n q) (enough n p) e)) b
    (λ z. begins_complete n b (enough_next (empties n p) (enough n q) (enough n p) e z))
begins_complete n (left {p = p} {q = q} {ts = ts} b) e = begun_left n p q ts (begins_complete n b (and_true (enough n p) (enough n q) e).0)
begins_complete n (right {p = p} {q = q} {ts = ts} b) e = begun_right n p q ts (begins_complete n b (and_true (enough n p) (enough n q) e).1)
begins_complete n (present b) e = begins_complete n b e
begins_complete n (once {p = p} {ts = ts} b) e = begun_once n p ts (begins_complete n b e)
begins_complete n (again {p = p} {ts = ts} {us = us} d b) e = begun_again n p ts us (takes_complete n d e) b (begins_complete n b e)
begins_complete n (deeper {p = p} {ts = ts} b) e = begun_inside n p ts (begins_complete n b e)
begins_complete n (whole b) e = begins_complete n b e
begins_complete zero (by b) e = absurd (cc)
begins_complete (suc n) (by b) e = begins_complete n b e
