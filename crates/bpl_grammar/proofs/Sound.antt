-- What spells what is left after a token spells the part, with the token before it; beginnings likewise.
use Rattle.std.specs.Prelude.{◌≡◌, ℕ, zero, suc, Bool, true, false, ◌&&◌, ◌||◌, List, ◌∷◌, IsTrue, Option, Some, None, ◌⊎◌}
use Rattle.std.proofs.Common.{refl, inl, inr, ⊎_elim}
use Rattle.bpl_grammar.proofs.Booleans.{and_parts as and_true}
use Rattle.bpl_lex.specs.Token.{Kind}
use Rattle.bpl_grammar.specs.Lexeme.{Lexeme, is_kind, reads}
use Rattle.bpl_grammar.specs.Part.{Part, some, spelled, nothing, ◌⨟◌, ◌∣◌, maybe, many, inside, longest, Rule, rule}
use Rattle.bpl_grammar.specs.Grammar.{grammar}
use Rattle.bpl_grammar.specs.Spelling.{Takes, of_kind, of_text, empty, both, left, right, absent, present, no_more, again, deeper, whole, by, Begins, none, first, later, once}
use Rattle.bpl_grammar.specs.Derivative.{within, empties_with, empties_rule, either, onto, left_with, left_rule, left_after}

abbrev pub TakesLeft : Option Part → List Lexeme → List Lexeme → Type 0
TakesLeft None ts us = ⊥
TakesLeft (Some p) ts us = Takes p ts us

abbrev pub BeginsLeft : Option Part → List Lexeme → Type 0
BeginsLeft None ts = ⊥
BeginsLeft (Some p) ts = Begins p ts

pub or_true : (a b : Bool) → IsTrue (a || b) → IsTrue a ⊎ IsTrue b
or_true true b h = inl refl
or_true false b h = inr h

-- either and onto

pub either_takes : (a b : Option Part) (ts us : List Lexeme) → TakesLeft (either a b) ts us → TakesLeft a ts us ⊎ TakesLeft b ts us
either_takes None b ts us h = inr h
either_takes (Some p) None ts us h = inl h
either_takes (Some p) (Some q) ts us (left d) = inl d
either_takes (Some p) (Some q) ts us (right d) = inr d

pub onto_takes : (a : Option Part) (q : Part) (ts vs : List Lexeme) → TakesLeft (onto a q) ts vs → (us : List Lexeme) × TakesLeft a ts us × Takes q us vs
onto_takes None q ts vs h = absurd h
onto_takes (Some p) q ts vs (both {us = us} d k) = (us, d, k)

pub either_begins : (a b : Option Part) (ts : List Lexeme) → BeginsLeft (either a b) ts → BeginsLeft a ts ⊎ BeginsLeft b ts
either_begins None b ts h = inr h
either_begins (Some p) None ts h = inl h
either_begins (Some p) (Some q) ts none = inl none
either_begins (Some p) (Some q) ts (left d) = inl d
either_begins (Some p) (Some q) ts (right d) = inr d

pub onto_begins : (a : Option Part) (q : Part) (ts : List Lexeme) → BeginsLeft (onto a q) ts → BeginsLeft a ts ⊎ ((us : List Lexeme) × TakesLeft a ts us × Begins q us)
onto_begins None q ts h = absurd h
onto_begins (Some p) q ts none = inl none
onto_begins (Some p) q ts (first b) = inl b
onto_begins (Some p) q ts (later {us = us} d b) = inr (us, d, b)

pub within_takes : (o : Option Part) (ts us : List Lexeme) → TakesLeft (within o) ts us → TakesLeft o ts us
within_takes None ts us h = h
within_takes (Some p) ts us (deeper d) = d

pub within_begins : (o : Option Part) (ts : List Lexeme) → BeginsLeft (within o) ts → BeginsLeft o ts
within_begins None ts h = h
within_begins (Some p) ts none = none
within_begins (Some p) ts (deeper b) = b

-- no tokens spell it

pub empty_sound : (f : Rule → Bool) → ((r : Rule) → IsTrue (f r) → (ts : List Lexeme) → Takes (rule r) ts ts)
    → (p : Part) → IsTrue (empties_with f p) → (ts : List Lexeme) → Takes p ts ts
empty_sound f hf (some k) h ts = absurd (cc)
empty_sound f hf (spelled w) h ts = absurd (cc)
empty_sound f hf nothing h ts = empty
empty_sound f hf (p ⨟ q) h ts = both (empty_sound f hf p (and_true _ _ h).0 ts) (empty_sound f hf q (and_true (empties_with f p) _ h).1 ts)
empty_sound f hf (p ∣ q) h ts = ⊎_elim (λ x. left (empty_sound f hf p x ts)) (λ x. right (empty_sound f hf q x ts)) (or_true _ _ h)
empty_sound f hf (maybe p) h ts = absent
empty_sound f hf (many p) h ts = no_more
empty_sound f hf (inside p) h ts = deeper (empty_sound f hf p h ts)
empty_sound f hf (longest p) h ts = whole (empty_sound f hf p h ts)
empty_sound f hf (rule r) h ts = hf r h ts

pub empty_rule_sound : (n : ℕ) (r : Rule) → IsTrue (empties_rule n r) → (ts : List Lexeme) → Takes (rule r) ts ts
empty_rule_sound zero r h ts = absurd (cc)
empty_rule_sound (suc n) r h ts = by (empty_sound (empties_rule n) (empty_rule_sound n) (grammar r) h ts)

-- a token that the part begins with, and the rest

taken_first : (k : Kind) (t : Lexeme) (b : Bool) → is_kind k t ≡ b → (ts us : List Lexeme) → TakesLeft (elim b [ true ↦ Some nothing | false ↦ None ]) ts us → Takes (some k) (t ∷ ts) us
taken_first k t true h ts us empty = of_kind h
taken_first k t false h ts us d = absurd d

text_first : (w : List ℕ) (t : Lexeme) (b : Bool) → reads w t ≡ b → (ts us : List Lexeme) → TakesLeft (elim b [ true ↦ Some nothing | false ↦ None ]) ts us → Takes (spelled w) (t ∷ ts) us
text_first w t true h ts us empty = of_text h
text_first w t false h ts us d = absurd d

in_order_sound : (p q : Part) (t : Lexeme) (b : Bool) (l m : Option Part) (ts us : List Lexeme)
    → (IsTrue b → Takes p (t ∷ ts) (t ∷ ts)) → ((vs : List Lexeme) → TakesLeft l ts vs → Takes p (t ∷ ts) vs) → (TakesLeft m ts us → Takes q (t ∷ ts) us)
    → TakesLeft (elim b [ true ↦ either (onto l q) m | false ↦ onto l q ]) ts us → Takes (p ⨟ q) (t ∷ ts) us
in_order_sound p q t true l m ts us e hp hq h = ⊎_elim
    (λ k. let o = onto_takes l q ts us k in both (hp o.0 o.1) o.2)
    (λ d. both (e refl) (hq d))
    (either_takes (onto l q) m ts us h)
in_order_sound p q t false l m ts us e hp hq h = let o = onto_takes l q ts us h in both (hp o.0 o.1) o.2

module _ (f : Rule → Bool) (hf : (r : Rule) → IsTrue (f r) → (ts : List Lexeme) → Takes (rule r) ts ts)
    (t : Lexeme) (g : Rule → Option Part) (hg : (r : Rule) (ts us : List Lexeme) → TakesLeft (g r) ts us → Takes (rule r) (t ∷ ts) us) where
  pub left_sound : (p : Part) (ts us : List Lexeme) → TakesLeft (left_with f g t p) ts us → Takes p (t ∷ ts) us
  left_sound (some k) ts us h = taken_first k t (is_kind k t) refl ts us h
  left_sound (spelled w) ts us h = text_first w t (reads w t) refl ts us h
  left_sound nothing ts us h = absurd h
  left_sound (p ⨟ q) ts us h = in_order_sound p q t (empties_with f p) (left_with f g t p) (left_with f g t q) ts us
      (λ e. empty_sound f hf p e (t ∷ ts)) (λ vs. left_sound p ts vs) (left_sound q ts us) h
  left_sound (p ∣ q) ts us h = ⊎_elim (λ d. left (left_sound p ts us d)) (λ d. right (left_sound q ts us d)) (either_takes (left_with f g t p) (left_with f g t q) ts us h)
  left_sound (maybe p) ts us h = present (left_sound p ts us h)
  left_sound (many p) ts us h = let o = onto_takes (left_with f g t p) (many p) ts us h in again (left_sound p ts o.0 o.1) o.2
  left_sound (inside p) ts us h = deeper (left_sound p ts us (within_takes (left_with f g t p) ts us h))
  left_sound (longest p) ts us h = whole (left_sound p ts us h)
  left_sound (rule r) ts us h = hg r ts us h

pub left_rule_sound : (n : ℕ) (t : Lexeme) (r : Rule) (ts us : List Lexeme) → TakesLeft (left_rule n t r) ts us → Takes (rule r) (t ∷ ts) us
left_rule_sound zero t r ts us h = absurd h
left_rule_sound (suc n) t r ts us h = by (left_sound (empties_rule n) (empty_rule_sound n) t (left_rule n t) (left_rule_sound n t) (grammar r) ts us h)

-- what spells what is left spells the part with the token before it
pub takes_sound : (n : ℕ) (t : Lexeme) (p : Part) (ts us : List Lexeme) → TakesLeft (left_after n t p) ts us → Takes p (t ∷ ts) us
takes_sound n t p ts us h = left_sound (empties_rule n) (empty_rule_sound n) t (left_rule n t) (left_rule_sound n t) p ts us h

-- the same of beginnings

kind_begins : (k : Kind) (t : Lexeme) (b : Bool) → is_kind k t ≡ b → (ts : List Lexeme) → BeginsLeft (elim b [ true ↦ Some nothing | false ↦ None ]) ts → Begins (some k) (t ∷ ts)
kind_begins k t true h ts none = of_kind h
kind_begins k t false h ts d = absurd d

text_begins : (w : List ℕ) (t : Lexeme) (b : Bool) → reads w t ≡ b → (ts : List Lexeme) → BeginsLeft (elim b [ true ↦ Some nothing | false ↦ None ]) ts → Begins (spelled w) (t ∷ ts)
text_begins w t true h ts none = of_text h
text_begins w t false h ts d = absurd d

in_order_begins : (p q : Part) (t : Lexeme) (b : Bool) (l m : Option Part) (ts : List Lexeme)
    → (IsTrue b → Takes p (t ∷ ts) (t ∷ ts)) → ((vs : List Lexeme) → TakesLeft l ts vs → Takes p (t ∷ ts) vs)
    → (BeginsLeft l ts → Begins p (t ∷ ts)) → (BeginsLeft m ts → Begins q (t ∷ ts))
    → BeginsLeft (elim b [ true ↦ either (onto l q) m | false ↦ onto l q ]) ts → Begins (p ⨟ q) (t ∷ ts)
in_order_begins p q t true l m ts e ht hp hq h = ⊎_elim
    (λ k. ⊎_elim (λ b. first (hp b)) (λ o. later (ht o.0 o.1) o.2) (onto_begins l q ts k))
    (λ d. later (e refl) (hq d))
    (either_begins (onto l q) m ts h)
in_order_begins p q t false l m ts e ht hp hq h = ⊎_elim (λ b. first (hp b)) (λ o. later (ht o.0 o.1) o.2) (onto_begins l q ts h)

module _ (f : Rule → Bool) (hf : (r : Rule) → IsTrue (f r) → (ts : List Lexeme) → Takes (rule r) ts ts)
    (t : Lexeme) (g : Rule → Option Part) (hg : (r : Rule) (ts us : List Lexeme) → TakesLeft (g r) ts us → Takes (rule r) (t ∷ ts) us)
    (hb : (r : Rule) (ts : List Lexeme) → BeginsLeft (g r) ts → Begins (rule r) (t ∷ ts)) where
  pub begun_sound : (p : Part) (ts : List Lexeme) → BeginsLeft (left_with f g t p) ts → Begins p (t ∷ ts)
  begun_sound (some k) ts h = kind_begins k t (is_kind k t) refl ts h
  begun_sound (spelled w) ts h = text_begins w t (reads w t) refl ts h
  begun_sound nothing ts h = absurd h
  begun_sound (p ⨟ q) ts h = in_order_begins p q t (empties_with f p) (left_with f g t p) (left_with f g t q) ts
      (λ e. empty_sound f hf p e (t ∷ ts)) (λ vs. left_sound f hf t g hg p ts vs) (begun_sound p ts) (begun_sound q ts) h
  begun_sound (p ∣ q) ts h = ⊎_elim (λ d. left (begun_sound p ts d)) (λ d. right (begun_sound q ts d)) (either_begins (left_with f g t p) (left_with f g t q) ts h)
  begun_sound (maybe p) ts h = present (begun_sound p ts h)
  begun_sound (many p) ts h = ⊎_elim (λ b. once (begun_sound p ts b)) (λ o. again (left_sound f hf t g hg p ts o.0 o.1) o.2) (onto_begins (left_with f g t p) (many p) ts h)
  begun_sound (inside p) ts h = deeper (begun_sound p ts (within_begins (left_with f g t p) ts h))
  begun_sound (longest p) ts h = whole (begun_sound p ts h)
  begun_sound (rule r) ts h = hb r ts h

pub begun_rule_sound : (n : ℕ) (t : Lexeme) (r : Rule) (ts : List Lexeme) → BeginsLeft (left_rule n t r) ts → Begins (rule r) (t ∷ ts)
begun_rule_sound zero t r ts h = absurd h
begun_rule_sound (suc n) t r ts h = by (begun_sound (empties_rule n) (empty_rule_sound n) t (left_rule n t) (left_rule_sound n t) (begun_rule_sound n t) (grammar r) ts h)

pub begins_sound : (n : ℕ) (t : Lexeme) (p : Part) (ts : List Lexeme) → BeginsLeft (left_after n t p) ts → Begins p (t ∷ ts)
begins_sound n t p ts h = begun_sound (empties_rule n) (empty_rule_sound n) t (left_rule n t) (left_rule_sound n t) (begun_rule_sound n t) p ts h
