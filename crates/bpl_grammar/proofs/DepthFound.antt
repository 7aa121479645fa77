-- How deep the last of some tokens can lie is computed, token by token.
use Rattle.std.specs.Prelude.{◌≡◌, ℕ, zero, suc, Bool, true, false, List, [], ◌∷◌, IsTrue, Option, Some, None, ◌⊎◌}
use Rattle.std.proofs.Common.{refl, inl, inr, ⊎_elim}
use Rattle.bpl_grammar.specs.Lexeme.{Lexeme, is_kind, reads}
use Rattle.bpl_grammar.specs.Part.{Part, some, spelled, nothing, ◌⨟◌, ◌∣◌, maybe, many, inside, longest, Rule, rule}
use Rattle.bpl_grammar.specs.Grammar.{grammar}
use Rattle.bpl_grammar.specs.Spelling.{Takes}
use Rattle.bpl_grammar.specs.Nesting.{Lies, first, later, left, right, present, once, again, deeper, whole, by}
use Rattle.bpl_grammar.specs.Derivative.{empties_with, empties_rule, either, onto, within, left_with, left_rule, left_of}
use Rattle.bpl_grammar.specs.Depth.{deepest}
use Rattle.bpl_grammar.proofs.Sound.{TakesLeft, empty_sound, empty_rule_sound, left_sound, left_rule_sound}
use Rattle.bpl_grammar.proofs.DepthSound.{depth_lies}

abbrev pub LiesLeft : Option Part → List Lexeme → ℕ → Type 0
LiesLeft None ts n = ⊥
LiesLeft (Some p) ts n = Lies p ts n

-- from what is left to the part

either_lies : (a b : Option Part) (ts : List Lexeme) (n : ℕ) → LiesLeft (either a b) ts n → LiesLeft a ts n ⊎ LiesLeft b ts n
either_lies None b ts n h = inr h
either_lies (Some p) None ts n h = inl h
either_lies (Some p) (Some q) ts n (left h) = inl h
either_lies (Some p) (Some q) ts n (right h) = inr h

onto_lies : (a : Option Part) (q : Part) (ts : List Lexeme) (n : ℕ) → LiesLeft (onto a q) ts n → LiesLeft a ts n ⊎ ((us : List Lexeme) × TakesLeft a ts us × Lies q us n)
onto_lies None q ts n h = absurd h
onto_lies (Some p) q ts n (first h) = inl h
onto_lies (Some p) q ts n (later {us = us} d h) = inr (us, d, h)

within_lies : (p : Part) (o : Option Part) (t : Lexeme) (ts : List Lexeme) (n : ℕ) → ((m : ℕ) → LiesLeft o ts m → Lies p (t ∷ ts) m) → LiesLeft (within o) ts n → Lies (inside p) (t ∷ ts) n
within_lies p None t ts n f h = absurd h
within_lies p (Some q) t ts n f (deeper {n = m} h) = deeper (f m h)

nowhere : (ts : List Lexeme) (n : ℕ) → Lies nothing ts n → ⊥
nowhere ts n h = elim h [ ]

after_one : (b : Bool) (ts : List Lexeme) (n : ℕ) → LiesLeft (elim b [ true ↦ Some nothing | false ↦ None ]) ts n → ⊥
after_one true ts n h = nowhere ts n h
after_one false ts n h = h

order_laid : (p q : Part) (t : Lexeme) (b : Bool) (l m : Option Part) (ts : List Lexeme) (n : ℕ)
    → (IsTrue b → Takes p (t ∷ ts) (t ∷ ts)) → ((us : List Lexeme) → TakesLeft l ts us → Takes p (t ∷ ts) us)
    → (LiesLeft l ts n → Lies p (t ∷ ts) n) → (LiesLeft m ts n → Lies q (t ∷ ts) n)
    → LiesLeft (elim b [ true ↦ either (onto l q) m | false ↦ onto l q ]) ts n → Lies (p ⨟ q) (t ∷ ts) n
order_laid p q t true l m ts n e ht hp hq h = ⊎_elim
    (λ k. ⊎_elim (λ x. first (hp x)) (λ o. later (ht o.0 o.1) o.2) (onto_lies l q ts n k))
    (λ x. later (e refl) (hq x))
    (either_lies (onto l q) m ts n h)
order_laid p q t false l m ts n e ht hp hq h = ⊎_elim (λ x. first (hp x)) (λ o. later (ht o.0 o.1) o.2) (onto_lies l q ts n h)

module _ (f : Rule → Bool) (hf : (r : Rule) → IsTrue (f r) → (ts : List Lexeme) → Takes (rule r) ts ts)
    (t : Lexeme) (g : Rule → Option Part) (hg : (r : Rule) (ts us : List Lexeme) → TakesLeft (g r) ts us → Takes (rule r) (t ∷ ts) us)
    (hl : (r : Rule) (ts : List Lexeme) (n : ℕ) → LiesLeft (g r) ts n → Lies (rule r) (t ∷ ts) n) where
  pub laid_sound : (p : Part) (ts : List Lexeme) (n : ℕ) → LiesLeft (left_with f g t p) ts n → Lies p (t ∷ ts) n
  laid_sound (some k) ts n h = absurd (after_one (is_kind k t) ts n h)
  laid_sound (spelled w) ts n h = absurd (after_one (reads w t) ts n h)
  laid_sound nothing ts n h = absurd h
  laid_sound (p ⨟ q) ts n h = order_laid p q t (empties_with f p) (left_with f g t p) (left_with f g t q) ts n
      (λ e. empty_sound f hf p e (t ∷ ts)) (λ us. left_sound f hf t g hg p ts us) (laid_sound p ts n) (laid_sound q ts n) h
  laid_sound (p ∣ q) ts n h = ⊎_elim (λ x. left (laid_sound p ts n x)) (λ x. right (laid_sound q ts n x)) (either_lies (left_with f g t p) (left_with f g t q) ts n h)
  laid_sound (maybe p) ts n h = present (laid_sound p ts n h)
  laid_sound (many p) ts n h = ⊎_elim (λ x. once (laid_sound p ts n x)) (λ o. again (left_sound f hf t g hg p ts o.0 o.1) o.2) (onto_lies (left_with f g t p) (many p) ts n h)
  laid_sound (inside p) ts n h = within_lies p (left_with f g t p) t ts n (λ m. laid_sound p ts m) h
  laid_sound (longest p) ts n h = whole (laid_sound p ts n h)
  laid_sound (rule r) ts n h = hl r ts n h

laid_rule : (k : ℕ) (t : Lexeme) (r : Rule) (ts : List Lexeme) (n : ℕ) → LiesLeft (left_rule k t r) ts n → Lies (rule r) (t ∷ ts) n
laid_rule zero t r ts n h = absurd h
laid_rule (suc k) t r ts n h = by (laid_sound (empties_rule k) (empty_rule_sound k) t (left_rule k t) (left_rule_sound k t) (laid_rule k t) (grammar r) ts n h)

pub left_lies : (t : Lexeme) (p : Part) (ts : List Lexeme) (n : ℕ) → LiesLeft (left_of t p) ts n → Lies p (t ∷ ts) n
left_lies t p ts n h = laid_sound (empties_rule 12) (empty_rule_sound 12) t (left_rule 12 t) (left_rule_sound 12 t) (laid_rule 12 t) p ts n h

lies_next : (o : Option Part) (ts : List Lexeme) (n : ℕ) → ((q : Part) → deepest ts q ≡ Some n → Lies q ts n) → ◌≡◌ {A = Option ℕ} (elim o [ Some q ↦ deepest ts q | None ↦ None ]) (Some n) → LiesLeft o ts n
lies_next None ts n ih h = absurd (cc)
lies_next (Some q) ts n ih h = ih q h

-- the last of the tokens can lie as deep as is computed
pub deepest_lies : (ts : List Lexeme) (p : Part) (n : ℕ) → deepest ts p ≡ Some n → Lies p ts n
deepest_lies [] p n h = absurd (cc)
deepest_lies (t ∷ []) p n h = depth_lies t p n h
deepest_lies (t ∷ u ∷ ts) p n h = left_lies t p (u ∷ ts) n (lies_next (left_of t p) (u ∷ ts) n (λ q. deepest_lies (u ∷ ts) q n) h)
