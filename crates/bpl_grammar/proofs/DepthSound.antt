-- A token can lie as deep as is computed.
use Rattle.std.specs.Prelude.{◌≡◌, ℕ, zero, suc, max, Bool, true, false, List, [], ◌∷◌, IsTrue, Option, Some, None, option_map, ◌⊎◌}
use Rattle.std.proofs.Common.{refl, inl, inr, ⊎_elim, sym, ap, ◌∙◌, arith}
use Rattle.bpl_lex.specs.Token.{Kind}
use Rattle.bpl_grammar.specs.Lexeme.{Lexeme, is_kind, reads}
use Rattle.bpl_grammar.specs.Part.{Part, some, spelled, nothing, ◌⨟◌, ◌∣◌, maybe, many, inside, longest, Rule, rule}
use Rattle.bpl_grammar.specs.Grammar.{grammar}
use Rattle.bpl_grammar.specs.Spelling.{Takes}
use Rattle.bpl_grammar.specs.Nesting.{Lies, of_kind, of_text, first, later, left, right, present, once, deeper, whole, by}
use Rattle.bpl_grammar.specs.Derivative.{empties_with, empties_rule}
use Rattle.bpl_grammar.specs.Depth.{most, depth_with, depth_rule, depth_of}
use Rattle.bpl_grammar.proofs.Sound.{empty_sound, empty_rule_sound}

most_either : (a b : Option ℕ) (m : ℕ) → most a b ≡ Some m → (a ≡ Some m) ⊎ (b ≡ Some m)
most_either None b m h = inr h
most_either (Some j) None m h = inl h
most_either (Some j) (Some k) m h = larger (max_is j k)
  where
    larger : (max j k ≡ j) ⊎ (max j k ≡ k) → (Some j ≡ Some m) ⊎ (Some k ≡ Some m)
    larger (inl e) = inl (ap Some (sym e) ∙ h)
    larger (inr e) = inr (ap Some (sym e) ∙ h)

    max_is : (x y : ℕ) → (max x y ≡ x) ⊎ (max x y ≡ y)
    max_is x y = grind arith

one_lies : (k : Kind) (t : Lexeme) (b : Bool) (m : ℕ) → is_kind k t ≡ b → ◌≡◌ {A = Option ℕ} (elim b [ true ↦ Some 0 | false ↦ None ]) (Some m) → Lies (some k) (t ∷ []) m
one_lies k t true m e h =
    let zero_is : 0 ≡ m = cc in
    rw (← zero_is) (of_kind e)
one_lies k t false m e h = absurd (cc)

text_lies : (w : List ℕ) (t : Lexeme) (b : Bool) (m : ℕ) → reads w t ≡ b → ◌≡◌ {A = Option ℕ} (elim b [ true ↦ Some 0 | false ↦ None ]) (Some m) → Lies (spelled w) (t ∷ []) m
text_lies w t true m e h =
    let zero_is : 0 ≡ m = cc in
    rw (← zero_is) (of_text e)
text_lies w t false m e h = absurd (cc)

order_lies : (p q : Part) (t : Lexeme) (b : Bool) (l r : Option ℕ) (m : ℕ) → (IsTrue b → Takes p (t ∷ []) (t ∷ [])) → (l ≡ Some m → Lies p (t ∷ []) m) → (r ≡ Some m → Lies q (t ∷ []) m)
    → ◌≡◌ {A = Option ℕ} (elim b [ true ↦ most l r | false ↦ l ]) (Some m) → Lies (p ⨟ q) (t ∷ []) m
order_lies p q t true l r m e hp hq h = ⊎_elim (λ x. first (hp x)) (λ x. later (e refl) (hq x)) (most_either l r m h)
order_lies p q t false l r m e hp hq h = first (hp h)

suc_lies : (p : Part) (t : Lexeme) (o : Option ℕ) (m : ℕ) → ((n : ℕ) → o ≡ Some n → Lies p (t ∷ []) n) → option_map suc o ≡ Some m → Lies (inside p) (t ∷ []) m
suc_lies p t None m hp h = absurd (cc)
suc_lies p t (Some n) m hp h =
    let same : suc n ≡ m = cc in
    rw (← same) (deeper (hp n refl))

module _ (f : Rule → Bool) (hf : (r : Rule) → IsTrue (f r) → (ts : List Lexeme) → Takes (rule r) ts ts)
    (t : Lexeme) (g : Rule → Option ℕ) (hg : (r : Rule) (m : ℕ) → g r ≡ Some m → Lies (rule r) (t ∷ []) m) where
  pub depth_sound : (p : Part) (m : ℕ) → depth_with f g t p ≡ Some m → Lies p (t ∷ []) m
  depth_sound (some k) m h = one_lies k t (is_kind k t) m refl h
  depth_sound (spelled w) m h = text_lies w t (reads w t) m refl h
  depth_sound nothing m h = absurd (cc)
  depth_sound (p ⨟ q) m h = order_lies p q t (empties_with f p) (depth_with f g t p) (depth_with f g t q) m (λ e. empty_sound f hf p e (t ∷ [])) (depth_sound p m) (depth_sound q m) h
  depth_sound (p ∣ q) m h = ⊎_elim (λ x. left (depth_sound p m x)) (λ x. right (depth_sound q m x)) (most_either (depth_with f g t p) (depth_with f g t q) m h)
  depth_sound (maybe p) m h = present (depth_sound p m h)
  depth_sound (many p) m h = once (depth_sound p m h)
  depth_sound (inside p) m h = suc_lies p t (depth_with f g t p) m (depth_sound p) h
  depth_sound (longest p) m h = whole (depth_sound p m h)
  depth_sound (rule r) m h = hg r m h

pub depth_rule_sound : (n : ℕ) (t : Lexeme) (r : Rule) (m : ℕ) → depth_rule n t r ≡ Some m → Lies (rule r) (t ∷ []) m
depth_rule_sound zero t r m h = absurd (cc)
depth_rule_sound (suc n) t r m h = by (depth_sound (empties_rule n) (empty_rule_sound n) t (depth_rule n t) (depth_rule_sound n t) (grammar r) m h)

pub depth_lies : (t : Lexeme) (p : Part) (m : ℕ) → depth_of t p ≡ Some m → Lies p (t ∷ []) m
depth_lies t p m h = depth_sound (empties_rule 12) (empty_rule_sound 12) t (depth_rule 12 t) (depth_rule_sound 12 t) p m h
