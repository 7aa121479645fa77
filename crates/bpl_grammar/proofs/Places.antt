-- What becomes of lexemes doesn't depend on their places.
use Rattle.std.specs.Prelude.{◌≡◌, ℕ, zero, suc, Bool, true, false, List, [], ◌∷◌, length, Option, Some, None, option_map}
use Rattle.std.proofs.Common.{refl, ap, ◌∙◌}
use Rattle.bpl_lex.specs.Token.{Kind, Token}
use Rattle.bpl_grammar.specs.Lexeme.{Lexeme, same_kind, is_kind, reads, lexemes}
use Rattle.bpl_grammar.specs.Part.{Part, some, spelled, nothing, ◌⨟◌, ◌∣◌, maybe, many, inside, longest, Rule, rule}
use Rattle.bpl_grammar.specs.Grammar.{grammar}
use Rattle.bpl_grammar.specs.Derivative.{empties_with, empties_rule, either, onto, within, left_with, left_rule, left_of}
use Rattle.bpl_grammar.specs.Depth.{most, depth_with, depth_rule, depth_of}
use Rattle.bpl_grammar.specs.Judge.{Mark, Fate, fine, fails, going, too_deep, too_wide, judge}

-- the mark of a fault, and how many lexemes there are from it on
abbrev pub reach : Fate → Option (Mark × ℕ)
reach fine = None
reach (fails m us) = Some (m, length us)

-- of one kind and one spelling
pub record LookAlike (t u : Lexeme) : Type 0 where
  pub kinds : t.kind ≡ u.kind
  pub texts : t.spelling ≡ u.spelling

one_left : {b c : Bool} → b ≡ c → ◌≡◌ {A = Option Part} (elim b [ true ↦ Some nothing | false ↦ None ]) (elim c [ true ↦ Some nothing | false ↦ None ])
one_left e = rw e refl

one_depth : {b c : Bool} → b ≡ c → ◌≡◌ {A = Option ℕ} (elim b [ true ↦ Some 0 | false ↦ None ]) (elim c [ true ↦ Some 0 | false ↦ None ])
one_depth e = rw e refl

order_left : {l m x y : Option Part} (b : Bool) (q : Part) → l ≡ x → m ≡ y → ◌≡◌ {A = Option Part} (elim b [ true ↦ either (onto l q) m | false ↦ onto l q ]) (elim b [ true ↦ either (onto x q) y | false ↦ onto x q ])
order_left true q e f = λ i. either (onto (e i) q) (f i)
order_left false q e f = ap (λ o. onto o q) e

order_depth : {l m x y : Option ℕ} (b : Bool) → l ≡ x → m ≡ y → ◌≡◌ {A = Option ℕ} (elim b [ true ↦ most l m | false ↦ l ]) (elim b [ true ↦ most x y | false ↦ x ])
order_depth true e f = λ i. most (e i) (f i)
order_depth false e f = e

module _ (t u : Lexeme) (a : LookAlike t u) where
  same_is : (k : Kind) → is_kind k t ≡ is_kind k u
  same_is k = ap (same_kind k) a.kinds

  same_reads : (w : List ℕ) → reads w t ≡ reads w u
  same_reads w = rw (a.kinds, a.texts) refl

  same_wide : too_wide t ≡ too_wide u
  same_wide = rw (a.kinds, a.texts) refl

  module _ (f : Rule → Bool) (g h : Rule → Option Part) (same : (r : Rule) → g r ≡ h r) where
    same_left : (p : Part) → left_with f g t p ≡ left_with f h u p
    same_left (some k) = one_left (same_is k)
    same_left (spelled w) = one_left (same_reads w)
    same_left nothing = refl
    same_left (p ⨟ q) = order_left (empties_with f p) q (same_left p) (same_left q)
    same_left (p ∣ q) = λ i. either (same_left p i) (same_left q i)
    same_left (maybe p) = same_left p
    same_left (many p) = ap (λ o. onto o (many p)) (same_left p)
    same_left (inside p) = ap within (same_left p)
    same_left (longest p) = same_left p
    same_left (rule r) = same r

  left_rules : (n : ℕ) (r : Rule) → left_rule n t r ≡ left_rule n u r
  left_rules zero r = refl
  left_rules (suc n) r = same_left (empties_rule n) (left_rule n t) (left_rule n u) (left_rules n) (grammar r)

  left_same : (p : Part) → left_of t p ≡ left_of u p
  left_same p = same_left (empties_rule 12) (left_rule 12 t) (left_rule 12 u) (left_rules 12) p

  module _ (f : Rule → Bool) (g h : Rule → Option ℕ) (same : (r : Rule) → g r ≡ h r) where
    same_depth : (p : Part) → depth_with f g t p ≡ depth_with f h u p
    same_depth (some k) = one_depth (same_is k)
    same_depth (spelled w) = one_depth (same_reads w)
    same_depth nothing = refl
    same_depth (p ⨟ q) = order_depth (empties_with f p) (same_depth p) (same_depth q)
    same_depth (p ∣ q) = λ i. most (same_depth p i) (same_depth q i)
    same_depth (maybe p) = same_depth p
    same_depth (many p) = same_depth p
    same_depth (inside p) = ap (option_map suc) (same_depth p)
    same_depth (longest p) = same_depth p
    same_depth (rule r) = same r

  depth_rules : (n : ℕ) (r : Rule) → depth_rule n t r ≡ depth_rule n u r
  depth_rules zero r = refl
  depth_rules (suc n) r = same_depth (empties_rule n) (depth_rule n t) (depth_rule n u) (depth_rules n) (grammar r)

  depth_same : (p : Part) → depth_of t p ≡ depth_of u p
  depth_same p = same_depth (empties_rule 12) (depth_rule 12 t) (depth_rule 12 u) (depth_rules 12) p

-- lexemes that look alike, one by one
pub data AllAlike : List Lexeme → List Lexeme → Type 0 where
  none : AllAlike [] []
  more : {t u : Lexeme} {ts us : List Lexeme} → LookAlike t u → AllAlike ts us → AllAlike (t ∷ ts) (u ∷ us)

same_length : {ts us : List Lexeme} → AllAlike ts us → length ts ≡ length us
same_length none = refl
same_length (more a b) = ap suc (same_length b)

same_going : (o : Option Part) (d w : Bool) (ts us : List Lexeme) (xs ys : List Lexeme) → ((q : Part) → reach (judge q ts) ≡ reach (judge q us)) → length xs ≡ length ys
    → reach (going o d w (λ q. judge q ts) xs) ≡ reach (going o d w (λ q. judge q us) ys)
same_going None d w ts us xs ys ih e = rw e refl
same_going (Some q) true w ts us xs ys ih e = rw e refl
same_going (Some q) false true ts us xs ys ih e = rw e refl
same_going (Some q) false false ts us xs ys ih e = ih q

pub reach_same : {ts us : List Lexeme} → AllAlike ts us → (p : Part) → reach (judge p ts) ≡ reach (judge p us)
reach_same none p = refl
reach_same (more {t = t} {u = u} {ts = ts} {us = us} a b) p =
    ap (λ o. reach (going o (too_deep (depth_of t p)) (too_wide t) (λ q. judge q ts) (t ∷ ts))) (left_same t u a p)
    ∙ (ap (λ d. reach (going (left_of u p) (too_deep d) (too_wide t) (λ q. judge q ts) (t ∷ ts))) (depth_same t u a p)
    ∙ (ap (λ w. reach (going (left_of u p) (too_deep (depth_of u p)) w (λ q. judge q ts) (t ∷ ts))) (same_wide t u a)
    ∙ same_going (left_of u p) (too_deep (depth_of u p)) (too_wide u) ts us (t ∷ ts) (u ∷ us) (reach_same b) (ap suc (same_length b))))

-- the lexemes of the same tokens, wherever places count from
pub moved : (bytes : List ℕ) (a b : ℕ) (ts : List Token) → AllAlike (lexemes bytes a ts) (lexemes bytes b ts)
moved bytes a b [] = none
moved bytes a b (t ∷ ts) = more (record { kinds = refl; texts = refl }) (moved bytes a b ts)
