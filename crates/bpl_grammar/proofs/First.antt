-- The first token of a part: what is left after it, how deep it lies, and what it spells.
use Rattle.std.specs.Prelude.{◌≡◌, ℕ, zero, suc, Bool, true, false, ◌||◌, List, [], ◌∷◌, IsTrue, Option, Some, None, option_map, ◌⊎◌}
use Rattle.std.proofs.Common.{refl, inl, inr, sym, ◌∙◌}
use Rattle.bpl_grammar.proofs.Booleans.{or_same}
use Rattle.bpl_grammar.specs.Lexeme.{Lexeme, is_kind, reads}
use Rattle.bpl_grammar.specs.Part.{Part, some, spelled, nothing, ◌⨟◌, ◌∣◌, maybe, many, inside, longest, Rule, rule}
use Rattle.bpl_grammar.specs.Grammar.{grammar}
use Rattle.bpl_grammar.specs.Spelling.{Takes, Spells}
use Rattle.bpl_grammar.specs.Nesting.{Lies}
use Rattle.bpl_grammar.specs.Derivative.{empties, empties_with, empties_rule, either, onto, within, left_with, left_rule, left_of}
use Rattle.bpl_grammar.specs.Depth.{most, depth_with, depth_rule, depth_of}
use Rattle.bpl_grammar.specs.Reads.{is_there, starts}
use Rattle.bpl_grammar.proofs.Sound.{TakesLeft, takes_sound}
use Rattle.bpl_grammar.proofs.Complete.{IsCut, takes_complete}
use Rattle.bpl_grammar.proofs.Decide.{always, cut_cons}
use Rattle.bpl_grammar.proofs.DepthFound.{LiesLeft}
use Rattle.bpl_grammar.proofs.DepthMost.{IsLaid, Reaches, lies_complete, lies_nowhere, laid_more, reach_one}

-- what is left and how deep the token lies are there together

pub either_there : (a b : Option Part) → is_there (either a b) ≡ (is_there a || is_there b)
either_there None b = refl
either_there (Some p) None = refl
either_there (Some p) (Some q) = refl

pub onto_there : (a : Option Part) (q : Part) → is_there (onto a q) ≡ is_there a
onto_there None q = refl
onto_there (Some p) q = refl

pub within_there : (a : Option Part) → is_there (within a) ≡ is_there a
within_there None = refl
within_there (Some p) = refl

most_there : (a b : Option ℕ) → is_there (most a b) ≡ (is_there a || is_there b)
most_there None b = refl
most_there (Some m) None = refl
most_there (Some m) (Some n) = refl

suc_there : (a : Option ℕ) → is_there (option_map suc a) ≡ is_there a
suc_there None = refl
suc_there (Some n) = refl

token_there : (b : Bool) → is_there {A = Part} (elim b [ true ↦ Some nothing | false ↦ None ]) ≡ is_there {A = ℕ} (elim b [ true ↦ Some 0 | false ↦ None ])
token_there true = refl
token_there false = refl

order_there : (b : Bool) (l m : Option Part) (q : Part) (x y : Option ℕ) → is_there l ≡ is_there x → is_there m ≡ is_there y
    → is_there {A = Part} (elim b [ true ↦ either (onto l q) m | false ↦ onto l q ]) ≡ is_there {A = ℕ} (elim b [ true ↦ most x y | false ↦ x ])
order_there true l m q x y e f = either_there (onto l q) m ∙ (or_same (is_there (onto l q)) (is_there m) (is_there x) (is_there y) (onto_there l q ∙ e) f ∙ sym (most_there x y))
order_there false l m q x y e f = onto_there l q ∙ e

module _ (f : Rule → Bool) (g : Rule → Option Part) (h : Rule → Option ℕ) (t : Lexeme) (same : (r : Rule) → is_there (g r) ≡ is_there (h r)) where
  pub both_there : (p : Part) → is_there (left_with f g t p) ≡ is_there (depth_with f h t p)
  both_there (some k) = token_there (is_kind k t)
  both_there (spelled w) = token_there (reads w t)
  both_there nothing = refl
  both_there (p ⨟ q) = order_there (empties_with f p) (left_with f g t p) (left_with f g t q) q (depth_with f h t p) (depth_with f h t q) (both_there p) (both_there q)
  both_there (p ∣ q) = either_there (left_with f g t p) (left_with f g t q)
      ∙ (or_same (is_there (left_with f g t p)) (is_there (left_with f g t q)) (is_there (depth_with f h t p)) (is_there (depth_with f h t q)) (both_there p) (both_there q) ∙ sym (most_there (depth_with f h t p) (depth_with f h t q)))
  both_there (maybe p) = both_there p
  both_there (many p) = onto_there (left_with f g t p) (many p) ∙ both_there p
  both_there (inside p) = within_there (left_with f g t p) ∙ (both_there p ∙ sym (suc_there (depth_with f h t p)))
  both_there (longest p) = both_there p
  both_there (rule r) = same r

rules_there : (n : ℕ) (t : Lexeme) (r : Rule) → is_there (left_rule n t r) ≡ is_there (depth_rule n t r)
rules_there zero t r = refl
rules_there (suc n) t r = both_there (empties_rule n) (left_rule n t) (depth_rule n t) t (rules_there n t) (grammar r)

pub starts_depth : (t : Lexeme) (p : Part) → starts p t ≡ is_there (depth_of t p)
starts_depth t p = both_there (empties_rule 12) (left_rule 12 t) (depth_rule 12 t) t (rules_there 12 t) p

-- what takes or begins with a token starts with it

takes_there : (o : Option Part) (ts us : List Lexeme) → TakesLeft o ts us → IsTrue (is_there o)
takes_there None ts us h = absurd h
takes_there (Some p) ts us h = refl

cut_starts : (t : Lexeme) (ts us : List Lexeme) (p : Part) → IsCut 12 p (t ∷ ts) us → (us ≡ t ∷ ts) ⊎ IsTrue (starts p t)
cut_starts t ts us p (inl h) = inl (sym h.0)
cut_starts t ts us p (inr h) =
    let same : t ≡ h.0 = cc (h.2) in
    inr (rw same (takes_there (left_of h.0 p) h.1 us h.3))

pub takes_starts : (t : Lexeme) (ts us : List Lexeme) (p : Part) → Takes p (t ∷ ts) us → (us ≡ t ∷ ts) ⊎ IsTrue (starts p t)
takes_starts t ts us p d = cut_starts t ts us p (takes_complete 12 d (always p))

full_starts : (t : Lexeme) (ts us : List Lexeme) (p : Part) → empties 12 p ≡ false → IsCut 12 p (t ∷ ts) us → IsTrue (starts p t)
full_starts t ts us p e (inl h) = absurd (cc (h.1))
full_starts t ts us p e (inr h) =
    let same : t ≡ h.0 = cc (h.2) in
    rw same (takes_there (left_of h.0 p) h.1 us h.3)

-- a part that isn't empty starts with the first token that it takes
pub takes_begins : (t : Lexeme) (ts us : List Lexeme) (p : Part) → empties 12 p ≡ false → Takes p (t ∷ ts) us → IsTrue (starts p t)
takes_begins t ts us p e d = full_starts t ts us p e (takes_complete 12 d (always p))

lies_there : (o : Option Part) (ts : List Lexeme) (n : ℕ) → LiesLeft o ts n → IsTrue (is_there o)
lies_there None ts n h = absurd h
lies_there (Some p) ts n h = refl

pub reaches_there : (o : Option ℕ) (n : ℕ) → Reaches o n → IsTrue (is_there o)
reaches_there None n h = absurd h
reaches_there (Some m) n h = refl

laid_starts : (t : Lexeme) (ts : List Lexeme) (p : Part) (n : ℕ) → IsLaid 12 p (t ∷ ts) n → IsTrue (starts p t)
laid_starts t ts p n (inl h) =
    let same : t ≡ h.0 = cc (h.1) in
    rw (starts_depth t p) (rw same (reaches_there (depth_of h.0 p) n h.2))
laid_starts t ts p n (inr h) =
    let same : t ≡ h.0 = cc (h.2) in
    rw same (lies_there (left_of h.0 p) h.1 n h.3)

pub lies_starts : (t : Lexeme) (ts : List Lexeme) (p : Part) (n : ℕ) → Lies p (t ∷ ts) n → IsTrue (starts p t)
lies_starts t ts p n l = laid_starts t ts p n (lies_complete 12 l (always p))

pub lies_next : (t u : Lexeme) (ts : List Lexeme) (p : Part) (n : ℕ) → Lies p (t ∷ u ∷ ts) n → LiesLeft (left_of t p) (u ∷ ts) n
lies_next t u ts p n l = laid_more t u ts p n (lies_complete 12 l (always p))

pub lies_depth : (t : Lexeme) (p : Part) (n : ℕ) → Lies p (t ∷ []) n → Reaches (depth_of t p) n
lies_depth t p n l = reach_one t p n (lies_complete 12 l (always p))

pub nothing_lies : (p : Part) (n : ℕ) → Lies p [] n → ⊥
nothing_lies p n l = lies_nowhere (Some p) n l

pub left_spells : (t : Lexeme) (p : Part) (ts : List Lexeme) → Spells p (t ∷ ts) → TakesLeft (left_of t p) ts []
left_spells t p ts d = cut_cons t ts p (takes_complete 12 d (always p))

pub spells_left : (t : Lexeme) (p : Part) (ts : List Lexeme) → TakesLeft (left_of t p) ts [] → Spells p (t ∷ ts)
spells_left t p ts d = takes_sound 12 t p ts [] d
