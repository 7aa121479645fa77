-- A part can begin with a token exactly where it is one of its first tokens.
use Rattle.std.specs.Prelude.{◌≡◌, ℕ, zero, suc, bytes_eq, Bool, true, false, not, ◌&&◌, ◌||◌, List, [], ◌∷◌, ◌++◌, IsTrue, Option, Some, None}
use Rattle.std.proofs.Common.{refl, ap, sym, ◌∙◌}
use Rattle.std.proofs.lemmas.Slice.Eq.{bytes_eq-Decides}
use Rattle.bpl_grammar.proofs.Booleans.{or_none, or_same as join, and_first, and_second, no_and_second as and_false, no_not as not_false, none_of as neither}
use Rattle.bpl_lex.specs.Token.{Kind, id, number, text, sign, word}
use Rattle.bpl_grammar.specs.Lexeme.{Lexeme, same_kind, is_fixed, is_kind, reads}
use Rattle.bpl_grammar.specs.Part.{Part, some, spelled, nothing, ◌⨟◌, ◌∣◌, maybe, many, inside, longest, Rule, rule}
use Rattle.bpl_grammar.specs.Grammar.{grammar}
use Rattle.bpl_grammar.specs.Derivative.{empties_with, empties_rule, either, onto, left_with, left_rule}
use Rattle.bpl_grammar.specs.Reads.{is_there, starts, opens}
use Rattle.bpl_grammar.specs.Terminal.{Terminal, kind, fixed, is, is_any, sees, sees_any, and_more, firsts_with, firsts_rule, firsts, apart, apart_from}
use Rattle.bpl_grammar.proofs.First.{either_there, onto_there, within_there}

or_over : (a b c : Bool) → ((a || b) || c) ≡ (a || (b || c))
or_over true b c = refl
or_over false b c = refl

pub any_append : (cs ds : List Terminal) (t : Lexeme) → is_any (cs ++ ds) t ≡ (is_any cs t || is_any ds t)
any_append [] ds t = refl
any_append (c ∷ cs) ds t = ap (λ b. is c t || b) (any_append cs ds t) ∙ sym (or_over (is c t) (is_any cs t) (is_any ds t))

one_there : (a : Bool) → is_there {A = Part} (elim a [ true ↦ Some nothing | false ↦ None ]) ≡ (a || false)
one_there true = refl
one_there false = refl

order_there : (b : Bool) (l m : Option Part) (q : Part) (cs ds : List Terminal) (t : Lexeme) → is_there l ≡ is_any cs t → is_there m ≡ is_any ds t
    → is_there {A = Part} (elim b [ true ↦ either (onto l q) m | false ↦ onto l q ]) ≡ is_any (cs ++ and_more b ds) t
order_there true l m q cs ds t e f = either_there (onto l q) m ∙ (join (is_there (onto l q)) (is_there m) (is_any cs t) (is_any ds t) (onto_there l q ∙ e) f ∙ sym (any_append cs ds t))
order_there false l m q cs ds t e f = onto_there l q ∙ (e ∙ (or_none (is_any cs t) ∙ sym (any_append cs [] t)))

module _ (f : Rule → Bool) (g : Rule → Option Part) (h : Rule → List Terminal) (t : Lexeme) (same : (r : Rule) → is_there (g r) ≡ is_any (h r) t) where
  pub first_there : (p : Part) → is_there (left_with f g t p) ≡ is_any (firsts_with f h p) t
  first_there (some k) = one_there (is_kind k t)
  first_there (spelled w) = one_there (reads w t)
  first_there nothing = refl
  first_there (p ⨟ q) = order_there (empties_with f p) (left_with f g t p) (left_with f g t q) q (firsts_with f h p) (firsts_with f h q) t (first_there p) (first_there q)
  first_there (p ∣ q) = either_there (left_with f g t p) (left_with f g t q)
      ∙ (join (is_there (left_with f g t p)) (is_there (left_with f g t q)) (is_any (firsts_with f h p) t) (is_any (firsts_with f h q) t) (first_there p) (first_there q) ∙ sym (any_append (firsts_with f h p) (firsts_with f h q) t))
  first_there (maybe p) = first_there p
  first_there (many p) = onto_there (left_with f g t p) (many p) ∙ first_there p
  first_there (inside p) = within_there (left_with f g t p) ∙ first_there p
  first_there (longest p) = first_there p
  first_there (rule r) = same r

rules_there : (n : ℕ) (t : Lexeme) (r : Rule) → is_there (left_rule n t r) ≡ is_any (firsts_rule n r) t
rules_there zero t r = refl
rules_there (suc n) t r = first_there (empties_rule n) (left_rule n t) (firsts_rule n) t (rules_there n t) (grammar r)

pub starts_firsts : (t : Lexeme) (p : Part) → starts p t ≡ is_any (firsts p) t
starts_firsts t p = first_there (empties_rule 12) (left_rule 12 t) (firsts_rule 12) t (rules_there 12 t) p

pub opens_firsts : (ts : List Lexeme) (p : Part) → opens p ts ≡ sees_any (firsts p) ts
opens_firsts [] p = refl
opens_firsts (t ∷ ts) p = starts_firsts t p

-- tokens that are one thing aren't another

kind_is : (k m : Kind) → IsTrue (same_kind k m) → k ≡ m
kind_is id id h = refl
kind_is number number h = refl
kind_is text text h = refl
kind_is sign sign h = refl
kind_is word word h = refl
kind_is k m h = absurd (cc)

turned : (k l : Kind) → same_kind l k ≡ same_kind k l
turned id id = refl
turned id number = refl
turned id text = refl
turned id sign = refl
turned id word = refl
turned number id = refl
turned number number = refl
turned number text = refl
turned number sign = refl
turned number word = refl
turned text id = refl
turned text number = refl
turned text text = refl
turned text sign = refl
turned text word = refl
turned sign id = refl
turned sign number = refl
turned sign text = refl
turned sign sign = refl
turned sign word = refl
turned word id = refl
turned word number = refl
turned word text = refl
turned word sign = refl
turned word word = refl

kinds_apart : (k l m : Kind) → k ≡ m → IsTrue (not (same_kind k l)) → same_kind l m ≡ false
kinds_apart k l m e a = rw (← e) (turned k l ∙ not_false (same_kind k l) a)

not_fixed : (k m : Kind) (b : Bool) → k ≡ m → IsTrue (not (is_fixed k)) → (is_fixed m && b) ≡ false
not_fixed k m b e a = rw (← e) (rw (not_false (is_fixed k) a) refl)

fixed_kind : (l m : Kind) → IsTrue (is_fixed m) → IsTrue (not (is_fixed l)) → same_kind l m ≡ false
fixed_kind id sign f a = refl
fixed_kind id word f a = refl
fixed_kind number sign f a = refl
fixed_kind number word f a = refl
fixed_kind text sign f a = refl
fixed_kind text word f a = refl
fixed_kind sign m f a = absurd (cc)
fixed_kind word m f a = absurd (cc)
fixed_kind l id f a = absurd (cc)
fixed_kind l number f a = absurd (cc)
fixed_kind l text f a = absurd (cc)

bytes_same : (a b : List ℕ) → IsTrue (bytes_eq a b) → a ≡ b
bytes_same a b h = (bytes_eq-Decides a b).0 h

texts_apart : (v w s : List ℕ) → v ≡ s → IsTrue (not (bytes_eq w v)) → bytes_eq w s ≡ false
texts_apart v w s e a = rw (← e) (not_false (bytes_eq w v) a)

pub are_apart : (c d : Terminal) (t : Lexeme) → IsTrue (is c t) → IsTrue (apart c d) → is d t ≡ false
are_apart (kind k) (kind l) t h a = kinds_apart k l t.kind (kind_is k t.kind h) a
are_apart (kind k) (fixed w) t h a = not_fixed k t.kind (bytes_eq w t.spelling) (kind_is k t.kind h) a
are_apart (fixed w) (kind l) t h a = fixed_kind l t.kind (and_first (is_fixed t.kind) (bytes_eq w t.spelling) h) a
are_apart (fixed v) (fixed w) t h a = and_false (is_fixed t.kind) (bytes_eq w t.spelling)
    (texts_apart v w t.spelling (bytes_same v t.spelling (and_second (is_fixed t.kind) (bytes_eq v t.spelling) h)) a)

pub none_apart : (c : Terminal) (ds : List Terminal) (t : Lexeme) → IsTrue (is c t) → IsTrue (apart_from c ds) → is_any ds t ≡ false
none_apart c [] t h a = refl
none_apart c (d ∷ ds) t h a = neither (is d t) (is_any ds t) (are_apart c d t h (and_first (apart c d) (apart_from c ds) a)) (none_apart c ds t h (and_second (apart c d) (apart_from c ds) a))

-- a part that can't begin with what is seen
pub shut : (c : Terminal) (p : Part) (ts : List Lexeme) → IsTrue (sees c ts) → IsTrue (apart_from c (firsts p)) → opens p ts ≡ false
shut c p [] h a = refl
shut c p (t ∷ ts) h a = starts_firsts t p ∙ none_apart c (firsts p) t h a

-- a part that can't begin with any of these, none of which is seen
pub shut_all : (p : Part) (ts : List Lexeme) → sees_any (firsts p) ts ≡ false → opens p ts ≡ false
shut_all p ts h = opens_firsts ts p ∙ h
