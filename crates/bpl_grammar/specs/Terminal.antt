-- The tokens with which a part of the grammar can begin.
use Rattle.std.specs.Prelude.{ℕ, zero, suc, bytes_eq, Bool, true, false, not, ◌&&◌, ◌||◌, List, [], ◌∷◌, ◌++◌}
use Rattle.bpl_lex.specs.Token.{Kind}
use Rattle.bpl_grammar.specs.Lexeme.{Lexeme, same_kind, is_fixed, is_kind, reads}
use Rattle.bpl_grammar.specs.Part.{Part, some, spelled, nothing, ◌⨟◌, ◌∣◌, maybe, many, inside, longest, Rule, rule}
use Rattle.bpl_grammar.specs.Grammar.{grammar}
use Rattle.bpl_grammar.specs.Derivative.{empties_with, empties_rule}

-- a kind of token, or a word or sign
pub data Terminal : Type 0 where
  kind : Kind → Terminal
  fixed : List ℕ → Terminal

-- whether the token is this
abbrev pub is : Terminal → Lexeme → Bool
is (kind k) t = is_kind k t
is (fixed w) t = reads w t

-- whether it is one of these
abbrev pub is_any : List Terminal → Lexeme → Bool
is_any [] t = false
is_any (c ∷ cs) t = is c t || is_any cs t

-- whether the first of the tokens is this
abbrev pub sees : Terminal → List Lexeme → Bool
sees c [] = false
sees c (t ∷ ts) = is c t

-- whether it is one of these
abbrev pub sees_any : List Terminal → List Lexeme → Bool
sees_any cs [] = false
sees_any cs (t ∷ ts) = is_any cs t

abbrev pub and_more : Bool → List Terminal → List Terminal
and_more true cs = cs
and_more false cs = []

module _ (f : Rule → Bool) (g : Rule → List Terminal) where
  abbrev pub firsts_with : Part → List Terminal
  firsts_with (some k) = kind k ∷ []
  firsts_with (spelled w) = fixed w ∷ []
  firsts_with nothing = []
  firsts_with (p ⨟ q) = firsts_with p ++ and_more (empties_with f p) (firsts_with q)
  firsts_with (p ∣ q) = firsts_with p ++ firsts_with q
  firsts_with (maybe p) = firsts_with p
  firsts_with (many p) = firsts_with p
  firsts_with (inside p) = firsts_with p
  firsts_with (longest p) = firsts_with p
  firsts_with (rule r) = g r

abbrev pub firsts_rule : ℕ → Rule → List Terminal
firsts_rule zero r = []
firsts_rule (suc n) r = firsts_with (empties_rule n) (firsts_rule n) (grammar r)

-- the tokens with which the part can begin
abbrev pub firsts : Part → List Terminal
firsts p = firsts_with (empties_rule 12) (firsts_rule 12) p

-- whether no token is both
abbrev pub apart : Terminal → Terminal → Bool
apart (kind k) (kind l) = not (same_kind k l)
apart (kind k) (fixed w) = not (is_fixed k)
apart (fixed w) (kind l) = not (is_fixed l)
apart (fixed v) (fixed w) = not (bytes_eq w v)

abbrev pub apart_from : Terminal → List Terminal → Bool
apart_from c [] = true
apart_from c (d ∷ ds) = apart c d && apart_from c ds
