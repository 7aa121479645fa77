-- How deep a token can lie at the front of a part, and the last of some tokens.
use Rattle.std.specs.Prelude.{ℕ, zero, suc, max, Bool, true, false, List, [], ◌∷◌, Option, Some, None, option_map}
use Rattle.bpl_grammar.specs.Lexeme.{Lexeme, is_kind, reads}
use Rattle.bpl_grammar.specs.Part.{Part, some, spelled, nothing, ◌⨟◌, ◌∣◌, maybe, many, inside, longest, Rule, rule}
use Rattle.bpl_grammar.specs.Grammar.{grammar}
use Rattle.bpl_grammar.specs.Derivative.{empties_with, empties_rule, left_of}

-- the deeper of two
abbrev pub most : Option ℕ → Option ℕ → Option ℕ
most None b = b
most (Some m) None = Some m
most (Some m) (Some n) = Some (max m n)

module _ (f : Rule → Bool) (g : Rule → Option ℕ) (t : Lexeme) where
  abbrev pub depth_with : Part → Option ℕ
  depth_with (some k) = elim (is_kind k t) [ true ↦ Some 0 | false ↦ None ]
  depth_with (spelled w) = elim (reads w t) [ true ↦ Some 0 | false ↦ None ]
  depth_with nothing = None
  depth_with (p ⨟ q) = elim (empties_with f p) [ true ↦ most (depth_with p) (depth_with q) | false ↦ depth_with p ]
  depth_with (p ∣ q) = most (depth_with p) (depth_with q)
  depth_with (maybe p) = depth_with p
  depth_with (many p) = depth_with p
  depth_with (inside p) = option_map suc (depth_with p)
  depth_with (longest p) = depth_with p
  depth_with (rule r) = g r

abbrev pub depth_rule : ℕ → Lexeme → Rule → Option ℕ
depth_rule zero t r = None
depth_rule (suc n) t r = depth_with (empties_rule n) (depth_rule n t) t (grammar r)

-- how deep the token can lie at the front of the part; None where the part can't begin with it
abbrev pub depth_of : Lexeme → Part → Option ℕ
depth_of t p = depth_with (empties_rule 12) (depth_rule 12 t) t p

-- how deep the last of the tokens can lie
abbrev pub deepest : List Lexeme → Part → Option ℕ
deepest [] p = None
deepest (t ∷ []) p = depth_of t p
deepest (t ∷ u ∷ ts) p = elim (left_of t p) [ Some q ↦ deepest (u ∷ ts) q | None ↦ None ]
