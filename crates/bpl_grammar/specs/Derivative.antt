-- What is left of a part after a token. It decides which tokens begin and which spell a part.
use Rattle.std.specs.Prelude.{ℕ, zero, suc, Bool, true, false, ◌&&◌, ◌||◌, Option, Some, None}
use Rattle.bpl_grammar.specs.Lexeme.{Lexeme, is_kind, reads}
use Rattle.bpl_grammar.specs.Part.{Part, some, spelled, nothing, ◌⨟◌, ◌∣◌, maybe, many, inside, longest, Rule, rule}
use Rattle.bpl_grammar.specs.Grammar.{grammar}

-- whether no tokens spell the part, where f answers for productions
abbrev pub empties_with : (Rule → Bool) → Part → Bool
empties_with f (some k) = false
empties_with f (spelled w) = false
empties_with f nothing = true
empties_with f (p ⨟ q) = empties_with f p && empties_with f q
empties_with f (p ∣ q) = empties_with f p || empties_with f q
empties_with f (maybe p) = true
empties_with f (many p) = true
empties_with f (inside p) = empties_with f p
empties_with f (longest p) = empties_with f p
empties_with f (rule r) = f r

abbrev pub empties_rule : ℕ → Rule → Bool
empties_rule zero r = false
empties_rule (suc n) r = empties_with (empties_rule n) (grammar r)

-- what is left of one or the other
abbrev pub either : Option Part → Option Part → Option Part
either None b = b
either (Some p) None = Some p
either (Some p) (Some q) = Some (p ∣ q)

-- what is left, and then a part
abbrev pub onto : Option Part → Part → Option Part
onto None q = None
onto (Some p) q = Some (p ⨟ q)

-- what is left, as deep as the part was
abbrev pub within : Option Part → Option Part
within None = None
within (Some p) = Some (inside p)

-- what is left after a token, where g answers for productions
module _ (f : Rule → Bool) (g : Rule → Option Part) (t : Lexeme) where
  abbrev pub left_with : Part → Option Part
  left_with (some k) = elim (is_kind k t) [ true ↦ Some nothing | false ↦ None ]
  left_with (spelled w) = elim (reads w t) [ true ↦ Some nothing | false ↦ None ]
  left_with nothing = None
  left_with (p ⨟ q) = elim (empties_with f p) [ true ↦ either (onto (left_with p) q) (left_with q) | false ↦ onto (left_with p) q ]
  left_with (p ∣ q) = either (left_with p) (left_with q)
  left_with (maybe p) = left_with p
  left_with (many p) = onto (left_with p) (many p)
  left_with (inside p) = within (left_with p)
  left_with (longest p) = left_with p
  left_with (rule r) = g r

abbrev pub left_rule : ℕ → Lexeme → Rule → Option Part
left_rule zero t r = None
left_rule (suc n) t r = left_with (empties_rule n) (left_rule n t) t (grammar r)

-- whether so many expansions of productions come to a first token
abbrev pub enough_with : (Rule → Bool) → (Rule → Bool) → Part → Bool
enough_with f h (some k) = true
enough_with f h (spelled w) = true
enough_with f h nothing = true
enough_with f h (p ⨟ q) = enough_with f h p && elim (empties_with f p) [ true ↦ enough_with f h q | false ↦ true ]
enough_with f h (p ∣ q) = enough_with f h p && enough_with f h q
enough_with f h (maybe p) = enough_with f h p
enough_with f h (many p) = enough_with f h p
enough_with f h (inside p) = enough_with f h p
enough_with f h (longest p) = enough_with f h p
enough_with f h (rule r) = h r

abbrev pub enough_rule : ℕ → Rule → Bool
enough_rule zero r = false
enough_rule (suc n) r = enough_with (empties_rule n) (enough_rule n) (grammar r)

abbrev pub empties : ℕ → Part → Bool
empties n p = empties_with (empties_rule n) p

abbrev pub left_after : ℕ → Lexeme → Part → Option Part
left_after n t p = left_with (empties_rule n) (left_rule n t) t p

abbrev pub enough : ℕ → Part → Bool
enough n p = enough_with (empties_rule n) (enough_rule n) p

-- what is left after a token
abbrev pub left_of : Lexeme → Part → Option Part
left_of t p = left_after 12 t p
