-- Parts so many nestings deep, and the tokens that they begin with.
use Rattle.std.specs.Prelude.{ℕ, zero, suc, Bool, true, false, List, [], ◌∷◌, Option, Some, None}
use Rattle.bpl_grammar.specs.Lexeme.{Lexeme}
use Rattle.bpl_grammar.specs.Part.{Part, inside}
use Rattle.bpl_grammar.specs.Derivative.{left_of}

-- the part inside so many nestings
abbrev pub sunk : ℕ → Part → Part
sunk zero p = p
sunk (suc n) p = sunk n (inside p)

abbrev pub is_there : {A : Type 0} → Option A → Bool
is_there None = false
is_there (Some x) = true

-- whether the part can begin with the token
abbrev pub starts : Part → Lexeme → Bool
starts p t = is_there (left_of t p)

-- whether it can begin with the first of the tokens
abbrev pub opens : Part → List Lexeme → Bool
opens p [] = false
opens p (t ∷ ts) = starts p t
