-- What may stand behind an expression.
use Rattle.std.specs.Prelude.{◌≡◌, ℕ, ◌≤◌, Bool, true, false, ◌&&◌, List, [], ◌∷◌, codes, IsTrue}
use Rattle.bpl_grammar.specs.Lexeme.{Lexeme}
use Rattle.bpl_grammar.specs.Part.{Part, ◌⨟◌, ◌∣◌, maybe, rule, e, log, rel, sum, prod, un, imp}
use Rattle.bpl_grammar.specs.Grammar.{the, square}
use Rattle.bpl_grammar.specs.Spelling.{Spells}
use Rattle.bpl_grammar.specs.Nesting.{Lies}
use Rattle.bpl_grammar.specs.Reads.{sunk, starts}
use Rattle.bpl_grammar.specs.Terminal.{Terminal, fixed, is_any, firsts, apart_from}

-- what can go on with an expression: a sign and an operand, or an index
pub data Operation : Type 0 where
  index factor term relation conjunct disjunct consequent equivalent : Operation

abbrev pub relation_sign : Part
relation_sign = the "==" ∣ the "!=" ∣ the "<" ∣ the "<=" ∣ the ">" ∣ the ">="

abbrev pub operation : Operation → Part
operation index = square (rule e ⨟ maybe (the ":=" ⨟ rule e))
operation factor = the "*" ⨟ rule un
operation term = (the "+" ∣ the "-") ⨟ rule prod
operation relation = relation_sign ⨟ rule sum
operation conjunct = the "&&" ⨟ rule rel
operation disjunct = the "||" ⨟ rule rel
operation consequent = the "==>" ⨟ rule log
operation equivalent = the "<==>" ⨟ rule imp

abbrev pub any_operation : Part
any_operation = operation index ∣ operation factor ∣ operation term ∣ operation relation ∣ operation conjunct ∣ operation disjunct ∣ operation consequent ∣ operation equivalent

-- a reading in which the last token lies no less deep
abbrev pub IsReached : Part → List Lexeme → ℕ → Type 0
IsReached p ts n = (m : ℕ) × (n ≤ m) × Lies p ts m

-- from this token on q goes at least as far as p, and as deep
pub record IsWithinAt (t : Lexeme) (p q : Part) : Type 0 where
  pub spells : (ts : List Lexeme) → Spells p (t ∷ ts) → Spells q (t ∷ ts)
  pub lies : (ts : List Lexeme) (n : ℕ) → Lies p (t ∷ ts) n → IsReached q (t ∷ ts) n

-- What follows an expression so many nestings deep: where it begins with a token that goes on with the
-- expression, it goes no further than where the expression takes the token in, with its operand.
-- So it may begin with such a token itself, as what follows the operand after `else` does.
abbrev pub Follows : ℕ → Part → Type 0
Follows n k = (o : Operation) (t : Lexeme) → IsTrue (starts (operation o) t) → IsWithinAt t k (sunk n (operation o) ⨟ k)

-- a part that can't begin with any of these
abbrev pub Bars : List Terminal → Part → Type 0
Bars cs k = (t : Lexeme) → IsTrue (is_any cs t) → starts k t ≡ false

abbrev pub all_apart : List Terminal → List Terminal → Bool
all_apart [] ds = true
all_apart (c ∷ cs) ds = apart_from c ds && all_apart cs ds

abbrev pub opening : List Terminal
opening = fixed (codes "(") ∷ []

-- the tokens that go on with an expression; a parenthesis makes a call of a name
abbrev pub going_on : List Terminal
going_on =
    fixed (codes "<==>") ∷ fixed (codes "==>") ∷ fixed (codes "&&") ∷ fixed (codes "||")
    ∷ fixed (codes "==") ∷ fixed (codes "!=") ∷ fixed (codes "<") ∷ fixed (codes "<=") ∷ fixed (codes ">") ∷ fixed (codes ">=")
    ∷ fixed (codes "+") ∷ fixed (codes "-") ∷ fixed (codes "*") ∷ fixed (codes "[") ∷ fixed (codes "(") ∷ []

-- what may follow an expression: it can't begin with a parenthesis, which would make a call of a name
pub record After (n : ℕ) (k : Part) : Type 0 where
  pub follows : Follows n k
  pub no_call : Bars opening k

-- what may follow a list of expressions
pub record Ends (k : Part) : Type 0 where
  pub no_operation : Bars (firsts any_operation) k
  pub no_call : Bars opening k
  pub no_comma : Bars (fixed (codes ",") ∷ []) k

-- what may follow groups of names
pub record Closes (k : Part) : Type 0 where
  pub no_operation : Bars (firsts any_operation) k
  pub no_call : Bars opening k
  pub no_where : Bars (fixed (codes "where") ∷ []) k
  pub no_comma : Bars (fixed (codes ",") ∷ []) k
