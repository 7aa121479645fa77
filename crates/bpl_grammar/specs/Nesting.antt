-- How deep the last of the tokens lies, and which numbers are too wide.
use Rattle.std.specs.Prelude.{ℕ, suc, ◌-◌, ◌<◌, ◌≤◌, List, [], ◌∷◌, map, IsTrue}
use Rattle.std.specs.Int.Digits.{number_from_digits}
use Rattle.bpl_lex.specs.Token.{Kind, number}
use Rattle.bpl_grammar.specs.Lexeme.{Lexeme, is_kind, reads}
use Rattle.bpl_grammar.specs.Part.{Part, some, spelled, ◌⨟◌, ◌∣◌, maybe, many, inside, longest, Rule, rule}
use Rattle.bpl_grammar.specs.Grammar.{grammar}
use Rattle.bpl_grammar.specs.Spelling.{Takes}
use Rattle.bpl_grammar.specs.Limits.{nestings, number_end}

-- Lies p ts n: the tokens begin the part, and the last of them lies inside n of its pairs of brackets,
-- operands of prefix signs, `if` expressions and ranges of map types.
pub data Lies : Part → List Lexeme → ℕ → Type 0 where
  of_kind : {k : Kind} {t : Lexeme} → IsTrue (is_kind k t) → Lies (some k) (t ∷ []) 0
  of_text : {w : List ℕ} {t : Lexeme} → IsTrue (reads w t) → Lies (spelled w) (t ∷ []) 0
  first : {p q : Part} {ts : List Lexeme} {n : ℕ} → Lies p ts n → Lies (p ⨟ q) ts n
  later : {p q : Part} {ts us : List Lexeme} {n : ℕ} → Takes p ts us → Lies q us n → Lies (p ⨟ q) ts n
  left : {p q : Part} {ts : List Lexeme} {n : ℕ} → Lies p ts n → Lies (p ∣ q) ts n
  right : {p q : Part} {ts : List Lexeme} {n : ℕ} → Lies q ts n → Lies (p ∣ q) ts n
  present : {p : Part} {ts : List Lexeme} {n : ℕ} → Lies p ts n → Lies (maybe p) ts n
  once : {p : Part} {ts : List Lexeme} {n : ℕ} → Lies p ts n → Lies (many p) ts n
  again : {p : Part} {ts us : List Lexeme} {n : ℕ} → Takes p ts us → Lies (many p) us n → Lies (many p) ts n
  deeper : {p : Part} {ts : List Lexeme} {n : ℕ} → Lies p ts n → Lies (inside p) ts (suc n)
  whole : {p : Part} {ts : List Lexeme} {n : ℕ} → Lies p ts n → Lies (longest p) ts n
  by : {r : Rule} {ts : List Lexeme} {n : ℕ} → Lies (grammar r) ts n → Lies (rule r) ts n

-- The last of the tokens lies too deep. (After `else` the longest operand is the deepest reading.)
abbrev pub IsDeep : Part → List Lexeme → Type 0
IsDeep p ts = (n : ℕ) × (nestings < n) × Lies p ts n

-- the number that decimal digits spell
abbrev pub value : List ℕ → ℕ
value digits = number_from_digits 10 (map (λ digit. digit - 48) digits)

pub record IsWide (t : Lexeme) : Type 0 where
  pub is_number : IsTrue (is_kind number t)
  pub wide : number_end ≤ value t.spelling
