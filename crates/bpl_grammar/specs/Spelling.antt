-- Which tokens spell a part of the grammar, and which begin it.
use Rattle.std.specs.Prelude.{ℕ, List, [], ◌∷◌, IsTrue}
use Rattle.bpl_lex.specs.Token.{Kind}
use Rattle.bpl_grammar.specs.Lexeme.{Lexeme, is_kind, reads}
use Rattle.bpl_grammar.specs.Part.{Part, some, spelled, nothing, ◌⨟◌, ◌∣◌, maybe, many, inside, longest, Rule, rule}
use Rattle.bpl_grammar.specs.Grammar.{grammar}

-- Takes p ts us: a front of the tokens ts spells p, and us is the rest.
pub data Takes : Part → List Lexeme → List Lexeme → Type 0 where
  of_kind : {k : Kind} {t : Lexeme} {ts : List Lexeme} → IsTrue (is_kind k t) → Takes (some k) (t ∷ ts) ts
  of_text : {w : List ℕ} {t : Lexeme} {ts : List Lexeme} → IsTrue (reads w t) → Takes (spelled w) (t ∷ ts) ts
  empty : {ts : List Lexeme} → Takes nothing ts ts
  both : {p q : Part} {ts us vs : List Lexeme} → Takes p ts us → Takes q us vs → Takes (p ⨟ q) ts vs
  left : {p q : Part} {ts us : List Lexeme} → Takes p ts us → Takes (p ∣ q) ts us
  right : {p q : Part} {ts us : List Lexeme} → Takes q ts us → Takes (p ∣ q) ts us
  absent : {p : Part} {ts : List Lexeme} → Takes (maybe p) ts ts
  present : {p : Part} {ts us : List Lexeme} → Takes p ts us → Takes (maybe p) ts us
  no_more : {p : Part} {ts : List Lexeme} → Takes (many p) ts ts
  again : {p : Part} {ts us vs : List Lexeme} → Takes p ts us → Takes (many p) us vs → Takes (many p) ts vs
  deeper : {p : Part} {ts us : List Lexeme} → Takes p ts us → Takes (inside p) ts us
  whole : {p : Part} {ts us : List Lexeme} → Takes p ts us → Takes (longest p) ts us
  by : {r : Rule} {ts us : List Lexeme} → Takes (grammar r) ts us → Takes (rule r) ts us

-- The tokens, all of them, spell the part.
abbrev pub Spells : Part → List Lexeme → Type 0
Spells p ts = Takes p ts []

-- The tokens, all of them, begin the part.
pub data Begins : Part → List Lexeme → Type 0 where
  -- no tokens at all begin every part
  none : {p : Part} → Begins p []
  -- a single token begins the kind of token, the word or the sign that it is
  of_kind : {k : Kind} {t : Lexeme} → IsTrue (is_kind k t) → Begins (some k) (t ∷ [])
  of_text : {w : List ℕ} {t : Lexeme} → IsTrue (reads w t) → Begins (spelled w) (t ∷ [])
  -- a sequence: a run that spells the parts before one of them, followed by a run that begins that one
  first : {p q : Part} {ts : List Lexeme} → Begins p ts → Begins (p ⨟ q) ts
  later : {p q : Part} {ts us : List Lexeme} → Takes p ts us → Begins q us → Begins (p ⨟ q) ts
  -- a choice: one of the alternatives
  left : {p q : Part} {ts : List Lexeme} → Begins p ts → Begins (p ∣ q) ts
  right : {p q : Part} {ts : List Lexeme} → Begins q ts → Begins (p ∣ q) ts
  -- an option and a repetition are choices of how many
  present : {p : Part} {ts : List Lexeme} → Begins p ts → Begins (maybe p) ts
  once : {p : Part} {ts : List Lexeme} → Begins p ts → Begins (many p) ts
  again : {p : Part} {ts us : List Lexeme} → Takes p ts us → Begins (many p) us → Begins (many p) ts
  deeper : {p : Part} {ts : List Lexeme} → Begins p ts → Begins (inside p) ts
  whole : {p : Part} {ts : List Lexeme} → Begins p ts → Begins (longest p) ts
  by : {r : Rule} {ts : List Lexeme} → Begins (grammar r) ts → Begins (rule r) ts
