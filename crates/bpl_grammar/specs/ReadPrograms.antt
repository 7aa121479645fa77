-- Reading programs: declaration by declaration, each with places from its own first byte.
use Rattle.std.specs.Prelude.{ℕ, zero, suc, ◌-◌, List, [], ◌∷◌, take, drop, length, Result, Ok, Err}
use Rattle.bpl_lex.specs.Token.{Token}
use Rattle.bpl_lex.specs.Lexing.{tokens, end_of}
use Rattle.bpl_ast.specs.Statement.{DeclBody, Decl, axioms_with}
use Rattle.bpl_grammar.specs.Lexeme.{Lexeme, lexemes}
use Rattle.bpl_grammar.specs.Judge.{Mark, syntax}
use Rattle.bpl_grammar.specs.Reading.{Read}
use Rattle.bpl_grammar.specs.ReadDeclarations.{read_decl}
use Rattle.bpl_grammar.specs.Programs.{decl_of}
use Rattle.bpl_grammar.specs.Fault.{Fault, lexical, marked}

-- the declarations, or a mark and the tokens from the fault on
abbrev pub ReadAll : Type 0
ReadAll = Result (List Decl) (Mark × List Token)

-- the tokens of the lexemes that are left, and those before them
abbrev pub tokens_left : List Token → List Lexeme → List Token
tokens_left ts left = drop (length ts - length left) ts

abbrev pub tokens_read : List Token → List Lexeme → List Token
tokens_read ts left = take (length ts - length left) ts

-- the byte at which the first of the tokens begins
abbrev pub start_of : List Token → ℕ
start_of [] = 0
start_of (t ∷ ts) = t.start

abbrev pub before : Decl → ReadAll → ReadAll
before d (Err e) = Err e
before d (Ok ds) = Ok (d ∷ ds)

module _ (bytes : List ℕ) where
  abbrev pub read_first : List Token → Read DeclBody
  read_first ts = read_decl (lexemes bytes (start_of ts) ts)

  -- what was read of the first declaration, behind k axioms, then the others
  abbrev pub first_then : ℕ → List Token → Read DeclBody → (ℕ → List Token → ReadAll) → ReadAll
  first_then k ts (Err e) next = Err (e.0, tokens_left ts e.1)
  first_then k ts (Ok p) next = before (decl_of bytes k p.0 (start_of ts) (end_of (tokens_read ts p.1))) (next (axioms_with k p.0) (tokens_left ts p.1))

  -- at most so many declarations
  abbrev pub read_decls_within : ℕ → ℕ → List Token → ReadAll
  read_decls_within zero k ts = Err (syntax, ts)
  read_decls_within (suc n) k [] = Ok []
  read_decls_within (suc n) k (t ∷ ts) = first_then k (t ∷ ts) (read_first (t ∷ ts)) (λ j us. read_decls_within n j us)

  -- Program = {Decl}, behind k axioms
  unfoldable pub read_decls : ℕ → List Token → ReadAll
  read_decls k ts = read_decls_within (suc (length ts)) k ts

-- the byte at which these last tokens of all begin, or just after the last token
abbrev pub byte_at : List Token → List Token → ℕ
byte_at all [] = end_of all
byte_at all (t ∷ ts) = t.start

abbrev pub with_bytes : List Token → ReadAll → Result (List Decl) Fault
with_bytes all (Err e) = Err (marked e.0 (byte_at all e.1))
with_bytes all (Ok ds) = Ok ds

abbrev pub read_found : List ℕ → Result (List Token) ℕ → Result (List Decl) Fault
read_found bytes (Err at) = Err (lexical at)
read_found bytes (Ok ts) = with_bytes ts (read_decls bytes 0 ts)

-- the declarations of a text, or its fault
abbrev pub read_text : List ℕ → Result (List Decl) Fault
read_text bytes = read_found bytes (tokens bytes)
