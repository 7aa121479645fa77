-- The canonical text of a program gives the program again but for places and spans.
use Rattle.std.specs.Prelude.{◌≡◌, ◌⊎◌, ℕ, ◌≤◌, List, [], ◌∷◌, ◌++◌, Ok}
use Rattle.bpl_lex.specs.Token.{Token}
use Rattle.bpl_lex.specs.Lexing.{tokens}
use Rattle.bpl_ast.specs.Statement.{Decl, name_of, axioms_with}
use Rattle.canonical_text.specs.Glyph.{Glyph}
use Rattle.canonical_text.specs.Lines.{program_text}
use Rattle.bpl_grammar.specs.Part.{rule, program}
use Rattle.bpl_grammar.specs.Judge.{deep}
use Rattle.bpl_grammar.specs.Fault.{marked, HasFault}
use Rattle.bpl_grammar.specs.Programs.{SpellsProgram}
use Rattle.bpl_grammar.specs.ReadPrograms.{read_text}
use Rattle.canonical_text.specs.SameStatement.{SameDecls}
use Rattle.canonical_text.specs.WrittenStatement.{IsWrittenDecl}
use Rattle.canonical_text.specs.StatementNestings.{decl_depth}
use Rattle.canonical_text.specs.Tokens.{decl_tokens}
use Rattle.canonical_text.specs.Lexed.{AreTokens}
use Rattle.bpl_grammar.specs.Limits.{nestings}

-- each declaration has its own name, where k axioms stand before them, and is one that some tokens spell
abbrev pub AreWrittenDecls : ℕ → List Decl → Type 0
AreWrittenDecls k [] = Unit {0}
AreWrittenDecls k (d ∷ ds) = (d.name ≡ name_of k d.body) × IsWrittenDecl d.body × AreWrittenDecls (axioms_with k d.body) ds

-- no token of their canonical text lies too deep
abbrev pub AreShallow : List Decl → Type 0
AreShallow [] = Unit {0}
AreShallow (d ∷ ds) = (decl_depth d.body ≤ nestings) × AreShallow ds

abbrev pub program_tokens : List Decl → List Glyph
program_tokens [] = []
program_tokens (d ∷ ds) = decl_tokens d.body ++ program_tokens ds

-- the tokens of the canonical text are those of its declarations
abbrev pub LexesToItsTokens : Type 0
LexesToItsTokens = (ds : List Decl) → AreWrittenDecls 0 ds → (ts : List Token) × (tokens (program_text ds) ≡ Ok ts) × AreTokens (program_text ds) (program_tokens ds) ts

-- the canonical text is read as the same declarations
abbrev pub ProgramsAreReadBack : Type 0
ProgramsAreReadBack = (ds : List Decl) → AreWrittenDecls 0 ds → AreShallow ds → (es : List Decl) × (read_text (program_text ds) ≡ Ok es) × SameDecls es ds

-- Where a text spells a program, and no token of its canonical text lies too deep, the canonical text spells the same program
-- but for places and spans.
abbrev pub CanonicalTextSpellsTheSame : Type 0
CanonicalTextSpellsTheSame = (bytes : List ℕ) (ds : List Decl) → SpellsProgram bytes ds → AreShallow ds → (es : List Decl) × SpellsProgram (program_text ds) es × SameDecls es ds

-- Where a text spells a program, the canonical text spells the same program but for places and spans, or a token of it lies too deep.
abbrev pub CanonicalTextSpellsTheSameOrIsDeep : Type 0
CanonicalTextSpellsTheSameOrIsDeep = (bytes : List ℕ) (ds : List Decl) → SpellsProgram bytes ds
    → ((es : List Decl) × SpellsProgram (program_text ds) es × SameDecls es ds) ⊎ ((at : ℕ) × HasFault (rule program) (program_text ds) (marked deep at))

-- And this comes: a text spells a program, and a token of its canonical text lies too deep. (The pair of parentheses that keeps an `if`
-- from taking in what follows stands around the outermost `if` that ends there, where a text may have it around an inner one.)
abbrev pub SomeCanonicalTextIsDeep : Type 0
SomeCanonicalTextIsDeep = (bytes : List ℕ) × (ds : List Decl) × SpellsProgram bytes ds × ((at : ℕ) × HasFault (rule program) (program_text ds) (marked deep at))

-- Programs that are the same but for places and spans have the same canonical text, so what is read of it is printed with the same bytes.
abbrev pub SameProgramsHaveOneText : Type 0
SameProgramsHaveOneText = (ds es : List Decl) → SameDecls ds es → program_text ds ≡ program_text es
