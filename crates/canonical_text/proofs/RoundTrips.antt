-- The canonical text of a program that a text spells spells the same program.
use Rattle.std.specs.Prelude.{◌≡◌, ℕ, suc, ◌<◌, ◌≤◌, ◌^◌, nat_lt, Bool, true, false, List, [], ◌∷◌, ◌++◌, slice_get, IsTrue, Result, Some, Ok, Err}
use Rattle.std.proofs.Common.{refl}
use Rattle.std.proofs.lemmas.Option.{slice_get_within}
use Rattle.bpl_lex.specs.Token.{Token, number as number_kind}
use Rattle.bpl_lex.specs.Lexing.{tokens}
use Rattle.bpl_lex.specs.Spelled.{Spells}
use Rattle.bpl_lex.proofs.Laws.{spelled as text_spelled}
use Rattle.bpl_ast.specs.Statement.{Decl}
use Rattle.canonical_text.specs.Lines.{program_text}
use Rattle.bpl_grammar.specs.Lexeme.{Lexeme, is_kind, lexeme, lexemes}
use Rattle.bpl_grammar.specs.Part.{rule, program}
use Rattle.bpl_grammar.specs.Nesting.{value, IsWide}
use Rattle.bpl_grammar.specs.Fault.{AreFaultless}
use Rattle.bpl_grammar.specs.Programs as programs
use Rattle.bpl_grammar.specs.Programs.{Decls, SpelledIn, SpellsProgram}
use Rattle.bpl_grammar.proofs.ProgramFaults.{programs_are_exact}
use Rattle.canonical_text.specs.RoundTrip.{AreWrittenDecls, CanonicalTextSpellsTheSame}
use Rattle.canonical_text.proofs.Stopping.{lt_true, lt_false}
use Rattle.canonical_text.proofs.WrittenExprs.{AreKnown}
use Rattle.canonical_text.proofs.WrittenStmts.{decl_written}
use Rattle.canonical_text.proofs.ProgramReads.{programs_back}

-- the lexemes of a text are of their kinds, and where none of them has a fault, no number is too wide

below : (m n : ℕ) (b : Bool) → nat_lt m n ≡ b → (n ≤ m → ⊥) → m < n
below m n true e h = lt_true m n e
below m n false e h = absurd (h (lt_false m n e))

abbrev AreNarrow : List Lexeme → Type 0
AreNarrow ls = (k : ℕ) (t : Lexeme) → slice_get ls k ≡ Some t → IsWide t → ⊥

narrow_value : (t : Lexeme) → (IsWide t → ⊥) → IsTrue (is_kind number_kind t) → value t.spelling < 2 ^ 127
narrow_value t h i = below (value t.spelling) (2 ^ 127) (nat_lt (value t.spelling) (2 ^ 127)) refl (λ w. h (record { is_number = i; wide = w }))

known_all : (bytes : List ℕ) (from at : ℕ) (ts : List Token) → Spells bytes at ts → AreNarrow (lexemes bytes from ts) → AreKnown (lexemes bytes from ts)
known_all bytes from at [] s n = tt
known_all bytes from at (t ∷ ts) s n = ((s.1, narrow_value (lexeme bytes from t) (n 0 (lexeme bytes from t) refl)), known_all bytes from t.finish ts s.2 (λ k u g. n (suc k) u g))

known_moved : (bytes : List ℕ) (a b : ℕ) (ts : List Token) → AreKnown (lexemes bytes a ts) → AreKnown (lexemes bytes b ts)
known_moved bytes a b [] k = tt
known_moved bytes a b (t ∷ ts) k = (k.0, known_moved bytes a b ts k.1)

known_end : (bytes : List ℕ) (a : ℕ) (ts us : List Token) → AreKnown (lexemes bytes a (ts ++ us)) → AreKnown (lexemes bytes a us)
known_end bytes a [] us k = k
known_end bytes a (t ∷ ts) us k = known_end bytes a ts us k.1

faultless_narrow : (ls : List Lexeme) → AreFaultless (rule program) ls → AreNarrow ls
faultless_narrow ls f = λ k t g w. (f.clean k t (slice_get_within ls k t g) g).narrow w

decls_written : (bytes : List ℕ) {k : ℕ} {ts : List Token} {ds : List Decl} → Decls bytes k ts ds → AreKnown (lexemes bytes 0 ts) → AreWrittenDecls k ds
decls_written bytes programs.Decls.none n = tt
decls_written bytes (programs.Decls.more t ts us b d e) n = (refl, decl_written (λ u. u.place) d (known_moved bytes 0 t.start (t ∷ (ts ++ us)) n), decls_written bytes e (known_end bytes 0 (t ∷ ts) us n))

found_written : (bytes : List ℕ) (ds : List Decl) (o : Result (List Token) ℕ) → tokens bytes ≡ o → SpelledIn bytes o ds → AreWrittenDecls 0 ds
found_written bytes ds (Err at) e s = absurd s
found_written bytes ds (Ok ts) e s = decls_written bytes s.spelled (known_all bytes 0 0 ts (text_spelled bytes ts e) (faultless_narrow (lexemes bytes 0 ts) s.faultless))

pub programs_written : (bytes : List ℕ) (ds : List Decl) → SpellsProgram bytes ds → AreWrittenDecls 0 ds
programs_written bytes ds s = found_written bytes ds (tokens bytes) refl s

pub round_trip : CanonicalTextSpellsTheSame
round_trip = λ bytes ds s w.
    let r = programs_back ds (programs_written bytes ds s) w in
    (r.0, (programs_are_exact (program_text ds)).reads r.0 r.1, r.2)
