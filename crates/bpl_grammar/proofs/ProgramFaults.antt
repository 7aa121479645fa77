-- A text that is read spells the program that reading gives, and one that isn't has the fault that it gives.
use Rattle.std.specs.Prelude.{◌≡◌, ℕ, zero, suc, List, [], ◌∷◌, drop, length, slice_get, Result, Ok, Err, Option, Some, None}
use Rattle.std.proofs.Common.{refl, ap, sym, ◌∙◌, arith}
use Rattle.std.proofs.lemmas.List.{length-drop, length-map}
use Rattle.bpl_lex.specs.Token.{Token}
use Rattle.bpl_lex.specs.Lexing.{tokens, end_of}
use Rattle.bpl_ast.specs.Statement.{Decl}
use Rattle.bpl_grammar.specs.Lexeme.{Lexeme, lexeme, lexemes}
use Rattle.bpl_grammar.specs.Part.{rule, program}
use Rattle.bpl_grammar.specs.Judge.{Mark, Fate, fine, fails, judge}
use Rattle.bpl_grammar.specs.Fault.{AreFaultless, Fault, lexical, marked, byte_of, FaultOf}
use Rattle.bpl_grammar.specs.Programs.{SpelledIn}
use Rattle.bpl_grammar.specs.ReadPrograms.{ReadAll, read_decls, byte_at, with_bytes, read_found}
use Rattle.bpl_grammar.specs.ProgramLaw.{ProgramsAreExact}
use Rattle.bpl_grammar.proofs.Faults.{fine_is_faultless, fails_at_the_fault}
use Rattle.bpl_grammar.proofs.Places.{reach}
use Rattle.bpl_grammar.proofs.ProgramTrees.{program_tree}
use Rattle.bpl_grammar.proofs.ProgramFates.{reach_all, program_reach, program_end}

-- the fate of so much

no_reach : (f : Fate) → reach f ≡ None → f ≡ fine
no_reach fine h = refl
no_reach (fails m us) h = absurd (cc)

record IsReach (f : Fate) (m : Mark) (n : ℕ) : Type 0 where
  left : List Lexeme
  is : f ≡ fails m left
  long : length left ≡ n

some_reach : (f : Fate) (m : Mark) (n : ℕ) → reach f ≡ Some (m, n) → IsReach f m n
some_reach fine m n h = absurd (cc)
some_reach (fails l us) m n h = record { left = us; is = ap (λ x. fails x us) (ap mark h); long = ap many h }
  where
    mark : Option (Mark × ℕ) → Mark
    mark None = l
    mark (Some x) = x.0

    many : Option (Mark × ℕ) → ℕ
    many None = 0
    many (Some x) = x.1

byte_drop : (all ts : List Token) (k : ℕ) → byte_at all (drop k ts) ≡ elim (slice_get ts k) [ Some t ↦ t.start | None ↦ end_of all ]
byte_drop all [] zero = refl
byte_drop all [] (suc k) = refl
byte_drop all (t ∷ ts) zero = refl
byte_drop all (t ∷ ts) (suc k) = byte_drop all ts k

-- the tokens of a text

pub program_reads : (bytes : List ℕ) (k : ℕ) (ts : List Token) (ds : List Decl) → read_decls bytes k ts ≡ Ok ds → AreFaultless (rule program) (lexemes bytes 0 ts)
program_reads bytes k ts ds h = (fine_is_faultless (rule program) (lexemes bytes 0 ts)).0 (no_reach (judge (rule program) (lexemes bytes 0 ts)) (program_reach bytes k 0 ts ∙ ap (λ r. reach_all bytes r) h))

pub program_refuses : (bytes : List ℕ) (k : ℕ) (ts us : List Token) (m : Mark) → read_decls bytes k ts ≡ Err (m, us) → FaultOf (rule program) bytes (Ok ts) (marked m (byte_at ts us))
program_refuses bytes k ts us m h =
    let x = some_reach (judge (rule program) (lexemes bytes 0 ts)) m (length us) (program_reach bytes k 0 ts ∙ ap (λ r. reach_all bytes r) h) in
    let f = (fails_at_the_fault (rule program) (lexemes bytes 0 ts) m x.left).0 x.is in
    let e = program_end bytes k ts us m h in
    let same : e.at ≡ f.0 = omega (arith, x.long, f.1.within, ap length f.2, length-drop f.0 (lexemes bytes 0 ts), length-map ts (lexeme bytes 0), e.within, ap length e.is, length-drop e.at ts) in
    (f.0, m, f.1, ap (marked m) (ap (byte_at ts) e.is ∙ (byte_drop ts ts e.at ∙ ap (λ i. byte_of ts i) same)))

-- the text

with_ok : (ts : List Token) (o : ReadAll) (ds : List Decl) → with_bytes ts o ≡ Ok ds → o ≡ Ok ds
with_ok ts (Ok xs) ds h = ap again h
  where
    again : Result (List Decl) Fault → ReadAll
    again (Ok x) = Ok x
    again (Err f) = Ok xs
with_ok ts (Err e) ds h = absurd (cc)

same_fault : (f g : Fault) → ◌≡◌ {A = Result (List Decl) Fault} (Err f) (Err g) → g ≡ f
same_fault f g h = sym (ap fault h)
  where
    fault : Result (List Decl) Fault → Fault
    fault (Ok ds) = f
    fault (Err x) = x

refused_by : (bytes : List ℕ) (ts : List Token) (o : ReadAll) (f : Fault) → read_decls bytes 0 ts ≡ o → with_bytes ts o ≡ Err f → FaultOf (rule program) bytes (Ok ts) f
refused_by bytes ts (Ok ds) f e h = absurd (cc)
refused_by bytes ts (Err x) f e h = rw (same_fault (marked x.0 (byte_at ts x.1)) f h) (program_refuses bytes 0 ts x.1 x.0 e)

reads_by : (bytes : List ℕ) (r : Result (List Token) ℕ) (ds : List Decl) → read_found bytes r ≡ Ok ds → SpelledIn bytes r ds
reads_by bytes (Err at) ds h = absurd (cc)
reads_by bytes (Ok ts) ds h =
    let e = with_ok ts (read_decls bytes 0 ts) ds h in
    record { spelled = program_tree bytes 0 ts ds e; faultless = program_reads bytes 0 ts ds e }

refuses_by : (bytes : List ℕ) (r : Result (List Token) ℕ) (f : Fault) → read_found bytes r ≡ Err f → FaultOf (rule program) bytes r f
refuses_by bytes (Err at) f h = same_fault (lexical at) f h
refuses_by bytes (Ok ts) f h = refused_by bytes ts (read_decls bytes 0 ts) f refl h

pub programs_are_exact : ProgramsAreExact
programs_are_exact bytes = record { reads = λ ds h. reads_by bytes (tokens bytes) ds h; refuses = λ f h. refuses_by bytes (tokens bytes) f h }
