-- A text spells one program at most, and its fault is the one that is found.
use Rattle.std.specs.Prelude.{◌≡◌, ℕ, List, Result, Ok, Err}
use Rattle.std.proofs.Common.{refl, ap, sym, ◌∙◌}
use Rattle.bpl_lex.specs.Token.{Token}
use Rattle.bpl_lex.specs.Lexing.{tokens}
use Rattle.bpl_ast.specs.Statement.{Decl}
use Rattle.bpl_grammar.specs.Part.{rule, program}
use Rattle.bpl_grammar.specs.Fault.{Fault, FaultlessBy}
use Rattle.bpl_grammar.specs.Programs.{SpelledIn}
use Rattle.bpl_grammar.specs.ReadPrograms.{read_text}
use Rattle.bpl_grammar.specs.ProgramLaw.{FaultsAreFound, OneProgram}
use Rattle.bpl_grammar.proofs.Faults.{never_both, one_fault}
use Rattle.bpl_grammar.proofs.ProgramFaults.{programs_are_exact}
use Rattle.bpl_grammar.proofs.ProgramsUnique.{programs_are_unique}

faultless_in : (bytes : List ℕ) (r : Result (List Token) ℕ) (ds : List Decl) → SpelledIn bytes r ds → FaultlessBy (rule program) bytes r
faultless_in bytes (Err at) ds s = s
faultless_in bytes (Ok ts) ds s = s.faultless

pub faults_are_found : FaultsAreFound
faults_are_found bytes f h = found (read_text bytes) refl
  where
    found : (o : Result (List Decl) Fault) → read_text bytes ≡ o → read_text bytes ≡ Err f
    found (Ok ds) e = absurd (never_both (rule program) bytes f (faultless_in bytes (tokens bytes) ds ((programs_are_exact bytes).reads ds e)) h)
    found (Err g) e = e ∙ ap (λ x. Err x) (one_fault (rule program) bytes g f ((programs_are_exact bytes).refuses g e) h)

same_program : (ds es : List Decl) → ◌≡◌ {A = Result (List Decl) Fault} (Ok ds) (Ok es) → ds ≡ es
same_program ds es h = ap list h
  where
    list : Result (List Decl) Fault → List Decl
    list (Ok xs) = xs
    list (Err f) = ds

pub one_program : OneProgram
one_program bytes ds es s r = same_program ds es (sym (programs_are_unique bytes ds s) ∙ programs_are_unique bytes es r)
