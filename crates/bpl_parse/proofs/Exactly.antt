-- What is read is what the text spells, and a fault is the text's.
use Rattle.std.specs.Prelude.{◌≡◌, ℕ, List, Vec, Result, Ok, Err, IfOk, IfErr}
use Rattle.std.specs.Result.{IsErrAnd}
use Rattle.std.specs.declared.alloc.Global.{Global}
use Rattle.bpl_ast.specs.Statement.{Decl}
use Rattle.bpl_grammar.specs.Judge.{syntax, deep, wide}
use Rattle.bpl_grammar.specs.Fault.{lexical, marked}
use Rattle.bpl_grammar.specs.Programs.{SpellsProgram}
use Rattle.bpl_grammar.specs.ReadPrograms.{read_text}
use Rattle.bpl_grammar.proofs.ProgramFaults.{programs_are_exact}
use Rattle.bpl_parse.specs.Program.{IsRead, IsFaultOf}
use Rattle.bpl_parse.specs.declared.fault.Fault.{Fault}
use Rattle.bpl_parse.specs.declared.fault.Fault.TheVariants.{Lex, Syntax, Deep, Wide, Memory}

module _ (bytes : List ℕ) where
  pub spelled : (ds : List Decl) → read_text bytes ≡ Ok ds → SpellsProgram bytes ds
  spelled ds h = (programs_are_exact bytes).reads ds h

  pub faulty : (f : Fault) → IsRead (read_text bytes) (Err f) → IsFaultOf bytes f
  faulty Memory h = tt
  faulty (Lex at) h = (programs_are_exact bytes).refuses (lexical at) h
  faulty (Syntax at) h = (programs_are_exact bytes).refuses (marked syntax at) h
  faulty (Deep at) h = (programs_are_exact bytes).refuses (marked deep at) h
  faulty (Wide at) h = (programs_are_exact bytes).refuses (marked wide at) h

  pub refused : {A : Type 0} (r : Result A Fault) (e : Fault) → IsErrAnd r (λ x. x ≡ e) → IsRead (read_text bytes) (Err e) → IfErr r (λ f. IsFaultOf bytes f)
  refused (Ok a) e h g = absurd h
  refused (Err x) e h g = rw h (faulty e g)

  pub spells : (r : Result (Vec Decl Global) Fault) → IsRead (read_text bytes) r → IfOk r (λ decls. SpellsProgram bytes decls.items)
  spells (Ok decls) h = spelled decls.items h
  spells (Err f) h = tt

  pub has_fault : (r : Result (Vec Decl Global) Fault) → IsRead (read_text bytes) r → IfErr r (λ f. IsFaultOf bytes f)
  has_fault (Ok decls) h = tt
  has_fault (Err f) h = faulty f h
