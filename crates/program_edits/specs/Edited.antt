-- The declarations after an open or an edit, or why it is refused.
use Rattle.std.specs.Prelude.{◌≡◌, ℕ, not, List, [], ◌∷◌, find, Option, Some, None, Result, Ok, Err, ok_or}
use Rattle.bpl_ast.specs.Statement.{Decl}
use Rattle.bpl_grammar.specs.Part.{rule, program}
use Rattle.bpl_grammar.specs.Fault.{Fault, HasFault}
use Rattle.bpl_grammar.specs.Programs.{SpellsProgram}
use Rattle.bv_base.specs.Text.{is_among}
pub use Rattle.program_edits.specs.Applied.{is_axiom, is_digit, is_count, is_axiom_name, declares, the_one, renamed, numbered, names, in_place, applied}
use Rattle.request_text.specs.Request.{Put, Request, open_text, edit, status, report, sums, proofs, quit}

pub data Edited : Type 0 where
  -- the new declarations
  edited : List Decl → Edited
  -- the first dropped name that the program lacks
  lacking : List ℕ → Edited
  -- a text's fault, with the put's name where it is a put's
  faulty : Option (List ℕ) → List ℕ → Fault → Edited
  -- the put whose text isn't exactly one declaration of its name
  other_name : List ℕ → Edited

-- what a text spells: declarations, or its fault
abbrev pub IsReadAs : List ℕ → Result (List Decl) Fault → Type 0
IsReadAs text (Ok ds) = SpellsProgram text ds
IsReadAs text (Err f) = HasFault (rule program) text f

-- what each text spells
abbrev pub Texts : Type 0
Texts = List ℕ → Result (List Decl) Fault

abbrev pub TellsTexts : Texts → Type 0
TellsTexts spelled = (text : List ℕ) → IsReadAs text (spelled text)

abbrev pub put_as : Put → Result (List Decl) Fault → Result Decl Edited
put_as p (Err f) = Err (faulty (Some p.name) p.text f)
put_as p (Ok ds) = ok_or (the_one p.name ds) (other_name p.name)

-- a declaration, and then the others; or the first refusal
abbrev pub and_then : Result Decl Edited → Result (List Decl) Edited → Result (List Decl) Edited
and_then (Err e) rest = Err e
and_then (Ok d) (Err e) = Err e
and_then (Ok d) (Ok ds) = Ok (d ∷ ds)

abbrev pub after_puts : List Decl → Result (List Decl) Edited → List (List ℕ) → Edited
after_puts old (Err e) drops = e
after_puts old (Ok puts) drops = edited (numbered 0 (applied old puts drops))

abbrev pub opened : List ℕ → Result (List Decl) Fault → Edited
opened text (Ok ds) = edited ds
opened text (Err f) = faulty None text f

-- by what each text spells
module _ (spelled : Texts) where
  abbrev pub puts_of : List Put → Result (List Decl) Edited
  puts_of [] = Ok []
  puts_of (p ∷ ps) = and_then (put_as p (spelled p.text)) (puts_of ps)

  abbrev pub unless_lacking : Option (List ℕ) → List Decl → List Put → List (List ℕ) → Edited
  unless_lacking (Some n) old puts drops = lacking n
  unless_lacking None old puts drops = after_puts old (puts_of puts) drops

  -- a dropped name that the program lacks comes before all that is wrong with puts
  abbrev pub changed : List Decl → List Put → List (List ℕ) → Edited
  changed old puts drops = unless_lacking (find (λ n. not (is_among (names old) n)) drops) old puts drops

  -- only an open and an edit change declarations
  abbrev pub edited_by : List Decl → Request → Option Edited
  edited_by old (open_text text) = Some (opened text (spelled text))
  edited_by old (edit puts drops) = Some (changed old puts drops)
  edited_by old status = None
  edited_by old report = None
  edited_by old sums = None
  edited_by old proofs = None
  edited_by old quit = None

-- the request makes this of the declarations; names are those before it, where the k-th axiom is `@k`
abbrev pub IsEdited : List Decl → Request → Edited → Type 0
IsEdited old r e = (spelled : Texts) × TellsTexts spelled × (edited_by spelled old r ≡ Some e)
