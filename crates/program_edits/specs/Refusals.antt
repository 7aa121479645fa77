-- What the code's answers to an edit say, and what a request has to be.
use Rattle.std.specs.Prelude.{◌≡◌, ⊤, ℕ, ◌-◌, ◌^◌, ◌<◌, List, [], ◌∷◌, map, length, option_map, Result, Ok, Err, string_bytes}
use Rattle.std.specs.List.{All}
use Rattle.bpl_ast.specs.Statement.{Decl}
use Rattle.bpl_grammar.specs.Judge.{syntax, deep, wide}
use Rattle.bpl_grammar.specs.Fault.{Fault as Told, lexical, marked}
use Rattle.bpl_grammar.specs.ReadPrograms.{read_text}
use Rattle.bpl_parse.specs.declared.fault.Fault.{Fault}
use Rattle.bpl_parse.specs.declared.fault.Fault.TheVariants.{Lex, Syntax, Deep, Wide, Memory as Starved}
use Rattle.fault_text.specs.WrittenFault.{text_fault}
use Rattle.request_text.specs.Request.{Request, open_text, edit, status, report, sums, proofs, quit}
use Rattle.program_edits.specs.Edited.{Edited, lacking, faulty, other_name, Texts, IsEdited}
use Rattle.program_edits.specs.declared.fault.EditFault.{EditFault}
use Rattle.program_edits.specs.declared.fault.EditFault.TheVariants.{Absent, Parse, Name, Memory}

-- a parser's fault, of a text
abbrev pub IsTold : Fault → Told → Type 0
IsTold (Lex at) f = f ≡ lexical at
IsTold (Syntax at) f = f ≡ marked syntax at
IsTold (Deep at) f = f ≡ marked deep at
IsTold (Wide at) f = f ≡ marked wide at
IsTold Starved f = ⊥

-- the refusal that is told; want of memory tells none
abbrev pub Tells : EditFault → Edited → Type 0
Tells (Absent name) e = e ≡ lacking (string_bytes name)
Tells (Parse put fault written) e = (text : List ℕ) × (f : Told) × (e ≡ faulty (option_map string_bytes put) text f) × IsTold fault f × (written ≡ text_fault text f)
Tells (Name name) e = e ≡ other_name (string_bytes name)
Tells Memory e = ⊤

-- the edit is refused so
abbrev pub IsRefused : List Decl → Request → EditFault → Type 0
IsRefused old r fault = (e : Edited) × IsEdited old r e × Tells fault e

-- where there is a refusal it is told, and else memory ran out
abbrev pub RefusedBy : {A : Type 0} → Result A Edited → EditFault → Type 0
RefusedBy (Ok a) fault = fault ≡ Memory
RefusedBy (Err e) fault = Tells fault e

-- an open or an edit
abbrev pub IsChange : Request → Type 0
IsChange (open_text text) = ⊤
IsChange (edit puts drops) = ⊤
IsChange status = ⊥
IsChange report = ⊥
IsChange sums = ⊥
IsChange proofs = ⊥
IsChange quit = ⊥

abbrev pub texts_of : Request → List (List ℕ)
texts_of (open_text text) = text ∷ []
texts_of (edit puts drops) = map (λ p. p.text) puts
texts_of status = []
texts_of report = []
texts_of sums = []
texts_of proofs = []
texts_of quit = []

-- the bytes of each text can be told by numbers of 32 bits
abbrev pub TextsAreShort : Request → Type 0
TextsAreShort r = All (λ text. length text < 2 ^ 32 - 1) (texts_of r)

-- what the parser makes of each text
unfoldable pub reading : Texts
reading = read_text
