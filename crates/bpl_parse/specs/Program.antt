-- What reading a program answers.
use Rattle.std.specs.Prelude.{◌≡◌, ℕ, ◌-◌, ◌≤◌, List, length, Vec, Result, Ok, Err}
use Rattle.std.specs.declared.alloc.Global.{Global}
use Rattle.bpl_lex.specs.Token.{Token}
use Rattle.bpl_lex.specs.declared.faults.LexFault.{LexFault}
use Rattle.bpl_lex.specs.declared.faults.LexFault.TheVariants.{Memory as NoMemory, Lex as NoToken}
use Rattle.bpl_ast.specs.Statement.{Decl}
use Rattle.bpl_ast.specs.declared.decl.DeclBody.{DeclBody}
use Rattle.bpl_ast.specs.DeclView.{body_of}
use Rattle.bpl_grammar.specs.Lexeme.{Lexeme}
use Rattle.bpl_grammar.specs.Judge.{Mark, syntax, deep, wide}
use Rattle.bpl_grammar.specs.Part.{rule, program}
use Rattle.bpl_grammar.specs.Fault.{Fault as Told, lexical, marked, HasFault}
use Rattle.bpl_grammar.specs.ReadPrograms.{read_first}
use Rattle.bpl_parse.specs.declared.fault.Fault.{Fault}
use Rattle.bpl_parse.specs.declared.fault.Fault.TheVariants.{Lex, Syntax, Deep, Wide, Memory}
use Rattle.bpl_parse.specs.declared.stop.Stop.{Stop}
use Rattle.bpl_parse.specs.declared.stop.Stop.TheVariants.{Memory as Starved, Syntax as Stuck, Deep as Sunk, Wide as Broad}

abbrev pub of_lexer : LexFault → Fault
of_lexer NoMemory = Memory
of_lexer (NoToken at) = Lex at

-- why reading stops, at that byte
abbrev pub stopped : Stop → ℕ → Fault
stopped Starved at = Memory
stopped Stuck at = Syntax at
stopped Sunk at = Deep at
stopped Broad at = Wide at

-- what is read is this, or memory ran out
abbrev pub IsRead : Result (List Decl) Told → Result (Vec Decl Global) Fault → Type 0
IsRead there (Ok decls) = there ≡ Ok decls.items
IsRead there (Err Memory) = Unit {0}
IsRead there (Err (Lex at)) = there ≡ Err (lexical at)
IsRead there (Err (Syntax at)) = there ≡ Err (marked syntax at)
IsRead there (Err (Deep at)) = there ≡ Err (marked deep at)
IsRead there (Err (Wide at)) = there ≡ Err (marked wide at)

-- the text has this fault, where it is one of the text
abbrev pub IsFaultOf : List ℕ → Fault → Type 0
IsFaultOf bytes Memory = Unit {0}
IsFaultOf bytes (Lex at) = HasFault (rule program) bytes (lexical at)
IsFaultOf bytes (Syntax at) = HasFault (rule program) bytes (marked syntax at)
IsFaultOf bytes (Deep at) = HasFault (rule program) bytes (marked deep at)
IsFaultOf bytes (Wide at) = HasFault (rule program) bytes (marked wide at)

-- the first declaration is read, or that is where it stops, so many tokens on
abbrev pub StopsBehind : List ℕ → List Token → Mark → ℕ → Type 0
StopsBehind bytes ts m n = (left : List Lexeme) × (read_first bytes ts ≡ Err (m, left)) × (n ≡ length ts - length left)

abbrev pub GivesFirst : List ℕ → List Token → Result DeclBody Stop → ℕ → Type 0
GivesFirst bytes ts (Ok b) n = (left : List Lexeme) × (read_first bytes ts ≡ Ok (body_of b, left)) × (n ≡ length ts - length left)
GivesFirst bytes ts (Err Starved) n = n ≤ length ts
GivesFirst bytes ts (Err Stuck) n = StopsBehind bytes ts syntax n
GivesFirst bytes ts (Err Sunk) n = StopsBehind bytes ts deep n
GivesFirst bytes ts (Err Broad) n = StopsBehind bytes ts wide n
