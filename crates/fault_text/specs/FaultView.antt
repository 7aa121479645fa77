-- What the code's faults are, written.
use Rattle.std.specs.Prelude.{◌≡◌, ⊤, ℕ, ◌-◌, ◌^◌, ◌<◌, List, length}
use Rattle.std.specs.List.{All}
use Rattle.bpl_ast.specs.Statement.{Decl}
use Rattle.bpl_parse.specs.declared.fault.Fault.{Fault}
use Rattle.bpl_parse.specs.declared.fault.Fault.TheVariants.{Lex, Syntax, Deep, Wide, Memory}
use Rattle.bpl_grammar.specs.Judge.{syntax, deep, wide}
use Rattle.bpl_grammar.specs.Fault.{lexical, marked}
use Rattle.fault_text.specs.Written.{Written}
use Rattle.fault_text.specs.WrittenFault.{text_fault}

-- a text's fault, written; of want of memory nothing is said
abbrev pub IsWrittenOf : List ℕ → Fault → Written → Type 0
IsWrittenOf text (Lex at) w = w ≡ text_fault text (lexical at)
IsWrittenOf text (Syntax at) w = w ≡ text_fault text (marked syntax at)
IsWrittenOf text (Deep at) w = w ≡ text_fault text (marked deep at)
IsWrittenOf text (Wide at) w = w ≡ text_fault text (marked wide at)
IsWrittenOf text Memory w = ⊤

-- the bytes of each declaration can be told by numbers of 32 bits
abbrev pub SourcesAreShort : List Decl → Type 0
SourcesAreShort ds = All (λ d. length d.source < 2 ^ 32 - 1) ds
