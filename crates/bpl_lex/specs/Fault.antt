-- When a fault is the right answer. Memory may run out at any text.
use Rattle.std.specs.Prelude.{◌≡◌, ℕ, ◌<◌, List, length, Err}
use Rattle.bpl_lex.specs.Lexing.{tokens}
use Rattle.bpl_lex.specs.declared.faults.LexFault.{LexFault}
use Rattle.bpl_lex.specs.declared.faults.LexFault.TheVariants.{Memory, Lex}

-- the fault of the text, where it is one of the text
abbrev pub IsFaultOf : List ℕ → LexFault → Type 0
IsFaultOf text Memory = Unit {0}
IsFaultOf text (Lex at) = tokens text ≡ Err at

-- the fault's place lies in the text
abbrev pub IsInside : List ℕ → LexFault → Type 0
IsInside text Memory = Unit {0}
IsInside text (Lex at) = at < length text
