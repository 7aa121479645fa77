-- What is said of a fault: its byte, and the name of its kind.
use Rattle.std.specs.Prelude.{ℕ, List, Option, Some, None, codes}
use Rattle.bpl_parse.specs.declared.fault.Fault.{Fault}
use Rattle.bpl_parse.specs.declared.fault.Fault.TheVariants.{Lex, Syntax, Deep, Wide, Memory}

abbrev pub byte_of : Fault → Option ℕ
byte_of (Lex at) = Some at
byte_of (Syntax at) = Some at
byte_of (Deep at) = Some at
byte_of (Wide at) = Some at
byte_of Memory = None

abbrev pub name_of : Fault → List ℕ
name_of (Lex at) = codes "Lex"
name_of (Syntax at) = codes "Syntax"
name_of (Deep at) = codes "Deep"
name_of (Wide at) = codes "Wide"
name_of Memory = codes "Memory"
