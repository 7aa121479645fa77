-- Parts of declarations, as reading sees them.
use Rattle.std.specs.Prelude.{Vec, List, Option}
use Rattle.std.specs.declared.alloc.Global.{Global}
use Rattle.bpl_ast.specs.Statement.{Spec, Body}

-- the clauses of a procedure's contract, and its body
abbrev pub contract_seen : Vec Spec Global × Option Body → List Spec × Option Body
contract_seen c = (c.0.items, c.1)
