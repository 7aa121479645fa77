-- What a statement of the code stands for.
use Rattle.std.specs.Prelude.{Vec, List, [], ◌∷◌, Option, Some, None}
use Rattle.std.specs.declared.alloc.Global.{Global}
use Rattle.bpl_model.specs.Module.{Stmt, assert, assume, havoc, assign, call, if_else, while, break, return, goto, labelled, Stmts, no_stmts, stmt}
use Rattle.bpl_model.specs.declared.stmt.StmtForm.{StmtForm}
use Rattle.bpl_model.specs.declared.stmt.StmtForm.TheVariants.{Assert, Assume, Havoc, Assign, Call, If, While, Break, Return, Goto, Labelled}

abbrev pub stmts_of : List Stmt → Stmts
stmts_of [] = no_stmts
stmts_of (s ∷ ss) = stmt s (stmts_of ss)

abbrev pub stmt_of : StmtForm → Stmt
stmt_of (Assert mark E) = assert mark E
stmt_of (Assume at E) = assume at E
stmt_of (Havoc at xs) = havoc at xs.items
stmt_of (Assign at ps) = assign at ps.items
stmt_of (Call at q es xs) = call at q es.items xs.items
stmt_of (If at has_else g ss ts) = if_else at has_else g (stmts_of ss.items) (stmts_of ts.items)
stmt_of (While at g is ss) = while at g is.items (stmts_of ss.items)
stmt_of (Break at l) = break at l
stmt_of (Return at) = return at
stmt_of (Goto at ls) = goto at ls.items
stmt_of (Labelled ls s) = labelled ls.items s.value

-- the statements of a body, where there is one
abbrev pub body_of : Option (Vec Stmt Global) → Option Stmts
body_of None = None
body_of (Some ss) = Some (stmts_of ss.items)
