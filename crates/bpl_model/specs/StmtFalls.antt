-- A statement inside a statement is smaller.
use Rattle.std.specs.Prelude.{◌+◌, ◌≤◌, max, List, [], ◌∷◌}
use Rattle.std.proofs.Common.{arith}
use Rattle.bpl_model.specs.Module.{Stmt}
use Rattle.bpl_model.specs.Nodes.{stmt_nodes, stmts_nodes}
use Rattle.bpl_model.specs.StmtView.{stmts_of, stmt_of}
use Rattle.bpl_model.specs.declared.stmt.StmtForm.{StmtForm}
use Rattle.bpl_model.specs.declared.stmt.StmtForm.TheVariants.{Assert, Assume, Havoc, Assign, Call, If, While, Break, Return, Goto, Labelled}
use denote.Param.Weighed.{most}
use Rattle.bpl_model.specs.declared.stmt.Stmt.TheDeep.{deep-StmtForm}

most_stmts : (ss : List Stmt) → most (λ y. stmt_nodes y + 1) ss ≤ stmts_nodes (stmts_of ss) + 1
most_stmts [] = omega arith
most_stmts (s ∷ ss) = omega (arith, most_stmts ss)

pub stmt_falls : (f : StmtForm) → max (deep-StmtForm f) 0 ≤ stmt_nodes (stmt_of f)
stmt_falls (Assert mark E) = omega arith
stmt_falls (Assume at E) = omega arith
stmt_falls (Havoc at xs) = omega arith
stmt_falls (Assign at ps) = omega arith
stmt_falls (Call at q es xs) = omega arith
stmt_falls (If at has_else g ss ts) = omega (arith, most_stmts ss.items, most_stmts ts.items)
stmt_falls (While at g is ss) = omega (arith, most_stmts ss.items)
stmt_falls (Break at l) = omega arith
stmt_falls (Return at) = omega arith
stmt_falls (Goto at ls) = omega arith
stmt_falls (Labelled ls s) = omega arith
