-- A statement inside a statement is smaller.
use Rattle.std.specs.Prelude.{◌≡◌, ◌+◌, ◌≤◌, max, List, [], ◌∷◌, Option, Some, None}
use Rattle.std.proofs.Common.{arith}
use Rattle.bv_base.specs.declared.place.Place.{Place}
use Rattle.bpl_ast.specs.Tree.{Expr}
use Rattle.bpl_ast.specs.Statement.{Stmt, Branches, no_branch}
use Rattle.bpl_ast.specs.Nodes.{stmt_nodes, action_nodes, branches_nodes, stmts_nodes}
use Rattle.bpl_ast.specs.StmtView.{stmts_of, last_of, each_branch, branches_from, branches_of, action_of}
use Rattle.bpl_ast.specs.declared.stmt.Branch.{Branch}
use Rattle.bpl_ast.specs.declared.stmt.StmtForm.{StmtForm}
use Rattle.bpl_ast.specs.declared.stmt.StmtForm.TheVariants.{Assert, Assume, Havoc, Assign, Call, If, While, Break, Return, Goto}
use denote.Param.Weighed.{most}
use Rattle.bpl_ast.specs.declared.stmt.Stmt.TheDeep.{deep-StmtForm, deep-Branch}

most_stmts : (ss : List Stmt) → most (λ y. stmt_nodes y + 1) ss ≤ stmts_nodes (stmts_of ss) + 1
most_stmts [] = omega arith
most_stmts (s ∷ ss) = omega (arith, most_stmts ss)

most_branches : (bs : List Branch) (last : Branches) → most deep-Branch bs ≤ branches_nodes (branches_of bs last) + 1
most_branches [] last = omega arith
most_branches (b ∷ bs) last = omega (arith, most_stmts b.body.items, most_branches bs last)

-- the branches and the block of the last `else` are counted apart
pub last_counts : (bs : List (Place × (Option Expr × List Stmt))) (last : Branches) → branches_nodes (branches_from bs last) ≡ branches_nodes (branches_from bs no_branch) + branches_nodes last
last_counts [] last = omega arith
last_counts (b ∷ bs) last = omega (arith, last_counts bs last)

pub stmt_falls : (f : StmtForm) → max (deep-StmtForm f) 0 ≤ action_nodes (action_of f)
stmt_falls (Assert x) = omega arith
stmt_falls (Assume x) = omega arith
stmt_falls (Havoc ns) = omega arith
stmt_falls (Assign ts xs) = omega arith
stmt_falls (Call ns f xs) = omega arith
stmt_falls (If bs None) = omega (arith, most_branches bs.items (last_of None))
stmt_falls (If bs (Some ss)) = omega (arith, most_branches bs.items (last_of (Some ss)), last_counts (each_branch bs.items) (last_of (Some ss)), most_stmts ss.items)
stmt_falls (While g is ss) = omega (arith, most_stmts ss.items)
stmt_falls (Break l) = omega arith
stmt_falls Return = omega arith
stmt_falls (Goto ns) = omega arith
