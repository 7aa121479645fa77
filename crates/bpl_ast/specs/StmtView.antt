-- What a statement of the code stands for.
use Rattle.std.specs.Prelude.{Vec, List, [], ◌∷◌, map, Option, Some, None}
use Rattle.std.specs.declared.alloc.Global.{Global}
use Rattle.bv_base.specs.declared.place.Place.{Place}
use Rattle.bpl_ast.specs.Tree.{Expr}
use Rattle.bpl_ast.specs.ExprView.{exprs_of}
use Rattle.bpl_ast.specs.Statement.{Stmt, Action, assert, assume, havoc, assign, call, branches, loop, «break», «return», goto, Branches, branch, otherwise, no_branch, Stmts, no_stmts, next}
use Rattle.bpl_ast.specs.declared.stmt.Branch.{Branch}
use Rattle.bpl_ast.specs.declared.stmt.StmtForm.{StmtForm}
use Rattle.bpl_ast.specs.declared.stmt.StmtForm.TheVariants.{Assert, Assume, Havoc, Assign, Call, If, While, Break, Return, Goto}

abbrev pub stmts_of : List Stmt → Stmts
stmts_of [] = no_stmts
stmts_of (s ∷ ss) = next s (stmts_of ss)

abbrev pub last_of : Option (Vec Stmt Global) → Branches
last_of None = no_branch
last_of (Some ss) = otherwise (stmts_of ss.items)

-- what each branch says
abbrev pub each_branch : List Branch → List (Place × (Option Expr × List Stmt))
each_branch bs = map (λ b. (b.at, (b.guard, b.body.items))) bs

abbrev pub branches_from : List (Place × (Option Expr × List Stmt)) → Branches → Branches
branches_from [] last = last
branches_from (b ∷ bs) last = branch b.0 b.1.0 (stmts_of b.1.1) (branches_from bs last)

abbrev pub branches_of : List Branch → Branches → Branches
branches_of bs last = branches_from (each_branch bs) last

abbrev pub action_of : StmtForm → Action
action_of (Assert x) = assert x
action_of (Assume x) = assume x
action_of (Havoc ns) = havoc ns.items
action_of (Assign ts xs) = assign ts.items (exprs_of xs.items)
action_of (Call ns f xs) = call ns.items f (exprs_of xs.items)
action_of (If bs last) = branches (branches_of bs.items (last_of last))
action_of (While g is ss) = loop g is.items (stmts_of ss.items)
action_of (Break l) = «break» l
action_of Return = «return»
action_of (Goto ns) = goto ns.items
