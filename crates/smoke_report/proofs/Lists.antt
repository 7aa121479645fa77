-- Lists of statements with one statement more.
use Rattle.std.proofs.Common.{◌≡◌, refl, ap, List, [], ◌∷◌, ◌++◌}
use Rattle.bpl_model.specs.Module.{Stmt, Stmts, no_stmts, stmt}
use Rattle.bpl_model.specs.StmtView.{stmts_of}
use Rattle.bpl_model.specs.Cut.{append, one}

pub one_more : (ss : List Stmt) (s : Stmt) → stmts_of (ss ++ s ∷ []) ≡ append (stmts_of ss) (one s)
one_more [] s = refl
one_more (t ∷ ss) s = ap (stmt t) (one_more ss s)

pub one_before : (ss : List Stmt) (s : Stmt) (rest : Stmts) → append (stmts_of (ss ++ s ∷ [])) rest ≡ append (stmts_of ss) (stmt s rest)
one_before [] s rest = refl
one_before (t ∷ ss) s rest = ap (stmt t) (one_before ss s rest)

pub append_none : (ss : Stmts) → append ss no_stmts ≡ ss
append_none no_stmts = refl
append_none (stmt s ss) = ap (stmt s) (append_none ss)
