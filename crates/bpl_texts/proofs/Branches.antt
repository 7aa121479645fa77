-- The names in branches, and then those in the last one.
use Rattle.std.proofs.Common.{◌≡◌, refl, sym, ap, ◌∙◌, List, [], ◌∷◌, ◌++◌, Option}
use Rattle.std.proofs.lemmas.List.{append_assoc}
use Rattle.bv_base.specs.declared.place.Place.{Place}
use Rattle.bpl_ast.specs.Tree.{Expr}
use Rattle.bpl_ast.specs.Statement.{Branches, no_branch}
use Rattle.bpl_ast.specs.StmtView.{stmts_of, branches_from}
use Rattle.bpl_ast.specs.declared.stmt.Stmt.{Stmt}
use Rattle.bpl_scopes.specs.Scopes.{Text}
use Rattle.bpl_texts.specs.Uses.{guard_uses, stmts_uses, branches_uses}

pub branches_split : (h : List Text) (bs : List (Place × (Option Expr × List Stmt))) (last : Branches) → branches_uses h (branches_from bs last) ≡ branches_uses h (branches_from bs no_branch) ++ branches_uses h last
branches_split h [] last = refl
branches_split h (b ∷ bs) last = ap (λ l. guard_uses h b.1.0 ++ (stmts_uses h (stmts_of b.1.1) ++ l)) (branches_split h bs last)
    ∙ ap (λ l. guard_uses h b.1.0 ++ l) (sym (append_assoc (stmts_uses h (stmts_of b.1.1)) (branches_uses h (branches_from bs no_branch)) (branches_uses h last)))
    ∙ sym (append_assoc (guard_uses h b.1.0) (stmts_uses h (stmts_of b.1.1) ++ branches_uses h (branches_from bs no_branch)) (branches_uses h last))
