use Rattle.std.proofs.Common.{ap, sym, ◌∙◌, ◌++◌}
use Rattle.std.proofs.lemmas.List.{append_assoc}
use Rattle.bpl_ast.specs.Statement.{no_branch}
use Rattle.bpl_ast.specs.StmtView.{each_branch, branches_from, last_of}
use Rattle.bpl_dependencies.specs.AppliedView.{texts_seen, variables_seen}
use Rattle.bpl_texts.specs.Uses.{branches_uses}
use Rattle.bpl_texts.proofs.Branches.{branches_split}
use Rattle.bpl_texts.proofs.expr_uses.Uses.+stmts.Goals as goal

pub note_if-returns : goal.note_if-returns
note_if-returns t c =
    let h = variables_seen c.args.variables.now in
    let found = texts_seen c.args.self.now.names.items in
    let bs = each_branch c.args.branches.now in
    let last = last_of c.args.last.now in
    c.in_ok-note_last.ensures
    ∙ ap (λ l. l ++ branches_uses h last) c.in_ok-note_branches.ensures
    ∙ append_assoc found (branches_uses h (branches_from bs no_branch)) (branches_uses h last)
    ∙ ap (λ l. found ++ l) (sym (branches_split h bs last))
