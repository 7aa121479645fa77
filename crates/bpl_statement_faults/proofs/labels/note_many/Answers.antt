use Rattle.std.proofs.Common.{◌∙◌, ap, ◌++◌, drop, filter}
use Rattle.bpl_ast.specs.Place.{Name}
use Rattle.bpl_ast.specs.StmtView.{stmts_of}
use Rattle.bv_base.specs.Text.{is_among}
use Rattle.bpl_scopes.specs.Fault.{earlier, first_fault}
use Rattle.bpl_statement_faults.specs.Limits.{label_limit}
use Rattle.bpl_statement_faults.specs.StmtFaults.{goto_labels, first_label_faults}
use Rattle.bpl_statement_faults.proofs.labels.note_many.Goals as goal

pub returns : goal.returns
returns c =
    c.note_beyond.ensures
    ∙ (λ i. earlier c.args.faults.now.first (first_fault (first_label_faults (drop label_limit (filter (λ (n : Name). is_among ((c.in_ok-push_gotos.ensures ∙ ap (λ l. l ++ goto_labels (stmts_of c.args.stmts.now)) c.new-named.ensures) i) n.text) (c.requires i))))))
