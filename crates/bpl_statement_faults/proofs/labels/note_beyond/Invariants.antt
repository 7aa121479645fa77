use Rattle.std.proofs.Common.{◌≡◌, drop, filter}
use Rattle.bpl_ast.specs.Place.{Name}
use Rattle.bv_base.specs.Text.{is_among}
use Rattle.bpl_faults.specs.Arguments.{names_seen}
use Rattle.bpl_statement_faults.specs.Limits.{label_limit}
use Rattle.bpl_statement_faults.specs.StmtFaults.{first_label_faults}
use Rattle.bpl_statement_faults.proofs.labels.note_beyond.Given as goal

abbrev pub invariant-loop-label : goal.invariant-loop-label
invariant-loop-label l = record {
  found : l.faults.first ≡ l.fn.faults.first;
  rest : first_label_faults (drop l.left (filter (λ (n : Name). is_among l.named n.text) (names_seen (drop l.label-index l.labels)))) ≡ first_label_faults (drop label_limit (filter (λ (n : Name). is_among l.named n.text) (names_seen l.labels)));
}
