use Rattle.std.proofs.Common.{◌≡◌, drop}
use Rattle.bpl_dependencies.specs.AppliedView.{texts_seen}
use Rattle.bpl_declaration_faults.specs.DeclFaults.{same_texts}
use Rattle.body_revision.proofs.values.same_texts.Given as goal

abbrev pub invariant-loop-i : goal.invariant-loop-i
invariant-loop-i l = same_texts (texts_seen (drop l.i l.mine)) (texts_seen (drop l.i l.theirs)) ≡ same_texts (texts_seen l.mine) (texts_seen l.theirs)
