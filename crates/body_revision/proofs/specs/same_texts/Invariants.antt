use Rattle.std.proofs.Common.{◌≡◌, drop}
use Rattle.bpl_scopes.specs.Scopes.{texts_of}
use Rattle.bpl_faults.specs.Arguments.{names_seen}
use Rattle.bpl_declaration_faults.specs.DeclFaults.{same_texts}
use Rattle.body_revision.proofs.specs.same_texts.Given as goal

abbrev pub invariant-loop-i : goal.invariant-loop-i
invariant-loop-i l = same_texts (texts_of (names_seen (drop l.i l.mine))) (texts_of (names_seen (drop l.i l.theirs))) ≡ same_texts (texts_of (names_seen l.mine)) (texts_of (names_seen l.theirs))
