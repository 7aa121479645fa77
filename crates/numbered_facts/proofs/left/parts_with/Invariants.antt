use Rattle.std.proofs.Common.{◌≡◌, ◌+◌, ◌≤◌, drop}
use Rattle.logic_core.specs.View.{parts_of}
use Rattle.tableau_branch.specs.Oriented.{parts_with}
use Rattle.term_bank.specs.Numbered.{at}
use Rattle.numbered_terms.specs.Lists.{atoms_at}
use Rattle.numbered_facts.proofs.left.parts_with.Given as goal

abbrev pub invariant-loop-part : goal.invariant-loop-part
invariant-loop-part l = record {
  count : l.count + parts_with (at l.terms l.id) (parts_of (atoms_at l.terms (drop l.part-index l.parts))) ≡ parts_with (at l.terms l.id) (parts_of (atoms_at l.terms l.parts));
  fits : l.count ≤ l.part-index;
}
