use Rattle.term_bank.specs.Numbered.{at}
use Rattle.logic_core.proofs.AtomAdded.{Past}
use Rattle.numbered_terms.specs.Lists.{atoms_at}
use Rattle.numbered_forms.proofs.sum.add_atom.Given as goal

abbrev pub invariant-loop-i : goal.invariant-loop-i
invariant-loop-i l = Past l.fn.k (at l.terms l.id) (atoms_at l.terms l.parts.items) l.i
