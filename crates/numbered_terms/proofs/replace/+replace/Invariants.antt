use Rattle.std.proofs.Common.{◌+◌, ◌*◌, take}
use Rattle.std.specs.List.{AllByRecursion}
use Rattle.logic_core.specs.Subterm.{replaced}
use Rattle.term_bank.specs.Numbered.{at, Begins}
use Rattle.numbered_terms.specs.Renumbered.{IsFound, AreFound, Covers}
use Rattle.numbered_terms.proofs.replace.+replace.Given as goal

abbrev pub decreases-replace_in : goal.decreases-replace_in
decreases-replace_in l = 3 * l.id + 2

abbrev pub decreases-replace_node : goal.decreases-replace_node
decreases-replace_node l = 3 * l.id + 1

abbrev pub decreases-replace_each : goal.decreases-replace_each
decreases-replace_each l = 3 * l.below

abbrev pub invariant-replace_each-loop-id : goal.invariant-replace_each-loop-id
invariant-replace_each-loop-id l = record {
  grows : Begins l.fn.terms l.terms;
  right : AreFound (replaced (at l.fn.terms l.old) (at l.fn.terms l.new)) l.terms l.found.entries;
  covers : Covers l.fn.found.entries l.found.entries;
  found : AllByRecursion (IsFound (replaced (at l.fn.terms l.old) (at l.fn.terms l.new)) l.terms l.found.entries) (take l.id-index l.ids);
}
