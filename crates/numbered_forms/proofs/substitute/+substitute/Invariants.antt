use Rattle.std.proofs.Common.{◌+◌, ◌*◌, take}
use Rattle.std.specs.List.{AllByRecursion}
use Rattle.logic_core.specs.Substitute.{put_within}
use Rattle.term_bank.specs.Numbered.{Begins}
use Rattle.numbered_terms.specs.Lists.{terms_at}
use Rattle.numbered_terms.specs.Renumbered.{IsFound, AreFound, Covers}
use Rattle.numbered_forms.proofs.substitute.+substitute.Given as goal

abbrev pub decreases-put_in : goal.decreases-put_in
decreases-put_in l = 5 * l.id + 4

abbrev pub decreases-put_term : goal.decreases-put_term
decreases-put_term l = 5 * l.id + 3

abbrev pub decreases-put_under : goal.decreases-put_under
decreases-put_under l = 5 * l.id + 2

abbrev pub decreases-put_node : goal.decreases-put_node
decreases-put_node l = 5 * l.id + 1

abbrev pub decreases-put_each : goal.decreases-put_each
decreases-put_each l = 5 * l.below

abbrev pub invariant-put_each-loop-id : goal.invariant-put_each-loop-id
invariant-put_each-loop-id l = record {
  grows : Begins l.fn.terms l.terms;
  right : AreFound (put_within (terms_at l.fn.terms l.args) l.depth) l.terms l.found.entries;
  covers : Covers l.fn.found.entries l.found.entries;
  found : AllByRecursion (IsFound (put_within (terms_at l.fn.terms l.args) l.depth) l.terms l.found.entries) (take l.id-index l.ids);
}
