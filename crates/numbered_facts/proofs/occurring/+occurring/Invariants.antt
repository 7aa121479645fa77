use Rattle.std.proofs.Common.{◌≡◌, ◌+◌, ◌*◌, ◌||◌, Bool, take}
use Rattle.std.specs.List.{list_any}
use Rattle.logic_core.specs.Tree.{Tree}
use Rattle.logic_core.specs.Subterm.{has}
use Rattle.term_bank.specs.Numbered.{at}
use Rattle.numbered_facts.specs.Inside.{picks_one, AreWhole}
use Rattle.numbered_facts.proofs.occurring.+occurring.Given as goal

abbrev pub decreases-find_in : goal.decreases-find_in
decreases-find_in l = 2 * l.id + 1

abbrev pub decreases-find_each : goal.decreases-find_each
decreases-find_each l = 2 * l.below

abbrev pub invariant-find_each-loop-id : goal.invariant-find_each-loop-id
invariant-find_each-loop-id l = record {
  whole : AreWhole l.terms l.found;
  picks : (p : Tree → Bool) → picks_one p l.terms l.found ≡ (picks_one p l.terms l.fn.found || list_any (λ i. has p (at l.terms i)) (take l.id-index l.ids));
}
