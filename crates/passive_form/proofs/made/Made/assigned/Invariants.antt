use Rattle.std.proofs.Common.{◌≡◌, length}
use Rattle.std.specs.Vec.Iter.{into_iter_items, into_iter_len}
use Rattle.passive_form.specs.Incarnations.{assigned}
use Rattle.passive_form.proofs.made.Made.assigned.Given as goal

-- with the targets that are left comes what all make
abbrev pub invariant-loop-variable : goal.invariant-loop-variable
invariant-loop-variable l = record {
  left : assigned l.self (into_iter_items l.variable-iterator) ≡ assigned l.fn.self l.fn.pairs.items;
  counted : into_iter_len l.variable-iterator ≡ length (into_iter_items l.variable-iterator);
}
