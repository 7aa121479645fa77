use Rattle.std.proofs.Common.{◌≡◌, ◌++◌, take}
use Rattle.numbered_forms.proofs.binders.within_binder.Given as goal

abbrev pub invariant-loop-sort : goal.invariant-loop-sort
invariant-loop-sort l = l.reach.items ≡ l.initial.reach.items ++ take l.sort-index l.bound
