use Rattle.std.proofs.Common.{◌≡◌, ℕ, nat_eq, cond, false, get_or, take}
use Rattle.std.specs.List.{list_any}
use Rattle.numbered_terms.proofs.number_set.take_flags.Given as goal

abbrev pub invariant-loop-id : goal.invariant-loop-id
invariant-loop-id l = (i : ℕ) → get_or l.flags.items i false ≡ cond (list_any (nat_eq i) (take l.id-index l.ids)) false (get_or l.fn.flags.items i false)
