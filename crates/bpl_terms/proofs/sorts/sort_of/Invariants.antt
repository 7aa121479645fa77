use Rattle.std.proofs.Common.{◌≡◌}
use Rattle.bpl_scopes.specs.Shape.{nested, base_of}
use Rattle.bpl_terms.proofs.sorts.sort_of.Given as goal

abbrev pub invariant-loop-i : goal.invariant-loop-i
invariant-loop-i l = l.sort ≡ nested l._i (base_of l.fn.shape.base)
