use Rattle.std.proofs.Common.{◌≡◌, drop, length}
use Rattle.bpl_resolve.specs.Places.{places_from, places}
use Rattle.bpl_resolve.proofs.places.places.Given as goal

abbrev pub invariant-loop-i : goal.invariant-loop-i
invariant-loop-i l = record {
  placed : places_from l.order l.i (drop l.i l.decls) l.places.items ≡ places l.order l.decls;
  long : length l.places.items ≡ length l.order;
}
