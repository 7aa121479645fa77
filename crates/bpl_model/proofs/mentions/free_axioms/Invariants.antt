use Rattle.std.proofs.Common.{◌≡◌, ◌++◌, drop}
use Rattle.std.specs.Prelude.{filter}
use Rattle.bpl_model.specs.Walk.{is_free}
use Rattle.bpl_model.proofs.mentions.free_axioms.Given as goal

-- the free axioms so far, and then those that are ahead
abbrev pub invariant-loop-d : goal.invariant-loop-d
invariant-loop-d l = l.free.items ++ filter (is_free l.texts l.symbols l.axioms) (drop l.d-index l.positions) ≡ filter (is_free l.texts l.symbols l.axioms) l.positions
