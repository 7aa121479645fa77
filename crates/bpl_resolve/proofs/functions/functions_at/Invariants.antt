use Rattle.std.proofs.Common.{◌≡◌, ◌++◌, drop, flat_map, slice_get}
use Rattle.bpl_scopes.specs.CountsView.{counts_seen}
use Rattle.bpl_resolve.specs.Places.{function_at}
use Rattle.bpl_resolve.proofs.functions.functions_at.Given as goal

abbrev pub invariant-loop-place : goal.invariant-loop-place
invariant-loop-place l = l.functions.items ++ flat_map (λ i. function_at l.declared.environment.now (counts_seen l.declared.counts) (slice_get l.decls i)) (drop l.place-index l.places) ≡ flat_map (λ i. function_at l.declared.environment.now (counts_seen l.declared.counts) (slice_get l.decls i)) l.places
