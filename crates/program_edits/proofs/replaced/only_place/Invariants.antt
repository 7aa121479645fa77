use Rattle.std.proofs.Common.{◌≡◌, ◌+◌, drop, option_map}
use Rattle.program_edits.specs.Replaced.{only_place}
use Rattle.program_edits.proofs.replaced.only_place.Given as goal

-- no declaration before has the name
abbrev pub invariant-loop-at : goal.invariant-loop-at
invariant-loop-at l = option_map (λ k. l.at + k) (only_place l.name (drop l.at l.decls)) ≡ only_place l.name l.decls
