use Rattle.std.proofs.Common.{◌≡◌, ◌+◌, drop, option_map}
use Rattle.body_revision.specs.Procedures.{is_sought, only_place}
use Rattle.body_revision.proofs.places.only_place.Given as goal

-- no declaration before is so
abbrev pub invariant-loop-at : goal.invariant-loop-at
invariant-loop-at l = option_map (λ k. l.at + k) (only_place (is_sought l.sought l.name) (drop l.at l.decls)) ≡ only_place (is_sought l.sought l.name) l.decls
