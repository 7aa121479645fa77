use Rattle.std.proofs.Common.{◌≡◌, [], ℕ, map, drop}
use Rattle.bpl_model.specs.Names.{with_names}
use Rattle.bpl_model.specs.Walk.{text_at}
use Rattle.bpl_model.proofs.declarations.names_at.Given as goal

-- the names that are ahead
abbrev pub invariant-loop-d : goal.invariant-loop-d
invariant-loop-d l = with_names l.names (map (λ (d : ℕ). (text_at l.texts d).name) (drop l.d-index l.positions)) ≡ with_names [] (map (λ (d : ℕ). (text_at l.texts d).name) l.positions)
