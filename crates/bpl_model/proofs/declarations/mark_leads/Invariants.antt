use Rattle.std.proofs.Common.{◌≡◌, ℕ, drop}
use Rattle.std.specs.List.{flat_map}
use Rattle.bpl_model.specs.Marking.{mark_all}
use Rattle.bpl_model.specs.Walk.{text_at}
use Rattle.bpl_model.proofs.declarations.mark_leads.Given as goal

-- the declarations that are ahead
abbrev pub invariant-loop-d : goal.invariant-loop-d
invariant-loop-d l = mark_all l.marking (flat_map (λ (d : ℕ). (text_at l.texts d).leads) (drop l.d-index l.positions)) ≡ mark_all l.fn.marking (flat_map (λ (d : ℕ). (text_at l.texts d).leads) l.positions)
