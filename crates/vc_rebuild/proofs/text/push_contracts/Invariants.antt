use Rattle.std.proofs.Common.{◌≡◌, ◌++◌, ℕ, drop, flat_map, filter, not}
use Rattle.bpl_model.specs.Reach.{among}
use Rattle.bpl_model.specs.Walk.{text_at}
use Rattle.vc_rebuild.proofs.text.push_contracts.Given as goal

-- those so far, and then those that are ahead
abbrev pub invariant-loop-d : goal.invariant-loop-d
invariant-loop-d l = l.bytes.items ++ flat_map (λ (d : ℕ). (text_at l.texts d).contract) (filter (λ d. not (among l.own d)) (drop l.d-index l.reached)) ≡ l.fn.bytes.items ++ flat_map (λ (d : ℕ). (text_at l.texts d).contract) (filter (λ d. not (among l.own d)) l.reached)
