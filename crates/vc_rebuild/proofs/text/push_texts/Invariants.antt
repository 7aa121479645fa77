use Rattle.std.proofs.Common.{◌≡◌, ◌++◌, ℕ, drop, flat_map}
use Rattle.bpl_model.specs.Walk.{text_at}
use Rattle.vc_rebuild.proofs.text.push_texts.Given as goal

-- those so far, and then those that are ahead
abbrev pub invariant-loop-d : goal.invariant-loop-d
invariant-loop-d l = l.bytes.items ++ flat_map (λ (d : ℕ). (text_at l.texts d).text) (drop l.d-index l.positions) ≡ l.fn.bytes.items ++ flat_map (λ (d : ℕ). (text_at l.texts d).text) l.positions
