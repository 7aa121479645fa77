use Rattle.std.proofs.Common.{◌≡◌, ◌∷◌, option_map, drop}
use Rattle.logic_core.specs.Before.{before}
use Rattle.proof_check.specs.Added.{normal_forms}
use Rattle.proof_check.proofs.context.Context.normal_forms.Given as goal

-- the forms so far, and then those of the formulas ahead
abbrev pub invariant-loop-term : goal.invariant-loop-term
invariant-loop-term l = option_map (before (λ t ts. t ∷ ts) l.forms.items) (normal_forms l.self.vars l.defs (drop l.term-index l.terms)) ≡ normal_forms l.self.vars l.defs l.terms
