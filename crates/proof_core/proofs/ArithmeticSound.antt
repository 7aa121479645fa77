-- Combine, tighten and trichotomy are sound.
use Rattle.std.proofs.Common.{◌≡◌, refl, ◌&&◌, Some, [], ◌∷◌}
use Rattle.logic_core.specs.Tree.{int}
use Rattle.logic_core.specs.Wide.{◌>>=◌}
use Rattle.logic_core.specs.Sorts.{is}
use Rattle.logic_core.specs.Tighten.{tighten}
use Rattle.logic_core.specs.Combine.{linear_of, combined, at_least_zero}
use Rattle.linear_certs.specs.Multiplier.{may_multiply}
use Rattle.linear_certs.proofs.CombinedSorts.{combined_sort}
use Rattle.linear_certs.proofs.CombinedFacts.{combined_holds}
use Rattle.logic_laws.proofs.Options.{bind_some}
use Rattle.logic_laws.proofs.SortTests.{is_sort}
use Rattle.logic_laws.proofs.Tightened.{tighten_sort}
use Rattle.logic_laws.proofs.Assigned.{same_tightened}
use Rattle.proof_core.specs.Context.{fact, named, with_fact, appended}
use Rattle.proof_core.specs.Maps.{below_zero, at_zero, above_zero}
use Rattle.proof_core.specs.Arithmetic.{combination, tightened}
use Rattle.proof_core.specs.Soundness.{CombineIsSound, TightenIsSound, TrichotomyIsSound}
use Rattle.logic_core.specs.WellSorted.{IsFormula}
use Rattle.proof_core.proofs.Closed.{HoldsIn, same_holds, has_one, value_sort}
use Rattle.proof_core.proofs.Conditions.{when_then, three_given}
use Rattle.proof_core.proofs.Said.{number_value}
use Rattle.proof_core.proofs.Signs.{below_formula, zero_formula, above_formula, by_sign}
use Rattle.proof_core.proofs.Appended.{appended_extends, fact_followed, three_children, at_fact, All-one}

-- combine
pub combine_is_sound : CombineIsSound
combine_is_sound f p g q defs c d s e =
    let u = bind_some (fact c f) (λ u. fact c g >>= λ v. combination c u p v q) d e in
    let v = bind_some (fact c g) (λ v. combination c u.0 p v q) d u.2 in
    let w = when_then (may_multiply p u.0 && may_multiply q v.0) (linear_of u.0 >>= λ a. linear_of v.0 >>= λ b. combined a p b q >>= λ s. Some (with_fact c (at_least_zero s))) d v.2 in
    let a = bind_some (linear_of u.0) (λ a. linear_of v.0 >>= λ b. combined a p b q >>= λ s. Some (with_fact c (at_least_zero s))) d w.1 in
    let b = bind_some (linear_of v.0) (λ b. combined a.0 p b q >>= λ s. Some (with_fact c (at_least_zero s))) d a.2 in
    let t = bind_some (combined a.0 p b.0 q) (λ s. Some (with_fact c (at_least_zero s))) d b.2 in
    let is_d : with_fact c (at_least_zero t.0) ≡ d = cc in
    let first : IsFormula c.vars defs u.0 = at_fact (IsFormula c.vars defs) c.facts f u.0 u.1 s.facts in
    let second : IsFormula c.vars defs v.0 = at_fact (IsFormula c.vars defs) c.facts g v.0 v.1 s.facts in
    let formula : IsFormula c.vars defs (at_least_zero t.0) = combined_sort c.vars defs u.0 v.0 a.0 b.0 t.0 p q [] first second a.1 b.1 t.1 in
    fact_followed defs c d (at_least_zero t.0) s formula is_d
    (λ frees fit hold. combined_holds c.vars defs frees (s.definitions, fit) u.0 v.0 a.0 b.0 t.0 p q [] [] refl first second a.1 b.1 w.0 t.1
    (at_fact (HoldsIn defs frees) c.facts f u.0 u.1 hold) (at_fact (HoldsIn defs frees) c.facts g v.0 v.1 hold))

-- tighten
pub tighten_is_sound : TightenIsSound
tighten_is_sound f defs c d s e =
    let p = bind_some (fact c f) (λ t. Some (tightened c t)) d e in
    let is_d : with_fact c (tighten p.0) ≡ d = cc in
    let formula : IsFormula c.vars defs p.0 = at_fact (IsFormula c.vars defs) c.facts f p.0 p.1 s.facts in
    fact_followed defs c d (tighten p.0) s (tighten_sort c.vars defs p.0 [] formula) is_d
    (λ frees fit hold. (same_holds defs frees p.0 (tighten p.0) (same_tightened c.vars defs frees (s.definitions, fit) p.0 [] [] refl formula)).0 (at_fact (HoldsIn defs frees) c.facts f p.0 p.1 hold))

-- trichotomy
pub trichotomy_is_sound : TrichotomyIsSound
trichotomy_is_sound t defs c below same above s e =
    let w = when_then (is int (named defs c t)) (appended defs c (below_zero t) >>= λ below. appended defs c (at_zero t) >>= λ same. appended defs c (above_zero t) >>= λ above. Some (below, same, above)) (below, same, above) e in
    let sort = is_sort int (named defs c t) w.0 in
    let each = three_given (appended defs c (below_zero t)) (appended defs c (at_zero t)) (appended defs c (above_zero t)) below same above w.1 in
    three_children defs c below same above (below_zero t ∷ []) (at_zero t ∷ []) (above_zero t ∷ [])
    (appended_extends defs c below (below_zero t) s (below_formula c.vars defs t sort) each.0)
    (appended_extends defs c same (at_zero t) s (zero_formula c.vars defs t sort) each.1)
    (appended_extends defs c above (above_zero t) s (above_formula c.vars defs t sort) each.2)
    (λ frees fit hold no_below no_same no_above. has_one defs frees t (λ v g. by_sign defs frees t v g (number_value v (value_sort c.vars defs s.definitions frees fit t int v sort g))
    (λ h _. no_below (All-one (HoldsIn defs frees) (below_zero t) h))
    (λ h _. no_same (All-one (HoldsIn defs frees) (at_zero t) h))
    (λ h _. no_above (All-one (HoldsIn defs frees) (above_zero t) h))))
