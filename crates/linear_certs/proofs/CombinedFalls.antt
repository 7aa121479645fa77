-- The sums of linear facts and of their combinations fall.
use Rattle.std.proofs.Common.{◌≡◌, refl, ℤ, pos, Bool, true, false, Option, Some, None, IfSome}
use Rattle.logic_core.specs.Tree.{Tree, num, linear, equal, at_most}
use Rattle.logic_core.specs.Wide.{when}
use Rattle.logic_core.specs.Junction.{is_zero}
use Rattle.logic_core.specs.Sum.{Linear, constant, term_of}
use Rattle.logic_core.specs.Combine.{sum_of, linear_of, add_multiple, combined}
use Rattle.logic_laws.proofs.Options.{some_has}
use Rattle.linear_certs.specs.FallingLaws.{Falls, EachSumFalls, CombinedFactsFall}
use Rattle.linear_certs.proofs.FallingSums.{sums_fall}
use Rattle.linear_certs.proofs.NormalFalls.{FallsWithin, some_then, constant_within, term_within, sum_falls, zero_at_most_falls, linear_forms_fall}

-- what holds of what there is
pub found_has : {A : Type 0} (P : A → Type 0) (o : Option A) (x : A) → o ≡ Some x → IfSome o P → P x
found_has P None x e h = absurd (cc)
found_has P (Some y) x e h = some_has P y x e h

pub form_falls : (fact : Tree) (s : Linear) → EachSumFalls fact → linear_of fact ≡ Some s → Falls s
form_falls fact s h e = found_has Falls (linear_of fact) s e (linear_forms_fall fact h)

pub combination_falls : (a c s : Linear) (p q : ℤ) → combined a p c q ≡ Some s → Falls s
combination_falls a c s p q e = found_has Falls (combined a p c q) s e (sums_fall.1 a p c q)

-- and within the atoms
sum_within : (d : Tree) → EachSumFalls d → FallsWithin (sum_of d)
sum_within (num n) h = (tt, tt)
sum_within (linear ps c) h = h
sum_within t h = ((refl, tt, tt), (h, tt))

when_within : (b : Bool) (s : Linear) → FallsWithin s → IfSome (when b (Some s)) FallsWithin
when_within true s h = h
when_within false s h = tt

form_within : (fact : Tree) → EachSumFalls fact → IfSome (linear_of fact) FallsWithin
form_within (at_most z d) h = when_within (is_zero z) (sum_of d) (sum_within d h.1)
form_within (equal d z) h = when_within (is_zero z) (sum_of d) (sum_within d h.0)
form_within t h = tt

combination_within : (a c : Linear) (p q : ℤ) → FallsWithin a → FallsWithin c → IfSome (combined a p c q) FallsWithin
combination_within a c p q h g = some_then FallsWithin FallsWithin (add_multiple p a (constant (pos 0))) (λ s. add_multiple q c s) (term_within p (linear a.parts a.rest) (constant (pos 0)) h (constant_within (pos 0)))
    (λ s k. term_within q (linear c.parts c.rest) s g k)

pub combined_facts_fall : CombinedFactsFall
combined_facts_fall f g a c s p q h k of_f of_g sum =
    let in_f = found_has FallsWithin (linear_of f) a of_f (form_within f h) in
    let in_g = found_has FallsWithin (linear_of g) c of_g (form_within g k) in
    let in_sum = found_has FallsWithin (combined a p c q) s sum (combination_within a c p q in_f in_g) in
    zero_at_most_falls (term_of s) (sum_falls s.parts s.rest in_sum.0 in_sum.1)
