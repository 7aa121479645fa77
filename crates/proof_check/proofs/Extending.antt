-- A context to which more is added begins with what it had.
use Rattle.std.proofs.Common.{◌≡◌, ◌∙◌, refl, ap, List, [], ◌∷◌, ◌++◌, length, take}
use Rattle.proof_core.specs.Context.{Context}
use Rattle.logic_core.specs.Tree.{Kind, Tree}
use Rattle.proof_check.specs.Added.{with_facts, Extends}

-- what begins with two lists begins with the first
front_of_front : {A : Type 0} (xs ys zs : List A) → take (length (xs ++ ys)) zs ≡ xs ++ ys → take (length xs) zs ≡ xs
front_of_front [] ys zs h = refl
front_of_front (x ∷ xs) ys [] h = absurd (cc)
front_of_front (x ∷ xs) ys (z ∷ zs) h = cc (front_of_front xs ys zs (cc))

-- cut back to its front, it is what it was
pub cut_back : (c d : Context) (ts : List Tree) (vs : List Kind) (fs : List Tree) → vs ≡ take (length c.vars) d.vars → fs ≡ take (length c.facts) d.facts → Extends (with_facts c ts) d → record { vars = vs; facts = fs } ≡ c
cut_back c d ts vs fs e f h = ap (λ xs. record { vars = xs; facts = fs }) (e ∙ h.0) ∙ ap (λ xs. record { vars = c.vars; facts = xs }) (f ∙ front_of_front c.facts ts d.facts h.1)
