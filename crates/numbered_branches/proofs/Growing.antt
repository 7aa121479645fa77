-- Numbers in a store that grows.
use Rattle.std.proofs.Common.{◌≡◌, refl, ℕ, ◌<◌, List, [], ◌∷◌, map, length, arith}
use Rattle.std.specs.List.{AllByRecursion}
use Rattle.logic_core.specs.Tree.{Tree}
use Rattle.term_bank.specs.Numbered.{at, Begins}
use Rattle.term_bank.proofs.Numbers.{begins_at, begins_length}
use Rattle.numbered_terms.specs.Stored.{Numbered, Grows}

module _ (ts us : List Tree) (b : Begins ts us) where
  pub more_within : (is : List ℕ) → AllByRecursion (λ i. i < length ts) is → AllByRecursion (λ i. i < length us) is
  more_within [] h = tt
  more_within (i ∷ is) h = (omega (arith, h.0, begins_length ts us b), more_within is h.1)

  pub same_terms : (is : List ℕ) → AllByRecursion (λ i. i < length ts) is → map (at us) is ≡ map (at ts) is
  same_terms [] h = refl
  same_terms (i ∷ is) h = λ k. begins_at ts us i b h.0 k ∷ same_terms is h.1 k

-- over a store that goes on
pub stays : (n m : Numbered) (i : ℕ) → Grows n m → i < length n.terms → at m.terms i ≡ at n.terms i
stays n m i g l = begins_at n.terms m.terms i g.terms l

pub below : (n m : Numbered) (i : ℕ) → Grows n m → i < length n.terms → i < length m.terms
below n m i g l = omega (arith, l, begins_length n.terms m.terms g.terms)
