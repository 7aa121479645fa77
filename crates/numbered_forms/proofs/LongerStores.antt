-- Lists of numbers stand for the same terms in a longer store.
use Rattle.std.proofs.Common.{◌≡◌, refl, ℕ, ℤ, Vec, ◌<◌, List, [], ◌∷◌, length, arith}
use Rattle.std.specs.List.{AllByRecursion}
use Rattle.std.specs.declared.alloc.Global.{Global}
use Rattle.logic_core.specs.Tree.{Tree}
use Rattle.logic_core.proofs.Mentioned.{all_left, all_right}
use Rattle.term_bank.specs.Numbered.{Begins}
use Rattle.term_bank.specs.Node.{in_lists}
use Rattle.term_bank.proofs.Numbers.{begins_at, begins_length}
use Rattle.numbered_terms.specs.Lists.{terms_at, atoms_at, lists_at, AtomsBelow}

module _ (ts us : List Tree) (b : Begins ts us) where
  pub terms_stay : (is : List ℕ) → AllByRecursion (λ j. j < length ts) is → terms_at us is ≡ terms_at ts is
  terms_stay [] h = refl
  terms_stay (i ∷ is) h = λ k. begins_at ts us i b h.0 k ∷ terms_stay is h.1 k

  pub atoms_stay : (ps : List (ℤ × ℕ)) → AtomsBelow (length ts) ps → atoms_at us ps ≡ atoms_at ts ps
  atoms_stay [] h = refl
  atoms_stay (p ∷ ps) h = λ k. (p.0, begins_at ts us p.1 b h.0 k) ∷ atoms_stay ps h.1 k

  pub lists_stay : (ws : List (Vec ℕ Global)) → AllByRecursion (λ j. j < length ts) (in_lists ws) → lists_at us ws ≡ lists_at ts ws
  lists_stay [] h = refl
  lists_stay (w ∷ ws) h = λ k. terms_stay w.items (all_left (λ j. j < length ts) w.items (in_lists ws) h) k ∷ lists_stay ws (all_right (λ j. j < length ts) w.items (in_lists ws) h) k

  pub numbers_stay : (is : List ℕ) → AllByRecursion (λ j. j < length ts) is → AllByRecursion (λ j. j < length us) is
  numbers_stay [] h = tt
  numbers_stay (i ∷ is) h = (omega (arith, h.0, begins_length ts us b), numbers_stay is h.1)
