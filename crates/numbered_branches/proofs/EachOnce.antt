-- Lists of numbers that are each once.
use Rattle.std.proofs.Common.{◌≡◌, refl, sym, ap, ◌∙◌, ℕ, ◌<◌, nat_eq, Bool, true, false, cond, Some, List, [], ◌∷◌, ◌++◌, map, length}
use Rattle.std.specs.List.{list_any, AllByRecursion}
use Rattle.std.proofs.lemmas.List.{map-append}
use Rattle.logic_core.specs.Tree.{Tree}
use Rattle.logic_core.proofs.EachOf.{every_append}
use Rattle.term_bank.specs.Numbered.{at, number_of}
use Rattle.logic_rules.specs.Instantiating.{each_once}
use Rattle.numbered_facts.proofs.EachOnce.{once_by, among}
use Rattle.numbered_branches.specs.Counts.{once}

-- by number
module _ (ts : List Tree) (apart : (i : ℕ) → i < length ts → number_of ts (at ts i) ≡ Some i) where
  pub once_numbers : (seen is : List ℕ) → AllByRecursion (λ i. i < length ts) seen → AllByRecursion (λ i. i < length ts) is → map (at ts) (once seen is) ≡ each_once (map (at ts) seen) (map (at ts) is)
  once_numbers seen [] h g = refl
  once_numbers seen (i ∷ is) h g = by (list_any (nat_eq i) seen) refl (λ zs w. once_numbers zs is w g.1)
    where
      by : (b : Bool) → list_any (nat_eq i) seen ≡ b → ((zs : List ℕ) → AllByRecursion (λ j. j < length ts) zs → map (at ts) (once zs is) ≡ each_once (map (at ts) zs) (map (at ts) is)) → map (at ts) (once (cond b seen (seen ++ i ∷ [])) is) ≡ each_once (map (at ts) seen) (at ts i ∷ map (at ts) is)
      by true e r = r seen h ∙ sym (once_by true (map (at ts) seen) (map (at ts) is) (at ts i) (sym (among ts apart i seen g.0 h) ∙ e))
      by false e r = r (seen ++ i ∷ []) (every_append (λ j. j < length ts) seen (i ∷ []) h (g.0, tt))
          ∙ ap (λ us. each_once us (map (at ts) is)) (map-append (at ts) seen (i ∷ []))
          ∙ sym (once_by false (map (at ts) seen) (map (at ts) is) (at ts i) (sym (among ts apart i seen g.0 h) ∙ e))
