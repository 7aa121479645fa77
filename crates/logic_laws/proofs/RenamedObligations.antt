-- An obligation that renames a well-sorted one is well sorted, where each of its definitions is a renamed one.
use Rattle.std.specs.Prelude.{◌≡◌, refl, ℕ, zero, suc, ◌<◌, ◌≤◌, Bool, true, IsTrue, List, [], ◌∷◌, map, reverse, take, slice_get, Option, Some, All}
use Rattle.std.specs.List.{AllByRecursion}
use Rattle.std.proofs.Common.{arith, ap, ◌∙◌}
use Rattle.std.proofs.lemmas.List.Elements.{All-from_recursion, recursion_from_All}
use mathlib.Core.Path.{subst, sym}
use Rattle.logic_core.specs.Tree.{Tree}
use Rattle.logic_core.specs.Def.{Def, Obligation}
use Rattle.logic_core.specs.Wide.{◌>>=◌}
use Rattle.logic_core.specs.Sorts.{is, sort_of}
use Rattle.logic_core.specs.WellSorted.{IsFormula, IsWellSorted}
use Rattle.logic_core.specs.Renamed.{both_renamed, def_renamed}
use Rattle.logic_laws.specs.RenamingLaws.{Covers, IsRenamedObligation}
use Rattle.logic_laws.proofs.TraversedSorts.{SameHead}
use Rattle.logic_laws.proofs.RenamedSorts.{same_sort, renaming_keeps_sorts}
use Rattle.logic_laws.proofs.SortedNumbers.{body_has_sort, bodies_by_number}

get_in_front : {A : Type 0} (xs : List A) (m n : ℕ) → n < m → slice_get (take m xs) n ≡ slice_get xs n
get_in_front xs zero n below = absurd (omega (below, arith))
get_in_front [] (suc m) n below = refl
get_in_front (x ∷ xs) (suc m) zero below = refl
get_in_front (x ∷ xs) (suc m) (suc n) below = get_in_front xs m n (omega (below, arith))

module _ (new_def new_var : ℕ → ℕ) (defs? vars? : ℕ → Bool) (o o' : Obligation) (r : IsRenamedObligation new_def new_var defs? vars? o o') where
  -- each new definition is a renamed one, which stands there for the first time or again
  abbrev pub AllRenamed : Type 0
  AllRenamed = (n : ℕ) (d : Def) → slice_get o'.defs n ≡ Some d → (f : ℕ) × IsTrue (defs? f) × (new_def f ≤ n) × (slice_get o'.defs (new_def f) ≡ Some d)

  formula_sorted : (t : Tree) → Covers new_def new_var defs? vars? t → IsFormula o.vars o.defs t → IsFormula o'.vars o'.defs (both_renamed new_def new_var t)
  formula_sorted t covered e = renaming_keeps_sorts new_def new_var defs? vars? o.vars o'.vars o.defs o'.defs [] t r.vars r.defs covered ∙ e

  axioms_sorted : (ts : List Tree) → AllByRecursion (Covers new_def new_var defs? vars?) ts → AllByRecursion (IsFormula o.vars o.defs) ts → AllByRecursion (IsFormula o'.vars o'.defs) (map (both_renamed new_def new_var) ts)
  axioms_sorted [] c e = tt
  axioms_sorted (t ∷ ts) c e = (formula_sorted t c.0 e.0, axioms_sorted ts c.1 e.1)

  module _ (sorted : IsWellSorted o) (each : AllRenamed) where
    body_sorted : (n : ℕ) (d : Def) → slice_get o'.defs n ≡ Some d → is d.sort (sort_of o'.vars (take n o'.defs) (reverse d.params) d.body) ≡ true
    body_sorted n d there =
        let old = each n d there in
        let f = old.0 in
        let x = r.defs f old.1 in
        let is_anew : Some (def_renamed new_def new_var x.definition) ≡ Some d = sym x.new ∙ old.3 in
        let same : def_renamed new_def new_var x.definition ≡ d = cc in
        let heads : (g : ℕ) → IsTrue (defs? g) × (g < f) × (new_def g < new_def f) → SameHead (take f o.defs) (take n o'.defs) g (new_def g)
        = λ g h s.
        let y = r.defs g h.0 in
        ap (λ (q : Option Def). q >>= λ e. s e.params e.sort) (get_in_front o'.defs n (new_def g) (omega (h.2, old.2, arith)) ∙ y.new)
        ∙ sym (ap (λ (q : Option Def). q >>= λ e. s e.params e.sort) (get_in_front o.defs f g h.1 ∙ y.old)) in
        let sort : sort_of o'.vars (take n o'.defs) (reverse x.definition.params) (both_renamed new_def new_var x.definition.body) ≡ sort_of o.vars (take f o.defs) (reverse x.definition.params) x.definition.body
        = same_sort new_def new_var o.vars o'.vars (take f o.defs) (take n o'.defs) (λ v. IsTrue (vars? v)) (λ g. IsTrue (defs? g) × (g < f) × (new_def g < new_def f)) r.vars heads
        x.definition.body (reverse x.definition.params) x.calls_lower in
        subst (λ (e : Def). is e.sort (sort_of o'.vars (take n o'.defs) (reverse e.params) e.body) ≡ true) same
        (ap (is x.definition.sort) sort ∙ body_has_sort o.vars o.defs f x.definition sorted.definitions x.old)

    pub renamed_is_sorted : IsWellSorted o'
    renamed_is_sorted = record {
      definitions = bodies_by_number o'.vars o'.defs body_sorted;
      axioms = subst (All (IsFormula o'.vars o'.defs)) (sym r.axioms) (All-from_recursion (IsFormula o'.vars o'.defs) (map (both_renamed new_def new_var) o.axioms)
          (axioms_sorted o.axioms (recursion_from_All (Covers new_def new_var defs? vars?) o.axioms r.axioms_covered) (recursion_from_All (IsFormula o.vars o.defs) o.axioms sorted.axioms)));
      goal = subst (IsFormula o'.vars o'.defs) (sym r.goal) (formula_sorted o.goal r.goal_covered sorted.goal);
    }
