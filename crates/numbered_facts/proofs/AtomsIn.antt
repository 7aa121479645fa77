-- The numbers of the terms in a term, and the atoms among them.
use Rattle.std.proofs.Common.{◌≡◌, refl, sym, ap, subst, ◌∙◌, ℕ, Vec, ◌+◌, ◌<◌, ◌≤◌, nat_eq, nat_lt, Bool, true, false, ◌&&◌, ◌||◌, cond, List, [], ◌∷◌, filter, length, arith}
use Rattle.std.specs.List.{list_any, AllByRecursion, IsDistinct}
use Rattle.std.specs.declared.alloc.Global.{Global}
use Rattle.std.proofs.lemmas.Bool.{eq-eqb, ne_eqb, ltb-true, ltb-false}
use Rattle.std.proofs.lemmas.Map.Keys.{IsDistinct-head, IsDistinct-tail}
use Rattle.logic_core.specs.Tree.{Tree}
use Rattle.logic_core.specs.Same.{same_term}
use Rattle.logic_core.specs.Subterm.{has, occurs}
use Rattle.logic_core.proofs.Booleans.{and_false, or_first, or_second}
use Rattle.term_bank.specs.Numbered.{at}
use Rattle.numbered_terms.specs.Stored.{AreStored}
use Rattle.numbered_terms.proofs.Replacing.{same_number}
use Rattle.numbered_terms.proofs.Items.{all_lower}
use Rattle.numbered_terms.proofs.Occurring.{higher_dont}
use Rattle.numbered_facts.specs.Atoms.{is_atom, AreOnce, AreAtomsIn}
use Rattle.numbered_facts.specs.Memos.{AreAtoms}
use Rattle.numbered_facts.specs.Inside.{picks_one}
use Rattle.numbered_facts.proofs.Merging.{rising_once}

-- numbers are among each other where their terms are
pub among_terms : (ts : List Tree) → AreStored ts → (j : ℕ) (is : List ℕ) → j < length ts → AllByRecursion (λ k. k < length ts) is → list_any (nat_eq j) is ≡ picks_one (same_term (at ts j)) ts is
among_terms ts s j [] l h = refl
among_terms ts s j (i ∷ is) l h = λ k. same_number ts j i s l h.0 k || among_terms ts s j is l h.1 k

-- what holds of each number of a list
pub each_of : (P : ℕ → Type 0) (is : List ℕ) → ((j : ℕ) → list_any (nat_eq j) is ≡ true → P j) → AllByRecursion P is
each_of P [] f = tt
each_of P (i ∷ is) f = (f i (or_first (nat_eq i i) (list_any (nat_eq i) is) (eq-eqb i i refl)), each_of P is (λ j h. f j (or_second (nat_eq j i) (list_any (nat_eq j) is) h)))

-- a higher number isn't among lower ones
pub not_among : (n j : ℕ) (is : List ℕ) → n ≤ j → AllByRecursion (λ k. k < n) is → list_any (nat_eq j) is ≡ false
not_among n j [] l h = refl
not_among n j (i ∷ is) l h = ap (λ b. b || list_any (nat_eq j) is) (ne_eqb j i (λ e. omega (arith, e, l, h.0))) ∙ not_among n j is l h.1

-- the keys of a set are each once
none_passes : (q : ℕ → Bool) (is : List ℕ) → AllByRecursion (λ j. q j ≡ false) is → list_any q is ≡ false
none_passes q [] h = refl
none_passes q (i ∷ is) h = ap (λ b. b || list_any q is) h.0 ∙ none_passes q is h.1

pub distinct_once : (is : List ℕ) → IsDistinct nat_eq is → AreOnce is
distinct_once [] h = tt
distinct_once (i ∷ is) h = (none_passes (nat_eq i) is (IsDistinct-head nat_eq i is h), distinct_once is (IsDistinct-tail nat_eq i is h))

-- only those that pass
module _ (q : ℕ → Bool) where
  pub kept_all : (P : ℕ → Type 0) (is : List ℕ) → AllByRecursion P is → AllByRecursion P (filter q is)
  kept_all P [] h = tt
  kept_all P (i ∷ is) h = by (q i) (kept_all P is h.1)
    where
      by : (b : Bool) → AllByRecursion P (filter q is) → AllByRecursion P (cond b (i ∷ filter q is) (filter q is))
      by true g = (h.0, g)
      by false g = g

-- what is picked among the terms in a term
module _ (ts : List Tree) (stored : AreStored ts) (i : ℕ) (l : i < length ts) (is : List ℕ) (picks : (p : Tree → Bool) → picks_one p ts is ≡ has p (at ts i)) where
  pub occurs_among : (j : ℕ) → j < length ts → AllByRecursion (λ k. k < length ts) is → list_any (nat_eq j) is ≡ occurs (at ts j) (at ts i)
  occurs_among j w h = among_terms ts stored j is w h ∙ picks (same_term (at ts j))

  -- they have no higher numbers
  not_higher : AllByRecursion (λ k. k < length ts) is → (j : ℕ) → j < length ts → list_any (nat_eq j) is ≡ true → (b : Bool) → nat_lt i j ≡ b → j < i + 1
  not_higher h j w k true e = absurd (higher_dont ts stored i j (ltb-true i j e) w (sym (occurs_among j w h) ∙ k))
  not_higher h j w k false e = let low : j ≤ i = ltb-false i j e in omega (arith, low)

  pub none_higher : ((j : ℕ) → list_any (nat_eq j) is ≡ true → j < length ts) → AllByRecursion (λ j. j < i + 1) is
  none_higher f = each_of (λ j. j < i + 1) is (λ j k. not_higher (each_of (λ j. j < length ts) is f) j (f j k) k (nat_lt i j) refl)

absent : (b : Bool) → (b ≡ true → ⊥) → b ≡ false
absent true h = absurd (h refl)
absent false h = refl

-- what is kept of a term's atoms, of any number
pub atoms_in : (ts : List Tree) → AreStored ts → (i : ℕ) (v : Vec ℕ Global) (is : List ℕ) → is ≡ v.items → AreAtoms ts i v → AreAtomsIn ts i is
atoms_in ts stored i v is e r = record {
  within = subst (AllByRecursion (λ j. j < length ts)) (sym e) (all_lower (i + 1) (length ts) v.items (omega (arith, r.whole)) r.within);
  once = subst AreOnce (sym e) (rising_once v.items r.rising);
  are = λ j w. ap (list_any (nat_eq j)) e ∙ by_test j w (nat_lt i j) refl;
}
  where
    by_test : (j : ℕ) → j < length ts → (b : Bool) → nat_lt i j ≡ b → list_any (nat_eq j) v.items ≡ (is_atom (at ts j) && occurs (at ts j) (at ts i))
    by_test j w false k = r.are j (ltb-false i j k)
    by_test j w true k = let high : i < j = ltb-true i j k in
        not_among (i + 1) j v.items (omega (arith, high)) r.within ∙ sym (ap (λ b. is_atom (at ts j) && b) (absent (occurs (at ts j) (at ts i)) (λ o. higher_dont ts stored i j high w o)) ∙ and_false (is_atom (at ts j)))

-- an atom is among those that are kept of a term where it occurs there
pub atom_among : (ts : List Tree) → AreStored ts → (i j : ℕ) (v : Vec ℕ Global) → AreAtoms ts i v → j < length ts → is_atom (at ts j) ≡ true → list_any (nat_eq j) v.items ≡ occurs (at ts j) (at ts i)
atom_among ts stored i j v r w a = (atoms_in ts stored i v v.items refl r).are j w ∙ ap (λ b. b && occurs (at ts j) (at ts i)) a

-- a term of a higher number doesn't occur
pub higher_absent : (ts : List Tree) → AreStored ts → (i j : ℕ) → i < j → j < length ts → false ≡ occurs (at ts j) (at ts i)
higher_absent ts stored i j l w = sym (absent (occurs (at ts j) (at ts i)) (λ o. higher_dont ts stored i j l w o))
