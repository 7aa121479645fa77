-- The atoms in terms, out of those that are kept of their parts.
use Rattle.std.proofs.Common.{◌≡◌, refl, sym, ap, subst, ◌∙◌, ℕ, Vec, ◌+◌, ◌<◌, ◌≤◌, nat_eq, Bool, true, false, ◌&&◌, ◌||◌, cond, Option, Some, None, is_some, List, [], ◌∷◌, ◌++◌, length, take, get_or, arith}
use Rattle.std.specs.List.{list_any, AllByRecursion}
use Rattle.std.specs.declared.alloc.Global.{Global}
use Rattle.std.proofs.lemmas.Bool.{eqb-true}
use Rattle.std.proofs.lemmas.List.{append-nil, take_more, take_all}
use Rattle.logic_core.specs.Tree.{Tree}
use Rattle.logic_core.specs.Same.{same_term}
use Rattle.logic_core.specs.Subterm.{occurs}
use Rattle.logic_core.proofs.Anywhere.{any_append}
use Rattle.logic_core.proofs.Booleans.{and_false, or_false}
use Rattle.logic_core.proofs.EachOf.{every_append}
use Rattle.logic_core.proofs.SameTerm.{same_is_equal}
use Rattle.term_bank.specs.declared.node.Node.{Node}
use Rattle.term_bank.specs.Numbered.{at}
use Rattle.term_bank.specs.Node.{tree_over, numbers_in}
use Rattle.numbered_terms.specs.Stored.{AreStored}
use Rattle.numbered_terms.proofs.Items.{all_lower}
use Rattle.numbered_terms.proofs.Replacing.{same_number}
use Rattle.numbered_facts.specs.Atoms.{is_atom, IsRising, AreBoth, AreAtomsAmong}
use Rattle.numbered_facts.specs.Memos.{AreAtoms}
use Rattle.numbered_facts.proofs.AtomsIn.{each_of, atoms_in}
use Rattle.numbered_facts.proofs.Merging.{rising_push}
use Rattle.numbered_facts.proofs.Occurrences.{either, has_node}

-- what holds of each number of a list holds of one that is there
of_each : (P : ℕ → Type 0) (is : List ℕ) (j : ℕ) → AllByRecursion P is → list_any (nat_eq j) is ≡ true → P j
of_each P [] j h g = absurd (cc)
of_each P (i ∷ is) j h g = either (nat_eq j i) (list_any (nat_eq j) is) (λ e. subst P (sym (eqb-true j i e)) h.0) (λ k. of_each P is j h.1 k) g

split_and : (a b c : Bool) → ((a && b) || (a && c)) ≡ (a && (b || c))
split_and true b c = refl
split_and false b c = refl

split_and_back : (a b c : Bool) → ((a && b) || (a && c)) ≡ (a && (c || b))
split_and_back true true true = refl
split_and_back true true false = refl
split_and_back true false true = refl
split_and_back true false false = refl
split_and_back false b c = refl

module _ (ts : List Tree) where
  -- at first none
  pub none_among : (n : ℕ) (is : List ℕ) → is ≡ [] → AreAtomsAmong ts n [] is
  none_among n is e = record {
    within = subst (AllByRecursion (λ j. j < n)) (sym e) tt;
    rising = subst IsRising (sym e) tt;
    are = λ j l. ap (list_any (nat_eq j)) e ∙ sym (and_false (is_atom (at ts j)));
  }

  -- those of one term more
  any_next : (q : ℕ → Bool) (ids : List ℕ) (i x : ℕ) → i < length ids → x ≡ get_or ids i x → list_any q (take (i + 1) ids) ≡ (list_any q (take i ids) || q x)
  any_next q ids i x l e = ap (list_any q) (take_more ids i x l) ∙ any_append q (take i ids) (get_or ids i x ∷ []) ∙ ap (λ b. list_any q (take i ids) || b) (or_false (q (get_or ids i x)) ∙ ap q (sym e))

  pub joined_next : AreStored ts → (n i x : ℕ) (ids found : List ℕ) (v w : Vec ℕ Global) → i < length ids → x ≡ get_or ids i x → x < n → AreAtoms ts x w → AreBoth found w.items v.items
      → AreAtomsAmong ts n (take i ids) found → AreAtomsAmong ts n (take (i + 1) ids) v.items
  joined_next stored n i x ids found v w l e low of_x joined so_far = let there = atoms_in ts stored x w w.items refl of_x in record {
    within = each_of (λ j. j < n) v.items (λ j h. either (list_any (nat_eq j) found) (list_any (nat_eq j) w.items)
        (λ k. of_each (λ a. a < n) found j so_far.within k)
        (λ k. of_each (λ a. a < n) w.items j (all_lower (x + 1) n w.items (omega (arith, low)) of_x.within) k)
        (sym (joined.are j) ∙ h));
    rising = joined.rising;
    are = λ j k. joined.are j ∙ (λ z. so_far.are j k z || there.are j k z)
        ∙ split_and (is_atom (at ts j)) (list_any (λ a. occurs (at ts j) (at ts a)) (take i ids)) (occurs (at ts j) (at ts x))
        ∙ ap (λ b. is_atom (at ts j) && b) (sym (any_next (λ a. occurs (at ts j) (at ts a)) ids i x l e));
  }

  pub joined_all : (n i : ℕ) (ids found : List ℕ) → length ids ≤ i → AreAtomsAmong ts n (take i ids) found → AreAtomsAmong ts n ids found
  joined_all n i ids found l h = subst (λ is. AreAtomsAmong ts n is found) (take_all i ids l) h

  -- those of the parts, and the term itself where it is an atom
  own_atom : AreStored ts → (i j : ℕ) → i < length ts → j < length ts → (is_atom (at ts i) && nat_eq j i) ≡ (is_atom (at ts j) && same_term (at ts j) (at ts i))
  own_atom stored i j l w = ap (λ b. is_atom (at ts i) && b) (same_number ts j i stored w l) ∙ by (same_term (at ts j) (at ts i)) refl
    where
      by : (b : Bool) → same_term (at ts j) (at ts i) ≡ b → (is_atom (at ts i) && b) ≡ (is_atom (at ts j) && b)
      by true e = ap (λ t. is_atom t && true) (sym (same_is_equal (at ts j) (at ts i) e))
      by false e = and_false (is_atom (at ts i)) ∙ sym (and_false (is_atom (at ts j)))

  any_joins : (q : ℕ → Bool) (is : List ℕ) (i : ℕ) (b : Bool) → list_any q (is ++ cond b (i ∷ []) []) ≡ (list_any q is || (b && q i))
  any_joins q is i true = any_append q is (i ∷ []) ∙ ap (λ c. list_any q is || c) (or_false (q i))
  any_joins q is i false = any_append q is []

  joins_rising : (is : List ℕ) (i : ℕ) (b : Bool) → IsRising is → AllByRecursion (λ j. j < i) is → IsRising (is ++ cond b (i ∷ []) [])
  joins_rising is i true h l = rising_push is i h l
  joins_rising is i false h l = subst IsRising (sym (append-nil is)) h

  joins_within : (n i : ℕ) (is : List ℕ) (b : Bool) → i < n → AllByRecursion (λ j. j < n) is → AllByRecursion (λ j. j < n) (is ++ cond b (i ∷ []) [])
  joins_within n i is true l h = every_append (λ j. j < n) is (i ∷ []) h (l, tt)
  joins_within n i is false l h = every_append (λ j. j < n) is [] h tt

  pub whole_atoms : AreStored ts → (i : ℕ) (m : Node) (ids is : List ℕ) (b : Bool) (v : Vec ℕ Global) → i < length ts → tree_over (at ts) m ≡ at ts i → ids ≡ numbers_in m → b ≡ is_atom (at ts i)
      → AreAtomsAmong ts i ids is → v.items ≡ is ++ cond b (i ∷ []) [] → AreAtoms ts i v
  whole_atoms stored i m ids is b v l node parts atom among e = record {
    whole = l;
    within = subst (AllByRecursion (λ j. j < i + 1)) (sym e) (joins_within (i + 1) i is b (omega arith) (all_lower i (i + 1) is (omega arith) among.within));
    rising = subst IsRising (sym e) (joins_rising is i b among.rising among.within);
    are = λ j k. let w : j < length ts = omega (arith, k, l) in let p = same_term (at ts j) in
        ap (list_any (nat_eq j)) e ∙ any_joins (nat_eq j) is i b
        ∙ (λ z. among.are j w z || (ap (λ c. c && nat_eq j i) atom ∙ own_atom stored i j l w) z)
        ∙ split_and_back (is_atom (at ts j)) (list_any (λ a. occurs (at ts j) (at ts a)) ids) (p (at ts i))
        ∙ ap (λ c. is_atom (at ts j) && c) (sym (ap (occurs (at ts j)) (sym node) ∙ has_node p (at ts) m ∙ (λ z. p (node z) || list_any (λ a. occurs (at ts j) (at ts a)) (sym parts z))));
  }

-- something is kept
pub what_is_kept : {A : Type 0} (o : Option A) → is_some o ≡ true → (a : A) × (o ≡ Some a)
what_is_kept (Some a) h = (a, refl)
what_is_kept None h = absurd (cc)
