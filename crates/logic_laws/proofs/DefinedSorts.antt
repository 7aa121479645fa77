-- Calls of well-sorted definitions have values of their sorts.
use Rattle.std.proofs.Common.{◌≡◌, refl, sym, ap, subst, ℕ, zero, suc, ◌+◌, pos, nat_eq, eqb-true, eq-eqb, Bool, true, false, Some, IsTrue, List, [], ◌∷◌, ◌++◌, reverse, slice_get, length, length-append, ◌⊎◌, inl, inr, ⊎_elim, arith, append_assoc, append-nil}
use Rattle.std.proofs.lemmas.Option.{slice_get_within}
use Rattle.logic_core.proofs.Booleans.{both_true}
use Rattle.logic_core.specs.Tree.{Kind, Tree}
use Rattle.logic_core.specs.Def.{Def}
use Rattle.logic_core.specs.Value.{Value, whole, is_of, are_of}
use Rattle.logic_core.specs.Meaning.{If, With}
use Rattle.logic_core.specs.Valid.{Calls, with_def, calls_from, calls_of}
use Rattle.logic_core.specs.Sorts.{is, sort_of, bodies_sorted}
use Rattle.logic_core.proofs.Values.{HasOne, one, chosen, has_value}
use Rattle.logic_core.proofs.Kept.{Keeps, true_stable, keeps_if, keeps}
use Rattle.logic_laws.proofs.SortTests.{is_sort}
use Rattle.logic_laws.proofs.Tables.{are_of_reverse}
use Rattle.logic_laws.proofs.Gives.{said, gives}
use Rattle.logic_laws.proofs.ValueSorts.{CallsHaveSorts, gives_sort}

-- an element of a list with one more at its end
pub last_or_before : {X : Type 0} (xs : List X) (x y : X) (n : ℕ) → slice_get (xs ++ x ∷ []) n ≡ Some y → ((n ≡ length xs) × (x ≡ y)) ⊎ (slice_get xs n ≡ Some y)
last_or_before [] x y zero e = inl (refl, cc)
last_or_before [] x y (suc n) e = absurd (cc)
last_or_before (z ∷ xs) x y zero e = inr e
last_or_before (z ∷ xs) x y (suc n) e = ⊎_elim (λ p. inl (ap suc p.0, p.1)) (λ p. inr p) (last_or_before xs x y n e)

if_true : (c : Bool) (A B : Type 0) → c ≡ true → A → If c A B
if_true true A B e a = a
if_true false A B e a = absurd (cc)

if_false : (c : Bool) (A B : Type 0) → c ≡ false → B → If c A B
if_false true A B e b = absurd (cc)
if_false false A B e b = b

other_number : (c : Bool) (f n : ℕ) → nat_eq f n ≡ c → (f ≡ n → ⊥) → c ≡ false
other_number true f n e ne = absurd (ne (eqb-true f n e))
other_number false f n e ne = refl

module _ (vars : List Kind) (frees : List Value) (fits : are_of vars frees ≡ true) where
  -- what is said of a well-sorted term's value: it is of the sort
  pub value_sort : (defs : List Def) (calls : Calls) → ((f : ℕ) (vs : List Value) → HasOne (calls f vs)) → ((f : ℕ) (vs : List Value) → Keeps (calls f vs)) → CallsHaveSorts defs calls
      → (t : Tree) (bs : List Kind) (b : List Value) (k : Kind) → sort_of vars defs bs t ≡ Some k → are_of bs b ≡ true → With frees calls t b (λ v. IsTrue (is_of k v))
  value_sort defs calls has keep sorts t bs b k s f = keeps frees calls keep t b (λ v. IsTrue (is_of k v)) (λ v. true_stable (is_of k v))
      (λ no. gives frees calls has keep t b (λ r g. no ((said frees calls has keep t b r g (λ v. IsTrue (is_of k v)) (λ v. true_stable (is_of k v))).1 (gives_sort vars defs frees calls has fits sorts t bs b k r s f g))))

  one_more_sorts : (below : List Def) (n : ℕ) (d : Def) (calls : Calls) → ((f : ℕ) (vs : List Value) → HasOne (calls f vs)) → ((f : ℕ) (vs : List Value) → Keeps (calls f vs)) → n ≡ length below → is d.sort (sort_of vars below (reverse d.params) d.body) ≡ true → CallsHaveSorts below calls → CallsHaveSorts (below ++ d ∷ []) (with_def frees n d calls)
  one_more_sorts below n d calls has keep e s h f d' vs g a = ⊎_elim
      (λ p. if_true (nat_eq f n) (With frees calls d.body (reverse vs) (λ v. IsTrue (is_of d'.sort v))) (calls f vs (λ v. IsTrue (is_of d'.sort v))) (eq-eqb f n (let q = p.0 in omega arith))
      (subst (λ c. With frees calls d.body (reverse vs) (λ v. IsTrue (is_of c.sort v))) p.1 (value_sort below calls has keep h d.body (reverse d.params) (reverse vs) d.sort
      (is_sort d.sort (sort_of vars below (reverse d.params) d.body) s) (are_of_reverse d.params vs (subst (λ c. are_of c.params vs ≡ true) (sym p.1) a)))))
      (λ p. if_false (nat_eq f n) (With frees calls d.body (reverse vs) (λ v. IsTrue (is_of d'.sort v))) (calls f vs (λ v. IsTrue (is_of d'.sort v))) (other_number (nat_eq f n) f n refl (λ q. let l = slice_get_within below f d' p in absurd (omega arith))) (h f d' vs p a))
      (last_or_before below d d' f g)

  sorts_from : (ds below : List Def) (n : ℕ) (calls : Calls) → ((f : ℕ) (vs : List Value) → HasOne (calls f vs)) → ((f : ℕ) (vs : List Value) → Keeps (calls f vs)) → n ≡ length below → bodies_sorted vars below ds ≡ true → CallsHaveSorts below calls → CallsHaveSorts (below ++ ds) (calls_from frees n ds calls)
  sorts_from [] below n calls has keep e s h = subst (λ xs. CallsHaveSorts xs calls) (sym (append-nil below)) h
  sorts_from (d ∷ ds) below n calls has keep e s h = let p = both_true (is d.sort (sort_of vars below (reverse d.params) d.body)) (bodies_sorted vars (below ++ d ∷ []) ds) s in
      subst (λ xs. CallsHaveSorts xs (calls_from frees n (d ∷ ds) calls)) (append_assoc below (d ∷ []) ds)
      (sorts_from ds (below ++ d ∷ []) (n + 1) (with_def frees n d calls) (λ f vs. chosen (nat_eq f n) (With frees calls d.body (reverse vs)) (calls f vs) (has_value frees calls has d.body (reverse vs)) (has f vs))
      (λ f vs. keeps_if (nat_eq f n) (With frees calls d.body (reverse vs)) (calls f vs) (keeps frees calls keep d.body (reverse vs)) (keep f vs)) (let q = length-append below (d ∷ []) in omega (arith, q)) p.1 (one_more_sorts below n d calls has keep e p.0 h))

  pub defined_sorts : (defs : List Def) → bodies_sorted vars [] defs ≡ true → CallsHaveSorts defs (calls_of frees defs)
  defined_sorts defs s = sorts_from defs [] 0 (λ f args P. P (whole (pos 0))) (λ f vs. one (whole (pos 0))) (λ f vs P st. st (whole (pos 0))) refl s (λ f d vs e a. absurd (cc))
