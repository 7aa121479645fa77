-- A call of a definition says what its body says at the values of the arguments, and the variables that no body mentions don't matter.
-- Here e is that the definitions below are n, s that the bodies are well sorted.
use Rattle.std.proofs.Common.{◌≡◌, ◌∙◌, refl, sym, subst, ℕ, ◌+◌, ◌<◌, ◌≤◌, pos, nat_eq, eqb-true, eq-eqb, Bool, true, false, Some, List, [], ◌∷◌, ◌++◌, reverse, slice_get, length, length-append, ◌⊎◌, inl, inr, ⊎_elim, arith, append_assoc, append-nil}
use Rattle.std.proofs.lemmas.Option.{slice_get_within}
use Rattle.logic_core.proofs.Booleans.{both_true}
use Rattle.logic_core.specs.Tree.{Kind}
use Rattle.logic_core.specs.Def.{Def}
use Rattle.logic_core.specs.Value.{Value, whole}
use Rattle.logic_core.specs.Meaning.{Said, If, With}
use Rattle.logic_core.specs.Valid.{Calls, with_def, calls_from, calls_of}
use Rattle.logic_core.specs.Sorts.{is, sort_of, bodies_sorted}
use Rattle.logic_core.proofs.Values.{HasOne, one, chosen, has_value}
use Rattle.logic_core.proofs.Kept.{Keeps, keeps_if, keeps}
use Rattle.logic_core.proofs.Replaced.{Same}
use Rattle.logic_laws.proofs.SortTests.{is_sort}
use Rattle.logic_laws.proofs.SameValue.{value_stable}
use Rattle.logic_laws.proofs.ValueFrame.{Agree, agree_itself, SameCalls, same_over}
use Rattle.logic_laws.proofs.DefinedSorts.{last_or_before}

if_true : (c : Bool) (A B : Type 0) → c ≡ true → (If c A B → A) × (A → If c A B)
if_true true A B e = ((λ a. a), (λ a. a))
if_true false A B e = absurd (cc)

if_false : (c : Bool) (A B : Type 0) → c ≡ false → (If c A B → B) × (B → If c A B)
if_false true A B e = absurd (cc)
if_false false A B e = ((λ a. a), (λ a. a))

equal_or_not : (c : Bool) (f n : ℕ) → nat_eq f n ≡ c → ((nat_eq f n ≡ true) × (f ≡ n)) ⊎ ((nat_eq f n ≡ false) × (f ≡ n → ⊥))
equal_or_not true f n e = inl (e, eqb-true f n e)
equal_or_not false f n e = inr (e, (λ q. let p : nat_eq f n ≡ true = eq-eqb f n q in (cc)))

-- the element after the first list
middle : {X : Type 0} (xs ys : List X) (x y : X) → slice_get (xs ++ x ∷ ys) (length xs) ≡ Some y → x ≡ y
middle [] ys x y e = cc
middle (z ∷ xs) ys x y e = middle xs ys x y e

module _ (frees : List Value) where
  one_more_has : (n : ℕ) (d : Def) (calls : Calls) → ((f : ℕ) (vs : List Value) → HasOne (calls f vs)) → (f : ℕ) (vs : List Value) → HasOne (with_def frees n d calls f vs)
  one_more_has n d calls h f vs = chosen (nat_eq f n) (With frees calls d.body (reverse vs)) (calls f vs) (has_value frees calls h d.body (reverse vs)) (h f vs)

  one_more_keeps : (n : ℕ) (d : Def) (calls : Calls) → ((f : ℕ) (vs : List Value) → Keeps (calls f vs)) → (f : ℕ) (vs : List Value) → Keeps (with_def frees n d calls f vs)
  one_more_keeps n d calls h f vs = keeps_if (nat_eq f n) (With frees calls d.body (reverse vs)) (calls f vs) (keeps frees calls h d.body (reverse vs)) (h f vs)

  pub has_from : (ds : List Def) (n : ℕ) (calls : Calls) → ((f : ℕ) (vs : List Value) → HasOne (calls f vs)) → (f : ℕ) (vs : List Value) → HasOne (calls_from frees n ds calls f vs)
  has_from [] n calls h = h
  has_from (d ∷ ds) n calls h = has_from ds (n + 1) (with_def frees n d calls) (one_more_has n d calls h)

  pub keeps_from : (ds : List Def) (n : ℕ) (calls : Calls) → ((f : ℕ) (vs : List Value) → Keeps (calls f vs)) → (f : ℕ) (vs : List Value) → Keeps (calls_from frees n ds calls f vs)
  keeps_from [] n calls h = h
  keeps_from (d ∷ ds) n calls h = keeps_from ds (n + 1) (with_def frees n d calls) (one_more_keeps n d calls h)

  -- later definitions leave the calls of lower numbers as they are
  pub lower_stays : (ds : List Def) (n : ℕ) (calls : Calls) (f : ℕ) (vs : List Value) (P : Said) → f < n → (calls_from frees n ds calls f vs P → calls f vs P) × (calls f vs P → calls_from frees n ds calls f vs P)
  lower_stays [] n calls f vs P h = ((λ a. a), (λ a. a))
  lower_stays (d ∷ ds) n calls f vs P h = let i = lower_stays ds (n + 1) (with_def frees n d calls) f vs P (omega arith) in
      ⊎_elim (λ p. absurd (let q = p.1 in omega arith))
      (λ p. let j = if_false (nat_eq f n) (With frees calls d.body (reverse vs) P) (calls f vs P) p.0 in ((λ a. j.0 (i.0 a)), (λ a. i.1 (j.1 a))))
      (equal_or_not (nat_eq f n) f n refl)

  module _ (vars : List Kind) where
    unfold_from : (ds below : List Def) (n : ℕ) (calls : Calls) → ((f : ℕ) (vs : List Value) → HasOne (calls f vs)) → ((f : ℕ) (vs : List Value) → Keeps (calls f vs)) → n ≡ length below → bodies_sorted vars below ds ≡ true
        → (f : ℕ) (d : Def) → slice_get (below ++ ds) f ≡ Some d → n ≤ f → (vs : List Value) → Same (calls_from frees n ds calls f vs) (With frees (calls_from frees n ds calls) d.body (reverse vs))
    unfold_from [] below n calls has keep e s f d g h vs = absurd (let l = slice_get_within below f d (subst (λ xs. slice_get xs f ≡ Some d) (append-nil below) g) in omega arith)
    unfold_from (c ∷ ds) below n calls has keep e s f d g h vs = let p = both_true (is c.sort (sort_of vars below (reverse c.params) c.body)) (bodies_sorted vars (below ++ c ∷ []) ds) s in
        ⊎_elim
        (λ q. let w : c ≡ d = middle below ds c d (subst (λ i. slice_get (below ++ c ∷ ds) i ≡ Some d) (q.1 ∙ e) g) in
        subst (λ x. Same (calls_from frees n (c ∷ ds) calls f vs) (With frees (calls_from frees n (c ∷ ds) calls) x.body (reverse vs))) w
        (λ P st. let i = lower_stays ds (n + 1) (with_def frees n c calls) f vs P (let z = q.1 in omega arith) in
        let j = if_true (nat_eq f n) (With frees calls c.body (reverse vs) P) (calls f vs P) q.0 in
        let k = same_over vars below frees calls has keep frees (calls_from frees n (c ∷ ds) calls) (has_from (c ∷ ds) n calls has) (keeps_from (c ∷ ds) n calls keep) (agree_itself vars frees)
        (λ x y ws r u v. (lower_stays (c ∷ ds) n calls x ws (λ z. z ≡ r) (let l = slice_get_within below x y u in omega arith)).1 v)
        c.body (reverse c.params) (reverse vs) (reverse vs) c.sort (agree_itself (reverse c.params) (reverse vs)) (is_sort c.sort (sort_of vars below (reverse c.params) c.body) p.0) P st in
        ((λ a. k.0 (j.0 (i.0 a))), (λ a. i.1 (j.1 (k.1 a))))))
        (λ q. unfold_from ds (below ++ c ∷ []) (n + 1) (with_def frees n c calls) (one_more_has n c calls has) (one_more_keeps n c calls keep) (let z = length-append below (c ∷ []) in omega (arith, z)) p.1
        f d (subst (λ xs. slice_get xs f ≡ Some d) (sym (append_assoc below (c ∷ []) ds)) g) (let z = q.1 in above n f h z) vs)
        (equal_or_not (nat_eq f n) f n refl)
      where
        above : (n f : ℕ) → n ≤ f → (f ≡ n → ⊥) → n + 1 ≤ f
        above n f h z = omega arith

    pub same_unfolded : (defs : List Def) → bodies_sorted vars [] defs ≡ true → (f : ℕ) (d : Def) → slice_get defs f ≡ Some d → (vs : List Value) → Same (calls_of frees defs f vs) (With frees (calls_of frees defs) d.body (reverse vs))
    same_unfolded defs s f d g vs = unfold_from defs [] 0 (λ f args P. P (whole (pos 0))) (λ f vs. one (whole (pos 0))) (λ f vs P st. st (whole (pos 0))) refl s f d g (omega arith) vs

-- calls over other values of the variables
module _ (vars : List Kind) (frees frees' : List Value) (agree : Agree vars frees frees') where
  calls_over : (ds below : List Def) (n : ℕ) (calls calls' : Calls) → ((f : ℕ) (vs : List Value) → HasOne (calls f vs)) → ((f : ℕ) (vs : List Value) → Keeps (calls f vs)) → ((f : ℕ) (vs : List Value) → HasOne (calls' f vs)) → ((f : ℕ) (vs : List Value) → Keeps (calls' f vs))
      → n ≡ length below → bodies_sorted vars below ds ≡ true → SameCalls below calls calls' → SameCalls (below ++ ds) (calls_from frees n ds calls) (calls_from frees' n ds calls')
  calls_over [] below n calls calls' has keep has' keep' e s g = subst (λ xs. SameCalls xs calls calls') (sym (append-nil below)) g
  calls_over (d ∷ ds) below n calls calls' has keep has' keep' e s g = let p = both_true (is d.sort (sort_of vars below (reverse d.params) d.body)) (bodies_sorted vars (below ++ d ∷ []) ds) s in
      subst (λ xs. SameCalls xs (calls_from frees n (d ∷ ds) calls) (calls_from frees' n (d ∷ ds) calls')) (append_assoc below (d ∷ []) ds)
      (calls_over ds (below ++ d ∷ []) (n + 1) (with_def frees n d calls) (with_def frees' n d calls') (one_more_has frees n d calls has) (one_more_keeps frees n d calls keep) (one_more_has frees' n d calls' has') (one_more_keeps frees' n d calls' keep')
      (let q = length-append below (d ∷ []) in omega (arith, q)) p.1
      (λ f c vs r i h. ⊎_elim
      (λ q. (if_true (nat_eq f n) (With frees' calls' d.body (reverse vs) (λ v. v ≡ r)) (calls' f vs (λ v. v ≡ r)) q.0).1
      ((same_over vars below frees calls has keep frees' calls' has' keep' agree g d.body (reverse d.params) (reverse vs) (reverse vs) d.sort (agree_itself (reverse d.params) (reverse vs)) (is_sort d.sort (sort_of vars below (reverse d.params) d.body) p.0) (λ v. v ≡ r) (λ v. value_stable v r)).0
      ((if_true (nat_eq f n) (With frees calls d.body (reverse vs) (λ v. v ≡ r)) (calls f vs (λ v. v ≡ r)) q.0).0 h)))
      (λ q. (if_false (nat_eq f n) (With frees' calls' d.body (reverse vs) (λ v. v ≡ r)) (calls' f vs (λ v. v ≡ r)) q.0).1
      (⊎_elim (λ z. absurd (q.1 (z.0 ∙ sym e)))
      (λ z. g f c vs r z ((if_false (nat_eq f n) (With frees calls d.body (reverse vs) (λ v. v ≡ r)) (calls f vs (λ v. v ≡ r)) q.0).0 h))
      (last_or_before below d c f i)))
      (equal_or_not (nat_eq f n) f n refl)))

  pub same_calls_over : (defs : List Def) → bodies_sorted vars [] defs ≡ true → SameCalls defs (calls_of frees defs) (calls_of frees' defs)
  same_calls_over defs s = calls_over defs [] 0 (λ f args P. P (whole (pos 0))) (λ f args P. P (whole (pos 0))) (λ f vs. one (whole (pos 0))) (λ f vs P st. st (whole (pos 0))) (λ f vs. one (whole (pos 0))) (λ f vs P st. st (whole (pos 0))) refl s (λ f d vs r e h. absurd (cc))
