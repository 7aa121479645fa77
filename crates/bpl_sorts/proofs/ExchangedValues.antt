-- The value of a term with a type, in an assignment with two carriers exchanged, is the exchanged value.
-- Here h are the types of the parts, f that the values for the bound variables fit, g the values of the parts.
use Rattle.std.proofs.Common.{◌≡◌, ◌∙◌, refl, sym, ap, subst, ℕ, zero, suc, ◌<◌, ℤ, ◌+ℤ◌, ◌*ℤ◌, int_le, Bool, true, not, Some, IsTrue, List, [], ◌∷◌, ◌++◌, reverse, take, slice_get, inl, inr, arith}
use mathlib.Core.Path.{transport, transport⁻¹}
use Rattle.logic_core.specs.Tree.{Kind, map as map_of, Tree, num, truth, free, bound, linear, mul, read, write, choose, call, negation, all, some, equal, at_most, for_all, exists, Trees, no_trees, tree, Parts, no_parts, part}
use Rattle.logic_core.specs.Def.{Def}
use Rattle.logic_core.specs.Value.{Value, whole, flag, int_of, holds, same, is_of, are_of}
use Rattle.logic_core.specs.Meaning.{With, Holds}
use Rattle.logic_core.specs.Valid.{Calls, calls_of}
use Rattle.logic_core.specs.Sorts.{bodies_sorted}
use Rattle.logic_core.proofs.Values.{HasOne}
use Rattle.logic_core.proofs.Kept.{Keeps, keeps, true_stable}
use Rattle.logic_core.proofs.Defined.{has_defined, keeps_defined}
use Rattle.logic_laws.specs.Assignment.{ValueIs}
use Rattle.logic_laws.proofs.SameValue.{value_stable}
use Rattle.logic_laws.proofs.Gives.{Decided, AllHold, NoneHolds, Gives, GivesEach, GivesEvery, GivesAny, GivesSum, if_map, said, gives, same_values}
use Rattle.logic_laws.proofs.ValueSorts.{CallsHaveSorts, gives_sort, give_sorts}
use Rattle.logic_laws.proofs.DefinedSorts.{defined_sorts}
use Rattle.logic_laws.proofs.CallsByNumber.{call_is_body, earlier_call}
use Rattle.bpl_sorts.specs.Types.{Ty, integers, truths, maps, kind_of, kinds_of, Head}
use Rattle.bpl_sorts.specs.Typed.{HasType, HaveTypes, AreTruths, AreIntegers, AreTypedDefs}
use Rattle.bpl_sorts.specs.Exchange.{exchange, exchanged}
use Rattle.bpl_sorts.specs.ExchangeLaws.{ExchangesKeepValues}
use Rattle.bpl_sorts.proofs.Exchanges.{twice, each_twice, same_after, look_after, put_after, exchanged_are_of, exchanged_at, exchanged_reverse, exchanged_within, kinds_reversed, fits_within}
use Rattle.bpl_sorts.proofs.TypedSorts.{DefsHaveKinds, typed_sort, typed_are}

-- where H of each list is K of the changed one, and the change undoes itself
module _ (ss : List Kind) (change : List Value → List Value) (undone : (vs : List Value) → change (change vs) ≡ vs) (fits : (vs : List Value) → are_of ss (change vs) ≡ are_of ss vs) (H K : List Value → Type 0) (r : Value)
    (f : (vs : List Value) → are_of ss vs ≡ true → (H vs → K (change vs)) × (K (change vs) → H vs)) where
  changed_every : Decided ((vs : List Value) → IsTrue (are_of ss vs) → H vs) r → Decided ((vs : List Value) → IsTrue (are_of ss vs) → K vs) r
  changed_every (inl a) = inl ((λ vs h. subst K (undone vs) ((f (change vs) (fits vs ∙ h)).0 (a.0 (change vs) (fits vs ∙ h)))), a.1)
  changed_every (inr a) = inr ((λ k. a.0 (λ vs h. (f vs h).1 (k (change vs) (fits vs ∙ h)))), a.1)

  changed_some : Decided (¬ ((vs : List Value) → IsTrue (are_of ss vs) → ¬ H vs)) r → Decided (¬ ((vs : List Value) → IsTrue (are_of ss vs) → ¬ K vs)) r
  changed_some (inl a) = inl ((λ k. a.0 (λ vs h y. k (change vs) (fits vs ∙ h) ((f vs h).0 y))), a.1)
  changed_some (inr a) = inr ((λ k. a.0 (λ n. k (λ vs h y. n (change vs) (fits vs ∙ h) ((f (change vs) (fits vs ∙ h)).1 (subst K (sym (undone vs)) y))))), a.1)

-- calls with exchanged arguments give the exchanged values
abbrev CallsMove : ℕ → ℤ → ℤ → List Head → Calls → Calls → Type 0
CallsMove user a c heads calls calls' = (f : ℕ) (h : Head) (vs : List Value) (r : Value) → slice_get heads f ≡ Some h → are_of (kinds_of h.0) vs ≡ true
    → calls f vs (λ v. v ≡ r) → calls' f (exchanged user a c h.0 vs) (λ v. v ≡ exchange user a c h.1 r)

module _ (user : ℕ) (a c : ℤ) (vars : List Ty) (frees : List Value) (fits : are_of (kinds_of vars) frees ≡ true) where
  abbrev x : Ty → Value → Value
  x = exchange user a c

  abbrev xs : List Ty → List Value → List Value
  xs = exchanged user a c

  abbrev frees' : List Value
  frees' = exchanged user a c vars frees

  as_integer : (s : Ty) (r v : Value) → s ≡ integers → r ≡ v → x s r ≡ v
  as_integer s r v e g = ap (λ u. x u r) e ∙ g

  as_truth : (s : Ty) (r v : Value) → s ≡ truths → r ≡ v → x s r ≡ v
  as_truth s r v e g = ap (λ u. x u r) e ∙ g

  module _ (heads : List Head) (defs : List Def) (kinds : DefsHaveKinds heads defs) (calls calls' : Calls)
      (has : (f : ℕ) (vs : List Value) → HasOne (calls f vs)) (keep : (f : ℕ) (vs : List Value) → Keeps (calls f vs))
      (has' : (f : ℕ) (vs : List Value) → HasOne (calls' f vs)) (keep' : (f : ℕ) (vs : List Value) → Keeps (calls' f vs))
      (call_sorts : CallsHaveSorts defs calls) (moves : CallsMove user a c heads calls calls') where
    -- a quantifier's body, by what its values become
    body_moved : (t : Tree) (bs ts : List Ty) (b vs : List Value) → are_of (kinds_of ts) vs ≡ true
        → ((r : Value) → Gives frees calls t (reverse vs ++ b) r → Gives frees' calls' t (xs (reverse ts ++ bs) (reverse vs ++ b)) r)
        → (Holds frees calls t (reverse vs ++ b) → Holds frees' calls' t (reverse (xs ts vs) ++ xs bs b)) × (Holds frees' calls' t (reverse (xs ts vs) ++ xs bs b) → Holds frees calls t (reverse vs ++ b))
    body_moved t bs ts b vs h m =
        subst (λ l. (Holds frees calls t (reverse vs ++ b) → Holds frees' calls' t l) × (Holds frees' calls' t l → Holds frees calls t (reverse vs ++ b))) (exchanged_within user a c ts bs vs b h)
        (same_values frees calls has keep frees' calls' has' keep' t t (reverse vs ++ b) (xs (reverse ts ++ bs) (reverse vs ++ b)) m (λ v. IsTrue (holds v)) (λ v. true_stable (holds v)))

    kinds_exchanged : (ts : List Ty) (ss : List Kind) → kinds_of ts ≡ ss → (vs : List Value) → are_of ss (xs ts vs) ≡ are_of ss vs
    kinds_exchanged ts ss e vs = subst (λ ks. are_of ks (xs ts vs) ≡ are_of ks vs) e (exchanged_are_of user a c ts vs)

    kinds_as : (ts : List Ty) (ss : List Kind) (vs : List Value) → kinds_of ts ≡ ss → are_of ss vs ≡ true → are_of (kinds_of ts) vs ≡ true
    kinds_as ts ss vs e h = subst (λ ks. are_of ks vs ≡ true) (sym e) h

    mutual
      moved : (t : Tree) (bs : List Ty) (s : Ty) (b : List Value) (r : Value) → HasType vars heads bs t s → are_of (kinds_of bs) b ≡ true → Gives frees calls t b r → Gives frees' calls' t (xs bs b) (x s r)
      moved (num n) bs s b r h f g = as_integer s r (whole n) h g
      moved (truth q) bs s b r h f g = as_truth s r (flag q) h g
      moved (free v) bs s b r h f g = ap (x s) g ∙ sym (exchanged_at user a c vars frees v s fits h)
      moved (bound v) bs s b r h f g = ap (x s) g ∙ sym (exchanged_at user a c bs b v s f h)
      moved (linear ps k) bs s b r h f g = (g.0, moved_sum ps bs b g.0 h.0 f g.1, as_integer s r (whole (g.0 +ℤ k)) h.1 g.2)
      moved (mul y z) bs s b r h f g = (g.0, g.1, moved y bs integers b g.0 h.0 f g.2, moved z bs integers b g.1 h.1 f g.3, as_integer s r (whole (int_of g.0 *ℤ int_of g.1)) h.2 g.4)
      moved (read m i) bs s b r h f g =
          let k = gives_sort (kinds_of vars) defs frees calls has fits call_sorts m (kinds_of bs) b (map_of (kind_of s)) g.0 (typed_sort vars heads defs kinds m bs (maps s) h.0) f g.2 in
          (x (maps s) g.0, g.1, moved m bs (maps s) b g.0 h.0 f g.2, moved i bs integers b g.1 h.1 f g.3, ap (x s) g.4 ∙ sym (look_after (x s) (twice user a c s) (kind_of s) g.0 (int_of g.1) k))
      moved (write m i y) bs s b r h f g = (
        x (maps h.0) g.0,
        g.1,
        x h.0 g.2,
        moved m bs (maps h.0) b g.0 h.1 f g.3,
        moved i bs integers b g.1 h.2 f g.4,
        moved y bs h.0 b g.2 h.3 f g.5,
        ap (λ u. x u r) h.4 ∙ (ap (x (maps h.0)) g.6 ∙ sym (put_after (x h.0) (twice user a c h.0) g.0 (int_of g.1) g.2)),
      )
      moved (choose q y z) bs s b r h f g = (g.0, moved q bs truths b g.0 h.0 f g.1, if_map (holds g.0) (Gives frees calls y b r) (Gives frees calls z b r) (Gives frees' calls' y (xs bs b) (x s r)) (Gives frees' calls' z (xs bs b) (x s r)) (moved y bs s b r h.1 f) (moved z bs s b r h.2 f) g.2)
      moved (call n ts) bs s b r h f g =
          let k = give_sorts (kinds_of vars) defs frees calls has fits call_sorts ts (kinds_of bs) b (kinds_of (h.0).0) g.0 (typed_are vars heads defs kinds ts bs (h.0).0 h.2) f g.1 in
          (xs (h.0).0 g.0, moved_each ts bs (h.0).0 b g.0 h.2 f g.1, subst (λ u. calls' n (xs (h.0).0 g.0) (λ v. v ≡ x u r)) (sym h.3) (moves n h.0 g.0 r h.1 k g.2))
      moved (negation y) bs s b r h f g = (g.0, moved y bs truths b g.0 h.0 f g.1, as_truth s r (flag (not (holds g.0))) h.1 g.2)
      moved (all ts) bs s b r h f g = (g.0, moved_every ts bs b g.0 h.0 f g.1, as_truth s r (flag g.0) h.1 g.2)
      moved (some ts) bs s b r h f g = (g.0, moved_any ts bs b g.0 h.0 f g.1, as_truth s r (flag g.0) h.1 g.2)
      moved (equal y z) bs s b r h f g = (x h.0 g.0, x h.0 g.1, moved y bs h.0 b g.0 h.1 f g.2, moved z bs h.0 b g.1 h.2 f g.3, as_truth s r (flag (same g.0 g.1)) h.3 g.4 ∙ ap flag (sym (same_after (x h.0) (twice user a c h.0) g.0 g.1)))
      moved (at_most y z) bs s b r h f g = (g.0, g.1, moved y bs integers b g.0 h.0 f g.2, moved z bs integers b g.1 h.1 f g.3, as_truth s r (flag (int_le (int_of g.0) (int_of g.1))) h.2 g.4)
      moved (for_all ss ps t) bs s b r h f g = subst (Decided (AllHold frees' calls' ss t (xs bs b))) (sym (as_truth s r r h.4 refl))
          (changed_every ss (xs h.0) (each_twice user a c h.0) (kinds_exchanged h.0 ss h.1) (λ vs. Holds frees calls t (reverse vs ++ b)) (λ vs. Holds frees' calls' t (reverse vs ++ xs bs b)) r
          (λ vs k. body_moved t bs h.0 b vs (kinds_as h.0 ss vs h.1 k) (λ q j. moved t (reverse h.0 ++ bs) truths (reverse vs ++ b) q h.3 (fits_within h.0 bs vs b (kinds_as h.0 ss vs h.1 k) f) j)) g)
      moved (exists ss ps t) bs s b r h f g = subst (Decided (¬ NoneHolds frees' calls' ss t (xs bs b))) (sym (as_truth s r r h.4 refl))
          (changed_some ss (xs h.0) (each_twice user a c h.0) (kinds_exchanged h.0 ss h.1) (λ vs. Holds frees calls t (reverse vs ++ b)) (λ vs. Holds frees' calls' t (reverse vs ++ xs bs b)) r
          (λ vs k. body_moved t bs h.0 b vs (kinds_as h.0 ss vs h.1 k) (λ q j. moved t (reverse h.0 ++ bs) truths (reverse vs ++ b) q h.3 (fits_within h.0 bs vs b (kinds_as h.0 ss vs h.1 k) f) j)) g)

      moved_each : (ts : Trees) (bs ss : List Ty) (b vs : List Value) → HaveTypes vars heads bs ss ts → are_of (kinds_of bs) b ≡ true → GivesEach frees calls ts b vs → GivesEach frees' calls' ts (xs bs b) (xs ss vs)
      moved_each no_trees bs [] b vs h f g = g
      moved_each no_trees bs (s ∷ ss) b vs h f g = absurd h
      moved_each (tree t ts) bs [] b vs h f g = absurd h
      moved_each (tree t ts) bs (s ∷ ss) b vs h f g = (x s g.0, xs ss g.1, moved t bs s b g.0 h.0 f g.2, moved_each ts bs ss b g.1 h.1 f g.3, ap (xs (s ∷ ss)) g.4)

      moved_every : (ts : Trees) (bs : List Ty) (b : List Value) (q : Bool) → AreTruths vars heads bs ts → are_of (kinds_of bs) b ≡ true → GivesEvery frees calls ts b q → GivesEvery frees' calls' ts (xs bs b) q
      moved_every no_trees bs b q h f g = g
      moved_every (tree t ts) bs b q h f g = (g.0, g.1, moved t bs truths b g.0 h.0 f g.2, moved_every ts bs b g.1 h.1 f g.3, g.4)

      moved_any : (ts : Trees) (bs : List Ty) (b : List Value) (q : Bool) → AreTruths vars heads bs ts → are_of (kinds_of bs) b ≡ true → GivesAny frees calls ts b q → GivesAny frees' calls' ts (xs bs b) q
      moved_any no_trees bs b q h f g = g
      moved_any (tree t ts) bs b q h f g = (g.0, g.1, moved t bs truths b g.0 h.0 f g.2, moved_any ts bs b g.1 h.1 f g.3, g.4)

      moved_sum : (ps : Parts) (bs : List Ty) (b : List Value) (n : ℤ) → AreIntegers vars heads bs ps → are_of (kinds_of bs) b ≡ true → GivesSum frees calls ps b n → GivesSum frees' calls' ps (xs bs b) n
      moved_sum no_parts bs b n h f g = g
      moved_sum (part k t ps) bs b n h f g = (g.0, g.1, moved t bs integers b g.0 h.0 f g.2, moved_sum ps bs b g.1 h.1 f g.3, g.4)

    -- what is said of the value
    value_moved : (t : Tree) (bs : List Ty) (s : Ty) (b : List Value) (w : Value) → HasType vars heads bs t s → are_of (kinds_of bs) b ≡ true
        → With frees calls t b (λ v. v ≡ w) → With frees' calls' t (xs bs b) (λ v. v ≡ x s w)
    value_moved t bs s b w h f g = keeps frees' calls' keep' t (xs bs b) (λ v. v ≡ x s w) (λ v. value_stable v (x s w))
        (λ no. gives frees calls has keep t b (λ r j. no ((said frees' calls' has' keep' t (xs bs b) (x s r) (moved t bs s b r h f j) (λ v. v ≡ x s w) (λ v. value_stable v (x s w))).1
        (ap (x s) ((said frees calls has keep t b r j (λ v. v ≡ w) (λ v. value_stable v w)).0 g)))))

-- the first of a list
within_take : {A : Type 0} (xs : List A) (m f : ℕ) (y : A) → slice_get (take m xs) f ≡ Some y → (f < m) × (slice_get xs f ≡ Some y)
within_take [] zero f y e = absurd (cc)
within_take [] (suc m) f y e = absurd (cc)
within_take (x ∷ xs) zero f y e = absurd (cc)
within_take (x ∷ xs) (suc m) zero y e = (omega arith, e)
within_take (x ∷ xs) (suc m) (suc f) y e = let p = within_take xs m f y e in (let q = p.0 in omega (arith, q), p.1)

pub whole_take : {A : Type 0} (xs : List A) (m f : ℕ) → f < m → slice_get (take m xs) f ≡ slice_get xs f
whole_take [] zero f h = refl
whole_take [] (suc m) f h = refl
whole_take (x ∷ xs) zero f h = absurd (omega (arith, h))
whole_take (x ∷ xs) (suc m) zero h = refl
whole_take (x ∷ xs) (suc m) (suc f) h = whole_take xs m f (omega (arith, h))

module _ (user : ℕ) (a c : ℤ) (vars : List Ty) (heads : List Head) (defs : List Def) (frees : List Value)
    (fits : are_of (kinds_of vars) frees ≡ true) (bodies : bodies_sorted (kinds_of vars) [] defs ≡ true) (typed : AreTypedDefs vars heads defs) where
  abbrev changed : List Value
  changed = exchanged user a c vars frees

  kinds_before : (m : ℕ) → DefsHaveKinds (take m heads) (take m defs)
  kinds_before m f h e = let p = within_take heads m f h e in let d = typed f h p.1 in (d.0, whole_take defs m f p.0 ∙ d.1, (d.2).params, (d.2).sort)

  sorts_before : (m : ℕ) → CallsHaveSorts (take m defs) (calls_of frees (take m defs))
  sorts_before m f d vs e k = let p = within_take defs m f d e in
      transport⁻¹ (λ j. earlier_call frees defs m f p.0 j vs (λ v. IsTrue (is_of d.sort v))) (defined_sorts (kinds_of vars) frees fits defs bodies f d vs p.1 k)

  -- by induction on a number above the definition's
  calls_move_below : (above : ℕ) (f : ℕ) → f < above → (h : Head) (vs : List Value) (r : Value) → slice_get heads f ≡ Some h → are_of (kinds_of h.0) vs ≡ true
      → calls_of frees defs f vs (λ v. v ≡ r) → calls_of changed defs f (exchanged user a c h.0 vs) (λ v. v ≡ exchange user a c h.1 r)
  calls_move_below zero f below h vs r e k g = absurd (omega (below, arith))
  calls_move_below (suc above) f below h vs r e k g =
      let d = typed f h e in
      let earlier : CallsMove user a c (take f heads) (calls_of frees (take f defs)) (calls_of changed (take f defs))
      = (λ n j us q there i m. let p = within_take heads f n j there in
      transport⁻¹ (λ l. earlier_call changed defs f n p.0 l (exchanged user a c j.0 us) (λ v. v ≡ exchange user a c j.1 q))
      (calls_move_below above n (let q = p.0 in omega (q, below, arith)) j us q p.1 i (transport (λ l. earlier_call frees defs f n p.0 l us (λ v. v ≡ q)) m))) in
      let body : With changed (calls_of changed (take f defs)) (d.0).body (exchanged user a c (reverse h.0) (reverse vs)) (λ v. v ≡ exchange user a c h.1 r)
      = value_moved user a c vars frees fits (take f heads) (take f defs) (kinds_before f) (calls_of frees (take f defs)) (calls_of changed (take f defs))
      (has_defined frees (take f defs)) (keeps_defined frees (take f defs)) (has_defined changed (take f defs)) (keeps_defined changed (take f defs)) (sorts_before f) earlier
      (d.0).body (reverse h.0) h.1 (reverse vs) r (d.2).body (kinds_reversed h.0 vs k) (transport (λ l. call_is_body frees defs f d.0 d.1 l vs (λ v. v ≡ r)) g) in
      transport⁻¹ (λ l. call_is_body changed defs f d.0 d.1 l (exchanged user a c h.0 vs) (λ v. v ≡ exchange user a c h.1 r))
      (subst (λ l. With changed (calls_of changed (take f defs)) (d.0).body l (λ v. v ≡ exchange user a c h.1 r)) (exchanged_reverse user a c h.0 vs k) body)

  pub exchanged_value : (t : Tree) (bs : List Ty) (s : Ty) (b : List Value) (w : Value) → HasType vars heads bs t s → are_of (kinds_of bs) b ≡ true
      → ValueIs frees defs t b w → ValueIs changed defs t (exchanged user a c bs b) (exchange user a c s w)
  exchanged_value = value_moved user a c vars frees fits heads defs (λ f h e. let d = typed f h e in (d.0, d.1, (d.2).params, (d.2).sort)) (calls_of frees defs) (calls_of changed defs)
      (has_defined frees defs) (keeps_defined frees defs) (has_defined changed defs) (keeps_defined changed defs) (defined_sorts (kinds_of vars) frees fits defs bodies)
      (λ f h vs r e k g. calls_move_below (suc f) f (omega arith) h vs r e k g)

pub exchanges_keep_values : ExchangesKeepValues
exchanges_keep_values user a c vars heads defs frees bs b t s given typed f h w = (
  exchanged_value user a c vars heads defs frees given.1 given.0 typed t bs s b w h f,
  (λ g. transport (λ j. ValueIs (each_twice user a c vars frees j) defs t (each_twice user a c bs b j) (twice user a c s w j))
      (exchanged_value user a c vars heads defs (exchanged user a c vars frees) (exchanged_are_of user a c vars frees ∙ given.1) given.0 typed t bs s (exchanged user a c bs b) (exchange user a c s w) h (exchanged_are_of user a c bs b ∙ f) g)),
)
