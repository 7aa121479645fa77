-- Where numbers stand in a list: in a longer list where they stood, a new one at its end; and what is picked by the numbers of a list.
use Rattle.std.specs.Prelude.{◌≡◌, refl, ◌⊎◌, ℕ, zero, suc, ◌+◌, ◌<◌, ◌≤◌, nat_eq, Bool, true, false, ◌||◌, cond, is_some, unwrap_or, Option, Some, None, List, [], ◌∷◌, ◌++◌, length, slice_get}
use Rattle.std.specs.List.{list_any, position_from, AllByRecursion, cons_option}
use Rattle.std.proofs.Common.{arith, ap, ◌∙◌, append-nil}
use Rattle.std.proofs.lemmas.Bool.{eqb-true, eq-eqb}
use mathlib.Core.Path.{subst, sym}
use mathlib.Core.Logic.{inl, inr}
use Rattle.logic_core.specs.Variables.{place_in}
use Rattle.obligation_text.specs.Canonical.{picked}

-- the number is among them
abbrev pub is_among : List ℕ → ℕ → Bool
is_among ns n = list_any (nat_eq n) ns

abbrev pub In : List ℕ → ℕ → Type 0
In ns n = is_among ns n ≡ true

pub in_left : (xs ys : List ℕ) (v : ℕ) → In xs v → In (xs ++ ys) v
in_left [] ys v h = let c : false ≡ true = h in absurd cc
in_left (x ∷ xs) ys v h = by_test (in_left xs ys v) (nat_eq v x) h
  where
    by_test : (In xs v → In (xs ++ ys) v) → (b : Bool) → (b || is_among xs v) ≡ true → (b || is_among (xs ++ ys) v) ≡ true
    by_test rest true e = refl
    by_test rest false e = rest e

pub in_right : (xs ys : List ℕ) (v : ℕ) → In ys v → In (xs ++ ys) v
in_right [] ys v h = h
in_right (x ∷ xs) ys v h = by_test (in_right xs ys v h) (nat_eq v x)
  where
    by_test : In (xs ++ ys) v → (b : Bool) → (b || is_among (xs ++ ys) v) ≡ true
    by_test rest true = refl
    by_test rest false = rest

pub in_itself : (v : ℕ) (xs : List ℕ) → In (v ∷ xs) v
in_itself v xs = ap (λ b. b || is_among xs v) (eq-eqb v v refl)

pub in_one : (xs ys : List ℕ) (v : ℕ) → In (xs ++ ys) v → In xs v ⊎ In ys v
in_one [] ys v h = inr h
in_one (x ∷ xs) ys v h = by_test (in_one xs ys v) (nat_eq v x) h
  where
    by_test : (In (xs ++ ys) v → In xs v ⊎ In ys v) → (b : Bool) → (b || is_among (xs ++ ys) v) ≡ true → ((b || is_among xs v) ≡ true) ⊎ In ys v
    by_test rest true e = inl refl
    by_test rest false e = rest e

pub in_first : (x : ℕ) (xs : List ℕ) (v : ℕ) → In (x ∷ xs) v → (v ≡ x) ⊎ In xs v
in_first x xs v h = by_test (nat_eq v x) refl h
  where
    by_test : (b : Bool) → nat_eq v x ≡ b → (b || is_among xs v) ≡ true → (v ≡ x) ⊎ In xs v
    by_test true e k = inl (eqb-true v x e)
    by_test false e k = inr k

-- what each of them has
pub each_in : (P : ℕ → Type 0) (xs : List ℕ) → AllByRecursion P xs → (v : ℕ) → In xs v → P v
each_in P [] h v there = let c : false ≡ true = there in absurd cc
each_in P (x ∷ xs) h v there = elim (in_first x xs v there) [ inl e ↦ subst P (sym e) h.0 | inr k ↦ each_in P xs h.1 v k ]

-- in a list of places from n on
abbrev spot : ℕ → List ℕ → ℕ → Option ℕ
spot n os v = position_from (nat_eq v) n os

spot_stays : (os ms : List ℕ) (n v : ℕ) → In os v → spot n (os ++ ms) v ≡ spot n os v
spot_stays [] ms n v h = let c : false ≡ true = h in absurd cc
spot_stays (o ∷ os) ms n v h = by_test (spot_stays os ms (n + 1) v) (nat_eq v o) h
  where
    by_test : (In os v → spot (n + 1) (os ++ ms) v ≡ spot (n + 1) os v) → (b : Bool) → (b || is_among os v) ≡ true → cond b (Some n) (spot (n + 1) (os ++ ms) v) ≡ cond b (Some n) (spot (n + 1) os v)
    by_test rest true e = refl
    by_test rest false e = rest e

spot_new : (os : List ℕ) (n v : ℕ) → is_among os v ≡ false → spot n (os ++ v ∷ []) v ≡ Some (n + length os)
spot_new [] n v h = ap (λ b. cond b (Some n) None) (eq-eqb v v refl) ∙ (let e : n ≡ n + 0 = omega arith in ap Some e)
spot_new (o ∷ os) n v h = by_test (spot_new os (n + 1) v) (nat_eq v o) h
  where
    by_test : (is_among os v ≡ false → spot (n + 1) (os ++ v ∷ []) v ≡ Some (n + 1 + length os)) → (b : Bool) → (b || is_among os v) ≡ false → cond b (Some n) (spot (n + 1) (os ++ v ∷ []) v) ≡ Some (n + suc (length os))
    by_test rest true e = let c : true ≡ false = e in absurd cc
    by_test rest false e = rest e ∙ (let q : n + 1 + length os ≡ n + suc (length os) = omega arith in ap Some q)

-- a place, what stands there, and that the place is no further than the list
pub record Place (n : ℕ) (os : List ℕ) (v : ℕ) : Type 0 where
  pub place : ℕ
  pub is : spot n os v ≡ Some (n + place)
  pub below : place < length os
  pub stands : slice_get os place ≡ Some v

pub place_of : (os : List ℕ) (n v : ℕ) → In os v → Place n os v
place_of [] n v h = let c : false ≡ true = h in absurd cc
place_of (o ∷ os) n v h = by_test (place_of os (n + 1) v) (nat_eq v o) refl h
  where
    by_test : (In os v → Place (n + 1) os v) → (b : Bool) → nat_eq v o ≡ b → (b || is_among os v) ≡ true → Place n (o ∷ os) v
    by_test rest true e k = record {
      place = 0;
      is = ap (λ b. cond b (Some n) (spot (n + 1) os v)) e ∙ (let q : n ≡ n + 0 = omega arith in ap Some q);
      below = omega arith;
      stands = ap Some (sym (eqb-true v o e));
    }
    by_test rest false e k = let p = rest k in record {
      place = suc p.place;
      is = ap (λ b. cond b (Some n) (spot (n + 1) os v)) e ∙ p.is ∙ (let q : n + 1 + p.place ≡ n + suc p.place = omega arith in ap Some q);
      below = omega (p.below, arith);
      stands = p.stands;
    }

place_is : (os : List ℕ) (v k : ℕ) → spot 0 os v ≡ Some k → place_in os v ≡ k
place_is os v k e = ap (λ o. unwrap_or o 0) e

pub stands_there : (os : List ℕ) (v : ℕ) → In os v → slice_get os (place_in os v) ≡ Some v
stands_there os v h = let p = place_of os 0 v h in let e : place_in os v ≡ 0 + p.place = place_is os v (0 + p.place) p.is in let q : p.place ≡ place_in os v = omega (e, arith) in subst (λ k. slice_get os k ≡ Some v) q p.stands

pub stands_below : (os : List ℕ) (v : ℕ) → In os v → place_in os v < length os
stands_below os v h = let p = place_of os 0 v h in let e : place_in os v ≡ 0 + p.place = place_is os v (0 + p.place) p.is in omega (e, p.below, arith)

pub stays_there : (os ms : List ℕ) (v : ℕ) → In os v → place_in (os ++ ms) v ≡ place_in os v
stays_there os ms v h = ap (λ o. unwrap_or o 0) (spot_stays os ms 0 v h)

pub new_place : (os : List ℕ) (v : ℕ) → is_among os v ≡ false → place_in (os ++ v ∷ []) v ≡ length os
new_place os v h = place_is (os ++ v ∷ []) v (0 + length os) (spot_new os 0 v h) ∙ (let q : 0 + length os ≡ length os = omega arith in q)

-- no two have one place
pub one_place : (os : List ℕ) (u v : ℕ) → In os u → In os v → place_in os u ≡ place_in os v → u ≡ v
one_place os u v hu hv e =
    let p : Some u ≡ Some v = sym (stands_there os u hu) ∙ ap (slice_get os) e ∙ stands_there os v hv in
    cc

-- where each of the numbers has an item, the items that are picked stand where the numbers stand
pub picked_at : {A : Type 0} (items : List A) (ns : List ℕ) → AllByRecursion (λ n. is_some (slice_get items n) ≡ true) ns → (i n : ℕ) → slice_get ns i ≡ Some n → slice_get (picked items ns) i ≡ slice_get items n
picked_at items [] h i n e = absurd cc
picked_at {A} items (m ∷ ns) h i n e = by_item (slice_get items m) h.0 refl i e (λ k. picked_at items ns h.1 k n)
  where
    by_item : (o : Option A) → is_some o ≡ true → slice_get items m ≡ o → (i : ℕ) → slice_get (m ∷ ns) i ≡ Some n → ((k : ℕ) → slice_get ns k ≡ Some n → slice_get (picked items ns) k ≡ slice_get items n)
        → slice_get (cons_option o (picked items ns)) i ≡ slice_get items n
    by_item None t e i k rest = let c : false ≡ true = t in absurd cc
    by_item (Some a) t e zero k rest = let same : m ≡ n = cc in sym e ∙ ap (slice_get items) same
    by_item (Some a) t e (suc i) k rest = rest i k

-- the items of the first number, and then those of the others
pub picked_more : {A : Type 0} (items : List A) (n : ℕ) (ns : List ℕ) → picked items (n ∷ []) ++ picked items ns ≡ picked items (n ∷ ns)
picked_more {A} items n ns = by_item (slice_get items n)
  where
    by_item : (o : Option A) → cons_option o [] ++ picked items ns ≡ cons_option o (picked items ns)
    by_item None = refl
    by_item (Some a) = refl

-- beyond the items nothing is picked
pub none_picked : {A : Type 0} (items : List A) (n : ℕ) (found : List A) → length items ≤ n → found ≡ found ++ picked items (n ∷ [])
none_picked {A} items n found beyond = sym (append-nil found) ∙ ap (λ more. found ++ more) (sym (no_item items n beyond))
  where
    no_item : (xs : List A) (k : ℕ) → length xs ≤ k → cons_option (slice_get xs k) [] ≡ []
    no_item [] k h = refl
    no_item (x ∷ xs) zero h = absurd (omega (h, arith))
    no_item (x ∷ xs) (suc k) h = no_item xs k (omega (h, arith))
