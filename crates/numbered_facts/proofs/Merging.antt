-- Rising lists of numbers, merged and searched.
use Rattle.std.proofs.Common.{◌≡◌, refl, sym, ap, subst, ◌∙◌, ℕ, zero, suc, ◌+◌, ◌-◌, ◌<◌, ◌≤◌, nat_eq, nat_lt, Bool, true, false, ◌&&◌, ◌||◌, cond, List, [], ◌∷◌, ◌++◌, length, take, drop, get_or, arith}
use Rattle.std.specs.List.{list_any, AllByRecursion}
use Rattle.std.proofs.lemmas.Bool.{eq-eqb, ne_eqb, ltb-true, ltb-false}
use Rattle.std.proofs.lemmas.List.{append-nil, append_assoc, drop_more, drop_all, take_all, length-drop, take-append-drop}
use Rattle.logic_core.proofs.Booleans.{or_assoc, or_first, or_second}
use Rattle.logic_core.proofs.Anywhere.{any_append}
use Rattle.logic_core.proofs.EachOf.{every_append}
use Rattle.numbered_terms.proofs.Items.{item_at}
use Rattle.numbered_facts.specs.Atoms.{AreOnce, IsRising, AreBoth}

-- the lower of the first numbers first; an equal one goes with it
abbrev pub merged_with : ℕ → (List ℕ → List ℕ) → List ℕ → List ℕ
merged_with x rest [] = x ∷ rest []
merged_with x rest (y ∷ ys) = cond (nat_lt x y) (x ∷ rest (y ∷ ys)) (cond (nat_lt y x) (y ∷ merged_with x rest ys) (x ∷ rest ys))

abbrev pub merged : List ℕ → List ℕ → List ℕ
merged [] ys = ys
merged (x ∷ xs) ys = merged_with x (λ zs. merged xs zs) ys

merged_none : (xs : List ℕ) → merged xs [] ≡ xs
merged_none [] = refl
merged_none (x ∷ xs) = ap (λ zs. x ∷ zs) (merged_none xs)

-- what holds of the numbers of both
each_with : (P : ℕ → Type 0) (x : ℕ) (rest : List ℕ → List ℕ) → P x → ((ys : List ℕ) → AllByRecursion P ys → AllByRecursion P (rest ys)) → (ys : List ℕ) → AllByRecursion P ys → AllByRecursion P (merged_with x rest ys)
each_with P x rest p f [] h = (p, f [] tt)
each_with P x rest p f (y ∷ ys) h = by (nat_lt x y) (nat_lt y x) (each_with P x rest p f ys h.1)
  where
    by : (a b : Bool) → AllByRecursion P (merged_with x rest ys) → AllByRecursion P (cond a (x ∷ rest (y ∷ ys)) (cond b (y ∷ merged_with x rest ys) (x ∷ rest ys)))
    by true b g = (p, f (y ∷ ys) h)
    by false true g = (h.0, g)
    by false false g = (p, f ys h.1)

each_merged : (P : ℕ → Type 0) (xs ys : List ℕ) → AllByRecursion P xs → AllByRecursion P ys → AllByRecursion P (merged xs ys)
each_merged P [] ys h g = g
each_merged P (x ∷ xs) ys h g = each_with P x (λ zs. merged xs zs) h.0 (λ zs k. each_merged P xs zs h.1 k) ys g

all_above : (m n : ℕ) (xs : List ℕ) → m ≤ n → AllByRecursion (λ j. n < j) xs → AllByRecursion (λ j. m < j) xs
all_above m n [] l h = tt
all_above m n (x ∷ xs) l h = (omega (arith, l, h.0), all_above m n xs l h.1)

-- they rise
rising_with : (x : ℕ) (rest : List ℕ → List ℕ) → ((ys : List ℕ) → IsRising ys → IsRising (rest ys)) → ((ys : List ℕ) → AllByRecursion (λ j. x < j) ys → AllByRecursion (λ j. x < j) (rest ys))
    → ((y : ℕ) (ys : List ℕ) → y < x → AllByRecursion (λ j. y < j) ys → AllByRecursion (λ j. y < j) (rest ys)) → (ys : List ℕ) → IsRising ys → IsRising (merged_with x rest ys)
rising_with x rest up above low [] h = (above [] tt, up [] tt)
rising_with x rest up above low (y ∷ ys) h = by (nat_lt x y) refl (nat_lt y x) refl (rising_with x rest up above low ys h.1)
  where
    by : (a : Bool) → nat_lt x y ≡ a → (b : Bool) → nat_lt y x ≡ b → IsRising (merged_with x rest ys) → IsRising (cond a (x ∷ rest (y ∷ ys)) (cond b (y ∷ merged_with x rest ys) (x ∷ rest ys)))
    by true e b d g = let l : x < y = ltb-true x y e in (above (y ∷ ys) (l, all_above x y ys (omega (arith, l)) h.0), up (y ∷ ys) h)
    by false e true d g = let l : y < x = ltb-true y x d in (each_with (λ j. y < j) x rest l (λ zs k. low y zs l k) ys h.0, g)
    by false e false d g = let l : x ≤ y = ltb-false y x d in (above ys (all_above x y ys l h.0), up ys h.1)

rising_merged : (xs ys : List ℕ) → IsRising xs → IsRising ys → IsRising (merged xs ys)
rising_merged [] ys h g = g
rising_merged (x ∷ xs) ys h g = rising_with x (λ zs. merged xs zs) (λ zs k. rising_merged xs zs h.1 k) (λ zs k. each_merged (λ j. x < j) xs zs h.0 k)
    (λ y zs l k. each_merged (λ j. y < j) xs zs (all_above y x xs (omega (arith, l)) h.0) k) ys g

-- and each is in one of the two
second_first : (a b c : Bool) → (a || (b || c)) ≡ (b || (a || c))
second_first true true c = refl
second_first true false c = refl
second_first false b c = refl

both_have : (a b c : Bool) → (a || (b || c)) ≡ (a || (b || (a || c)))
both_have true b c = refl
both_have false true c = refl
both_have false false c = refl

any_with : (q : ℕ → Bool) (x : ℕ) (rest : List ℕ → List ℕ) (r : Bool) → ((ys : List ℕ) → list_any q (rest ys) ≡ (r || list_any q ys)) → (ys : List ℕ) → list_any q (merged_with x rest ys) ≡ (q x || (r || list_any q ys))
any_with q x rest r f [] = ap (λ b. q x || b) (f [])
any_with q x rest r f (y ∷ ys) = by (nat_lt x y) refl (nat_lt y x) refl (any_with q x rest r f ys)
  where
    by : (a : Bool) → nat_lt x y ≡ a → (b : Bool) → nat_lt y x ≡ b → list_any q (merged_with x rest ys) ≡ (q x || (r || list_any q ys))
        → list_any q (cond a (x ∷ rest (y ∷ ys)) (cond b (y ∷ merged_with x rest ys) (x ∷ rest ys))) ≡ (q x || (r || (q y || list_any q ys)))
    by true e b d g = ap (λ c. q x || c) (f (y ∷ ys))
    by false e true d g = ap (λ c. q y || c) g ∙ second_first (q y) (q x) (r || list_any q ys) ∙ ap (λ c. q x || c) (second_first (q y) r (list_any q ys))
    by false e false d g = let l : y ≤ x = ltb-false x y e in let k : x ≤ y = ltb-false y x d in let same : x ≡ y = omega (arith, l, k) in
        ap (λ c. q x || c) (f ys) ∙ both_have (q x) r (list_any q ys) ∙ ap (λ z. q x || (r || (q z || list_any q ys))) same

any_merged : (q : ℕ → Bool) (xs ys : List ℕ) → list_any q (merged xs ys) ≡ (list_any q xs || list_any q ys)
any_merged q [] ys = refl
any_merged q (x ∷ xs) ys = any_with q x (λ zs. merged xs zs) (list_any q xs) (λ zs. any_merged q xs zs) ys ∙ sym (or_assoc (q x) (list_any q xs) (list_any q ys))

pub merged_both : (xs ys zs : List ℕ) → IsRising xs → IsRising ys → zs ≡ merged xs ys → AreBoth xs ys zs
merged_both xs ys zs h g e = record {
  rising = subst IsRising (sym e) (rising_merged xs ys h g);
  are = λ k. ap (list_any (nat_eq k)) e ∙ any_merged (nat_eq k) xs ys;
}

-- one number more, and then one of the two lists has gone by
taken_next : (x y i j i' j' : ℕ) (xs ys us vs : List ℕ) (a : Bool) → nat_lt x y ≡ a → (b : Bool) → nat_lt y x ≡ b → us ≡ drop (i + 1) xs → vs ≡ drop (j + 1) ys → drop i xs ≡ x ∷ us → drop j ys ≡ y ∷ vs → i' ≡ i + cond b 0 1 → j' ≡ j + cond a 0 1
    → cond a (x ∷ merged us (y ∷ vs)) (cond b (y ∷ merged (x ∷ us) vs) (x ∷ merged us vs)) ≡ cond b y x ∷ merged (drop i' xs) (drop j' ys)
taken_next x y i j i' j' xs ys us vs true e true d eu ev du dv ei ej = let l : x < y = ltb-true x y e in let k : y < x = ltb-true y x d in absurd (omega (arith, l, k))
taken_next x y i j i' j' xs ys us vs true e false d eu ev du dv ei ej = let m : i' ≡ i + 1 = omega (arith, ei) in let n : j' ≡ j = omega (arith, ej) in
    λ k. x ∷ merged ((eu ∙ ap (λ z. drop z xs) (sym m)) k) ((sym dv ∙ ap (λ z. drop z ys) (sym n)) k)
taken_next x y i j i' j' xs ys us vs false e true d eu ev du dv ei ej = let m : i' ≡ i = omega (arith, ei) in let n : j' ≡ j + 1 = omega (arith, ej) in
    λ k. y ∷ merged ((sym du ∙ ap (λ z. drop z xs) (sym m)) k) ((ev ∙ ap (λ z. drop z ys) (sym n)) k)
taken_next x y i j i' j' xs ys us vs false e false d eu ev du dv ei ej = let m : i' ≡ i + 1 = omega (arith, ei) in let n : j' ≡ j + 1 = omega (arith, ej) in
    λ k. x ∷ merged ((eu ∙ ap (λ z. drop z xs) (sym m)) k) ((ev ∙ ap (λ z. drop z ys) (sym n)) k)

pub merged_next : (xs ys zs zs' : List ℕ) (i j i' j' x y : ℕ) → i < length xs → j < length ys → x ≡ get_or xs i x → y ≡ get_or ys j y → i' ≡ i + cond (nat_lt y x) 0 1 → j' ≡ j + cond (nat_lt x y) 0 1
    → zs' ≡ zs ++ cond (nat_lt y x) y x ∷ [] → zs ++ merged (drop i xs) (drop j ys) ≡ merged xs ys → zs' ++ merged (drop i' xs) (drop j' ys) ≡ merged xs ys
merged_next xs ys zs zs' i j i' j' x y l m ex ey ei ej ez so_far =
    let du : drop i xs ≡ x ∷ drop (i + 1) xs = drop_more xs i x l ∙ ap (λ z. z ∷ drop (i + 1) xs) (sym ex) in
    let dv : drop j ys ≡ y ∷ drop (j + 1) ys = drop_more ys j y m ∙ ap (λ z. z ∷ drop (j + 1) ys) (sym ey) in
    ap (λ us. us ++ merged (drop i' xs) (drop j' ys)) ez ∙ append_assoc zs (cond (nat_lt y x) y x ∷ []) (merged (drop i' xs) (drop j' ys))
    ∙ ap (λ us. zs ++ us) (sym (taken_next x y i j i' j' xs ys (drop (i + 1) xs) (drop (j + 1) ys) (nat_lt x y) refl (nat_lt y x) refl refl refl du dv ei ej) ∙ sym (λ k. merged (du k) (dv k)))
    ∙ so_far

pub goes_on : (i m j n : ℕ) → (nat_lt i m && nat_lt j n) ≡ true → (i < m) × (j < n)
goes_on i m j n h = by (nat_lt i m) refl (nat_lt j n) refl h
  where
    by : (a : Bool) → nat_lt i m ≡ a → (b : Bool) → nat_lt j n ≡ b → (a && b) ≡ true → (i < m) × (j < n)
    by true e true d h = (ltb-true i m e, ltb-true j n d)
    by true e false d h = absurd (cc)
    by false e b d h = absurd (cc)

pub goes_by : (x y : ℕ) → 0 < cond (nat_lt y x) 0 1 + cond (nat_lt x y) 0 1
goes_by x y = by (nat_lt y x) refl (nat_lt x y) refl
  where
    by : (a : Bool) → nat_lt y x ≡ a → (b : Bool) → nat_lt x y ≡ b → 0 < cond a 0 1 + cond b 0 1
    by true e true d = let l : x < y = ltb-true x y d in let k : y < x = ltb-true y x e in absurd (omega (arith, l, k))
    by true e false d = omega arith
    by false e true d = omega arith
    by false e false d = omega arith

pub up_to_one : (b : Bool) → cond b 0 1 ≤ 1
up_to_one true = omega arith
up_to_one false = omega arith

pub merged_rest : (xs ys : List ℕ) (i j : ℕ) → (nat_lt i (length xs) && nat_lt j (length ys)) ≡ false → merged (drop i xs) (drop j ys) ≡ drop i xs ++ drop j ys
merged_rest xs ys i j h = by (nat_lt i (length xs)) refl h
  where
    by : (a : Bool) → nat_lt i (length xs) ≡ a → (a && nat_lt j (length ys)) ≡ false → merged (drop i xs) (drop j ys) ≡ drop i xs ++ drop j ys
    by false e g = let none : drop i xs ≡ [] = drop_all i xs (ltb-false i (length xs) e) in ap (λ us. merged us (drop j ys)) none ∙ ap (λ us. us ++ drop j ys) (sym none)
    by true e g = let none : drop j ys ≡ [] = drop_all j ys (ltb-false j (length ys) g) in ap (merged (drop i xs)) none ∙ merged_none (drop i xs) ∙ sym (append-nil (drop i xs)) ∙ ap (λ us. drop i xs ++ us) (sym none)

-- a slice from a place on
pub rest_is : (i : ℕ) (xs : List ℕ) → take (length xs - i) (drop i xs) ≡ drop i xs
rest_is i xs = take_all (length xs - i) (drop i xs) (omega (arith, length-drop i xs))

-- no number stands in a rising list twice
none_above : (i : ℕ) (is : List ℕ) → AllByRecursion (λ j. i < j) is → list_any (nat_eq i) is ≡ false
none_above i [] h = refl
none_above i (j ∷ is) h = ap (λ b. b || list_any (nat_eq i) is) (ne_eqb i j (λ e. omega (arith, e, h.0))) ∙ none_above i is h.1

pub rising_once : (is : List ℕ) → IsRising is → AreOnce is
rising_once [] h = tt
rising_once (i ∷ is) h = (none_above i is h.0, rising_once is h.1)

-- a higher number joins the end
pub rising_push : (is : List ℕ) (i : ℕ) → IsRising is → AllByRecursion (λ j. j < i) is → IsRising (is ++ i ∷ [])
rising_push [] i h l = (tt, tt)
rising_push (j ∷ is) i h l = (every_append (λ k. j < k) is (i ∷ []) h.0 (l.0, tt), rising_push is i h.1 l.1)

-- a number is searched for between two places
none_below : (id : ℕ) (is : List ℕ) → AllByRecursion (λ j. j < id) is → list_any (nat_eq id) is ≡ false
none_below id [] h = refl
none_below id (j ∷ is) h = ap (λ b. b || list_any (nat_eq id) is) (ne_eqb id j (λ e. omega (arith, e, h.0))) ∙ none_below id is h.1

pub any_at : (id : ℕ) (is : List ℕ) (i x : ℕ) → i < length is → x ≡ get_or is i x → x ≡ id → list_any (nat_eq id) is ≡ true
any_at id is i x l e s = by_list is i l (sym s ∙ e)
  where
    by_list : (js : List ℕ) (k : ℕ) → k < length js → id ≡ get_or js k x → list_any (nat_eq id) js ≡ true
    by_list [] k l e = absurd (omega (arith, l))
    by_list (j ∷ js) zero l e = or_first (nat_eq id j) (list_any (nat_eq id) js) (eq-eqb id j e)
    by_list (j ∷ js) (suc k) l e = or_second (nat_eq id j) (list_any (nat_eq id) js) (by_list js k (omega (arith, l)) e)

-- what stands up to a place, and what from it on
up_to : (is : List ℕ) (i d n : ℕ) → IsRising is → i < length is → get_or is i d < n → AllByRecursion (λ j. j < n) (take (suc i) is)
up_to [] i d n h l k = absurd (omega (arith, l))
up_to (j ∷ is) zero d n h l k = (k, tt)
up_to (j ∷ is) (suc i) d n h l k = let m : i < length is = omega (arith, l) in let f : j < get_or is i d = item_at (λ a. j < a) is i d h.0 m in (omega (arith, f, k), up_to is i d n h.1 m k)

from_on : (is : List ℕ) (i d n : ℕ) → IsRising is → i < length is → n < get_or is i d → AllByRecursion (λ j. n < j) (drop i is)
from_on [] i d n h l k = absurd (omega (arith, l))
from_on (j ∷ is) zero d n h l k = (k, all_above n j is (omega (arith, k)) h.0)
from_on (j ∷ is) (suc i) d n h l k = from_on is i d n h.1 (omega (arith, l)) k

pub low_next : (id : ℕ) (is : List ℕ) (place found low low' : ℕ) → IsRising is → place < length is → found ≡ get_or is place found → low' ≡ cond (nat_lt found id) (place + 1) low → AllByRecursion (λ j. j < id) (take low is) → AllByRecursion (λ j. j < id) (take low' is)
low_next id is place found low low' rises l e el h = by (nat_lt found id) refl el
  where
    by : (b : Bool) → nat_lt found id ≡ b → low' ≡ cond b (place + 1) low → AllByRecursion (λ j. j < id) (take low' is)
    by true k q = let s : low' ≡ suc place = omega (arith, q) in subst (λ z. AllByRecursion (λ j. j < id) (take z is)) (sym s) (up_to is place found id rises l (subst (λ z. z < id) e (ltb-true found id k)))
    by false k q = subst (λ z. AllByRecursion (λ j. j < id) (take z is)) (sym q) h

strictly : (m n : ℕ) → m ≤ n → (n ≡ m → ⊥) → m < n
strictly m n l apart = by (nat_lt m n) refl
  where
    by : (b : Bool) → nat_lt m n ≡ b → m < n
    by true e = ltb-true m n e
    by false e = let k : n ≤ m = ltb-false m n e in let same : n ≡ m = omega (arith, l, k) in absurd (apart same)

pub high_next : (id : ℕ) (is : List ℕ) (place found high high' : ℕ) → IsRising is → place < length is → found ≡ get_or is place found → (found ≡ id → ⊥) → high' ≡ cond (nat_lt found id) high place → AllByRecursion (λ j. id < j) (drop high is) → AllByRecursion (λ j. id < j) (drop high' is)
high_next id is place found high high' rises l e other eh h = by (nat_lt found id) refl eh
  where
    by : (b : Bool) → nat_lt found id ≡ b → high' ≡ cond b high place → AllByRecursion (λ j. id < j) (drop high' is)
    by true k q = subst (λ z. AllByRecursion (λ j. id < j) (drop z is)) (sym q) h
    by false k q = let n : id < found = strictly id found (ltb-false found id k) other in
        subst (λ z. AllByRecursion (λ j. id < j) (drop z is)) (sym q) (from_on is place found id rises l (subst (λ z. id < z) e n))

-- the two places come nearer
pub nearer : (found id place low high low' high' : ℕ) → low ≤ place → place < high → low' ≡ cond (nat_lt found id) (place + 1) low → high' ≡ cond (nat_lt found id) high place → (low' ≤ high') × ((high' ≤ high) × (high' - low' < high - low))
nearer found id place low high low' high' l h el eh = by (nat_lt found id) el eh
  where
    by : (b : Bool) → low' ≡ cond b (place + 1) low → high' ≡ cond b high place → (low' ≤ high') × ((high' ≤ high) × (high' - low' < high - low))
    by true p q = (omega (arith, p, q, l, h), (omega (arith, p, q, l, h), omega (arith, p, q, l, h)))
    by false p q = (omega (arith, p, q, l, h), (omega (arith, p, q, l, h), omega (arith, p, q, l, h)))

pub not_between : (id : ℕ) (is : List ℕ) (low high : ℕ) → low ≡ high → AllByRecursion (λ j. j < id) (take low is) → AllByRecursion (λ j. id < j) (drop high is) → false ≡ list_any (nat_eq id) is
not_between id is low high e h g = sym (
    ap (list_any (nat_eq id)) (sym (take-append-drop low is)) ∙ any_append (nat_eq id) (take low is) (drop low is)
    ∙ (λ k. none_below id (take low is) h k || none_above id (drop low is) (subst (λ z. AllByRecursion (λ j. id < j) (drop z is)) (sym e) g) k)
    )
