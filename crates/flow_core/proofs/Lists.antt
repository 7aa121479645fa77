-- Tests on the items of lists.
use Rattle.std.proofs.Common.{◌≡◌, Bool, true, false, List, get_or, ℕ, ◌<◌, ◌+◌, arith, inl, inr, subst, refl, ◌↔◌, ◌||◌, [], ◌∷◌, map, ap}
use Rattle.std.specs.Prelude.{Contains, IsTrue}
use Rattle.std.specs.List.{list_any, list_all}
use Rattle.std.proofs.lemmas.Bool.{cases_lt}
use Rattle.std.proofs.lemmas.List.Elements.{All-contains, Contains-get_or}
use Rattle.std.proofs.lemmas.List.Folds.{Any-from_list_any, list_any-from_Any}
use Rattle.std.proofs.lemmas.List.Sums.{AllPass-from_list_all, list_all-from_AllPass}

-- what passes a test on all items, and when all items pass
pub passes : {X : Type 0} (p : X → Bool) (xs : List X) (x : X) → list_all p xs ≡ true → Contains xs x → p x ≡ true
passes p xs x h m = All-contains (λ y. p y ≡ true) xs x (AllPass-from_list_all p xs h) m

pub all_pass : {X : Type 0} (p : X → Bool) (xs : List X) → ((x : X) → Contains xs x → p x ≡ true) → list_all p xs ≡ true
all_pass p xs f = list_all-from_AllPass p xs (λ k d h. f (get_or xs k d) (Contains-get_or xs k d h))

-- an item that passes
pub passing : {X : Type 0} (p : X → Bool) (xs : List X) → list_any p xs ≡ true → (x : X) × Contains xs x × (p x ≡ true)
passing p xs h = let e = Any-from_list_any p xs h in (e.1, (e.0, e.2, e.3), e.4)

pub any_passes : {X : Type 0} (p : X → Bool) (xs : List X) (x : X) → Contains xs x → p x ≡ true → list_any p xs ≡ true
any_passes p xs x m h = list_any-from_Any p xs (m.0, x, m.1, m.2, h)

pub list_any-map : {X Y : Type 0} (p : X → Bool) (h : Y → X) (ys : List Y) → list_any p (map h ys) ≡ list_any (λ y. p (h y)) ys
list_any-map p h [] = refl
list_any-map p h (y ∷ ys) = ap (λ r. p (h y) || r) (list_any-map p h ys)

-- of all numbers below the next one
pub below_next : (P : ℕ → Type 0) (n : ℕ) → ((k : ℕ) → k < n → P k) → P n → (k : ℕ) → k < n + 1 → P k
below_next P n f p k h = elim (cases_lt k n) [ inl l ↦ f k l | inr l ↦ let e : n ≡ k = omega arith in subst P e p ]

-- a test that says yes, and one that says no
pub says_yes : {P : Type 0} → P → (IsTrue true) ↔ P
says_yes p = ((λ _. p), (λ _. refl))

pub says_no : {P : Type 0} → (P → ⊥) → (IsTrue false) ↔ P
says_no n = ((λ h. absurd (cc)), (λ p. absurd (n p)))
