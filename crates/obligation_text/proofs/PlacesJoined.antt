-- The table of places as entries and numbers come.
use Rattle.std.specs.Prelude.{◌≡◌, refl, ℕ, zero, suc, ◌+◌, ◌<◌, nat_eq, Bool, true, false, ◌||◌, cond, is_some, Option, Some, None, List, [], ◌∷◌, ◌++◌, length, slice_index_or, slice_set}
use Rattle.std.specs.List.{list_any, position_from}
use Rattle.std.proofs.Common.{◌∙◌, get_or-set_same, get_or-set_other}
use Rattle.std.proofs.lemmas.Bool.{cases_eq}
use mathlib.Core.Path.{subst, sym}
use mathlib.Core.Logic.{inl, inr}
use Rattle.logic_core.proofs.FirstOccurrences.{spot_new, spot_other}
use Rattle.obligation_text.specs.Places.{HasPlaces}

-- an entry with no place more
pub entry_more : (xs : List (Option ℕ)) (v : ℕ) → slice_index_or (xs ++ None ∷ []) v None ≡ slice_index_or xs v None
entry_more [] zero = refl
entry_more [] (suc v) = refl
entry_more (x ∷ xs) zero = refl
entry_more (x ∷ xs) (suc v) = entry_more xs v

among_from : (ns : List ℕ) (k n : ℕ) → list_any (nat_eq n) ns ≡ is_some (position_from (nat_eq n) k ns)
among_from [] k n = refl
among_from (m ∷ ns) k n = by_test (among_from ns (k + 1) n) (nat_eq n m)
  where
    by_test : list_any (nat_eq n) ns ≡ is_some (position_from (nat_eq n) (k + 1) ns) → (b : Bool) → (b || list_any (nat_eq n) ns) ≡ is_some (cond b (Some k) (position_from (nat_eq n) (k + 1) ns))
    by_test rest true = refl
    by_test rest false = rest

-- a number is among others where it has a place
pub among_by_place : (ns : List ℕ) (n : ℕ) → list_any (nat_eq n) ns ≡ is_some (position_from (nat_eq n) 0 ns)
among_by_place ns n = among_from ns 0 n

-- a new number stands at the end
pub places_joined : (places : List (Option ℕ)) (numbers : List ℕ) (n : ℕ) → HasPlaces places numbers → n < length places → list_any (nat_eq n) numbers ≡ false
    → HasPlaces (slice_set places n (Some (length numbers))) (numbers ++ n ∷ [])
places_joined places numbers n has below anew v = elim (cases_eq v n) [
  | inl same ↦ subst (λ k. slice_index_or (slice_set places n (Some (length numbers))) k None ≡ position_from (nat_eq k) 0 (numbers ++ n ∷ [])) (sym same)
      (get_or-set_same places n (Some (length numbers)) None below ∙ sym (spot_new numbers n anew))
  | inr apart ↦ get_or-set_other places n v (Some (length numbers)) None apart ∙ has v ∙ sym (spot_other numbers v n apart)
]
