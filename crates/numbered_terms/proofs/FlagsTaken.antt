-- Flags that are taken back one after another, and room for more.
use Rattle.std.proofs.Common.{◌≡◌, refl, sym, ap, ◌∙◌, ℕ, zero, suc, ◌+◌, ◌<◌, nat_eq, Bool, true, false, ◌||◌, cond, List, [], ◌∷◌, ◌++◌, Option, None, length, get_or, take}
use Rattle.std.proofs.lemmas.List.{take_more}
use Rattle.std.specs.List.{list_any}
use Rattle.logic_core.proofs.Anywhere.{any_append}

both_taken : (a b c : Bool) → cond a false (cond b false c) ≡ cond (b || (a || false)) false c
both_taken true true c = refl
both_taken true false c = refl
both_taken false true c = refl
both_taken false false c = refl

-- one more flag
pub flags_taken : (ids : List ℕ) (k id : ℕ) (bs cs ds : List Bool) → k < length ids → id ≡ get_or ids k id → ((i : ℕ) → get_or cs i false ≡ cond (list_any (nat_eq i) (take k ids)) false (get_or bs i false))
    → ((i : ℕ) → get_or ds i false ≡ cond (nat_eq i id) false (get_or cs i false)) → (i : ℕ) → get_or ds i false ≡ cond (list_any (nat_eq i) (take (k + 1) ids)) false (get_or bs i false)
flags_taken ids k id bs cs ds within is so_far gives i =
    let before = take k ids in
    let more : take (k + 1) ids ≡ before ++ id ∷ [] = take_more ids k id within ∙ ap (λ x. before ++ x ∷ []) (sym is) in
    gives i ∙ ap (cond (nat_eq i id) false) (so_far i) ∙ both_taken (nat_eq i id) (list_any (nat_eq i) before) (get_or bs i false)
    ∙ ap (λ b. cond b false (get_or bs i false)) (sym (ap (list_any (nat_eq i)) more ∙ any_append (nat_eq i) before (id ∷ [])))

-- an empty slot more
pub empty_more : {A : Type 0} (xs : List (Option A)) (n : ℕ) → get_or (xs ++ None ∷ []) n None ≡ get_or xs n None
empty_more [] zero = refl
empty_more [] (suc n) = refl
empty_more (x ∷ xs) zero = refl
empty_more (x ∷ xs) (suc n) = empty_more xs n
