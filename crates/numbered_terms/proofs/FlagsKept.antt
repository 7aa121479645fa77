-- Flags of the numbers in a set, as numbers join it and go.
use Rattle.std.proofs.Common.{◌≡◌, refl, sym, ap, ◌∙◌, ℕ, nat_eq, Bool, true, false, ◌||◌, cond, List, [], ◌∷◌, ◌++◌, get_or}
use Rattle.std.specs.List.{list_any}
use Rattle.logic_core.proofs.Anywhere.{any_append}
use Rattle.logic_core.proofs.Booleans.{or_second, or_false}
use Rattle.numbered_terms.specs.Flags.{AreFlags}

same_or : (b c : Bool) → cond b true c ≡ (c || (b || false))
same_or true c = sym (or_second c true refl)
same_or false c = sym (or_false c)

-- one number more
pub flag_set : (is : List ℕ) (id : ℕ) (bs cs ds : List Bool) → AreFlags is bs → ((i : ℕ) → get_or cs i false ≡ get_or bs i false) → ((i : ℕ) → get_or ds i false ≡ cond (nat_eq i id) true (get_or cs i false)) → AreFlags (is ++ id ∷ []) ds
flag_set is id bs cs ds h room g i = g i ∙ ap (cond (nat_eq i id) true) (room i ∙ h i) ∙ same_or (nat_eq i id) (list_any (nat_eq i) is) ∙ sym (any_append (nat_eq i) is (id ∷ []))

pub flags_same : (is : List ℕ) (bs cs : List Bool) → AreFlags is bs → ((i : ℕ) → get_or cs i false ≡ get_or bs i false) → AreFlags is cs
flags_same is bs cs h g i = g i ∙ h i

not_self : (b : Bool) → cond b false b ≡ false
not_self true = refl
not_self false = refl

-- all numbers go
pub flags_gone : (is : List ℕ) (bs cs : List Bool) → AreFlags is bs → ((i : ℕ) → get_or cs i false ≡ cond (list_any (nat_eq i) is) false (get_or bs i false)) → AreFlags [] cs
flags_gone is bs cs h g i = g i ∙ ap (cond (list_any (nat_eq i) is) false) (h i) ∙ not_self (list_any (nat_eq i) is)
