-- Where there is a sort and no fault, the sort is the one that is wanted.
use Rattle.std.proofs.Common.{◌≡◌, refl, ap, sym, ◌∙◌, Bool, true, false, ◌&&◌, List, [], ◌∷◌, ◌++◌, Option, Some, None}
use Rattle.logic_core.proofs.Booleans.{all_true as both_true}
use Rattle.bv_base.specs.declared.place.Place.{Place}
use Rattle.logic_core.specs.Tree.{Kind, int, boolean, map as map_of}
use Rattle.logic_core.specs.Wide.{when}
use Rattle.logic_core.specs.Sorts.{is, read_sort, write_sort, choice_sort, equation_sort}
use Rattle.logic_core.proofs.SameTerm.{same_sort}
use Rattle.bpl_scopes.specs.declared.fault.TypeKind.{TypeKind}
use Rattle.bpl_scopes.specs.Fault.{unless}
use Rattle.bpl_faults.specs.NameFaults.{sort_faults, same_sort_faults, map_faults}
use Rattle.bpl_resolve.proofs.Below.{is_itself}

-- there is a sort
abbrev pub Known : Option Kind → Type 0
Known o = (k : Kind) × (o ≡ Some k)

pub first_empty : {A : Type 0} (xs ys : List A) → xs ++ ys ≡ [] → xs ≡ []
first_empty [] ys h = refl
first_empty (x ∷ xs) ys h = cc

pub second_empty : {A : Type 0} (xs ys : List A) → xs ++ ys ≡ [] → ys ≡ []
second_empty [] ys h = h
second_empty (x ∷ xs) ys h = cc

pub unless_empty : (c : Bool) (k : TypeKind) (p : Place) → unless c k p ≡ [] → c ≡ true
unless_empty true k p h = refl
unless_empty false k p h = cc

-- a sort that has no fault is the one that is wanted
pub has_sort : (k : Kind) (o : Option Kind) (p : Place) → Known o → sort_faults k o p ≡ [] → o ≡ Some k
has_sort k None p (j, e) h = cc
has_sort k (Some j) p h g = ap Some (same_sort j k (unless_empty _ _ p g))

pub has_same : (o q : Option Kind) (p : Place) → Known o → Known q → same_sort_faults o q p ≡ [] → o ≡ q
has_same None q p (j, e) h g = cc
has_same (Some k) q p o h g = sym (has_sort k q p h g)

pub is_map : (m : Option Kind) (p : Place) → Known m → map_faults m p ≡ [] → (r : Kind) × (m ≡ Some (map_of r))
is_map None p (j, e) h = cc
is_map (Some int) p k h = cc
is_map (Some boolean) p k h = cc
is_map (Some (map_of r)) p k h = (r, refl)

pub choice_known : (c x y : Option Kind) → c ≡ Some boolean → Known x → x ≡ y → Known (choice_sort c x y)
choice_known c x y h (k, e) g = (k, (λ i. choice_sort (h i) (e i) ((sym g ∙ e) i)) ∙ ap (λ w. when w (Some k)) (is_itself k))

pub equation_known : (x y : Option Kind) → Known x → x ≡ y → Known (equation_sort x y)
equation_known x y (k, e) g = (boolean, (λ i. equation_sort (e i) ((sym g ∙ e) i)) ∙ ap (λ w. when w (Some boolean)) (is_itself k))

pub read_known : (m i : Option Kind) (r : Kind) → m ≡ Some (map_of r) → i ≡ Some int → Known (read_sort m i)
read_known m i r h g = (r, λ j. read_sort (h j) (g j))

pub write_known : (m i v : Option Kind) (r : Kind) → m ≡ Some (map_of r) → i ≡ Some int → v ≡ Some r → Known (write_sort m i v)
write_known m i v r h g e = (map_of r, (λ j. write_sort (h j) (g j) (e j)) ∙ ap (λ w. when w (Some (map_of r))) (is_itself r))

pub when_known : (c : Bool) (o : Option Kind) → c ≡ true → Known o → Known (when c o)
when_known c o h (k, e) = (k, λ i. when (h i) (e i))

pub is_wanted : (k : Kind) (o : Option Kind) → o ≡ Some k → is k o ≡ true
is_wanted k o e = ap (is k) e ∙ is_itself k
