-- What the elements of a list give together, where one element takes the place of another.
use Rattle.std.proofs.Common.{◌≡◌, refl, sym, ap, ◌∙◌, ℕ, zero, suc, Bool, false, List, [], ◌∷◌, ◌++◌, length, take, set, flat_map, slice_get, Some}
use Rattle.logic_terms.proofs.Booleans.{neither}
use Rattle.bpl_ast.specs.Statement.{DeclBody, Decl}
use Rattle.body_revision.specs.Procedures.{any_decl}
use Rattle.body_revision.proofs.FoundPlaces.{IsOnlyAt}

-- the same, where both give the same
pub same_parts : {A B : Type 0} (f : A → List B) (xs : List A) (i : ℕ) (x y : A) → slice_get xs i ≡ Some x → f y ≡ f x → flat_map f (set xs i y) ≡ flat_map f xs
same_parts f [] i x y g e = refl
same_parts f (z ∷ xs) zero x y g e = let s : z ≡ x = cc in λ k. (e ∙ ap f (sym s)) k ++ flat_map f xs
same_parts f (z ∷ xs) (suc i) x y g e = ap (λ w. f z ++ w) (same_parts f xs i x y g e)

set_behind : {B : Type 0} (ls bs cs : List B) (b : B) → set (ls ++ bs) (length (ls ++ cs)) b ≡ ls ++ set bs (length cs) b
set_behind [] bs cs b = refl
set_behind (l ∷ ls) bs cs b = ap (λ w. l ∷ w) (set_behind ls bs cs b)

-- one part in the place of one
pub other_part : {A B : Type 0} (f g : A → List B) (xs : List A) (i : ℕ) (x y : A) (a b : B) → slice_get xs i ≡ Some x → ((z : A) → g z ≡ f z) → f x ≡ a ∷ [] → g y ≡ b ∷ []
    → flat_map g (set xs i y) ≡ set (flat_map f xs) (length (flat_map f (take i xs))) b
other_part f g [] i x y a b e same one new = cc
other_part {A} {B} f g (z ∷ xs) zero x y a b e same one new =
    let s : z ≡ x = cc in
    let old : f z ≡ a ∷ [] = ap f s ∙ one in
    (λ k. new k ++ all xs k) ∙ sym (λ k. set (old k ++ flat_map f xs) 0 b)
  where
    all : (zs : List A) → flat_map g zs ≡ flat_map f zs
    all [] = refl
    all (w ∷ zs) = λ k. same w k ++ all zs k
other_part f g (z ∷ xs) (suc i) x y a b e same one new =
    (λ k. same z k ++ other_part f g xs i x y a b e same one new k) ∙ sym (set_behind (f z) (flat_map f xs) (flat_map f (take i xs)) b)

-- one part, where it alone is another
none_other : {B : Type 0} (f g : Decl → List B) (h : DeclBody → Bool) (ds : List Decl) → any_decl h ds ≡ false → ((x : Decl) → h x.body ≡ false → g x ≡ f x) → flat_map g ds ≡ flat_map f ds
none_other f g h [] none same = refl
none_other f g h (x ∷ xs) none same =
    let p = neither (h x.body) (any_decl h xs) none in
    λ k. same x p.0 k ++ none_other f g h xs p.1 same k

pub only_part : {B : Type 0} (f g : Decl → List B) (h : DeclBody → Bool) (ds : List Decl) (i : ℕ) (d : Decl) (a b : B) → IsOnlyAt h ds i → slice_get ds i ≡ Some d → ((x : Decl) → h x.body ≡ false → g x ≡ f x)
    → f d ≡ a ∷ [] → g d ≡ b ∷ [] → flat_map g ds ≡ set (flat_map f ds) (length (flat_map f (take i ds))) b
only_part f g h [] i d a b only is same one new = absurd only
only_part f g h (x ∷ xs) zero d a b only is same one new =
    let s : x ≡ d = cc in
    let old : f x ≡ a ∷ [] = ap f s ∙ one in
    (λ k. (ap g s ∙ new) k ++ none_other f g h xs only.1 same k) ∙ sym (λ k. set (old k ++ flat_map f xs) 0 b)
only_part f g h (x ∷ xs) (suc i) d a b only is same one new =
    (λ k. same x only.0 k ++ only_part f g h xs i d a b only.1 is same one new k) ∙ sym (set_behind (f x) (flat_map f xs) (flat_map f (take i xs)) b)
