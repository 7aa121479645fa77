-- Items that are taken from the end of one list and put at the end of another.
use Rattle.std.proofs.Common.{◌≡◌, sym, ap, ◌∙◌, List, [], ◌∷◌, ◌++◌, map, reverse, subst}
use Rattle.std.specs.List.{AllByRecursion}
use Rattle.std.proofs.lemmas.List.{map-append, append_assoc, append-nil, reverse-append}
use Rattle.logic_core.proofs.EachOf.{every_left, every_right}
use Rattle.numbered_branches.proofs.Listing.{map_twice}

-- the last one comes first backwards
pub last_first : {A : Type 0} (xs rest : List A) (x : A) → xs ≡ rest ++ x ∷ [] → reverse xs ≡ x ∷ reverse rest
last_first xs rest x e = ap reverse e ∙ reverse-append rest (x ∷ [])

-- what is made of one more goes behind what is made of the others
seen_push : {B C : Type 0} (g : B → C) (ys zs : List B) (y : B) (c : C) (cs : List C) → zs ≡ ys ++ y ∷ [] → g y ≡ c → map g zs ++ cs ≡ map g ys ++ c ∷ cs
seen_push g ys zs y c cs q e = ap (λ vs. map g vs ++ cs) q ∙ ap (λ vs. vs ++ cs) (map-append g ys (y ∷ [])) ∙ append_assoc (map g ys) (g y ∷ []) cs ∙ ap (λ d. map g ys ++ d ∷ cs) e

module _ {A B C : Type 0} (f : A → C) (g : B → C) (xs rest : List A) (x : A) (ys zs : List B) (y : B) (all : List C) (p : xs ≡ rest ++ x ∷ []) (q : zs ≡ ys ++ y ∷ []) (e : g y ≡ f x) where
  -- what is taken is put backwards
  pub put_back : map f xs ++ map g (reverse ys) ≡ all → map f rest ++ map g (reverse zs) ≡ all
  put_back h = ap (λ vs. map f rest ++ map g vs) (last_first zs ys y q) ∙ sym (seen_push f rest xs x (g y) (map g (reverse ys)) p (sym e)) ∙ h

  -- what stands backwards is put forwards
  pub put_forth : map g ys ++ map f (reverse xs) ≡ all → map g zs ++ map f (reverse rest) ≡ all
  put_forth h = seen_push g ys zs y (f x) (map f (reverse rest)) q e ∙ ap (λ vs. map g ys ++ map f vs) (sym (last_first xs rest x p)) ∙ h

-- the same where what is taken is seen in two steps
module _ {A B C D : Type 0} (k : D → C) (f : A → D) (g : B → C) (xs rest : List A) (x : A) (ys zs : List B) (y : B) (all : List C) (p : xs ≡ rest ++ x ∷ []) (q : zs ≡ ys ++ y ∷ []) (e : g y ≡ k (f x)) where
  pub put_forth_twice : map g ys ++ map k (map f (reverse xs)) ≡ all → map g zs ++ map k (map f (reverse rest)) ≡ all
  put_forth_twice h = ap (λ vs. map g zs ++ vs) (map_twice k f (reverse rest)) ∙ put_forth (λ a. k (f a)) g xs rest x ys zs y all p q e (ap (λ vs. map g ys ++ vs) (sym (map_twice k f (reverse xs))) ∙ h)

-- the ends
module _ {A B C : Type 0} (f : A → C) (g : B → C) (xs : List A) (ys : List B) (all : List C) (none : xs ≡ []) where
  pub all_back : map f xs ++ map g (reverse ys) ≡ all → map g (reverse ys) ≡ all
  all_back h = ap (λ vs. map f vs ++ map g (reverse ys)) (sym none) ∙ h

module _ {A B C D : Type 0} (k : D → C) (f : A → D) (g : B → C) (xs : List A) (ys : List B) (all : List C) (none : xs ≡ []) where
  pub all_forth_twice : map g ys ++ map k (map f (reverse xs)) ≡ all → map g ys ≡ all
  all_forth_twice h = sym (append-nil (map g ys)) ∙ ap (λ vs. map g ys ++ map k (map f (reverse vs))) (sym none) ∙ h

-- what is so of all is so of the last one and of the others
module _ {A D : Type 0} (P : D → Type 0) (f : A → D) (xs rest : List A) (x : A) (p : xs ≡ rest ++ x ∷ []) where
  pub forwards : AllByRecursion P (map f xs) → AllByRecursion P (map f rest) × P (f x)
  forwards h = let split = subst (AllByRecursion P) (ap (map f) p ∙ map-append f rest (x ∷ [])) h in (every_left P (map f rest) (f x ∷ []) split, (every_right P (map f rest) (f x ∷ []) split).0)

  pub backwards : AllByRecursion P (map f (reverse xs)) → P (f x) × AllByRecursion P (map f (reverse rest))
  backwards h = subst (λ vs. AllByRecursion P (map f vs)) (last_first xs rest x p) h
