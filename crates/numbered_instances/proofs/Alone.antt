-- A term that occurs in one fact alone rewrites no other one.
use Rattle.std.proofs.Common.{◌≡◌, refl, sym, ap, subst, ◌∙◌, ℕ, zero, suc, nat_eq, not, Bool, true, false, true≢false, ◌&&◌, ◌||◌, Option, Some, List, [], ◌∷◌, map, slice_get}
use Rattle.std.specs.List.{list_any}
use Rattle.std.proofs.lemmas.Bool.{eq-eqb}
use Rattle.logic_core.specs.Tree.{Tree}
use Rattle.logic_core.specs.Subterm.{occurs}
use Rattle.tableau_branch.specs.Branch.{Fact}
use Rattle.tableau_branch.specs.Replacing.{rewrites}
use Rattle.numbered_instances.specs.Shared.{in_one, in_two}

abbrev pub terms_of : List Fact → List Tree
terms_of fs = map (λ (f : Fact). f.term) fs

module _ (l : Tree) (n : ℕ) where
  in_none : (fs : List Fact) → in_one l (terms_of fs) ≡ false → list_any (rewrites n l) fs ≡ false
  in_none [] h = refl
  in_none (f ∷ fs) h = by (not (nat_eq n f.number)) (occurs l f.term) (in_none fs) h
    where
      by : (a b : Bool) → (in_one l (terms_of fs) ≡ false → list_any (rewrites n l) fs ≡ false) → (b || in_one l (terms_of fs)) ≡ false → ((a && b) || list_any (rewrites n l) fs) ≡ false
      by a true r k = absurd (true≢false k)
      by true false r k = r k
      by false false r k = r k

  there : (fs : List Fact) (at : ℕ) (f : Fact) → slice_get fs at ≡ Some f → occurs l f.term ≡ true → in_one l (terms_of fs) ≡ true
  there [] at f e o = absurd (cc)
  there (g ∷ fs) zero f e o = let same : g ≡ f = cc in ap (λ b. b || in_one l (terms_of fs)) (ap (λ (x : Fact). occurs l x.term) same ∙ o)
  there (g ∷ fs) (suc at) f e o = by (occurs l g.term) (there fs at f e o)
    where
      by : (b : Bool) → in_one l (terms_of fs) ≡ true → (b || in_one l (terms_of fs)) ≡ true
      by true r = refl
      by false r = r

  not_itself : (m : ℕ) (b : Bool) → n ≡ m → (not (nat_eq n m) && b) ≡ false
  not_itself m b e = ap (λ c. not c && b) (eq-eqb n m e)

  first_alone : (a b c : Bool) → a ≡ true → ((a && b) || c) ≡ false → b ≡ false
  first_alone true true c h k = absurd (true≢false k)
  first_alone true false c h k = refl
  first_alone false b c h k = absurd (true≢false (sym h))

  pub alone_rewrites : (fs : List Fact) (at : ℕ) (f : Fact) → slice_get fs at ≡ Some f → n ≡ f.number → occurs l f.term ≡ true → in_two l (terms_of fs) ≡ false → list_any (rewrites n l) fs ≡ false
  alone_rewrites [] at f e number o h = refl
  alone_rewrites (g ∷ fs) zero f e number o h = let same : g ≡ f = cc in
      let there : occurs l g.term ≡ true = ap (λ (x : Fact). occurs l x.term) same ∙ o in
      ap (λ b. b || list_any (rewrites n l) fs) (not_itself g.number (occurs l g.term) (number ∙ sym (ap (λ (x : Fact). x.number) same)))
      ∙ in_none fs (first_alone (occurs l g.term) (in_one l (terms_of fs)) (in_two l (terms_of fs)) there h)
  alone_rewrites (g ∷ fs) (suc at) f e number o h = by (not (nat_eq n g.number)) (occurs l g.term) (in_one l (terms_of fs)) (there fs at f e o) (alone_rewrites fs at f e number o) h
    where
      by : (x b c : Bool) → c ≡ true → (in_two l (terms_of fs) ≡ false → list_any (rewrites n l) fs ≡ false) → ((b && c) || in_two l (terms_of fs)) ≡ false → ((x && b) || list_any (rewrites n l) fs) ≡ false
      by x true true k r m = absurd (true≢false m)
      by x b false k r m = absurd (true≢false (sym k))
      by true false true k r m = r m
      by false false true k r m = r m
