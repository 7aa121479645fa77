-- A node that is made of numbers of the parts is one of the term.
use Rattle.std.proofs.Common.{◌≡◌, refl, sym, ap, subst, ◌∙◌, ℕ, ℤ, Vec, ◌<◌, List, [], ◌∷◌, map, length}
use Rattle.std.specs.Bool.{⊤}
use Rattle.std.specs.List.{AllByRecursion}
use Rattle.std.specs.declared.alloc.Global.{Global}
use Rattle.logic_core.specs.Tree.{Tree, linear, Trees, Patterns}
use Rattle.logic_core.specs.View.{trees_of, parts_of, patterns_of}
use Rattle.term_bank.specs.Numbered.{at, AreNumbers, AreAtoms, AreLists}
use Rattle.term_bank.specs.Standing.{direct, triggers}
use Rattle.term_bank.specs.Node.{in_lists}
use Rattle.term_bank.proofs.Numbers.{number_is}
use Rattle.term_bank.proofs.NumberedLists.{numbers_give, numbers_within, atoms_give, atoms_within, lists_give, lists_within}

pub one_tree : (mk : Tree → Tree) (ts : List Tree) (ns : List ℕ) (a : ℕ) (t x : Tree) → direct t ≡ x ∷ [] → t ≡ mk x → ns ≡ a ∷ [] → AreNumbers ts ns (direct t) → (mk (at ts a) ≡ t) × ((a < length ts) × ⊤)
one_tree mk ts ns a t x d q e h =
    let g : AreNumbers ts (a ∷ []) (x ∷ []) = subst (λ us. AreNumbers ts (a ∷ []) us) d (subst (λ ms. AreNumbers ts ms (direct t)) e h) in
    let r = number_is ts x a g.0 in (ap mk r.1 ∙ sym q, (r.0, tt))

pub two_tree : (mk : Tree → Tree → Tree) (ts : List Tree) (ns : List ℕ) (a b : ℕ) (t x y : Tree) → direct t ≡ x ∷ y ∷ [] → t ≡ mk x y → ns ≡ a ∷ b ∷ [] → AreNumbers ts ns (direct t)
    → (mk (at ts a) (at ts b) ≡ t) × ((a < length ts) × ((b < length ts) × ⊤))
two_tree mk ts ns a b t x y d q e h =
    let g : AreNumbers ts (a ∷ b ∷ []) (x ∷ y ∷ []) = subst (λ us. AreNumbers ts (a ∷ b ∷ []) us) d (subst (λ ms. AreNumbers ts ms (direct t)) e h) in
    let r = number_is ts x a g.0 in let s = number_is ts y b g.1.0 in ((λ i. mk (r.1 i) (s.1 i)) ∙ sym q, (r.0, (s.0, tt)))

pub three_tree : (mk : Tree → Tree → Tree → Tree) (ts : List Tree) (ns : List ℕ) (a b c : ℕ) (t x y z : Tree) → direct t ≡ x ∷ y ∷ z ∷ [] → t ≡ mk x y z → ns ≡ a ∷ b ∷ c ∷ [] → AreNumbers ts ns (direct t)
    → (mk (at ts a) (at ts b) (at ts c) ≡ t) × ((a < length ts) × ((b < length ts) × ((c < length ts) × ⊤)))
three_tree mk ts ns a b c t x y z d q e h =
    let g : AreNumbers ts (a ∷ b ∷ c ∷ []) (x ∷ y ∷ z ∷ []) = subst (λ us. AreNumbers ts (a ∷ b ∷ c ∷ []) us) d (subst (λ ms. AreNumbers ts ms (direct t)) e h) in
    let r = number_is ts x a g.0 in let s = number_is ts y b g.1.0 in let w = number_is ts z c g.1.1.0 in ((λ i. mk (r.1 i) (s.1 i) (w.1 i)) ∙ sym q, (r.0, (s.0, (w.0, tt))))

pub list_tree : (mk : Trees → Tree) (ts : List Tree) (ns : List ℕ) (t : Tree) (us : List Tree) → direct t ≡ us → t ≡ mk (trees_of us) → AreNumbers ts ns (direct t)
    → (mk (trees_of (map (at ts) ns)) ≡ t) × AllByRecursion (λ j. j < length ts) ns
list_tree mk ts ns t us d q h = (ap (λ xs. mk (trees_of xs)) (numbers_give ts ns (direct t) h ∙ d) ∙ sym q, numbers_within ts ns (direct t) h)

pub sum_tree : (ts : List Tree) (is : List (ℤ × ℕ)) (ps : List (ℤ × Tree)) (k : ℤ) (t : Tree) → t ≡ linear (parts_of ps) k → AreAtoms ts is ps
    → (linear (parts_of (map (λ (p : ℤ × ℕ). (p.0, at ts p.1)) is)) k ≡ t) × AllByRecursion (λ j. j < length ts) (map (λ (p : ℤ × ℕ). p.1) is)
sum_tree ts is ps k t q h = (ap (λ xs. linear (parts_of xs) k) (atoms_give ts is ps h) ∙ sym q, atoms_within ts is ps h)

pub quantified_tree : (mk : Patterns → Tree → Tree) (ts : List Tree) (ns : List ℕ) (iss : List (Vec ℕ Global)) (b : ℕ) (t x : Tree) (rows : List (List Tree)) → direct t ≡ x ∷ [] → triggers t ≡ rows → t ≡ mk (patterns_of rows) x → ns ≡ b ∷ []
    → AreNumbers ts ns (direct t) → AreLists ts iss (triggers t)
    → (mk (patterns_of (map (λ (v : Vec ℕ Global). map (at ts) v.items) iss)) (at ts b) ≡ t) × ((b < length ts) × AllByRecursion (λ j. j < length ts) (in_lists iss))
quantified_tree mk ts ns iss b t x rows d p q e h g =
    let k : AreNumbers ts (b ∷ []) (x ∷ []) = subst (λ us. AreNumbers ts (b ∷ []) us) d (subst (λ ms. AreNumbers ts ms (direct t)) e h) in
    let r = number_is ts x b k.0 in
    ((λ i. mk (patterns_of ((lists_give ts iss (triggers t) g ∙ p) i)) (r.1 i)) ∙ sym q, (r.0, lists_within ts iss (triggers t) g))

-- numbers of the atoms with their coefficients beside them
pub atoms_from : (ts : List Tree) (is : List (ℤ × ℕ)) (ps : List (ℤ × Tree)) → map (λ (p : ℤ × ℕ). p.0) is ≡ map (λ (p : ℤ × Tree). p.0) ps → AreNumbers ts (map (λ (p : ℤ × ℕ). p.1) is) (map (λ (p : ℤ × Tree). p.1) ps) → AreAtoms ts is ps
atoms_from ts [] [] e h = tt
atoms_from ts [] (p ∷ ps) e h = absurd h
atoms_from ts (i ∷ is) [] e h = absurd h
atoms_from ts (i ∷ is) (p ∷ ps) e h = ((cc, h.0), atoms_from ts is ps (cc) h.1)

pub sum_made : (ts : List Tree) (ns : List ℕ) (is : List (ℤ × ℕ)) (ps : List (ℤ × Tree)) (k : ℤ) (t : Tree) → t ≡ linear (parts_of ps) k → direct t ≡ map (λ (p : ℤ × Tree). p.1) ps → map (λ (p : ℤ × ℕ). p.1) is ≡ ns → map (λ (p : ℤ × ℕ). p.0) is ≡ map (λ (p : ℤ × Tree). p.0) ps → AreNumbers ts ns (direct t)
    → (linear (parts_of (map (λ (p : ℤ × ℕ). (p.0, at ts p.1)) is)) k ≡ t) × AllByRecursion (λ j. j < length ts) (map (λ (p : ℤ × ℕ). p.1) is)
sum_made ts ns is ps k t q d e f h = sum_tree ts is ps k t q (atoms_from ts is ps f (subst (AreNumbers ts (map (λ (p : ℤ × ℕ). p.1) is)) d (subst (λ ms. AreNumbers ts ms (direct t)) (sym e) h)))
