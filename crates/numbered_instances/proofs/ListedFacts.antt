-- The numbers of facts, one after another.
use Rattle.std.proofs.Common.{◌≡◌, sym, ap, ◌∙◌, ℕ, ◌+◌, ◌<◌, List, [], ◌∷◌, ◌++◌, map, length, take, get_or}
use Rattle.std.proofs.lemmas.List.{map-append, append_assoc}
use Rattle.tableau_branch.proofs.Lists.{take_item}
use Rattle.numbered_branches.specs.Branches.{NumberedFact}

abbrev terms : List NumberedFact → List ℕ
terms fs = map (λ (f : NumberedFact). f.term) fs

-- one more
pub terms_next : (fs : List NumberedFact) (i : ℕ) (f : NumberedFact) (id : ℕ) (ys : List ℕ) → i < length fs → f ≡ get_or fs i f → id ≡ f.term → terms (take i fs) ++ id ∷ ys ≡ terms (take (i + 1) fs) ++ ys
terms_next fs i f id ys l e h = ap (λ n. terms (take i fs) ++ n ∷ ys) h ∙ sym (append_assoc (terms (take i fs)) (f.term ∷ []) ys)
    ∙ ap (λ zs. zs ++ ys) (sym (map-append (λ (g : NumberedFact). g.term) (take i fs) (f ∷ []))) ∙ ap (λ gs. terms gs ++ ys) (sym (take_item fs i f l e))
