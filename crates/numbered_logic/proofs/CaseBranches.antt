-- The branches of cases by number, one after another.
use Rattle.std.proofs.Common.{◌≡◌, refl, sym, ap, subst, ◌∙◌, ℕ, zero, suc, ◌+◌, ◌<◌, ◌≤◌, List, [], ◌∷◌, ◌++◌, map, length, take, get_or, arith}
use Rattle.std.proofs.lemmas.List.{length-map, take_all}
use Rattle.logic_core.specs.Tree.{Tree}
use Rattle.term_bank.specs.Numbered.{at}
use Rattle.tableau_branch.specs.Cases.{case}
use Rattle.tableau_branch.specs.Change.{Made}
use Rattle.numbered_terms.specs.Stored.{Numbered, Grows}
use Rattle.numbered_branches.specs.Branches.{NumberedBranch, NumberedMade, branch_at, made_at, IsBranchOver, IsMadeOver}
use Rattle.numbered_branches.specs.Standing.{IsMadeAt, AreMadeAt}
use Rattle.numbered_branches.proofs.Changing.{branch_more, made_more}
use Rattle.numbered_branches.proofs.Standing.{stand_next}
use Rattle.numbered_logic.proofs.Later.{at_later}

got_map : {A B : Type 0} (f : A → B) (xs : List A) (i : ℕ) (d : A) → get_or (map f xs) i (f d) ≡ f (get_or xs i d)
got_map f [] i d = refl
got_map f (x ∷ xs) zero d = refl
got_map f (x ∷ xs) (suc i) d = got_map f xs i d

module _ (n : Numbered) (b : NumberedBranch) (ids : List ℕ) where
  abbrev pub cases : List Made
  cases = map (case (branch_at n.terms b)) (map (at n.terms) ids)

  as_long : length cases ≡ length ids
  as_long = length-map (map (at n.terms) ids) (case (branch_at n.terms b)) ∙ length-map ids (at n.terms)

  pub case_next : IsBranchOver n.terms b → (m o : Numbered) (g : Grows n m) (h : Grows m o) (all new : List NumberedMade) (d : NumberedMade) (c : NumberedBranch) (i x : ℕ) → i < length ids → x ≡ get_or ids i x → x < length n.terms → c ≡ b → AreMadeAt m.terms all (take i cases)
      → IsMadeAt o.terms d (case (branch_at m.terms c) (at m.terms x)) → new ≡ all ++ d ∷ [] → AreMadeAt o.terms new (take (i + 1) cases)
  case_next over m o g h all new d c i x l e low copied so_far made pushed =
      let one : case (branch_at m.terms c) (at m.terms x) ≡ case (branch_at n.terms b) (at n.terms x) = λ k. case ((ap (branch_at m.terms) copied ∙ (branch_more n.terms m.terms g.terms b over).1) k) (at_later n m x g low k) in
      let there : case (branch_at n.terms b) (at n.terms x) ≡ get_or cases i (case (branch_at n.terms b) (at n.terms x)) =
      sym (got_map (case (branch_at n.terms b)) (map (at n.terms) ids) i (at n.terms x) ∙ ap (case (branch_at n.terms b)) (got_map (at n.terms) ids i x ∙ ap (at n.terms) (sym e))) in
      stand_next IsMadeOver made_at made_more m.terms o.terms all new d cases i (case (branch_at n.terms b) (at n.terms x)) h.terms (omega (arith, l, as_long)) there so_far made.0 (made.1 ∙ one) pushed

  pub all_cases : (us : List Tree) (all : List NumberedMade) (i : ℕ) → length ids ≤ i → AreMadeAt us all (take i cases) → AreMadeAt us all cases
  all_cases us all i l h = subst (AreMadeAt us all) (take_all i cases (omega (arith, l, as_long))) h
