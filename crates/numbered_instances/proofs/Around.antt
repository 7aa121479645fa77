-- A test of facts, of those from a place on and of those before it.
use Rattle.std.proofs.Common.{◌≡◌, sym, ap, ◌∙◌, ℕ, Bool, true, false, ◌||◌, List, ◌++◌, map, take, drop}
use Rattle.std.specs.List.{list_any}
use Rattle.std.proofs.lemmas.List.{map-append, take-append-drop}
use Rattle.logic_core.specs.Tree.{Tree}
use Rattle.logic_core.proofs.Anywhere.{any_append}
use Rattle.logic_core.proofs.Booleans.{or_second, or_false}
use Rattle.tableau_branch.specs.Branch.{Fact}
use Rattle.numbered_branches.specs.Branches.{NumberedFact, fact_at}

module _ (p : Fact → Bool) (ts : List Tree) (k : ℕ) (fs : List NumberedFact) where
  around : list_any p (map (fact_at ts) fs) ≡ (list_any p (map (fact_at ts) (take k fs)) || list_any p (map (fact_at ts) (drop k fs)))
  around =
      ap (λ gs. list_any p (map (fact_at ts) gs)) (sym (take-append-drop k fs))
      ∙ ap (list_any p) (map-append (fact_at ts) (take k fs) (drop k fs))
      ∙ any_append p (map (fact_at ts) (take k fs)) (map (fact_at ts) (drop k fs))

  pub any_behind : list_any p (map (fact_at ts) (drop k fs)) ≡ true → true ≡ list_any p (map (fact_at ts) fs)
  any_behind h = sym (around ∙ or_second (list_any p (map (fact_at ts) (take k fs))) (list_any p (map (fact_at ts) (drop k fs))) h)

  pub any_before : list_any p (map (fact_at ts) (drop k fs)) ≡ false → list_any p (map (fact_at ts) (take k fs)) ≡ list_any p (map (fact_at ts) fs)
  any_before h = sym (around ∙ ap (λ b. list_any p (map (fact_at ts) (take k fs)) || b) h ∙ or_false (list_any p (map (fact_at ts) (take k fs))))
