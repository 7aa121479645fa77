-- An Exists that is found in a fact of numbers stands for that of its formula.
use Rattle.std.proofs.Common.{◌≡◌, sym, ap, subst, ◌∙◌, ℕ, ◌+◌, ◌<◌, Vec, Option, Some, None, List, map, length, drop, get_or}
use Rattle.std.specs.declared.alloc.Global.{Global}
use Rattle.logic_core.specs.Tree.{Kind, Tree}
use Rattle.term_bank.specs.Numbered.{at}
use Rattle.tableau_branch.specs.Branch.{At, first_from}
use Rattle.logic_rules.specs.Skolem.{body_of_exists, as_exists}
use Rattle.numbered_branches.specs.Branches.{NumberedFact, fact_at}
use Rattle.numbered_logic.specs.Exists.{FindsExists}
use Rattle.numbered_logic.specs.declared.skolemizing.FoundExists.{FoundExists}
use Rattle.numbered_logic.proofs.Oldest.{found_later, found_here}

module _ (ts : List Tree) (fs : List NumberedFact) (i : ℕ) (f : NumberedFact) (l : i < length fs) (e : f ≡ get_or fs i f) (id : ℕ) (is_id : id ≡ f.term) where
  pub exists_here : (whole : Option (At (List Kind × Tree))) (ks : List Kind) (body : ℕ) (v : Vec Kind Global) (a : FoundExists) → body_of_exists (at ts id) ≡ Some (ks, at ts body) → body < length ts → v.items ≡ ks
      → a ≡ record { at = i; formula = f.term; number = f.number; sorts = v; body = body } → first_from as_exists i (map (fact_at ts) (drop i fs)) ≡ whole → FindsExists ts fs (Some a) whole
  exists_here whole ks body v a shape low copied is so_far = subst (λ (b : FoundExists). FindsExists ts fs (Some b) whole) (sym is) (
    record { place = l; body = low },
    sym so_far ∙ found_here as_exists ts fs i f (v.items, at ts body) l e (ap (λ j. body_of_exists (at ts j)) (sym is_id) ∙ shape ∙ λ k. Some (sym copied k, at ts body)),
  )

  pub exists_lacking : (whole : Option (At (List Kind × Tree))) → body_of_exists (at ts id) ≡ None → first_from as_exists i (map (fact_at ts) (drop i fs)) ≡ whole → first_from as_exists (i + 1) (map (fact_at ts) (drop (i + 1) fs)) ≡ whole
  exists_lacking whole none so_far = sym (found_later as_exists ts fs i f l e (ap (λ j. body_of_exists (at ts j)) (sym is_id) ∙ none)) ∙ so_far

-- by other names for the facts and the terms
pub finds_exists_in : (us ts : List Tree) (gs fs : List NumberedFact) (p : Option FoundExists) → us ≡ ts → gs ≡ fs → FindsExists us gs p (first_from as_exists 0 (map (fact_at us) gs)) → FindsExists ts fs p (first_from as_exists 0 (map (fact_at ts) fs))
finds_exists_in us ts gs fs p d e h = subst (λ vs. FindsExists vs fs p (first_from as_exists 0 (map (fact_at vs) fs))) d (subst (λ hs. FindsExists us hs p (first_from as_exists 0 (map (fact_at us) hs))) e h)
