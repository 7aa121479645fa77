-- What is found in a fact of numbers stands for what is found in its formula.
use Rattle.std.proofs.Common.{◌≡◌, sym, ap, subst, ◌∙◌, ℕ, ◌+◌, ◌<◌, Vec, Option, Some, None, List, [], map, find, length, drop, get_or, arith}
use Rattle.std.specs.List.{AllByRecursion}
use Rattle.std.specs.declared.alloc.Global.{Global}
use Rattle.logic_core.specs.Tree.{Tree, all}
use Rattle.logic_core.specs.Subterm.{outside}
use Rattle.logic_core.specs.View.{trees_of}
use Rattle.term_bank.specs.Numbered.{at}
use Rattle.tableau_branch.specs.Branch.{Fact, At, first_from}
use Rattle.tableau_branch.specs.Shapes.{is_call}
use Rattle.logic_rules.specs.Flattening.{conjuncts_of, as_all}
use Rattle.logic_rules.specs.Splitting.{cases_of}
use Rattle.logic_rules.specs.Unfolding.{first_call}
use Rattle.logic_rules.proofs.Listed.{listed_trees}
use Rattle.numbered_terms.proofs.Items.{all_lower}
use Rattle.numbered_terms.specs.Stored.{Numbered, Grows}
use Rattle.numbered_facts.specs.Answers.{StandsFor}
use Rattle.numbered_branches.specs.Branches.{NumberedFact, NumberedBranch, fact_at, branch_at, IsFactBelow}
use Rattle.numbered_logic.specs.declared.found.Found.{Found}
use Rattle.numbered_logic.specs.declared.found.FoundOne.{FoundOne}
use Rattle.numbered_logic.specs.Forms.{AreSome, branch_over}
use Rattle.numbered_logic.specs.Found.{Finds, FindsOne}
use Rattle.numbered_logic.proofs.Later.{grows_same, grows_then, below_later, at_later, fact_later}
use Rattle.numbered_logic.proofs.Oldest.{found_later, found_here}

-- in the fact at the place, in a store that went on since
module _ (n m : Numbered) (g : Grows n m) (fs : List NumberedFact) (i : ℕ) (f : NumberedFact) (l : i < length fs) (e : f ≡ get_or fs i f) (low : IsFactBelow (length n.terms) f) where
  same_fact : fact_at n.terms f ≡ fact_at m.terms f
  same_fact = sym (fact_later n m f g low)

  pub finds_here : (test : Fact → Option (List Tree)) (o : Option (At (List Tree))) (a : Found) (v : Vec ℕ Global) → a ≡ record { at = i; formula = f.term; number = f.number; terms = v } → AllByRecursion (λ j. j < length m.terms) v.items
      → test (fact_at n.terms f) ≡ Some (map (at m.terms) v.items) → first_from test i (map (fact_at n.terms) (drop i fs)) ≡ o → Finds m.terms fs (Some a) o
  finds_here test o a v is h t so_far = subst (λ (b : Found). Finds m.terms fs (Some b) o) (sym is) (
    record { place = l; formula = below_later n m f.term g low; terms = h },
    sym so_far ∙ found_here test n.terms fs i f (map (at m.terms) v.items) l e t ∙ λ k. Some (record { at = i; fact = same_fact k; what = map (at m.terms) v.items }),
  )

  pub finds_one_here : (test : Fact → Option Tree) (o : Option (At Tree)) (a : FoundOne) (t : ℕ) → a ≡ record { at = i; formula = f.term; number = f.number; term = t } → t < length m.terms
      → test (fact_at n.terms f) ≡ Some (at m.terms t) → first_from test i (map (fact_at n.terms) (drop i fs)) ≡ o → FindsOne m.terms fs (Some a) o
  finds_one_here test o a t is h found so_far = subst (λ (b : FoundOne). FindsOne m.terms fs (Some b) o) (sym is) (
    record { place = l; formula = below_later n m f.term g low; term = h },
    sym so_far ∙ found_here test n.terms fs i f (at m.terms t) l e found ∙ λ k. Some (record { at = i; fact = same_fact k; what = at m.terms t }),
  )

-- of what code finds there, in a store that goes on while it looks
module _ (n m o : Numbered) (g : Grows n m) (h : Grows m o) (fs : List NumberedFact) (i : ℕ) (f : NumberedFact) (l : i < length fs) (e : f ≡ get_or fs i f) (low : IsFactBelow (length n.terms) f) (id : ℕ) (is_id : id ≡ f.term) where
  formula : at m.terms id ≡ at n.terms f.term
  formula = ap (at m.terms) is_id ∙ at_later n m f.term g low

  pub call_here : (whole : Option (At Tree)) (j : ℕ) (a : FoundOne) → StandsFor o.terms (Some j) (find is_call (outside (at m.terms id))) → a ≡ record { at = i; formula = f.term; number = f.number; term = j }
      → first_from first_call i (map (fact_at n.terms) (drop i fs)) ≡ whole → FindsOne o.terms fs (Some a) whole
  call_here whole j a stands is so_far = finds_one_here n o (grows_then n m o g h) fs i f l e low first_call whole a j is stands.0 (ap (λ t. find is_call (outside t)) (sym formula) ∙ stands.1) so_far

  pub call_lacking : (whole : Option (At Tree)) → StandsFor o.terms None (find is_call (outside (at m.terms id))) → first_from first_call i (map (fact_at n.terms) (drop i fs)) ≡ whole
      → first_from first_call (i + 1) (map (fact_at n.terms) (drop (i + 1) fs)) ≡ whole
  call_lacking whole stands so_far = sym (found_later first_call n.terms fs i f l e (ap (λ t. find is_call (outside t)) (sym formula) ∙ stands)) ∙ so_far

module _ (n m o : Numbered) (g : Grows n m) (h : Grows m o) (fs : List NumberedFact) (i : ℕ) (f : NumberedFact) (l : i < length fs) (e : f ≡ get_or fs i f) (low : IsFactBelow (length n.terms) f) where
  abbrev test : Fact → Option (List Tree)
  test x = cases_of n.defs (branch_over n.vars) x

  same_cases : test (fact_at n.terms f) ≡ cases_of m.defs (branch_over m.vars) (fact_at m.terms f)
  same_cases = sym (λ k. cases_of (g.defs k) (branch_over (g.vars k)) (fact_later n m f g low k))

  pub cases_here : (whole : Option (At (List Tree))) (v : Vec ℕ Global) (a : Found) → AreSome o.terms (Some v) (cases_of m.defs (branch_over m.vars) (fact_at m.terms f)) → a ≡ record { at = i; formula = f.term; number = f.number; terms = v }
      → first_from test i (map (fact_at n.terms) (drop i fs)) ≡ whole → Finds o.terms fs (Some a) whole
  cases_here whole v a some is so_far = finds_here n o (grows_then n m o g h) fs i f l e low test whole a v is some.0 (same_cases ∙ some.1) so_far

  pub cases_lacking : (whole : Option (At (List Tree))) → AreSome o.terms None (cases_of m.defs (branch_over m.vars) (fact_at m.terms f)) → first_from test i (map (fact_at n.terms) (drop i fs)) ≡ whole
      → first_from test (i + 1) (map (fact_at n.terms) (drop (i + 1) fs)) ≡ whole
  cases_lacking whole none so_far = sym (found_later test n.terms fs i f l e (same_cases ∙ none)) ∙ so_far

-- an And by its parts
module _ (ts : List Tree) (fs : List NumberedFact) (i : ℕ) (f : NumberedFact) (l : i < length fs) (e : f ≡ get_or fs i f) (low : IsFactBelow (length ts) f) (id : ℕ) (is_id : id ≡ f.term) where
  pub and_here : (whole : Option (At (List Tree))) (is : List ℕ) (v : Vec ℕ Global) (a : Found) → at ts id ≡ all (trees_of (map (at ts) is)) → AllByRecursion (λ j. j < id) is → v.items ≡ is → a ≡ record { at = i; formula = f.term; number = f.number; terms = v }
      → first_from as_all i (map (fact_at ts) (drop i fs)) ≡ whole → Finds ts fs (Some a) whole
  and_here whole is v a shape lower copied made so_far = let n : Numbered = record { terms = ts; vars = []; defs = [] } in
      finds_here n n (grows_same n) fs i f l e low as_all whole a v made
      (subst (AllByRecursion (λ j. j < length ts)) (sym copied) (all_lower id (length ts) is (omega (arith, low, is_id)) lower))
      (ap conjuncts_of (ap (at ts) (sym is_id) ∙ shape) ∙ ap Some (listed_trees (map (at ts) is) ∙ ap (map (at ts)) (sym copied))) so_far

  pub and_lacking : (whole : Option (At (List Tree))) → conjuncts_of (at ts id) ≡ None → first_from as_all i (map (fact_at ts) (drop i fs)) ≡ whole → first_from as_all (i + 1) (map (fact_at ts) (drop (i + 1) fs)) ≡ whole
  and_lacking whole none so_far = sym (found_later as_all ts fs i f l e (ap (λ j. conjuncts_of (at ts j)) (sym is_id) ∙ none)) ∙ so_far

-- what is found in the facts of a branch, by other names for these facts and the terms
pub finds_in : (test : Fact → Option (List Tree)) (us ts : List Tree) (gs fs : List NumberedFact) (p : Option Found) → us ≡ ts → gs ≡ fs → Finds us gs p (first_from test 0 (map (fact_at us) gs)) → Finds ts fs p (first_from test 0 (map (fact_at ts) fs))
finds_in test us ts gs fs p d e h = subst (λ vs. Finds vs fs p (first_from test 0 (map (fact_at vs) fs))) d (subst (λ hs. Finds us hs p (first_from test 0 (map (fact_at us) hs))) e h)

pub finds_one_in : (test : Fact → Option Tree) (us ts : List Tree) (gs fs : List NumberedFact) (p : Option FoundOne) → gs ≡ fs → FindsOne us gs p (first_from test 0 (map (fact_at ts) gs)) → FindsOne us fs p (first_from test 0 (map (fact_at ts) fs))
finds_one_in test us ts gs fs p e h = subst (λ hs. FindsOne us hs p (first_from test 0 (map (fact_at ts) hs))) e h

-- cases are those of a fact over the branch's variables
pub finds_cases : (n m : Numbered) (b : NumberedBranch) (gs : List NumberedFact) (p : Option Found) → n.vars ≡ b.vars → gs ≡ b.facts → Finds m.terms gs p (first_from (cases_of n.defs (branch_over n.vars)) 0 (map (fact_at n.terms) gs))
    → Finds m.terms b.facts p (first_from (cases_of n.defs (branch_at n.terms b)) 0 (map (fact_at n.terms) b.facts))
finds_cases n m b gs p vars e h = subst (λ vs. Finds m.terms b.facts p (first_from (cases_of n.defs (branch_over vs)) 0 (map (fact_at n.terms) b.facts))) vars
    (subst (λ hs. Finds m.terms hs p (first_from (cases_of n.defs (branch_over n.vars)) 0 (map (fact_at n.terms) hs))) e h)
