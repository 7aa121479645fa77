-- The ground terms of facts, by number.
use Rattle.std.proofs.Common.{◌≡◌, refl, sym, ap, subst, ◌∙◌, ℕ, ◌+◌, ◌<◌, nat_eq, Bool, true, false, cond, List, [], ◌∷◌, ◌++◌, map, filter, length, take, get_or, ◌≤◌, arith}
use Rattle.std.specs.List.{list_any, AllByRecursion, flat_map}
use Rattle.std.proofs.lemmas.List.{map-append, append-nil, take_all}
use Rattle.std.proofs.lemmas.List.Concat.{flat_map-append}
use Rattle.logic_core.specs.Tree.{Tree}
use Rattle.logic_core.specs.Subterm.{outside}
use Rattle.logic_core.proofs.EachOf.{every_append}
use Rattle.tableau_branch.specs.Branch.{Fact}
use Rattle.tableau_branch.specs.Oriented.{is_application}
use Rattle.tableau_branch.proofs.Lists.{take_item}
use Rattle.logic_rules.specs.Instantiating.{each_once, applications_in}
use Rattle.term_bank.specs.Numbered.{at, Begins}
use Rattle.term_bank.proofs.Numbers.{begins_at}
use Rattle.numbered_terms.specs.Stored.{AreStored}
use Rattle.numbered_forms.proofs.LongerStores.{terms_stay, numbers_stay}
use Rattle.numbered_facts.specs.Answers.{AreAt}
use Rattle.numbered_facts.proofs.EachOnce.{once_append, once_twice}
use Rattle.numbered_branches.specs.Branches.{NumberedFact, fact_at}
use Rattle.numbered_branches.specs.Counts.{once}
use Rattle.numbered_branches.proofs.EachOnce.{once_numbers}

once_below : (n : ℕ) (seen is : List ℕ) → AllByRecursion (λ i. i < n) seen → AllByRecursion (λ i. i < n) is → AllByRecursion (λ i. i < n) (once seen is)
once_below n seen [] h g = h
once_below n seen (i ∷ is) h g = once_below n (cond (list_any (nat_eq i) seen) seen (seen ++ i ∷ [])) is (by (list_any (nat_eq i) seen)) g.1
  where
    by : (b : Bool) → AllByRecursion (λ j. j < n) (cond b seen (seen ++ i ∷ []))
    by true = h
    by false = every_append (λ j. j < n) seen (i ∷ []) h (g.0, tt)

twice : (before more : List Tree) → each_once (each_once [] before) (each_once [] more) ≡ each_once [] (before ++ more)
twice before more = ap (each_once (each_once [] before)) (sym (append-nil (each_once [] more))) ∙ once_twice (each_once [] before) more [] ∙ ap (each_once (each_once [] before)) (append-nil more) ∙ sym (once_append [] before more)

module _ (ts : List Tree) (stored : AreStored ts) (g is : List ℕ) (before : List Tree) (h : AreAt ts g (each_once [] before)) where
  -- more numbers, which are each once already
  pub once_joined : (more : List Tree) → AreAt ts is (each_once [] more) → AreAt ts (once g is) (each_once [] (before ++ more))
  once_joined more k = (once_below (length ts) g is h.0 k.0, once_numbers ts stored.apart g is h.0 k.0 ∙ (λ j. each_once (h.1 j) (k.1 j)) ∙ twice before more)

  -- and any numbers
  pub once_after : AllByRecursion (λ i. i < length ts) is → AreAt ts (once g is) (each_once [] (before ++ map (at ts) is))
  once_after k = (once_below (length ts) g is h.0 k, once_numbers ts stored.apart g is h.0 k ∙ ap (λ s. each_once s (map (at ts) is)) h.1 ∙ sym (once_append [] before (map (at ts) is)))

-- one fact more
pub ground_next : (ts us : List Tree) (b : Begins ts us) (facts : List NumberedFact) (i : ℕ) (f : NumberedFact) → i < length facts → f ≡ get_or facts i f → f.term < length ts
    → flat_map applications_in (map (fact_at ts) (take i facts)) ++ filter is_application (outside (at us f.term)) ≡ flat_map applications_in (map (fact_at ts) (take (i + 1) facts))
ground_next ts us b facts i f l e w =
    let A : Fact → List Tree = applications_in in
    ap (λ t. flat_map A (map (fact_at ts) (take i facts)) ++ filter is_application (outside t)) (begins_at ts us f.term b w)
    ∙ ap (λ zs. flat_map A (map (fact_at ts) (take i facts)) ++ zs) (sym (append-nil (A (fact_at ts f))))
    ∙ sym (ap (λ fs. flat_map A (map (fact_at ts) fs)) (take_item facts i f l e) ∙ ap (flat_map A) (map-append (fact_at ts) (take i facts) (f ∷ [])) ∙ flat_map-append A (map (fact_at ts) (take i facts)) (fact_at ts f ∷ []))

pub ground_end : (ts us : List Tree) (facts : List NumberedFact) (i : ℕ) (g : List ℕ) → length facts ≤ i → AreAt us g (each_once [] (flat_map applications_in (map (fact_at ts) (take i facts)))) → AreAt us g (each_once [] (flat_map applications_in (map (fact_at ts) facts)))
ground_end ts us facts i g l h = subst (λ fs. AreAt us g (each_once [] (flat_map applications_in (map (fact_at ts) fs)))) (take_all i facts l) h

-- and then the seen calls, which were stored before
pub with_calls : (ts us : List Tree) (b : Begins ts us) → AreStored us → (g calls : List ℕ) (before : List Tree) → AreAt us g (each_once [] before) → AllByRecursion (λ i. i < length ts) calls → AreAt us (once g calls) (each_once [] (before ++ map (at ts) calls))
with_calls ts us b stored g calls before h low = subst (λ xs. AreAt us (once g calls) (each_once [] (before ++ xs))) (terms_stay ts us b calls low) (once_after us stored g calls before h (numbers_stay ts us b calls low))
