-- The normal forms of axioms and of the Not of a goal, by number, as the first facts of a search.
use Rattle.std.proofs.Common.{◌≡◌, refl, sym, ap, subst, ◌∙◌, ℕ, ◌+◌, ◌<◌, ◌≤◌, Option, Some, None, Result, Ok, Err, List, [], ◌∷◌, ◌++◌, map, length, drop, get_or, option_map, arith}
use Rattle.std.specs.List.{AllByRecursion}
use Rattle.std.specs.Result.{IsErrAnd}
use Rattle.std.proofs.lemmas.List.{append-nil, append_assoc, map-append, length-map, at_drop_all}
use Rattle.logic_core.specs.Tree.{Kind, Tree, negation}
use Rattle.logic_core.specs.Def.{Def, Obligation}
use Rattle.logic_core.specs.Normal.{normal}
use Rattle.logic_core.specs.Wide.{◌>>=◌}
use Rattle.logic_core.specs.Junction.{negated}
use Rattle.logic_core.proofs.EachOf.{every_append}
use Rattle.logic_core.specs.declared.fault.NormalFault.{NormalFault}
use Rattle.logic_core.specs.declared.fault.NormalFault.TheVariants.{Wide}
use Rattle.proof_core.specs.Context.{start}
use Rattle.term_bank.specs.Numbered.{at, Begins}
use Rattle.tableau_branch.specs.Branch.{numbered, each}
use Rattle.tableau_branch.proofs.Lists.{drop_item}
use Rattle.logic_rules.proofs.Rewritten.{one_of_each_more, one_of_each_not}
use Rattle.tableau.specs.Search.{first_branch}
use Rattle.tableau.proofs.Starting.{starts_with, starts_not_with_axioms, starts_not_with_goal}
use Rattle.numbered_terms.specs.At.{GivesAt}
use Rattle.numbered_terms.specs.Lists.{terms_at}
use Rattle.numbered_terms.specs.Stored.{Numbered, Grows}
use Rattle.numbered_facts.specs.Answers.{AreAt}
use Rattle.numbered_facts.proofs.Growing.{then}
use Rattle.numbered_branches.specs.Branches.{NumberedFact, NumberedBranch, fact_at, branch_at, IsFactBelow, IsBranchOver}
use Rattle.numbered_branches.proofs.Standing.{terms_on}
use Rattle.clause_search.specs.First.{facts_from}

-- terms as facts, one after another
pub facts_next : (is : List ℕ) (i x : ℕ) (fs gs all : List NumberedFact) → i < length is → x ≡ get_or is i x → gs ≡ fs ++ record { term = x; number = i } ∷ [] → fs ++ facts_from i (drop i is) ≡ all
    → gs ++ facts_from (i + 1) (drop (i + 1) is) ≡ all
facts_next is i x fs gs all l e p h = ap (λ hs. hs ++ facts_from (i + 1) (drop (i + 1) is)) p ∙ append_assoc fs (record { term = x; number = i } ∷ []) (facts_from (i + 1) (drop (i + 1) is))
    ∙ ap (λ js. fs ++ facts_from i js) (sym (drop_item is i x l e)) ∙ h

pub facts_end : (is : List ℕ) (i : ℕ) (fs all : List NumberedFact) → length is ≤ i → fs ++ facts_from i (drop i is) ≡ all → fs ≡ all
facts_end is i fs all l h = sym (append-nil fs) ∙ sym (at_drop_all (λ js. fs ++ facts_from i js) is i l) ∙ h

-- they stand for the facts of the terms
facts_stand : (ts : List Tree) (n : ℕ) (is : List ℕ) → map (fact_at ts) (facts_from n is) ≡ numbered n (terms_at ts is)
facts_stand ts n [] = refl
facts_stand ts n (i ∷ is) = λ k. record { term = at ts i; number = n } ∷ facts_stand ts (n + 1) is k

facts_below : (m n : ℕ) (is : List ℕ) → AllByRecursion (λ i. i < m) is → AllByRecursion (IsFactBelow m) (facts_from n is)
facts_below m n [] h = tt
facts_below m n (i ∷ is) h = (h.0, facts_below m (n + 1) is h.1)

abbrev pub form : Numbered → Tree → Option Tree
form n t = normal n.vars n.defs [] t

-- over a store that went on
form_same : (n m : Numbered) → Grows n m → (t : Tree) → form n t ≡ form m t
form_same n m g t = λ k. normal (sym g.vars k) (sym g.defs k) [] t

-- what is made so far, and then the rest
abbrev pub ahead : Numbered → List Tree → List Tree → Option (List Tree)
ahead n ts us = each (form n) ts >>= λ vs. Some (us ++ vs)

-- terms stay as the store grows
stay : (ts us : List Tree) → Begins ts us → (is : List ℕ) → AllByRecursion (λ i. i < length ts) is → AreAt us is (terms_at ts is)
stay ts us b is h = terms_on ts us is (terms_at ts is) b (h, refl)

-- normal forms, one after another, as the store grows
module _ (n m o : Numbered) (g : Grows n m) (d : Grows m o) (ts : List Tree) (i : ℕ) (t : Tree) (l : i < length ts) (e : t ≡ get_or ts i t) (old : List ℕ) (whole : Option (List Tree))
    (so_far : ahead n (drop i ts) (terms_at m.terms old) ≡ whole) where
  begun : ahead n (t ∷ drop (i + 1) ts) (terms_at m.terms old) ≡ whole
  begun = ap (λ us. ahead n us (terms_at m.terms old)) (sym (drop_item ts i t l e)) ∙ so_far

  module _ (within : AllByRecursion (λ k. k < length m.terms) old) (new : List ℕ) (j : ℕ) (p : new ≡ old ++ j ∷ []) (made : (j < length o.terms) × (form m t ≡ Some (at o.terms j))) where
    more : terms_at o.terms new ≡ terms_at m.terms old ++ at o.terms j ∷ []
    more = ap (terms_at o.terms) p ∙ map-append (at o.terms) old (j ∷ []) ∙ ap (λ us. us ++ at o.terms j ∷ []) (stay m.terms o.terms d.terms old within).1

    pub forms_next : ahead n (drop (i + 1) ts) (terms_at o.terms new) ≡ whole
    forms_next = ap (ahead n (drop (i + 1) ts)) more ∙ one_of_each_more (form n) t (drop (i + 1) ts) (at o.terms j) (terms_at m.terms old) (form_same n m g t ∙ made.1) ∙ begun

    pub forms_within : AllByRecursion (λ k. k < length o.terms) new
    forms_within = subst (AllByRecursion (λ k. k < length o.terms)) (sym p) (every_append (λ k. k < length o.terms) old (j ∷ []) (stay m.terms o.terms d.terms old within).0 (made.0, tt))

  pub forms_stop : form m t ≡ None → whole ≡ None
  forms_stop h = sym begun ∙ one_of_each_not (form n) t (drop (i + 1) ts) (terms_at m.terms old) (form_same n m g t ∙ h)

pub forms_begin : (n : Numbered) (ts : List Tree) (old : List ℕ) → old ≡ [] → ahead n ts (terms_at n.terms old) ≡ each (form n) ts
forms_begin n ts old e = ap (λ is. ahead n ts (terms_at n.terms is)) e ∙ by (each (form n) ts)
  where
    by : (o : Option (List Tree)) → (o >>= λ us. Some ([] ++ us)) ≡ o
    by None = refl
    by (Some us) = refl

pub forms_end : (n : Numbered) (ts : List Tree) (i : ℕ) (us : List Tree) (whole : Option (List Tree)) → length ts ≤ i → ahead n (drop i ts) us ≡ whole → whole ≡ Some us
forms_end n ts i us whole l so_far = sym so_far ∙ at_drop_all (λ vs. ahead n vs us) ts i l ∙ ap Some (append-nil us)

-- an early return
pub form_fault : (ts : List Tree) (r : Result ℕ NormalFault) (e : NormalFault) (o : Option Tree) → IsErrAnd r (λ d. d ≡ e) → (e ≡ Wide → o ≡ None) → GivesAt ts r o
form_fault ts (Ok i) e o h none = absurd h
form_fault ts (Err d) e o h none = λ wide. none (let w : e ≡ Wide = cc in w)

-- a Not is the denied normal form
pub not_leaves : (n : Numbered) (t : Tree) → form n t ≡ None → form n (negation t) ≡ None
not_leaves n t h = λ k. h k >>= λ u. negated u

pub not_formed : (n m : Numbered) (t : Tree) (i : ℕ) (u : Option Tree) → form n t ≡ Some (at m.terms i) → negated (at m.terms i) ≡ u → form n (negation t) ≡ u
not_formed n m t i u h e = (λ k. h k >>= λ v. negated v) ∙ e

-- the first branch of an obligation
module _ (o : Obligation) (n : Numbered) (vars : n.vars ≡ o.vars) (defs : n.defs ≡ o.defs) (axioms : List Tree) (are : axioms ≡ o.axioms) where
  same_form : (t : Tree) → form n t ≡ normal o.vars o.defs [] t
  same_form t = λ k. normal (vars k) (defs k) [] t

  same_axioms : each (form n) axioms ≡ each (λ t. normal o.vars o.defs [] t) o.axioms
  same_axioms = λ k. each (λ t. normal (vars k) (defs k) [] t) (are k)

  pub axioms_leave : each (form n) axioms ≡ None → option_map first_branch (start o) ≡ None
  axioms_leave h = starts_not_with_axioms o (sym same_axioms ∙ h)

  module _ (m : Numbered) (g : Grows n m) (goal : Tree) (is : goal ≡ o.goal) where
    same_goal : form m (negation goal) ≡ normal o.vars o.defs [] (negation o.goal)
    same_goal = sym (form_same n m g (negation goal)) ∙ same_form (negation goal) ∙ ap (λ t. normal o.vars o.defs [] (negation t)) is

    pub goal_leaves : form m (negation goal) ≡ None → option_map first_branch (start o) ≡ None
    goal_leaves h = starts_not_with_goal o (sym same_goal ∙ h)

    module _ (p : Numbered) (d : Grows m p) (forms : List ℕ) (made : each (form n) axioms ≡ Some (terms_at m.terms forms)) (within : AllByRecursion (λ k. k < length m.terms) forms)
        (j : ℕ) (refuted : (j < length p.terms) × (form m (negation goal) ≡ Some (at p.terms j))) (all : List ℕ) (e : all ≡ forms ++ j ∷ []) (kinds : List Kind) (v : kinds ≡ p.vars)
        (b : NumberedBranch) (is_b : b ≡ record { facts = facts_from 0 all; calls = []; marks = []; vars = kinds; next = length all }) where
      stands : terms_at m.terms forms ++ at p.terms j ∷ [] ≡ terms_at p.terms all
      stands = sym (ap (terms_at p.terms) e ∙ map-append (at p.terms) forms (j ∷ []) ∙ ap (λ us. us ++ at p.terms j ∷ []) (stay m.terms p.terms d.terms forms within).1)

      same_kinds : o.vars ≡ kinds
      same_kinds = sym (v ∙ d.vars ∙ g.vars ∙ vars)

      pub first_given : option_map first_branch (start o) ≡ Some (branch_at p.terms b)
      first_given = starts_with o (terms_at m.terms forms) (at p.terms j) (sym same_axioms ∙ made) (sym same_goal ∙ refuted.1)
          ∙ (λ k. Some (record { facts = (ap (numbered 0) stands ∙ sym (facts_stand p.terms 0 all)) k; calls = []; marks = []; vars = same_kinds k; next = (ap length stands ∙ length-map all (at p.terms)) k }))
          ∙ ap (λ (c : NumberedBranch). Some (branch_at p.terms c)) (sym is_b)

      pub first_over : IsBranchOver p.terms b
      first_over = subst (IsBranchOver p.terms) (sym is_b) (record {
        facts = facts_below (length p.terms) 0 all (subst (AllByRecursion (λ k. k < length p.terms)) (sym e) (every_append (λ k. k < length p.terms) forms (j ∷ []) (stay m.terms p.terms d.terms forms within).0 (refuted.0, tt)));
        calls = tt;
        marks = tt;
      })

      pub first_grows : Grows n p
      first_grows = then n m p g d
