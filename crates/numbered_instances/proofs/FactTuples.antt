-- The candidates of a fact are its tuples, and what is found among them.
use Rattle.std.proofs.Common.{◌≡◌, refl, sym, ap, ◌∙◌, ℕ, ◌+◌, ◌<◌, Bool, true, false, true≢false, not, ◌||◌, Option, Some, None, option_map, option_to_list, List, [], ◌∷◌, ◌++◌, map, find, flat_map, drop, length, get_or}
use Rattle.std.specs.List.{list_any}
use Rattle.std.specs.Option.{option_or}
use Rattle.std.proofs.lemmas.List.{map-append, append-nil}
use Rattle.logic_core.specs.Tree.{Kind, Tree, for_all, Patterns, no_patterns, pattern}
use Rattle.logic_core.specs.Def.{Def}
use Rattle.logic_core.proofs.Booleans.{or_false}
use Rattle.quantifier_triggers.specs.Match.{tuples}
use Rattle.tableau_branch.specs.Branch.{Fact, Branch}
use Rattle.logic_rules.specs.Instantiating.{Quantified, as_for_all, Candidate, is_unmarked, candidates_by, candidates_of}
use Rattle.logic_rules.proofs.Instances.{find_past, find_here}
use Rattle.tableau_branch.proofs.Lists.{drop_item, find_append}
use Rattle.numbered_branches.specs.Branches.{NumberedFact, fact_at}
use Rattle.numbered_instances.specs.Instances.{is_for_all, tuples_by, tuples_in, body_in, is_new}

pub find_map : {A B : Type 0} (p : B → Bool) (g : A → B) (xs : List A) → find p (map g xs) ≡ option_map g (find (λ x. p (g x)) xs)
find_map p g [] = refl
find_map {A} p g (x ∷ xs) = by (p (g x)) refl (find_map p g xs)
  where
    by : (b : Bool) → p (g x) ≡ b → find p (map g xs) ≡ option_map g (find (λ y. p (g y)) xs) → find p (map g (x ∷ xs)) ≡ option_map g (find (λ y. p (g y)) (x ∷ xs))
    by true e r = find_here p (g x) (map g xs) e ∙ ap (option_map g) (sym (find_here (λ y. p (g y)) x xs e))
    by false e r = find_past p (g x) (map g xs) e ∙ r ∙ ap (option_map g) (sym (find_past (λ y. p (g y)) x xs e))

module _ (defs : List Def) (b : Branch) (terms : List Tree) (f : Fact) where
  -- of the fact's body
  abbrev pub of_tuple : Tree → List Tree → Candidate
  of_tuple body us = record { fact = f; body = body; tuple = us }

  by_triggers : (q : Quantified) (ps : Patterns) → candidates_by defs b terms f q ps ≡ map (of_tuple q.body) (tuples_by b.vars defs q.sorts terms ps)
  by_triggers q no_patterns = refl
  by_triggers q (pattern ps rest) = ap (λ xs. map (of_tuple q.body) (tuples b.vars defs ps q.sorts terms) ++ xs) (by_triggers q rest) ∙ sym (map-append (of_tuple q.body) (tuples b.vars defs ps q.sorts terms) (tuples_by b.vars defs q.sorts terms rest))

  of_term : (t : Tree) → flat_map (λ q. candidates_by defs b terms f q q.triggers) (option_to_list (as_for_all t)) ≡ map (of_tuple (body_in t)) (tuples_in b.vars defs terms t)
  of_term (for_all ss ps t) = let q : Quantified = record { sorts = ss; triggers = ps; body = t } in append-nil (candidates_by defs b terms f q ps) ∙ by_triggers q ps
  of_term t = refl

  pub first_in_fact : find (is_unmarked b) (candidates_of defs b terms f) ≡ option_map (of_tuple (body_in f.term)) (find (is_new b.marks f.term) (tuples_in b.vars defs terms f.term))
  first_in_fact = ap (find (is_unmarked b)) (of_term f.term) ∙ find_map (is_unmarked b) (of_tuple (body_in f.term)) (tuples_in b.vars defs terms f.term)

pub as_candidate : (defs : List Def) (b : Branch) (terms : List Tree) (f : Fact) (o : Option (List Tree)) → o ≡ find (is_new b.marks f.term) (tuples_in b.vars defs terms f.term) → find (is_unmarked b) (candidates_of defs b terms f) ≡ option_map (of_tuple defs b terms f (body_in f.term)) o
as_candidate defs b terms f o e = first_in_fact defs b terms f ∙ ap (option_map (of_tuple defs b terms f (body_in f.term))) (sym e)

pub any_map : {A B : Type 0} (p : B → Bool) (g : A → B) (xs : List A) → list_any p (map g xs) ≡ list_any (λ x. p (g x)) xs
any_map p g [] = refl
any_map p g (x ∷ xs) = ap (λ b. p (g x) || b) (any_map p g xs)

pub not_true : (b : Bool) → not b ≡ true → b ≡ false
not_true true h = sym h
not_true false h = refl

-- of a fact that is no ForAll there are none
pub no_candidates : (defs : List Def) (b : Branch) (terms : List Tree) (fs : List Fact) → list_any (λ (f : Fact). is_for_all f.term) fs ≡ false → flat_map (candidates_of defs b terms) fs ≡ []
no_candidates defs b terms [] h = refl
no_candidates defs b terms (f ∷ fs) h = by (is_for_all f.term) refl h (no_candidates defs b terms fs)
  where
    none : (t : Tree) → is_for_all t ≡ false → flat_map (λ q. candidates_by defs b terms f q q.triggers) (option_to_list (as_for_all t)) ≡ []
    none (for_all ss ps t) e = absurd (true≢false e)
    none t e = refl

    by : (x : Bool) → is_for_all f.term ≡ x → (x || list_any (λ (g : Fact). is_for_all g.term) fs) ≡ false → (list_any (λ (g : Fact). is_for_all g.term) fs ≡ false → flat_map (candidates_of defs b terms) fs ≡ []) → candidates_of defs b terms f ++ flat_map (candidates_of defs b terms) fs ≡ []
    by true e k r = absurd (true≢false k)
    by false e k r = (λ i. none f.term e i ++ r k i)

pub no_candidate : (defs : List Def) (b : Branch) (terms : List Tree) (f : Fact) → is_for_all f.term ≡ false → [] ≡ candidates_of defs b terms f
no_candidate defs b terms f h = sym (no_candidates defs b terms (f ∷ []) (or_false (is_for_all f.term) ∙ h)) ∙ append-nil (candidates_of defs b terms f)

-- one fact on
module _ (p : Candidate → Bool) (g : Fact → List Candidate) (ts : List Tree) (fs : List NumberedFact) (i : ℕ) (x : NumberedFact) (l : i < length fs) (e : x ≡ get_or fs i x) (o : Option Candidate) (found : o ≡ find p (g (fact_at ts x))) where
  next_fact : find p (flat_map g (map (fact_at ts) (drop i fs))) ≡ option_or o (find p (flat_map g (map (fact_at ts) (drop (i + 1) fs))))
  next_fact = ap (λ ys. find p (flat_map g (map (fact_at ts) ys))) (drop_item fs i x l e) ∙ find_append p (g (fact_at ts x)) (flat_map g (map (fact_at ts) (drop (i + 1) fs))) ∙ ap (λ q. option_or q (find p (flat_map g (map (fact_at ts) (drop (i + 1) fs))))) (sym found)

  pub found_here : (y : Candidate) → o ≡ Some y → find p (flat_map g (map (fact_at ts) (drop i fs))) ≡ Some y
  found_here y is = next_fact ∙ ap (λ q. option_or q (find p (flat_map g (map (fact_at ts) (drop (i + 1) fs))))) is

  pub found_later : o ≡ None → find p (flat_map g (map (fact_at ts) (drop (i + 1) fs))) ≡ find p (flat_map g (map (fact_at ts) (drop i fs)))
  found_later is = sym (next_fact ∙ ap (λ q. option_or q (find p (flat_map g (map (fact_at ts) (drop (i + 1) fs))))) is)
