-- The sides of facts `Le(0, d)` by number, one fact on.
use Rattle.std.proofs.Common.{◌≡◌, sym, ap, subst, ◌∙◌, ℕ, ◌+◌, ◌<◌, Option, Some, None, IfSome, option_map, List, [], ◌∷◌, ◌++◌, map, length, drop, get_or}
use Rattle.std.specs.List.{cons_option, AllByRecursion}
use Rattle.std.proofs.lemmas.List.{append-nil, map-append, append_assoc}
use Rattle.logic_core.specs.Tree.{Tree}
use Rattle.logic_core.specs.Sum.{Linear}
use Rattle.logic_core.specs.Combine.{sum_of}
use Rattle.logic_core.proofs.EachOf.{every_append}
use Rattle.term_bank.specs.Numbered.{at}
use Rattle.tableau_branch.proofs.Lists.{drop_item}
use Rattle.theory_rules.specs.Trichotomy.{at_most_form, at_most_forms}
use Rattle.numbered_branches.specs.Branches.{NumberedFact, fact_at}
use Rattle.numbered_theory.specs.Sums.{sums_at}

module _ (ts : List Tree) (fs : List NumberedFact) (i : ℕ) (f : NumberedFact) (l : i < length fs) (e : f ≡ get_or fs i f) where
  abbrev rest : List Linear
  rest = at_most_forms (map (fact_at ts) (drop (i + 1) fs))

  put_in : (ss : List ℕ) (o : Option ℕ) → sums_at ts (ss ++ cons_option o []) ++ rest ≡ sums_at ts ss ++ cons_option (option_map (λ (d : ℕ). sum_of (at ts d)) o) rest
  put_in ss None = ap (λ (qs : List ℕ). sums_at ts qs ++ rest) (append-nil ss)
  put_in ss (Some d) = ap (λ (qs : List Linear). qs ++ rest) (map-append (λ (j : ℕ). sum_of (at ts j)) ss (d ∷ [])) ∙ append_assoc (sums_at ts ss) (sum_of (at ts d) ∷ []) rest

  -- the side of the next fact, where it has one, is put in
  pub side_put : (t : ℕ) → t ≡ f.term → (ss new : List ℕ) (o : Option ℕ) (whole : List Linear) → ((n : ℕ) → option_map (λ (d : ℕ). sum_of (at ts d)) o ≡ at_most_form (record { term = at ts t; number = n })) → new ≡ ss ++ cons_option o []
      → sums_at ts ss ++ at_most_forms (map (fact_at ts) (drop i fs)) ≡ whole → sums_at ts new ++ rest ≡ whole
  side_put t is ss new o whole found put g =
      let form : option_map (λ (d : ℕ). sum_of (at ts d)) o ≡ at_most_form (fact_at ts f) = found f.number ∙ ap (λ (j : ℕ). at_most_form (record { term = at ts j; number = f.number })) is in
      ap (λ (qs : List ℕ). sums_at ts qs ++ rest) put ∙ put_in ss o ∙ ap (λ (p : Option Linear). sums_at ts ss ++ cons_option p rest) form
      ∙ sym (ap (λ (gs : List NumberedFact). sums_at ts ss ++ at_most_forms (map (fact_at ts) gs)) (drop_item fs i f l e)) ∙ g

pub numbers_more : (n : ℕ) (ss new : List ℕ) (o : Option ℕ) → AllByRecursion (λ (j : ℕ). j < n) ss → IfSome o (λ (d : ℕ). d < n) → new ≡ ss ++ cons_option o [] → AllByRecursion (λ (j : ℕ). j < n) new
numbers_more n ss new None h l e = subst (AllByRecursion (λ (j : ℕ). j < n)) (sym (e ∙ append-nil ss)) h
numbers_more n ss new (Some d) h l e = subst (AllByRecursion (λ (j : ℕ). j < n)) (sym e) (every_append (λ (j : ℕ). j < n) ss (d ∷ []) h (l, tt))
