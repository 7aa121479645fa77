-- The places of facts that leave a number undecided, by number, one fact on.
use Rattle.std.proofs.Common.{◌≡◌, sym, ap, subst, ◌∙◌, ℕ, ◌+◌, ◌<◌, Option, Some, None, IfSome, option_map, List, ◌∷◌, ◌++◌, map, length, drop, get_or}
use Rattle.std.specs.List.{AllByRecursion}
use Rattle.std.proofs.lemmas.List.{append-nil, map-append, append_assoc}
use Rattle.logic_core.specs.Tree.{Tree}
use Rattle.logic_core.proofs.EachOf.{every_append}
use Rattle.term_bank.specs.Numbered.{at}
use Rattle.tableau_branch.specs.Branch.{Fact, At, places_from}
use Rattle.tableau_branch.proofs.Lists.{drop_item}
use Rattle.theory_rules.specs.Trichotomy.{at_most_forms, undecided_by}
use Rattle.numbered_branches.specs.Branches.{NumberedFact, fact_at, IsFactBelow}
use Rattle.numbered_branches.proofs.Listing.{all_at}
use Rattle.numbered_theory.specs.Places.{place_at, placed, IsPlaceBelow}
use Rattle.numbered_theory.specs.Sums.{sums_at}
use Rattle.numbered_theory.specs.declared.undecided.Place.{Place}

module _ (ts : List Tree) (test : Fact → Option Tree) (fs : List NumberedFact) (i : ℕ) (f : NumberedFact) (l : i < length fs) (e : f ≡ get_or fs i f) where
  abbrev rest : List (At Tree)
  rest = places_from test (i + 1) (map (fact_at ts) (drop (i + 1) fs))

  abbrev found : Option Tree → List (At Tree)
  found o = elim o [ None ↦ rest | Some t ↦ record { at = i; fact = fact_at ts f; what = t } ∷ rest ]

  put_in : (ps : List Place) (o : Option ℕ) → map (place_at ts) (ps ++ placed i f o) ++ rest ≡ map (place_at ts) ps ++ found (option_map (at ts) o)
  put_in ps None = ap (λ (qs : List Place). map (place_at ts) qs ++ rest) (append-nil ps)
  put_in ps (Some t) =
      ap (λ (qs : List (At Tree)). qs ++ rest) (map-append (place_at ts) ps (placed i f (Some t)))
      ∙ append_assoc (map (place_at ts) ps) (map (place_at ts) (placed i f (Some t))) rest

  -- what is found in the next fact is put in
  place_put : (ps new : List Place) (o : Option ℕ) (whole : List (At Tree)) → option_map (at ts) o ≡ test (fact_at ts f) → new ≡ ps ++ placed i f o
      → map (place_at ts) ps ++ places_from test i (map (fact_at ts) (drop i fs)) ≡ whole → map (place_at ts) new ++ rest ≡ whole
  place_put ps new o whole is put g =
      ap (λ (qs : List Place). map (place_at ts) qs ++ rest) put ∙ put_in ps o ∙ ap (λ (p : Option Tree). map (place_at ts) ps ++ found p) is
      ∙ sym (ap (λ (gs : List NumberedFact). map (place_at ts) ps ++ places_from test i (map (fact_at ts) gs)) (drop_item fs i f l e)) ∙ g

-- the number that the next fact leaves undecided, where there is one, is put in
pub undecided_put : (ts : List Tree) (fs : List NumberedFact) (i : ℕ) (f : NumberedFact) (l : i < length fs) (e : f ≡ get_or fs i f) (ss sides : List ℕ) → sides ≡ ss → sums_at ts ss ≡ at_most_forms (map (fact_at ts) fs)
    → (t : ℕ) → t ≡ f.term → (ps new : List Place) (o : Option ℕ) (whole : List (At Tree)) → option_map (at ts) o ≡ undecided_by (sums_at ts sides) (at ts t) → new ≡ ps ++ placed i f o
    → map (place_at ts) ps ++ places_from (λ (g : Fact). undecided_by (at_most_forms (map (fact_at ts) fs)) g.term) i (map (fact_at ts) (drop i fs)) ≡ whole
    → map (place_at ts) new ++ places_from (λ (g : Fact). undecided_by (at_most_forms (map (fact_at ts) fs)) g.term) (i + 1) (map (fact_at ts) (drop (i + 1) fs)) ≡ whole
undecided_put ts fs i f l e ss sides same are t is ps new o whole found put g =
    let forms : sums_at ts sides ≡ at_most_forms (map (fact_at ts) fs) = ap (sums_at ts) same ∙ are in
    let here : option_map (at ts) o ≡ undecided_by (at_most_forms (map (fact_at ts) fs)) (at ts f.term) = found ∙ (λ k. undecided_by (forms k) (at ts (is k))) in
    place_put ts (λ (h : Fact). undecided_by (at_most_forms (map (fact_at ts) fs)) h.term) fs i f l e ps new o whole here put g

pub places_more : (n : ℕ) (fs : List NumberedFact) (i : ℕ) (f : NumberedFact) → AllByRecursion (IsFactBelow n) fs → i < length fs → f ≡ get_or fs i f → (ps new : List Place) (o : Option ℕ) → AllByRecursion (IsPlaceBelow n) ps → IfSome o (λ (d : ℕ). d < n) → new ≡ ps ++ placed i f o → AllByRecursion (IsPlaceBelow n) new
places_more n fs i f low l e ps new None h k put = subst (AllByRecursion (IsPlaceBelow n)) (sym (put ∙ append-nil ps)) h
places_more n fs i f low l e ps new (Some d) h k put = subst (AllByRecursion (IsPlaceBelow n)) (sym put) (every_append (IsPlaceBelow n) ps (placed i f (Some d)) h (record { fact = all_at (IsFactBelow n) fs i f low l e; what = k }, tt))
