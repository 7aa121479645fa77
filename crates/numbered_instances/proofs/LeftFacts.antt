-- The left side of a fact, and whether it occurs in another.
use Rattle.std.proofs.Common.{◌≡◌, refl, sym, ap, subst, ◌∙◌, ℕ, zero, suc, ◌+◌, ◌<◌, ◌||◌, Bool, Option, Some, None, List, [], ◌∷◌, map, length, slice_get, drop, get_or, arith}
use Rattle.std.specs.List.{list_any, AllByRecursion}
use Rattle.logic_core.specs.Tree.{Tree}
use Rattle.logic_core.specs.Wide.{◌>>=◌, when}
use Rattle.tableau_branch.specs.Branch.{Fact, At, first_from}
use Rattle.tableau_branch.specs.Oriented.{left_side}
use Rattle.tableau_branch.specs.Replacing.{rewrites}
use Rattle.tableau_branch.proofs.Lists.{drop_item}
use Rattle.logic_rules.specs.Rewriting.{left_in_another}
use Rattle.term_bank.specs.Numbered.{at, Begins}
use Rattle.term_bank.proofs.Numbers.{begins_at, begins_length, begins_then}
use Rattle.numbered_terms.specs.Stored.{Numbered, Grows}
use Rattle.numbered_facts.specs.Answers.{StandsFor}
use Rattle.numbered_branches.specs.Branches.{NumberedFact, IsFactBelow, fact_at}
use Rattle.numbered_branches.proofs.Listing.{all_at}
use Rattle.numbered_instances.specs.Lefts.{left_among}
use Rattle.numbered_instances.proofs.Alone.{terms_of}

module _ (n : Numbered) (fs : List NumberedFact) (f : Fact) where
  abbrev of_left : Option Tree → Option Tree
  of_left o = o >>= λ l. when (list_any (rewrites f.number l) (map (fact_at n.terms) fs)) (Some l)

  pub some_left : (l : Tree) (there : Bool) → left_side n.vars n.defs f.term ≡ Some l → there ≡ list_any (rewrites f.number l) (map (fact_at n.terms) fs) → left_among n fs f ≡ when there (Some l)
  some_left l there e h = ap of_left e ∙ ap (λ x. when x (Some l)) (sym h)

-- facts of a store that went on
module _ (ts us : List Tree) (b : Begins ts us) where
  pub low_terms : (fs : List NumberedFact) → AllByRecursion (IsFactBelow (length ts)) fs → AllByRecursion (λ i. i < length ts) (map (λ (f : NumberedFact). f.term) fs)
  low_terms [] h = tt
  low_terms (f ∷ fs) h = (h.0, low_terms fs h.1)

  pub facts_low : (fs : List NumberedFact) → AllByRecursion (IsFactBelow (length ts)) fs → AllByRecursion (IsFactBelow (length us)) fs
  facts_low [] h = tt
  facts_low (f ∷ fs) h = (omega (arith, h.0, begins_length ts us b), facts_low fs h.1)

  pub facts_stay : (fs : List NumberedFact) → AllByRecursion (IsFactBelow (length ts)) fs → map (fact_at us) fs ≡ map (fact_at ts) fs
  facts_stay [] h = refl
  facts_stay (f ∷ fs) h = λ k. record { term = begins_at ts us f.term b h.0 k; number = f.number } ∷ facts_stay fs h.1 k

  pub terms_same : (fs : List NumberedFact) → AllByRecursion (IsFactBelow (length ts)) fs → map (at us) (map (λ (f : NumberedFact). f.term) fs) ≡ terms_of (map (fact_at ts) fs)
  terms_same [] h = refl
  terms_same (f ∷ fs) h = λ k. begins_at ts us f.term b h.0 k ∷ terms_same fs h.1 k

  -- one more fact, of which a test in the longer store says whether the term occurs in it
  pub other_on : (number l : ℕ) (fs : List NumberedFact) (i : ℕ) (f : NumberedFact) (r d whole : Bool) → l < length ts → AllByRecursion (IsFactBelow (length ts)) fs → i < length fs → f ≡ get_or fs i f
      → r ≡ rewrites number (at us l) (fact_at us f) → r ≡ d → list_any (rewrites number (at ts l)) (map (fact_at ts) (drop i fs)) ≡ whole → (d || list_any (rewrites number (at ts l)) (map (fact_at ts) (drop (i + 1) fs))) ≡ whole
  other_on number l fs i f r d whole low lows j e is t so_far =
      let here : f.term < length ts = all_at (IsFactBelow (length ts)) fs i f lows j e in
      let same : fact_at us f ≡ fact_at ts f = λ k. record { term = begins_at ts us f.term b here k; number = f.number } in
      let said : rewrites number (at ts l) (fact_at ts f) ≡ d = (λ k. rewrites number (sym (begins_at ts us l b low) k) (sym same k)) ∙ sym is ∙ t in
      sym (ap (λ gs. list_any (rewrites number (at ts l)) (map (fact_at ts) gs)) (drop_item fs i f j e) ∙ ap (λ c. c || list_any (rewrites number (at ts l)) (map (fact_at ts) (drop (i + 1) fs))) said) ∙ so_far

pub got_fact : (ts : List Tree) (fs : List NumberedFact) (i : ℕ) (f : NumberedFact) → slice_get fs i ≡ Some f → slice_get (map (fact_at ts) fs) i ≡ Some (fact_at ts f)
got_fact ts [] i f e = absurd (cc)
got_fact ts (g ∷ fs) zero f e = let same : g ≡ f = cc in ap (λ x. Some (fact_at ts x)) same
got_fact ts (g ∷ fs) (suc i) f e = got_fact ts fs i f e

-- the first fact in which something is found
module _ {A : Type 0} (p : Fact → Option A) (i : ℕ) (f : Fact) (fs : List Fact) where
  abbrev gone_on : Option A → Option (At A)
  gone_on o = elim o [ None ↦ first_from p (i + 1) fs | Some a ↦ Some (record { at = i; fact = f; what = a }) ]

  first_here : (a : A) → p f ≡ Some a → first_from p i (f ∷ fs) ≡ Some (record { at = i; fact = f; what = a })
  first_here a h = ap gone_on h

  first_past : p f ≡ None → first_from p i (f ∷ fs) ≡ first_from p (i + 1) fs
  first_past h = ap gone_on h

-- one fact on, over a store that went on
module _ (n m o : Numbered) (g : Grows n m) (d : Grows m o) (fs : List NumberedFact) (low : AllByRecursion (IsFactBelow (length n.terms)) fs) (i : ℕ) (f : NumberedFact) (l : i < length fs) (e : f ≡ get_or fs i f) where
  below : IsFactBelow (length n.terms) f
  below = all_at (IsFactBelow (length n.terms)) fs i f low l e

  same : fact_at m.terms f ≡ fact_at n.terms f
  same = λ k. record { term = begins_at n.terms m.terms f.term g.terms below k; number = f.number }

  as_before : left_among m fs (fact_at m.terms f) ≡ left_among n fs (fact_at n.terms f)
  as_before = λ k. left_in_another (g.defs k) (record { facts = facts_stay n.terms m.terms g.terms fs low k; calls = []; marks = []; vars = g.vars k; next = 0 }) (same k)

  abbrev from : ℕ → Option (At Tree)
  from k = first_from (left_among n fs) k (map (fact_at n.terms) (drop k fs))

  begins : from i ≡ first_from (left_among n fs) i (fact_at n.terms f ∷ map (fact_at n.terms) (drop (i + 1) fs))
  begins = ap (λ xs. first_from (left_among n fs) i (map (fact_at n.terms) xs)) (drop_item fs i f l e)

  pub left_here : (term : ℕ) (whole : Option (At Tree)) → StandsFor o.terms (Some term) (left_among m fs (fact_at m.terms f)) → from i ≡ whole
      → Some (record { at = i; fact = fact_at o.terms f; what = at o.terms term }) ≡ whole
  left_here term whole h so_far =
      let now : fact_at o.terms f ≡ fact_at n.terms f = λ k. record { term = begins_at n.terms o.terms f.term (begins_then n.terms m.terms o.terms g.terms d.terms) below k; number = f.number } in
      (λ k. Some (record { at = i; fact = now k; what = at o.terms term }))
      ∙ sym (begins ∙ first_here (left_among n fs) i (fact_at n.terms f) (map (fact_at n.terms) (drop (i + 1) fs)) (at o.terms term) (sym as_before ∙ h.1)) ∙ so_far

  pub left_past : (whole : Option (At Tree)) → StandsFor o.terms None (left_among m fs (fact_at m.terms f)) → from i ≡ whole → from (i + 1) ≡ whole
  left_past whole h so_far = sym (begins ∙ first_past (left_among n fs) i (fact_at n.terms f) (map (fact_at n.terms) (drop (i + 1) fs)) (sym as_before ∙ h)) ∙ so_far

  pub left_below : (term : ℕ) → StandsFor o.terms (Some term) (left_among m fs (fact_at m.terms f)) → (f.term < length o.terms) × (term < length o.terms)
  left_below term h = (omega (arith, below, begins_length n.terms m.terms g.terms, begins_length m.terms o.terms d.terms), h.0)
