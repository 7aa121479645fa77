-- Reads of Writes by number that are tried one after another, in a store that grows.
use Rattle.std.proofs.Common.{◌≡◌, sym, ap, ◌∙◌, ℕ, ◌+◌, ◌<◌, true, List, [], ◌∷◌, map, flat_map, filter, length, drop, get_or}
use Rattle.std.specs.List.{AllByRecursion}
use Rattle.logic_core.specs.Tree.{Tree}
use Rattle.logic_core.specs.Subterm.{outside}
use Rattle.logic_rules.specs.Instantiating.{each_once}
use Rattle.tableau_branch.specs.Branch.{Attempt, none, first_attempt}
use Rattle.tableau_branch.specs.Oriented.{is_application}
use Rattle.tableau_branch.specs.Shapes.{is_access}
use Rattle.term_bank.specs.Numbered.{at}
use Rattle.theory_rules.specs.Back.{accesses_in}
use Rattle.theory_rules.specs.ReadsBack.{moved_back}
use Rattle.theory_rules.proofs.Attempting.{IsTaken, or_else}
use Rattle.numbered_terms.specs.Lists.{terms_at}
use Rattle.numbered_terms.specs.Stored.{Numbered, Grows}
use Rattle.numbered_terms.proofs.Items.{item_below}
use Rattle.numbered_facts.specs.Answers.{AreAt}
use Rattle.numbered_branches.specs.Branches.{NumberedFact, fact_at, IsFactBelow}
use Rattle.numbered_theory.specs.Places.{over}
use Rattle.numbered_branches.proofs.Listing.{all_at}
use Rattle.numbered_branches.proofs.Growing.{stays}
use Rattle.numbered_theory.proofs.Loops.{passed, taken}
use Rattle.numbered_theory.proofs.Once.{tried, tried_among, access_applies}
use Rattle.numbered_theory.proofs.Reading.{one_read, reads_step, read_is, facts_step}

-- what is tried at a Read of a Write
abbrev pub tries : Numbered → Tree → Attempt (Tree × Tree)
tries n = moved_back n.defs (over n.vars)

-- what comes of these terms, and of these facts
abbrev pub from_terms : Numbered → List ℕ → Attempt (Tree × Tree)
from_terms n is = first_attempt (tries n) (filter is_access (terms_at n.terms is))

abbrev pub from_facts : Numbered → List NumberedFact → Attempt (Tree × Tree)
from_facts n fs = first_attempt (tries n) (flat_map accesses_in (map (fact_at n.terms) fs))

abbrev pub from_fact : Numbered → ℕ → ℕ → Attempt (Tree × Tree)
from_fact n i number = first_attempt (tries n) (accesses_in (record { term = at n.terms i; number = number }))

module _ (n m : Numbered) (g : Grows n m) where
  tried_same : (i : ℕ) → i < length n.terms → tries m (at m.terms i) ≡ tries n (at n.terms i)
  tried_same i l = λ k. moved_back (g.defs k) (over (g.vars k)) (stays n m i g l k)

  -- the next of these terms is a Read of a Write, at which something comes of it
  pub term_taken : (ids : List ℕ) (i x : ℕ) (y : Attempt (Tree × Tree)) → AllByRecursion (λ j. j < length n.terms) ids → i < length ids → x ≡ get_or ids i x → IsTaken y
      → is_access (at m.terms x) ≡ true → tries m (at m.terms x) ≡ y → from_terms n (drop i ids) ≡ from_terms n ids → from_terms n ids ≡ y
  term_taken ids i x y h l e t is_read here so_far =
      let low : x < length n.terms = item_below (length n.terms) ids i x h l e in
      let one : one_read (tries n) (at n.terms x) ≡ y = read_is (tries n) (at n.terms x) y (ap is_access (sym (stays n m x g low)) ∙ is_read) (sym (tried_same x low) ∙ here) in
      taken (from_terms n) (λ (j : ℕ). one_read (tries n) (at n.terms j)) (λ (j : ℕ) (js : List ℕ). reads_step (tries n) (at n.terms j) (terms_at n.terms js)) ids i x (from_terms n ids) y l e t one so_far

  -- of a fact in the longer store
  pub fact_later : (i number : ℕ) → i < length n.terms → from_fact m i number ≡ from_fact n i number
  fact_later i number l = λ k. first_attempt (moved_back (g.defs k) (over (g.vars k))) (accesses_in (record { term = stays n m i g l k; number = number }))

  -- trying the Reads and Calls in a term, each once, is trying all of its Reads of Writes
  pub read_among : (js is : List ℕ) (t : Tree) → js ≡ is → AreAt m.terms is (each_once [] (filter is_application (outside t))) → from_terms m js ≡ first_attempt (tries n) (filter is_access (outside t))
  read_among js is t e are = ap (from_terms m) e ∙ (λ k. tried (moved_back (g.defs k) (over (g.vars k))) is_access (are.1 k)) ∙ tried_among (tries n) is_access is_application access_applies (outside t)

  module _ (fs : List NumberedFact) (i : ℕ) (f : NumberedFact) (h : AllByRecursion (IsFactBelow (length n.terms)) fs) (l : i < length fs) (e : f ≡ get_or fs i f) (t : ℕ) (is : t ≡ f.term) where
    fact_same : from_fact m t f.number ≡ from_fact n f.term f.number
    fact_same = ap (λ (j : ℕ). from_fact m j f.number) is ∙ fact_later f.term f.number (all_at (IsFactBelow (length n.terms)) fs i f h l e)

    step : (p : NumberedFact) (ps : List NumberedFact) → from_facts n (p ∷ ps) ≡ or_else (from_fact n p.term p.number) (from_facts n ps)
    step p ps = facts_step (tries n) (fact_at n.terms p) (map (fact_at n.terms) ps)

    -- nothing comes of the next fact
    pub fact_passed : from_fact m t f.number ≡ none → from_facts n (drop i fs) ≡ from_facts n fs → from_facts n (drop (i + 1) fs) ≡ from_facts n fs
    fact_passed here so_far = passed (from_facts n) (λ (p : NumberedFact). from_fact n p.term p.number) step fs i f (from_facts n fs) l e (sym fact_same ∙ here) so_far

    -- something comes of it
    pub fact_taken : (y : Attempt (Tree × Tree)) → IsTaken y → from_fact m t f.number ≡ y → from_facts n (drop i fs) ≡ from_facts n fs → from_facts n fs ≡ y
    fact_taken y s here so_far = taken (from_facts n) (λ (p : NumberedFact). from_fact n p.term p.number) step fs i f (from_facts n fs) y l e s (sym fact_same ∙ here) so_far
