-- Pairs of linear facts by number that are tried one after another, in a store that grows.
use Rattle.std.proofs.Common.{◌≡◌, sym, ap, ◌∙◌, ℕ, ◌+◌, ◌<◌, List, [], ◌∷◌, map, length, take, drop, get_or, arith}
use Rattle.std.specs.List.{AllByRecursion}
use Rattle.std.proofs.lemmas.List.{get_or-map, take-map, length-map}
use Rattle.tableau_branch.specs.Branch.{Attempt, none, first_attempt}
use Rattle.theory_rules.specs.Combining.{Combined, combine_pair, pairs_from}
use Rattle.theory_rules.proofs.Attempting.{IsTaken, or_else, first_is}
use Rattle.theory_rules.proofs.CombinedPairs.{pairs_passed, pairs_taken}
use Rattle.numbered_terms.specs.Stored.{Numbered, Grows}
use Rattle.numbered_theory.specs.Entries.{entry_at, entries_at, IsEntryBelow}
use Rattle.numbered_theory.specs.Tried.{IsTried}
use Rattle.numbered_theory.specs.declared.entries.Entry.{Entry}
use Rattle.numbered_branches.proofs.Listing.{all_at}
use Rattle.numbered_branches.proofs.Changing.{all_take}
use Rattle.numbered_theory.proofs.Entered.{entry_stays, entries_stay}
use Rattle.numbered_theory.proofs.Loops.{passed, taken}
use Rattle.numbered_theory.proofs.PairsKept.{one_more}

-- what comes of one pair, of earlier facts with one, and of all pairs from a place on
abbrev pub one_pair : Numbered → List Entry → Entry → Entry → Attempt Combined
one_pair n es d e = combine_pair (entries_at n.terms es) (entry_at n.terms d, entry_at n.terms e)

abbrev pub with_one : Numbered → List Entry → Entry → List Entry → Attempt Combined
with_one n es e ds = first_attempt (combine_pair (entries_at n.terms es)) (map (λ d. (d, entry_at n.terms e)) (entries_at n.terms ds))

abbrev pub pairs_on : Numbered → List Entry → ℕ → Attempt Combined
pairs_on n es i = first_attempt (combine_pair (entries_at n.terms es)) (pairs_from (take i (entries_at n.terms es)) (drop i (entries_at n.terms es)))

abbrev pub all_pairs : Numbered → List Entry → Attempt Combined
all_pairs n es = first_attempt (combine_pair (entries_at n.terms es)) (pairs_from [] (entries_at n.terms es))

module _ (n m : Numbered) (g : Grows n m) (es : List Entry) (h : AllByRecursion (IsEntryBelow (length n.terms)) es) where
  pair_same : (d e : Entry) → IsEntryBelow (length n.terms) d → IsEntryBelow (length n.terms) e → one_pair m es d e ≡ one_pair n es d e
  pair_same d e l k = λ j. combine_pair (entries_stay n m g es h j) (entry_stays n m g d l j, entry_stays n m g e k j)

  module _ (e : Entry) (low : IsEntryBelow (length n.terms) e) (ds : List Entry) (i : ℕ) (d : Entry) (k : AllByRecursion (IsEntryBelow (length n.terms)) ds) (l : i < length ds) (is : d ≡ get_or ds i d) where
    here_same : one_pair m es d e ≡ one_pair n es d e
    here_same = pair_same d e (all_at (IsEntryBelow (length n.terms)) ds i d k l is) low

    step : (x : Entry) (xs : List Entry) → with_one n es e (x ∷ xs) ≡ or_else (one_pair n es x e) (with_one n es e xs)
    step x xs = first_is (combine_pair (entries_at n.terms es)) (entry_at n.terms x, entry_at n.terms e) (map (λ y. (y, entry_at n.terms e)) (entries_at n.terms xs))

    -- nothing comes of the pair with the next one
    pub with_passed : one_pair m es d e ≡ none → with_one n es e (drop i ds) ≡ with_one n es e ds → with_one n es e (drop (i + 1) ds) ≡ with_one n es e ds
    with_passed here so_far = passed (with_one n es e) (λ (x : Entry). one_pair n es x e) step ds i d (with_one n es e ds) l is (sym here_same ∙ here) so_far

    -- something comes of it
    pub with_taken : (y : Attempt Combined) → IsTaken y → one_pair m es d e ≡ y → with_one n es e (drop i ds) ≡ with_one n es e ds → with_one n es e ds ≡ y
    with_taken y t here so_far = taken (with_one n es e) (λ (x : Entry). one_pair n es x e) step ds i d (with_one n es e ds) y l is t (sym here_same ∙ here) so_far

  module _ (i : ℕ) (e : Entry) (l : i < length es) (is : e ≡ get_or es i e) where
    low : IsEntryBelow (length n.terms) e
    low = all_at (IsEntryBelow (length n.terms)) es i e h l is

    same : with_one m es e (take i es) ≡ first_attempt (combine_pair (entries_at n.terms es)) (map (λ d. (d, entry_at n.terms e)) (take i (entries_at n.terms es)))
    same = λ k. first_attempt (combine_pair (entries_stay n m g es h k)) (map (λ d. (d, entry_stays n m g e low k)) ((entries_stay n m g (take i es) (all_take (IsEntryBelow (length n.terms)) i es h) ∙ sym (take-map (entry_at n.terms) i es)) k))

    within : i < length (entries_at n.terms es)
    within = omega (arith, l, length-map es (entry_at n.terms))

    there : entry_at n.terms e ≡ get_or (entries_at n.terms es) i (entry_at n.terms e)
    there = ap (entry_at n.terms) is ∙ sym (get_or-map (entry_at n.terms) es i e (entry_at n.terms e) l)

    pub pairs_next : with_one m es e (take i es) ≡ none → pairs_on n es i ≡ all_pairs n es → pairs_on n es (i + 1) ≡ all_pairs n es
    pairs_next here so_far = pairs_passed (combine_pair (entries_at n.terms es)) (entries_at n.terms es) i (entry_at n.terms e) within there (sym same ∙ here) ∙ so_far

    pub next_tried : with_one m es e (take i es) ≡ none → IsTried (entries_at n.terms es) i → IsTried (entries_at n.terms es) (i + 1)
    next_tried here so_far = one_more (combine_pair (entries_at n.terms es)) (entries_at n.terms es) i so_far (entry_at n.terms e) within there (sym same ∙ here)

    pub pairs_done : (x : Attempt Combined) → IsTaken x → with_one m es e (take i es) ≡ x → pairs_on n es i ≡ all_pairs n es → all_pairs n es ≡ x
    pairs_done x t here so_far = sym so_far ∙ pairs_taken (combine_pair (entries_at n.terms es)) (entries_at n.terms es) i (entry_at n.terms e) x within there t (sym same ∙ here)
