-- Pairs of linear facts of which nothing comes, as facts are added.
use Rattle.std.proofs.Common.{◌≡◌, refl, sym, ap, ◌∙◌, ℕ, ◌+◌, ◌<◌, ◌≤◌, Bool, true, false, ◌||◌, cond, Option, Some, None, List, [], ◌∷◌, ◌++◌, map, length, take, drop, get_or, append-nil}
use Rattle.std.specs.List.{list_any}
use Rattle.std.proofs.lemmas.List.{append_assoc, take-append-drop, take-append-le}
use Rattle.logic_core.specs.Tree.{Tree}
use Rattle.logic_core.specs.Same.{is_some_and}
use Rattle.logic_core.specs.Sum.{Linear}
use Rattle.logic_core.specs.Combine.{lead, linear_of}
use Rattle.logic_core.specs.Junction.{is_truth}
use Rattle.logic_core.specs.Tighten.{tighten}
use Rattle.tableau_branch.specs.Branch.{Attempt, none, leaves, gives, first_attempt}
use Rattle.tableau_branch.proofs.Lists.{take_item}
use Rattle.theory_rules.specs.Combining.{Entry, Combined, combined_pair, are_opposite, counted, is_known, combine_pair, pairs_from}
use Rattle.theory_rules.specs.Counting.{has_no_greater}
use Rattle.theory_rules.proofs.Attempting.{or_else, first_is}
use Rattle.theory_rules.proofs.CombinedPairs.{pairs_on}
use Rattle.numbered_theory.specs.Tried.{IsTried}
use Rattle.numbered_theory.proofs.Pairing.{pair_by, says, by_parts}

-- of no pairs
pub no_pairs : (es : List Entry) → IsTried es 0
no_pairs [] = refl
no_pairs (e ∷ es) = refl

or_more : (b x y : Bool) → (x ≡ true → y ≡ true) → (b || x) ≡ true → (b || y) ≡ true
or_more true x y f h = refl
or_more false x y f h = f h

any_more : (f : Entry → Bool) (es xs : List Entry) → list_any f es ≡ true → list_any f (es ++ xs) ≡ true
any_more f [] xs h = absurd (cc)
any_more f (e ∷ es) xs h = or_more (f e) (list_any f es) (list_any f (es ++ xs)) (any_more f es xs) h

some_more : (o : Option Linear) (p q : Linear → Bool) → ((s : Linear) → p s ≡ true → q s ≡ true) → is_some_and o p ≡ true → is_some_and o q ≡ true
some_more None p q f h = absurd (cc)
some_more (Some s) p q f h = f s h

cond_more : (x y : Bool) (c : Combined) → (x ≡ true → y ≡ true) → ◌≡◌ {A = Attempt Combined} (cond x none (gives c)) none → ◌≡◌ {A = Attempt Combined} (cond y none (gives c)) none
cond_more true y c f h = ap (λ (b : Bool). cond b none (gives c)) (f refl)
cond_more false y c f h = absurd (cc)

by_more : (b : Bool) (o : Option Combined) (p q : Combined → Bool) → ((c : Combined) → p c ≡ true → q c ≡ true) → pair_by b o p ≡ none → pair_by b o q ≡ none
by_more false o p q f h = refl
by_more true None p q f h = absurd (cc)
by_more true (Some c) p q f h = cond_more (p c) (q c) c (f c) h

or_else_none : {A : Type 0} (x y : Attempt A) → or_else x y ≡ none → (x ≡ none) × (y ≡ none)
or_else_none none y h = (refl, h)
or_else_none leaves y h = absurd (cc)
or_else_none (gives a) y h = absurd (cc)

-- beside more facts
module _ (es xs : List Entry) where
  known_more : (t : Tree) → is_known es t ≡ true → is_known (es ++ xs) t ≡ true
  known_more t h = some_more (linear_of t) (λ s. list_any (has_no_greater s) es) (λ s. list_any (has_no_greater s) (es ++ xs)) (λ s k. any_more (has_no_greater s) es xs k) h

  says_more : (d e : Entry) (c : Combined) → says es d e c ≡ true → says (es ++ xs) d e c ≡ true
  says_more d e c h = or_more (is_truth true c.fact) (is_known es (tighten c.fact)) (is_known (es ++ xs) (tighten c.fact)) (known_more (tighten c.fact)) h

  pair_more : (d e : Entry) → combine_pair es (d, e) ≡ none → combine_pair (es ++ xs) (d, e) ≡ none
  pair_more d e h = by_parts (es ++ xs) d e
      ∙ by_more (are_opposite (lead (counted d)) (lead (counted e))) (combined_pair d e) (says es d e) (says (es ++ xs) d e) (says_more d e) (sym (by_parts es d e) ∙ h)

  each_more : (ps : List (Entry × Entry)) → first_attempt (combine_pair es) ps ≡ none → first_attempt (combine_pair (es ++ xs)) ps ≡ none
  each_more [] h = refl
  each_more (p ∷ ps) h = let both = or_else_none (combine_pair es p) (first_attempt (combine_pair es) ps) (sym (first_is (combine_pair es) p ps) ∙ h) in
      first_is (combine_pair (es ++ xs)) p ps ∙ ap (λ (x : Attempt Combined). or_else x (first_attempt (combine_pair (es ++ xs)) ps)) (pair_more p.0 p.1 both.0) ∙ each_more ps both.1

  front_tried : (k : ℕ) → k ≤ length es → IsTried es k → IsTried (es ++ xs) k
  front_tried k l h = ap (λ (fs : List Entry). first_attempt (combine_pair (es ++ xs)) (pairs_from [] fs)) (take-append-le k es xs l) ∙ each_more (pairs_from [] (take k es)) h

-- of facts that begin with the others
pub tried_on : (es fs : List Entry) (k : ℕ) → k ≤ length es → take (length es) fs ≡ es → IsTried es k → IsTried fs k
tried_on es fs k l same h = let whole : es ++ drop (length es) fs ≡ fs = ap (λ (xs : List Entry). xs ++ drop (length es) fs) (sym same) ∙ take-append-drop (length es) fs in
    ap (λ (xs : List Entry). first_attempt (combine_pair xs) (pairs_from [] (take k xs))) (sym whole) ∙ front_tried es (drop (length es) fs) k l h

or_else_both : {A : Type 0} (x y z : Attempt A) → or_else x (or_else y z) ≡ or_else (or_else x y) z
or_else_both none y z = refl
or_else_both leaves y z = refl
or_else_both (gives a) y z = refl

module _ {B : Type 0} (f : Entry × Entry → Attempt B) where
  -- the pairs of the first facts, and then those with a later one
  pairs_both : (before xs ys : List Entry) → first_attempt f (pairs_from before (xs ++ ys)) ≡ or_else (first_attempt f (pairs_from before xs)) (first_attempt f (pairs_from (before ++ xs) ys))
  pairs_both before [] ys = ap (λ (bs : List Entry). first_attempt f (pairs_from bs ys)) (sym (append-nil before))
  pairs_both before (x ∷ xs) ys = let rest = first_attempt f (map (λ d. (d, x)) before) in let ahead = before ++ x ∷ [] in
      pairs_on f before (xs ++ ys) x
      ∙ ap (or_else rest) (pairs_both ahead xs ys)
      ∙ or_else_both rest (first_attempt f (pairs_from ahead xs)) (first_attempt f (pairs_from (ahead ++ xs) ys))
      ∙ λ k. or_else (sym (pairs_on f before xs x) k) (first_attempt f (pairs_from (append_assoc before (x ∷ []) xs k) ys))

  module _ (es : List Entry) (i : ℕ) (h : first_attempt f (pairs_from [] (take i es)) ≡ none) where
    -- those with a later one are left
    pub pairs_left : first_attempt f (pairs_from (take i es) (drop i es)) ≡ first_attempt f (pairs_from [] es)
    pairs_left = sym (ap (λ (xs : List Entry). first_attempt f (pairs_from [] xs)) (sym (take-append-drop i es)) ∙ pairs_both [] (take i es) (drop i es)
        ∙ ap (λ (x : Attempt B). or_else x (first_attempt f (pairs_from (take i es) (drop i es)))) h)

    -- one more fact
    pub one_more : (e : Entry) → i < length es → e ≡ get_or es i e → first_attempt f (map (λ d. (d, e)) (take i es)) ≡ none → first_attempt f (pairs_from [] (take (i + 1) es)) ≡ none
    one_more e l is here = ap (λ (xs : List Entry). first_attempt f (pairs_from [] xs)) (take_item es i e l is)
        ∙ pairs_both [] (take i es) (e ∷ [])
        ∙ ap (λ (x : Attempt B). or_else x (first_attempt f (pairs_from (take i es) (e ∷ [])))) h
        ∙ pairs_on f (take i es) [] e
        ∙ ap (λ (x : Attempt B). or_else x none) here
