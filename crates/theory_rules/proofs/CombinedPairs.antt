-- Pairs of linear facts that are combined, one fact on.
use Rattle.std.specs.Prelude.{◌≡◌, refl, ℕ, ◌+◌, ◌/◌, ◌<◌, ℤ, Some, List, ◌∷◌, [], ◌++◌, map, length, take, drop}
use Rattle.std.proofs.Common.{get_or, ap, sym, ◌∙◌}
use Rattle.logic_core.specs.Sum.{Linear}
use Rattle.logic_core.specs.Tighten.{gcd}
use Rattle.logic_core.specs.Combine.{combined, at_least_zero}
use Rattle.tableau_branch.specs.Branch.{Attempt, none, first_attempt}
use Rattle.tableau_branch.proofs.Lists.{drop_item, take_item}
use Rattle.theory_rules.specs.Combining.{Entry, lead_size, multiplier, combined_pair, pairs_from}
use Rattle.theory_rules.proofs.Attempting.{IsTaken, or_else, or_else_taken, first_of_both}

-- the pairs with the next fact, and then those with the facts after it
pub pairs_on : {B : Type 0} (f : Entry × Entry → Attempt B) (before es : List Entry) (e : Entry)
    → first_attempt f (pairs_from before (e ∷ es)) ≡ or_else (first_attempt f (map (λ d. (d, e)) before)) (first_attempt f (pairs_from (before ++ e ∷ []) es))
pairs_on f before es e = first_of_both f (map (λ d. (d, e)) before) (pairs_from (before ++ e ∷ []) es)

-- those from the place of an item on
pairs_at : {B : Type 0} (f : Entry × Entry → Attempt B) (es : List Entry) (i : ℕ) (e : Entry) → i < length es → e ≡ get_or es i e
    → first_attempt f (pairs_from (take i es) (drop i es)) ≡ or_else (first_attempt f (map (λ d. (d, e)) (take i es))) (first_attempt f (pairs_from (take (i + 1) es) (drop (i + 1) es)))
pairs_at f es i e h is =
    ap (λ xs. first_attempt f (pairs_from (take i es) xs)) (drop_item es i e h is)
    ∙ pairs_on f (take i es) (drop (i + 1) es) e
    ∙ ap (λ xs. or_else (first_attempt f (map (λ d. (d, e)) (take i es))) (first_attempt f (pairs_from xs (drop (i + 1) es)))) (sym (take_item es i e h is))

-- where there is nothing at the pairs with the item, those from the next one on are left
pub pairs_passed : {B : Type 0} (f : Entry × Entry → Attempt B) (es : List Entry) (i : ℕ) (e : Entry) → i < length es → e ≡ get_or es i e
    → first_attempt f (map (λ d. (d, e)) (take i es)) ≡ none → first_attempt f (pairs_from (take (i + 1) es) (drop (i + 1) es)) ≡ first_attempt f (pairs_from (take i es) (drop i es))
pairs_passed f es i e h is here = sym (pairs_at f es i e h is ∙ ap (λ x. or_else x (first_attempt f (pairs_from (take (i + 1) es) (drop (i + 1) es)))) here)

-- and else what comes of those comes of all
pub pairs_taken : {B : Type 0} (f : Entry × Entry → Attempt B) (es : List Entry) (i : ℕ) (e : Entry) (x : Attempt B) → i < length es → e ≡ get_or es i e → IsTaken x
    → first_attempt f (map (λ d. (d, e)) (take i es)) ≡ x → first_attempt f (pairs_from (take i es) (drop i es)) ≡ x
pairs_taken f es i e x h is some here =
    let rest = first_attempt f (pairs_from (take (i + 1) es) (drop (i + 1) es)) in
    pairs_at f es i e h is ∙ ap (λ y. or_else y rest) here ∙ or_else_taken x rest some

-- the multipliers and the sum
pub pair_is : (d e : Entry) (p q : ℤ) (s : Linear) → multiplier d (lead_size e / gcd (lead_size d) (lead_size e)) ≡ Some p → multiplier e (lead_size d / gcd (lead_size d) (lead_size e)) ≡ Some q
    → combined d.form p e.form q ≡ Some s → combined_pair d e ≡ Some (record { first = d; second = e; p = p; q = q; fact = at_least_zero s })
pair_is d e p q s h k l = rw (h, k, l) refl
