-- Linear facts by number that are combined.
use Rattle.std.proofs.Common.{◌≡◌, refl, sym, ap, ◌∙◌, Bool, true, false, ◌||◌, cond, Option, Some, None, List, []}
use Rattle.logic_core.specs.Def.{Def}
use Rattle.logic_core.specs.Tighten.{tighten}
use Rattle.logic_core.specs.Junction.{is_truth}
use Rattle.logic_core.specs.Combine.{lead}
use Rattle.tableau_branch.specs.Branch.{Branch, Attempt, none, leaves, gives, first_attempt}
use Rattle.tableau_branch.specs.Move.{Move}
use Rattle.theory_rules.specs.Combining.{Entry, Combined, combined_pair, are_opposite, counted, is_known, combine_pair, pairs_from, entries, combined_by, combine}

-- a pair by its parts
abbrev pub pair_by : Bool → Option Combined → (Combined → Bool) → Attempt Combined
pair_by false o says = none
pair_by true None says = leaves
pair_by true (Some c) says = cond (says c) none (gives c)

module _ (es : List Entry) (d e : Entry) where
  abbrev pub says : Combined → Bool
  says c = is_truth true c.fact || is_known es (tighten c.fact)

  pub by_parts : combine_pair es (d, e) ≡ pair_by (are_opposite (lead (counted d)) (lead (counted e))) (combined_pair d e) says
  by_parts = by (are_opposite (lead (counted d)) (lead (counted e))) (combined_pair d e)
    where
      last : (c : Combined) (b : Bool) → ◌≡◌ {A = Attempt Combined} (elim b [ true ↦ none | false ↦ gives c ]) (cond b none (gives c))
      last c true = refl
      last c false = refl

      by : (b : Bool) (o : Option Combined) → ◌≡◌ {A = Attempt Combined} (elim b [
        | false ↦ none
        | true ↦ elim o [
          | None ↦ leaves
          | Some c ↦ elim (is_truth true c.fact || is_known es (tighten c.fact)) [ true ↦ none | false ↦ gives c ]
        ]
      ]) (pair_by b o says)
      by false o = refl
      by true None = refl
      by true (Some c) = last c (is_truth true c.fact || is_known es (tighten c.fact))

  pub pair_apart : are_opposite (lead (counted d)) (lead (counted e)) ≡ false → combine_pair es (d, e) ≡ none
  pair_apart h = by_parts ∙ ap (λ (b : Bool). pair_by b (combined_pair d e) says) h

  pub pair_known : (c : Combined) → are_opposite (lead (counted d)) (lead (counted e)) ≡ true → combined_pair d e ≡ Some c → (is_truth true c.fact || is_known es (tighten c.fact)) ≡ true → combine_pair es (d, e) ≡ none
  pair_known c h k l = by_parts ∙ (λ j. pair_by (h j) (k j) says) ∙ ap (λ (b : Bool). cond b none (gives c)) l

  pub pair_given : (c : Combined) → are_opposite (lead (counted d)) (lead (counted e)) ≡ true → combined_pair d e ≡ Some c → (is_truth true c.fact || is_known es (tighten c.fact)) ≡ false → combine_pair es (d, e) ≡ gives c
  pair_given c h k l = by_parts ∙ (λ j. pair_by (h j) (k j) says) ∙ ap (λ (b : Bool). cond b none (gives c)) l

-- the rule, by its first combination
abbrev pub made_of : List Def → Branch → Attempt Combined → Attempt Move
made_of defs b none = none
made_of defs b leaves = leaves
made_of defs b (gives c) = gives (combined_by defs b c)

pub combines : (defs : List Def) (b : Branch) (es : List Entry) (x : Attempt Combined) → es ≡ entries defs b → first_attempt (combine_pair es) (pairs_from [] es) ≡ x → combine defs b ≡ made_of defs b x
combines defs b es x is h = by (first_attempt (combine_pair (entries defs b)) (pairs_from [] (entries defs b))) ∙ ap (made_of defs b) (ap (λ (fs : List Entry). first_attempt (combine_pair fs) (pairs_from [] fs)) (sym is) ∙ h)
  where
    by : (y : Attempt Combined) → ◌≡◌ {A = Attempt Move} (elim y [ none ↦ none | leaves ↦ leaves | gives c ↦ gives (combined_by defs b c) ]) (made_of defs b y)
    by none = refl
    by leaves = refl
    by (gives c) = refl
