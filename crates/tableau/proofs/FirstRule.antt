-- The first rule of the table that can be applied, one rule on.
use Rattle.std.specs.Prelude.{◌≡◌, ℕ, ◌+◌, ◌<◌, Ok, List, [], ◌∷◌, map, length, drop}
use Rattle.std.proofs.Common.{ap, sym, subst, ◌∙◌, get_or}
use Rattle.std.proofs.lemmas.List.{drop_more}
use Rattle.tableau_branch.specs.Applied.{Tries}
use Rattle.tableau_branch.specs.Branch.{Branch, Attempt, none, leaves, gives}
use Rattle.tableau_branch.specs.Move.{Move}
use Rattle.tableau_branch.specs.View.{move_of}
use Rattle.tableau_branch.specs.declared.played.Attempt as tried
use Rattle.tableau_branch.specs.declared.played.Attempt.TheVariants as come
use Rattle.tableau_branch.specs.declared.played.Move as made
use Rattle.tableau.specs.Search.{first_rule}
use Rattle.tableau.specs.declared.rules.Rule.{Rule}
use Rattle.tableau.specs.declared.rules.Rule.TheVariants as rule

-- the table
abbrev pub order : List Rule
order = rule.Close ∷ rule.Flatten ∷ rule.Skolem ∷ rule.Rewrite ∷ rule.Back ∷ rule.Unfold ∷ rule.Combine ∷ rule.Trichotomy ∷ rule.Split ∷ rule.Condition ∷ rule.Past ∷ rule.Differ ∷ rule.Instantiate ∷ []

-- what comes of the first of these rules
abbrev after_first : List (Branch → Attempt Move) → Branch → Attempt Move → Attempt Move
after_first rs b x = elim x [ none ↦ first_rule rs b | leaves ↦ leaves | gives m ↦ gives m ]

-- of the rules of a table from its place i on: what all give, where they are tried on this branch, which is still the first one
module _ {R : Type 0} (does : R → Branch → Attempt Move) (rs : List R) (i : ℕ) (d : R) (b c : Branch) (all : Attempt Move)
    (within : i < length rs) (ahead : first_rule (map does (drop i rs)) b ≡ all) (same : c ≡ b) where
  from_here : (x : Attempt Move) → does (get_or rs i d) c ≡ x → all ≡ after_first (map does (drop (i + 1) rs)) b x
  from_here x h = sym ahead ∙ ap (λ qs. first_rule (map does qs) b) (drop_more rs i d within) ∙ ap (after_first (map does (drop (i + 1) rs)) b) (ap (does (get_or rs i d)) (sym same) ∙ h)

  pub rule_leaves : does (get_or rs i d) c ≡ leaves → all ≡ leaves
  rule_leaves h = from_here leaves h

  pub rule_gives : (a : tried.Attempt) (m : made.Move) → a ≡ come.Gives m → Tries c (Ok a) (does (get_or rs i d) c) → all ≡ gives (move_of m)
  rule_gives a m is h = from_here (gives (move_of m)) (subst (λ (o : tried.Attempt). Tries c (Ok o) (does (get_or rs i d) c)) is h)

  pub rule_passes : (a : tried.Attempt) (s : Branch) → a ≡ come.Passes s → Tries c (Ok a) (does (get_or rs i d) c) → (first_rule (map does (drop (i + 1) rs)) b ≡ all) × (s ≡ b)
  rule_passes a s is h = let both = subst (λ (o : tried.Attempt). Tries c (Ok o) (does (get_or rs i d) c)) is h in (sym (from_here none both.1), both.0 ∙ same)
