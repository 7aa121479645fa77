-- Normal forms that are found for numbers.
use Rattle.std.specs.Prelude.{◌≡◌, ℕ, ◌<◌, ℤ, Option, Some, List, [], length}
use Rattle.logic_core.specs.Tree.{Kind, Tree, Patterns}
use Rattle.logic_core.specs.Def.{Def}
use Rattle.logic_core.specs.Wide.{◌>>=◌}
use Rattle.logic_core.specs.Normal.{normal, normal_patterns}
use Rattle.logic_core.specs.Sum.{Linear, add_term}
use Rattle.term_bank.specs.Numbered.{at}
use Rattle.numbered_terms.specs.Slots.{kept_at}

-- each is the normal form of its number's term
abbrev pub AreForms : List Kind → List Def → List Tree → List (Option ℕ) → Type 0
AreForms vars defs ts forms = (i j : ℕ) → kept_at forms i ≡ Some j → (i < length ts) × ((j < length ts) × (normal vars defs [] (at ts i) ≡ Some (at ts j)))

-- the normal forms of two terms, and of three
module _ (vars : List Kind) (defs : List Def) (bound : List Kind) where
  abbrev pub normal_two : Tree → Tree → Option (Tree × Tree)
  normal_two a b = normal vars defs bound a >>= λ u. normal vars defs bound b >>= λ v. Some (u, v)

  abbrev pub normal_three : Tree → Tree → Tree → Option (Tree × Tree × Tree)
  normal_three a b c = normal vars defs bound a >>= λ u. normal vars defs bound b >>= λ v. normal vars defs bound c >>= λ w. Some (u, v, w)

  -- those of a quantifier's triggers and of its body
  abbrev pub normal_parts : Patterns → Tree → Option (Patterns × Tree)
  normal_parts ps t = normal_patterns vars defs bound ps >>= λ qs. normal vars defs bound t >>= λ u. Some (qs, u)

  -- so many times the normal form joins a sum
  abbrev pub normal_atom : ℤ → Tree → Linear → Option Linear
  normal_atom k t s = normal vars defs bound t >>= λ u. add_term k u s
