-- Three formulas by number, each where it stays in 128 bits.
use Rattle.std.specs.Prelude.{◌≡◌, ℕ, ◌<◌, Option, Some, List, [], ◌∷◌, length, option_map, IfSome}
use Rattle.logic_core.specs.Tree.{Tree}
use Rattle.logic_core.specs.Wide.{◌>>=◌}
use Rattle.term_bank.specs.Numbered.{at}
use Rattle.numbered_theory.specs.declared.trichotomy.Forms.{Forms}
use Rattle.numbered_theory.specs.declared.trichotomy.Ways.{Ways}

abbrev pub forms_at : List Tree → Forms → List (Option Tree)
forms_at ts f = option_map (at ts) f.below ∷ option_map (at ts) f.zero ∷ option_map (at ts) f.above ∷ []

pub record AreFormsBelow (size : ℕ) (f : Forms) : Type 0 where
  pub below : IfSome f.below (λ i. i < size)
  pub zero : IfSome f.zero (λ i. i < size)
  pub above : IfSome f.above (λ i. i < size)

-- they are those that stand for these
abbrev pub AreFormsAt : List Tree → Forms → List (Option Tree) → Type 0
AreFormsAt ts f os = AreFormsBelow (length ts) f × (forms_at ts f ≡ os)

abbrev pub all_three : Forms → Option Ways
all_three f = f.below >>= λ i. f.zero >>= λ j. f.above >>= λ k. Some (record { below = i; zero = j; above = k })
