-- A variable that a term doesn't mention.
use Rattle.std.proofs.Common.{◌≡◌, refl, sym, ap, ◌∙◌, ℕ, nat_eq, Bool, true, false, not, IsTrue, List, [], ◌∷◌}
use Rattle.std.specs.List.{list_any, AllByRecursion}
use Rattle.logic_core.specs.Tree.{Tree, free}
use Rattle.logic_core.specs.Subterm.{occurs}
use Rattle.logic_core.specs.Variables.{variables}
use Rattle.logic_core.proofs.Booleans.{neither}
use Rattle.logic_core.proofs.FirstOccurrences.{eq_same}
use Rattle.tableau_branch.proofs.Held.{held}

pub others : (v : ℕ) (ws : List ℕ) → list_any (λ w. nat_eq w v) ws ≡ false → AllByRecursion (λ w. nat_eq w v ≡ false) ws
others v [] h = tt
others v (w ∷ ws) h = let both = neither (nat_eq w v) (list_any (λ u. nat_eq u v) ws) h in (both.0, others v ws both.1)

-- doesn't occur in it
pub unmentioned : (v : ℕ) (t : Tree) → list_any (λ w. nat_eq w v) (variables t) ≡ false → occurs (free v) t ≡ false
unmentioned v t h = at_answer (occurs (free v) t) refl
  where
    at_answer : (b : Bool) → occurs (free v) t ≡ b → b ≡ false
    at_answer false e = refl
    at_answer true e = let other = (held (λ w. nat_eq w v ≡ false) (free v) t e (others v (variables t) h)).0 in let same = eq_same v in absurd (cc)

-- as a test tells it
pub lacking : (b : Bool) (v : ℕ) (t u : Tree) (ws : List ℕ) → b ≡ list_any (λ w. nat_eq w v) ws → ws ≡ variables u → t ≡ free v → IsTrue (not b) → occurs t u ≡ false
lacking true v t u ws e of_u is h = absurd (cc)
lacking false v t u ws e of_u is h = ap (λ s. occurs s u) is ∙ unmentioned v u (ap (λ xs. list_any (λ w. nat_eq w v) xs) (sym of_u) ∙ sym e)
