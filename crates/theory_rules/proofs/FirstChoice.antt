-- The first If of a list of terms.
use Rattle.std.specs.Prelude.{◌≡◌, refl, Option, List, [], ◌∷◌, find}
use Rattle.std.proofs.Common.{ap, sym, ◌∙◌}
use Rattle.logic_core.specs.Tree.{Tree, choose}
use Rattle.logic_core.specs.Wide.{◌>>=◌}
use Rattle.theory_rules.specs.Condition.{as_choice, first_some}
use Rattle.tableau_branch.specs.Shapes.{is_choice}

choice_found : (ts : List Tree) → first_some as_choice ts ≡ (find is_choice ts >>= as_choice)
choice_found [] = refl
choice_found (choose c x y ∷ ts) = refl
choice_found (t ∷ ts) = choice_found ts

-- by its parts
pub choice_is : (ts : List Tree) (o : Option Tree) → o ≡ find is_choice ts → first_some as_choice ts ≡ (o >>= as_choice)
choice_is ts o h = choice_found ts ∙ ap (λ (p : Option Tree). p >>= as_choice) (sym h)
