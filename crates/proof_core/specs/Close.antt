-- The rule close.
use Rattle.std.specs.Prelude.{ℕ, nat_eq, Bool, false, ◌&&◌, ◌||◌}
use Rattle.logic_core.specs.Tree.{Tree}
use Rattle.logic_core.specs.Same.{same_term, is_some_and}
use Rattle.logic_core.specs.Junction.{negated, is_truth}
use Rattle.proof_core.specs.Context.{Context, fact}

-- g is the normal Not of f
abbrev pub is_negation_of : Tree → Tree → Bool
is_negation_of g f = is_some_and (negated f) (λ u. same_term u g)

-- close: f is g and the fact is false, or fact g is the normal Not of fact f
abbrev pub closes : Context → ℕ → ℕ → Bool
closes c f g = is_some_and (fact c f) (λ t. is_some_and (fact c g) (λ u. (nat_eq f g && is_truth false t) || is_negation_of u t))
