-- The rule combine, step by step.
use Rattle.std.specs.Prelude.{◌≡◌, refl, ℤ, true, Some}
use Rattle.logic_core.specs.Tree.{Tree}
use Rattle.logic_core.specs.Sum.{Linear}
use Rattle.logic_core.specs.Combine.{linear_of, combined, at_least_zero}
use Rattle.linear_certs.specs.Multiplier.{may_multiply}
use Rattle.proof_core.specs.Context.{Context, with_fact}
use Rattle.proof_core.specs.Arithmetic.{combination}

pub combination_is : (c : Context) (f : Tree) (p : ℤ) (g : Tree) (q : ℤ) (d e s : Linear) → may_multiply p f ≡ true → may_multiply q g ≡ true → linear_of f ≡ Some d → linear_of g ≡ Some e → combined d p e q ≡ Some s → combination c f p g q ≡ Some (with_fact c (at_least_zero s))
combination_is c f p g q d e s may_f may_g of_f of_g sum = rw (may_f, may_g, of_f, of_g, sum) refl
