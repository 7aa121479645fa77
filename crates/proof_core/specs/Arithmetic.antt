-- The rules combine, tighten and trichotomy, on linear facts.
use Rattle.std.specs.Prelude.{ℤ, ◌&&◌, Option, Some, List}
use Rattle.logic_core.specs.Tree.{int, Tree}
use Rattle.logic_core.specs.Def.{Def}
use Rattle.logic_core.specs.Wide.{◌>>=◌, when}
use Rattle.logic_core.specs.Sorts.{is}
use Rattle.logic_core.specs.Tighten.{tighten}
use Rattle.logic_core.specs.Combine.{linear_of, combined, at_least_zero}
use Rattle.linear_certs.specs.Multiplier.{may_multiply}
use Rattle.proof_core.specs.Context.{Context, named, with_fact, appended}
use Rattle.proof_core.specs.Maps.{below_zero, at_zero, above_zero}

-- combine: Le(0, p*d + q*e), where the multiplier of Le(0, d) is positive, and that of Eq(d, 0) isn't zero
abbrev pub combination : Context → Tree → ℤ → Tree → ℤ → Option Context
combination c f p g q = when (may_multiply p f && may_multiply q g) (linear_of f >>= λ d. linear_of g >>= λ e. combined d p e q >>= λ s. Some (with_fact c (at_least_zero s)))

-- tighten
abbrev pub tightened : Context → Tree → Context
tightened c f = with_fact c (tighten f)

module _ (defs : List Def) where
  -- trichotomy, of a named term of Int: it is below, at or above zero
  abbrev pub three_ways : Context → Tree → Option (Context × Context × Context)
  three_ways c d = when (is int (named defs c d)) (appended defs c (below_zero d) >>= λ below. appended defs c (at_zero d) >>= λ same. appended defs c (above_zero d) >>= λ above. Some (below, same, above))
