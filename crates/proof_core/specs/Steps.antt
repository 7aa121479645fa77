-- What a step makes of the context; None where its rule's condition isn't met.
use Rattle.std.specs.Prelude.{Option, Some, List}
use Rattle.logic_core.specs.Def.{Def}
use Rattle.logic_core.specs.Wide.{◌>>=◌}
use Rattle.proof_core.specs.Proof.{Step, by_split, by_instantiate, by_skolem, by_replace, by_unfold, by_back, by_differ, by_combine, by_tighten}
use Rattle.proof_core.specs.Context.{Context, fact}
use Rattle.proof_core.specs.Split.{split}
use Rattle.proof_core.specs.Quantifiers.{instantiated, skolemized}
use Rattle.proof_core.specs.Replace.{replacement, unfolded}
use Rattle.proof_core.specs.Maps.{moved_back, differing}
use Rattle.proof_core.specs.Arithmetic.{combination, tightened}

module _ (defs : List Def) where
  abbrev pub after_step : Context → Step → Option Context
  after_step c (by_split f) = fact c f >>= λ t. split defs c t
  after_step c (by_instantiate f ts) = fact c f >>= λ t. instantiated defs c t ts
  after_step c (by_skolem f) = fact c f >>= λ t. skolemized defs c t
  after_step c (by_replace f g t) = fact c f >>= λ u. fact c g >>= λ v. replacement defs c u v t
  after_step c (by_unfold f t) = fact c f >>= λ u. unfolded defs c u t
  after_step c (by_back f t) = fact c f >>= λ u. moved_back defs c u t
  after_step c (by_differ f) = fact c f >>= λ t. differing defs c t
  after_step c (by_combine f p g q) = fact c f >>= λ u. fact c g >>= λ v. combination c u p v q
  after_step c (by_tighten f) = fact c f >>= λ t. Some (tightened c t)
