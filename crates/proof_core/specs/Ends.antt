-- The contexts in which the children of an end begin; None where its rule's condition isn't met.
use Rattle.std.specs.Prelude.{ℕ, Option, List}
use Rattle.logic_core.specs.Tree.{Tree}
use Rattle.logic_core.specs.Def.{Def}
use Rattle.logic_core.specs.Wide.{◌>>=◌}
use Rattle.proof_core.specs.Context.{Context, fact}
use Rattle.proof_core.specs.Split.{split_cases, split_condition}
use Rattle.proof_core.specs.Maps.{moved_past}
use Rattle.proof_core.specs.Arithmetic.{three_ways}

module _ (defs : List Def) where
  abbrev pub after_cases : Context → ℕ → Option (Context × List Context)
  after_cases c f = fact c f >>= λ t. split_cases defs c t

  abbrev pub after_condition : Context → ℕ → Tree → Option (Context × Context)
  after_condition c f t = fact c f >>= λ u. split_condition defs c u t

  abbrev pub after_past : Context → Tree → Option (Context × Context × Context)
  after_past c t = moved_past defs c t

  abbrev pub after_trichotomy : Context → Tree → Option (Context × Context × Context)
  after_trichotomy c d = three_ways defs c d
