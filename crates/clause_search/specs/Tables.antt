-- What the rules keep from branch to branch, over the terms of a store.
use Rattle.std.specs.Prelude.{List}
use Rattle.logic_core.specs.Tree.{Tree}
use Rattle.numbered_logic.specs.Apart.{AreApart}
use Rattle.numbered_instances.specs.Shared.{IsCounted}
use Rattle.numbered_theory.specs.Tried.{AreTried}
use Rattle.clause_search.specs.declared.rules.Tables.{Tables}

pub record AreRight (ts : List Tree) (t : Tables) : Type 0 where
  pub apart : AreApart ts t.apart
  pub counted : IsCounted ts t.shared
  pub tried : AreTried ts t.tried
