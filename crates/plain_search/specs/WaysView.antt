-- What the ways of the code stand for.
use Rattle.std.specs.Prelude.{List, [], ◌∷◌}
use Rattle.logic_core.specs.Tree.{Tree}
use Rattle.plain_search.specs.declared.trichotomy.Ways.{Ways}

abbrev pub ways_of : Ways → List Tree
ways_of w = w.below ∷ w.zero ∷ w.above ∷ []
