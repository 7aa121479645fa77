-- The rules instantiate and skolem.
use Rattle.std.specs.Prelude.{Option, None, List, []}
use Rattle.logic_core.specs.Tree.{Tree, for_all, exists}
use Rattle.logic_core.specs.Def.{Def}
use Rattle.logic_core.specs.View.{trees_of}
use Rattle.logic_core.specs.Wide.{when}
use Rattle.logic_core.specs.Sorts.{are}
use Rattle.logic_core.specs.Substitute.{substitute}
use Rattle.proof_core.specs.Context.{Context, new_variables, with_variables, appended}

module _ (defs : List Def) where
  -- instantiate, of a ForAll: the body with named terms of its sorts for its variables
  abbrev pub instantiated : Context → Tree → List Tree → Option Context
  instantiated c (for_all ss ps body) ts = when (are c.vars defs [] ss (trees_of ts)) (appended defs c (substitute body ts))
  instantiated c t ts = None

  -- skolem, of an Exists: the body with new variables of its sorts for its variables
  abbrev pub skolemized : Context → Tree → Option Context
  skolemized c (exists ss ps body) = appended defs (with_variables c ss) (substitute body (new_variables c ss))
  skolemized c t = None
