-- What a Read of a Write at constant distance reads.
use Rattle.std.specs.Prelude.{Option, List}
use Rattle.logic_core.specs.Tree.{Tree}
use Rattle.logic_core.specs.Def.{Def}
use Rattle.logic_core.specs.Wide.{◌>>=◌}
use Rattle.proof_core.specs.Context.{Context}
use Rattle.proof_core.specs.Maps.{access, read_at_distance}

abbrev pub read_of : List Def → Context → Tree → Option Tree
read_of defs c t = access t >>= λ a. read_at_distance defs c a
