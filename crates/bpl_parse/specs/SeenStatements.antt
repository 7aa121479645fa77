-- Parts of statements, as reading sees them.
use Rattle.std.specs.Prelude.{List}
use Rattle.bv_base.specs.declared.place.Place.{Place}
use Rattle.bpl_ast.specs.Statement.{Guard, Stmt}
use Rattle.bpl_ast.specs.declared.stmt.Branch.{Branch}

abbrev pub branch_seen : Branch → Place × (Guard × List Stmt)
branch_seen b = (b.at, (b.guard, b.body.items))
