-- The global variables that clauses name in `modifies`, where no parameter hides them.
use Rattle.std.specs.Prelude.{◌&&◌, not, List, filter, flat_map}
use Rattle.bpl_ast.specs.Statement.{Spec}
use Rattle.bv_base.specs.Text.{is_among}
use Rattle.bpl_scopes.specs.Scopes.{Text, spec_names, Table, texts_of, entity_of}
use Rattle.bpl_statement_faults.specs.StmtFaults.{is_global}

unfoldable pub modified_where : Table → List Text → List Spec → List Text
modified_where t hidden cs = filter (λ n. is_global (entity_of t n) && not (is_among hidden n)) (texts_of (flat_map spec_names cs))
