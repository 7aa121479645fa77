-- What the code's scopes of bodies and labels stand for.
use Rattle.std.specs.Prelude.{Bool, option_map}
use Rattle.bpl_faults.specs.ScopeView.{scope_seen}
use Rattle.bpl_statement_faults.specs.StmtFaults.{BodyScope as body_scope, Position as position}
use Rattle.bpl_statement_faults.specs.declared.body.BodyScope.{BodyScope}
use Rattle.bpl_statement_faults.specs.declared.body.Labels.{Labels}

abbrev pub body_seen : BodyScope → body_scope
body_seen b = record { scope = scope_seen b.scope.now; modified = option_map (λ m. m.now) b.modified; labels = b.labels.now }

abbrev pub position_seen : Bool → Labels → position
position_seen b ls = record { in_loop = b; around = ls.around; ahead = ls.ahead }
