-- How many names of each kind the code has counted.
use Rattle.bpl_scopes.specs.Scopes.{Counts as counted}
use Rattle.bpl_scopes.specs.declared.declare.Counts.{Counts}

abbrev pub counts_seen : Counts → counted
counts_seen c = record { constants = c.constants; globals = c.globals; procedures = c.procedures }
