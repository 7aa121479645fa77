use Rattle.std.proofs.Common.{◌≡◌, drop}
use Rattle.bpl_model.specs.Names.{with_names}
use Rattle.bpl_model.proofs.declarations.put_names.Given as goal

-- the names that are ahead
abbrev pub invariant-loop-name : goal.invariant-loop-name
invariant-loop-name l = with_names l.names (drop l.name-index l.more) ≡ with_names l.fn.names l.more
