use Rattle.std.proofs.Common.{sym, subst}
use Rattle.edit_session.specs.Kept.{IsReady}
use Rattle.edit_session.proofs.Programs.{nothing_ready}
use Rattle.edit_session.proofs.session.Session.new.Goals as goal

pub invariant_of-result : goal.invariant_of-result
invariant_of-result g c = subst (IsReady c.args.turns 0 c.in-Ok.opened.typed) (sym c.requires) (nothing_ready c.args.turns c.in-Ok.opened.typed c.in-Ok.ensures.is_module)
