use Rattle.std.proofs.Common.{refl, sym}
use Rattle.vc_rebuild.proofs.change.is_put_for.Goals as goal

pub returns-in-Some : goal.returns-in-Some
returns-in-Some c told = record { old = c.in-Some.old.now; new = c.args.proc.now; was = sym c.in-Some.ensures; put = refl; alike = c.are_alike.ensures told }
