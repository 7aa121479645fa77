use Rattle.vc_rebuild.proofs.Positions.{always_reached}
use Rattle.vc_rebuild.proofs.text.reached_always.Goals as goal

pub returns : goal.returns
returns c = always_reached c.args.links.now c.args.proc.now c.args.own.now c.in_ok-found.found.items c.requires.own c.requires.nowhere c.in_ok-found.ensures
