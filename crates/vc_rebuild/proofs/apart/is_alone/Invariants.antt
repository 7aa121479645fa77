use Rattle.vc_rebuild.proofs.OwnAlone.{IsAloneUpTo}
use Rattle.vc_rebuild.proofs.apart.is_alone.Given as goal

abbrev pub invariant-loop-i : goal.invariant-loop-i
invariant-loop-i l = IsAloneUpTo l.links l.body l.procs l.i
