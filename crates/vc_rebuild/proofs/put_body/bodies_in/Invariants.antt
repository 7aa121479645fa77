use Rattle.std.proofs.Common.{◌≡◌, ◌+◌, ◌≤◌, drop, length}
use Rattle.vc_rebuild.specs.Kept.{having_body}
use Rattle.vc_rebuild.proofs.put_body.bodies_in.Given as goal

-- those so far and those that are ahead
abbrev pub invariant-loop-i : goal.invariant-loop-i
invariant-loop-i l = record {
  sum : l.count + length (having_body (drop l.i l.procs)) ≡ length (having_body l.procs);
  small : l.count ≤ l.i;
}
