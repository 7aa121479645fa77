use Rattle.std.proofs.Common.{◌≡◌, ◌++◌, ◌+◌, ◌≤◌, drop, map}
use Rattle.vc_rebuild.specs.Kept.{kept_of, having_body, new_in}
use Rattle.vc_rebuild.proofs.program.add_procedures.Given as goal

-- the procedures so far and those that are ahead are all; and so are those that are built, which are the steps
abbrev pub invariant-loop-i : goal.invariant-loop-i
invariant-loop-i g l = record {
  added : l.found ++ map (kept_of l.links) (having_body (drop l.i l.links.procs)) ≡ l.fn.found ++ map (kept_of l.links) (having_body l.links.procs);
  counted : l.rebuilt + new_in l.before.built.now.procs l.links (drop l.i l.links.procs) ≡ new_in l.before.built.now.procs l.links l.links.procs;
  steps : l.steps ≡ l.fn.steps + l.rebuilt;
  small : l.rebuilt ≤ l.i;
}
