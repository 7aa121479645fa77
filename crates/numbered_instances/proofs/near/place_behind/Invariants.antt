use Rattle.std.proofs.Common.{◌+◌, ◌≤◌, take, drop}
use Rattle.numbered_instances.specs.Near.{having}
use Rattle.numbered_instances.proofs.near.place_behind.Given as goal

abbrev pub invariant-loop-place : goal.invariant-loop-place
invariant-loop-place l = record {
  order : l.from ≤ l.place;
  found : having l.store.terms l.left (take l.from l.facts) + (l.found + having l.store.terms l.left (drop l.place l.facts)) ≤ having l.store.terms l.left l.facts;
}
