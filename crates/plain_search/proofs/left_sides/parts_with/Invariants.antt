use Rattle.std.proofs.Common.{◌≡◌, ◌+◌, ◌≤◌, drop}
use Rattle.logic_core.specs.View.{parts_of}
use Rattle.tableau_branch.specs.Oriented.{parts_with}
use Rattle.plain_search.proofs.left_sides.parts_with.Given as goal

abbrev pub invariant-loop-part : goal.invariant-loop-part
invariant-loop-part l = record {
  count : l.count + parts_with l.term (parts_of (drop l.part-index l.parts)) ≡ parts_with l.term (parts_of l.parts);
  fits : l.count ≤ l.part-index;
}
