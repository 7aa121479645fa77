use Rattle.std.proofs.Common.{◌≡◌, drop, length}
use Rattle.logic_core.specs.View.{parts_of}
use Rattle.logic_core.specs.Sum.{add_parts}
use Rattle.numbered_terms.specs.Lists.{atoms_at, AtomsBelow}
use Rattle.numbered_forms.specs.Sums.{sum_at}
use Rattle.numbered_forms.proofs.sum.NumberedSum.add_parts.Given as goal

-- what the parts that are left give is what all gave
abbrev pub invariant-loop-part : goal.invariant-loop-part
invariant-loop-part l = record {
  left : add_parts l.fn.k (parts_of (atoms_at l.terms (drop l.part-index l.parts))) (sum_at l.terms l.sum) ≡ add_parts l.fn.k (parts_of (atoms_at l.terms l.parts)) (sum_at l.terms l.fn.self);
  within : AtomsBelow (length l.terms) l.sum.parts.items;
}
