-- Sums of linear forms that were computed.
use Rattle.std.specs.Prelude.{◌≡◌, refl, ◌^◌, ◌-◌, pos, negsuc, Some, None}
use Rattle.logic_terms.specs.Tree.{num, free, linear, equal, at_most, negation, no_parts, part}
use Rattle.logic_core.specs.Order.{first}
use Rattle.logic_core.specs.Sum.{Linear}
use Rattle.logic_core.specs.Combine.{linear_of, combined, lead, at_least_zero}

-- 2 * v1 - v0 + 3, and v1 - v0
abbrev a : Linear
a = record { parts = part (pos 2) (free 1) (part (negsuc 0) (free 0) no_parts); rest = pos 3 }

abbrev b : Linear
b = record { parts = part (pos 1) (free 1) (part (negsuc 0) (free 0) no_parts); rest = pos 0 }

of_at_most : linear_of (at_most (num (pos 0)) (linear (part (pos 2) (free 1) (part (negsuc 0) (free 0) no_parts)) (pos 3))) ≡ Some a
of_at_most = refl

of_atom : linear_of (equal (free 1) (num (pos 0))) ≡ Some (record { parts = part (pos 1) (free 1) no_parts; rest = pos 0 })
of_atom = refl

of_no_linear_fact : linear_of (negation (equal (free 1) (num (pos 0)))) ≡ None
of_no_linear_fact = refl

-- a - 2 * b: the lead goes away
lead_goes : combined a (pos 1) b (negsuc 1) ≡ Some (record { parts = part (pos 1) (free 0) no_parts; rest = pos 3 })
unfolding first
lead_goes = refl

the_lead : lead a ≡ Some (pos 2, free 1)
the_lead = refl

-- 2^127 - 1 times a leaves 128 bits
wide_multiple : combined a (pos (2 ^ 127 - 1)) b (pos 1) ≡ None
unfolding first
wide_multiple = refl

-- a sum without parts is a truth value
decided : at_least_zero (record { parts = no_parts; rest = negsuc 0 }) ≡ at_least_zero (record { parts = no_parts; rest = negsuc 6 })
decided = refl
