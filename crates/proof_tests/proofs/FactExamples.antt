-- What facts become when they are tightened, what they say of terms, and by what they may be multiplied, computed.
use Rattle.std.specs.Prelude.{◌≡◌, refl, pos, negsuc, true, false, Some, None, [], ◌∷◌, Option, map as each}
use Rattle.logic_core.specs.Tree.{Tree, num, truth, free, linear, negation, equal, at_most, no_parts, part}
use Rattle.logic_core.specs.Order.{first}
use Rattle.logic_core.specs.Tighten.{tighten}
use Rattle.linear_certs.specs.Multiplier.{may_multiply}
use Rattle.proof_core.specs.Says.{says}

abbrev x : Tree
x = free 0

abbrev y : Tree
y = free 1

abbrev p : Tree
p = free 2

abbrev q : Tree
q = free 3

-- inequalities are rounded down, equations divided or false, and every other fact stays
tightened : each tighten (at_most (num (pos 0)) (linear (part (pos 4) x (part (pos 6) y no_parts)) (pos 5)) ∷ at_most (num (pos 0)) (linear (part (pos 4) x (part (pos 6) y no_parts)) (negsuc 4)) ∷ at_most (num (pos 0)) (linear (part (pos 4) x (part (negsuc 5) y no_parts)) (negsuc 5)) ∷ at_most (num (pos 0)) (linear (part (negsuc 3) x (part (negsuc 5) y no_parts)) (negsuc 0)) ∷ at_most (num (pos 0)) (linear (part (pos 4) x (part (pos 9) y no_parts)) (pos 5)) ∷ at_most (num (pos 0)) (linear (part (negsuc 170141183460469231731687303715884105727) x (part (negsuc 170141183460469231731687303715884105727) y no_parts)) (negsuc 0)) ∷ at_most (num (pos 0)) (linear (part (negsuc 170141183460469231731687303715884105727) x (part (negsuc 170141183460469231731687303715884105727) y no_parts)) (pos 170141183460469231731687303715884105727)) ∷ at_most (num (pos 0)) (linear (part (pos 2) x no_parts) (pos 1)) ∷ equal (linear (part (pos 4) x (part (negsuc 5) y no_parts)) (pos 2)) (num (pos 0)) ∷ negation (equal (linear (part (pos 4) x (part (negsuc 5) y no_parts)) (pos 2)) (num (pos 0))) ∷ equal (linear (part (pos 4) x (part (negsuc 5) y no_parts)) (pos 3)) (num (pos 0)) ∷ negation (equal (linear (part (pos 4) x (part (negsuc 5) y no_parts)) (pos 3)) (num (pos 0))) ∷ negation (at_most (num (pos 0)) (linear (part (pos 2) x no_parts) (pos 0))) ∷ [])
    ≡ (at_most (num (pos 0)) (linear (part (pos 2) x (part (pos 3) y no_parts)) (pos 2))) ∷ (at_most (num (pos 0)) (linear (part (pos 2) x (part (pos 3) y no_parts)) (negsuc 2))) ∷ (at_most (num (pos 0)) (linear (part (pos 2) x (part (negsuc 2) y no_parts)) (negsuc 2))) ∷ (at_most (num (pos 0)) (linear (part (negsuc 1) x (part (negsuc 2) y no_parts)) (negsuc 0))) ∷ (at_most (num (pos 0)) (linear (part (pos 4) x (part (pos 9) y no_parts)) (pos 5))) ∷ (at_most (num (pos 0)) (linear (part (negsuc 0) x (part (negsuc 0) y no_parts)) (negsuc 0))) ∷ (at_most (num (pos 0)) (linear (part (negsuc 0) x (part (negsuc 0) y no_parts)) (pos 0))) ∷ (at_most (num (pos 0)) x) ∷ (equal (linear (part (pos 2) x (part (negsuc 2) y no_parts)) (pos 1)) (num (pos 0))) ∷ (negation (equal (linear (part (pos 2) x (part (negsuc 2) y no_parts)) (pos 1)) (num (pos 0)))) ∷ (truth false) ∷ (truth true) ∷ (negation (at_most (num (pos 0)) (linear (part (pos 2) x no_parts) (pos 0)))) ∷ []
tightened = refl

abbrev said_of : Tree × Tree → Option Tree
said_of r = says r.0 r.1

-- an equation of numbers is solved for an atom with coefficient 1 or -1, unless a number leaves 128 bits; a formula is true, and its Not makes it false
said : each said_of ((equal (linear (part (pos 1) y (part (negsuc 0) x no_parts)) (negsuc 0)) (num (pos 0)), y) ∷ (equal (linear (part (pos 1) y (part (negsuc 0) x no_parts)) (negsuc 0)) (num (pos 0)), x) ∷ (equal (linear (part (pos 1) y (part (negsuc 0) x no_parts)) (negsuc 0)) (num (pos 0)), free 5) ∷ (equal (linear (part (pos 2) y (part (negsuc 0) x no_parts)) (pos 3)) (num (pos 0)), y) ∷ (equal (linear (part (pos 2) y (part (negsuc 0) x no_parts)) (pos 3)) (num (pos 0)), x) ∷ (equal (linear (part (pos 1) y (part (negsuc 0) x no_parts)) (negsuc 170141183460469231731687303715884105727)) (num (pos 0)), y) ∷ (equal (linear (part (pos 1) y (part (negsuc 0) x no_parts)) (negsuc 170141183460469231731687303715884105727)) (num (pos 0)), x) ∷ (equal y (num (pos 0)), y) ∷ (p, p) ∷ (negation p, negation p) ∷ (negation p, p) ∷ (equal p q, p) ∷ (equal p q, q) ∷ (equal p q, equal p q) ∷ (equal p q, x) ∷ [])
    ≡ Some (linear (part (pos 1) x no_parts) (pos 1)) ∷ Some (linear (part (pos 1) y no_parts) (negsuc 0)) ∷ None ∷ None ∷ Some (linear (part (pos 2) y no_parts) (pos 3)) ∷ None ∷ Some (linear (part (pos 1) y no_parts) (negsuc 170141183460469231731687303715884105727)) ∷ Some (num (pos 0)) ∷ Some (truth true) ∷ Some (truth true) ∷ Some (truth false) ∷ Some q ∷ Some p ∷ Some (truth true) ∷ None ∷ []
unfolding first
said = refl

-- an inequality is multiplied by what keeps its direction
multipliers : each (λ k. may_multiply k (at_most (num (pos 0)) x)) (negsuc 0 ∷ pos 0 ∷ pos 1 ∷ [])
    ≡ false ∷ false ∷ true ∷ []
multipliers = refl

-- an equation is multiplied by all but 0
multipliers_of_equations : each (λ k. may_multiply k (equal x (num (pos 0)))) (negsuc 0 ∷ pos 0 ∷ pos 1 ∷ [])
    ≡ true ∷ false ∷ true ∷ []
multipliers_of_equations = refl
