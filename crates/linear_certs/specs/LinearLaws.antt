-- What sums of multiples of linear facts mean.
use Rattle.std.specs.Prelude.{◌≡◌, ℤ, ◌+ℤ◌, ◌*ℤ◌, Some, IsTrue, ◌&&◌, List}
use Rattle.logic_core.specs.Tree.{Kind, int, boolean, Tree}
use Rattle.logic_core.specs.Def.{Def}
use Rattle.logic_core.specs.Value.{Value, whole, are_of}
use Rattle.logic_core.specs.Sorts.{sort_of}
use Rattle.logic_core.specs.Sum.{Linear, term_of}
use Rattle.logic_core.specs.Combine.{linear_of, combined, at_least_zero}
use Rattle.logic_laws.specs.Assignment.{IsAssignment, ValueIs, HoldsThere}
use Rattle.linear_certs.specs.Multiplier.{may_multiply}

-- where a has the value m and c the value n, p*a + q*c has the value p*m + q*n
abbrev pub CombiningAddsValues : Type 0
CombiningAddsValues = (vars : List Kind) (defs : List Def) (frees : List Value) (bound : List Kind) (b : List Value) (a c s : Linear) (p q m n : ℤ)
    → IsAssignment vars defs frees → IsTrue (are_of bound b) → sort_of vars defs bound (term_of a) ≡ Some int → sort_of vars defs bound (term_of c) ≡ Some int → combined a p c q ≡ Some s
    → ValueIs frees defs (term_of a) b (whole m) → ValueIs frees defs (term_of c) b (whole n) → ValueIs frees defs (term_of s) b (whole ((p *ℤ m) +ℤ (q *ℤ n)))

-- a fact combined from formulas is a formula
abbrev pub CombiningKeepsSorts : Type 0
CombiningKeepsSorts = (vars : List Kind) (defs : List Def) (bound : List Kind) (f g : Tree) (a c s : Linear) (p q : ℤ)
    → sort_of vars defs bound f ≡ Some boolean → sort_of vars defs bound g ≡ Some boolean → linear_of f ≡ Some a → linear_of g ≡ Some c → combined a p c q ≡ Some s
    → sort_of vars defs bound (at_least_zero s) ≡ Some boolean

-- a fact combined from facts that hold holds
abbrev pub CombinedFactsHold : Type 0
CombinedFactsHold = (vars : List Kind) (defs : List Def) (frees : List Value) (bound : List Kind) (b : List Value) (f g : Tree) (a c s : Linear) (p q : ℤ)
    → IsAssignment vars defs frees → IsTrue (are_of bound b) → sort_of vars defs bound f ≡ Some boolean → sort_of vars defs bound g ≡ Some boolean
    → linear_of f ≡ Some a → linear_of g ≡ Some c → IsTrue (may_multiply p f && may_multiply q g) → combined a p c q ≡ Some s
    → HoldsThere frees defs f b → HoldsThere frees defs g b → HoldsThere frees defs (at_least_zero s) b
