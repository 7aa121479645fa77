-- Oriented facts: the left side, which rewriting replaces by what the fact says that it is equal to.
use Rattle.std.specs.Prelude.{ℕ, suc, nat_eq, nat_lt, ℤ, pos, negsuc, Bool, true, false, not, ◌&&◌, ◌||◌, Option, Some, None, List, [], if◌then◌else◌}
use Rattle.std.specs.Ordering.{int_eq}
use Rattle.logic_core.specs.Tree.{Kind, boolean, map, Tree, free, read, call, negation, equal, Parts, no_parts, part}
use Rattle.logic_core.specs.Def.{Def}
use Rattle.logic_core.specs.Wide.{when}
use Rattle.logic_core.specs.Sorts.{sort_of}
use Rattle.logic_core.specs.Subterm.{occurs, has_quantifier}
use Rattle.logic_core.specs.Junction.{is_zero}
use Rattle.logic_core.specs.Sum.{Linear}
use Rattle.logic_core.specs.Combine.{sum_of}
use Rattle.proof_core.specs.Says.{or_else}

abbrev pub is_variable : Tree → Bool
is_variable (free v) = true
is_variable t = false

abbrev pub is_one : ℤ → Bool
is_one k = int_eq k (pos 1)

abbrev pub is_minus_one : ℤ → Bool
is_minus_one k = int_eq k (negsuc 0)

-- in how many parts the term occurs
abbrev pub parts_with : Tree → Parts → ℕ
parts_with t no_parts = 0
parts_with t (part k u ps) = if occurs t u then suc (parts_with t ps) else parts_with t ps

abbrev pub greater_number : Option Tree → Option Tree → Option Tree
greater_number (Some (free v)) (Some (free w)) = if nat_lt v w then Some (free w) else Some (free v)
greater_number o p = or_else o p

-- of the variables that are a part with coefficient 1 or -1 and occur in no other part, the one of greatest number
abbrev pub solvable_among : Parts → Parts → Option Tree
solvable_among all_parts no_parts = None
solvable_among all_parts (part k t ps) = greater_number (when (is_variable t && ((is_one k || is_minus_one k) && nat_eq (parts_with t all_parts) 1)) (Some t)) (solvable_among all_parts ps)

-- the lead where it isn't a variable and has coefficient 1, and the rest is a Num or one atom of coefficient 1 with constant 0
abbrev pub simple_lead : Parts → ℤ → Option Tree
simple_lead (part k t no_parts) c = when (is_one k && not (is_variable t)) (Some t)
simple_lead (part k t (part j u no_parts)) c = when (is_one k && (not (is_variable t) && (is_minus_one j && int_eq c (pos 0)))) (Some t)
simple_lead ps c = None

abbrev pub linear_left : Linear → Option Tree
linear_left s = or_else (solvable_among s.parts s.parts) (simple_lead s.parts s.rest)

-- a variable that doesn't occur in the other side, which has no quantifier
abbrev pub defines : Tree → Tree → Bool
defines t u = is_variable t && (not (occurs t u) && not (has_quantifier u))

-- where both sides are such variables it is the one of greater number: a normal Eq has the smaller side first
abbrev pub defined : Tree → Tree → Option Tree
defined a b = if defines b a then Some b else (if defines a b then Some a else None)

abbrev pub is_application : Tree → Bool
is_application (read m i) = true
is_application (call f ts) = true
is_application t = false

-- without such a side: of maps the greater side, of Bool the greater where it is a Read or a Call and the other has no quantifier
abbrev pub greater_side : Option Kind → Tree → Tree → Option Tree
greater_side (Some (map k)) a b = Some b
greater_side (Some boolean) a b = when (is_application b && not (has_quantifier a)) (Some b)
greater_side k a b = None

module _ (vars : List Kind) (defs : List Def) where
  abbrev pub equation_left : Tree → Tree → Option Tree
  equation_left a b = if is_zero b then linear_left (sum_of a) else or_else (defined a b) (greater_side (sort_of vars defs [] a) a b)

  -- None where the fact isn't oriented
  abbrev pub left_side : Tree → Option Tree
  left_side (equal a b) = equation_left a b
  left_side (free v) = Some (free v)
  left_side (negation t) = when (is_variable t) (Some t)
  left_side t = None
