-- What a normal fact says that a term is equal to: the four kinds of fact by which a term is replaced.
use Rattle.std.specs.Prelude.{ℤ, pos, negsuc, true, false, Option, Some, None, if◌then◌else◌}
use Rattle.std.specs.Ordering.{int_eq}
use Rattle.logic_core.specs.Tree.{Tree, truth, negation, equal, Parts, no_parts, part}
use Rattle.logic_core.specs.Same.{same_term}
use Rattle.logic_core.specs.Wide.{◌>>=◌}
use Rattle.logic_core.specs.Sum.{Linear, affine, sum_term}
use Rattle.logic_core.specs.Junction.{is_zero}
use Rattle.logic_core.specs.Combine.{sum_of}

-- the coefficient of an atom
abbrev pub coefficient : Tree → Parts → Option ℤ
coefficient t no_parts = None
coefficient t (part k u ps) = if same_term t u then Some k else coefficient t ps

-- the parts but for the one with this atom
abbrev pub without : Tree → Parts → Parts
without t no_parts = no_parts
without t (part k u ps) = if same_term t u then ps else part k u (without t ps)

-- the rest of the sum beside this atom
abbrev pub rest_of : Linear → Tree → Tree
rest_of s t = sum_term (without t s.parts) s.rest

-- the term to which `sum = 0` makes the atom t equal, where its coefficient is 1 or -1
abbrev pub solved : Linear → Tree → Option Tree
solved s t = coefficient t s.parts >>= λ k.
    if int_eq k (pos 1) then affine (negsuc 0) (rest_of s t) (pos 0)
    else (if int_eq k (negsuc 0) then Some (rest_of s t) else None)

abbrev pub other_side : Tree → Tree → Tree → Option Tree
other_side a b t = if same_term a t then Some b else (if same_term b t then Some a else None)

-- Eq(d, 0) of Int speaks of the atoms of d, and another Eq of its sides
abbrev pub by_equation : Tree → Tree → Option Tree
by_equation (equal d z) t = if is_zero z then solved (sum_of d) t else other_side d z t
by_equation g t = None

-- a fact says of itself that it is true, and Not t says of t that it is false
abbrev pub by_truth : Tree → Tree → Option Tree
by_truth (negation u) t = if same_term u t then Some (truth false) else (if same_term (negation u) t then Some (truth true) else None)
by_truth g t = if same_term g t then Some (truth true) else None

abbrev pub or_else : {A : Type 0} → Option A → Option A → Option A
or_else None o = o
or_else (Some a) o = Some a

abbrev pub says : Tree → Tree → Option Tree
says g t = or_else (by_equation g t) (by_truth g t)
