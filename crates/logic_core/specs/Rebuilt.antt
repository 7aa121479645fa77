-- A term of the same construct with other parts.
use Rattle.std.specs.Prelude.{List}
use Rattle.logic_terms.specs.Tree.{Kind, Tree, mul, read, write, choose, equal, at_most, for_all, exists, Patterns}

-- of a Mul, Read, Eq or Le
abbrev pub with_two : Tree → Tree → Tree → Tree
with_two (read x y) a b = read a b
with_two (equal x y) a b = equal a b
with_two (at_most x y) a b = at_most a b
with_two t a b = mul a b

-- of a Write or an If
abbrev pub with_three : Tree → Tree → Tree → Tree → Tree
with_three (choose x y z) a b c = choose a b c
with_three t a b c = write a b c

-- of a quantifier
abbrev pub with_quantified : Tree → List Kind → Patterns → Tree → Tree
with_quantified (exists js qs u) ss ps t = exists ss ps t
with_quantified u ss ps t = for_all ss ps t
