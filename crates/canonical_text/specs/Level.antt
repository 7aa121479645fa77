-- The order of the grammar's productions for expressions.
use Rattle.std.specs.Prelude.{ℕ, Bool, nat_lt}
use Rattle.canonical_text.specs.declared.level.Level.{Level}
use Rattle.canonical_text.specs.declared.level.Level.TheVariants.{Equivalence, Implication, Junction, Comparison, Sum, Product, Unary, Postfix, Atom}

-- how many productions take this one in
abbrev pub rank : Level → ℕ
rank Equivalence = 0
rank Implication = 1
rank Junction = 2
rank Comparison = 3
rank Sum = 4
rank Product = 5
rank Unary = 6
rank Postfix = 7
rank Atom = 8

-- the first takes in the second, but not the other way round
abbrev pub is_looser : Level → Level → Bool
is_looser v w = nat_lt (rank v) (rank w)
