-- The variant of a term, by its number, and what a term of that variant has.
use Rattle.std.specs.Prelude.{ℕ, ℤ, pos, Bool, false, Option, Some, None, List}
use Rattle.logic_terms.specs.Tree.{Kind, Tree, num, truth, free, bound, linear, mul, read, write, choose, call, negation, all, some, equal, at_most, for_all, exists, Trees, Parts, Patterns}

abbrev pub rank : Tree → ℕ
rank (num n) = 0
rank (truth b) = 1
rank (free v) = 2
rank (bound v) = 3
rank (linear ps c) = 4
rank (mul a b) = 5
rank (read a b) = 6
rank (write a b c) = 7
rank (choose a b c) = 8
rank (call f ts) = 9
rank (negation a) = 10
rank (all ts) = 11
rank (some ts) = 12
rank (equal a b) = 13
rank (at_most a b) = 14
rank (for_all ss ps a) = 15
rank (exists ss ps a) = 16

-- what a term of two, three or many parts has
abbrev pub as_number : Tree → ℤ
as_number (num n) = n
as_number t = pos 0

abbrev pub as_flag : Tree → Bool
as_flag (truth b) = b
as_flag t = false

abbrev pub as_index : Tree → ℕ
as_index (free v) = v
as_index (bound v) = v
as_index (call f ts) = f
as_index t = 0

abbrev pub as_sum : Tree → Option (Parts × ℤ)
as_sum (linear ps c) = Some (ps, c)
as_sum t = None

abbrev pub as_one : Tree → Option Tree
as_one (negation a) = Some a
as_one t = None

abbrev pub as_two : Tree → Option (Tree × Tree)
as_two (mul a b) = Some (a, b)
as_two (read a b) = Some (a, b)
as_two (equal a b) = Some (a, b)
as_two (at_most a b) = Some (a, b)
as_two t = None

abbrev pub as_three : Tree → Option (Tree × Tree × Tree)
as_three (write a b c) = Some (a, b, c)
as_three (choose a b c) = Some (a, b, c)
as_three t = None

abbrev pub as_many : Tree → Option Trees
as_many (call f ts) = Some ts
as_many (all ts) = Some ts
as_many (some ts) = Some ts
as_many t = None

abbrev pub as_quantified : Tree → Option (List Kind × Patterns × Tree)
as_quantified (for_all ss ps a) = Some (ss, ps, a)
as_quantified (exists ss ps a) = Some (ss, ps, a)
as_quantified t = None
