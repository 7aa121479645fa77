-- The term of a node, and the numbers in it.
use Rattle.std.specs.Prelude.{◌≡◌, ◌<◌, ℕ, ℤ, Vec, map, length, List, [], ◌∷◌, ◌++◌}
use Rattle.std.specs.List.{flat_map, AllByRecursion}
use Rattle.std.specs.declared.alloc.Global.{Global}
use Rattle.logic_core.specs.Tree.{Tree, num, truth, free, bound, linear, mul, read, write, choose, call, negation, all, some, equal, at_most, for_all, exists}
use Rattle.logic_core.specs.View.{trees_of, parts_of, patterns_of}
use Rattle.term_bank.specs.Numbered.{at}
use Rattle.term_bank.specs.declared.node.Node.{Node}
use Rattle.term_bank.specs.declared.node.Node.TheVariants.{Num, Truth, Free, Bound, Sum, Mul, Read, Write, If, Call, Not, And, Or, Eq, Le, ForAll, Exists}

-- the node's term, where each number stands for a term
module _ (of : ℕ → Tree) where
  abbrev pub tree_over : Node → Tree
  tree_over (Num n) = num n
  tree_over (Truth b) = truth b
  tree_over (Free v) = free v
  tree_over (Bound v) = bound v
  tree_over (Sum ps c) = linear (parts_of (map (λ (p : ℤ × ℕ). (p.0, of p.1)) ps.items)) c
  tree_over (Mul a b) = mul (of a) (of b)
  tree_over (Read a b) = read (of a) (of b)
  tree_over (Write a b c) = write (of a) (of b) (of c)
  tree_over (If a b c) = choose (of a) (of b) (of c)
  tree_over (Call f is) = call f (trees_of (map of is.items))
  tree_over (Not a) = negation (of a)
  tree_over (And is) = all (trees_of (map of is.items))
  tree_over (Or is) = some (trees_of (map of is.items))
  tree_over (Eq a b) = equal (of a) (of b)
  tree_over (Le a b) = at_most (of a) (of b)
  tree_over (ForAll ss ps a) = for_all ss.items (patterns_of (map (λ (p : Vec ℕ Global). map of p.items) ps.items)) (of a)
  tree_over (Exists ss ps a) = exists ss.items (patterns_of (map (λ (p : Vec ℕ Global). map of p.items) ps.items)) (of a)

-- the numbers in the lists of a quantifier's triggers
abbrev pub in_lists : List (Vec ℕ Global) → List ℕ
in_lists ps = flat_map (λ p. p.items) ps

-- the numbers of a node's parts
abbrev pub numbers_in : Node → List ℕ
numbers_in (Num n) = []
numbers_in (Truth b) = []
numbers_in (Free v) = []
numbers_in (Bound v) = []
numbers_in (Sum ps c) = map (λ (p : ℤ × ℕ). p.1) ps.items
numbers_in (Mul a b) = a ∷ b ∷ []
numbers_in (Read a b) = a ∷ b ∷ []
numbers_in (Write a b c) = a ∷ b ∷ c ∷ []
numbers_in (If a b c) = a ∷ b ∷ c ∷ []
numbers_in (Call f is) = is.items
numbers_in (Not a) = a ∷ []
numbers_in (And is) = is.items
numbers_in (Or is) = is.items
numbers_in (Eq a b) = a ∷ b ∷ []
numbers_in (Le a b) = a ∷ b ∷ []
numbers_in (ForAll ss ps a) = a ∷ in_lists ps.items
numbers_in (Exists ss ps a) = a ∷ in_lists ps.items

-- the node is one of the term, over these terms
abbrev pub IsNodeOf : List Tree → Node → Tree → Type 0
IsNodeOf ts n t = (tree_over (at ts) n ≡ t) × AllByRecursion (λ j. j < length ts) (numbers_in n)
