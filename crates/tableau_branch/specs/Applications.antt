-- The hashes of the Reads and the Calls in a term.
use Rattle.std.specs.Prelude.{ℕ, List, [], ◌∷◌, ◌++◌}
use Rattle.logic_core.specs.Tree.{Tree, num, truth, free, bound, linear, mul, read, write, choose, call, negation, all, some, equal, at_most, for_all, exists, Trees, no_trees, tree, Parts, no_parts, part, Patterns, no_patterns, pattern}
use Rattle.term_bank.specs.Hash.{hash_of}

-- each as often as it stands there, inside quantifiers and triggers too, those within it before it
abbrev mutual
  pub applications : Tree → List ℕ
  applications (num n) = []
  applications (truth x) = []
  applications (free v) = []
  applications (bound v) = []
  applications (linear ps c) = applications_of_parts ps
  applications (mul a b) = applications a ++ applications b
  applications (read a b) = (applications a ++ applications b) ++ hash_of (read a b) ∷ []
  applications (write a b c) = applications a ++ (applications b ++ applications c)
  applications (choose a b c) = applications a ++ (applications b ++ applications c)
  applications (call f ts) = applications_of_each ts ++ hash_of (call f ts) ∷ []
  applications (negation a) = applications a
  applications (all ts) = applications_of_each ts
  applications (some ts) = applications_of_each ts
  applications (equal a b) = applications a ++ applications b
  applications (at_most a b) = applications a ++ applications b
  applications (for_all ss ps a) = applications_of_patterns ps ++ applications a
  applications (exists ss ps a) = applications_of_patterns ps ++ applications a

  pub applications_of_each : Trees → List ℕ
  applications_of_each no_trees = []
  applications_of_each (tree t ts) = applications t ++ applications_of_each ts

  pub applications_of_parts : Parts → List ℕ
  applications_of_parts no_parts = []
  applications_of_parts (part k t ps) = applications t ++ applications_of_parts ps

  pub applications_of_patterns : Patterns → List ℕ
  applications_of_patterns no_patterns = []
  applications_of_patterns (pattern ts ps) = applications_of_each ts ++ applications_of_patterns ps
