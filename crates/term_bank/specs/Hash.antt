-- A hash of a term, made of the hashes of its parts.
use Rattle.std.specs.Prelude.{ℕ, ℤ, pos, ◌+◌, ◌*◌, ◌%◌, ◌^◌, cond, int_lt, unsigned_abs}
use Rattle.logic_core.specs.Size.{capped}
use Rattle.logic_core.specs.Tree.{Tree, num, truth, free, bound, linear, mul, read, write, choose, call, negation, all, some, equal, at_most, for_all, exists, Trees, no_trees, tree, Parts, no_parts, part, Patterns, no_patterns, pattern}

-- n * (2 * n + 1) in 64 bits, which no two numbers have in common
abbrev pub stirred : ℕ → ℕ
stirred n = (n * (((n + n) % 2 ^ 64 + 1) % 2 ^ 64)) % 2 ^ 64

-- one more number in a hash
unfoldable pub mixed : ℕ → ℕ → ℕ
mixed h n = stirred (((h * 11400714819323198485) % 2 ^ 64 + n) % 2 ^ 64)

-- by the absolute value, up to 64 bits of it, and the sign
abbrev pub number_hash : ℤ → ℕ
number_hash n = cond (int_lt n (pos 0)) (mixed 1 (capped (unsigned_abs n))) (mixed 0 (capped (unsigned_abs n)))

abbrev mutual
  pub hash_of : Tree → ℕ
  hash_of (num n) = number_hash n
  hash_of (truth b) = cond b (mixed 1 1) (mixed 1 0)
  hash_of (free v) = mixed 2 v
  hash_of (bound v) = mixed 3 v
  hash_of (linear ps c) = mixed (hash_of_parts 4 ps) (number_hash c)
  hash_of (mul a b) = mixed (mixed 5 (hash_of a)) (hash_of b)
  hash_of (read a b) = mixed (mixed 6 (hash_of a)) (hash_of b)
  hash_of (write a b c) = mixed (mixed (mixed 7 (hash_of a)) (hash_of b)) (hash_of c)
  hash_of (choose a b c) = mixed (mixed (mixed 8 (hash_of a)) (hash_of b)) (hash_of c)
  hash_of (call f ts) = hash_of_each (mixed 9 f) ts
  hash_of (negation a) = mixed 10 (hash_of a)
  hash_of (all ts) = hash_of_each 11 ts
  hash_of (some ts) = hash_of_each 12 ts
  hash_of (equal a b) = mixed (mixed 13 (hash_of a)) (hash_of b)
  hash_of (at_most a b) = mixed (mixed 14 (hash_of a)) (hash_of b)
  hash_of (for_all ss ps a) = mixed (hash_of_patterns 15 ps) (hash_of a)
  hash_of (exists ss ps a) = mixed (hash_of_patterns 16 ps) (hash_of a)

  -- the hashes of a list's items, one after another
  pub hash_of_each : ℕ → Trees → ℕ
  hash_of_each h no_trees = h
  hash_of_each h (tree t ts) = hash_of_each (mixed h (hash_of t)) ts

  pub hash_of_parts : ℕ → Parts → ℕ
  hash_of_parts h no_parts = h
  hash_of_parts h (part k t ps) = hash_of_parts (mixed (mixed h (number_hash k)) (hash_of t)) ps

  pub hash_of_patterns : ℕ → Patterns → ℕ
  hash_of_patterns h no_patterns = h
  hash_of_patterns h (pattern ts ps) = hash_of_patterns (mixed h (hash_of_each 17 ts)) ps
