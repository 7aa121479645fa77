-- The terms of a bank by number, and how terms join them.
use Rattle.std.specs.Prelude.{◌≡◌, ℕ, ℤ, Vec, suc, true, cond, List, [], ◌∷◌, ◌++◌, get_or, Option, Some, None, option_map, is_some}
use Rattle.std.specs.List.{AllZip}
use Rattle.std.specs.declared.alloc.Global.{Global}
use Rattle.logic_core.specs.Tree.{Tree, num, truth, free, bound, linear, mul, read, write, choose, call, negation, all, some, equal, at_most, for_all, exists, Trees, no_trees, tree, Parts, no_parts, part, Patterns, no_patterns, pattern}
use Rattle.logic_core.specs.Same.{same_term}

-- the term of a number, and some term beyond the last number
abbrev pub at : List Tree → ℕ → Tree
at ts i = get_or ts i (truth true)

-- the first number of a term
abbrev pub number_of : List Tree → Tree → Option ℕ
number_of [] t = None
number_of (u ∷ us) t = cond (same_term t u) (Some 0) (option_map suc (number_of us t))

-- a term that isn't there yet joins the end
abbrev pub with_term : List Tree → Tree → List Tree
with_term ts t = cond (is_some (number_of ts t)) ts (ts ++ t ∷ [])

-- the terms in a term join the end in the order of the text, each behind the terms in it: those of a binder's triggers before those of its body
abbrev mutual
  pub with_inner : List Tree → Tree → List Tree
  with_inner ts (num n) = ts
  with_inner ts (truth b) = ts
  with_inner ts (free v) = ts
  with_inner ts (bound v) = ts
  with_inner ts (linear ps c) = with_atoms ts ps
  with_inner ts (mul a b) = with_term (with_inner (with_term (with_inner ts a) a) b) b
  with_inner ts (read a b) = with_term (with_inner (with_term (with_inner ts a) a) b) b
  with_inner ts (write a b c) = with_term (with_inner (with_term (with_inner (with_term (with_inner ts a) a) b) b) c) c
  with_inner ts (choose a b c) = with_term (with_inner (with_term (with_inner (with_term (with_inner ts a) a) b) b) c) c
  with_inner ts (call f us) = with_each ts us
  with_inner ts (negation a) = with_term (with_inner ts a) a
  with_inner ts (all us) = with_each ts us
  with_inner ts (some us) = with_each ts us
  with_inner ts (equal a b) = with_term (with_inner (with_term (with_inner ts a) a) b) b
  with_inner ts (at_most a b) = with_term (with_inner (with_term (with_inner ts a) a) b) b
  with_inner ts (for_all ss ps a) = with_term (with_inner (with_patterns ts ps) a) a
  with_inner ts (exists ss ps a) = with_term (with_inner (with_patterns ts ps) a) a

  pub with_each : List Tree → Trees → List Tree
  with_each ts no_trees = ts
  with_each ts (tree u us) = with_each (with_term (with_inner ts u) u) us

  pub with_atoms : List Tree → Parts → List Tree
  with_atoms ts no_parts = ts
  with_atoms ts (part k u ps) = with_atoms (with_term (with_inner ts u) u) ps

  pub with_patterns : List Tree → Patterns → List Tree
  with_patterns ts no_patterns = ts
  with_patterns ts (pattern us ps) = with_patterns (with_each ts us) ps

-- and the term itself behind them
abbrev pub with_whole : List Tree → Tree → List Tree
with_whole ts t = with_term (with_inner ts t) t

-- the terms after a term is interned
abbrev pub interned : List Tree → Tree → List Tree
interned ts t = cond (is_some (number_of ts t)) ts (with_whole ts t)

-- the first list is a front of the second
abbrev pub Begins : List Tree → List Tree → Type 0
Begins ts us = (more : List Tree) × (us ≡ ts ++ more)

-- the number is that of the term
abbrev pub IsNumber : List Tree → ℕ → Tree → Type 0
IsNumber ts i t = number_of ts t ≡ Some i

-- numbers of terms, one by one
abbrev pub AreNumbers : List Tree → List ℕ → List Tree → Type 0
AreNumbers ts is us = AllZip (IsNumber ts) is us

-- and with the coefficients beside them
abbrev pub AreAtoms : List Tree → List (ℤ × ℕ) → List (ℤ × Tree) → Type 0
AreAtoms ts is us = AllZip (λ p q. (p.0 ≡ q.0) × IsNumber ts p.1 q.1) is us

-- lists of numbers of the terms of lists
abbrev pub AreLists : List Tree → List (Vec ℕ Global) → List (List Tree) → Type 0
AreLists ts iss uss = AllZip (λ v us. AreNumbers ts v.items us) iss uss
