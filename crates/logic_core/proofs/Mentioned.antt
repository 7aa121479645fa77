-- What each variable and each definition has, as lists and as they stand in the term; renamings that agree there.
use Rattle.std.specs.Prelude.{◌≡◌, refl, ℕ, List, [], ◌∷◌, ◌++◌}
use Rattle.std.specs.List.{AllByRecursion}
use Rattle.std.proofs.Common.{sym}
use Rattle.std.proofs.lemmas.List.{append_assoc}
use Rattle.logic_terms.specs.Tree.{Tree, num, truth, free, bound, linear, mul, read, write, choose, call, negation, all, some, equal, at_most, for_all, exists, Trees, no_trees, tree, Parts, no_parts, part, Patterns, no_patterns, pattern}
use Rattle.logic_core.specs.Renamed.{both_renamed, each_both_renamed, parts_both_renamed, patterns_both_renamed, EachHas, EachInTrees, EachInParts, EachInPatterns}
use Rattle.logic_core.specs.Variables.{variables, variables_of_each, variables_of_parts, variables_of_patterns, calls, calls_of_each, calls_of_parts, calls_of_patterns, renamed}

-- of each element of one list and of each of another
pub all_left : {X : Type 0} (P : X → Type 0) (xs ys : List X) → AllByRecursion P (xs ++ ys) → AllByRecursion P xs
all_left P [] ys h = tt
all_left P (x ∷ xs) ys h = (h.0, all_left P xs ys h.1)

pub all_right : {X : Type 0} (P : X → Type 0) (xs ys : List X) → AllByRecursion P (xs ++ ys) → AllByRecursion P ys
all_right P [] ys h = h
all_right P (x ∷ xs) ys h = all_right P xs ys h.1

pub behind : (xs ys zs : List ℕ) → xs ++ (ys ++ zs) ≡ (xs ++ ys) ++ zs
behind xs ys zs = sym (append_assoc xs ys zs)

module _ (V C : ℕ → Type 0) where
  -- each of these variables has V, and each of these definitions C
  abbrev Have : List ℕ → List ℕ → Type 0
  Have vs fs = AllByRecursion V vs × AllByRecursion C fs

  left : (vs ws fs gs : List ℕ) → Have (vs ++ ws) (fs ++ gs) → Have vs fs
  left vs ws fs gs h = (all_left V vs ws h.0, all_left C fs gs h.1)

  right : (vs ws fs gs : List ℕ) → Have (vs ++ ws) (fs ++ gs) → Have ws gs
  right vs ws fs gs h = (all_right V vs ws h.0, all_right C fs gs h.1)

  mutual
    pub as_it_stands : (t : Tree) → Have (variables t) (calls t) → EachHas V C t
    as_it_stands (num n) h = tt
    as_it_stands (truth x) h = tt
    as_it_stands (free v) h = h.0.0
    as_it_stands (bound v) h = tt
    as_it_stands (linear ps c) h = as_parts_stand ps h
    as_it_stands (mul x y) h = (as_it_stands x (left (variables x) (variables y) (calls x) (calls y) h), as_it_stands y (right (variables x) (variables y) (calls x) (calls y) h))
    as_it_stands (read x y) h = (as_it_stands x (left (variables x) (variables y) (calls x) (calls y) h), as_it_stands y (right (variables x) (variables y) (calls x) (calls y) h))
    as_it_stands (write x y z) h =
        let rest = right (variables x) (variables y ++ variables z) (calls x) (calls y ++ calls z) h in
        (as_it_stands x (left (variables x) (variables y ++ variables z) (calls x) (calls y ++ calls z) h), as_it_stands y (left (variables y) (variables z) (calls y) (calls z) rest), as_it_stands z (right (variables y) (variables z) (calls y) (calls z) rest))
    as_it_stands (choose x y z) h =
        let rest = right (variables x) (variables y ++ variables z) (calls x) (calls y ++ calls z) h in
        (as_it_stands x (left (variables x) (variables y ++ variables z) (calls x) (calls y ++ calls z) h), as_it_stands y (left (variables y) (variables z) (calls y) (calls z) rest), as_it_stands z (right (variables y) (variables z) (calls y) (calls z) rest))
    as_it_stands (call f ts) h = (h.1.0, as_each_stands ts (h.0, h.1.1))
    as_it_stands (negation x) h = as_it_stands x h
    as_it_stands (all ts) h = as_each_stands ts h
    as_it_stands (some ts) h = as_each_stands ts h
    as_it_stands (equal x y) h = (as_it_stands x (left (variables x) (variables y) (calls x) (calls y) h), as_it_stands y (right (variables x) (variables y) (calls x) (calls y) h))
    as_it_stands (at_most x y) h = (as_it_stands x (left (variables x) (variables y) (calls x) (calls y) h), as_it_stands y (right (variables x) (variables y) (calls x) (calls y) h))
    as_it_stands (for_all ss ps t) h = (as_patterns_stand ps (left (variables_of_patterns ps) (variables t) (calls_of_patterns ps) (calls t) h), as_it_stands t (right (variables_of_patterns ps) (variables t) (calls_of_patterns ps) (calls t) h))
    as_it_stands (exists ss ps t) h = (as_patterns_stand ps (left (variables_of_patterns ps) (variables t) (calls_of_patterns ps) (calls t) h), as_it_stands t (right (variables_of_patterns ps) (variables t) (calls_of_patterns ps) (calls t) h))

    pub as_each_stands : (ts : Trees) → Have (variables_of_each ts) (calls_of_each ts) → EachInTrees V C ts
    as_each_stands no_trees h = tt
    as_each_stands (tree t ts) h = (as_it_stands t (left (variables t) (variables_of_each ts) (calls t) (calls_of_each ts) h), as_each_stands ts (right (variables t) (variables_of_each ts) (calls t) (calls_of_each ts) h))

    as_parts_stand : (ps : Parts) → Have (variables_of_parts ps) (calls_of_parts ps) → EachInParts V C ps
    as_parts_stand no_parts h = tt
    as_parts_stand (part k t ps) h = (as_it_stands t (left (variables t) (variables_of_parts ps) (calls t) (calls_of_parts ps) h), as_parts_stand ps (right (variables t) (variables_of_parts ps) (calls t) (calls_of_parts ps) h))

    as_patterns_stand : (ps : Patterns) → Have (variables_of_patterns ps) (calls_of_patterns ps) → EachInPatterns V C ps
    as_patterns_stand no_patterns h = tt
    as_patterns_stand (pattern ts ps) h = (as_each_stands ts (left (variables_of_each ts) (variables_of_patterns ps) (calls_of_each ts) (calls_of_patterns ps) h), as_patterns_stand ps (right (variables_of_each ts) (variables_of_patterns ps) (calls_of_each ts) (calls_of_patterns ps) h))

-- what everything has
abbrev pub Any : ℕ → Type 0
Any n = Unit {0}

of_any : (ns : List ℕ) → AllByRecursion Any ns
of_any [] = tt
of_any (n ∷ ns) = (tt, of_any ns)

pub variables_stand : (V : ℕ → Type 0) (t : Tree) → AllByRecursion V (variables t) → EachHas V Any t
variables_stand V t h = as_it_stands V Any t (h, of_any (calls t))

pub all_stand : (t : Tree) → EachHas Any Any t
all_stand t = variables_stand Any t (of_any (variables t))

-- new numbers that agree on what has V and C
module _ (defs vars defs' vars' : ℕ → ℕ) (V C : ℕ → Type 0) (same_var : (v : ℕ) → V v → vars v ≡ vars' v) (same_def : (f : ℕ) → C f → defs f ≡ defs' f) where
  mutual
    pub agree : (t : Tree) → EachHas V C t → both_renamed defs vars t ≡ both_renamed defs' vars' t
    agree (num n) h = refl
    agree (truth x) h = refl
    agree (free v) h = λ i. free (same_var v h i)
    agree (bound v) h = refl
    agree (linear ps c) h = λ i. linear (agree_parts ps h i) c
    agree (mul x y) h = λ i. mul (agree x h.0 i) (agree y h.1 i)
    agree (read x y) h = λ i. read (agree x h.0 i) (agree y h.1 i)
    agree (write x y z) h = λ i. write (agree x h.0 i) (agree y h.1 i) (agree z h.2 i)
    agree (choose x y z) h = λ i. choose (agree x h.0 i) (agree y h.1 i) (agree z h.2 i)
    agree (call f ts) h = λ i. call (same_def f h.0 i) (agree_each ts h.1 i)
    agree (negation x) h = λ i. negation (agree x h i)
    agree (all ts) h = λ i. all (agree_each ts h i)
    agree (some ts) h = λ i. some (agree_each ts h i)
    agree (equal x y) h = λ i. equal (agree x h.0 i) (agree y h.1 i)
    agree (at_most x y) h = λ i. at_most (agree x h.0 i) (agree y h.1 i)
    agree (for_all ss ps t) h = λ i. for_all ss (agree_patterns ps h.0 i) (agree t h.1 i)
    agree (exists ss ps t) h = λ i. exists ss (agree_patterns ps h.0 i) (agree t h.1 i)

    agree_each : (ts : Trees) → EachInTrees V C ts → each_both_renamed defs vars ts ≡ each_both_renamed defs' vars' ts
    agree_each no_trees h = refl
    agree_each (tree t ts) h = λ i. tree (agree t h.0 i) (agree_each ts h.1 i)

    agree_parts : (ps : Parts) → EachInParts V C ps → parts_both_renamed defs vars ps ≡ parts_both_renamed defs' vars' ps
    agree_parts no_parts h = refl
    agree_parts (part k t ps) h = λ i. part k (agree t h.0 i) (agree_parts ps h.1 i)

    agree_patterns : (ps : Patterns) → EachInPatterns V C ps → patterns_both_renamed defs vars ps ≡ patterns_both_renamed defs' vars' ps
    agree_patterns no_patterns h = refl
    agree_patterns (pattern ts ps) h = λ i. pattern (agree_each ts h.0 i) (agree_patterns ps h.1 i)

-- renamings of variables that agree on the term's variables
pub variables_agree : (f g : ℕ → ℕ) (t : Tree) → AllByRecursion (λ v. f v ≡ g v) (variables t) → renamed f t ≡ renamed g t
variables_agree f g t h = agree (λ k. k) f (λ k. k) g (λ v. f v ≡ g v) (λ k. Unit {0}) (λ v e. e) (λ k u. refl) t (variables_stand (λ v. f v ≡ g v) t h)
