-- What all variables of a term have, those of each term in it have.
use Rattle.std.proofs.Common.{◌≡◌, refl, sym, subst, ℕ, Bool, true, false, ◌||◌, List, ◌++◌}
use Rattle.std.specs.List.{AllByRecursion}
use Rattle.logic_core.specs.Tree.{Tree, num, truth, free, bound, linear, mul, read, write, choose, call, negation, all, some, equal, at_most, for_all, exists, Trees, no_trees, tree, Parts, no_parts, part, Patterns, no_patterns, pattern}
use Rattle.logic_core.specs.Same.{same_term}
use Rattle.logic_core.specs.Subterm.{has_any, has_part, has_pattern, occurs}
use Rattle.logic_core.specs.Variables.{variables, variables_of_each, variables_of_parts, variables_of_patterns}
use Rattle.logic_core.proofs.SameTerm.{same_is_equal}
use Rattle.logic_core.proofs.Mentioned.{all_left, all_right}

-- a part of two, of which one has the term
pub either : {X R : Type 0} (P : X → Type 0) (b c : Bool) (xs ys : List X) → (b ≡ true → AllByRecursion P xs → R) → (c ≡ true → AllByRecursion P ys → R) → (b || c) ≡ true → AllByRecursion P (xs ++ ys) → R
either P true c xs ys f g h have = f refl (all_left P xs ys have)
either P false c xs ys f g h have = g h (all_right P xs ys have)

module _ (P : ℕ → Type 0) (l : Tree) where
  abbrev Have : Tree → Type 0
  Have t = AllByRecursion P (variables t)

  -- the term itself, or one in it
  itself : (t : Tree) (b : Bool) → (b ≡ true → Have t → Have l) → (same_term l t || b) ≡ true → Have t → Have l
  itself t b rest h have = by_test (same_term l t) refl h
    where
      by_test : (c : Bool) → same_term l t ≡ c → (c || b) ≡ true → Have l
      by_test true e g = subst (λ u. Have u) (sym (same_is_equal l t e)) have
      by_test false e g = rest g have

  alone : (t : Tree) → same_term l t ≡ true → Have t → Have l
  alone t h have = subst (λ u. Have u) (sym (same_is_equal l t h)) have

  mutual
    pub held : (t : Tree) → occurs l t ≡ true → Have t → Have l
    held (num n) h have = alone (num n) h have
    held (truth x) h have = alone (truth x) h have
    held (free v) h have = alone (free v) h have
    held (bound v) h have = alone (bound v) h have
    held (linear ps c) h have = itself (linear ps c) (has_part (same_term l) ps) (λ g a. held_part ps g a) h have
    held (mul x y) h have = itself (mul x y) (occurs l x || occurs l y) (λ g a. either P (occurs l x) (occurs l y) (variables x) (variables y) (λ k b. held x k b) (λ k b. held y k b) g a) h have
    held (read x y) h have = itself (read x y) (occurs l x || occurs l y) (λ g a. either P (occurs l x) (occurs l y) (variables x) (variables y) (λ k b. held x k b) (λ k b. held y k b) g a) h have
    held (write x y z) h have = itself (write x y z) (occurs l x || (occurs l y || occurs l z)) (λ g a. either P (occurs l x) (occurs l y || occurs l z) (variables x) (variables y ++ variables z) (λ k b. held x k b)
        (λ k b. either P (occurs l y) (occurs l z) (variables y) (variables z) (λ m d. held y m d) (λ m d. held z m d) k b) g a) h have
    held (choose x y z) h have = itself (choose x y z) (occurs l x || (occurs l y || occurs l z)) (λ g a. either P (occurs l x) (occurs l y || occurs l z) (variables x) (variables y ++ variables z) (λ k b. held x k b)
        (λ k b. either P (occurs l y) (occurs l z) (variables y) (variables z) (λ m d. held y m d) (λ m d. held z m d) k b) g a) h have
    held (call f ts) h have = itself (call f ts) (has_any (same_term l) ts) (λ g a. held_any ts g a) h have
    held (negation x) h have = itself (negation x) (occurs l x) (λ g a. held x g a) h have
    held (all ts) h have = itself (all ts) (has_any (same_term l) ts) (λ g a. held_any ts g a) h have
    held (some ts) h have = itself (some ts) (has_any (same_term l) ts) (λ g a. held_any ts g a) h have
    held (equal x y) h have = itself (equal x y) (occurs l x || occurs l y) (λ g a. either P (occurs l x) (occurs l y) (variables x) (variables y) (λ k b. held x k b) (λ k b. held y k b) g a) h have
    held (at_most x y) h have = itself (at_most x y) (occurs l x || occurs l y) (λ g a. either P (occurs l x) (occurs l y) (variables x) (variables y) (λ k b. held x k b) (λ k b. held y k b) g a) h have
    held (for_all ss ps t) h have = itself (for_all ss ps t) (has_pattern (same_term l) ps || occurs l t)
        (λ g a. either P (has_pattern (same_term l) ps) (occurs l t) (variables_of_patterns ps) (variables t) (λ k b. held_pattern ps k b) (λ k b. held t k b) g a) h have
    held (exists ss ps t) h have = itself (exists ss ps t) (has_pattern (same_term l) ps || occurs l t)
        (λ g a. either P (has_pattern (same_term l) ps) (occurs l t) (variables_of_patterns ps) (variables t) (λ k b. held_pattern ps k b) (λ k b. held t k b) g a) h have

    held_any : (ts : Trees) → has_any (same_term l) ts ≡ true → AllByRecursion P (variables_of_each ts) → Have l
    held_any no_trees h have = absurd (cc)
    held_any (tree t ts) h have = either P (occurs l t) (has_any (same_term l) ts) (variables t) (variables_of_each ts) (λ k b. held t k b) (λ k b. held_any ts k b) h have

    held_part : (ps : Parts) → has_part (same_term l) ps ≡ true → AllByRecursion P (variables_of_parts ps) → Have l
    held_part no_parts h have = absurd (cc)
    held_part (part k t ps) h have = either P (occurs l t) (has_part (same_term l) ps) (variables t) (variables_of_parts ps) (λ m b. held t m b) (λ m b. held_part ps m b) h have

    held_pattern : (ps : Patterns) → has_pattern (same_term l) ps ≡ true → AllByRecursion P (variables_of_patterns ps) → Have l
    held_pattern no_patterns h have = absurd (cc)
    held_pattern (pattern ts ps) h have = either P (has_any (same_term l) ts) (has_pattern (same_term l) ps) (variables_of_each ts) (variables_of_patterns ps) (λ k b. held_any ts k b) (λ k b. held_pattern ps k b) h have
