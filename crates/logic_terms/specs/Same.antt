-- The same sort and the same term, as tests.
use Rattle.std.specs.Prelude.{nat_eq, Bool, true, false, ◌&&◌, Option, Some, None, List, [], ◌∷◌}
use Rattle.std.specs.Ordering.{int_eq}
use Rattle.logic_terms.specs.Tree.{Kind, int, boolean, map, Tree, num, truth, free, bound, linear, mul, read, write, choose, call, negation, all, some, equal, at_most, for_all, exists, Trees, no_trees, tree, Parts, no_parts, part, Patterns, no_patterns, pattern}
use Rattle.logic_terms.specs.Variant.{rank, as_number, as_flag, as_index, as_sum, as_one, as_two, as_three, as_many, as_quantified}
use Rattle.logic_terms.specs.Value.{bool_eq}

abbrev pub same_kind : Kind → Kind → Bool
same_kind int int = true
same_kind boolean boolean = true
same_kind (map j) (map k) = same_kind j k
same_kind j k = false

abbrev pub same_kinds : List Kind → List Kind → Bool
same_kinds [] [] = true
same_kinds (j ∷ js) (k ∷ ks) = same_kind j k && same_kinds js ks
same_kinds js ks = false

-- what a test says of a part, and false where there is none
abbrev pub is_some_and : {A : Type 0} → Option A → (A → Bool) → Bool
is_some_and None f = false
is_some_and (Some a) f = f a

-- of one variant, and with the same parts
abbrev mutual
  pub same_term : Tree → Tree → Bool
  same_term (num n) y = nat_eq (rank y) 0 && int_eq n (as_number y)
  same_term (truth b) y = nat_eq (rank y) 1 && bool_eq b (as_flag y)
  same_term (free v) y = nat_eq (rank y) 2 && nat_eq v (as_index y)
  same_term (bound v) y = nat_eq (rank y) 3 && nat_eq v (as_index y)
  same_term (linear ps c) y = is_some_and (as_sum y) (λ p. same_parts ps p.0 && int_eq c p.1)
  same_term (mul a b) y = nat_eq (rank y) 5 && is_some_and (as_two y) (λ p. same_term a p.0 && same_term b p.1)
  same_term (read a b) y = nat_eq (rank y) 6 && is_some_and (as_two y) (λ p. same_term a p.0 && same_term b p.1)
  same_term (write a b c) y = nat_eq (rank y) 7 && is_some_and (as_three y) (λ p. same_term a p.0 && (same_term b p.1 && same_term c p.2))
  same_term (choose a b c) y = nat_eq (rank y) 8 && is_some_and (as_three y) (λ p. same_term a p.0 && (same_term b p.1 && same_term c p.2))
  same_term (call f ts) y = nat_eq (rank y) 9 && (nat_eq f (as_index y) && is_some_and (as_many y) (λ us. same_trees ts us))
  same_term (negation a) y = is_some_and (as_one y) (λ b. same_term a b)
  same_term (all ts) y = nat_eq (rank y) 11 && is_some_and (as_many y) (λ us. same_trees ts us)
  same_term (some ts) y = nat_eq (rank y) 12 && is_some_and (as_many y) (λ us. same_trees ts us)
  same_term (equal a b) y = nat_eq (rank y) 13 && is_some_and (as_two y) (λ p. same_term a p.0 && same_term b p.1)
  same_term (at_most a b) y = nat_eq (rank y) 14 && is_some_and (as_two y) (λ p. same_term a p.0 && same_term b p.1)
  same_term (for_all ss ps a) y = nat_eq (rank y) 15 && is_some_and (as_quantified y) (λ q. same_kinds ss q.0 && (same_patterns ps q.1 && same_term a q.2))
  same_term (exists ss ps a) y = nat_eq (rank y) 16 && is_some_and (as_quantified y) (λ q. same_kinds ss q.0 && (same_patterns ps q.1 && same_term a q.2))

  pub same_trees : Trees → Trees → Bool
  same_trees no_trees no_trees = true
  same_trees (tree t ts) (tree u us) = same_term t u && same_trees ts us
  same_trees no_trees (tree u us) = false
  same_trees (tree t ts) no_trees = false

  pub same_parts : Parts → Parts → Bool
  same_parts no_parts no_parts = true
  same_parts (part k t ps) (part l u qs) = int_eq k l && (same_term t u && same_parts ps qs)
  same_parts no_parts (part l u qs) = false
  same_parts (part k t ps) no_parts = false

  pub same_patterns : Patterns → Patterns → Bool
  same_patterns no_patterns no_patterns = true
  same_patterns (pattern ts ps) (pattern us qs) = same_trees ts us && same_patterns ps qs
  same_patterns no_patterns (pattern us qs) = false
  same_patterns (pattern ts ps) no_patterns = false
