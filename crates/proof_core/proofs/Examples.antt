-- Verdicts on proofs, by computing: of each rule what it accepts, and forged proofs that it refuses. Facts are numbered: the axioms from 0, then the goal's negation, then what steps append.
use Rattle.std.proofs.Common.{◌≡◌, refl, true, false, List, [], ◌∷◌}
use Rattle.std.specs.Prelude.{ℕ, Result, Ok, Err, pos, negsuc}
use Rattle.logic_core.specs.Tree.{int, boolean, map, Tree, num, truth, free, bound, linear, read, write, choose, call, negation, all, some, equal, at_most, for_all, exists, no_trees, tree, no_parts, part, no_patterns}
use Rattle.logic_core.specs.Order.{first}
use Rattle.logic_core.proofs.Samples.{incremented}
use Rattle.proof_core.specs.Proof.{Step, by_split, by_instantiate, by_skolem, by_replace, by_unfold, by_back, by_differ, by_combine, by_tighten, Proof, proof, by_close, by_cases, by_condition, by_past, by_trichotomy, no_proofs, one_proof}
use Rattle.proof_core.specs.Rule as rule
use Rattle.proof_core.specs.Verdict.{Refused, refused, verdict}

-- `assume x > 0; x := x + 1; assert x > 1;`: unfold the goal, split the And, put x + 1 for the new x, and close
accepts_increments : verdict incremented (proof (by_unfold 0 (call 0 no_trees) ∷ by_split 1 ∷ by_replace 4 3 (free 1) ∷ []) (by_close 2 5)) ≡ Ok 5
unfolding first
accepts_increments = refl

-- two integers, two formulas and two maps
abbrev x : Tree
x = free 0

abbrev y : Tree
y = free 1

abbrev p : Tree
p = free 2

abbrev q : Tree
q = free 3

abbrev m : Tree
m = free 4

abbrev n : Tree
n = free 5

-- the verdict on a proof of the goal from the axioms, over the identity and the successor of integers
abbrev said : List Tree → Tree → Proof → Result ℕ Refused
said axioms goal r = verdict (record {
  vars = int ∷ int ∷ boolean ∷ boolean ∷ map int ∷ map int ∷ [];
  defs = record { params = int ∷ []; sort = int; logical = false; body = bound 0 } ∷ record { params = int ∷ []; sort = int; logical = false; body = linear (part (pos 1) (bound 0) no_parts) (pos 1) } ∷ [];
  axioms = axioms;
  goal = goal;
}) r

-- a close without steps before it
abbrev closed : ℕ → ℕ → Proof
closed f g = proof [] (by_close f g)

-- close: a fact and its negation, or a false fact alone
closes : said (p ∷ []) p (closed 0 1) ≡ Ok 2
unfolding first
closes = refl

closes_by_false : said (truth false ∷ []) p (closed 0 0) ≡ Ok 2
unfolding first
closes_by_false = refl

refuses_one_fact : said (p ∷ []) p (closed 0 0) ≡ refused 1 rule.close
unfolding first
refuses_one_fact = refl

refuses_false_beside_another : said (truth false ∷ []) p (closed 0 1) ≡ refused 1 rule.close
unfolding first
refuses_false_beside_another = refl

refuses_unknown_fact : said (p ∷ []) p (closed 0 18446744073709551615) ≡ refused 1 rule.close
unfolding first
refuses_unknown_fact = refl

-- split: a conjunction, and a disjunction or an equivalence into cases
splits : said (all (tree p (tree q no_trees)) ∷ []) q (proof (by_split 0 ∷ []) (by_close 3 1)) ≡ Ok 3
unfolding first
splits = refl

refuses_no_conjunction : said (all (tree p (tree q no_trees)) ∷ []) q (proof (by_split 1 ∷ []) (by_close 3 1)) ≡ refused 1 rule.split
unfolding first
refuses_no_conjunction = refl

splits_into_cases : said (some (tree p (tree q no_trees)) ∷ negation p ∷ []) q (proof [] (by_cases 0 (closed 3 1) (one_proof (closed 3 2) no_proofs))) ≡ Ok 4
unfolding first
splits_into_cases = refl

refuses_too_few_cases : said (some (tree p (tree q no_trees)) ∷ negation p ∷ []) q (proof [] (by_cases 0 (closed 3 1) no_proofs)) ≡ refused 1 rule.split
unfolding first
refuses_too_few_cases = refl

splits_an_equivalence : said (equal p q ∷ p ∷ []) q (proof [] (by_cases 0 (proof (by_split 3 ∷ []) (by_close 5 2)) (one_proof (proof (by_split 3 ∷ []) (by_close 1 4)) no_proofs))) ≡ Ok 6
unfolding first
splits_an_equivalence = refl

refuses_equal_maps : said (equal m n ∷ p ∷ []) q (proof [] (by_cases 0 (proof (by_split 3 ∷ []) (by_close 5 2)) (one_proof (proof (by_split 3 ∷ []) (by_close 1 4)) no_proofs))) ≡ refused 1 rule.split
unfolding first
refuses_equal_maps = refl

splits_by_a_condition : said (equal (choose p x y) (num (pos 0)) ∷ p ∷ []) (equal x (num (pos 0))) (proof [] (by_condition 0 (choose p x y) (closed 4 2) (closed 1 3))) ≡ Ok 4
unfolding first
splits_by_a_condition = refl

refuses_another_choice : said (equal (choose p y x) (num (pos 0)) ∷ p ∷ []) (equal x (num (pos 0))) (proof [] (by_condition 0 (choose p x y) (closed 4 2) (closed 1 3))) ≡ refused 1 rule.split
unfolding first
refuses_another_choice = refl

-- instantiate: with closed terms of the binder's sorts that are there
instantiates : said (for_all (int ∷ []) no_patterns (at_most (num (pos 0)) (bound 0)) ∷ []) (at_most (num (pos 0)) x) (proof (by_instantiate 0 (x ∷ []) ∷ []) (by_close 2 1)) ≡ Ok 3
unfolding first
instantiates = refl

refuses_open_term : said (for_all (int ∷ []) no_patterns (at_most (num (pos 0)) (bound 0)) ∷ []) (truth false) (proof (by_instantiate 0 (bound 0 ∷ []) ∷ []) (by_close 2 2)) ≡ refused 1 rule.instantiate
unfolding first
refuses_open_term = refl

refuses_another_sort : said (for_all (int ∷ []) no_patterns (at_most (num (pos 0)) (bound 0)) ∷ []) (truth false) (proof (by_instantiate 0 (p ∷ []) ∷ []) (by_close 2 2)) ≡ refused 1 rule.instantiate
unfolding first
refuses_another_sort = refl

refuses_unknown_variable : said (for_all (int ∷ []) no_patterns (at_most (num (pos 0)) (bound 0)) ∷ []) (truth false) (proof (by_instantiate 0 (free 6 ∷ []) ∷ []) (by_close 2 2)) ≡ refused 1 rule.instantiate
unfolding first
refuses_unknown_variable = refl

refuses_too_few_terms : said (for_all (int ∷ []) no_patterns (at_most (num (pos 0)) (bound 0)) ∷ []) (truth false) (proof (by_instantiate 0 [] ∷ []) (by_close 2 2)) ≡ refused 1 rule.instantiate
unfolding first
refuses_too_few_terms = refl

-- skolem: each witness is a variable of its own
names_a_witness : said (exists (int ∷ []) no_patterns (equal (read m (bound 0)) (num (pos 1))) ∷ for_all (int ∷ []) no_patterns (negation (equal (read m (bound 0)) (num (pos 1)))) ∷ []) (truth false) (proof (by_skolem 0 ∷ by_instantiate 1 (free 6 ∷ []) ∷ []) (by_close 3 4)) ≡ Ok 4
unfolding first
names_a_witness = refl

refuses_no_existential : said (exists (int ∷ []) no_patterns (equal (read m (bound 0)) (num (pos 1))) ∷ for_all (int ∷ []) no_patterns (negation (equal (read m (bound 0)) (num (pos 1)))) ∷ []) (truth false) (proof (by_skolem 1 ∷ []) (by_close 3 3)) ≡ refused 1 rule.skolem
unfolding first
refuses_no_existential = refl

refuses_one_witness_for_two : said (exists (int ∷ []) no_patterns (equal (bound 0) (num (pos 0))) ∷ exists (int ∷ []) no_patterns (negation (equal (bound 0) (num (pos 0)))) ∷ []) (truth false) (proof (by_skolem 0 ∷ by_skolem 1 ∷ []) (by_close 3 4)) ≡ refused 3 rule.close
unfolding first
refuses_one_witness_for_two = refl

-- replace: what a fact says that a term is, by a coefficient of 1 or -1, by a side, or by a truth value
replaces_an_atom : said (equal y (linear (part (pos 1) x no_parts) (pos 1)) ∷ at_most y x ∷ []) (truth false) (proof (by_replace 1 0 x ∷ []) (by_close 3 3)) ≡ Ok 3
unfolding first
replaces_an_atom = refl

replaces_a_side : said (equal m n ∷ negation (equal (read m x) (read n x)) ∷ []) (truth false) (proof (by_replace 1 0 m ∷ []) (by_close 3 3)) ≡ Ok 3
unfolding first
replaces_a_side = refl

replaces_a_formula : said (negation p ∷ p ∷ []) (truth false) (proof (by_replace 1 0 p ∷ []) (by_close 3 3)) ≡ Ok 3
unfolding first
replaces_a_formula = refl

refuses_a_coefficient_of_two : said (equal (linear (part (pos 2) x no_parts) (pos 1)) (num (pos 0)) ∷ at_most (num (pos 1)) x ∷ []) (truth false) (proof (by_replace 1 0 x ∷ []) (by_close 3 3)) ≡ refused 1 rule.replace
unfolding first
refuses_a_coefficient_of_two = refl

-- unfold: a call that stands in the fact
unfolds : said (equal (call 1 (tree x no_trees)) (num (pos 0)) ∷ []) (equal x (num (negsuc 0))) (proof (by_unfold 0 (call 1 (tree x no_trees)) ∷ []) (by_close 2 1)) ≡ Ok 3
unfolding first
unfolds = refl

refuses_another_call : said (equal (call 1 (tree x no_trees)) (num (pos 0)) ∷ []) (equal x (num (negsuc 0))) (proof (by_unfold 0 (call 0 (tree x no_trees)) ∷ []) (by_close 2 1)) ≡ refused 1 rule.«unfold»
unfolding first
refuses_another_call = refl

-- back: a read at the index that was written, or at another by a number
reads_what_was_written : said (equal (read (write m (num (pos 1)) x) (num (pos 1))) (num (pos 0)) ∷ []) (equal x (num (pos 0))) (proof (by_back 0 (read (write m (num (pos 1)) x) (num (pos 1))) ∷ []) (by_close 2 1)) ≡ Ok 3
unfolding first
reads_what_was_written = refl

reads_what_was_before : said (equal (read (write m (num (pos 1)) x) (num (pos 2))) (num (pos 0)) ∷ []) (equal (read m (num (pos 2))) (num (pos 0))) (proof (by_back 0 (read (write m (num (pos 1)) x) (num (pos 2))) ∷ []) (by_close 2 1)) ≡ Ok 3
unfolding first
reads_what_was_before = refl

refuses_an_unknown_distance : said (equal (read (write m y x) (num (pos 1))) (num (pos 0)) ∷ []) (equal x (num (pos 0))) (proof (by_back 0 (read (write m y x) (num (pos 1))) ∷ []) (by_close 2 1)) ≡ refused 1 rule.back
unfolding first
refuses_an_unknown_distance = refl

-- past: below, at and above the index that was written
reads_past_a_write : said (equal (read m x) (num (pos 1)) ∷ []) (equal (read (write m y (num (pos 1))) x) (num (pos 1))) (proof [] (by_past (read (write m y (num (pos 1))) x) (proof (by_replace 1 3 (read (write m y (num (pos 1))) x) ∷ []) (by_close 0 4)) (closed 3 1) (proof (by_replace 1 3 (read (write m y (num (pos 1))) x) ∷ []) (by_close 0 4)))) ≡ Ok 7
unfolding first
reads_past_a_write = refl

refuses_no_write : said (truth false ∷ []) p (proof [] (by_past (read m x) (closed 0 0) (closed 0 0) (closed 0 0))) ≡ refused 1 rule.past
unfolding first
refuses_no_write = refl

-- differ: unequal maps
differs : said (negation (equal m n) ∷ for_all (int ∷ []) no_patterns (equal (read m (bound 0)) (read n (bound 0))) ∷ []) (truth false) (proof (by_differ 0 ∷ by_instantiate 1 (free 6 ∷ []) ∷ []) (by_close 4 3)) ≡ Ok 4
unfolding first
differs = refl

refuses_unequal_numbers : said (negation (equal x y) ∷ []) (truth false) (proof (by_differ 0 ∷ []) (by_close 2 2)) ≡ refused 1 rule.differ
unfolding first
refuses_unequal_numbers = refl

-- combine: an inequality by a positive number, an equation by any but zero
combines : said (at_most (num (pos 1)) (linear (part (pos 2) x no_parts) (pos 0)) ∷ equal x (num (pos 0)) ∷ []) (truth false) (proof (by_combine 0 (pos 1) 1 (negsuc 1) ∷ []) (by_close 3 3)) ≡ Ok 3
unfolding first
combines = refl

refuses_a_negative_multiplier : said (at_most (num (pos 0)) x ∷ at_most (num (pos 1)) x ∷ []) (truth false) (proof (by_combine 0 (negsuc 0) 1 (pos 1) ∷ []) (by_close 3 3)) ≡ refused 1 rule.combine
unfolding first
refuses_a_negative_multiplier = refl

refuses_zero_for_a_multiplier : said (at_most (num (pos 0)) x ∷ at_most (num (pos 1)) x ∷ []) (truth false) (proof (by_combine 0 (pos 1) 1 (pos 0) ∷ []) (by_close 3 3)) ≡ refused 1 rule.combine
unfolding first
refuses_zero_for_a_multiplier = refl

-- tighten: a linear fact
tightens : said (at_most (num (pos 1)) (linear (part (pos 2) x no_parts) (pos 0)) ∷ []) (at_most (num (pos 1)) x) (proof (by_tighten 0 ∷ []) (by_close 2 1)) ≡ Ok 3
unfolding first
tightens = refl

refuses_what_isnt_implied : said (at_most (num (pos 1)) (linear (part (pos 2) x no_parts) (pos 0)) ∷ []) (at_most (num (pos 0)) x) (proof (by_tighten 0 ∷ []) (by_close 2 1)) ≡ refused 2 rule.close
unfolding first
refuses_what_isnt_implied = refl

refuses_unknown_fact_to_tighten : said (at_most (num (pos 1)) (linear (part (pos 2) x no_parts) (pos 0)) ∷ []) (at_most (num (pos 1)) x) (proof (by_tighten 2 ∷ []) (by_close 2 1)) ≡ refused 1 rule.tighten
unfolding first
refuses_unknown_fact_to_tighten = refl

-- trichotomy: a number is below, at or above zero
compares : said (negation (equal x (num (pos 0))) ∷ at_most (num (pos 0)) x ∷ []) (at_most (num (pos 1)) x) (proof [] (by_trichotomy x (closed 1 3) (closed 3 0) (closed 3 2))) ≡ Ok 5
unfolding first
compares = refl

refuses_no_number : said (truth false ∷ []) p (proof [] (by_trichotomy p (closed 0 0) (closed 0 0) (closed 0 0))) ≡ refused 1 rule.trichotomy
unfolding first
refuses_no_number = refl

-- a child knows nothing of another child's facts, and its nodes are numbered behind it
refuses_facts_of_another_child : said (some (tree p (tree q no_trees)) ∷ negation p ∷ []) q (proof [] (by_cases 0 (proof (by_tighten 2 ∷ []) (by_close 3 1)) (one_proof (closed 3 4) no_proofs))) ≡ refused 4 rule.close
unfolding first
refuses_facts_of_another_child = refl

-- facts at the start that leave 128 bits
refuses_wide_axiom : said (at_most (num (negsuc 170141183460469231731687303715884105727)) (num (negsuc 170141183460469231731687303715884105727)) ∷ []) (truth false) (proof (by_tighten 0 ∷ []) (by_close 0 1)) ≡ refused 1 rule.tighten
unfolding first
refuses_wide_axiom = refl
