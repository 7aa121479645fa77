-- Pairs, places and instances that rules pass over, and facts that other facts say: obligations with the answer computed.
use Rattle.std.specs.Prelude.{◌≡◌, refl, pos, negsuc, true, false, Some, None, [], ◌∷◌}
use Rattle.logic_core.specs.Tree.{int, boolean, map, num, truth, free, bound, linear, mul, read, call, negation, some, equal, at_most, for_all, no_trees, tree, no_parts, part, no_patterns, pattern}
use Rattle.logic_core.specs.Def.{Obligation}
use Rattle.logic_core.specs.Order.{first}
use Rattle.proof_core.specs.Proof.{Proof, proof, by_split, by_instantiate, by_replace, by_unfold, by_close, by_cases, by_trichotomy, no_proofs, one_proof}
use Rattle.tableau.specs.Search.{answer, step, proved, «open», turns}

-- a split of an Eq of Bool: (u 0 (f0)) (s 1) (s 2 [(s 5) (c 4 7)] [(s 5) (c 3 6)])
abbrev equal_formulas : Obligation
equal_formulas = record { vars = (int ∷ int ∷ []); defs = (record { params = []; sort = boolean; logical = true; body = (some (tree (negation (equal (at_most (num (pos 0)) (free 0)) (at_most (num (pos 0)) (free 1)))) (tree (negation (at_most (num (pos 0)) (free 0))) (tree (at_most (num (pos 0)) (free 1)) no_trees)))) } ∷ []); axioms = []; goal = (call 0 no_trees) }

abbrev equal_formulas_proof : Proof
equal_formulas_proof = proof (by_unfold 0 (call 0 no_trees) ∷ by_split 1 ∷ []) (by_cases 2 (proof (by_split 5 ∷ []) (by_close 4 7)) (one_proof (proof (by_split 5 ∷ []) (by_close 3 6)) no_proofs))

equal_formulas_answer : answer equal_formulas 100 ≡ record { verdict = proved; found = Some equal_formulas_proof }
unfolding first step answer
equal_formulas_answer = refl

equal_formulas_enough : answer equal_formulas 7 ≡ record { verdict = proved; found = Some equal_formulas_proof }
unfolding first step answer
equal_formulas_enough = refl

equal_formulas_short : answer equal_formulas 6 ≡ record { verdict = turns; found = None }
unfolding first step answer
equal_formulas_short = refl

-- combine passes over a pair whose sum is true
abbrev sum_is_true : Obligation
sum_is_true = record { vars = (int ∷ []); defs = []; axioms = ((at_most (num (pos 0)) (free 0)) ∷ (at_most (free 0) (num (pos 5))) ∷ []); goal = (truth false) }

sum_is_true_answer : answer sum_is_true 100 ≡ record { verdict = «open»; found = None }
unfolding first step answer
sum_is_true_answer = refl

-- combine passes over a pair whose sum has the parts of a fact with no greater constant
abbrev sum_is_known : Obligation
sum_is_known = record { vars = (int ∷ int ∷ []); defs = []; axioms = ((at_most (free 0) (free 1)) ∷ (at_most (num (pos 0)) (free 0)) ∷ (at_most (num (pos 0)) (free 1)) ∷ []); goal = (truth false) }

sum_is_known_answer : answer sum_is_known 100 ≡ record { verdict = «open»; found = None }
unfolding first step answer
sum_is_known_answer = refl

-- trichotomy is passed over where one of its three facts is there
abbrev above_is_there : Obligation
above_is_there = record { vars = (int ∷ []); defs = []; axioms = ((negation (equal (free 0) (num (pos 0)))) ∷ (at_most (num (pos 1)) (free 0)) ∷ []); goal = (truth false) }

above_is_there_answer : answer above_is_there 100 ≡ record { verdict = «open»; found = None }
unfolding first step answer
above_is_there_answer = refl

-- trichotomy of a fact Le(0, d) beside Le(0, -d)
abbrev pair_of_opposites : Obligation
pair_of_opposites = record { vars = (int ∷ int ∷ []); defs = []; axioms = ((at_most (free 0) (free 1)) ∷ (at_most (free 1) (free 0)) ∷ (negation (equal (free 0) (free 1))) ∷ []); goal = (truth false) }

abbrev pair_of_opposites_proof : Proof
pair_of_opposites_proof = proof [] (by_trichotomy (linear (part (pos 1) (free 1) (part (negsuc 0) (free 0) no_parts)) (pos 0)) (proof [] (by_close 0 4)) (proof [] (by_close 2 4)) (proof [] (by_close 1 4)))

pair_of_opposites_answer : answer pair_of_opposites 100 ≡ record { verdict = proved; found = Some pair_of_opposites_proof }
unfolding first step answer
pair_of_opposites_answer = refl

pair_of_opposites_enough : answer pair_of_opposites 4 ≡ record { verdict = proved; found = Some pair_of_opposites_proof }
unfolding first step answer
pair_of_opposites_enough = refl

pair_of_opposites_short : answer pair_of_opposites 3 ≡ record { verdict = turns; found = None }
unfolding first step answer
pair_of_opposites_short = refl

-- an instance that is there costs a turn and makes its mark
abbrev instance_is_there : Obligation
instance_is_there = record { vars = ((map int) ∷ []); defs = []; axioms = ((for_all (int ∷ []) (pattern (tree (read (free 0) (bound 0)) no_trees) no_patterns) (at_most (num (pos 0)) (read (free 0) (bound 0)))) ∷ (at_most (num (pos 0)) (read (free 0) (num (pos 1)))) ∷ []); goal = (truth false) }

instance_is_there_answer : answer instance_is_there 100 ≡ record { verdict = «open»; found = None }
unfolding first step answer
instance_is_there_answer = refl

instance_is_there_enough : answer instance_is_there 1 ≡ record { verdict = «open»; found = None }
unfolding first step answer
instance_is_there_enough = refl

instance_is_there_short : answer instance_is_there 0 ≡ record { verdict = turns; found = None }
unfolding first step answer
instance_is_there_short = refl

-- an unfolded Call of a plain function is a ground term
abbrev seen_call : Obligation
seen_call = record { vars = (int ∷ []); defs = (record { params = (int ∷ []); sort = int; logical = false; body = (linear (part (pos 1) (bound 0) no_parts) (pos 1)) } ∷ []); axioms = ((for_all (int ∷ []) (pattern (tree (call 0 (tree (bound 0) no_trees)) no_trees) no_patterns) (negation (equal (linear (part (pos 1) (bound 0) no_parts) (pos 1)) (num (pos 8))))) ∷ []); goal = (negation (equal (call 0 (tree (free 0) no_trees)) (num (pos 8)))) }

abbrev seen_call_proof : Proof
seen_call_proof = proof (by_unfold 1 (call 0 (tree (free 0) no_trees)) ∷ by_instantiate 0 (((free 0)) ∷ []) ∷ []) (by_close 2 3)

seen_call_answer : answer seen_call 100 ≡ record { verdict = proved; found = Some seen_call_proof }
unfolding first step answer
seen_call_answer = refl

seen_call_enough : answer seen_call 3 ≡ record { verdict = proved; found = Some seen_call_proof }
unfolding first step answer
seen_call_enough = refl

seen_call_short : answer seen_call 2 ≡ record { verdict = turns; found = None }
unfolding first step answer
seen_call_short = refl

-- a seen Call is rewritten
abbrev seen_call_rewritten : Obligation
seen_call_rewritten = record { vars = (int ∷ []); defs = (record { params = (int ∷ []); sort = int; logical = false; body = (mul (bound 0) (bound 0)) } ∷ []); axioms = ((for_all (int ∷ []) (pattern (tree (call 0 (tree (bound 0) no_trees)) no_trees) no_patterns) (at_most (mul (bound 0) (bound 0)) (num (pos 10)))) ∷ (at_most (num (pos 0)) (call 0 (tree (free 0) no_trees))) ∷ (some (tree (equal (free 0) (num (pos 4))) (tree (equal (free 0) (num (pos 5))) no_trees))) ∷ []); goal = (truth false) }

abbrev seen_call_rewritten_proof : Proof
seen_call_rewritten_proof = proof (by_unfold 1 (call 0 (tree (free 0) no_trees)) ∷ []) (by_cases 2 (proof (by_replace 4 5 (free 0) ∷ by_instantiate 0 (((num (pos 4))) ∷ []) ∷ []) (by_close 3 7)) (one_proof (proof (by_replace 4 5 (free 0) ∷ by_instantiate 0 (((num (pos 5))) ∷ []) ∷ []) (by_close 3 7)) no_proofs))

seen_call_rewritten_answer : answer seen_call_rewritten 100 ≡ record { verdict = proved; found = Some seen_call_rewritten_proof }
unfolding first step answer
seen_call_rewritten_answer = refl

seen_call_rewritten_enough : answer seen_call_rewritten 8 ≡ record { verdict = proved; found = Some seen_call_rewritten_proof }
unfolding first step answer
seen_call_rewritten_enough = refl

seen_call_rewritten_short : answer seen_call_rewritten 7 ≡ record { verdict = turns; found = None }
unfolding first step answer
seen_call_rewritten_short = refl

-- a ForAll without a trigger is never instantiated
abbrev without_trigger : Obligation
without_trigger = record { vars = []; defs = []; axioms = ((for_all (int ∷ []) no_patterns (at_most (bound 0) (num (pos 3)))) ∷ []); goal = (truth false) }

without_trigger_answer : answer without_trigger 100 ≡ record { verdict = «open»; found = None }
unfolding first step answer
without_trigger_answer = refl

-- a fact that rewriting makes equal to another one goes away
abbrev equal_by_rewriting : Obligation
equal_by_rewriting = record { vars = ((map int) ∷ int ∷ int ∷ []); defs = []; axioms = ((for_all (int ∷ []) (pattern (tree (read (free 0) (bound 0)) no_trees) no_patterns) (at_most (free 1) (read (free 0) (bound 0)))) ∷ (at_most (num (pos 3)) (read (free 0) (free 1))) ∷ (at_most (num (pos 3)) (read (free 0) (free 2))) ∷ (some (tree (equal (free 1) (free 2)) (tree (at_most (read (free 0) (free 1)) (num (pos 4))) no_trees))) ∷ []); goal = (truth false) }

equal_by_rewriting_answer : answer equal_by_rewriting 100 ≡ record { verdict = «open»; found = None }
unfolding first step answer
equal_by_rewriting_answer = refl

equal_by_rewriting_enough : answer equal_by_rewriting 3 ≡ record { verdict = «open»; found = None }
unfolding first step answer
equal_by_rewriting_enough = refl

equal_by_rewriting_short : answer equal_by_rewriting 2 ≡ record { verdict = turns; found = None }
unfolding first step answer
equal_by_rewriting_short = refl
