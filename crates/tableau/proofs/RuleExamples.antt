-- One obligation for each rule, whose proof uses it, with the answer computed: with many turns, with just enough, and with one less.
use Rattle.std.specs.Prelude.{◌≡◌, refl, pos, negsuc, true, false, Some, None, [], ◌∷◌}
use Rattle.logic_core.specs.Tree.{int, boolean, map, num, truth, free, bound, linear, mul, read, write, choose, call, negation, all, some, equal, at_most, for_all, exists, no_trees, tree, no_parts, part, no_patterns, pattern}
use Rattle.logic_core.specs.Def.{Obligation}
use Rattle.logic_core.specs.Order.{first}
use Rattle.proof_core.specs.Proof.{Proof, proof, by_split, by_instantiate, by_skolem, by_replace, by_unfold, by_back, by_differ, by_combine, by_tighten, by_close, by_cases, by_condition, by_past, by_trichotomy, no_proofs, one_proof}
use Rattle.tableau.specs.Search.{answer, step, proved, turns}

-- close: (c 0 0)
abbrev closing : Obligation
closing = record { vars = []; defs = []; axioms = []; goal = (truth true) }

abbrev closing_proof : Proof
closing_proof = proof [] (by_close 0 0)

closing_answer : answer closing 100 ≡ record { verdict = proved; found = Some closing_proof }
unfolding first step answer
closing_answer = refl

closing_enough : answer closing 1 ≡ record { verdict = proved; found = Some closing_proof }
unfolding first step answer
closing_enough = refl

closing_short : answer closing 0 ≡ record { verdict = turns; found = None }
unfolding first step answer
closing_short = refl

-- flatten: (s 0) (c 1 2)
abbrev flattening : Obligation
flattening = record { vars = (boolean ∷ []); defs = []; axioms = []; goal = (some (tree (free 0) (tree (negation (free 0)) no_trees))) }

abbrev flattening_proof : Proof
flattening_proof = proof (by_split 0 ∷ []) (by_close 1 2)

flattening_answer : answer flattening 100 ≡ record { verdict = proved; found = Some flattening_proof }
unfolding first step answer
flattening_answer = refl

flattening_enough : answer flattening 2 ≡ record { verdict = proved; found = Some flattening_proof }
unfolding first step answer
flattening_enough = refl

flattening_short : answer flattening 1 ≡ record { verdict = turns; found = None }
unfolding first step answer
flattening_short = refl

-- skolem: (w 0) (c 1 2)
abbrev skolemizing : Obligation
skolemizing = record { vars = (boolean ∷ []); defs = []; axioms = ((exists (boolean ∷ []) no_patterns (free 0)) ∷ []); goal = (free 0) }

abbrev skolemizing_proof : Proof
skolemizing_proof = proof (by_skolem 0 ∷ []) (by_close 1 2)

skolemizing_answer : answer skolemizing 100 ≡ record { verdict = proved; found = Some skolemizing_proof }
unfolding first step answer
skolemizing_answer = refl

skolemizing_enough : answer skolemizing 2 ≡ record { verdict = proved; found = Some skolemizing_proof }
unfolding first step answer
skolemizing_enough = refl

skolemizing_short : answer skolemizing 1 ≡ record { verdict = turns; found = None }
unfolding first step answer
skolemizing_short = refl

-- rewrite: (e 0 1 v0) (c 2 2)
abbrev rewriting : Obligation
rewriting = record { vars = (boolean ∷ []); defs = []; axioms = ((for_all (int ∷ []) no_patterns (free 0)) ∷ []); goal = (free 0) }

abbrev rewriting_proof : Proof
rewriting_proof = proof (by_replace 0 1 (free 0) ∷ []) (by_close 2 2)

rewriting_answer : answer rewriting 100 ≡ record { verdict = proved; found = Some rewriting_proof }
unfolding first step answer
rewriting_answer = refl

rewriting_enough : answer rewriting 2 ≡ record { verdict = proved; found = Some rewriting_proof }
unfolding first step answer
rewriting_enough = refl

rewriting_short : answer rewriting 1 ≡ record { verdict = turns; found = None }
unfolding first step answer
rewriting_short = refl

-- back: (r 0 (r (w v0 v1 T) v1)) (c 1 1)
abbrev reading_back : Obligation
reading_back = record { vars = ((map boolean) ∷ int ∷ []); defs = []; axioms = []; goal = (read (write (free 0) (free 1) (truth true)) (free 1)) }

abbrev reading_back_proof : Proof
reading_back_proof = proof (by_back 0 (read (write (free 0) (free 1) (truth true)) (free 1)) ∷ []) (by_close 1 1)

reading_back_answer : answer reading_back 100 ≡ record { verdict = proved; found = Some reading_back_proof }
unfolding first step answer
reading_back_answer = refl

reading_back_enough : answer reading_back 2 ≡ record { verdict = proved; found = Some reading_back_proof }
unfolding first step answer
reading_back_enough = refl

reading_back_short : answer reading_back 1 ≡ record { verdict = turns; found = None }
unfolding first step answer
reading_back_short = refl

-- unfold: (u 0 (f0)) (c 1 1)
abbrev unfolding_call : Obligation
unfolding_call = record { vars = []; defs = (record { params = []; sort = boolean; logical = true; body = (truth true) } ∷ []); axioms = []; goal = (call 0 no_trees) }

abbrev unfolding_call_proof : Proof
unfolding_call_proof = proof (by_unfold 0 (call 0 no_trees) ∷ []) (by_close 1 1)

unfolding_call_answer : answer unfolding_call 100 ≡ record { verdict = proved; found = Some unfolding_call_proof }
unfolding first step answer
unfolding_call_answer = refl

unfolding_call_enough : answer unfolding_call 2 ≡ record { verdict = proved; found = Some unfolding_call_proof }
unfolding first step answer
unfolding_call_enough = refl

unfolding_call_short : answer unfolding_call 1 ≡ record { verdict = turns; found = None }
unfolding first step answer
unfolding_call_short = refl

-- combine: (k 0 1 1 1) (c 2 2)
abbrev combining : Obligation
combining = record { vars = (int ∷ []); defs = []; axioms = ((at_most (free 0) (num (pos 4))) ∷ []); goal = (at_most (free 0) (num (pos 6))) }

abbrev combining_proof : Proof
combining_proof = proof (by_combine 0 (pos 1) 1 (pos 1) ∷ []) (by_close 2 2)

combining_answer : answer combining 100 ≡ record { verdict = proved; found = Some combining_proof }
unfolding first step answer
combining_answer = refl

combining_enough : answer combining 2 ≡ record { verdict = proved; found = Some combining_proof }
unfolding first step answer
combining_enough = refl

combining_short : answer combining 1 ≡ record { verdict = turns; found = None }
unfolding first step answer
combining_short = refl

-- trichotomy: (y v0 [(k 0 1 3 7) (c 1 4)] [(c 2 3)] [(k 0 -1 3 7) (c 1 4)])
abbrev deciding : Obligation
deciding = record { vars = (int ∷ []); defs = []; axioms = ((equal (linear (part (negsuc 0) (free 0) no_parts) (negsuc 1)) (mul (free 0) (num (pos 6)))) ∷ (equal (free 0) (free 0)) ∷ []); goal = (equal (num (pos 0)) (free 0)) }

abbrev deciding_proof : Proof
deciding_proof = proof [] (by_trichotomy (free 0) (proof (by_combine 0 (pos 1) 3 (pos 7) ∷ []) (by_close 1 4)) (proof [] (by_close 2 3)) (proof (by_combine 0 (negsuc 0) 3 (pos 7) ∷ []) (by_close 1 4)))

deciding_answer : answer deciding 100 ≡ record { verdict = proved; found = Some deciding_proof }
unfolding first step answer
deciding_answer = refl

deciding_enough : answer deciding 6 ≡ record { verdict = proved; found = Some deciding_proof }
unfolding first step answer
deciding_enough = refl

deciding_short : answer deciding 5 ≡ record { verdict = turns; found = None }
unfolding first step answer
deciding_short = refl

-- split: (s 0 [(s 2) (c 3 4)] [(s 2) (c 3 4)])
abbrev splitting : Obligation
splitting = record { vars = (boolean ∷ []); defs = []; axioms = ((equal (free 0) (equal (free 0) (truth false))) ∷ []); goal = (at_most (num (pos 0)) (num (negsuc 1))) }

abbrev splitting_proof : Proof
splitting_proof = proof [] (by_cases 0 (proof (by_split 2 ∷ []) (by_close 3 4)) (one_proof (proof (by_split 2 ∷ []) (by_close 3 4)) no_proofs))

splitting_answer : answer splitting 100 ≡ record { verdict = proved; found = Some splitting_proof }
unfolding first step answer
splitting_answer = refl

splitting_enough : answer splitting 5 ≡ record { verdict = proved; found = Some splitting_proof }
unfolding first step answer
splitting_enough = refl

splitting_short : answer splitting 4 ≡ record { verdict = turns; found = None }
unfolding first step answer
splitting_short = refl

-- condition: (s 0 (? v0 v0 T) [(c 1 2)] [(c 2 2)])
abbrev choosing : Obligation
choosing = record { vars = (boolean ∷ []); defs = []; axioms = []; goal = (choose (free 0) (free 0) (truth true)) }

abbrev choosing_proof : Proof
choosing_proof = proof [] (by_condition 0 (choose (free 0) (free 0) (truth true)) (proof [] (by_close 1 2)) (proof [] (by_close 2 2)))

choosing_answer : answer choosing 100 ≡ record { verdict = proved; found = Some choosing_proof }
unfolding first step answer
choosing_answer = refl

choosing_enough : answer choosing 3 ≡ record { verdict = proved; found = Some choosing_proof }
unfolding first step answer
choosing_enough = refl

choosing_short : answer choosing 2 ≡ record { verdict = turns; found = None }
unfolding first step answer
choosing_short = refl

-- past: (k 2 5 4 1) (t 5) (p (r (w v0 -2 F) v1) [(e 0 8 (r (w v0 -2 F) v1)) (c 1 9)] [(e 0 8 (r (w v0 -2 F) v1)) (c 9 9)] [(e 0 8 (r (w v0 -2 F) v1)) (c 1 9)])
abbrev passing : Obligation
passing = record { vars = ((map boolean) ∷ int ∷ int ∷ []); defs = []; axioms = ((read (write (free 0) (num (negsuc 1)) (truth false)) (free 1)) ∷ (negation (read (free 0) (free 1))) ∷ (at_most (free 1) (free 2)) ∷ (read (free 0) (free 2)) ∷ []); goal = (at_most (linear (part (pos 4) (num (pos 3)) (part (negsuc 1) (free 2) (part (negsuc 2) (free 2) no_parts))) (pos 2)) (free 1)) }

abbrev passing_proof : Proof
passing_proof = proof (by_combine 2 (pos 5) 4 (pos 1) ∷ by_tighten 5 ∷ []) (by_past (read (write (free 0) (num (negsuc 1)) (truth false)) (free 1)) (proof (by_replace 0 8 (read (write (free 0) (num (negsuc 1)) (truth false)) (free 1)) ∷ []) (by_close 1 9)) (proof (by_replace 0 8 (read (write (free 0) (num (negsuc 1)) (truth false)) (free 1)) ∷ []) (by_close 9 9)) (proof (by_replace 0 8 (read (write (free 0) (num (negsuc 1)) (truth false)) (free 1)) ∷ []) (by_close 1 9)))

passing_answer : answer passing 100 ≡ record { verdict = proved; found = Some passing_proof }
unfolding first step answer
passing_answer = refl

passing_enough : answer passing 5 ≡ record { verdict = proved; found = Some passing_proof }
unfolding first step answer
passing_enough = refl

passing_short : answer passing 4 ≡ record { verdict = turns; found = None }
unfolding first step answer
passing_short = refl

-- differ: (d 1) (s 2 [(s 3) (p (r (w v0 v2 T) v3) [(e 5 7 (r (w v0 v2 T) v3)) (c 4 8)] [(e 5 7 (r (w v0 v2 T) v3)) (c 8 8)] [(e 5 7 (r (w v0 v2 T) v3)) (c 4 8)])] [(s 3) (p (r (w v0 v2 T) v3) [(e 5 7 (r (w v0 v2 T) v3)) (c 4 8)] [(e 5 7 (r (w v0 v2 T) v3)) (e 4 6 v3) (c 0 9)] [(e 5 7 (r (w v0 v2 T) v3)) (c 4 8)])])
abbrev differing : Obligation
differing = record { vars = ((map boolean) ∷ int ∷ int ∷ []); defs = []; axioms = ((read (free 0) (choose (truth false) (free 1) (free 2))) ∷ []); goal = (equal (free 0) (write (free 0) (free 2) (at_most (free 1) (free 1)))) }

abbrev differing_proof : Proof
differing_proof = proof (by_differ 1 ∷ []) (by_cases 2 (proof (by_split 3 ∷ []) (by_past (read (write (free 0) (free 2) (truth true)) (free 3)) (proof (by_replace 5 7 (read (write (free 0) (free 2) (truth true)) (free 3)) ∷ []) (by_close 4 8)) (proof (by_replace 5 7 (read (write (free 0) (free 2) (truth true)) (free 3)) ∷ []) (by_close 8 8)) (proof (by_replace 5 7 (read (write (free 0) (free 2) (truth true)) (free 3)) ∷ []) (by_close 4 8)))) (one_proof (proof (by_split 3 ∷ []) (by_past (read (write (free 0) (free 2) (truth true)) (free 3)) (proof (by_replace 5 7 (read (write (free 0) (free 2) (truth true)) (free 3)) ∷ []) (by_close 4 8)) (proof (by_replace 5 7 (read (write (free 0) (free 2) (truth true)) (free 3)) ∷ by_replace 4 6 (free 3) ∷ []) (by_close 0 9)) (proof (by_replace 5 7 (read (write (free 0) (free 2) (truth true)) (free 3)) ∷ []) (by_close 4 8)))) no_proofs))

differing_answer : answer differing 100 ≡ record { verdict = proved; found = Some differing_proof }
unfolding first step answer
differing_answer = refl

differing_enough : answer differing 13 ≡ record { verdict = proved; found = Some differing_proof }
unfolding first step answer
differing_enough = refl

differing_short : answer differing 12 ≡ record { verdict = turns; found = None }
unfolding first step answer
differing_short = refl

-- instantiate: (i 0 v2) (t 2) (c 3 3)
abbrev instantiating : Obligation
instantiating = record { vars = (int ∷ int ∷ (map int) ∷ []); defs = []; axioms = ((for_all ((map int) ∷ []) (pattern (tree (read (bound 0) (num (pos 0))) no_trees) (pattern (tree (read (bound 0) (free 0)) no_trees) no_patterns)) (equal (linear (part (pos 1) (free 1) no_parts) (pos 1)) (linear (part (pos 10) (free 1) no_parts) (negsuc 1)))) ∷ []); goal = (at_most (num (pos 2)) (read (free 2) (free 0))) }

abbrev instantiating_proof : Proof
instantiating_proof = proof (by_instantiate 0 (((free 2)) ∷ []) ∷ by_tighten 2 ∷ []) (by_close 3 3)

instantiating_answer : answer instantiating 100 ≡ record { verdict = proved; found = Some instantiating_proof }
unfolding first step answer
instantiating_answer = refl

instantiating_enough : answer instantiating 2 ≡ record { verdict = proved; found = Some instantiating_proof }
unfolding first step answer
instantiating_enough = refl

instantiating_short : answer instantiating 1 ≡ record { verdict = turns; found = None }
unfolding first step answer
instantiating_short = refl

-- a `t` node: (s 0) (t 3) (c 4 4)
abbrev tightening : Obligation
tightening = record { vars = (boolean ∷ int ∷ []); defs = []; axioms = ((all (tree (free 0) (tree (equal (linear (part (pos 10) (free 1) no_parts) (pos 3)) (linear (part (pos 0) (free 1) no_parts) (pos 1))) no_trees))) ∷ []); goal = (for_all (int ∷ boolean ∷ []) no_patterns (bound 0)) }

abbrev tightening_proof : Proof
tightening_proof = proof (by_split 0 ∷ by_tighten 3 ∷ []) (by_close 4 4)

tightening_answer : answer tightening 100 ≡ record { verdict = proved; found = Some tightening_proof }
unfolding first step answer
tightening_answer = refl

tightening_enough : answer tightening 2 ≡ record { verdict = proved; found = Some tightening_proof }
unfolding first step answer
tightening_enough = refl

tightening_short : answer tightening 1 ≡ record { verdict = turns; found = None }
unfolding first step answer
tightening_short = refl
