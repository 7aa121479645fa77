-- Obligations at whose first facts, or at one of whose rules, a number leaves 128 bits, with the answer computed.
use Rattle.std.specs.Prelude.{◌≡◌, refl, pos, negsuc, true, false, None, [], ◌∷◌}
use Rattle.logic_core.specs.Tree.{int, boolean, map, num, truth, free, bound, linear, mul, read, write, choose, call, all, equal, at_most, for_all, no_trees, tree, no_parts, part, no_patterns, pattern}
use Rattle.logic_core.specs.Def.{Obligation}
use Rattle.logic_core.specs.Order.{first}
use Rattle.tableau.specs.Search.{answer, step, turns, wide}

-- wide at the first facts
abbrev wide_at_the_start : Obligation
wide_at_the_start = record { vars = []; defs = []; axioms = []; goal = (equal (num (negsuc 170141183460469231731687303715884105727)) (num (pos 1))) }

wide_at_the_start_answer : answer wide_at_the_start 100 ≡ record { verdict = wide; found = None }
unfolding first step answer
wide_at_the_start_answer = refl

-- wide at rewrite
abbrev wide_at_rewrite : Obligation
wide_at_rewrite = record { vars = (int ∷ []); defs = []; axioms = ((equal (free 0) (num (pos 170141183460469231731687303715884105727))) ∷ (equal (free 0) (free 0)) ∷ []); goal = (at_most (num (negsuc 1)) (free 0)) }

wide_at_rewrite_answer : answer wide_at_rewrite 100 ≡ record { verdict = wide; found = None }
unfolding first step answer
wide_at_rewrite_answer = refl

-- wide at back
abbrev wide_at_back : Obligation
wide_at_back = record { vars = ((map boolean) ∷ int ∷ []); defs = []; axioms = []; goal = (read (write (free 0) (num (negsuc 2)) (truth true)) (mul (free 1) (num (negsuc 170141183460469231731687303715884105727)))) }

wide_at_back_answer : answer wide_at_back 100 ≡ record { verdict = wide; found = None }
unfolding first step answer
wide_at_back_answer = refl

-- wide at unfold
abbrev wide_at_unfold : Obligation
wide_at_unfold = record { vars = (int ∷ []); defs = (record { params = (int ∷ []); sort = boolean; logical = false; body = (at_most (linear (part (pos 170141183460469231731687303715884105727) (num (pos 2)) no_parts) (pos 6)) (num (pos 0))) } ∷ []); axioms = []; goal = (call 0 (tree (free 0) no_trees)) }

wide_at_unfold_answer : answer wide_at_unfold 100 ≡ record { verdict = wide; found = None }
unfolding first step answer
wide_at_unfold_answer = refl

-- wide at combine
abbrev wide_at_combine : Obligation
wide_at_combine = record { vars = (int ∷ []); defs = []; axioms = ((at_most (num (negsuc 1)) (free 0)) ∷ []); goal = (at_most (num (pos 170141183460469231731687303715884105727)) (free 0)) }

wide_at_combine_answer : answer wide_at_combine 100 ≡ record { verdict = wide; found = None }
unfolding first step answer
wide_at_combine_answer = refl

-- wide at trichotomy
abbrev wide_at_trichotomy : Obligation
wide_at_trichotomy = record { vars = (int ∷ int ∷ []); defs = []; axioms = []; goal = (equal (linear (part (negsuc 170141183460469231731687303715884105727) (free 0) (part (pos 10) (free 1) (part (pos 5) (num (pos 2)) no_parts))) (pos 3)) (linear (part (negsuc 1) (free 1) no_parts) (pos 10))) }

wide_at_trichotomy_answer : answer wide_at_trichotomy 100 ≡ record { verdict = wide; found = None }
unfolding first step answer
wide_at_trichotomy_answer = refl

-- wide at split
abbrev wide_at_split : Obligation
wide_at_split = record { vars = (boolean ∷ boolean ∷ int ∷ []); defs = []; axioms = []; goal = (choose (all (tree (free 0) (tree (free 0) no_trees))) (equal (free 1) (at_most (free 2) (num (negsuc 170141183460469231731687303715884105727)))) (at_most (free 2) (free 2))) }

wide_at_split_answer : answer wide_at_split 100 ≡ record { verdict = wide; found = None }
unfolding first step answer
wide_at_split_answer = refl

wide_at_split_enough : answer wide_at_split 2 ≡ record { verdict = wide; found = None }
unfolding first step answer
wide_at_split_enough = refl

wide_at_split_short : answer wide_at_split 1 ≡ record { verdict = turns; found = None }
unfolding first step answer
wide_at_split_short = refl

-- wide at condition
abbrev wide_at_condition : Obligation
wide_at_condition = record { vars = (boolean ∷ int ∷ []); defs = []; axioms = []; goal = (choose (free 0) (at_most (free 1) (num (negsuc 170141183460469231731687303715884105727))) (free 0)) }

wide_at_condition_answer : answer wide_at_condition 100 ≡ record { verdict = wide; found = None }
unfolding first step answer
wide_at_condition_answer = refl

-- wide at past
abbrev wide_at_past : Obligation
wide_at_past = record { vars = ((map int) ∷ int ∷ []); defs = []; axioms = []; goal = (equal (write (free 0) (num (pos 6)) (free 1)) (write (free 0) (num (negsuc 170141183460469231731687303715884105727)) (free 1))) }

wide_at_past_answer : answer wide_at_past 100 ≡ record { verdict = wide; found = None }
unfolding first step answer
wide_at_past_answer = refl

wide_at_past_enough : answer wide_at_past 3 ≡ record { verdict = wide; found = None }
unfolding first step answer
wide_at_past_enough = refl

wide_at_past_short : answer wide_at_past 2 ≡ record { verdict = turns; found = None }
unfolding first step answer
wide_at_past_short = refl

-- wide at instantiate
abbrev wide_at_instantiate : Obligation
wide_at_instantiate = record { vars = ((map int) ∷ (map int) ∷ int ∷ int ∷ int ∷ []); defs = []; axioms = ((equal (free 0) (write (free 1) (choose (truth true) (free 2) (free 2)) (free 2))) ∷ (for_all (int ∷ int ∷ []) (pattern (tree (read (free 0) (bound 0)) (tree (read (free 0) (bound 1)) no_trees)) (pattern (tree (read (free 0) (bound 0)) (tree (read (free 1) (bound 1)) no_trees)) no_patterns)) (at_most (linear (part (pos 0) (num (pos 42535295865117307932921825928971026432)) no_parts) (negsuc 2)) (linear (part (pos 1) (free 3) (part (pos 170141183460469231731687303715884105726) (bound 1) (part (negsuc 170141183460469231731687303715884105727) (free 4) no_parts))) (pos 3)))) ∷ []); goal = (at_most (linear (part (pos 1) (free 2) no_parts) (pos 0)) (read (free 0) (linear (part (pos 0) (free 3) no_parts) (pos 85070591730234615865843651857942052864)))) }

wide_at_instantiate_answer : answer wide_at_instantiate 100 ≡ record { verdict = wide; found = None }
unfolding first step answer
wide_at_instantiate_answer = refl

wide_at_instantiate_enough : answer wide_at_instantiate 2 ≡ record { verdict = wide; found = None }
unfolding first step answer
wide_at_instantiate_enough = refl

wide_at_instantiate_short : answer wide_at_instantiate 1 ≡ record { verdict = turns; found = None }
unfolding first step answer
wide_at_instantiate_short = refl
