-- The first faults of small programs with something that stands where it may not, and of programs without, computed.
use Rattle.std.specs.Prelude.{◌≡◌, refl, true, false, List, [], ◌∷◌, Some, None}
use Rattle.bpl_ast.specs.Place.{integer, boolean as truth_type, named, map_type, no_tys, ty}
use Rattle.bpl_ast.specs.Tree.{eq, gt, for_all, exists, number, truth, variable, apply, old, choose, quantified, implies, related, sums, negation, indexed, no_exprs, item, no_terms, plus, no_indices, at_index, no_triggers, trigger, no_groups, group, no_clause, clause}
use Rattle.bpl_ast.specs.Statement.{stmt, assert, havoc, assign, branches, loop, «break», goto, branch, no_branch, no_stmts, next, requires, ensures, constant, function, axiom_of, variables, synonym, procedure, Decl}
use Rattle.bpl_scopes.specs.declared.fault.TypeKind.TheVariants.{Sort as wrong_sort, NotAssignable as not_assignable, TargetTwice as target_twice, OldHere as old_here, QuantifierHere as quantifier_here, Trigger as bad_trigger, BreakHere as break_here, Cycle as cycle, Unbuilt as unbuilt}
use Rattle.bpl_scopes.specs.declared.fault.Construct.TheVariants.{TypeWord as type_word, UniqueWord as unique_word, Polymorphic as polymorphic, Domain as domain}
use Rattle.bpl_declaration_faults.specs.DeclFaults.{fault_of}
use Rattle.bpl_scopes.specs.Fault.{first_of_two}
use Rattle.bpl_scopes.specs.Scopes.{entity_of, meaning}
use Rattle.bpl_scopes.specs.Sorts.{sort_of_type}
use Rattle.bpl_scopes.specs.Functions.{function_number, is_logical, leads_to_itself}
use Rattle.program_tests.proofs.ExampleTrees.{place, name, expression, signature, declaration}

-- procedure P() { var x: int; x, x := 1, 2; }
abbrev program_0 : List Decl
program_0 = (declaration "P" (procedure (name 1 11 "P") None (signature no_groups no_groups) [] (Some (record { locals = ((group ((name 1 21 "x") ∷ []) (integer (place 1 24)) no_clause no_groups) ∷ []); stmts = (next (stmt [] (place 1 29) (assign (record { name = (name 1 29 "x"); indices = no_exprs } ∷ record { name = (name 1 32 "x"); indices = no_exprs } ∷ []) (item (expression 1 37 (number 1)) (item (expression 1 40 (number 2)) no_exprs)))) no_stmts) }))) ∷ [])

fault_0 : fault_of program_0 ≡ Some (0, record { at = place 1 32; kind = target_twice })
unfolding entity_of first_of_two function_number is_logical leads_to_itself meaning sort_of_type
fault_0 = refl

-- procedure P() { var x: int; var y: int; x, y := 1, 2; havoc y, x; }
abbrev program_1 : List Decl
program_1 = (declaration "P" (procedure (name 1 11 "P") None (signature no_groups no_groups) [] (Some (record { locals = ((group ((name 1 21 "x") ∷ []) (integer (place 1 24)) no_clause no_groups) ∷ (group ((name 1 33 "y") ∷ []) (integer (place 1 36)) no_clause no_groups) ∷ []); stmts = (next (stmt [] (place 1 41) (assign (record { name = (name 1 41 "x"); indices = no_exprs } ∷ record { name = (name 1 44 "y"); indices = no_exprs } ∷ []) (item (expression 1 49 (number 1)) (item (expression 1 52 (number 2)) no_exprs)))) (next (stmt [] (place 1 55) (havoc ((name 1 61 "y") ∷ (name 1 64 "x") ∷ []))) no_stmts)) }))) ∷ [])

fault_1 : fault_of program_1 ≡ None
unfolding entity_of first_of_two function_number is_logical leads_to_itself meaning sort_of_type
fault_1 = refl

-- procedure P() { var x: int; havoc x, x; }
abbrev program_2 : List Decl
program_2 = (declaration "P" (procedure (name 1 11 "P") None (signature no_groups no_groups) [] (Some (record { locals = ((group ((name 1 21 "x") ∷ []) (integer (place 1 24)) no_clause no_groups) ∷ []); stmts = (next (stmt [] (place 1 29) (havoc ((name 1 35 "x") ∷ (name 1 38 "x") ∷ []))) no_stmts) }))) ∷ [])

fault_2 : fault_of program_2 ≡ Some (0, record { at = place 1 38; kind = target_twice })
unfolding entity_of first_of_two function_number is_logical leads_to_itself meaning sort_of_type
fault_2 = refl

-- var g: int;
-- procedure P(); requires old(g) == 1;
abbrev program_3 : List Decl
program_3 = (declaration "g" (variables (group ((name 1 5 "g") ∷ []) (integer (place 1 8)) no_clause no_groups)) ∷ declaration "P" (procedure (name 1 11 "P") None (signature no_groups no_groups) (requires (place 1 16) false (expression 1 25 (related eq (expression 1 25 (old (place 1 25) (expression 1 29 (variable (name 1 29 "g"))))) (expression 1 35 (number 1)))) ∷ []) None) ∷ [])

fault_3 : fault_of program_3 ≡ Some (1, record { at = place 1 25; kind = old_here })
unfolding entity_of first_of_two function_number is_logical leads_to_itself meaning sort_of_type
fault_3 = refl

-- var g: int;
-- procedure P() ensures old(g) == 1; { assert old(g) == g; }
abbrev program_4 : List Decl
program_4 = (declaration "g" (variables (group ((name 1 5 "g") ∷ []) (integer (place 1 8)) no_clause no_groups)) ∷ declaration "P" (procedure (name 1 11 "P") None (signature no_groups no_groups) (ensures (place 1 15) false (expression 1 23 (related eq (expression 1 23 (old (place 1 23) (expression 1 27 (variable (name 1 27 "g"))))) (expression 1 33 (number 1)))) ∷ []) (Some (record { locals = []; stmts = (next (stmt [] (place 1 38) (assert (expression 1 45 (related eq (expression 1 45 (old (place 1 45) (expression 1 49 (variable (name 1 49 "g"))))) (expression 1 55 (variable (name 1 55 "g"))))))) no_stmts) }))) ∷ [])

fault_4 : fault_of program_4 ≡ None
unfolding entity_of first_of_two function_number is_logical leads_to_itself meaning sort_of_type
fault_4 = refl

-- procedure P() { while ((forall y: int :: y == y)) { } }
abbrev program_5 : List Decl
program_5 = (declaration "P" (procedure (name 1 11 "P") None (signature no_groups no_groups) [] (Some (record { locals = []; stmts = (next (stmt [] (place 1 17) (loop (Some (expression 1 24 (quantified for_all (place 1 24) None (group ((name 1 32 "y") ∷ []) (integer (place 1 35)) no_clause no_groups) no_triggers (expression 1 42 (related eq (expression 1 42 (variable (name 1 42 "y"))) (expression 1 47 (variable (name 1 47 "y")))))))) [] no_stmts)) no_stmts) }))) ∷ [])

fault_5 : fault_of program_5 ≡ Some (0, record { at = place 1 24; kind = quantifier_here })
unfolding entity_of first_of_two function_number is_logical leads_to_itself meaning sort_of_type
fault_5 = refl

-- function f(y: int): bool { (forall k: int :: k == y) }
-- procedure P(b: bool) { assert f(1) ==> !f(2); b := b; }
abbrev program_6 : List Decl
program_6 = (declaration "f" (function (name 1 10 "f") None (record { name = Some (name 1 12 "y"); type = (integer (place 1 15)) } ∷ []) (truth_type (place 1 21)) (Some (expression 1 28 (quantified for_all (place 1 28) None (group ((name 1 36 "k") ∷ []) (integer (place 1 39)) no_clause no_groups) no_triggers (expression 1 46 (related eq (expression 1 46 (variable (name 1 46 "k"))) (expression 1 51 (variable (name 1 51 "y"))))))))) ∷ declaration "P" (procedure (name 1 11 "P") None (signature (group ((name 1 13 "b") ∷ []) (truth_type (place 1 16)) no_clause no_groups) no_groups) [] (Some (record { locals = []; stmts = (next (stmt [] (place 1 24) (assert (expression 1 31 (implies (item (expression 1 31 (apply (name 1 31 "f") (item (expression 1 33 (number 1)) no_exprs))) (item (expression 1 40 (negation (expression 1 41 (apply (name 1 41 "f") (item (expression 1 43 (number 2)) no_exprs))))) no_exprs)))))) (next (stmt [] (place 1 47) (assign (record { name = (name 1 47 "b"); indices = no_exprs } ∷ []) (item (expression 1 52 (variable (name 1 52 "b"))) no_exprs))) no_stmts)) }))) ∷ [])

fault_6 : fault_of program_6 ≡ Some (1, record { at = place 1 47; kind = not_assignable })
unfolding entity_of first_of_two function_number is_logical leads_to_itself meaning sort_of_type
fault_6 = refl

-- function h(y: int): bool { f(y) }
-- function f(y: int): bool { (exists k: int :: k == y) }
-- procedure P(b: bool) { var c: bool; assert f(1); c := h(2); }
abbrev program_7 : List Decl
program_7 = (declaration "h" (function (name 1 10 "h") None (record { name = Some (name 1 12 "y"); type = (integer (place 1 15)) } ∷ []) (truth_type (place 1 21)) (Some (expression 1 28 (apply (name 1 28 "f") (item (expression 1 30 (variable (name 1 30 "y"))) no_exprs))))) ∷ declaration "f" (function (name 1 10 "f") None (record { name = Some (name 1 12 "y"); type = (integer (place 1 15)) } ∷ []) (truth_type (place 1 21)) (Some (expression 1 28 (quantified exists (place 1 28) None (group ((name 1 36 "k") ∷ []) (integer (place 1 39)) no_clause no_groups) no_triggers (expression 1 46 (related eq (expression 1 46 (variable (name 1 46 "k"))) (expression 1 51 (variable (name 1 51 "y"))))))))) ∷ declaration "P" (procedure (name 1 11 "P") None (signature (group ((name 1 13 "b") ∷ []) (truth_type (place 1 16)) no_clause no_groups) no_groups) [] (Some (record { locals = ((group ((name 1 28 "c") ∷ []) (truth_type (place 1 31)) no_clause no_groups) ∷ []); stmts = (next (stmt [] (place 1 37) (assert (expression 1 44 (apply (name 1 44 "f") (item (expression 1 46 (number 1)) no_exprs))))) (next (stmt [] (place 1 50) (assign (record { name = (name 1 50 "c"); indices = no_exprs } ∷ []) (item (expression 1 55 (apply (name 1 55 "h") (item (expression 1 57 (number 2)) no_exprs))) no_exprs))) no_stmts)) }))) ∷ [])

fault_7 : fault_of program_7 ≡ Some (2, record { at = place 1 55; kind = quantifier_here })
unfolding entity_of first_of_two function_number is_logical leads_to_itself meaning sort_of_type
fault_7 = refl

-- procedure P() { assert old((forall y: int :: y == y)); }
abbrev program_8 : List Decl
program_8 = (declaration "P" (procedure (name 1 11 "P") None (signature no_groups no_groups) [] (Some (record { locals = []; stmts = (next (stmt [] (place 1 17) (assert (expression 1 24 (old (place 1 24) (expression 1 28 (quantified for_all (place 1 28) None (group ((name 1 36 "y") ∷ []) (integer (place 1 39)) no_clause no_groups) no_triggers (expression 1 46 (related eq (expression 1 46 (variable (name 1 46 "y"))) (expression 1 51 (variable (name 1 51 "y"))))))))))) no_stmts) }))) ∷ [])

fault_8 : fault_of program_8 ≡ Some (0, record { at = place 1 28; kind = quantifier_here })
unfolding entity_of first_of_two function_number is_logical leads_to_itself meaning sort_of_type
fault_8 = refl

-- procedure P() { assert (if (forall y: int :: y == y) then true else false); }
abbrev program_9 : List Decl
program_9 = (declaration "P" (procedure (name 1 11 "P") None (signature no_groups no_groups) [] (Some (record { locals = []; stmts = (next (stmt [] (place 1 17) (assert (expression 1 24 (choose (expression 1 28 (quantified for_all (place 1 28) None (group ((name 1 36 "y") ∷ []) (integer (place 1 39)) no_clause no_groups) no_triggers (expression 1 46 (related eq (expression 1 46 (variable (name 1 46 "y"))) (expression 1 51 (variable (name 1 51 "y"))))))) (expression 1 59 (truth true)) (expression 1 69 (truth false)))))) no_stmts) }))) ∷ [])

fault_9 : fault_of program_9 ≡ Some (0, record { at = place 1 28; kind = quantifier_here })
unfolding entity_of first_of_two function_number is_logical leads_to_itself meaning sort_of_type
fault_9 = refl

-- procedure P(a: [int]int) { assert (forall i: int :: {a[i + 1]} a[i] == 0); }
abbrev program_10 : List Decl
program_10 = (declaration "P" (procedure (name 1 11 "P") None (signature (group ((name 1 13 "a") ∷ []) (map_type (place 1 16) None (ty (integer (place 1 17)) no_tys) (integer (place 1 21))) no_clause no_groups) no_groups) [] (Some (record { locals = []; stmts = (next (stmt [] (place 1 28) (assert (expression 1 35 (quantified for_all (place 1 35) None (group ((name 1 43 "i") ∷ []) (integer (place 1 46)) no_clause no_groups) (trigger (place 1 53) (item (expression 1 54 (indexed (expression 1 54 (variable (name 1 54 "a"))) (at_index (expression 1 56 (sums (expression 1 56 (variable (name 1 56 "i"))) (plus (expression 1 60 (number 1)) no_terms))) no_indices))) no_exprs) no_triggers) (expression 1 64 (related eq (expression 1 64 (indexed (expression 1 64 (variable (name 1 64 "a"))) (at_index (expression 1 66 (variable (name 1 66 "i"))) no_indices))) (expression 1 72 (number 0)))))))) no_stmts) }))) ∷ [])

fault_10 : fault_of program_10 ≡ Some (0, record { at = place 1 53; kind = bad_trigger })
unfolding entity_of first_of_two function_number is_logical leads_to_itself meaning sort_of_type
fault_10 = refl

-- procedure P(a: [int]int) { assert (forall i: int, j: int :: {a[i]} a[i] == j); }
abbrev program_11 : List Decl
program_11 = (declaration "P" (procedure (name 1 11 "P") None (signature (group ((name 1 13 "a") ∷ []) (map_type (place 1 16) None (ty (integer (place 1 17)) no_tys) (integer (place 1 21))) no_clause no_groups) no_groups) [] (Some (record { locals = []; stmts = (next (stmt [] (place 1 28) (assert (expression 1 35 (quantified for_all (place 1 35) None (group ((name 1 43 "i") ∷ []) (integer (place 1 46)) no_clause (group ((name 1 51 "j") ∷ []) (integer (place 1 54)) no_clause no_groups)) (trigger (place 1 61) (item (expression 1 62 (indexed (expression 1 62 (variable (name 1 62 "a"))) (at_index (expression 1 64 (variable (name 1 64 "i"))) no_indices))) no_exprs) no_triggers) (expression 1 68 (related eq (expression 1 68 (indexed (expression 1 68 (variable (name 1 68 "a"))) (at_index (expression 1 70 (variable (name 1 70 "i"))) no_indices))) (expression 1 76 (variable (name 1 76 "j"))))))))) no_stmts) }))) ∷ [])

fault_11 : fault_of program_11 ≡ Some (0, record { at = place 1 61; kind = bad_trigger })
unfolding entity_of first_of_two function_number is_logical leads_to_itself meaning sort_of_type
fault_11 = refl

-- procedure P(a: [int]int) { assert (forall i: int, j: int :: {a[i], a[j]} {a[a[i]], a[j]} a[i] == a[j]); }
abbrev program_12 : List Decl
program_12 = (declaration "P" (procedure (name 1 11 "P") None (signature (group ((name 1 13 "a") ∷ []) (map_type (place 1 16) None (ty (integer (place 1 17)) no_tys) (integer (place 1 21))) no_clause no_groups) no_groups) [] (Some (record { locals = []; stmts = (next (stmt [] (place 1 28) (assert (expression 1 35 (quantified for_all (place 1 35) None (group ((name 1 43 "i") ∷ []) (integer (place 1 46)) no_clause (group ((name 1 51 "j") ∷ []) (integer (place 1 54)) no_clause no_groups)) (trigger (place 1 61) (item (expression 1 62 (indexed (expression 1 62 (variable (name 1 62 "a"))) (at_index (expression 1 64 (variable (name 1 64 "i"))) no_indices))) (item (expression 1 68 (indexed (expression 1 68 (variable (name 1 68 "a"))) (at_index (expression 1 70 (variable (name 1 70 "j"))) no_indices))) no_exprs)) (trigger (place 1 74) (item (expression 1 75 (indexed (expression 1 75 (variable (name 1 75 "a"))) (at_index (expression 1 77 (indexed (expression 1 77 (variable (name 1 77 "a"))) (at_index (expression 1 79 (variable (name 1 79 "i"))) no_indices))) no_indices))) (item (expression 1 84 (indexed (expression 1 84 (variable (name 1 84 "a"))) (at_index (expression 1 86 (variable (name 1 86 "j"))) no_indices))) no_exprs)) no_triggers)) (expression 1 90 (related eq (expression 1 90 (indexed (expression 1 90 (variable (name 1 90 "a"))) (at_index (expression 1 92 (variable (name 1 92 "i"))) no_indices))) (expression 1 98 (indexed (expression 1 98 (variable (name 1 98 "a"))) (at_index (expression 1 100 (variable (name 1 100 "j"))) no_indices))))))))) no_stmts) }))) ∷ [])

fault_12 : fault_of program_12 ≡ None
unfolding entity_of first_of_two function_number is_logical leads_to_itself meaning sort_of_type
fault_12 = refl

-- procedure P(a: [int]int) { assert (forall i: int :: {i} a[i] == 0); }
abbrev program_13 : List Decl
program_13 = (declaration "P" (procedure (name 1 11 "P") None (signature (group ((name 1 13 "a") ∷ []) (map_type (place 1 16) None (ty (integer (place 1 17)) no_tys) (integer (place 1 21))) no_clause no_groups) no_groups) [] (Some (record { locals = []; stmts = (next (stmt [] (place 1 28) (assert (expression 1 35 (quantified for_all (place 1 35) None (group ((name 1 43 "i") ∷ []) (integer (place 1 46)) no_clause no_groups) (trigger (place 1 53) (item (expression 1 54 (variable (name 1 54 "i"))) no_exprs) no_triggers) (expression 1 57 (related eq (expression 1 57 (indexed (expression 1 57 (variable (name 1 57 "a"))) (at_index (expression 1 59 (variable (name 1 59 "i"))) no_indices))) (expression 1 65 (number 0)))))))) no_stmts) }))) ∷ [])

fault_13 : fault_of program_13 ≡ Some (0, record { at = place 1 53; kind = bad_trigger })
unfolding entity_of first_of_two function_number is_logical leads_to_itself meaning sort_of_type
fault_13 = refl

-- procedure P() { L: if (*) { break L; } while (*) { if (*) { break; } } M: while (*) { break M; } }
abbrev program_14 : List Decl
program_14 = (declaration "P" (procedure (name 1 11 "P") None (signature no_groups no_groups) [] (Some (record { locals = []; stmts = (next (stmt ((name 1 17 "L") ∷ []) (place 1 20) (branches (branch (place 1 20) None (next (stmt [] (place 1 29) («break» (Some (name 1 35 "L")))) no_stmts) no_branch))) (next (stmt [] (place 1 40) (loop None [] (next (stmt [] (place 1 52) (branches (branch (place 1 52) None (next (stmt [] (place 1 61) («break» None)) no_stmts) no_branch))) no_stmts))) (next (stmt ((name 1 72 "M") ∷ []) (place 1 75) (loop None [] (next (stmt [] (place 1 87) («break» (Some (name 1 93 "M")))) no_stmts))) no_stmts))) }))) ∷ [])

fault_14 : fault_of program_14 ≡ None
unfolding entity_of first_of_two function_number is_logical leads_to_itself meaning sort_of_type
fault_14 = refl

-- procedure P() { L: assert true; while (*) { break L; } }
abbrev program_15 : List Decl
program_15 = (declaration "P" (procedure (name 1 11 "P") None (signature no_groups no_groups) [] (Some (record { locals = []; stmts = (next (stmt ((name 1 17 "L") ∷ []) (place 1 20) (assert (expression 1 27 (truth true)))) (next (stmt [] (place 1 33) (loop None [] (next (stmt [] (place 1 45) («break» (Some (name 1 51 "L")))) no_stmts))) no_stmts)) }))) ∷ [])

fault_15 : fault_of program_15 ≡ Some (0, record { at = place 1 45; kind = break_here })
unfolding entity_of first_of_two function_number is_logical leads_to_itself meaning sort_of_type
fault_15 = refl

-- procedure P() { if (*) { break; } }
abbrev program_16 : List Decl
program_16 = (declaration "P" (procedure (name 1 11 "P") None (signature no_groups no_groups) [] (Some (record { locals = []; stmts = (next (stmt [] (place 1 17) (branches (branch (place 1 17) None (next (stmt [] (place 1 26) («break» None)) no_stmts) no_branch))) no_stmts) }))) ∷ [])

fault_16 : fault_of program_16 ≡ Some (0, record { at = place 1 26; kind = break_here })
unfolding entity_of first_of_two function_number is_logical leads_to_itself meaning sort_of_type
fault_16 = refl

-- function f(x: int): int { g(x) }
-- function g(x: int): int { f(x) }
-- function h(x: int): int { f(x) }
abbrev program_17 : List Decl
program_17 = (declaration "f" (function (name 1 10 "f") None (record { name = Some (name 1 12 "x"); type = (integer (place 1 15)) } ∷ []) (integer (place 1 21)) (Some (expression 1 27 (apply (name 1 27 "g") (item (expression 1 29 (variable (name 1 29 "x"))) no_exprs))))) ∷ declaration "g" (function (name 1 10 "g") None (record { name = Some (name 1 12 "x"); type = (integer (place 1 15)) } ∷ []) (integer (place 1 21)) (Some (expression 1 27 (apply (name 1 27 "f") (item (expression 1 29 (variable (name 1 29 "x"))) no_exprs))))) ∷ declaration "h" (function (name 1 10 "h") None (record { name = Some (name 1 12 "x"); type = (integer (place 1 15)) } ∷ []) (integer (place 1 21)) (Some (expression 1 27 (apply (name 1 27 "f") (item (expression 1 29 (variable (name 1 29 "x"))) no_exprs))))) ∷ [])

fault_17 : fault_of program_17 ≡ Some (0, record { at = place 1 10; kind = cycle })
unfolding entity_of first_of_two function_number is_logical leads_to_itself meaning sort_of_type
fault_17 = refl

-- function h(x: int): int { f(x) }
-- function f(x: int): int { g(x) + 1 }
-- function g(x: int): int { x }
-- type A = B;
-- type B = [int]bool;
abbrev program_18 : List Decl
program_18 = (declaration "h" (function (name 1 10 "h") None (record { name = Some (name 1 12 "x"); type = (integer (place 1 15)) } ∷ []) (integer (place 1 21)) (Some (expression 1 27 (apply (name 1 27 "f") (item (expression 1 29 (variable (name 1 29 "x"))) no_exprs))))) ∷ declaration "f" (function (name 1 10 "f") None (record { name = Some (name 1 12 "x"); type = (integer (place 1 15)) } ∷ []) (integer (place 1 21)) (Some (expression 1 27 (sums (expression 1 27 (apply (name 1 27 "g") (item (expression 1 29 (variable (name 1 29 "x"))) no_exprs))) (plus (expression 1 34 (number 1)) no_terms))))) ∷ declaration "g" (function (name 1 10 "g") None (record { name = Some (name 1 12 "x"); type = (integer (place 1 15)) } ∷ []) (integer (place 1 21)) (Some (expression 1 27 (variable (name 1 27 "x"))))) ∷ declaration "A" (synonym (name 1 6 "A") (Some (named (place 1 10) (name 1 10 "B")))) ∷ declaration "B" (synonym (name 1 6 "B") (Some (map_type (place 1 10) None (ty (integer (place 1 11)) no_tys) (truth_type (place 1 15))))) ∷ [])

fault_18 : fault_of program_18 ≡ None
unfolding entity_of first_of_two function_number is_logical leads_to_itself meaning sort_of_type
fault_18 = refl

-- type C = A;
-- type A = [int]B;
-- type B = A;
abbrev program_19 : List Decl
program_19 = (declaration "C" (synonym (name 1 6 "C") (Some (named (place 1 10) (name 1 10 "A")))) ∷ declaration "A" (synonym (name 1 6 "A") (Some (map_type (place 1 10) None (ty (integer (place 1 11)) no_tys) (named (place 1 15) (name 1 15 "B"))))) ∷ declaration "B" (synonym (name 1 6 "B") (Some (named (place 1 10) (name 1 10 "A")))) ∷ [])

fault_19 : fault_of program_19 ≡ Some (1, record { at = place 1 6; kind = cycle })
unfolding entity_of first_of_two function_number is_logical leads_to_itself meaning sort_of_type
fault_19 = refl

-- procedure P() { goto L; L: assert true; }
abbrev program_20 : List Decl
program_20 = (declaration "P" (procedure (name 1 11 "P") None (signature no_groups no_groups) [] (Some (record { locals = []; stmts = (next (stmt [] (place 1 17) (goto ((name 1 22 "L") ∷ []))) (next (stmt ((name 1 25 "L") ∷ []) (place 1 28) (assert (expression 1 35 (truth true)))) no_stmts)) }))) ∷ [])

fault_20 : fault_of program_20 ≡ None
unfolding entity_of first_of_two function_number is_logical leads_to_itself meaning sort_of_type
fault_20 = refl

-- type T;
abbrev program_21 : List Decl
program_21 = (declaration "T" (synonym (name 1 6 "T") None) ∷ [])

fault_21 : fault_of program_21 ≡ Some (0, record { at = place 1 1; kind = (unbuilt type_word) })
unfolding entity_of first_of_two function_number is_logical leads_to_itself meaning sort_of_type
fault_21 = refl

-- var g: int where g > 0;
abbrev program_22 : List Decl
program_22 = (declaration "g" (variables (group ((name 1 5 "g") ∷ []) (integer (place 1 8)) (clause (place 1 12) (expression 1 18 (related gt (expression 1 18 (variable (name 1 18 "g"))) (expression 1 22 (number 0))))) no_groups)) ∷ [])

fault_22 : fault_of program_22 ≡ None
unfolding entity_of first_of_two function_number is_logical leads_to_itself meaning sort_of_type
fault_22 = refl

-- const unique c: int;
abbrev program_23 : List Decl
program_23 = (declaration "c" (constant (Some (place 1 7)) ((name 1 14 "c") ∷ []) (integer (place 1 17))) ∷ [])

fault_23 : fault_of program_23 ≡ Some (0, record { at = place 1 7; kind = (unbuilt unique_word) })
unfolding entity_of first_of_two function_number is_logical leads_to_itself meaning sort_of_type
fault_23 = refl

-- procedure P<T>(x: T);
abbrev program_24 : List Decl
program_24 = (declaration "P" (procedure (name 1 11 "P") (Some (record { at = (place 1 12); names = ((name 1 13 "T") ∷ []) })) (signature (group ((name 1 16 "x") ∷ []) (named (place 1 19) (name 1 19 "T")) no_clause no_groups) no_groups) [] None) ∷ [])

fault_24 : fault_of program_24 ≡ Some (0, record { at = place 1 12; kind = (unbuilt polymorphic) })
unfolding entity_of first_of_two function_number is_logical leads_to_itself meaning sort_of_type
fault_24 = refl

-- procedure P(a: [bool]int);
abbrev program_25 : List Decl
program_25 = (declaration "P" (procedure (name 1 11 "P") None (signature (group ((name 1 13 "a") ∷ []) (map_type (place 1 16) None (ty (truth_type (place 1 17)) no_tys) (integer (place 1 22))) no_clause no_groups) no_groups) [] None) ∷ [])

fault_25 : fault_of program_25 ≡ Some (0, record { at = place 1 17; kind = (unbuilt domain) })
unfolding entity_of first_of_two function_number is_logical leads_to_itself meaning sort_of_type
fault_25 = refl

-- procedure P(a: [int, int]int);
abbrev program_26 : List Decl
program_26 = (declaration "P" (procedure (name 1 11 "P") None (signature (group ((name 1 13 "a") ∷ []) (map_type (place 1 16) None (ty (integer (place 1 17)) (ty (integer (place 1 22)) no_tys)) (integer (place 1 26))) no_clause no_groups) no_groups) [] None) ∷ [])

fault_26 : fault_of program_26 ≡ Some (0, record { at = place 1 17; kind = (unbuilt domain) })
unfolding entity_of first_of_two function_number is_logical leads_to_itself meaning sort_of_type
fault_26 = refl

-- type I = int;
-- procedure P(a: [I][int]bool) { assert a[1][2]; }
abbrev program_27 : List Decl
program_27 = (declaration "I" (synonym (name 1 6 "I") (Some (integer (place 1 10)))) ∷ declaration "P" (procedure (name 1 11 "P") None (signature (group ((name 1 13 "a") ∷ []) (map_type (place 1 16) None (ty (named (place 1 17) (name 1 17 "I")) no_tys) (map_type (place 1 19) None (ty (integer (place 1 20)) no_tys) (truth_type (place 1 24)))) no_clause no_groups) no_groups) [] (Some (record { locals = []; stmts = (next (stmt [] (place 1 32) (assert (expression 1 39 (indexed (expression 1 39 (variable (name 1 39 "a"))) (at_index (expression 1 41 (number 1)) (at_index (expression 1 44 (number 2)) no_indices)))))) no_stmts) }))) ∷ [])

fault_27 : fault_of program_27 ≡ None
unfolding entity_of first_of_two function_number is_logical leads_to_itself meaning sort_of_type
fault_27 = refl

-- procedure P(a: <T>[T]int);
abbrev program_28 : List Decl
program_28 = (declaration "P" (procedure (name 1 11 "P") None (signature (group ((name 1 13 "a") ∷ []) (map_type (place 1 16) (Some (record { at = (place 1 16); names = ((name 1 17 "T") ∷ []) })) (ty (named (place 1 20) (name 1 20 "T")) no_tys) (integer (place 1 22))) no_clause no_groups) no_groups) [] None) ∷ [])

fault_28 : fault_of program_28 ≡ Some (0, record { at = place 1 16; kind = (unbuilt polymorphic) })
unfolding entity_of first_of_two function_number is_logical leads_to_itself meaning sort_of_type
fault_28 = refl

-- procedure P() { assert 1 == old(true); }
abbrev program_29 : List Decl
program_29 = (declaration "P" (procedure (name 1 11 "P") None (signature no_groups no_groups) [] (Some (record { locals = []; stmts = (next (stmt [] (place 1 17) (assert (expression 1 24 (related eq (expression 1 24 (number 1)) (expression 1 29 (old (place 1 29) (expression 1 33 (truth true)))))))) no_stmts) }))) ∷ [])

fault_29 : fault_of program_29 ≡ Some (0, record { at = place 1 29; kind = wrong_sort })
unfolding entity_of first_of_two function_number is_logical leads_to_itself meaning sort_of_type
fault_29 = refl

-- axiom 1 + old(true) == 1;
abbrev program_30 : List Decl
program_30 = (declaration "@1" (axiom_of (expression 1 7 (related eq (expression 1 7 (sums (expression 1 7 (number 1)) (plus (expression 1 11 (old (place 1 11) (expression 1 15 (truth true)))) no_terms))) (expression 1 24 (number 1))))) ∷ [])

fault_30 : fault_of program_30 ≡ Some (0, record { at = place 1 11; kind = wrong_sort })
unfolding entity_of first_of_two function_number is_logical leads_to_itself meaning sort_of_type
fault_30 = refl
