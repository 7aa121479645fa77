-- The first faults of small programs with gotos, with and without a fault, computed.
use Rattle.std.specs.Prelude.{◌≡◌, refl, true, false, List, [], ◌∷◌, Some, None}
use Rattle.bpl_ast.specs.Place.{integer, boolean as truth_type}
use Rattle.bpl_ast.specs.Tree.{eq, le, gt, ge, number, truth, variable, ors, related, sums, no_exprs, item, no_terms, less, no_groups, group, no_clause}
use Rattle.bpl_ast.specs.Statement.{stmt, assert, assign, branches, loop, «break», «return», goto, branch, otherwise, no_branch, no_stmts, next, ensures, procedure, Decl}
use Rattle.bpl_scopes.specs.declared.fault.TypeKind.TheVariants.{Twice as twice, Unknown as unknown, Sort as wrong_sort, GotoHere as goto_here}
use Rattle.bpl_declaration_faults.specs.DeclFaults.{fault_of}
use Rattle.bpl_scopes.specs.Fault.{first_of_two}
use Rattle.bpl_scopes.specs.Scopes.{entity_of, meaning}
use Rattle.bpl_scopes.specs.Sorts.{sort_of_type}
use Rattle.bpl_scopes.specs.Functions.{function_number, is_logical, leads_to_itself}
use Rattle.program_tests.proofs.ExampleTrees.{place, name, expression, signature, declaration}

-- procedure K() { A: assert true; goto A; }
abbrev program_0 : List Decl
program_0 = (declaration "K" (procedure (name 1 11 "K") None (signature no_groups no_groups) [] (Some (record { locals = []; stmts = (next (stmt ((name 1 17 "A") ∷ []) (place 1 20) (assert (expression 1 27 (truth true)))) (next (stmt [] (place 1 33) (goto ((name 1 38 "A") ∷ []))) no_stmts)) }))) ∷ [])

fault_0 : fault_of program_0 ≡ Some (0, record { at = place 1 38; kind = goto_here })
unfolding entity_of first_of_two function_number is_logical leads_to_itself meaning sort_of_type
fault_0 = refl

-- procedure K() { goto A; if (true) { A: assert true; } }
abbrev program_1 : List Decl
program_1 = (declaration "K" (procedure (name 1 11 "K") None (signature no_groups no_groups) [] (Some (record { locals = []; stmts = (next (stmt [] (place 1 17) (goto ((name 1 22 "A") ∷ []))) (next (stmt [] (place 1 25) (branches (branch (place 1 25) (Some (expression 1 29 (truth true))) (next (stmt ((name 1 37 "A") ∷ []) (place 1 40) (assert (expression 1 47 (truth true)))) no_stmts) no_branch))) no_stmts)) }))) ∷ [])

fault_1 : fault_of program_1 ≡ Some (0, record { at = place 1 22; kind = goto_here })
unfolding entity_of first_of_two function_number is_logical leads_to_itself meaning sort_of_type
fault_1 = refl

-- procedure J(b: bool) returns (r: int)
--   ensures r >= 1;
-- {
--   r := 0;
--   goto A, B;
--   A: r := 1;
--   goto C;
--   B: r := 2;
--   C: assert r >= 1;
-- }
abbrev program_2 : List Decl
program_2 = (declaration "J" (procedure (name 1 11 "J") None (signature (group ((name 1 13 "b") ∷ []) (truth_type (place 1 16)) no_clause no_groups) (group ((name 1 31 "r") ∷ []) (integer (place 1 34)) no_clause no_groups)) (ensures (place 2 3) false (expression 2 11 (related ge (expression 2 11 (variable (name 2 11 "r"))) (expression 2 16 (number 1)))) ∷ []) (Some (record { locals = []; stmts = (next (stmt [] (place 4 3) (assign (record { name = (name 4 3 "r"); indices = no_exprs } ∷ []) (item (expression 4 8 (number 0)) no_exprs))) (next (stmt [] (place 5 3) (goto ((name 5 8 "A") ∷ (name 5 11 "B") ∷ []))) (next (stmt ((name 6 3 "A") ∷ []) (place 6 6) (assign (record { name = (name 6 6 "r"); indices = no_exprs } ∷ []) (item (expression 6 11 (number 1)) no_exprs))) (next (stmt [] (place 7 3) (goto ((name 7 8 "C") ∷ []))) (next (stmt ((name 8 3 "B") ∷ []) (place 8 6) (assign (record { name = (name 8 6 "r"); indices = no_exprs } ∷ []) (item (expression 8 11 (number 2)) no_exprs))) (next (stmt ((name 9 3 "C") ∷ []) (place 9 6) (assert (expression 9 13 (related ge (expression 9 13 (variable (name 9 13 "r"))) (expression 9 18 (number 1)))))) no_stmts)))))) }))) ∷ [])

fault_2 : fault_of program_2 ≡ None
unfolding entity_of first_of_two function_number is_logical leads_to_itself meaning sort_of_type
fault_2 = refl

-- procedure K(x: int) { var i: int; i := x; while (i > 0) invariant i >= 0 || i == x; { i := i - 1; if (i == 7) { goto Out; } } assert i <= 0; Out: assert i <= 7; }
abbrev program_3 : List Decl
program_3 = (declaration "K" (procedure (name 1 11 "K") None (signature (group ((name 1 13 "x") ∷ []) (integer (place 1 16)) no_clause no_groups) no_groups) [] (Some (record { locals = ((group ((name 1 27 "i") ∷ []) (integer (place 1 30)) no_clause no_groups) ∷ []); stmts = (next (stmt [] (place 1 35) (assign (record { name = (name 1 35 "i"); indices = no_exprs } ∷ []) (item (expression 1 40 (variable (name 1 40 "x"))) no_exprs))) (next (stmt [] (place 1 43) (loop (Some (expression 1 50 (related gt (expression 1 50 (variable (name 1 50 "i"))) (expression 1 54 (number 0))))) (record { at = (place 1 57); free = false; formula = (expression 1 67 (ors (item (expression 1 67 (related ge (expression 1 67 (variable (name 1 67 "i"))) (expression 1 72 (number 0)))) (item (expression 1 77 (related eq (expression 1 77 (variable (name 1 77 "i"))) (expression 1 82 (variable (name 1 82 "x"))))) no_exprs)))) } ∷ []) (next (stmt [] (place 1 87) (assign (record { name = (name 1 87 "i"); indices = no_exprs } ∷ []) (item (expression 1 92 (sums (expression 1 92 (variable (name 1 92 "i"))) (less (expression 1 96 (number 1)) no_terms))) no_exprs))) (next (stmt [] (place 1 99) (branches (branch (place 1 99) (Some (expression 1 103 (related eq (expression 1 103 (variable (name 1 103 "i"))) (expression 1 108 (number 7))))) (next (stmt [] (place 1 113) (goto ((name 1 118 "Out") ∷ []))) no_stmts) no_branch))) no_stmts)))) (next (stmt [] (place 1 127) (assert (expression 1 134 (related le (expression 1 134 (variable (name 1 134 "i"))) (expression 1 139 (number 0)))))) (next (stmt ((name 1 142 "Out") ∷ []) (place 1 147) (assert (expression 1 154 (related le (expression 1 154 (variable (name 1 154 "i"))) (expression 1 159 (number 7)))))) no_stmts)))) }))) ∷ [])

fault_3 : fault_of program_3 ≡ None
unfolding entity_of first_of_two function_number is_logical leads_to_itself meaning sort_of_type
fault_3 = refl

-- procedure K(x: int) { if (x > 0) { goto A; } assert x <= 0; A: assert true; assert x <= 0; }
abbrev program_4 : List Decl
program_4 = (declaration "K" (procedure (name 1 11 "K") None (signature (group ((name 1 13 "x") ∷ []) (integer (place 1 16)) no_clause no_groups) no_groups) [] (Some (record { locals = []; stmts = (next (stmt [] (place 1 23) (branches (branch (place 1 23) (Some (expression 1 27 (related gt (expression 1 27 (variable (name 1 27 "x"))) (expression 1 31 (number 0))))) (next (stmt [] (place 1 36) (goto ((name 1 41 "A") ∷ []))) no_stmts) no_branch))) (next (stmt [] (place 1 46) (assert (expression 1 53 (related le (expression 1 53 (variable (name 1 53 "x"))) (expression 1 58 (number 0)))))) (next (stmt ((name 1 61 "A") ∷ []) (place 1 64) (assert (expression 1 71 (truth true)))) (next (stmt [] (place 1 77) (assert (expression 1 84 (related le (expression 1 84 (variable (name 1 84 "x"))) (expression 1 89 (number 0)))))) no_stmts)))) }))) ∷ [])

fault_4 : fault_of program_4 ≡ None
unfolding entity_of first_of_two function_number is_logical leads_to_itself meaning sort_of_type
fault_4 = refl

-- procedure K() { goto A; }
abbrev program_5 : List Decl
program_5 = (declaration "K" (procedure (name 1 11 "K") None (signature no_groups no_groups) [] (Some (record { locals = []; stmts = (next (stmt [] (place 1 17) (goto ((name 1 22 "A") ∷ []))) no_stmts) }))) ∷ [])

fault_5 : fault_of program_5 ≡ Some (0, record { at = place 1 22; kind = unknown })
unfolding entity_of first_of_two function_number is_logical leads_to_itself meaning sort_of_type
fault_5 = refl

-- procedure P() { A: goto A; }
abbrev program_6 : List Decl
program_6 = (declaration "P" (procedure (name 1 11 "P") None (signature no_groups no_groups) [] (Some (record { locals = []; stmts = (next (stmt ((name 1 17 "A") ∷ []) (place 1 20) (goto ((name 1 25 "A") ∷ []))) no_stmts) }))) ∷ [])

fault_6 : fault_of program_6 ≡ Some (0, record { at = place 1 25; kind = goto_here })
unfolding entity_of first_of_two function_number is_logical leads_to_itself meaning sort_of_type
fault_6 = refl

-- procedure P() { goto A; assert true; A: goto A, B; B: return; }
abbrev program_7 : List Decl
program_7 = (declaration "P" (procedure (name 1 11 "P") None (signature no_groups no_groups) [] (Some (record { locals = []; stmts = (next (stmt [] (place 1 17) (goto ((name 1 22 "A") ∷ []))) (next (stmt [] (place 1 25) (assert (expression 1 32 (truth true)))) (next (stmt ((name 1 38 "A") ∷ []) (place 1 41) (goto ((name 1 46 "A") ∷ (name 1 49 "B") ∷ []))) (next (stmt ((name 1 52 "B") ∷ []) (place 1 55) «return») no_stmts)))) }))) ∷ [])

fault_7 : fault_of program_7 ≡ Some (0, record { at = place 1 46; kind = goto_here })
unfolding entity_of first_of_two function_number is_logical leads_to_itself meaning sort_of_type
fault_7 = refl

-- procedure P() { goto B, A; A: A: assert true; B: return; }
abbrev program_8 : List Decl
program_8 = (declaration "P" (procedure (name 1 11 "P") None (signature no_groups no_groups) [] (Some (record { locals = []; stmts = (next (stmt [] (place 1 17) (goto ((name 1 22 "B") ∷ (name 1 25 "A") ∷ []))) (next (stmt ((name 1 28 "A") ∷ (name 1 31 "A") ∷ []) (place 1 34) (assert (expression 1 41 (truth true)))) (next (stmt ((name 1 47 "B") ∷ []) (place 1 50) «return») no_stmts))) }))) ∷ [])

fault_8 : fault_of program_8 ≡ Some (0, record { at = place 1 31; kind = twice })
unfolding entity_of first_of_two function_number is_logical leads_to_itself meaning sort_of_type
fault_8 = refl

-- procedure P() { A: if (*) { goto A; } A: assert true; }
abbrev program_9 : List Decl
program_9 = (declaration "P" (procedure (name 1 11 "P") None (signature no_groups no_groups) [] (Some (record { locals = []; stmts = (next (stmt ((name 1 17 "A") ∷ []) (place 1 20) (branches (branch (place 1 20) None (next (stmt [] (place 1 29) (goto ((name 1 34 "A") ∷ []))) no_stmts) no_branch))) (next (stmt ((name 1 39 "A") ∷ []) (place 1 42) (assert (expression 1 49 (truth true)))) no_stmts)) }))) ∷ [])

fault_9 : fault_of program_9 ≡ Some (0, record { at = place 1 39; kind = twice })
unfolding entity_of first_of_two function_number is_logical leads_to_itself meaning sort_of_type
fault_9 = refl

-- procedure P() { while (*) { goto A; B: assert true; } A: assert true; goto B; }
abbrev program_10 : List Decl
program_10 = (declaration "P" (procedure (name 1 11 "P") None (signature no_groups no_groups) [] (Some (record { locals = []; stmts = (next (stmt [] (place 1 17) (loop None [] (next (stmt [] (place 1 29) (goto ((name 1 34 "A") ∷ []))) (next (stmt ((name 1 37 "B") ∷ []) (place 1 40) (assert (expression 1 47 (truth true)))) no_stmts)))) (next (stmt ((name 1 55 "A") ∷ []) (place 1 58) (assert (expression 1 65 (truth true)))) (next (stmt [] (place 1 71) (goto ((name 1 76 "B") ∷ []))) no_stmts))) }))) ∷ [])

fault_10 : fault_of program_10 ≡ Some (0, record { at = place 1 76; kind = goto_here })
unfolding entity_of first_of_two function_number is_logical leads_to_itself meaning sort_of_type
fault_10 = refl

-- procedure P() { goto A; if (*) { B: assert true; } else { A: goto B; } }
abbrev program_11 : List Decl
program_11 = (declaration "P" (procedure (name 1 11 "P") None (signature no_groups no_groups) [] (Some (record { locals = []; stmts = (next (stmt [] (place 1 17) (goto ((name 1 22 "A") ∷ []))) (next (stmt [] (place 1 25) (branches (branch (place 1 25) None (next (stmt ((name 1 34 "B") ∷ []) (place 1 37) (assert (expression 1 44 (truth true)))) no_stmts) (otherwise (next (stmt ((name 1 59 "A") ∷ []) (place 1 62) (goto ((name 1 67 "B") ∷ []))) no_stmts))))) no_stmts)) }))) ∷ [])

fault_11 : fault_of program_11 ≡ Some (0, record { at = place 1 22; kind = goto_here })
unfolding entity_of first_of_two function_number is_logical leads_to_itself meaning sort_of_type
fault_11 = refl

-- procedure P() { if (*) { goto B; } else { B: assert true; } }
abbrev program_12 : List Decl
program_12 = (declaration "P" (procedure (name 1 11 "P") None (signature no_groups no_groups) [] (Some (record { locals = []; stmts = (next (stmt [] (place 1 17) (branches (branch (place 1 17) None (next (stmt [] (place 1 26) (goto ((name 1 31 "B") ∷ []))) no_stmts) (otherwise (next (stmt ((name 1 43 "B") ∷ []) (place 1 46) (assert (expression 1 53 (truth true)))) no_stmts))))) no_stmts) }))) ∷ [])

fault_12 : fault_of program_12 ≡ Some (0, record { at = place 1 31; kind = goto_here })
unfolding entity_of first_of_two function_number is_logical leads_to_itself meaning sort_of_type
fault_12 = refl

-- procedure P(b: bool) { L: while (b) { if (b) { goto L; } break L; } }
abbrev program_13 : List Decl
program_13 = (declaration "P" (procedure (name 1 11 "P") None (signature (group ((name 1 13 "b") ∷ []) (truth_type (place 1 16)) no_clause no_groups) no_groups) [] (Some (record { locals = []; stmts = (next (stmt ((name 1 24 "L") ∷ []) (place 1 27) (loop (Some (expression 1 34 (variable (name 1 34 "b")))) [] (next (stmt [] (place 1 39) (branches (branch (place 1 39) (Some (expression 1 43 (variable (name 1 43 "b")))) (next (stmt [] (place 1 48) (goto ((name 1 53 "L") ∷ []))) no_stmts) no_branch))) (next (stmt [] (place 1 58) («break» (Some (name 1 64 "L")))) no_stmts)))) no_stmts) }))) ∷ [])

fault_13 : fault_of program_13 ≡ Some (0, record { at = place 1 53; kind = goto_here })
unfolding entity_of first_of_two function_number is_logical leads_to_itself meaning sort_of_type
fault_13 = refl

-- procedure P(b: bool) { if (*) { while (b) { if (b) { goto L, M; } else { goto M; } } M: assert b; } L: return; }
abbrev program_14 : List Decl
program_14 = (declaration "P" (procedure (name 1 11 "P") None (signature (group ((name 1 13 "b") ∷ []) (truth_type (place 1 16)) no_clause no_groups) no_groups) [] (Some (record { locals = []; stmts = (next (stmt [] (place 1 24) (branches (branch (place 1 24) None (next (stmt [] (place 1 33) (loop (Some (expression 1 40 (variable (name 1 40 "b")))) [] (next (stmt [] (place 1 45) (branches (branch (place 1 45) (Some (expression 1 49 (variable (name 1 49 "b")))) (next (stmt [] (place 1 54) (goto ((name 1 59 "L") ∷ (name 1 62 "M") ∷ []))) no_stmts) (otherwise (next (stmt [] (place 1 74) (goto ((name 1 79 "M") ∷ []))) no_stmts))))) no_stmts))) (next (stmt ((name 1 86 "M") ∷ []) (place 1 89) (assert (expression 1 96 (variable (name 1 96 "b"))))) no_stmts)) no_branch))) (next (stmt ((name 1 101 "L") ∷ []) (place 1 104) «return») no_stmts)) }))) ∷ [])

fault_14 : fault_of program_14 ≡ None
unfolding entity_of first_of_two function_number is_logical leads_to_itself meaning sort_of_type
fault_14 = refl

-- procedure P() { goto L, L; assert 1; L: return; }
abbrev program_15 : List Decl
program_15 = (declaration "P" (procedure (name 1 11 "P") None (signature no_groups no_groups) [] (Some (record { locals = []; stmts = (next (stmt [] (place 1 17) (goto ((name 1 22 "L") ∷ (name 1 25 "L") ∷ []))) (next (stmt [] (place 1 28) (assert (expression 1 35 (number 1)))) (next (stmt ((name 1 38 "L") ∷ []) (place 1 41) «return») no_stmts))) }))) ∷ [])

fault_15 : fault_of program_15 ≡ Some (0, record { at = place 1 35; kind = wrong_sort })
unfolding entity_of first_of_two function_number is_logical leads_to_itself meaning sort_of_type
fault_15 = refl

-- procedure Q() { L: return; }
-- procedure P() { goto L; }
abbrev program_16 : List Decl
program_16 = (declaration "Q" (procedure (name 1 11 "Q") None (signature no_groups no_groups) [] (Some (record { locals = []; stmts = (next (stmt ((name 1 17 "L") ∷ []) (place 1 20) «return») no_stmts) }))) ∷ declaration "P" (procedure (name 1 11 "P") None (signature no_groups no_groups) [] (Some (record { locals = []; stmts = (next (stmt [] (place 1 17) (goto ((name 1 22 "L") ∷ []))) no_stmts) }))) ∷ [])

fault_16 : fault_of program_16 ≡ Some (1, record { at = place 1 22; kind = unknown })
unfolding entity_of first_of_two function_number is_logical leads_to_itself meaning sort_of_type
fault_16 = refl
