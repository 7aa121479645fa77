-- The first faults of small programs with a wrong sort, a wrong number or a wrong target, and of programs without, computed.
use Rattle.std.specs.Prelude.{◌≡◌, refl, true, List, [], ◌∷◌, Some, None}
use Rattle.bpl_ast.specs.Place.{integer, boolean as truth_type, named, map_type, no_tys, ty}
use Rattle.bpl_ast.specs.Tree.{eq, lt, number, truth, variable, choose, ands, related, sums, indexed, no_exprs, item, no_terms, plus, no_indices, at_index, no_groups, group, no_clause}
use Rattle.bpl_ast.specs.Statement.{stmt, assert, assume, havoc, assign, call, no_stmts, next, modifies, constant, function, variables, synonym, procedure, implementation, Decl}
use Rattle.bpl_scopes.specs.declared.fault.TypeKind.TheVariants.{Sort as wrong_sort, Arity as arity, NotAssignable as not_assignable, NotModified as not_modified}
use Rattle.bpl_declaration_faults.specs.DeclFaults.{fault_of}
use Rattle.bpl_scopes.specs.Fault.{first_of_two}
use Rattle.bpl_scopes.specs.Scopes.{entity_of, meaning}
use Rattle.bpl_scopes.specs.Sorts.{sort_of_type}
use Rattle.bpl_scopes.specs.Functions.{function_number, is_logical, leads_to_itself}
use Rattle.program_tests.proofs.ExampleTrees.{place, name, expression, signature, declaration}

-- procedure P(a: [int]bool) { assert a[1] && 1 < 2; assume a[2]; }
abbrev program_0 : List Decl
program_0 = (declaration "P" (procedure (name 1 11 "P") None (signature (group ((name 1 13 "a") ∷ []) (map_type (place 1 16) None (ty (integer (place 1 17)) no_tys) (truth_type (place 1 21))) no_clause no_groups) no_groups) [] (Some (record { locals = []; stmts = (next (stmt [] (place 1 29) (assert (expression 1 36 (ands (item (expression 1 36 (indexed (expression 1 36 (variable (name 1 36 "a"))) (at_index (expression 1 38 (number 1)) no_indices))) (item (expression 1 44 (related lt (expression 1 44 (number 1)) (expression 1 48 (number 2)))) no_exprs)))))) (next (stmt [] (place 1 51) (assume (expression 1 58 (indexed (expression 1 58 (variable (name 1 58 "a"))) (at_index (expression 1 60 (number 2)) no_indices))))) no_stmts)) }))) ∷ [])

fault_0 : fault_of program_0 ≡ None
unfolding entity_of first_of_two function_number is_logical leads_to_itself meaning sort_of_type
fault_0 = refl

-- procedure P() { assert true && (1 + true) == 2; }
abbrev program_1 : List Decl
program_1 = (declaration "P" (procedure (name 1 11 "P") None (signature no_groups no_groups) [] (Some (record { locals = []; stmts = (next (stmt [] (place 1 17) (assert (expression 1 24 (ands (item (expression 1 24 (truth true)) (item (expression 1 32 (related eq (expression 1 32 (sums (expression 1 33 (number 1)) (plus (expression 1 37 (truth true)) no_terms))) (expression 1 46 (number 2)))) no_exprs)))))) no_stmts) }))) ∷ [])

fault_1 : fault_of program_1 ≡ Some (0, record { at = place 1 37; kind = wrong_sort })
unfolding entity_of first_of_two function_number is_logical leads_to_itself meaning sort_of_type
fault_1 = refl

-- procedure P() { assert 1; }
abbrev program_2 : List Decl
program_2 = (declaration "P" (procedure (name 1 11 "P") None (signature no_groups no_groups) [] (Some (record { locals = []; stmts = (next (stmt [] (place 1 17) (assert (expression 1 24 (number 1)))) no_stmts) }))) ∷ [])

fault_2 : fault_of program_2 ≡ Some (0, record { at = place 1 24; kind = wrong_sort })
unfolding entity_of first_of_two function_number is_logical leads_to_itself meaning sort_of_type
fault_2 = refl

-- procedure P(a: [int]int) { assert a[true] == 1; }
abbrev program_3 : List Decl
program_3 = (declaration "P" (procedure (name 1 11 "P") None (signature (group ((name 1 13 "a") ∷ []) (map_type (place 1 16) None (ty (integer (place 1 17)) no_tys) (integer (place 1 21))) no_clause no_groups) no_groups) [] (Some (record { locals = []; stmts = (next (stmt [] (place 1 28) (assert (expression 1 35 (related eq (expression 1 35 (indexed (expression 1 35 (variable (name 1 35 "a"))) (at_index (expression 1 37 (truth true)) no_indices))) (expression 1 46 (number 1)))))) no_stmts) }))) ∷ [])

fault_3 : fault_of program_3 ≡ Some (0, record { at = place 1 37; kind = wrong_sort })
unfolding entity_of first_of_two function_number is_logical leads_to_itself meaning sort_of_type
fault_3 = refl

-- procedure P(x: int) { assert x[1] == 2; }
abbrev program_4 : List Decl
program_4 = (declaration "P" (procedure (name 1 11 "P") None (signature (group ((name 1 13 "x") ∷ []) (integer (place 1 16)) no_clause no_groups) no_groups) [] (Some (record { locals = []; stmts = (next (stmt [] (place 1 23) (assert (expression 1 30 (related eq (expression 1 30 (indexed (expression 1 30 (variable (name 1 30 "x"))) (at_index (expression 1 32 (number 1)) no_indices))) (expression 1 38 (number 2)))))) no_stmts) }))) ∷ [])

fault_4 : fault_of program_4 ≡ Some (0, record { at = place 1 30; kind = wrong_sort })
unfolding entity_of first_of_two function_number is_logical leads_to_itself meaning sort_of_type
fault_4 = refl

-- function f(y: int): bool { y }
abbrev program_5 : List Decl
program_5 = (declaration "f" (function (name 1 10 "f") None (record { name = Some (name 1 12 "y"); type = (integer (place 1 15)) } ∷ []) (truth_type (place 1 21)) (Some (expression 1 28 (variable (name 1 28 "y"))))) ∷ [])

fault_5 : fault_of program_5 ≡ Some (0, record { at = place 1 28; kind = wrong_sort })
unfolding entity_of first_of_two function_number is_logical leads_to_itself meaning sort_of_type
fault_5 = refl

-- function f(y: int): int { if y < 1 then 2 else true }
abbrev program_6 : List Decl
program_6 = (declaration "f" (function (name 1 10 "f") None (record { name = Some (name 1 12 "y"); type = (integer (place 1 15)) } ∷ []) (integer (place 1 21)) (Some (expression 1 27 (choose (expression 1 30 (related lt (expression 1 30 (variable (name 1 30 "y"))) (expression 1 34 (number 1)))) (expression 1 41 (number 2)) (expression 1 48 (truth true)))))) ∷ [])

fault_6 : fault_of program_6 ≡ Some (0, record { at = place 1 48; kind = wrong_sort })
unfolding entity_of first_of_two function_number is_logical leads_to_itself meaning sort_of_type
fault_6 = refl

-- procedure P(x: int, y: bool) { assert x == (y); }
abbrev program_7 : List Decl
program_7 = (declaration "P" (procedure (name 1 11 "P") None (signature (group ((name 1 13 "x") ∷ []) (integer (place 1 16)) no_clause (group ((name 1 21 "y") ∷ []) (truth_type (place 1 24)) no_clause no_groups)) no_groups) [] (Some (record { locals = []; stmts = (next (stmt [] (place 1 32) (assert (expression 1 39 (related eq (expression 1 39 (variable (name 1 39 "x"))) (expression 1 44 (variable (name 1 45 "y"))))))) no_stmts) }))) ∷ [])

fault_7 : fault_of program_7 ≡ Some (0, record { at = place 1 44; kind = wrong_sort })
unfolding entity_of first_of_two function_number is_logical leads_to_itself meaning sort_of_type
fault_7 = refl

-- procedure Q() returns (r: bool);
-- procedure P() { var x: int; call x := Q(); }
abbrev program_8 : List Decl
program_8 = (declaration "Q" (procedure (name 1 11 "Q") None (signature no_groups (group ((name 1 24 "r") ∷ []) (truth_type (place 1 27)) no_clause no_groups)) [] None) ∷ declaration "P" (procedure (name 1 11 "P") None (signature no_groups no_groups) [] (Some (record { locals = ((group ((name 1 21 "x") ∷ []) (integer (place 1 24)) no_clause no_groups) ∷ []); stmts = (next (stmt [] (place 1 29) (call ((name 1 34 "x") ∷ []) (name 1 39 "Q") no_exprs)) no_stmts) }))) ∷ [])

fault_8 : fault_of program_8 ≡ Some (1, record { at = place 1 39; kind = wrong_sort })
unfolding entity_of first_of_two function_number is_logical leads_to_itself meaning sort_of_type
fault_8 = refl

-- procedure Q(i: int) returns (r: bool, s: int);
-- procedure P() { var x: int; var y: bool; call y, x := Q(x); x, y := 1, true; }
abbrev program_9 : List Decl
program_9 = (declaration "Q" (procedure (name 1 11 "Q") None (signature (group ((name 1 13 "i") ∷ []) (integer (place 1 16)) no_clause no_groups) (group ((name 1 30 "r") ∷ []) (truth_type (place 1 33)) no_clause (group ((name 1 39 "s") ∷ []) (integer (place 1 42)) no_clause no_groups))) [] None) ∷ declaration "P" (procedure (name 1 11 "P") None (signature no_groups no_groups) [] (Some (record { locals = ((group ((name 1 21 "x") ∷ []) (integer (place 1 24)) no_clause no_groups) ∷ (group ((name 1 33 "y") ∷ []) (truth_type (place 1 36)) no_clause no_groups) ∷ []); stmts = (next (stmt [] (place 1 42) (call ((name 1 47 "y") ∷ (name 1 50 "x") ∷ []) (name 1 55 "Q") (item (expression 1 57 (variable (name 1 57 "x"))) no_exprs))) (next (stmt [] (place 1 61) (assign (record { name = (name 1 61 "x"); indices = no_exprs } ∷ record { name = (name 1 64 "y"); indices = no_exprs } ∷ []) (item (expression 1 69 (number 1)) (item (expression 1 72 (truth true)) no_exprs)))) no_stmts)) }))) ∷ [])

fault_9 : fault_of program_9 ≡ None
unfolding entity_of first_of_two function_number is_logical leads_to_itself meaning sort_of_type
fault_9 = refl

-- procedure P() { var x: int; x := 1, 2; }
abbrev program_10 : List Decl
program_10 = (declaration "P" (procedure (name 1 11 "P") None (signature no_groups no_groups) [] (Some (record { locals = ((group ((name 1 21 "x") ∷ []) (integer (place 1 24)) no_clause no_groups) ∷ []); stmts = (next (stmt [] (place 1 29) (assign (record { name = (name 1 29 "x"); indices = no_exprs } ∷ []) (item (expression 1 34 (number 1)) (item (expression 1 37 (number 2)) no_exprs)))) no_stmts) }))) ∷ [])

fault_10 : fault_of program_10 ≡ Some (0, record { at = place 1 29; kind = arity })
unfolding entity_of first_of_two function_number is_logical leads_to_itself meaning sort_of_type
fault_10 = refl

-- procedure Q(i: int);
-- procedure P() { call Q(); }
abbrev program_11 : List Decl
program_11 = (declaration "Q" (procedure (name 1 11 "Q") None (signature (group ((name 1 13 "i") ∷ []) (integer (place 1 16)) no_clause no_groups) no_groups) [] None) ∷ declaration "P" (procedure (name 1 11 "P") None (signature no_groups no_groups) [] (Some (record { locals = []; stmts = (next (stmt [] (place 1 17) (call [] (name 1 22 "Q") no_exprs)) no_stmts) }))) ∷ [])

fault_11 : fault_of program_11 ≡ Some (1, record { at = place 1 22; kind = arity })
unfolding entity_of first_of_two function_number is_logical leads_to_itself meaning sort_of_type
fault_11 = refl

-- procedure Q(i: int) returns (r: int);
-- procedure P() { call Q(1); }
abbrev program_12 : List Decl
program_12 = (declaration "Q" (procedure (name 1 11 "Q") None (signature (group ((name 1 13 "i") ∷ []) (integer (place 1 16)) no_clause no_groups) (group ((name 1 30 "r") ∷ []) (integer (place 1 33)) no_clause no_groups)) [] None) ∷ declaration "P" (procedure (name 1 11 "P") None (signature no_groups no_groups) [] (Some (record { locals = []; stmts = (next (stmt [] (place 1 17) (call [] (name 1 22 "Q") (item (expression 1 24 (number 1)) no_exprs))) no_stmts) }))) ∷ [])

fault_12 : fault_of program_12 ≡ Some (1, record { at = place 1 22; kind = arity })
unfolding entity_of first_of_two function_number is_logical leads_to_itself meaning sort_of_type
fault_12 = refl

-- procedure P(x: int) returns (y: bool);
-- implementation P(x: int) returns (y: int) { }
abbrev program_13 : List Decl
program_13 = (declaration "P" (procedure (name 1 11 "P") None (signature (group ((name 1 13 "x") ∷ []) (integer (place 1 16)) no_clause no_groups) (group ((name 1 30 "y") ∷ []) (truth_type (place 1 33)) no_clause no_groups)) [] None) ∷ declaration "implementation P" (implementation (name 1 16 "P") None (signature (group ((name 1 18 "x") ∷ []) (integer (place 1 21)) no_clause no_groups) (group ((name 1 35 "y") ∷ []) (integer (place 1 38)) no_clause no_groups)) (record { locals = []; stmts = no_stmts })) ∷ [])

fault_13 : fault_of program_13 ≡ Some (1, record { at = place 1 16; kind = arity })
unfolding entity_of first_of_two function_number is_logical leads_to_itself meaning sort_of_type
fault_13 = refl

-- procedure P(x: int) returns (y: bool);
-- implementation P(z: int) returns (y: bool) { }
abbrev program_14 : List Decl
program_14 = (declaration "P" (procedure (name 1 11 "P") None (signature (group ((name 1 13 "x") ∷ []) (integer (place 1 16)) no_clause no_groups) (group ((name 1 30 "y") ∷ []) (truth_type (place 1 33)) no_clause no_groups)) [] None) ∷ declaration "implementation P" (implementation (name 1 16 "P") None (signature (group ((name 1 18 "z") ∷ []) (integer (place 1 21)) no_clause no_groups) (group ((name 1 35 "y") ∷ []) (truth_type (place 1 38)) no_clause no_groups)) (record { locals = []; stmts = no_stmts })) ∷ [])

fault_14 : fault_of program_14 ≡ Some (1, record { at = place 1 16; kind = arity })
unfolding entity_of first_of_two function_number is_logical leads_to_itself meaning sort_of_type
fault_14 = refl

-- type B = bool;
-- procedure P(x: int) returns (y: bool);
-- implementation P(x: int) returns (y: B) { }
abbrev program_15 : List Decl
program_15 = (declaration "B" (synonym (name 1 6 "B") (Some (truth_type (place 1 10)))) ∷ declaration "P" (procedure (name 1 11 "P") None (signature (group ((name 1 13 "x") ∷ []) (integer (place 1 16)) no_clause no_groups) (group ((name 1 30 "y") ∷ []) (truth_type (place 1 33)) no_clause no_groups)) [] None) ∷ declaration "implementation P" (implementation (name 1 16 "P") None (signature (group ((name 1 18 "x") ∷ []) (integer (place 1 21)) no_clause no_groups) (group ((name 1 35 "y") ∷ []) (named (place 1 38) (name 1 38 "B")) no_clause no_groups)) (record { locals = []; stmts = no_stmts })) ∷ [])

fault_15 : fault_of program_15 ≡ None
unfolding entity_of first_of_two function_number is_logical leads_to_itself meaning sort_of_type
fault_15 = refl

-- var g: int;
-- procedure P(x: int) returns (r: int) modifies g; { var y: int; x := 1; }
abbrev program_16 : List Decl
program_16 = (declaration "g" (variables (group ((name 1 5 "g") ∷ []) (integer (place 1 8)) no_clause no_groups)) ∷ declaration "P" (procedure (name 1 11 "P") None (signature (group ((name 1 13 "x") ∷ []) (integer (place 1 16)) no_clause no_groups) (group ((name 1 30 "r") ∷ []) (integer (place 1 33)) no_clause no_groups)) (modifies (place 1 38) ((name 1 47 "g") ∷ []) ∷ []) (Some (record { locals = ((group ((name 1 56 "y") ∷ []) (integer (place 1 59)) no_clause no_groups) ∷ []); stmts = (next (stmt [] (place 1 64) (assign (record { name = (name 1 64 "x"); indices = no_exprs } ∷ []) (item (expression 1 69 (number 1)) no_exprs))) no_stmts) }))) ∷ [])

fault_16 : fault_of program_16 ≡ Some (1, record { at = place 1 64; kind = not_assignable })
unfolding entity_of first_of_two function_number is_logical leads_to_itself meaning sort_of_type
fault_16 = refl

-- var g: int;
-- procedure P(x: int) returns (r: int) modifies g; { var y: [int]int; g := 1; r := 2; y[3] := 4; havoc y, g; }
abbrev program_17 : List Decl
program_17 = (declaration "g" (variables (group ((name 1 5 "g") ∷ []) (integer (place 1 8)) no_clause no_groups)) ∷ declaration "P" (procedure (name 1 11 "P") None (signature (group ((name 1 13 "x") ∷ []) (integer (place 1 16)) no_clause no_groups) (group ((name 1 30 "r") ∷ []) (integer (place 1 33)) no_clause no_groups)) (modifies (place 1 38) ((name 1 47 "g") ∷ []) ∷ []) (Some (record { locals = ((group ((name 1 56 "y") ∷ []) (map_type (place 1 59) None (ty (integer (place 1 60)) no_tys) (integer (place 1 64))) no_clause no_groups) ∷ []); stmts = (next (stmt [] (place 1 69) (assign (record { name = (name 1 69 "g"); indices = no_exprs } ∷ []) (item (expression 1 74 (number 1)) no_exprs))) (next (stmt [] (place 1 77) (assign (record { name = (name 1 77 "r"); indices = no_exprs } ∷ []) (item (expression 1 82 (number 2)) no_exprs))) (next (stmt [] (place 1 85) (assign (record { name = (name 1 85 "y"); indices = (item (expression 1 87 (number 3)) no_exprs) } ∷ []) (item (expression 1 93 (number 4)) no_exprs))) (next (stmt [] (place 1 96) (havoc ((name 1 102 "y") ∷ (name 1 105 "g") ∷ []))) no_stmts)))) }))) ∷ [])

fault_17 : fault_of program_17 ≡ None
unfolding entity_of first_of_two function_number is_logical leads_to_itself meaning sort_of_type
fault_17 = refl

-- const c: int;
-- procedure P() { havoc c; }
abbrev program_18 : List Decl
program_18 = (declaration "c" (constant None ((name 1 7 "c") ∷ []) (integer (place 1 10))) ∷ declaration "P" (procedure (name 1 11 "P") None (signature no_groups no_groups) [] (Some (record { locals = []; stmts = (next (stmt [] (place 1 17) (havoc ((name 1 23 "c") ∷ []))) no_stmts) }))) ∷ [])

fault_18 : fault_of program_18 ≡ Some (1, record { at = place 1 23; kind = not_assignable })
unfolding entity_of first_of_two function_number is_logical leads_to_itself meaning sort_of_type
fault_18 = refl

-- var g: int;
-- procedure P() { g := 1; }
abbrev program_19 : List Decl
program_19 = (declaration "g" (variables (group ((name 1 5 "g") ∷ []) (integer (place 1 8)) no_clause no_groups)) ∷ declaration "P" (procedure (name 1 11 "P") None (signature no_groups no_groups) [] (Some (record { locals = []; stmts = (next (stmt [] (place 1 17) (assign (record { name = (name 1 17 "g"); indices = no_exprs } ∷ []) (item (expression 1 22 (number 1)) no_exprs))) no_stmts) }))) ∷ [])

fault_19 : fault_of program_19 ≡ Some (1, record { at = place 1 17; kind = not_modified })
unfolding entity_of first_of_two function_number is_logical leads_to_itself meaning sort_of_type
fault_19 = refl

-- var g: int;
-- procedure Q(); modifies g;
-- procedure P() { call Q(); }
abbrev program_20 : List Decl
program_20 = (declaration "g" (variables (group ((name 1 5 "g") ∷ []) (integer (place 1 8)) no_clause no_groups)) ∷ declaration "Q" (procedure (name 1 11 "Q") None (signature no_groups no_groups) (modifies (place 1 16) ((name 1 25 "g") ∷ []) ∷ []) None) ∷ declaration "P" (procedure (name 1 11 "P") None (signature no_groups no_groups) [] (Some (record { locals = []; stmts = (next (stmt [] (place 1 17) (call [] (name 1 22 "Q") no_exprs)) no_stmts) }))) ∷ [])

fault_20 : fault_of program_20 ≡ Some (2, record { at = place 1 22; kind = not_modified })
unfolding entity_of first_of_two function_number is_logical leads_to_itself meaning sort_of_type
fault_20 = refl

-- var g: int;
-- procedure Q(); modifies g, g;
-- procedure P() modifies g; { call Q(); }
abbrev program_21 : List Decl
program_21 = (declaration "g" (variables (group ((name 1 5 "g") ∷ []) (integer (place 1 8)) no_clause no_groups)) ∷ declaration "Q" (procedure (name 1 11 "Q") None (signature no_groups no_groups) (modifies (place 1 16) ((name 1 25 "g") ∷ (name 1 28 "g") ∷ []) ∷ []) None) ∷ declaration "P" (procedure (name 1 11 "P") None (signature no_groups no_groups) (modifies (place 1 15) ((name 1 24 "g") ∷ []) ∷ []) (Some (record { locals = []; stmts = (next (stmt [] (place 1 29) (call [] (name 1 34 "Q") no_exprs)) no_stmts) }))) ∷ [])

fault_21 : fault_of program_21 ≡ None
unfolding entity_of first_of_two function_number is_logical leads_to_itself meaning sort_of_type
fault_21 = refl
