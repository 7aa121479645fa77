-- The first faults of small programs with a name declared twice, unknown, or of a wrong kind, and of programs without, computed.
use Rattle.std.specs.Prelude.{◌≡◌, refl, true, false, List, [], ◌∷◌, Some, None}
use Rattle.bpl_ast.specs.Place.{integer, boolean as truth_type, named}
use Rattle.bpl_ast.specs.Tree.{eq, for_all, number, truth, variable, apply, quantified, related, no_exprs, item, no_triggers, no_groups, group, no_clause}
use Rattle.bpl_ast.specs.Statement.{stmt, assert, call, no_stmts, next, requires, ensures, modifies, constant, function, axiom_of, variables, synonym, procedure, implementation, Decl}
use Rattle.bpl_scopes.specs.declared.fault.TypeKind.TheVariants.{Twice as twice, Unknown as unknown, Kind as wrong_kind}
use Rattle.bpl_declaration_faults.specs.DeclFaults.{fault_of}
use Rattle.bpl_scopes.specs.Fault.{first_of_two}
use Rattle.bpl_scopes.specs.Scopes.{entity_of, meaning}
use Rattle.bpl_scopes.specs.Sorts.{sort_of_type}
use Rattle.bpl_scopes.specs.Functions.{function_number, is_logical, leads_to_itself}
use Rattle.program_tests.proofs.ExampleTrees.{place, name, expression, signature, declaration}

-- const a: int;
-- var a: int;
abbrev program_0 : List Decl
program_0 = (declaration "a" (constant None ((name 1 7 "a") ∷ []) (integer (place 1 10))) ∷ declaration "a" (variables (group ((name 1 5 "a") ∷ []) (integer (place 1 8)) no_clause no_groups)) ∷ [])

fault_0 : fault_of program_0 ≡ Some (1, record { at = place 1 5; kind = twice })
unfolding entity_of first_of_two function_number is_logical leads_to_itself meaning sort_of_type
fault_0 = refl

-- const a: int;
-- var b: int;
-- procedure P(a: int) { L: assert true; M: assert true; }
abbrev program_1 : List Decl
program_1 = (declaration "a" (constant None ((name 1 7 "a") ∷ []) (integer (place 1 10))) ∷ declaration "b" (variables (group ((name 1 5 "b") ∷ []) (integer (place 1 8)) no_clause no_groups)) ∷ declaration "P" (procedure (name 1 11 "P") None (signature (group ((name 1 13 "a") ∷ []) (integer (place 1 16)) no_clause no_groups) no_groups) [] (Some (record { locals = []; stmts = (next (stmt ((name 1 23 "L") ∷ []) (place 1 26) (assert (expression 1 33 (truth true)))) (next (stmt ((name 1 39 "M") ∷ []) (place 1 42) (assert (expression 1 49 (truth true)))) no_stmts)) }))) ∷ [])

fault_1 : fault_of program_1 ≡ None
unfolding entity_of first_of_two function_number is_logical leads_to_itself meaning sort_of_type
fault_1 = refl

-- procedure P() { L: assert true; L: assert true; }
abbrev program_2 : List Decl
program_2 = (declaration "P" (procedure (name 1 11 "P") None (signature no_groups no_groups) [] (Some (record { locals = []; stmts = (next (stmt ((name 1 17 "L") ∷ []) (place 1 20) (assert (expression 1 27 (truth true)))) (next (stmt ((name 1 33 "L") ∷ []) (place 1 36) (assert (expression 1 43 (truth true)))) no_stmts)) }))) ∷ [])

fault_2 : fault_of program_2 ≡ Some (0, record { at = place 1 33; kind = twice })
unfolding entity_of first_of_two function_number is_logical leads_to_itself meaning sort_of_type
fault_2 = refl

-- procedure P();
-- implementation P() { }
-- implementation P() { }
abbrev program_3 : List Decl
program_3 = (declaration "P" (procedure (name 1 11 "P") None (signature no_groups no_groups) [] None) ∷ declaration "implementation P" (implementation (name 1 16 "P") None (signature no_groups no_groups) (record { locals = []; stmts = no_stmts })) ∷ declaration "implementation P" (implementation (name 1 16 "P") None (signature no_groups no_groups) (record { locals = []; stmts = no_stmts })) ∷ [])

fault_3 : fault_of program_3 ≡ Some (2, record { at = place 1 16; kind = twice })
unfolding entity_of first_of_two function_number is_logical leads_to_itself meaning sort_of_type
fault_3 = refl

-- procedure P(x: int) { var y: int; var x: bool; }
abbrev program_4 : List Decl
program_4 = (declaration "P" (procedure (name 1 11 "P") None (signature (group ((name 1 13 "x") ∷ []) (integer (place 1 16)) no_clause no_groups) no_groups) [] (Some (record { locals = ((group ((name 1 27 "y") ∷ []) (integer (place 1 30)) no_clause no_groups) ∷ (group ((name 1 39 "x") ∷ []) (truth_type (place 1 42)) no_clause no_groups) ∷ []); stmts = no_stmts }))) ∷ [])

fault_4 : fault_of program_4 ≡ Some (0, record { at = place 1 39; kind = twice })
unfolding entity_of first_of_two function_number is_logical leads_to_itself meaning sort_of_type
fault_4 = refl

-- function f(x: int, x: int): int { x }
abbrev program_5 : List Decl
program_5 = (declaration "f" (function (name 1 10 "f") None (record { name = Some (name 1 12 "x"); type = (integer (place 1 15)) } ∷ record { name = Some (name 1 20 "x"); type = (integer (place 1 23)) } ∷ []) (integer (place 1 29)) (Some (expression 1 35 (variable (name 1 35 "x"))))) ∷ [])

fault_5 : fault_of program_5 ≡ Some (0, record { at = place 1 20; kind = twice })
unfolding entity_of first_of_two function_number is_logical leads_to_itself meaning sort_of_type
fault_5 = refl

-- procedure P(x: int) returns (y: int) ensures y == x; { assert x == y; }
abbrev program_6 : List Decl
program_6 = (declaration "P" (procedure (name 1 11 "P") None (signature (group ((name 1 13 "x") ∷ []) (integer (place 1 16)) no_clause no_groups) (group ((name 1 30 "y") ∷ []) (integer (place 1 33)) no_clause no_groups)) (ensures (place 1 38) false (expression 1 46 (related eq (expression 1 46 (variable (name 1 46 "y"))) (expression 1 51 (variable (name 1 51 "x"))))) ∷ []) (Some (record { locals = []; stmts = (next (stmt [] (place 1 56) (assert (expression 1 63 (related eq (expression 1 63 (variable (name 1 63 "x"))) (expression 1 68 (variable (name 1 68 "y"))))))) no_stmts) }))) ∷ [])

fault_6 : fault_of program_6 ≡ None
unfolding entity_of first_of_two function_number is_logical leads_to_itself meaning sort_of_type
fault_6 = refl

-- procedure P() { assert z == 1; }
abbrev program_7 : List Decl
program_7 = (declaration "P" (procedure (name 1 11 "P") None (signature no_groups no_groups) [] (Some (record { locals = []; stmts = (next (stmt [] (place 1 17) (assert (expression 1 24 (related eq (expression 1 24 (variable (name 1 24 "z"))) (expression 1 29 (number 1)))))) no_stmts) }))) ∷ [])

fault_7 : fault_of program_7 ≡ Some (0, record { at = place 1 24; kind = unknown })
unfolding entity_of first_of_two function_number is_logical leads_to_itself meaning sort_of_type
fault_7 = refl

-- procedure P() returns (r: int); requires r == 1;
abbrev program_8 : List Decl
program_8 = (declaration "P" (procedure (name 1 11 "P") None (signature no_groups (group ((name 1 24 "r") ∷ []) (integer (place 1 27)) no_clause no_groups)) (requires (place 1 33) false (expression 1 42 (related eq (expression 1 42 (variable (name 1 42 "r"))) (expression 1 47 (number 1)))) ∷ []) None) ∷ [])

fault_8 : fault_of program_8 ≡ Some (0, record { at = place 1 42; kind = unknown })
unfolding entity_of first_of_two function_number is_logical leads_to_itself meaning sort_of_type
fault_8 = refl

-- procedure P(x: nothing);
abbrev program_9 : List Decl
program_9 = (declaration "P" (procedure (name 1 11 "P") None (signature (group ((name 1 13 "x") ∷ []) (named (place 1 16) (name 1 16 "nothing")) no_clause no_groups) no_groups) [] None) ∷ [])

fault_9 : fault_of program_9 ≡ Some (0, record { at = place 1 16; kind = unknown })
unfolding entity_of first_of_two function_number is_logical leads_to_itself meaning sort_of_type
fault_9 = refl

-- procedure P() { call Q(); }
abbrev program_10 : List Decl
program_10 = (declaration "P" (procedure (name 1 11 "P") None (signature no_groups no_groups) [] (Some (record { locals = []; stmts = (next (stmt [] (place 1 17) (call [] (name 1 22 "Q") no_exprs)) no_stmts) }))) ∷ [])

fault_10 : fault_of program_10 ≡ Some (0, record { at = place 1 22; kind = unknown })
unfolding entity_of first_of_two function_number is_logical leads_to_itself meaning sort_of_type
fault_10 = refl

-- const c: bool;
-- function f(y: int): bool { c }
-- axiom f(1) == c;
abbrev program_11 : List Decl
program_11 = (declaration "c" (constant None ((name 1 7 "c") ∷ []) (truth_type (place 1 10))) ∷ declaration "f" (function (name 1 10 "f") None (record { name = Some (name 1 12 "y"); type = (integer (place 1 15)) } ∷ []) (truth_type (place 1 21)) (Some (expression 1 28 (variable (name 1 28 "c"))))) ∷ declaration "@1" (axiom_of (expression 1 7 (related eq (expression 1 7 (apply (name 1 7 "f") (item (expression 1 9 (number 1)) no_exprs))) (expression 1 15 (variable (name 1 15 "c")))))) ∷ [])

fault_11 : fault_of program_11 ≡ None
unfolding entity_of first_of_two function_number is_logical leads_to_itself meaning sort_of_type
fault_11 = refl

-- procedure P() { assert P == 1; }
abbrev program_12 : List Decl
program_12 = (declaration "P" (procedure (name 1 11 "P") None (signature no_groups no_groups) [] (Some (record { locals = []; stmts = (next (stmt [] (place 1 17) (assert (expression 1 24 (related eq (expression 1 24 (variable (name 1 24 "P"))) (expression 1 29 (number 1)))))) no_stmts) }))) ∷ [])

fault_12 : fault_of program_12 ≡ Some (0, record { at = place 1 24; kind = wrong_kind })
unfolding entity_of first_of_two function_number is_logical leads_to_itself meaning sort_of_type
fault_12 = refl

-- var g: int;
-- axiom g == 0;
abbrev program_13 : List Decl
program_13 = (declaration "g" (variables (group ((name 1 5 "g") ∷ []) (integer (place 1 8)) no_clause no_groups)) ∷ declaration "@1" (axiom_of (expression 1 7 (related eq (expression 1 7 (variable (name 1 7 "g"))) (expression 1 12 (number 0))))) ∷ [])

fault_13 : fault_of program_13 ≡ Some (1, record { at = place 1 7; kind = wrong_kind })
unfolding entity_of first_of_two function_number is_logical leads_to_itself meaning sort_of_type
fault_13 = refl

-- var g: int;
-- function f(y: int): int { g }
abbrev program_14 : List Decl
program_14 = (declaration "g" (variables (group ((name 1 5 "g") ∷ []) (integer (place 1 8)) no_clause no_groups)) ∷ declaration "f" (function (name 1 10 "f") None (record { name = Some (name 1 12 "y"); type = (integer (place 1 15)) } ∷ []) (integer (place 1 21)) (Some (expression 1 27 (variable (name 1 27 "g"))))) ∷ [])

fault_14 : fault_of program_14 ≡ Some (1, record { at = place 1 27; kind = wrong_kind })
unfolding entity_of first_of_two function_number is_logical leads_to_itself meaning sort_of_type
fault_14 = refl

-- type T = int;
-- procedure P(T: int) returns (y: T);
abbrev program_15 : List Decl
program_15 = (declaration "T" (synonym (name 1 6 "T") (Some (integer (place 1 10)))) ∷ declaration "P" (procedure (name 1 11 "P") None (signature (group ((name 1 13 "T") ∷ []) (integer (place 1 16)) no_clause no_groups) (group ((name 1 30 "y") ∷ []) (named (place 1 33) (name 1 33 "T")) no_clause no_groups)) [] None) ∷ [])

fault_15 : fault_of program_15 ≡ Some (1, record { at = place 1 33; kind = wrong_kind })
unfolding entity_of first_of_two function_number is_logical leads_to_itself meaning sort_of_type
fault_15 = refl

-- type T = int;
-- procedure P() { assert (forall T: T :: T == 1); }
abbrev program_16 : List Decl
program_16 = (declaration "T" (synonym (name 1 6 "T") (Some (integer (place 1 10)))) ∷ declaration "P" (procedure (name 1 11 "P") None (signature no_groups no_groups) [] (Some (record { locals = []; stmts = (next (stmt [] (place 1 17) (assert (expression 1 24 (quantified for_all (place 1 24) None (group ((name 1 32 "T") ∷ []) (named (place 1 35) (name 1 35 "T")) no_clause no_groups) no_triggers (expression 1 40 (related eq (expression 1 40 (variable (name 1 40 "T"))) (expression 1 45 (number 1)))))))) no_stmts) }))) ∷ [])

fault_16 : fault_of program_16 ≡ None
unfolding entity_of first_of_two function_number is_logical leads_to_itself meaning sort_of_type
fault_16 = refl

-- type T = int;
-- procedure P() { assert (forall T: int :: (forall y: T :: T == 1)); }
abbrev program_17 : List Decl
program_17 = (declaration "T" (synonym (name 1 6 "T") (Some (integer (place 1 10)))) ∷ declaration "P" (procedure (name 1 11 "P") None (signature no_groups no_groups) [] (Some (record { locals = []; stmts = (next (stmt [] (place 1 17) (assert (expression 1 24 (quantified for_all (place 1 24) None (group ((name 1 32 "T") ∷ []) (integer (place 1 35)) no_clause no_groups) no_triggers (expression 1 42 (quantified for_all (place 1 42) None (group ((name 1 50 "y") ∷ []) (named (place 1 53) (name 1 53 "T")) no_clause no_groups) no_triggers (expression 1 58 (related eq (expression 1 58 (variable (name 1 58 "T"))) (expression 1 63 (number 1)))))))))) no_stmts) }))) ∷ [])

fault_17 : fault_of program_17 ≡ Some (1, record { at = place 1 53; kind = wrong_kind })
unfolding entity_of first_of_two function_number is_logical leads_to_itself meaning sort_of_type
fault_17 = refl

-- procedure P(x: int); modifies x;
abbrev program_18 : List Decl
program_18 = (declaration "P" (procedure (name 1 11 "P") None (signature (group ((name 1 13 "x") ∷ []) (integer (place 1 16)) no_clause no_groups) no_groups) (modifies (place 1 22) ((name 1 31 "x") ∷ []) ∷ []) None) ∷ [])

fault_18 : fault_of program_18 ≡ Some (0, record { at = place 1 31; kind = wrong_kind })
unfolding entity_of first_of_two function_number is_logical leads_to_itself meaning sort_of_type
fault_18 = refl
