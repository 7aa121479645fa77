-- The first faults of small programs with where clauses, with and without a fault, computed.
use Rattle.std.specs.Prelude.{◌≡◌, refl, true, false, List, [], ◌∷◌, Some, None}
use Rattle.bpl_ast.specs.Place.{integer, boolean as truth_type, named, map_type, no_tys, ty}
use Rattle.bpl_ast.specs.Tree.{eq, lt, gt, ge, for_all, exists, number, truth, variable, apply, old, choose, quantified, ands, related, sums, indexed, no_exprs, item, no_terms, plus, no_indices, at_index, no_triggers, trigger, no_groups, group, no_clause, clause}
use Rattle.bpl_ast.specs.Statement.{stmt, assert, havoc, assign, call, loop, no_stmts, next, modifies, constant, function, axiom_of, variables, synonym, procedure, implementation, Decl}
use Rattle.bpl_scopes.specs.declared.fault.TypeKind.TheVariants.{Unknown as unknown, Kind as wrong_kind, Sort as wrong_sort, Arity as arity, OldHere as old_here, QuantifierHere as quantifier_here, Cycle as cycle, Unbuilt as unbuilt}
use Rattle.bpl_scopes.specs.declared.fault.Construct.TheVariants.{WhereWord as where_word}
use Rattle.bpl_declaration_faults.specs.DeclFaults.{fault_of}
use Rattle.bpl_scopes.specs.Fault.{first_of_two}
use Rattle.bpl_scopes.specs.Scopes.{entity_of, meaning}
use Rattle.bpl_scopes.specs.Sorts.{sort_of_type}
use Rattle.bpl_scopes.specs.Functions.{function_number, is_logical, leads_to_itself}
use Rattle.program_tests.proofs.ExampleTrees.{place, name, expression, signature, declaration}

-- procedure A() returns (r: int where r >= 0);
-- procedure B() {
--   var x: int where x > 0;
--   call x := A();
--   assert x >= 0;
--   assert x > 0;
--   havoc x;
--   assert x > 0;
-- }
abbrev program_0 : List Decl
program_0 = (declaration "A" (procedure (name 1 11 "A") None (signature no_groups (group ((name 1 24 "r") ∷ []) (integer (place 1 27)) (clause (place 1 31) (expression 1 37 (related ge (expression 1 37 (variable (name 1 37 "r"))) (expression 1 42 (number 0))))) no_groups)) [] None) ∷ declaration "B" (procedure (name 1 11 "B") None (signature no_groups no_groups) [] (Some (record { locals = ((group ((name 2 7 "x") ∷ []) (integer (place 2 10)) (clause (place 2 14) (expression 2 20 (related gt (expression 2 20 (variable (name 2 20 "x"))) (expression 2 24 (number 0))))) no_groups) ∷ []); stmts = (next (stmt [] (place 3 3) (call ((name 3 8 "x") ∷ []) (name 3 13 "A") no_exprs)) (next (stmt [] (place 4 3) (assert (expression 4 10 (related ge (expression 4 10 (variable (name 4 10 "x"))) (expression 4 15 (number 0)))))) (next (stmt [] (place 5 3) (assert (expression 5 10 (related gt (expression 5 10 (variable (name 5 10 "x"))) (expression 5 14 (number 0)))))) (next (stmt [] (place 6 3) (havoc ((name 6 9 "x") ∷ []))) (next (stmt [] (place 7 3) (assert (expression 7 10 (related gt (expression 7 10 (variable (name 7 10 "x"))) (expression 7 14 (number 0)))))) no_stmts))))) }))) ∷ [])

fault_0 : fault_of program_0 ≡ None
unfolding entity_of first_of_two function_number is_logical leads_to_itself meaning sort_of_type
fault_0 = refl

-- var g: int where g > 0;
-- procedure D() { assert g > 0; }
abbrev program_1 : List Decl
program_1 = (declaration "g" (variables (group ((name 1 5 "g") ∷ []) (integer (place 1 8)) (clause (place 1 12) (expression 1 18 (related gt (expression 1 18 (variable (name 1 18 "g"))) (expression 1 22 (number 0))))) no_groups)) ∷ declaration "D" (procedure (name 1 11 "D") None (signature no_groups no_groups) [] (Some (record { locals = []; stmts = (next (stmt [] (place 1 17) (assert (expression 1 24 (related gt (expression 1 24 (variable (name 1 24 "g"))) (expression 1 28 (number 0)))))) no_stmts) }))) ∷ [])

fault_1 : fault_of program_1 ≡ None
unfolding entity_of first_of_two function_number is_logical leads_to_itself meaning sort_of_type
fault_1 = refl

-- var g: int where g > k;
-- const k: int;
-- axiom k > 5;
-- procedure A();
--   modifies g;
-- procedure B()
--   modifies g;
-- { g := 0; call A(); assert g > 5; g := 0; assert g > 5; }
abbrev program_2 : List Decl
program_2 = (declaration "g" (variables (group ((name 1 5 "g") ∷ []) (integer (place 1 8)) (clause (place 1 12) (expression 1 18 (related gt (expression 1 18 (variable (name 1 18 "g"))) (expression 1 22 (variable (name 1 22 "k")))))) no_groups)) ∷ declaration "k" (constant None ((name 1 7 "k") ∷ []) (integer (place 1 10))) ∷ declaration "@1" (axiom_of (expression 1 7 (related gt (expression 1 7 (variable (name 1 7 "k"))) (expression 1 11 (number 5))))) ∷ declaration "A" (procedure (name 1 11 "A") None (signature no_groups no_groups) (modifies (place 2 3) ((name 2 12 "g") ∷ []) ∷ []) None) ∷ declaration "B" (procedure (name 1 11 "B") None (signature no_groups no_groups) (modifies (place 2 3) ((name 2 12 "g") ∷ []) ∷ []) (Some (record { locals = []; stmts = (next (stmt [] (place 3 3) (assign (record { name = (name 3 3 "g"); indices = no_exprs } ∷ []) (item (expression 3 8 (number 0)) no_exprs))) (next (stmt [] (place 3 11) (call [] (name 3 16 "A") no_exprs)) (next (stmt [] (place 3 21) (assert (expression 3 28 (related gt (expression 3 28 (variable (name 3 28 "g"))) (expression 3 32 (number 5)))))) (next (stmt [] (place 3 35) (assign (record { name = (name 3 35 "g"); indices = no_exprs } ∷ []) (item (expression 3 40 (number 0)) no_exprs))) (next (stmt [] (place 3 43) (assert (expression 3 50 (related gt (expression 3 50 (variable (name 3 50 "g"))) (expression 3 54 (number 5)))))) no_stmts))))) }))) ∷ [])

fault_2 : fault_of program_2 ≡ None
unfolding entity_of first_of_two function_number is_logical leads_to_itself meaning sort_of_type
fault_2 = refl

-- axiom (forall i: int where i > 0 :: i > 0);
abbrev program_3 : List Decl
program_3 = (declaration "@1" (axiom_of (expression 1 7 (quantified for_all (place 1 7) None (group ((name 1 15 "i") ∷ []) (integer (place 1 18)) (clause (place 1 22) (expression 1 28 (related gt (expression 1 28 (variable (name 1 28 "i"))) (expression 1 32 (number 0))))) no_groups) no_triggers (expression 1 37 (related gt (expression 1 37 (variable (name 1 37 "i"))) (expression 1 41 (number 0))))))) ∷ [])

fault_3 : fault_of program_3 ≡ Some (0, record { at = place 1 22; kind = (unbuilt where_word) })
unfolding entity_of first_of_two function_number is_logical leads_to_itself meaning sort_of_type
fault_3 = refl

-- procedure P(x: int);
-- implementation P(x: int where x > 0) { }
abbrev program_4 : List Decl
program_4 = (declaration "P" (procedure (name 1 11 "P") None (signature (group ((name 1 13 "x") ∷ []) (integer (place 1 16)) no_clause no_groups) no_groups) [] None) ∷ declaration "implementation P" (implementation (name 1 16 "P") None (signature (group ((name 1 18 "x") ∷ []) (integer (place 1 21)) (clause (place 1 25) (expression 1 31 (related gt (expression 1 31 (variable (name 1 31 "x"))) (expression 1 35 (number 0))))) no_groups) no_groups) (record { locals = []; stmts = no_stmts })) ∷ [])

fault_4 : fault_of program_4 ≡ Some (1, record { at = place 1 25; kind = (unbuilt where_word) })
unfolding entity_of first_of_two function_number is_logical leads_to_itself meaning sort_of_type
fault_4 = refl

-- procedure A(n: int where n > 0) { assert n > 0; }
-- procedure B() { call A(0); }
abbrev program_5 : List Decl
program_5 = (declaration "A" (procedure (name 1 11 "A") None (signature (group ((name 1 13 "n") ∷ []) (integer (place 1 16)) (clause (place 1 20) (expression 1 26 (related gt (expression 1 26 (variable (name 1 26 "n"))) (expression 1 30 (number 0))))) no_groups) no_groups) [] (Some (record { locals = []; stmts = (next (stmt [] (place 1 35) (assert (expression 1 42 (related gt (expression 1 42 (variable (name 1 42 "n"))) (expression 1 46 (number 0)))))) no_stmts) }))) ∷ declaration "B" (procedure (name 1 11 "B") None (signature no_groups no_groups) [] (Some (record { locals = []; stmts = (next (stmt [] (place 1 17) (call [] (name 1 22 "A") (item (expression 1 24 (number 0)) no_exprs))) no_stmts) }))) ∷ [])

fault_5 : fault_of program_5 ≡ None
unfolding entity_of first_of_two function_number is_logical leads_to_itself meaning sort_of_type
fault_5 = refl

-- procedure P(n: int) { var x: int where x > n && x > y; var y: int where y > 1; assert x > 1; }
abbrev program_6 : List Decl
program_6 = (declaration "P" (procedure (name 1 11 "P") None (signature (group ((name 1 13 "n") ∷ []) (integer (place 1 16)) no_clause no_groups) no_groups) [] (Some (record { locals = ((group ((name 1 27 "x") ∷ []) (integer (place 1 30)) (clause (place 1 34) (expression 1 40 (ands (item (expression 1 40 (related gt (expression 1 40 (variable (name 1 40 "x"))) (expression 1 44 (variable (name 1 44 "n"))))) (item (expression 1 49 (related gt (expression 1 49 (variable (name 1 49 "x"))) (expression 1 53 (variable (name 1 53 "y"))))) no_exprs))))) no_groups) ∷ (group ((name 1 60 "y") ∷ []) (integer (place 1 63)) (clause (place 1 67) (expression 1 73 (related gt (expression 1 73 (variable (name 1 73 "y"))) (expression 1 77 (number 1))))) no_groups) ∷ []); stmts = (next (stmt [] (place 1 80) (assert (expression 1 87 (related gt (expression 1 87 (variable (name 1 87 "x"))) (expression 1 91 (number 1)))))) no_stmts) }))) ∷ [])

fault_6 : fault_of program_6 ≡ None
unfolding entity_of first_of_two function_number is_logical leads_to_itself meaning sort_of_type
fault_6 = refl

-- procedure C() {
--   var i: int where i >= 0;
--   i := 0;
--   while (*) { i := i + 1; }
--   assert i >= 0;
-- }
abbrev program_7 : List Decl
program_7 = (declaration "C" (procedure (name 1 11 "C") None (signature no_groups no_groups) [] (Some (record { locals = ((group ((name 2 7 "i") ∷ []) (integer (place 2 10)) (clause (place 2 14) (expression 2 20 (related ge (expression 2 20 (variable (name 2 20 "i"))) (expression 2 25 (number 0))))) no_groups) ∷ []); stmts = (next (stmt [] (place 3 3) (assign (record { name = (name 3 3 "i"); indices = no_exprs } ∷ []) (item (expression 3 8 (number 0)) no_exprs))) (next (stmt [] (place 4 3) (loop None [] (next (stmt [] (place 4 15) (assign (record { name = (name 4 15 "i"); indices = no_exprs } ∷ []) (item (expression 4 20 (sums (expression 4 20 (variable (name 4 20 "i"))) (plus (expression 4 24 (number 1)) no_terms))) no_exprs))) no_stmts))) (next (stmt [] (place 5 3) (assert (expression 5 10 (related ge (expression 5 10 (variable (name 5 10 "i"))) (expression 5 15 (number 0)))))) no_stmts))) }))) ∷ [])

fault_7 : fault_of program_7 ≡ None
unfolding entity_of first_of_two function_number is_logical leads_to_itself meaning sort_of_type
fault_7 = refl

-- procedure F(x: int where old(x) > 0);
abbrev program_8 : List Decl
program_8 = (declaration "F" (procedure (name 1 11 "F") None (signature (group ((name 1 13 "x") ∷ []) (integer (place 1 16)) (clause (place 1 20) (expression 1 26 (related gt (expression 1 26 (old (place 1 26) (expression 1 30 (variable (name 1 30 "x"))))) (expression 1 35 (number 0))))) no_groups) no_groups) [] None) ∷ [])

fault_8 : fault_of program_8 ≡ Some (0, record { at = place 1 26; kind = old_here })
unfolding entity_of first_of_two function_number is_logical leads_to_itself meaning sort_of_type
fault_8 = refl

-- procedure P(x: int where r > 0) returns (r: int);
abbrev program_9 : List Decl
program_9 = (declaration "P" (procedure (name 1 11 "P") None (signature (group ((name 1 13 "x") ∷ []) (integer (place 1 16)) (clause (place 1 20) (expression 1 26 (related gt (expression 1 26 (variable (name 1 26 "r"))) (expression 1 30 (number 0))))) no_groups) (group ((name 1 42 "r") ∷ []) (integer (place 1 45)) no_clause no_groups)) [] None) ∷ [])

fault_9 : fault_of program_9 ≡ Some (0, record { at = place 1 26; kind = unknown })
unfolding entity_of first_of_two function_number is_logical leads_to_itself meaning sort_of_type
fault_9 = refl

-- var g: int where g;
abbrev program_10 : List Decl
program_10 = (declaration "g" (variables (group ((name 1 5 "g") ∷ []) (integer (place 1 8)) (clause (place 1 12) (expression 1 18 (variable (name 1 18 "g")))) no_groups)) ∷ [])

fault_10 : fault_of program_10 ≡ Some (0, record { at = place 1 18; kind = wrong_sort })
unfolding entity_of first_of_two function_number is_logical leads_to_itself meaning sort_of_type
fault_10 = refl

-- var g: int where x > 0;
abbrev program_11 : List Decl
program_11 = (declaration "g" (variables (group ((name 1 5 "g") ∷ []) (integer (place 1 8)) (clause (place 1 12) (expression 1 18 (related gt (expression 1 18 (variable (name 1 18 "x"))) (expression 1 22 (number 0))))) no_groups)) ∷ [])

fault_11 : fault_of program_11 ≡ Some (0, record { at = place 1 18; kind = unknown })
unfolding entity_of first_of_two function_number is_logical leads_to_itself meaning sort_of_type
fault_11 = refl

-- procedure P() returns (r: int where r > x) { var x: int; }
abbrev program_12 : List Decl
program_12 = (declaration "P" (procedure (name 1 11 "P") None (signature no_groups (group ((name 1 24 "r") ∷ []) (integer (place 1 27)) (clause (place 1 31) (expression 1 37 (related gt (expression 1 37 (variable (name 1 37 "r"))) (expression 1 41 (variable (name 1 41 "x")))))) no_groups)) [] (Some (record { locals = ((group ((name 1 50 "x") ∷ []) (integer (place 1 53)) no_clause no_groups) ∷ []); stmts = no_stmts }))) ∷ [])

fault_12 : fault_of program_12 ≡ Some (0, record { at = place 1 41; kind = unknown })
unfolding entity_of first_of_two function_number is_logical leads_to_itself meaning sort_of_type
fault_12 = refl

-- type T = int;
-- var g: T where T == 1;
abbrev program_13 : List Decl
program_13 = (declaration "T" (synonym (name 1 6 "T") (Some (integer (place 1 10)))) ∷ declaration "g" (variables (group ((name 1 5 "g") ∷ []) (named (place 1 8) (name 1 8 "T")) (clause (place 1 10) (expression 1 16 (related eq (expression 1 16 (variable (name 1 16 "T"))) (expression 1 21 (number 1))))) no_groups)) ∷ [])

fault_13 : fault_of program_13 ≡ Some (1, record { at = place 1 16; kind = unknown })
unfolding entity_of first_of_two function_number is_logical leads_to_itself meaning sort_of_type
fault_13 = refl

-- procedure Q();
-- var g: int where Q(g) == 1;
abbrev program_14 : List Decl
program_14 = (declaration "Q" (procedure (name 1 11 "Q") None (signature no_groups no_groups) [] None) ∷ declaration "g" (variables (group ((name 1 5 "g") ∷ []) (integer (place 1 8)) (clause (place 1 12) (expression 1 18 (related eq (expression 1 18 (apply (name 1 18 "Q") (item (expression 1 20 (variable (name 1 20 "g"))) no_exprs))) (expression 1 26 (number 1))))) no_groups)) ∷ [])

fault_14 : fault_of program_14 ≡ Some (1, record { at = place 1 18; kind = unknown })
unfolding entity_of first_of_two function_number is_logical leads_to_itself meaning sort_of_type
fault_14 = refl

-- procedure Q();
-- procedure P() returns (r: int where Q == r);
abbrev program_15 : List Decl
program_15 = (declaration "Q" (procedure (name 1 11 "Q") None (signature no_groups no_groups) [] None) ∷ declaration "P" (procedure (name 1 11 "P") None (signature no_groups (group ((name 1 24 "r") ∷ []) (integer (place 1 27)) (clause (place 1 31) (expression 1 37 (related eq (expression 1 37 (variable (name 1 37 "Q"))) (expression 1 42 (variable (name 1 42 "r")))))) no_groups)) [] None) ∷ [])

fault_15 : fault_of program_15 ≡ Some (1, record { at = place 1 37; kind = unknown })
unfolding entity_of first_of_two function_number is_logical leads_to_itself meaning sort_of_type
fault_15 = refl

-- procedure Q();
-- procedure P() { var x: int where Q == x; }
abbrev program_16 : List Decl
program_16 = (declaration "Q" (procedure (name 1 11 "Q") None (signature no_groups no_groups) [] None) ∷ declaration "P" (procedure (name 1 11 "P") None (signature no_groups no_groups) [] (Some (record { locals = ((group ((name 1 21 "x") ∷ []) (integer (place 1 24)) (clause (place 1 28) (expression 1 34 (related eq (expression 1 34 (variable (name 1 34 "Q"))) (expression 1 39 (variable (name 1 39 "x")))))) no_groups) ∷ []); stmts = no_stmts }))) ∷ [])

fault_16 : fault_of program_16 ≡ Some (1, record { at = place 1 34; kind = wrong_kind })
unfolding entity_of first_of_two function_number is_logical leads_to_itself meaning sort_of_type
fault_16 = refl

-- function f(i: int): int { i }
-- var g: int where f > 0;
abbrev program_17 : List Decl
program_17 = (declaration "f" (function (name 1 10 "f") None (record { name = Some (name 1 12 "i"); type = (integer (place 1 15)) } ∷ []) (integer (place 1 21)) (Some (expression 1 27 (variable (name 1 27 "i"))))) ∷ declaration "g" (variables (group ((name 1 5 "g") ∷ []) (integer (place 1 8)) (clause (place 1 12) (expression 1 18 (related gt (expression 1 18 (variable (name 1 18 "f"))) (expression 1 22 (number 0))))) no_groups)) ∷ [])

fault_17 : fault_of program_17 ≡ Some (1, record { at = place 1 18; kind = wrong_kind })
unfolding entity_of first_of_two function_number is_logical leads_to_itself meaning sort_of_type
fault_17 = refl

-- function f(i: int): int { i }
-- var g: int where f(g, 1) > 0;
abbrev program_18 : List Decl
program_18 = (declaration "f" (function (name 1 10 "f") None (record { name = Some (name 1 12 "i"); type = (integer (place 1 15)) } ∷ []) (integer (place 1 21)) (Some (expression 1 27 (variable (name 1 27 "i"))))) ∷ declaration "g" (variables (group ((name 1 5 "g") ∷ []) (integer (place 1 8)) (clause (place 1 12) (expression 1 18 (related gt (expression 1 18 (apply (name 1 18 "f") (item (expression 1 20 (variable (name 1 20 "g"))) (item (expression 1 23 (number 1)) no_exprs)))) (expression 1 28 (number 0))))) no_groups)) ∷ [])

fault_18 : fault_of program_18 ≡ Some (1, record { at = place 1 18; kind = arity })
unfolding entity_of first_of_two function_number is_logical leads_to_itself meaning sort_of_type
fault_18 = refl

-- procedure P() { var x: int where old(x) > 0; }
abbrev program_19 : List Decl
program_19 = (declaration "P" (procedure (name 1 11 "P") None (signature no_groups no_groups) [] (Some (record { locals = ((group ((name 1 21 "x") ∷ []) (integer (place 1 24)) (clause (place 1 28) (expression 1 34 (related gt (expression 1 34 (old (place 1 34) (expression 1 38 (variable (name 1 38 "x"))))) (expression 1 43 (number 0))))) no_groups) ∷ []); stmts = no_stmts }))) ∷ [])

fault_19 : fault_of program_19 ≡ Some (0, record { at = place 1 34; kind = old_here })
unfolding entity_of first_of_two function_number is_logical leads_to_itself meaning sort_of_type
fault_19 = refl

-- var g: int where old(g) > 0;
abbrev program_20 : List Decl
program_20 = (declaration "g" (variables (group ((name 1 5 "g") ∷ []) (integer (place 1 8)) (clause (place 1 12) (expression 1 18 (related gt (expression 1 18 (old (place 1 18) (expression 1 22 (variable (name 1 22 "g"))))) (expression 1 27 (number 0))))) no_groups)) ∷ [])

fault_20 : fault_of program_20 ≡ Some (0, record { at = place 1 18; kind = old_here })
unfolding entity_of first_of_two function_number is_logical leads_to_itself meaning sort_of_type
fault_20 = refl

-- procedure P() returns (r: int where r == old(g)) { }
-- var g: int;
abbrev program_21 : List Decl
program_21 = (declaration "P" (procedure (name 1 11 "P") None (signature no_groups (group ((name 1 24 "r") ∷ []) (integer (place 1 27)) (clause (place 1 31) (expression 1 37 (related eq (expression 1 37 (variable (name 1 37 "r"))) (expression 1 42 (old (place 1 42) (expression 1 46 (variable (name 1 46 "g")))))))) no_groups)) [] (Some (record { locals = []; stmts = no_stmts }))) ∷ declaration "g" (variables (group ((name 1 5 "g") ∷ []) (integer (place 1 8)) no_clause no_groups)) ∷ [])

fault_21 : fault_of program_21 ≡ Some (0, record { at = place 1 42; kind = old_here })
unfolding entity_of first_of_two function_number is_logical leads_to_itself meaning sort_of_type
fault_21 = refl

-- function q(i: int): bool { (forall j: int :: j == i) }
-- var g: int where q(g) && (exists k: int :: k == g);
abbrev program_22 : List Decl
program_22 = (declaration "q" (function (name 1 10 "q") None (record { name = Some (name 1 12 "i"); type = (integer (place 1 15)) } ∷ []) (truth_type (place 1 21)) (Some (expression 1 28 (quantified for_all (place 1 28) None (group ((name 1 36 "j") ∷ []) (integer (place 1 39)) no_clause no_groups) no_triggers (expression 1 46 (related eq (expression 1 46 (variable (name 1 46 "j"))) (expression 1 51 (variable (name 1 51 "i"))))))))) ∷ declaration "g" (variables (group ((name 1 5 "g") ∷ []) (integer (place 1 8)) (clause (place 1 12) (expression 1 18 (ands (item (expression 1 18 (apply (name 1 18 "q") (item (expression 1 20 (variable (name 1 20 "g"))) no_exprs))) (item (expression 1 26 (quantified exists (place 1 26) None (group ((name 1 34 "k") ∷ []) (integer (place 1 37)) no_clause no_groups) no_triggers (expression 1 44 (related eq (expression 1 44 (variable (name 1 44 "k"))) (expression 1 49 (variable (name 1 49 "g"))))))) no_exprs))))) no_groups)) ∷ [])

fault_22 : fault_of program_22 ≡ None
unfolding entity_of first_of_two function_number is_logical leads_to_itself meaning sort_of_type
fault_22 = refl

-- var g: int where if (forall j: int :: j == g) then true else false;
abbrev program_23 : List Decl
program_23 = (declaration "g" (variables (group ((name 1 5 "g") ∷ []) (integer (place 1 8)) (clause (place 1 12) (expression 1 18 (choose (expression 1 21 (quantified for_all (place 1 21) None (group ((name 1 29 "j") ∷ []) (integer (place 1 32)) no_clause no_groups) no_triggers (expression 1 39 (related eq (expression 1 39 (variable (name 1 39 "j"))) (expression 1 44 (variable (name 1 44 "g"))))))) (expression 1 52 (truth true)) (expression 1 62 (truth false))))) no_groups)) ∷ [])

fault_23 : fault_of program_23 ≡ Some (0, record { at = place 1 21; kind = quantifier_here })
unfolding entity_of first_of_two function_number is_logical leads_to_itself meaning sort_of_type
fault_23 = refl

-- procedure P(x, y: int where x < y) returns (r: int where r > x && g > 0);
-- var g, h: int where c == g + h;
-- const c: int;
abbrev program_24 : List Decl
program_24 = (declaration "P" (procedure (name 1 11 "P") None (signature (group ((name 1 13 "x") ∷ (name 1 16 "y") ∷ []) (integer (place 1 19)) (clause (place 1 23) (expression 1 29 (related lt (expression 1 29 (variable (name 1 29 "x"))) (expression 1 33 (variable (name 1 33 "y")))))) no_groups) (group ((name 1 45 "r") ∷ []) (integer (place 1 48)) (clause (place 1 52) (expression 1 58 (ands (item (expression 1 58 (related gt (expression 1 58 (variable (name 1 58 "r"))) (expression 1 62 (variable (name 1 62 "x"))))) (item (expression 1 67 (related gt (expression 1 67 (variable (name 1 67 "g"))) (expression 1 71 (number 0)))) no_exprs))))) no_groups)) [] None) ∷ declaration "g" (variables (group ((name 1 5 "g") ∷ (name 1 8 "h") ∷ []) (integer (place 1 11)) (clause (place 1 15) (expression 1 21 (related eq (expression 1 21 (variable (name 1 21 "c"))) (expression 1 26 (sums (expression 1 26 (variable (name 1 26 "g"))) (plus (expression 1 30 (variable (name 1 30 "h"))) no_terms)))))) no_groups)) ∷ declaration "c" (constant None ((name 1 7 "c") ∷ []) (integer (place 1 10))) ∷ [])

fault_24 : fault_of program_24 ≡ None
unfolding entity_of first_of_two function_number is_logical leads_to_itself meaning sort_of_type
fault_24 = refl

-- procedure P(x: int where (forall x: bool :: x)) { var y: int where y == x + 1, z: bool where z == (y == x); var v: int where v == w; var w: int; }
abbrev program_25 : List Decl
program_25 = (declaration "P" (procedure (name 1 11 "P") None (signature (group ((name 1 13 "x") ∷ []) (integer (place 1 16)) (clause (place 1 20) (expression 1 26 (quantified for_all (place 1 26) None (group ((name 1 34 "x") ∷ []) (truth_type (place 1 37)) no_clause no_groups) no_triggers (expression 1 45 (variable (name 1 45 "x")))))) no_groups) no_groups) [] (Some (record { locals = ((group ((name 1 55 "y") ∷ []) (integer (place 1 58)) (clause (place 1 62) (expression 1 68 (related eq (expression 1 68 (variable (name 1 68 "y"))) (expression 1 73 (sums (expression 1 73 (variable (name 1 73 "x"))) (plus (expression 1 77 (number 1)) no_terms)))))) (group ((name 1 80 "z") ∷ []) (truth_type (place 1 83)) (clause (place 1 88) (expression 1 94 (related eq (expression 1 94 (variable (name 1 94 "z"))) (expression 1 99 (related eq (expression 1 100 (variable (name 1 100 "y"))) (expression 1 105 (variable (name 1 105 "x")))))))) no_groups)) ∷ (group ((name 1 113 "v") ∷ []) (integer (place 1 116)) (clause (place 1 120) (expression 1 126 (related eq (expression 1 126 (variable (name 1 126 "v"))) (expression 1 131 (variable (name 1 131 "w")))))) no_groups) ∷ (group ((name 1 138 "w") ∷ []) (integer (place 1 141)) no_clause no_groups) ∷ []); stmts = no_stmts }))) ∷ [])

fault_25 : fault_of program_25 ≡ None
unfolding entity_of first_of_two function_number is_logical leads_to_itself meaning sort_of_type
fault_25 = refl

-- var g: bool where (forall i: int where i == 1 :: g);
abbrev program_26 : List Decl
program_26 = (declaration "g" (variables (group ((name 1 5 "g") ∷ []) (truth_type (place 1 8)) (clause (place 1 13) (expression 1 19 (quantified for_all (place 1 19) None (group ((name 1 27 "i") ∷ []) (integer (place 1 30)) (clause (place 1 34) (expression 1 40 (related eq (expression 1 40 (variable (name 1 40 "i"))) (expression 1 45 (number 1))))) no_groups) no_triggers (expression 1 50 (variable (name 1 50 "g")))))) no_groups)) ∷ [])

fault_26 : fault_of program_26 ≡ Some (0, record { at = place 1 34; kind = (unbuilt where_word) })
unfolding entity_of first_of_two function_number is_logical leads_to_itself meaning sort_of_type
fault_26 = refl

-- procedure P(x: int) { var y: int where y == z; }
abbrev program_27 : List Decl
program_27 = (declaration "P" (procedure (name 1 11 "P") None (signature (group ((name 1 13 "x") ∷ []) (integer (place 1 16)) no_clause no_groups) no_groups) [] (Some (record { locals = ((group ((name 1 27 "y") ∷ []) (integer (place 1 30)) (clause (place 1 34) (expression 1 40 (related eq (expression 1 40 (variable (name 1 40 "y"))) (expression 1 45 (variable (name 1 45 "z")))))) no_groups) ∷ []); stmts = no_stmts }))) ∷ [])

fault_27 : fault_of program_27 ≡ Some (0, record { at = place 1 45; kind = unknown })
unfolding entity_of first_of_two function_number is_logical leads_to_itself meaning sort_of_type
fault_27 = refl

-- var m: [int]int where (forall i: int :: {m[i]} m[i] == 0);
-- procedure P(m: [int]bool where m[1] == true) { }
abbrev program_28 : List Decl
program_28 = (declaration "m" (variables (group ((name 1 5 "m") ∷ []) (map_type (place 1 8) None (ty (integer (place 1 9)) no_tys) (integer (place 1 13))) (clause (place 1 17) (expression 1 23 (quantified for_all (place 1 23) None (group ((name 1 31 "i") ∷ []) (integer (place 1 34)) no_clause no_groups) (trigger (place 1 41) (item (expression 1 42 (indexed (expression 1 42 (variable (name 1 42 "m"))) (at_index (expression 1 44 (variable (name 1 44 "i"))) no_indices))) no_exprs) no_triggers) (expression 1 48 (related eq (expression 1 48 (indexed (expression 1 48 (variable (name 1 48 "m"))) (at_index (expression 1 50 (variable (name 1 50 "i"))) no_indices))) (expression 1 56 (number 0))))))) no_groups)) ∷ declaration "P" (procedure (name 1 11 "P") None (signature (group ((name 1 13 "m") ∷ []) (map_type (place 1 16) None (ty (integer (place 1 17)) no_tys) (truth_type (place 1 21))) (clause (place 1 26) (expression 1 32 (related eq (expression 1 32 (indexed (expression 1 32 (variable (name 1 32 "m"))) (at_index (expression 1 34 (number 1)) no_indices))) (expression 1 40 (truth true))))) no_groups) no_groups) [] (Some (record { locals = []; stmts = no_stmts }))) ∷ [])

fault_28 : fault_of program_28 ≡ None
unfolding entity_of first_of_two function_number is_logical leads_to_itself meaning sort_of_type
fault_28 = refl

-- procedure P(x: int);
-- implementation P(x: int) { var y: int where y > x && y; }
abbrev program_29 : List Decl
program_29 = (declaration "P" (procedure (name 1 11 "P") None (signature (group ((name 1 13 "x") ∷ []) (integer (place 1 16)) no_clause no_groups) no_groups) [] None) ∷ declaration "implementation P" (implementation (name 1 16 "P") None (signature (group ((name 1 18 "x") ∷ []) (integer (place 1 21)) no_clause no_groups) no_groups) (record { locals = ((group ((name 1 32 "y") ∷ []) (integer (place 1 35)) (clause (place 1 39) (expression 1 45 (ands (item (expression 1 45 (related gt (expression 1 45 (variable (name 1 45 "y"))) (expression 1 49 (variable (name 1 49 "x"))))) (item (expression 1 54 (variable (name 1 54 "y"))) no_exprs))))) no_groups) ∷ []); stmts = no_stmts })) ∷ [])

fault_29 : fault_of program_29 ≡ Some (1, record { at = place 1 54; kind = wrong_sort })
unfolding entity_of first_of_two function_number is_logical leads_to_itself meaning sort_of_type
fault_29 = refl

-- function f(x: int): bool { (forall i: int where f(i) :: i == x) }
abbrev program_30 : List Decl
program_30 = (declaration "f" (function (name 1 10 "f") None (record { name = Some (name 1 12 "x"); type = (integer (place 1 15)) } ∷ []) (truth_type (place 1 21)) (Some (expression 1 28 (quantified for_all (place 1 28) None (group ((name 1 36 "i") ∷ []) (integer (place 1 39)) (clause (place 1 43) (expression 1 49 (apply (name 1 49 "f") (item (expression 1 51 (variable (name 1 51 "i"))) no_exprs)))) no_groups) no_triggers (expression 1 57 (related eq (expression 1 57 (variable (name 1 57 "i"))) (expression 1 62 (variable (name 1 62 "x"))))))))) ∷ [])

fault_30 : fault_of program_30 ≡ Some (0, record { at = place 1 10; kind = cycle })
unfolding entity_of first_of_two function_number is_logical leads_to_itself meaning sort_of_type
fault_30 = refl

-- function g(x: int): bool { f(x) }
-- function f(x: int): bool { (exists i: int where (forall j: int where g(j) :: j == i) :: i == x) }
abbrev program_31 : List Decl
program_31 = (declaration "g" (function (name 1 10 "g") None (record { name = Some (name 1 12 "x"); type = (integer (place 1 15)) } ∷ []) (truth_type (place 1 21)) (Some (expression 1 28 (apply (name 1 28 "f") (item (expression 1 30 (variable (name 1 30 "x"))) no_exprs))))) ∷ declaration "f" (function (name 1 10 "f") None (record { name = Some (name 1 12 "x"); type = (integer (place 1 15)) } ∷ []) (truth_type (place 1 21)) (Some (expression 1 28 (quantified exists (place 1 28) None (group ((name 1 36 "i") ∷ []) (integer (place 1 39)) (clause (place 1 43) (expression 1 49 (quantified for_all (place 1 49) None (group ((name 1 57 "j") ∷ []) (integer (place 1 60)) (clause (place 1 64) (expression 1 70 (apply (name 1 70 "g") (item (expression 1 72 (variable (name 1 72 "j"))) no_exprs)))) no_groups) no_triggers (expression 1 78 (related eq (expression 1 78 (variable (name 1 78 "j"))) (expression 1 83 (variable (name 1 83 "i")))))))) no_groups) no_triggers (expression 1 89 (related eq (expression 1 89 (variable (name 1 89 "i"))) (expression 1 94 (variable (name 1 94 "x"))))))))) ∷ [])

fault_31 : fault_of program_31 ≡ Some (0, record { at = place 1 10; kind = cycle })
unfolding entity_of first_of_two function_number is_logical leads_to_itself meaning sort_of_type
fault_31 = refl
