-- The faults of declarations, and what they give the module, over two tables that differ in the values of functions alone, are the same.
use Rattle.std.proofs.Common.{◌≡◌, refl, ap, ◌∙◌, ℕ, ◌+◌, true, false, ◌&&◌, List, [], ◌∷◌, ◌++◌, map, filter_map, flat_map, filter, reverse, length, nat_eq, Option, Some, None, option_map}
use Rattle.std.specs.List.{list_any, range_with_len}
use Rattle.bv_base.specs.Text.{is_among}
use Rattle.bv_base.specs.declared.place.Place.{Place}
use Rattle.logic_core.specs.Tree.{Tree}
use Rattle.bpl_ast.specs.Place.{Name, Params, Ty}
use Rattle.bpl_ast.specs.Tree.{Expr, first_place, Groups, no_groups, group, Clause, no_clause, clause}
use Rattle.bpl_ast.specs.Statement.{Argument, Body, Spec as SpecTree, requires, ensures, modifies, Signature, DeclBody, constant, function, axiom_of, variables, synonym, procedure, implementation, Decl}
use Rattle.bpl_scopes.specs.declared.fault.TypeKind.TheVariants.{Twice as twice, Kind as wrong_kind, Arity as arity, Cycle as cycle}
use Rattle.bpl_scopes.specs.declared.part.Part.{Part}
use Rattle.bpl_scopes.specs.declared.part.Part.TheVariants.{Function as in_function, Axiom as in_axiom, Requires as in_requires, Ensures as in_ensures, Body as in_body, ClauseOfGlobal as in_clause_of_global, ClauseOfIn as in_clause_of_in, ClauseOfOut as in_clause_of_out, ClauseOfLocal as in_clause_of_local}
use Rattle.bpl_scopes.specs.declared.part.Role.{Role}
use Rattle.bpl_scopes.specs.declared.part.Role.TheVariants.{In as in_parameter, Out as out_parameter, Local as local_variable}
use Rattle.bpl_scopes.specs.Fault.{fault, unless, if_so, again, first_fault}
use Rattle.bpl_scopes.specs.Scopes.{Text, Heading, contract_with, Entity, a_constant, a_global, a_function, a_synonym, a_procedure, Table, Counts, names_of, only_names, texts_of, signature_names, entry_of, entity_of, Entry, Var}
use Rattle.bpl_scopes.specs.Sorts.{sort_of_type, sort_in}
use Rattle.bpl_scopes.specs.Functions.{argument_names}
use Rattle.bpl_scopes.specs.TypeFaults.{group_where_faults, params_faults}
use Rattle.bpl_faults.specs.NameFaults.{same_sort_faults}
use Rattle.bpl_faults.specs.ExprFaults.{expr_faults, formula_faults, group_clause_faults}
use Rattle.bpl_statement_faults.specs.StmtFaults.{modified_by, body_stmts_faults}
use Rattle.bpl_declaration_faults.specs.Variables.{vars_from, first_parameter, locals_of, names_in_body, in_vars, out_vars, parameters, local_vars, body_vars, scope_of, bound_argument}
use Rattle.bpl_declaration_faults.specs.DeclFaults.{function_body_faults, function_value_faults, unique_faults, synonym_faults, cycle_faults, signature_faults, parameter_clause_faults, modified_entity_faults, modified_faults, spec_faults, local_faults, body_faults, optional_locals, optional_body_faults, has_body, agree, same_texts, same_groups, same_parameters, implemented_faults, implemented_modifies, Before, decl_faults, before_with, nothing_before, faults_after}
use Rattle.bpl_model.specs.Module.{Spec}
use Rattle.bpl_terms.specs.Terms.{term_of, sort_or_int}
use Rattle.bpl_texts.specs.Uses.{decl_uses, contract_uses, is_declared_at, leads_of}
use Rattle.canonical_text.specs.Lines.{text, contract}
use Rattle.bpl_resolve.specs.Elaborate.{stmts_of, clause_term, clause_terms, locals_with, entity_number, modified_number, spec_of, Implemented, or_else, own_body, implementation_of, proc_locals, proc_body, proc_of, consts_in, globals_with, globals_in, axioms_in, value_term, function_def, procs_in, decl_text}
use Rattle.body_revision.proofs.TablesAlike.{LikeTables, LikeFound, of_found, like_found, same_decl, itself_like, logical_like, type_like, arguments_like, groups_like}
use Rattle.body_revision.specs.Names.{own_fault}
use Rattle.body_revision.specs.Revision.{values_in}
use Rattle.body_revision.proofs.ReadingsAlike.{scope, number_like, type_faults_like, group_types_like, sort_like, faults_like, formula_like, group_clauses_like, term_like}
use Rattle.body_revision.proofs.StatementReadings.{modified_like, body_stmts_like, stmts_of_like}

module _ (t u : Table) (like : LikeTables t u) where
  -- ---- variables

  vars_like : (hidden : List Text) (r : Role) (k : ℕ) (ps : List (Name × Ty)) → vars_from t hidden r k ps ≡ vars_from u hidden r k ps
  vars_like hidden r k [] = refl
  vars_like hidden r k (p ∷ ps) = λ i. record { name = (p.0).text; role = r; number = k; sort = type_like t u like hidden p.1 i } ∷ vars_like hidden r (k + 1) ps i

  module _ (c : Counts) (g : Signature) where
    in_vars_like : in_vars t c g ≡ in_vars u c g
    in_vars_like = vars_like (texts_of (signature_names g)) in_parameter (first_parameter c) (names_of g.ins)

    out_vars_like : out_vars t c g ≡ out_vars u c g
    out_vars_like = vars_like (texts_of (signature_names g)) out_parameter (first_parameter c + length (names_of g.ins)) (names_of g.outs)

    parameters_like : parameters t c g ≡ parameters u c g
    parameters_like = λ i. in_vars_like i ++ out_vars_like i

    local_vars_like : (vs : List Groups) → local_vars t c g vs ≡ local_vars u c g vs
    local_vars_like vs = vars_like (texts_of (names_in_body g vs)) local_variable (first_parameter c + (length (names_of g.ins) + length (names_of g.outs))) (locals_of vs)

    body_vars_like : (vs : List Groups) → body_vars t c g vs ≡ body_vars u c g vs
    body_vars_like vs = λ i. parameters_like i ++ local_vars_like vs i

  module _ (c : Counts) (p : Part) (vs ws : List Var) (same : vs ≡ ws) where
    -- where the variables are the same too
    formula_there : (x : Expr) → formula_faults (scope_of t c p vs) x ≡ formula_faults (scope_of u c p ws) x
    formula_there x = formula_like t u like c p vs [] x ∙ (λ i. formula_faults (scope_of u c p (same i)) x)

    clauses_there : (gs : Groups) → group_clause_faults (scope_of t c p vs) gs ≡ group_clause_faults (scope_of u c p ws) gs
    clauses_there gs = group_clauses_like t u like c p vs [] gs ∙ (λ i. group_clause_faults (scope_of u c p (same i)) gs)

    term_there : (x : Expr) → term_of (scope_of t c p vs) x ≡ term_of (scope_of u c p ws) x
    term_there x = term_like t u like c p vs false [] x ∙ (λ i. term_of (scope_of u c p (same i)) x)

    clause_there : (x : Clause) → clause_term (scope_of t c p vs) x ≡ clause_term (scope_of u c p ws) x
    clause_there no_clause = refl
    clause_there (clause q x) = ap Some (term_there x)

    clause_terms_there : (gs : Groups) → clause_terms (scope_of t c p vs) gs ≡ clause_terms (scope_of u c p ws) gs
    clause_terms_there no_groups = refl
    clause_terms_there (group ns s x gs) = λ i. map (λ (n : Name). clause_there x i) ns ++ clause_terms_there gs i

  -- ---- functions

  bound_argument_like : (a : Argument) → bound_argument t a ≡ bound_argument u a
  bound_argument_like a = λ i. record { name = elim a.name [ None ↦ None | Some n ↦ Some n.text ]; sort = type_like t u like [] a.type i }

  bounds_like : (ins : List Argument) → reverse (map (bound_argument t) ins) ≡ reverse (map (bound_argument u) ins)
  bounds_like ins = λ i. reverse (map (λ a. bound_argument_like a i) ins)

  function_body_like : (c : Counts) (ins : List Argument) (r : Ty) (x : Expr) → function_body_faults t c ins r x ≡ function_body_faults u c ins r x
  function_body_like c ins r x =
      let bs = reverse (map (bound_argument t) ins) in
      (λ i. faults_like t u like c in_function [] bs true x i ++ same_sort_faults (type_like t u like [] r i) (sort_like t u like c in_function [] bs x i) (first_place x))
      ∙ (λ i. expr_faults (scope u c in_function [] (bounds_like ins i)) true x ++ same_sort_faults (sort_of_type u [] r) (sort_in (scope u c in_function [] (bounds_like ins i)) x) (first_place x))

  function_value_like : (c : Counts) (n : Name) (ins : List Argument) (r : Ty) (x : Option Expr) → function_value_faults t c n ins r x ≡ function_value_faults u c n ins r x
  function_value_like c n ins r None = refl
  function_value_like c n ins r (Some x) = function_body_like c ins r x

  value_term_like : (c : Counts) (ins : List Argument) (x : Option Expr) → value_term t c ins x ≡ value_term u c ins x
  value_term_like c ins None = refl
  value_term_like c ins (Some x) = term_like t u like c in_function [] false (reverse (map (bound_argument t) ins)) x ∙ (λ i. term_of (scope u c in_function [] (bounds_like ins i)) x)

  pub function_def_like : (c : Counts) (n : Text) (o : Option Heading) → function_def t c n o ≡ function_def u c n o
  function_def_like c n None = refl
  function_def_like c n (Some h) = λ i. record {
    name = n;
    def = record { params = map sort_or_int (arguments_like t u like h.ins i); sort = sort_or_int (type_like t u like [] h.result i); logical = logical_like t u like n i; body = value_term_like c h.ins h.value i };
  } ∷ []

  pub values_like : (c : Counts) (d : DeclBody) → values_in t c d ≡ values_in u c d
  values_like c (function n ps ins r x) = λ i. (number_like t u like n.text i, value_term_like c ins x i) ∷ []
  values_like c (constant w ns s) = refl
  values_like c (axiom_of x) = refl
  values_like c (variables gs) = refl
  values_like c (synonym n s) = refl
  values_like c (procedure n ps g ss b) = refl
  values_like c (implementation n ps g b) = refl

  -- ---- faults

  found_entity : (n : Text) → LikeFound (entity_of t n) (entity_of u n)
  found_entity n = like_found t u like n

  signature_like : (ps : Option Params) (g : Signature) → signature_faults t ps g ≡ signature_faults u ps g
  signature_like ps g = λ i. params_faults ps ++ (group_types_like t u like (texts_of (signature_names g)) g.ins i ++ group_types_like t u like (texts_of (signature_names g)) g.outs i)

  modified_name_like : (hidden : List Text) (n : Name) → modified_faults t hidden n ≡ modified_faults u hidden n
  modified_name_like hidden n = λ i. elim (is_among hidden n.text) [
    | true ↦ fault wrong_kind n.at
    | false ↦ of_found (λ o. modified_entity_faults o n.at) (λ g h l. refl) (entity_of t n.text) (entity_of u n.text) (found_entity n.text) i
  ]

  spec_faults_like : (c : Counts) (g : Signature) (s : SpecTree) → spec_faults t c g s ≡ spec_faults u c g s
  spec_faults_like c g (requires p f x) = formula_there c in_requires (parameters t c g) (parameters u c g) (parameters_like c g) x
  spec_faults_like c g (ensures p f x) = formula_there c in_ensures (parameters t c g) (parameters u c g) (parameters_like c g) x
  spec_faults_like c g (modifies p ns) = λ i. flat_map (λ n. modified_name_like (texts_of (signature_names g)) n i) ns

  parameter_clauses_like : (c : Counts) (g : Signature) → parameter_clause_faults t c g ≡ parameter_clause_faults u c g
  parameter_clauses_like c g = λ i. clauses_there c in_clause_of_in (parameters t c g) (parameters u c g) (parameters_like c g) g.ins i
      ++ clauses_there c in_clause_of_out (parameters t c g) (parameters u c g) (parameters_like c g) g.outs i

  local_faults_like : (c : Counts) (g : Signature) (vs : List Groups) (gs : Groups) → local_faults t c g vs gs ≡ local_faults u c g vs gs
  local_faults_like c g vs gs = λ i. group_types_like t u like (texts_of (names_in_body g vs)) gs i
      ++ clauses_there c in_clause_of_local (body_vars t c g vs) (body_vars u c g vs) (body_vars_like c g vs) gs i

  body_faults_like : (c : Counts) (g : Signature) (ms ns : Option (List Text)) → ms ≡ ns → (b : Body) → body_faults t c g ms b ≡ body_faults u c g ns b
  body_faults_like c g ms ns same b =
      (λ i. flat_map (λ x. local_faults_like c g b.locals x i) b.locals ++ body_stmts_like t u like c in_body (body_vars t c g b.locals) ms b.stmts i)
      ∙ (λ i. flat_map (local_faults u c g b.locals) b.locals ++ body_stmts_faults (scope_of u c in_body (body_vars_like c g b.locals i)) (same i) b.stmts)

  optional_body_like : (c : Counts) (g : Signature) (ms ns : Option (List Text)) → ms ≡ ns → (b : Option Body) → optional_body_faults t c g ms b ≡ optional_body_faults u c g ns b
  optional_body_like c g ms ns same None = refl
  optional_body_like c g ms ns same (Some b) = body_faults_like c g ms ns same b

  same_groups_like : (g h : Signature) (gs hs : Groups) → same_groups t g h gs hs ≡ same_groups u g h gs hs
  same_groups_like g h gs hs = λ i. same_texts (texts_of (only_names (names_of gs))) (texts_of (only_names (names_of hs)))
      && agree (groups_like t u like (texts_of (signature_names g)) (names_of gs) i) (groups_like t u like (texts_of (signature_names h)) (names_of hs) i)

  same_parameters_like : (g h : Signature) → same_parameters t g h ≡ same_parameters u g h
  same_parameters_like g h = λ i. same_groups_like g h g.ins h.ins i && same_groups_like g h g.outs h.outs i

  implemented_over : (o : Option Entity) (g : Signature) (p : Place) → implemented_faults t o g p ≡ implemented_faults u o g p
  implemented_over None g p = refl
  implemented_over (Some (a_procedure k c)) g p = λ i. unless (same_parameters_like c.signature g i) arity p
  implemented_over (Some (a_constant k s)) g p = refl
  implemented_over (Some (a_global k s)) g p = refl
  implemented_over (Some (a_function h)) g p = refl
  implemented_over (Some (a_synonym s)) g p = refl

  implemented_like : (n : Text) (g : Signature) (p : Place) → implemented_faults t (entity_of t n) g p ≡ implemented_faults u (entity_of u n) g p
  implemented_like n g p = of_found (λ o. implemented_faults t o g p) (λ x y l. refl) (entity_of t n) (entity_of u n) (found_entity n) ∙ implemented_over (entity_of u n) g p

  modifies_over : (o : Option Entity) → implemented_modifies t o ≡ implemented_modifies u o
  modifies_over None = refl
  modifies_over (Some (a_procedure k c)) = ap Some (modified_like t u like c)
  modifies_over (Some (a_constant k s)) = refl
  modifies_over (Some (a_global k s)) = refl
  modifies_over (Some (a_function h)) = refl
  modifies_over (Some (a_synonym s)) = refl

  modifies_like : (n : Text) → implemented_modifies t (entity_of t n) ≡ implemented_modifies u (entity_of u n)
  modifies_like n = of_found (implemented_modifies t) (λ g h l. refl) (entity_of t n) (entity_of u n) (found_entity n) ∙ modifies_over (entity_of u n)

  synonym_faults_like : (s : Option Ty) → synonym_faults t s ≡ synonym_faults u s
  synonym_faults_like None = refl
  synonym_faults_like (Some s) = type_faults_like t u like [] s

  cycle_like : (n : Name) → cycle_faults t n ≡ cycle_faults u n
  cycle_like n = λ i. if_so (itself_like t u like n.text i) cycle n.at

  pub decl_faults_like : (c : Counts) (b : Before) (d : DeclBody) → decl_faults t c b d ≡ decl_faults u c b d
  decl_faults_like c b (constant w ns s) = λ i. unique_faults w ++ (again twice b.names ns ++ type_faults_like t u like [] s i)
  decl_faults_like c b (function n ps ins r x) = λ i. again twice b.names (n ∷ []) ++ (cycle_like n i ++ (params_faults ps
      ++ (again twice [] (argument_names ins) ++ (flat_map (λ (a : Argument). type_faults_like t u like [] a.type i) ins ++ (type_faults_like t u like [] r i ++ function_value_like c n ins r x i)))))
  decl_faults_like c b (axiom_of x) = formula_like t u like c in_axiom [] [] x
  decl_faults_like c b (variables gs) = λ i. again twice b.names (only_names (names_of gs)) ++ (group_types_like t u like [] gs i ++ group_clauses_like t u like c in_clause_of_global [] [] gs i)
  decl_faults_like c b (synonym n s) = λ i. again twice b.names (n ∷ []) ++ (cycle_like n i ++ synonym_faults_like s i)
  decl_faults_like c b (procedure n ps g ss body) = λ i. again twice b.names (n ∷ []) ++ (if_so (has_body body && is_among b.bodies n.text) twice n.at
      ++ (signature_like ps g i ++ (parameter_clauses_like c g i ++ (again twice [] (names_in_body g (optional_locals body)) ++ (flat_map (λ s. spec_faults_like c g s i) ss
      ++ optional_body_like c g (Some (modified_by t (contract_with g ss))) (Some (modified_by u (contract_with g ss))) (ap Some (modified_like t u like (contract_with g ss))) body i)))))
  decl_faults_like c b (implementation n ps g body) = λ i. if_so (is_among b.bodies n.text) twice n.at ++ (implemented_like n.text g n.at i
      ++ (signature_like ps g i ++ (group_where_faults g.ins ++ (group_where_faults g.outs ++ (again twice [] (names_in_body g body.locals)
      ++ body_faults_like c g (implemented_modifies t (entity_of t n.text)) (implemented_modifies u (entity_of u n.text)) (modifies_like n.text) body i)))))

  pub own_like : (c : Counts) (d : DeclBody) → own_fault t c d ≡ own_fault u c d
  own_like c d = ap first_fault (decl_faults_like c nothing_before d)

  pub each_like : (c : Counts) (b : Before) (ds : List Decl) → faults_after t c b ds ≡ faults_after u c b ds
  each_like c b [] = refl
  each_like c b (d ∷ ds) = λ i. decl_faults_like c b d.body i ∷ each_like c (before_with b d.body) ds i

  -- ---- what they give the module

  pub consts_like : (c : Counts) (d : DeclBody) → consts_in t c d ≡ consts_in u c d
  consts_like c (constant w ns s) = λ i. map (λ (n : Name). record { name = n.text; sort = sort_or_int (type_like t u like [] s i) }) ns
  consts_like c (function n ps ins r x) = refl
  consts_like c (axiom_of x) = refl
  consts_like c (variables gs) = refl
  consts_like c (synonym n s) = refl
  consts_like c (procedure n ps g ss b) = refl
  consts_like c (implementation n ps g b) = refl

  globals_with_like : (c : Counts) (ps : List (Name × Ty)) (ks : List (Option Tree)) → globals_with t c ps ks ≡ globals_with u c ps ks
  globals_with_like c [] ks = refl
  globals_with_like c (p ∷ ps) [] = refl
  globals_with_like c (p ∷ ps) (k ∷ ks) = λ i. record { name = (p.0).text; sort = sort_or_int (type_like t u like [] p.1 i); clause = k } ∷ globals_with_like c ps ks i

  pub globals_like : (c : Counts) (d : DeclBody) → globals_in t c d ≡ globals_in u c d
  globals_like c (variables gs) =
      ap (globals_with t c (names_of gs)) (clause_terms_there c in_clause_of_global [] [] refl gs)
      ∙ globals_with_like c (names_of gs) (clause_terms (scope_of u c in_clause_of_global []) gs)
  globals_like c (constant w ns s) = refl
  globals_like c (function n ps ins r x) = refl
  globals_like c (axiom_of x) = refl
  globals_like c (synonym n s) = refl
  globals_like c (procedure n ps g ss b) = refl
  globals_like c (implementation n ps g b) = refl

  pub axioms_like : (c : Counts) (d : DeclBody) → axioms_in t c d ≡ axioms_in u c d
  axioms_like c (axiom_of x) = λ i. term_like t u like c in_axiom [] false [] x i ∷ []
  axioms_like c (variables gs) = refl
  axioms_like c (constant w ns s) = refl
  axioms_like c (function n ps ins r x) = refl
  axioms_like c (synonym n s) = refl
  axioms_like c (procedure n ps g ss b) = refl
  axioms_like c (implementation n ps g b) = refl

  modified_number_like : (c : Counts) (n : Name) → modified_number t c n ≡ modified_number u c n
  modified_number_like c n = of_found (entity_number c) (λ g h l. refl) (entity_of t n.text) (entity_of u n.text) (found_entity n.text)

  spec_like : (c : Counts) (g : Signature) (s : SpecTree) → spec_of t c g s ≡ spec_of u c g s
  spec_like c g (requires p f x) = ap (Spec.requires f p) (term_there c in_requires (parameters t c g) (parameters u c g) (parameters_like c g) x)
  spec_like c g (ensures p f x) = ap (Spec.ensures f p) (term_there c in_ensures (parameters t c g) (parameters u c g) (parameters_like c g) x)
  spec_like c g (modifies p ns) = λ i. Spec.modifies (filter_map (λ n. modified_number_like c n i) ns)

  proc_locals_like : (c : Counts) (o : Option Implemented) → proc_locals t c o ≡ proc_locals u c o
  proc_locals_like c None = refl
  proc_locals_like c (Some b) = λ i. locals_with (local_vars_like c b.0 b.1.locals i)
      (flat_map (λ gs. clause_terms_there c in_clause_of_local (body_vars t c b.0 b.1.locals) (body_vars u c b.0 b.1.locals) (body_vars_like c b.0 b.1.locals) gs i) b.1.locals)

  proc_body_like : (c : Counts) (o : Option Implemented) → proc_body t c o ≡ proc_body u c o
  proc_body_like c None = refl
  proc_body_like c (Some b) = ap Some (
      stmts_of_like t u like c in_body (body_vars t c b.0 b.1.locals) b.1.stmts
      ∙ (λ i. stmts_of (scope_of u c in_body (body_vars_like c b.0 b.1.locals i)) b.1.stmts))

  proc_like : (c : Counts) (n : Text) (g : Signature) (ss : List SpecTree) (o : Option Implemented) → proc_of t c n g ss o ≡ proc_of u c n g ss o
  proc_like c n g ss o = λ i. record {
    name = n;
    ins = locals_with (in_vars_like c g i) (clause_terms_there c in_clause_of_in (parameters t c g) (parameters u c g) (parameters_like c g) g.ins i);
    outs = locals_with (out_vars_like c g i) (clause_terms_there c in_clause_of_out (parameters t c g) (parameters u c g) (parameters_like c g) g.outs i);
    locals = proc_locals_like c o i;
    specs = map (λ s. spec_like c g s i) ss;
    body = proc_body_like c o i;
  }

  pub procs_like : (ds : List Decl) (c : Counts) (d : DeclBody) → procs_in ds t c d ≡ procs_in ds u c d
  procs_like ds c (procedure n ps g ss b) = λ i. proc_like c n.text g ss (or_else (own_body g b) (implementation_of ds n.text)) i ∷ []
  procs_like ds c (constant w ns s) = refl
  procs_like ds c (function n ps ins r x) = refl
  procs_like ds c (axiom_of x) = refl
  procs_like ds c (variables gs) = refl
  procs_like ds c (synonym n s) = refl
  procs_like ds c (implementation n ps g b) = refl

  -- ---- texts

  declared_over : (o p : Option Entry) → option_map (λ (e : Entry). e.decl) o ≡ option_map (λ (e : Entry). e.decl) p → (d : ℕ) → is_declared_at o d ≡ is_declared_at p d
  declared_over None None s d = refl
  declared_over None (Some q) s d = absurd (cc)
  declared_over (Some o) None s d = absurd (cc)
  declared_over (Some o) (Some q) s d = let r : o.decl ≡ q.decl = cc in ap (λ k. nat_eq k d) r

  leads_of_like : (count : ℕ) (ns : List Text) → leads_of t count ns ≡ leads_of u count ns
  leads_of_like count ns = λ i. filter (λ d. list_any (λ n. declared_over (entry_of t n) (entry_of u n) (same_decl t u like n) d i) ns) (range_with_len 0 count)

  pub decl_text_like : (count : ℕ) (d : Decl) → decl_text t count d ≡ decl_text u count d
  decl_text_like count d = λ i. record {
    name = d.name;
    text = text d.body;
    contract = contract d.body;
    leads = leads_of_like count (decl_uses d.body) i;
    contract_leads = leads_of_like count (contract_uses d.body) i;
  }
