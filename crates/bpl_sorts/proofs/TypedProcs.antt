-- The contracts and bodies of procedures without faults in both readings have their types.
use Rattle.std.proofs.Common.{◌≡◌, ◌∙◌, refl, sym, ap, subst, ℕ, Bool, true, false, ◌&&◌, bytes_eq, Option, Some, None, List, [], ◌∷◌, ◌++◌, map}
use Rattle.std.specs.Prelude.{⊤, flat_map}
use Rattle.std.specs.List.{AllByRecursion}
use Rattle.logic_core.proofs.Booleans.{both_true}
use Rattle.logic_core.specs.Tree.{Kind}
use Rattle.logic_core.specs.Same.{same_kind}
use Rattle.logic_core.proofs.EachOf.{every_append}
use Rattle.logic_core.proofs.SameTerm.{same_sort}
use Rattle.bpl_ast.specs.Place.{Name, Ty as Written, Params}
use Rattle.bpl_ast.specs.Tree.{Expr, Groups}
use Rattle.bpl_ast.specs.Statement.{Signature, Body, Spec as SpecTree, requires, ensures, modifies, procedure, implementation, Decl}
use Rattle.bpl_model.specs.Numbering.{local_sorts}
use Rattle.bpl_scopes.specs.declared.fault.TypeKind.TheVariants.{Twice as twice, Arity as arity}
use Rattle.bv_base.specs.Text.{is_among}
use Rattle.bpl_scopes.specs.Fault.{again, if_so}
use Rattle.bpl_scopes.specs.declared.part.Part.{Part}
use Rattle.bpl_scopes.specs.declared.part.Part.TheVariants.{Requires as in_requires, Ensures as in_ensures, Body as in_body, ClauseOfIn as in_clause_of_in, ClauseOfOut as in_clause_of_out, ClauseOfLocal as in_clause_of_local}
use Rattle.bpl_scopes.specs.declared.part.Role.TheVariants.{In as in_parameter, Out as out_parameter, Local as local_variable}
use Rattle.bpl_scopes.specs.Scopes.{table_of, Text, Contract, contract_with, a_procedure, names_of, only_names, texts_of, signature_names, entity_of, Scope}
use Rattle.bpl_scopes.specs.Sorts.{sorts_of_names}
use Rattle.bpl_scopes.specs.TypeFaults.{group_type_faults, group_where_faults}
use Rattle.bpl_faults.specs.ExprFaults.{formula_faults, group_clause_faults}
use Rattle.bpl_statement_faults.specs.StmtFaults.{labels_of, many_labels_faults, modified_by, outermost}
use Rattle.bpl_declaration_faults.specs.Variables.{in_vars, out_vars, local_vars, parameters, body_vars, scope_of, locals_of, names_in_body}
use Rattle.bpl_declaration_faults.specs.DeclFaults.{fault_of, signature_faults, parameter_clause_faults, spec_faults, local_faults, body_faults, has_body, optional_locals, agree, same_texts, same_groups, same_parameters, implemented_faults, implemented_modifies, decl_faults, Before}
use Rattle.bpl_terms.specs.Terms.{sort_or_int, term_of}
use Rattle.bpl_resolve.specs.Elaborate.{Implemented, or_else, implements, own_body, stmts_of, clause_terms, proc_locals, proc_body, proc_of, spec_of}
use Rattle.bpl_resolve.proofs.HasSort.{Known, first_empty, second_empty, unless_empty}
use Rattle.bpl_resolve.proofs.Faultless.{TypesKnown, groups_known}
use Rattle.bpl_resolve.proofs.Ways.{same_text}
use Rattle.bpl_resolve.proofs.EntriesFine.{SignatureFine, signature_fine, entity_fine}
use Rattle.bpl_resolve.proofs.ScopesKnown.{fine_type}
use Rattle.bpl_resolve.proofs.ModuleSorts.{fine}
use Rattle.bpl_resolve.proofs.ProcedureVariables.{kinds_same}
use Rattle.bpl_resolve.proofs.BodyTyped.{ins_sorts, outs_sorts, locals_sorts}
use Rattle.bpl_sorts.specs.Types.{Ty, kinds_of}
use Rattle.bpl_sorts.specs.TypeNames.{type_of}
use Rattle.bpl_sorts.specs.DeclaredTypes.{types_named, proc_types, Types, declared_types}
use Rattle.bpl_sorts.specs.TypedModule.{with_own, body_types, IsTruth, IsOptional, IsSpec, AreStmts, IsBody, AreClauses, IsTypedProc}
use Rattle.bpl_sorts.proofs.ReadTypes.{types_fit}
use Rattle.bpl_sorts.proofs.SortReadings.{one_type}
use Rattle.bpl_sorts.proofs.AlikeScopes.{E, A, TE, TA, CE, all_at, procedure_too}
use Rattle.bpl_sorts.proofs.TypedParts.{same_some, truth_typed}
use Rattle.bpl_sorts.proofs.TypedStmts.{list_typed}
use Rattle.bpl_sorts.proofs.TypedVars.{CA, own_types, parameters_alike, body_alike, parameters_known, locals_known, body_known}
use Rattle.bpl_sorts.proofs.TypedClauses.{with_clauses, groups_typed}

-- sorts that agree, where both are there
agree_first : (o p : Option Kind) (os ps : List (Option Kind)) → Known o → Known p → agree (o ∷ os) (p ∷ ps) ≡ true → (o ≡ p) × (agree os ps ≡ true)
agree_first None p os ps h g e = let bad = h.1 in absurd (cc)
agree_first (Some j) None os ps h g e = let bad = g.1 in absurd (cc)
agree_first (Some j) (Some k) os ps h g e = (ap Some (same_sort j k (both_true _ _ e).0), (both_true (same_kind j k) _ e).1)

module _ (ds : List Decl) (none : fault_of (E ds) ≡ None) (nope : fault_of (A ds) ≡ None) where
  abbrev T : Types
  T = declared_types ds

  -- in both readings
  pub record BothFine (g : Signature) : Type 0 where
    pub first : SignatureFine (TE ds) (CE ds) g
    pub second : SignatureFine (TA ds) (CA ds) g

  -- ---- the sorts of variables are those of their types

  known : (g : Signature) (gs : Groups) → group_type_faults (TE ds) (texts_of (signature_names g)) gs ≡ [] → TypesKnown (TE ds) (texts_of (signature_names g)) (names_of gs)
  known g gs e = groups_known (TE ds) (texts_of (signature_names g)) (fine_type (TE ds) (CE ds) (fine (E ds) none) (texts_of (signature_names g))) gs e

  known_too : (g : Signature) (gs : Groups) → group_type_faults (TA ds) (texts_of (signature_names g)) gs ≡ [] → TypesKnown (TA ds) (texts_of (signature_names g)) (names_of gs)
  known_too g gs e = groups_known (TA ds) (texts_of (signature_names g)) (fine_type (TA ds) (CA ds) (fine (A ds) nope) (texts_of (signature_names g))) gs e

  kinds_named : (hidden others : List Text) (ps : List (Name × Written)) → TypesKnown (TE ds) hidden ps → TypesKnown (TA ds) others ps → kinds_of (types_named (table_of ds) ps) ≡ map sort_or_int (sorts_of_names (TE ds) hidden ps)
  kinds_named hidden others [] h k = refl
  kinds_named hidden others (p ∷ ps) h k =
      let f = types_fit ds hidden others p.1 (h.0).0 (k.0).0 (h.0).1 (k.0).1 in
      λ i. (f.0 ∙ sym (ap sort_or_int (h.0).1)) i ∷ kinds_named hidden others ps h.1 k.1 i

  -- ---- contracts

  abbrev contract : Signature → List Ty
  contract g = with_own T (types_named (table_of ds) (names_of g.ins) ++ types_named (table_of ds) (names_of g.outs))

  abbrev s_of : Part → Signature → Scope
  s_of w g = scope_of (TE ds) (CE ds) w (parameters (TE ds) (CE ds) g)

  abbrev u_of : Part → Signature → Scope
  u_of w g = scope_of (TA ds) (CA ds) w (parameters (TA ds) (CA ds) g)

  contract_truth : (w : Part) (g : Signature) → BothFine g → (x : Expr) → formula_faults (s_of w g) x ≡ [] → formula_faults (u_of w g) x ≡ [] → IsTruth T (contract g) (term_of (s_of w g) x)
  contract_truth w g f x a b = truth_typed ds none nope (contract g) w (all_at ds (types_named (table_of ds) (names_of g.ins) ++ types_named (table_of ds) (names_of g.outs)) w) (parameters (TE ds) (CE ds) g) (parameters (TA ds) (CA ds) g) [] [] [] (parameters_alike ds g)
      (parameters_known (E ds) none g f.first) (parameters_known (A ds) nope g f.second) tt tt tt true x a b

  specs_typed : (g : Signature) (ss : List SpecTree) → BothFine g → flat_map (spec_faults (TE ds) (CE ds) g) ss ≡ [] → flat_map (spec_faults (TA ds) (CA ds) g) ss ≡ []
      → AllByRecursion (IsSpec T (contract g)) (map (spec_of (TE ds) (CE ds) g) ss)
  specs_typed g [] f a b = tt
  specs_typed g (requires p q x ∷ ss) f a b =
      let y = requires p q x in
      (contract_truth in_requires g f x (first_empty _ _ a) (first_empty _ _ b), specs_typed g ss f (second_empty (spec_faults (TE ds) (CE ds) g y) _ a) (second_empty (spec_faults (TA ds) (CA ds) g y) _ b))
  specs_typed g (ensures p q x ∷ ss) f a b =
      let y = ensures p q x in
      (contract_truth in_ensures g f x (first_empty _ _ a) (first_empty _ _ b), specs_typed g ss f (second_empty (spec_faults (TE ds) (CE ds) g y) _ a) (second_empty (spec_faults (TA ds) (CA ds) g y) _ b))
  specs_typed g (modifies p ns ∷ ss) f a b =
      let y = modifies p ns in
      (tt, specs_typed g ss f (second_empty (spec_faults (TE ds) (CE ds) g y) _ a) (second_empty (spec_faults (TA ds) (CA ds) g y) _ b))

  -- ---- bodies

  abbrev inside : Signature → List Groups → List Ty
  inside g vs = with_own T (own_types ds g vs)

  module _ (h : Signature) (b : Body) (f : BothFine h) (ms ns : Option (List Text)) (e : body_faults (TE ds) (CE ds) h ms b ≡ []) (o : body_faults (TA ds) (CA ds) h ns b ≡ []) where
    abbrev S : Part → Scope
    S w = scope_of (TE ds) (CE ds) w (body_vars (TE ds) (CE ds) h b.locals)

    abbrev U : Part → Scope
    U w = scope_of (TA ds) (CA ds) w (body_vars (TA ds) (CA ds) h b.locals)

    inside_truth : (w : Part) (x : Expr) → formula_faults (S w) x ≡ [] → formula_faults (U w) x ≡ [] → IsTruth T (inside h b.locals) (term_of (S w) x)
    inside_truth w x p q = truth_typed ds none nope (inside h b.locals) w (all_at ds (own_types ds h b.locals) w) (body_vars (TE ds) (CE ds) h b.locals) (body_vars (TA ds) (CA ds) h b.locals) [] [] [] (body_alike ds h b.locals)
        (body_known (E ds) none h b f.first (first_empty _ _ e)) (body_known (A ds) nope h b f.second (first_empty _ _ o)) tt tt tt true x p q

    statements_typed : AreStmts T (inside h b.locals) (stmts_of (S in_body) b.stmts)
    statements_typed =
        let e2 = second_empty (again twice [] (labels_of b.stmts)) _ (second_empty (flat_map (local_faults (TE ds) (CE ds) h b.locals) b.locals) _ e) in
        let o2 = second_empty (again twice [] (labels_of b.stmts)) _ (second_empty (flat_map (local_faults (TA ds) (CA ds) h b.locals) b.locals) _ o) in
        list_typed ds none nope (inside h b.locals) (all_at ds (own_types ds h b.locals) in_body) (body_vars (TE ds) (CE ds) h b.locals) (body_vars (TA ds) (CA ds) h b.locals) (body_alike ds h b.locals)
        (body_known (E ds) none h b f.first (first_empty _ _ e)) (body_known (A ds) nope h b f.second (first_empty _ _ o)) ms ns (texts_of (labels_of b.stmts)) (texts_of (labels_of b.stmts)) outermost b.stmts
        (second_empty (many_labels_faults b.stmts) _ e2) (second_empty (many_labels_faults b.stmts) _ o2)

    local_clauses : (vs : List Groups) → flat_map (local_faults (TE ds) (CE ds) h b.locals) vs ≡ [] → flat_map (local_faults (TA ds) (CA ds) h b.locals) vs ≡ []
        → AllByRecursion (IsOptional T (inside h b.locals)) (flat_map (clause_terms (S in_clause_of_local)) vs)
    local_clauses [] p q = tt
    local_clauses (v ∷ vs) p q =
        let hidden = texts_of (names_in_body h b.locals) in
        every_append (IsOptional T (inside h b.locals)) (clause_terms (S in_clause_of_local) v) _
        (groups_typed T (inside h b.locals) (S in_clause_of_local) (U in_clause_of_local) (inside_truth in_clause_of_local) v
        (second_empty (group_type_faults (TE ds) hidden v) _ (first_empty _ _ p)) (second_empty (group_type_faults (TA ds) hidden v) _ (first_empty _ _ q)))
        (local_clauses vs (second_empty (local_faults (TE ds) (CE ds) h b.locals v) _ p) (second_empty (local_faults (TA ds) (CA ds) h b.locals v) _ q))

    locals_typed : AreClauses T (inside h b.locals) (proc_locals (TE ds) (CE ds) (Some (h, b)))
    locals_typed = with_clauses T (inside h b.locals) (local_vars (TE ds) (CE ds) h b.locals) _ (local_clauses b.locals (first_empty _ _ e) (first_empty _ _ o))

  -- what implements a procedure with this contract
  pub record Implements (g : Signature) (h : Signature) (b : Body) : Type 0 where
    pub is_fine : BothFine h
    pub ins_same : types_named (table_of ds) (names_of h.ins) ≡ types_named (table_of ds) (names_of g.ins)
    pub outs_same : types_named (table_of ds) (names_of h.outs) ≡ types_named (table_of ds) (names_of g.outs)
    pub modified : Option (List Text)
    pub others : Option (List Text)
    pub first : body_faults (TE ds) (CE ds) h modified b ≡ []
    pub second : body_faults (TA ds) (CA ds) h others b ≡ []

  abbrev pub OptionOk : Signature → Option Implemented → Type 0
  OptionOk g None = ⊤
  OptionOk g (Some i) = Implements g i.0 i.1

  same_inside : (g h : Signature) (b : Body) → Implements g h b → inside h b.locals ≡ body_types T (proc_types (table_of ds) g (Some (h, b)))
  same_inside g h b i = λ j. with_own T (i.ins_same j ++ (i.outs_same j ++ types_named (table_of ds) (locals_of b.locals)))

  local_kinds : (n : Text) (g : Signature) (ss : List SpecTree) (i : Option Implemented) → OptionOk g i → kinds_of (proc_types (table_of ds) g i).locals ≡ local_sorts (proc_of (TE ds) (CE ds) n g ss i).locals
  local_kinds n g ss None h = refl
  local_kinds n g ss (Some i) h =
      let hidden = texts_of (names_in_body i.0 i.1.locals) in
      kinds_named hidden hidden (locals_of i.1.locals) (locals_known (E ds) none i.0 i.1.locals i.1.locals (first_empty _ _ h.first)) (locals_known (A ds) nope i.0 i.1.locals i.1.locals (first_empty _ _ h.second))
      ∙ (sym (kinds_same (TE ds) hidden local_variable _ (locals_of i.1.locals)) ∙ sym (locals_sorts (E ds) none n g ss i.0 i.1))

  body_ok : (g : Signature) (i : Option Implemented) → OptionOk g i → IsBody T (body_types T (proc_types (table_of ds) g i)) (proc_body (TE ds) (CE ds) i)
  body_ok g None h = tt
  body_ok g (Some i) h = subst (λ w. AreStmts T w (stmts_of (scope_of (TE ds) (CE ds) in_body (body_vars (TE ds) (CE ds) i.0 i.1.locals)) i.1.stmts)) (same_inside g i.0 i.1 h) (statements_typed i.0 i.1 h.is_fine h.modified h.others h.first h.second)

  locals_ok : (g : Signature) (i : Option Implemented) → OptionOk g i → AreClauses T (body_types T (proc_types (table_of ds) g i)) (proc_locals (TE ds) (CE ds) i)
  locals_ok g None h = tt
  locals_ok g (Some i) h = subst (λ w. AreClauses T w (proc_locals (TE ds) (CE ds) (Some i))) (same_inside g i.0 i.1 h) (locals_typed i.0 i.1 h.is_fine h.modified h.others h.first h.second)

  pub proc_typed : (n : Text) (g : Signature) (ss : List SpecTree) (i : Option Implemented) → BothFine g → parameter_clause_faults (TE ds) (CE ds) g ≡ [] → parameter_clause_faults (TA ds) (CA ds) g ≡ []
      → flat_map (spec_faults (TE ds) (CE ds) g) ss ≡ [] → flat_map (spec_faults (TA ds) (CA ds) g) ss ≡ [] → OptionOk g i → IsTypedProc T (proc_types (table_of ds) g i) (proc_of (TE ds) (CE ds) n g ss i)
  proc_typed n g ss i f a b c d k = record {
    ins = kinds_named _ _ (names_of g.ins) (known g g.ins f.first.ins_fine) (known_too g g.ins f.second.ins_fine) ∙ (sym (kinds_same (TE ds) _ in_parameter _ (names_of g.ins)) ∙ sym (ins_sorts (E ds) none n g ss i));
    outs = kinds_named _ _ (names_of g.outs) (known g g.outs f.first.outs_fine) (known_too g g.outs f.second.outs_fine) ∙ (sym (kinds_same (TE ds) _ out_parameter _ (names_of g.outs)) ∙ sym (outs_sorts (E ds) none n g ss i));
    locals = local_kinds n g ss i k;
    in_clauses = with_clauses T (contract g) (in_vars (TE ds) (CE ds) g) _ (groups_typed T (contract g) (s_of in_clause_of_in g) (u_of in_clause_of_in g) (contract_truth in_clause_of_in g f) g.ins (first_empty _ _ a) (first_empty _ _ b));
    out_clauses = with_clauses T (contract g) (out_vars (TE ds) (CE ds) g) _ (groups_typed T (contract g) (s_of in_clause_of_out g) (u_of in_clause_of_out g) (contract_truth in_clause_of_out g f) g.outs
        (second_empty (group_clause_faults (s_of in_clause_of_in g) g.ins) _ a) (second_empty (group_clause_faults (u_of in_clause_of_in g) g.ins) _ b));
    local_clauses = locals_ok g i k;
    specs = specs_typed g ss f c d;
    body = body_ok g i k;
  }

  -- ---- parameters that agree have the same types

  agreed : (h k : List Text) (ps qs : List (Name × Written)) → TypesKnown (TE ds) h ps → TypesKnown (TE ds) k qs → TypesKnown (TA ds) h ps → TypesKnown (TA ds) k qs
      → agree (sorts_of_names (TE ds) h ps) (sorts_of_names (TE ds) k qs) ≡ true → agree (sorts_of_names (TA ds) h ps) (sorts_of_names (TA ds) k qs) ≡ true → types_named (table_of ds) qs ≡ types_named (table_of ds) ps
  agreed h k [] [] a b c d e f = refl
  agreed h k [] (q ∷ qs) a b c d e f = absurd (cc)
  agreed h k (p ∷ ps) [] a b c d e f = absurd (cc)
  agreed h k (p ∷ ps) (q ∷ qs) a b c d e f =
      let r = agree_first _ _ (sorts_of_names (TE ds) h ps) (sorts_of_names (TE ds) k qs) a.0 b.0 e in
      let s = agree_first _ _ (sorts_of_names (TA ds) h ps) (sorts_of_names (TA ds) k qs) c.0 d.0 f in
      let x = types_fit ds h h p.1 (a.0).0 (c.0).0 (a.0).1 (c.0).1 in
      let y = types_fit ds k k q.1 (b.0).0 (d.0).0 (b.0).1 (d.0).1 in
      let same = one_type (type_of ds q.1) (type_of ds p.1) (y.0 ∙ (same_some _ _ (sym (b.0).1 ∙ (sym r.0 ∙ (a.0).1)) ∙ sym x.0)) (y.1 ∙ (same_some _ _ (sym (d.0).1 ∙ (sym s.0 ∙ (c.0).1)) ∙ sym x.1)) in
      let rest = agreed h k ps qs a.1 b.1 c.1 d.1 r.1 s.1 in
      λ i. same i ∷ rest i

  -- ---- implementations

  abbrev names_in : Groups → List Text
  names_in gs = texts_of (only_names (names_of gs))

  pub implements_ok : (bf bg : Before) (n : Text) (k : ℕ) (d : Contract) → entity_of (TE ds) n ≡ Some (a_procedure k d) → (m : Name) (ps : Option Params) (h : Signature) (b : Body)
      → decl_faults (TE ds) (CE ds) bf (implementation m ps h b) ≡ [] → decl_faults (TA ds) (CA ds) bg (implementation m ps h b) ≡ [] → OptionOk d.signature (implements n (implementation m ps h b))
  implements_ok bf bg n k d q m ps h b e o = by (bytes_eq m.text n) refl
    where
      by : (r : Bool) → bytes_eq m.text n ≡ r → OptionOk d.signature (elim r [ true ↦ Some (h, b) | false ↦ None ])
      by false z = tt
      by true z =
          let e1 = second_empty (if_so (is_among bf.bodies m.text) twice m.at) _ e in
          let o1 = second_empty (if_so (is_among bg.bodies m.text) twice m.at) _ o in
          let e2 = second_empty (implemented_faults (TE ds) (entity_of (TE ds) m.text) h m.at) _ e1 in
          let o2 = second_empty (implemented_faults (TA ds) (entity_of (TA ds) m.text) h m.at) _ o1 in
          let e3 = second_empty (signature_faults (TE ds) ps h) _ e2 in
          let o3 = second_empty (signature_faults (TA ds) ps h) _ o2 in
          let e4 = second_empty (group_where_faults h.outs) _ (second_empty (group_where_faults h.ins) _ e3) in
          let o4 = second_empty (group_where_faults h.outs) _ (second_empty (group_where_faults h.ins) _ o3) in
          let there : entity_of (TE ds) m.text ≡ Some (a_procedure k d) = ap (entity_of (TE ds)) (same_text m.text n z) ∙ q in
          let too : entity_of (TA ds) m.text ≡ Some (a_procedure k d) = procedure_too ds m.text k d there in
          let v : same_parameters (TE ds) d.signature h ≡ true = unless_empty _ arity m.at (subst (λ w. implemented_faults (TE ds) w h m.at ≡ []) there (first_empty _ _ e1)) in
          let w : same_parameters (TA ds) d.signature h ≡ true = unless_empty _ arity m.at (subst (λ w. implemented_faults (TA ds) w h m.at ≡ []) too (first_empty _ _ o1)) in
          let f = signature_fine (TE ds) (CE ds) ps h (first_empty _ _ e2) in
          let g = signature_fine (TA ds) (CA ds) ps h (first_empty _ _ o2) in
          let x = entity_fine (TE ds) (CE ds) (fine (E ds) none) m.text (a_procedure k d) there in
          let y = entity_fine (TA ds) (CA ds) (fine (A ds) nope) m.text (a_procedure k d) too in
          record {
            is_fine = record { first = f; second = g };
            ins_same = agreed _ _ (names_of d.signature.ins) (names_of h.ins) (known d.signature d.signature.ins x.ins_fine) (known h h.ins f.ins_fine) (known_too d.signature d.signature.ins y.ins_fine) (known_too h h.ins g.ins_fine)
                (both_true (same_texts (names_in d.signature.ins) (names_in h.ins)) _ (both_true _ _ v).0).1 (both_true (same_texts (names_in d.signature.ins) (names_in h.ins)) _ (both_true _ _ w).0).1;
            outs_same = agreed _ _ (names_of d.signature.outs) (names_of h.outs) (known d.signature d.signature.outs x.outs_fine) (known h h.outs f.outs_fine) (known_too d.signature d.signature.outs y.outs_fine) (known_too h h.outs g.outs_fine)
                (both_true (same_texts (names_in d.signature.outs) (names_in h.outs)) _ (both_true (same_groups (TE ds) d.signature h d.signature.ins h.ins) _ v).1).1 (both_true (same_texts (names_in d.signature.outs) (names_in h.outs)) _ (both_true (same_groups (TA ds) d.signature h d.signature.ins h.ins) _ w).1).1;
            modified = implemented_modifies (TE ds) (entity_of (TE ds) m.text);
            others = implemented_modifies (TA ds) (entity_of (TA ds) m.text);
            first = second_empty (again twice [] (names_in_body h b.locals)) _ e4;
            second = second_empty (again twice [] (names_in_body h b.locals)) _ o4;
          }

  -- a procedure with its own body, or none
  pub own_ok : (bf bg : Before) (n : Name) (ps : Option Params) (g : Signature) (ss : List SpecTree) (b : Option Body)
      → decl_faults (TE ds) (CE ds) bf (procedure n ps g ss b) ≡ [] → decl_faults (TA ds) (CA ds) bg (procedure n ps g ss b) ≡ [] → OptionOk g (own_body g b)
  own_ok bf bg n ps g ss None e o = tt
  own_ok bf bg n ps g ss (Some b) e o =
      let e2 = second_empty (if_so (has_body (Some b) && is_among bf.bodies n.text) twice n.at) _ (second_empty (again twice bf.names (n ∷ [])) _ e) in
      let o2 = second_empty (if_so (has_body (Some b) && is_among bg.bodies n.text) twice n.at) _ (second_empty (again twice bg.names (n ∷ [])) _ o) in
      let e5 = second_empty (again twice [] (names_in_body g b.locals)) _ (second_empty (parameter_clause_faults (TE ds) (CE ds) g) _ (second_empty (signature_faults (TE ds) ps g) _ e2)) in
      let o5 = second_empty (again twice [] (names_in_body g b.locals)) _ (second_empty (parameter_clause_faults (TA ds) (CA ds) g) _ (second_empty (signature_faults (TA ds) ps g) _ o2)) in
      record {
        is_fine = record { first = signature_fine (TE ds) (CE ds) ps g (first_empty _ _ e2); second = signature_fine (TA ds) (CA ds) ps g (first_empty _ _ o2) };
        ins_same = refl;
        outs_same = refl;
        modified = Some (modified_by (TE ds) (contract_with g ss));
        others = Some (modified_by (TA ds) (contract_with g ss));
        first = second_empty (flat_map (spec_faults (TE ds) (CE ds) g) ss) _ e5;
        second = second_empty (flat_map (spec_faults (TA ds) (CA ds) g) ss) _ o5;
      }

  pub or_ok : (g : Signature) (a b : Option Implemented) → OptionOk g a → OptionOk g b → OptionOk g (or_else a b)
  or_ok g None b h k = k
  or_ok g (Some i) b h k = h

  -- a procedure's declaration, where this implements it
  pub declared_proc : (bf bg : Before) (n : Name) (ps : Option Params) (g : Signature) (ss : List SpecTree) (b : Option Body) (i : Option Implemented)
      → decl_faults (TE ds) (CE ds) bf (procedure n ps g ss b) ≡ [] → decl_faults (TA ds) (CA ds) bg (procedure n ps g ss b) ≡ [] → OptionOk g i → IsTypedProc T (proc_types (table_of ds) g i) (proc_of (TE ds) (CE ds) n.text g ss i)
  declared_proc bf bg n ps g ss b i e o k =
      let e2 = second_empty (if_so (has_body b && is_among bf.bodies n.text) twice n.at) _ (second_empty (again twice bf.names (n ∷ [])) _ e) in
      let o2 = second_empty (if_so (has_body b && is_among bg.bodies n.text) twice n.at) _ (second_empty (again twice bg.names (n ∷ [])) _ o) in
      let e3 = second_empty (signature_faults (TE ds) ps g) _ e2 in
      let o3 = second_empty (signature_faults (TA ds) ps g) _ o2 in
      let e5 = second_empty (again twice [] (names_in_body g (optional_locals b))) _ (second_empty (parameter_clause_faults (TE ds) (CE ds) g) _ e3) in
      let o5 = second_empty (again twice [] (names_in_body g (optional_locals b))) _ (second_empty (parameter_clause_faults (TA ds) (CA ds) g) _ o3) in
      proc_typed n.text g ss i (record { first = signature_fine (TE ds) (CE ds) ps g (first_empty _ _ e2); second = signature_fine (TA ds) (CA ds) ps g (first_empty _ _ o2) })
      (first_empty _ _ e3) (first_empty _ _ o3) (first_empty _ _ e5) (first_empty _ _ o5) k
