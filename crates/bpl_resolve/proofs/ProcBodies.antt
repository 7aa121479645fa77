-- In the module of a program without faults each procedure's body and its locals' clauses are ones that the module's type keeps, and no parameter or local stands for a replaced call.
use Rattle.std.proofs.Common.{◌≡◌, refl, ap, sym, ◌∙◌, subst, ℕ, Bool, true, false, ◌&&◌, not, List, [], ◌∷◌, ◌++◌, map, Option, Some, None}
use Rattle.std.specs.Prelude.{⊤, IsTrue, bytes_eq, flat_map}
use Rattle.std.specs.List.{AllByRecursion}
use Rattle.logic_core.proofs.Booleans.{both_true}
use Rattle.bv_base.specs.declared.place.Place.{Place}
use Rattle.logic_core.specs.Tree.{Kind, Tree}
use Rattle.logic_core.specs.Same.{same_kind}
use Rattle.logic_core.proofs.EachOf.{every_append}
use Rattle.logic_core.proofs.SameTerm.{same_sort}
use Rattle.bpl_ast.specs.Place.{Name, Ty, Params}
use Rattle.bpl_ast.specs.Tree.{Groups}
use Rattle.bpl_ast.specs.Statement.{Signature, Body, Spec as SpecTree, DeclBody, constant, function, axiom_of, variables, synonym, procedure, implementation, Decl}
use Rattle.bpl_model.specs.Module.{Local, Proc}
use Rattle.bpl_model.specs.Numbering.{sorts_of}
use Rattle.bpl_model.specs.Typed.{IsBody, HaveClauses}
use Rattle.bpl_scopes.specs.declared.fault.TypeKind.TheVariants.{Twice as twice, Arity as arity}
use Rattle.bv_base.specs.Text.{is_among}
use Rattle.bpl_scopes.specs.Fault.{again, if_so}
use Rattle.bpl_scopes.specs.declared.part.Role.{Role}
use Rattle.bpl_scopes.specs.declared.part.Role.TheVariants.{In as in_parameter, Out as out_parameter, Local as local_variable}
use Rattle.bpl_scopes.specs.Scopes.{Text, Table, Counts, no_counts, Contract, contract_with, Entity, a_constant, a_global, a_function, a_synonym, a_procedure, entity_of, names_of, texts_of, signature_names, Var}
use Rattle.bpl_scopes.specs.TypeFaults.{group_type_faults, group_where_faults}
use Rattle.bpl_statement_faults.specs.StmtFaults.{labels_of, many_labels_faults, modified_by}
use Rattle.bpl_declaration_faults.specs.Variables.{vars_from, in_vars, out_vars, local_vars, parameters, body_vars, locals_of, names_in_body}
use Rattle.bpl_declaration_faults.specs.DeclFaults.{fault_of, signature_faults, parameter_clause_faults, spec_faults, local_faults, body_faults, has_body, agree, same_groups, same_parameters, implemented_faults, implemented_modifies, decl_faults, Before, before_with, nothing_before}
use Rattle.bpl_terms.specs.Terms.{sort_or_int}
use Rattle.bpl_resolve.specs.Elaborate.{Implemented, or_else, implements, implementation_of, own_body, locals_with, proc_locals, proc_of, procs_in}
use Rattle.bpl_resolve.proofs.HasSort.{first_empty, second_empty, unless_empty}
use Rattle.bpl_resolve.proofs.Faultless.{TypesKnown, groups_known, EachKnown}
use Rattle.bpl_resolve.proofs.Ways.{same_text}
use Rattle.bpl_resolve.proofs.EntriesFine.{SignatureFine, signature_fine, NoFaults, none_faulty, entity_fine}
use Rattle.bpl_resolve.proofs.ScopesKnown.{VarsKnown, fine_type, types_vars, vars_from_known, vars_joined}
use Rattle.bpl_resolve.proofs.ModuleSorts.{T, C, M, fine}
use Rattle.bpl_resolve.proofs.ProcedureVariables.{kinds_same, each_known}
use Rattle.bpl_resolve.proofs.BodyTyped.{body_typed}
use Rattle.bpl_resolve.proofs.LocalClauses.{local_clauses_typed}
use Rattle.bpl_resolve.proofs.DeclaredOnce.{StandsForIt, each_stands}

types_joined : (t : Table) (hidden : List Text) (ps qs : List (Name × Ty)) → TypesKnown t hidden ps → TypesKnown t hidden qs → TypesKnown t hidden (ps ++ qs)
types_joined t hidden [] qs h g = g
types_joined t hidden (p ∷ ps) qs h g = (h.0, types_joined t hidden ps qs h.1 g)

-- lists of sorts that agree, where there are sorts
agreed : (js ks : List (Option Kind)) → EachKnown js → EachKnown ks → agree js ks ≡ true → map sort_or_int js ≡ map sort_or_int ks
agreed [] [] h g e = refl
agreed [] (k ∷ ks) h g e = cc
agreed (j ∷ js) [] h g e = cc
agreed (None ∷ js) (k ∷ ks) h g e = let b = h.0.1 in cc
agreed (Some j ∷ js) (None ∷ ks) h g e = let b = g.0.1 in cc
agreed (Some j ∷ js) (Some k ∷ ks) h g e = let q = same_sort j k (both_true _ _ e).0 in let r = agreed js ks h.1 g.1 (both_true (same_kind j k) _ e).1 in λ i. q i ∷ r i

none_are_own : (vs : List Var) (cs : List (Option Tree)) → AllByRecursion (λ (l : Local). IsTrue (not l.own)) (locals_with vs cs)
none_are_own [] cs = tt
none_are_own (v ∷ vs) [] = tt
none_are_own (v ∷ vs) (c ∷ cs) = (refl, none_are_own vs cs)

module _ (ds : List Decl) (none : fault_of ds ≡ None) where
  abbrev TT : Table
  TT = T ds none

  abbrev CC : Counts
  CC = C ds none

  known_groups : (hidden : List Text) (gs : Groups) → group_type_faults TT hidden gs ≡ [] → TypesKnown TT hidden (names_of gs)
  known_groups hidden gs e = groups_known TT hidden (fine_type TT CC (fine ds none) hidden) gs e

  locals_known : (g : Signature) (all vs : List Groups) → flat_map (local_faults TT CC g all) vs ≡ [] → TypesKnown TT (texts_of (names_in_body g all)) (locals_of vs)
  locals_known g all [] e = tt
  locals_known g all (v ∷ vs) e = types_joined TT (texts_of (names_in_body g all)) (names_of v) (locals_of vs) (known_groups (texts_of (names_in_body g all)) v (first_empty _ _ (first_empty _ _ e))) (locals_known g all vs (second_empty (local_faults TT CC g all v) _ e))

  vars_are_known : (g : Signature) (b : Body) → SignatureFine TT CC g → flat_map (local_faults TT CC g b.locals) b.locals ≡ [] → VarsKnown (body_vars TT CC g b.locals)
  vars_are_known g b s e = vars_joined TT CC (fine ds none) (parameters TT CC g) (local_vars TT CC g b.locals)
      (vars_joined TT CC (fine ds none) (in_vars TT CC g) (out_vars TT CC g) (vars_from_known TT CC (fine ds none) _ in_parameter _ g.ins s.ins_fine) (vars_from_known TT CC (fine ds none) _ out_parameter _ g.outs s.outs_fine))
      (types_vars TT CC (fine ds none) (texts_of (names_in_body g b.locals)) local_variable _ (locals_of b.locals) (locals_known g b.locals b.locals e))

  abbrev Kinds : List Var → List Kind
  Kinds vs = map (λ (v : Var). sort_or_int v.sort) vs

  pub record SameSorts (g h : Signature) : Type 0 where
    pub ins_same : Kinds (in_vars TT CC g) ≡ Kinds (in_vars TT CC h)
    pub outs_same : Kinds (out_vars TT CC g) ≡ Kinds (out_vars TT CC h)

  abbrev BodyOk : Text → Signature → List SpecTree → Option Implemented → Type 0
  BodyOk n g ss i = IsBody (M ds none) (proc_of TT CC n g ss i) (proc_of TT CC n g ss i).body × HaveClauses (M ds none) (proc_of TT CC n g ss i) (sorts_of (M ds none) (proc_of TT CC n g ss i)) (proc_of TT CC n g ss i).locals

  a_body : (n : Text) (g : Signature) (ss : List SpecTree) (h : Signature) (b : Body) (ms : Option (List Text)) → SignatureFine TT CC h → SameSorts g h → body_faults TT CC h ms b ≡ [] → BodyOk n g ss (Some (h, b))
  a_body n g ss h b ms s q e =
      let r1 = second_empty (flat_map (local_faults TT CC h b.locals) b.locals) _ e in
      let r2 = second_empty (again twice [] (labels_of b.stmts)) _ r1 in
      let k = vars_are_known h b s (first_empty _ _ e) in
      (body_typed ds none n g ss h b ms q.ins_same q.outs_same k (second_empty (many_labels_faults b.stmts) _ r2), local_clauses_typed ds none n g ss h b q.ins_same q.outs_same k (first_empty _ _ e))

  -- parameters that agree have the same sorts
  one_same : (g h : Signature) (gs hs : Groups) (r : Role) (j k : ℕ) → group_type_faults TT (texts_of (signature_names g)) gs ≡ [] → group_type_faults TT (texts_of (signature_names h)) hs ≡ []
      → same_groups TT g h gs hs ≡ true → Kinds (vars_from TT (texts_of (signature_names g)) r j (names_of gs)) ≡ Kinds (vars_from TT (texts_of (signature_names h)) r k (names_of hs))
  one_same g h gs hs r j k a b e = kinds_same TT _ r j (names_of gs)
      ∙ (agreed _ _ (each_known TT _ (names_of gs) (known_groups _ gs a)) (each_known TT _ (names_of hs) (known_groups _ hs b)) (both_true _ _ e).1 ∙ sym (kinds_same TT _ r k (names_of hs)))

  agree_same : (g h : Signature) → SignatureFine TT CC g → SignatureFine TT CC h → same_parameters TT g h ≡ true → SameSorts g h
  agree_same g h a b e = record {
    ins_same = one_same g h g.ins h.ins in_parameter _ _ a.ins_fine b.ins_fine (both_true _ _ e).0;
    outs_same = one_same g h g.outs h.outs out_parameter _ _ a.outs_fine b.outs_fine (both_true (same_groups TT g h g.ins h.ins) _ e).1;
  }

  -- what an implementation implements
  record Implements (g : Signature) (h : Signature) (b : Body) : Type 0 where
    is_fine : SignatureFine TT CC h
    same : SameSorts g h
    modified : Option (List Text)
    no_fault : body_faults TT CC h modified b ≡ []

  abbrev OptionOk : Signature → Option Implemented → Type 0
  OptionOk g None = ⊤
  OptionOk g (Some i) = Implements g i.0 i.1

  implemented : (o : Option Entity) (n : Text) (h : Signature) (p : Place) → entity_of TT n ≡ o → implemented_faults TT o h p ≡ [] → (k : ℕ) × (d : Contract) × (entity_of TT n ≡ Some (a_procedure k d)) × (same_parameters TT d.signature h ≡ true)
  implemented None n h p q e = cc
  implemented (Some (a_procedure k d)) n h p q e = (k, d, q, unless_empty _ arity p e)
  implemented (Some (a_constant k s)) n h p q e = cc
  implemented (Some (a_global k s)) n h p q e = cc
  implemented (Some (a_function f)) n h p q e = cc
  implemented (Some (a_synonym s)) n h p q e = cc

  same_contract : (j k : ℕ) (c d : Contract) → Some (a_procedure j c) ≡ Some (a_procedure k d) → c ≡ d
  same_contract j k c d e = cc

  -- the implementation of a procedure with this contract
  by_declaration : (bf : Before) (n : Text) (g : Signature) (ss : List SpecTree) (k : ℕ) → entity_of TT n ≡ Some (a_procedure k (contract_with g ss)) → (x : DeclBody) → decl_faults TT CC bf x ≡ [] → OptionOk g (implements n x)
  by_declaration bf n g ss k q (implementation m ps h b) e = by (bytes_eq m.text n) refl
    where
      by : (r : Bool) → bytes_eq m.text n ≡ r → OptionOk g (elim r [ true ↦ Some (h, b) | false ↦ None ])
      by false z = tt
      by true z =
          let r1 = second_empty (if_so (is_among bf.bodies m.text) twice m.at) _ e in
          let r2 = second_empty (implemented_faults TT (entity_of TT m.text) h m.at) _ r1 in
          let r3 = second_empty (signature_faults TT ps h) _ r2 in
          let r4 = second_empty (group_where_faults h.ins) _ r3 in
          let r5 = second_empty (group_where_faults h.outs) _ r4 in
          let u = implemented (entity_of TT m.text) m.text h m.at refl (first_empty _ _ r1) in
          let v = ap (entity_of TT) (same_text m.text n z) in
          let w : u.1 ≡ contract_with g ss = same_contract u.0 k u.1 _ (sym u.2 ∙ (v ∙ q)) in
          let f = signature_fine TT CC ps h (first_empty _ _ r2) in
          let y = entity_fine TT CC (fine ds none) m.text (a_procedure u.0 u.1) u.2 in
          record {
            is_fine = f;
            same = subst (λ (c : Contract). SameSorts c.signature h) w (agree_same u.1.signature h y f u.3);
            modified = implemented_modifies TT (entity_of TT m.text);
            no_fault = second_empty (again twice [] (names_in_body h b.locals)) _ r5;
          }
  by_declaration bf n g ss k q (constant u ns s) e = tt
  by_declaration bf n g ss k q (function m ps ins r y) e = tt
  by_declaration bf n g ss k q (axiom_of y) e = tt
  by_declaration bf n g ss k q (variables gs) e = tt
  by_declaration bf n g ss k q (synonym m s) e = tt
  by_declaration bf n g ss k q (procedure m ps h us y) e = tt

  or_ok : (g : Signature) (a b : Option Implemented) → OptionOk g a → OptionOk g b → OptionOk g (or_else a b)
  or_ok g None b h k = k
  or_ok g (Some i) b h k = h

  implementation_ok : (bf : Before) (n : Text) (g : Signature) (ss : List SpecTree) (k : ℕ) → entity_of TT n ≡ Some (a_procedure k (contract_with g ss)) → (xs : List Decl) → NoFaults TT CC bf xs → OptionOk g (implementation_of xs n)
  implementation_ok bf n g ss k q [] h = tt
  implementation_ok bf n g ss k q (x ∷ xs) h = or_ok g (implements n x.body) (implementation_of xs n) (by_declaration bf n g ss k q x.body h.0) (implementation_ok (before_with bf x.body) n g ss k q xs h.1)

  proc_ok : (n : Text) (g : Signature) (ss : List SpecTree) (i : Option Implemented) → OptionOk g i → BodyOk n g ss i
  proc_ok n g ss None h = (tt, tt)
  proc_ok n g ss (Some i) h = a_body n g ss i.0 i.1 h.modified h.is_fine h.same h.no_fault

  abbrev pub NoneOwn : Proc → Type 0
  NoneOwn p = AllByRecursion (λ (l : Local). IsTrue (not l.own)) (p.ins ++ (p.outs ++ p.locals))

  locals_own : (i : Option Implemented) → AllByRecursion (λ (l : Local). IsTrue (not l.own)) (proc_locals TT CC i)
  locals_own None = tt
  locals_own (Some i) = none_are_own (local_vars TT CC i.0 i.1.locals) _

  proc_own : (n : Text) (g : Signature) (ss : List SpecTree) (i : Option Implemented) → NoneOwn (proc_of TT CC n g ss i)
  proc_own n g ss i = every_append _ (proc_of TT CC n g ss i).ins _ (none_are_own (in_vars TT CC g) _) (every_append _ (proc_of TT CC n g ss i).outs _ (none_are_own (out_vars TT CC g) _) (locals_own i))

  abbrev pub ProcOk : Proc → Type 0
  ProcOk p = (IsBody (M ds none) p p.body × HaveClauses (M ds none) p (sorts_of (M ds none) p) p.locals) × NoneOwn p

  own_ok : (bf : Before) (n : Name) (ps : Option Params) (g : Signature) (ss : List SpecTree) (b : Option Body) → decl_faults TT CC bf (procedure n ps g ss b) ≡ [] → OptionOk g (own_body g b)
  own_ok bf n ps g ss None e = tt
  own_ok bf n ps g ss (Some b) e =
      let r1 = second_empty (again twice bf.names (n ∷ [])) _ e in
      let r2 = second_empty (if_so (has_body (Some b) && is_among bf.bodies n.text) twice n.at) _ r1 in
      let r3 = second_empty (signature_faults TT ps g) _ r2 in
      let r4 = second_empty (parameter_clause_faults TT CC g) _ r3 in
      let r5 = second_empty (again twice [] (names_in_body g b.locals)) _ r4 in
      record {
        is_fine = signature_fine TT CC ps g (first_empty _ _ r2);
        same = record { ins_same = refl; outs_same = refl };
        modified = Some (modified_by TT (contract_with g ss));
        no_fault = second_empty (flat_map (spec_faults TT CC g) ss) _ r5;
      }

  decl_procs : (bf : Before) (x : DeclBody) → decl_faults TT CC bf x ≡ [] → StandsForIt TT x → AllByRecursion ProcOk (procs_in ds TT CC x)
  decl_procs bf (procedure n ps g ss b) e q =
      let i = or_else (own_body g b) (implementation_of ds n.text) in
      ((proc_ok n.text g ss i (or_ok g (own_body g b) (implementation_of ds n.text) (own_ok bf n ps g ss b e) (implementation_ok nothing_before n.text g ss q.0 q.1 ds (none_faulty ds none))), proc_own n.text g ss i), tt)
  decl_procs bf (constant u ns s) e q = tt
  decl_procs bf (function m ps ins r y) e q = tt
  decl_procs bf (axiom_of y) e q = tt
  decl_procs bf (variables gs) e q = tt
  decl_procs bf (synonym m s) e q = tt
  decl_procs bf (implementation m ps h b) e q = tt

  procs_ok : (bf : Before) (xs : List Decl) → NoFaults TT CC bf xs → AllByRecursion (λ (x : Decl). StandsForIt TT x.body) xs → AllByRecursion ProcOk (flat_map (λ (x : Decl). procs_in ds TT CC x.body) xs)
  procs_ok bf [] h g = tt
  procs_ok bf (x ∷ xs) h g = every_append ProcOk (procs_in ds TT CC x.body) _ (decl_procs bf x.body h.0 g.0) (procs_ok (before_with bf x.body) xs h.1 g.1)

  pub bodies_typed : AllByRecursion ProcOk (M ds none).procs
  bodies_typed = procs_ok nothing_before ds (none_faulty ds none) (each_stands TT CC [] nothing_before no_counts 0 ds (λ m h. tt) (none_faulty ds none))
