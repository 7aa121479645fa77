-- Of two procedures with one dependency text, parameters, locals, contracts and bodies go alike, and the callees of the bodies too.
use Rattle.std.specs.Prelude.{◌≡◌, ℕ, ◌+◌, ◌-◌, ◌<◌, ◌≤◌, IsTrue, cond, List, [], ◌∷◌, ◌++◌, map, length, flat_map, slice_get, Option, Some, None}
use Rattle.std.specs.List.{Contains}
use Rattle.std.proofs.Common.{refl, ap, sym, ◌∙◌, subst, arith}
use Rattle.std.proofs.lemmas.Bool.{lt-ltb}
use Rattle.logic_core.specs.Tree.{Tree}
use Rattle.bpl_ast.specs.Statement.{Spec, Body, Signature, Decl}
use Rattle.bpl_model.specs.Module.{Stmts, Proc, Module}
use Rattle.bpl_model.specs.Numbering.{first_in}
use Rattle.bpl_model.specs.Reach.{own_positions}
use Rattle.bpl_scopes.specs.declared.part.Part.TheVariants.{Body as in_body, ClauseOfIn as in_clause_of_in, ClauseOfOut as in_clause_of_out, ClauseOfLocal as in_clause_of_local}
use Rattle.bpl_scopes.specs.Scopes.{Text, Contract, a_procedure, Table, table_of, Counts, no_counts, counts_after, names_of, texts_of, signature_names, entity_of, Var}
use Rattle.bpl_texts.specs.Uses.{signature_uses, spec_uses, local_texts, locals_uses, stmts_uses}
use Rattle.bpl_statement_faults.specs.StmtFaults.{labels_of, many_labels_faults, outermost}
use Rattle.bpl_scopes.specs.declared.fault.TypeKind.TheVariants.{Twice as twice}
use Rattle.bpl_scopes.specs.Fault.{again}
use Rattle.bpl_declaration_faults.specs.Variables.{first_parameter, locals_of, in_vars, out_vars, parameters, local_vars, body_vars, scope_of}
use Rattle.bpl_declaration_faults.specs.DeclFaults.{local_faults, fault_of}
use Rattle.canonical_text.specs.SameStatement.{bare_decl}
use Rattle.canonical_text.specs.RoundTrip.{AreWrittenDecls}
use Rattle.canonical_text.specs.Heads.{bare_head, HaveBody}
use Rattle.vc_build.specs.Rebuild.{with_body}
use Rattle.bpl_resolve.specs.Elaborate.{clause_terms, locals_with, procedure_number, stmts_of, proc_of, module_of}
use Rattle.bpl_resolve.proofs.HasSort.{first_empty, second_empty}
use Rattle.bpl_resolve.proofs.Numbered.{length_clauses}
use Rattle.bpl_resolve.proofs.ModuleSorts.{length_vars}
use Rattle.bpl_resolve.proofs.ProcedureVariables.{length_all_clauses}
use Rattle.rebuild_laws.specs.Alike.{AlikeLocals, AlikeSpecs}
use Rattle.rebuild_laws.specs.Unplaced.{unplaced_stmts, unplaced_proc}
use Rattle.rebuild_laws.specs.Numbers.{new_all, Reads}
use Rattle.rebuild_laws.specs.Procedures.{first_call, BeforeCalls, AlikeCallee, both, Callees, AlikeBodies, bodies}
use Rattle.rebuild_laws.specs.DependencyTexts.{bodies_at, other_positions}
use Rattle.rebuild_laws.proofs.NumbersAlike.{all_high, low_reads, high_reads}
use Rattle.rebuild_laws.proofs.UnplacedAlike.{alike_wherever}
use Rattle.rebuild_laws.proofs.ScopesAlike.{AlikeName}
use Rattle.rebuild_laws.proofs.StatementsAlike.{stmts_alike}
use Rattle.rebuild_laws.proofs.BareProcedures.{same_procedures}
use Rattle.rebuild_laws.proofs.NamesInUse.{Used, used}
use Rattle.rebuild_laws.proofs.AxiomsOfTexts.{each_used}
use Rattle.rebuild_laws.proofs.SameNames.{vars_met, functions_met, new_low, new_function, name_alike}
use Rattle.rebuild_laws.proofs.MetNumbers.{consts_are, globals_are}
use Rattle.rebuild_laws.proofs.NamesOfTexts.{twins, twins_back, names}
use Rattle.bpl_resolve.proofs.FunctionOrder.{stays}
use Rattle.bpl_resolve.proofs.TypeSorts.{member_right}
use Rattle.rebuild_laws.proofs.CalleesAlike.{both_procedures}
use Rattle.rebuild_laws.proofs.OwnProcedures.{all_first, all_second, OwnProcedure, own_procedure, FineOwn, own_is_fine, SameOwn, same_own}
use Rattle.rebuild_laws.proofs.SignaturesAlike.{Follow, AlikeContracts, contracts_alike, body_vars_alike, body_hides, locals_alike}

locals_length : (vs : List Var) (ks : List (Option Tree)) → length ks ≡ length vs → length (locals_with vs ks) ≡ length vs
locals_length [] ks e = refl
locals_length (v ∷ vs) [] e = absurd (omega (arith, e))
locals_length (v ∷ vs) (k ∷ ks) e = let r = locals_length vs ks (omega (arith, e)) in omega (arith, r)

-- how many parameters and locals there are
module _ (t : Table) (c : Counts) (n : Text) (g : Signature) (ss : List Spec) (h : Signature) (b : Body) where
  ins_length : length (proc_of t c n g ss (Some (h, b))).ins ≡ length (names_of g.ins)
  ins_length =
      let v = length_vars t (texts_of (signature_names g)) _ (first_parameter c) (names_of g.ins) in
      locals_length (in_vars t c g) (clause_terms (scope_of t c in_clause_of_in (parameters t c g)) g.ins) (length_clauses (scope_of t c in_clause_of_in (parameters t c g)) g.ins ∙ sym v) ∙ v

  outs_length : length (proc_of t c n g ss (Some (h, b))).outs ≡ length (names_of g.outs)
  outs_length =
      let v = length_vars t (texts_of (signature_names g)) _ (first_parameter c + length (names_of g.ins)) (names_of g.outs) in
      locals_length (out_vars t c g) (clause_terms (scope_of t c in_clause_of_out (parameters t c g)) g.outs) (length_clauses (scope_of t c in_clause_of_out (parameters t c g)) g.outs ∙ sym v) ∙ v

  local_length : length (proc_of t c n g ss (Some (h, b))).locals ≡ length (locals_of b.locals)
  local_length =
      let s = scope_of t c in_clause_of_local (body_vars t c h b.locals) in
      let v : length (local_vars t c h b.locals) ≡ length (locals_of b.locals) = length_vars t _ _ _ (locals_of b.locals) in
      locals_length (local_vars t c h b.locals) (flat_map (clause_terms s) b.locals) (length_all_clauses s b.locals ∙ sym v) ∙ v

module _ (ds : List Decl) (p : Proc) (es : List Decl) (q : Proc) (none : fault_of ds ≡ None) (none_there : fault_of es ≡ None)
    (body : HaveBody (bodies_at ds (own_positions (module_of ds) p))) (body_there : HaveBody (bodies_at es (own_positions (module_of es) q)))
    (own : map bare_decl (bodies_at ds (own_positions (module_of ds) p)) ≡ map bare_decl (bodies_at es (own_positions (module_of es) q)))
    (others : map bare_head (bodies_at ds (other_positions (module_of ds) p)) ≡ map bare_head (bodies_at es (other_positions (module_of es) q))) where
  abbrev M : Module
  M = module_of ds

  abbrev O : Module
  O = module_of es

  abbrev T : Table
  T = table_of ds

  abbrev U : Table
  U = table_of es

  abbrev C : Counts
  C = counts_after no_counts ds

  abbrev E : Counts
  E = counts_after no_counts es

  abbrev N : ℕ → ℕ
  N = new_all M O (vars_met ds p) (vars_met es q) (new_low ds es) (new_low es ds)

  abbrev F : ℕ → Type 0
  F f = IsTrue (functions_met ds p f)

  abbrev Read : ℕ → Type 0
  Read = Reads M O (vars_met ds p) (vars_met es q) (new_low ds es) (new_low es ds)

  abbrev V : ℕ → Type 0
  V = BeforeCalls M O (vars_met ds p) (vars_met es q) (new_low ds es) (new_low es ds) p

  first_here : first_in M ≡ first_parameter C
  first_here = let a = consts_are ds none in let b = globals_are ds none in omega (arith, a, b)

  first_there : first_in O ≡ first_parameter E
  first_there = let a = consts_are es none_there in let b = globals_are es none_there in omega (arith, a, b)

  -- parameters and locals follow
  new_behind : (j : ℕ) → N (first_parameter C + j) ≡ first_parameter E + j
  new_behind j =
      let a = first_here in
      let b = first_there in
      all_high M O (vars_met ds p) (vars_met es q) (new_low ds es) (new_low es ds) (first_parameter C + j) (omega (arith, a)) ∙ omega (arith, a, b)

  read_behind : (j : ℕ) → Read (first_parameter C + j)
  read_behind j = let a = first_here in high_reads M O (vars_met ds p) (vars_met es q) (new_low ds es) (new_low es ds) (first_parameter C + j) (omega (arith, a))

  abbrev alike_names : (n : Text) → Used ds p n → AlikeName (new_function ds es) N F Read (Used ds p) T U C E n
  alike_names = names ds p es q none none_there body body_there own others

  -- callees

  callee_alike : (n : Text) (k : ℕ) (d : Contract) → Used ds p n → entity_of T n ≡ Some (a_procedure k d)
      → Callees M O (vars_met ds p) (vars_met es q) (new_low ds es) (new_low es ds) (new_function ds es) F k (procedure_number (entity_of U n))
  callee_alike n k d u e =
      let r = both_procedures ds p es q (twins ds p es q none none_there body body_there own others) (twins_back ds p es q none none_there body body_there own others) none none_there n k d (used u) e in
      let f = r.here.fine in
      let g = r.here.signature in
      let us = flat_map (spec_uses (texts_of (signature_names g))) r.here.specs in
      let a = contracts_alike (new_function ds es) N F Read (Used ds p) T U C E alike_names g r.here.specs (length (names_of g.ins) + length (names_of g.outs)) (λ j l. (new_behind j, read_behind j)) (omega arith)
      n n r.here.implemented r.there.implemented r.there.signature r.there.specs f.parameters f.specs
      (each_used (Used ds p) (signature_uses g) (λ m i. r.uses m (stays m (signature_uses g) us i))) (each_used (Used ds p) us (λ m i. r.uses m (member_right m (signature_uses g) us i)))
      r.signatures r.clauses in
      let at = ap (λ o. slice_get O.procs (procedure_number o)) r.is_there ∙ r.there.here in
      subst (λ o. AlikeCallee M O (vars_met ds p) (vars_met es q) (new_low ds es) (new_low es ds) (new_function ds es) F o (slice_get O.procs (procedure_number (entity_of U n)))) (sym r.here.here)
      (subst (λ o. AlikeCallee M O (vars_met ds p) (vars_met es q) (new_low ds es) (new_low es ds) (new_function ds es) F (Some (proc_of T C n g r.here.specs r.here.implemented)) o) (sym at) (both (record { ins = a.ins; outs = a.outs; specs = a.specs })))

  module _ (written : AreWrittenDecls 0 ds) (written_there : AreWrittenDecls 0 es) (stands : Contains (with_body (module_of ds)) p) (stands_there : Contains (with_body (module_of es)) q) where
    here : OwnProcedure ds p none
    here = own_procedure ds p none written stands

    there : OwnProcedure es q none_there
    there = own_procedure es q none_there written_there stands_there

    fine : FineOwn ds p none here.signature here.specs here.inner here.body
    fine = own_is_fine ds p none here

    same : SameOwn here.signature here.specs here.inner here.body there.signature there.specs there.inner there.body
    same = same_own _ _ _ _ _ _ _ _ _ _ here.bodies there.bodies own

    abbrev G : Signature
    G = here.signature

    abbrev H : Signature
    H = here.inner

    abbrev B : Body
    B = here.body

    -- so many parameters and locals
    abbrev many : ℕ
    many = (length (names_of H.ins) + length (names_of H.outs)) + length (locals_of B.locals)

    many_are : length p.ins + (length p.outs + length p.locals) ≡ many
    many_are =
        let a = ap (λ (z : Proc). length z.ins) (sym here.is) ∙ (ins_length T C here.name G here.specs H B ∙ fine.ins) in
        let b = ap (λ (z : Proc). length z.outs) (sym here.is) ∙ (outs_length T C here.name G here.specs H B ∙ fine.outs) in
        let c = ap (λ (z : Proc). length z.locals) (sym here.is) ∙ local_length T C here.name G here.specs H B in
        omega (arith, a, b, c)

    below : (v : ℕ) → v < first_parameter C → v < first_in M
    below v l = let a = first_here in omega (arith, a, l)

    -- names in the procedure, which reads variables before those of calls
    own_names : (n : Text) → Used ds p n → AlikeName (new_function ds es) N F V (Used ds p) T U C E n
    own_names n u = name_alike ds p es q (twins ds p es q none none_there body body_there own others) (twins_back ds p es q none none_there body body_there own others) none none_there N V
        (λ v l. ap (λ r. cond r (new_low ds es v) (first_in O + (v - first_in M))) (lt-ltb v (first_in M) (below v l)))
        (λ v l m. (low_reads M O (vars_met ds p) (vars_met es q) (new_low ds es) (new_low es ds) v (below v l, m), before v l)) (Used ds p) n (used u)
      where
        before : (v : ℕ) → v < first_parameter C → v < first_call M p
        before v l = let a = first_here in omega (arith, a, l)

    follow : Follow (new_function ds es) N F V (Used ds p) T U C E own_names many
    follow j l = (new_behind j, (read_behind j, before j l))
      where
        before : (j : ℕ) → j < many → first_parameter C + j < first_call M p
        before j l = let a = first_here in let m = many_are in omega (arith, a, m, l)

    abbrev P : Proc
    P = proc_of T C here.name G here.specs (Some (H, B))

    abbrev Q : Proc
    Q = proc_of U E there.name there.signature there.specs (Some (there.inner, there.body))

    moved : (R : Proc → Proc → Type 0) → R P Q → R p q
    moved R x = subst (λ z. R z q) here.is (subst (λ z. R P z) there.is x)

    fits : length (names_of G.ins) + length (names_of G.outs) ≤ many
    fits = let a = fine.ins in let b = fine.outs in omega (arith, a, b)

    contract : AlikeContracts (new_function ds es) N F V (Used ds p) T U C E own_names P Q
    contract = contracts_alike (new_function ds es) N F V (Used ds p) T U C E own_names G here.specs many follow fits here.name there.name (Some (H, B)) (Some (there.inner, there.body)) there.signature there.specs
        fine.parameters fine.specs fine.signature_used fine.specs_used same.signature same.specs

    placed : unplaced_proc (proc_of U E there.name G here.specs (Some (H, B))) ≡ unplaced_proc Q
    placed = same_procedures U E there.name G there.signature here.specs there.specs (Some (H, B)) (Some (there.inner, there.body)) same.signature same.specs (λ i. Some (same.inner i, same.body i))

    -- the names that a body's variables hide
    abbrev hidden : List Text
    hidden = local_texts B ++ texts_of (signature_names H)

    locals : AlikeLocals (new_function ds es) N F V P.locals Q.locals
    locals = subst (AlikeLocals (new_function ds es) N F V P.locals) (ap (λ (z : Proc). z.locals) placed)
        (locals_alike (new_function ds es) N F V (Used ds p) T U C E own_names H B many follow (omega arith) (first_empty _ _ fine.body) (all_first (Used ds p) (locals_uses hidden B.locals) (stmts_uses hidden B.stmts) fine.body_used))

    some_same : (xs ys : Stmts) → Some xs ≡ Some ys → xs ≡ ys
    some_same xs ys e = cc

    statements : AlikeBodies M O (vars_met ds p) (vars_met es q) (new_low ds es) (new_low es ds) (new_function ds es) F V P.body Q.body
    statements =
        let vs = body_vars T C H B.locals in
        let ws = body_vars U E H B.locals in
        let r1 = second_empty (flat_map (local_faults T C H B.locals) B.locals) _ fine.body in
        let r2 = second_empty (again twice [] (labels_of B.stmts)) _ r1 in
        let r3 = second_empty (many_labels_faults B.stmts) _ r2 in
        let a = stmts_alike (new_function ds es) N F V (Used ds p) T U C E own_names (Callees M O (vars_met ds p) (vars_met es q) (new_low ds es) (new_low es ds) (new_function ds es) F) callee_alike vs ws
        (body_vars_alike (new_function ds es) N F V (Used ds p) T U C E own_names H B.locals many follow (omega arith)) hidden (body_hides (new_function ds es) N F V (Used ds p) T U C E own_names H B in_body) fine.modified (texts_of (labels_of B.stmts))
        outermost B.stmts r3 (all_second (Used ds p) (locals_uses hidden B.locals) (stmts_uses hidden B.stmts) fine.body_used) in
        let there_stmts = stmts_of (scope_of U E in_body (body_vars U E there.inner there.body.locals)) there.body.stmts in
        bodies (alike_wherever (new_function ds es) N F V (Callees M O (vars_met ds p) (vars_met es q) (new_low ds es) (new_low es ds) (new_function ds es) F) (stmts_of (scope_of T C in_body vs) B.stmts) (stmts_of (scope_of U E in_body ws) B.stmts) there_stmts a
        (some_same (unplaced_stmts (stmts_of (scope_of U E in_body ws) B.stmts)) (unplaced_stmts there_stmts) (ap (λ (z : Proc). z.body) placed)))

    pub own_ins_alike : AlikeLocals (new_function ds es) N F V p.ins q.ins
    own_ins_alike = moved (λ x y. AlikeLocals (new_function ds es) N F V x.ins y.ins) contract.ins

    pub own_outs_alike : AlikeLocals (new_function ds es) N F V p.outs q.outs
    own_outs_alike = moved (λ x y. AlikeLocals (new_function ds es) N F V x.outs y.outs) contract.outs

    pub own_locals_alike : AlikeLocals (new_function ds es) N F V p.locals q.locals
    own_locals_alike = moved (λ x y. AlikeLocals (new_function ds es) N F V x.locals y.locals) locals

    pub own_specs_alike : AlikeSpecs (new_function ds es) N F V p.specs q.specs
    own_specs_alike = moved (λ x y. AlikeSpecs (new_function ds es) N F V x.specs y.specs) contract.specs

    pub own_body_alike : AlikeBodies M O (vars_met ds p) (vars_met es q) (new_low ds es) (new_low es ds) (new_function ds es) F V p.body q.body
    own_body_alike = moved (λ x y. AlikeBodies M O (vars_met ds p) (vars_met es q) (new_low ds es) (new_low es ds) (new_function ds es) F V x.body y.body) statements
