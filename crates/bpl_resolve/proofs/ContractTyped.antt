-- In the module of a program without faults each specification is one that the module's type keeps, and so are the where clauses of in-parameters and outs.
use Rattle.std.proofs.Common.{◌≡◌, refl, ap, sym, ◌∙◌, subst, ◌+◌, ◌≤◌, arith, ◌&&◌, List, [], ◌∷◌, ◌++◌, append_assoc, append-nil, map, length, length-append, Option, None}
use Rattle.std.specs.Prelude.{flat_map}
use Rattle.std.specs.List.{AllByRecursion}
use Rattle.logic_core.specs.Tree.{Kind}
use Rattle.logic_core.specs.WellSorted.{IsFormula}
use Rattle.logic_core.proofs.EachOf.{every_append}
use Rattle.bpl_ast.specs.Statement.{Signature, Spec as SpecTree, requires, ensures, modifies, DeclBody, constant, function, axiom_of, variables, synonym, procedure, implementation, Decl}
use Rattle.bpl_model.specs.Module.{Proc}
use Rattle.bpl_model.specs.Numbering.{defs_of, const_sorts, global_sorts, contract_sorts, in_sorts}
use Rattle.bpl_model.specs.Typed.{HaveClauses, IsSpec}
use Rattle.bpl_scopes.specs.declared.fault.TypeKind.TheVariants.{Twice as twice}
use Rattle.bv_base.specs.Text.{is_among}
use Rattle.bpl_scopes.specs.Fault.{again, if_so}
use Rattle.bpl_scopes.specs.declared.part.Part.TheVariants.{Requires as in_requires, Ensures as in_ensures, ClauseOfIn as in_clause_of_in, ClauseOfOut as in_clause_of_out}
use Rattle.bpl_scopes.specs.declared.part.Role.TheVariants.{In as in_parameter, Out as out_parameter}
use Rattle.bpl_scopes.specs.Scopes.{Text, Table, Counts, names_of, Var}
use Rattle.bpl_faults.specs.ExprFaults.{group_clause_faults}
use Rattle.bpl_declaration_faults.specs.Variables.{first_parameter, in_vars, out_vars, parameters, names_in_body, scope_of}
use Rattle.bpl_declaration_faults.specs.DeclFaults.{fault_of, signature_faults, parameter_clause_faults, spec_faults, optional_locals, has_body, decl_faults, Before, before_with, nothing_before}
use Rattle.bpl_terms.specs.Terms.{sort_or_int, term_of}
use Rattle.bpl_resolve.specs.Elaborate.{Implemented, or_else, own_body, implementation_of, proc_of, spec_of, procs_in}
use Rattle.bpl_resolve.proofs.HasSort.{first_empty, second_empty}
use Rattle.bpl_resolve.proofs.EntriesFine.{SignatureFine, signature_fine, NoFaults, none_faulty}
use Rattle.bpl_resolve.proofs.ScopesKnown.{VarsKnown, vars_from_known, vars_joined}
use Rattle.bpl_resolve.proofs.ScopesFit.{AreAt}
use Rattle.bpl_resolve.proofs.ModuleSorts.{T, C, M, fine, constants_count, globals_count, sorts_before, formula_fits}
use Rattle.bpl_resolve.proofs.ProcedureVariables.{columns}
use Rattle.bpl_resolve.proofs.BodyTyped.{ins_sorts, outs_sorts}
use Rattle.bpl_resolve.proofs.InClauses.{in_clauses_typed}
use Rattle.bpl_resolve.proofs.Modifies.{modifies_globals}
use Rattle.bpl_resolve.proofs.RequiresTyped.{requires_lacks}
use Rattle.bpl_resolve.proofs.OutClauses.{numbers_from, group_clauses, with_clauses}

module _ (ds : List Decl) (none : fault_of ds ≡ None) where
  abbrev TT : Table
  TT = T ds none

  abbrev CC : Counts
  CC = C ds none

  abbrev kind_at : Var → Kind
  kind_at v = sort_or_int v.sort

  abbrev Rest : Signature → List Kind
  Rest g = map kind_at (in_vars TT CC g) ++ map kind_at (out_vars TT CC g)

  three : {A : Type 0} (xs ys zs ws : List A) → (xs ++ (ys ++ zs)) ++ ws ≡ xs ++ (ys ++ (zs ++ ws))
  three xs ys zs ws = append_assoc xs (ys ++ zs) ws ∙ ap (λ w. xs ++ w) (append_assoc ys zs ws)

  long : length (const_sorts (M ds none) ++ (global_sorts (M ds none) ++ global_sorts (M ds none))) ≡ first_parameter CC
  long = length-append (const_sorts (M ds none)) _ ∙ λ i. constants_count ds none i + (length-append (global_sorts (M ds none)) (global_sorts (M ds none)) ∙ λ j. globals_count ds none j + globals_count ds none j) i

  parameters_at : (g : Signature) → AreAt ds TT CC (sorts_before ds none (Rest g)) (parameters TT CC g)
  parameters_at g = subst (AreAt ds TT CC (sorts_before ds none (Rest g))) (append-nil (parameters TT CC g))
      (subst (λ w. AreAt ds TT CC w (parameters TT CC g ++ [])) (three (const_sorts (M ds none)) (global_sorts (M ds none)) (global_sorts (M ds none)) _ ∙ ap (λ w. sorts_before ds none (map kind_at (in_vars TT CC g) ++ w)) (append-nil (map kind_at (out_vars TT CC g))))
      (columns kind_at TT CC g [] (const_sorts (M ds none) ++ (global_sorts (M ds none) ++ global_sorts (M ds none))) long))

  parameters_known : (g : Signature) → SignatureFine TT CC g → VarsKnown (parameters TT CC g)
  parameters_known g s = vars_joined TT CC (fine ds none) (in_vars TT CC g) (out_vars TT CC g) (vars_from_known TT CC (fine ds none) _ in_parameter _ g.ins s.ins_fine) (vars_from_known TT CC (fine ds none) _ out_parameter _ g.outs s.outs_fine)

  parameters_from : (g : Signature) → AllByRecursion (λ (u : Var). first_parameter CC ≤ u.number) (parameters TT CC g)
  parameters_from g = every_append _ (in_vars TT CC g) (out_vars TT CC g) (numbers_from TT _ in_parameter _ _ (names_of g.ins) (omega arith)) (numbers_from TT _ out_parameter _ _ (names_of g.outs) (omega arith))

  contract_is : (n : Text) (g : Signature) (ss : List SpecTree) (i : Option Implemented) → contract_sorts (M ds none) (proc_of TT CC n g ss i) ≡ sorts_before ds none (Rest g)
  contract_is n g ss i = λ j. sorts_before ds none (ins_sorts ds none n g ss i j ++ outs_sorts ds none n g ss i j)

  abbrev pub ContractOk : Proc → Type 0
  ContractOk p = (HaveClauses (M ds none) p (in_sorts (M ds none) p) p.ins × HaveClauses (M ds none) p (contract_sorts (M ds none) p) p.outs) × AllByRecursion (IsSpec (M ds none) p) p.specs

  spec_ok : (n : Text) (g : Signature) (us : List SpecTree) (i : Option Implemented) → SignatureFine TT CC g → (u : SpecTree) → spec_faults TT CC g u ≡ [] → IsSpec (M ds none) (proc_of TT CC n g us i) (spec_of TT CC g u)
  spec_ok n g us i s (requires q f x) e = (subst (λ w. IsFormula w (defs_of (M ds none)) (term_of (scope_of TT CC in_requires (parameters TT CC g)) x)) (sym (contract_is n g us i)) (formula_fits ds none (Rest g) in_requires (parameters TT CC g) (parameters_known g s) (parameters_at g) x e), requires_lacks ds none n g us i x e)
  spec_ok n g us i s (ensures q f x) e = subst (λ w. IsFormula w (defs_of (M ds none)) (term_of (scope_of TT CC in_ensures (parameters TT CC g)) x)) (sym (contract_is n g us i)) (formula_fits ds none (Rest g) in_ensures (parameters TT CC g) (parameters_known g s) (parameters_at g) x e)
  spec_ok n g us i s (modifies q ns) e = modifies_globals ds none ns

  specs_ok : (n : Text) (g : Signature) (us : List SpecTree) (i : Option Implemented) → SignatureFine TT CC g → (ss : List SpecTree) → flat_map (spec_faults TT CC g) ss ≡ [] → AllByRecursion (IsSpec (M ds none) (proc_of TT CC n g us i)) (map (spec_of TT CC g) ss)
  specs_ok n g us i s [] e = tt
  specs_ok n g us i s (u ∷ ss) e = (spec_ok n g us i s u (first_empty _ _ e), specs_ok n g us i s ss (second_empty (spec_faults TT CC g u) _ e))

  outs_ok : (n : Text) (g : Signature) (ss : List SpecTree) (i : Option Implemented) → SignatureFine TT CC g → parameter_clause_faults TT CC g ≡ [] → HaveClauses (M ds none) (proc_of TT CC n g ss i) (contract_sorts (M ds none) (proc_of TT CC n g ss i)) (proc_of TT CC n g ss i).outs
  outs_ok n g ss i s e = subst (λ w. HaveClauses (M ds none) (proc_of TT CC n g ss i) w (proc_of TT CC n g ss i).outs) (sym (contract_is n g ss i))
      (with_clauses ds none (proc_of TT CC n g ss i) (sorts_before ds none (Rest g)) (out_vars TT CC g) _
      (group_clauses ds none (proc_of TT CC n g ss i) (Rest g) in_clause_of_out refl (parameters TT CC g) (parameters_known g s) (parameters_at g) (parameters_from g) g.outs
      (second_empty (group_clause_faults (scope_of TT CC in_clause_of_in (parameters TT CC g)) g.ins) _ e)))

  decl_contracts : (bf : Before) (x : DeclBody) → decl_faults TT CC bf x ≡ [] → AllByRecursion ContractOk (procs_in ds TT CC x)
  decl_contracts bf (procedure n ps g ss b) e =
      let i = or_else (own_body g b) (implementation_of ds n.text) in
      let r1 = second_empty (again twice bf.names (n ∷ [])) _ e in
      let r2 = second_empty (if_so (has_body b && is_among bf.bodies n.text) twice n.at) _ r1 in
      let r3 = second_empty (signature_faults TT ps g) _ r2 in
      let r4 = second_empty (parameter_clause_faults TT CC g) _ r3 in
      let r5 = second_empty (again twice [] (names_in_body g (optional_locals b))) _ r4 in
      let s = signature_fine TT CC ps g (first_empty _ _ r2) in
      (((in_clauses_typed ds none n.text g ss i s (first_empty _ _ r3), outs_ok n.text g ss i s (first_empty _ _ r3)), specs_ok n.text g ss i s ss (first_empty _ _ r5)), tt)
  decl_contracts bf (constant u ns s) e = tt
  decl_contracts bf (function m ps ins r y) e = tt
  decl_contracts bf (axiom_of y) e = tt
  decl_contracts bf (variables gs) e = tt
  decl_contracts bf (synonym m s) e = tt
  decl_contracts bf (implementation m ps h b) e = tt

  contracts_from : (bf : Before) (xs : List Decl) → NoFaults TT CC bf xs → AllByRecursion ContractOk (flat_map (λ (x : Decl). procs_in ds TT CC x.body) xs)
  contracts_from bf [] h = tt
  contracts_from bf (x ∷ xs) h = every_append ContractOk (procs_in ds TT CC x.body) _ (decl_contracts bf x.body h.0) (contracts_from (before_with bf x.body) xs h.1)

  pub contracts_typed : AllByRecursion ContractOk (M ds none).procs
  contracts_typed = contracts_from nothing_before ds (none_faulty ds none)
