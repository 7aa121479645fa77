-- The variables of a procedure have their types at their numbers, in both readings.
use Rattle.std.proofs.Common.{◌≡◌, ◌∙◌, refl, ap, subst, ℕ, ◌+◌, arith, List, [], ◌∷◌, ◌++◌, append_assoc, append-nil, length, length-append, None}
use Rattle.bpl_ast.specs.Place.{Name, Ty as Written}
use Rattle.bpl_ast.specs.Tree.{Groups}
use Rattle.bpl_ast.specs.Statement.{Signature, Body, Decl}
use Rattle.bpl_scopes.specs.declared.part.Role.{Role}
use Rattle.bpl_scopes.specs.declared.part.Role.TheVariants.{In as in_parameter, Out as out_parameter, Local as local_variable}
use Rattle.bpl_scopes.specs.Scopes.{table_of, Text, Table, Counts, no_counts, counts_after, names_of, texts_of, signature_names, Var}
use Rattle.bpl_declaration_faults.specs.Variables.{vars_from, first_parameter, locals_of, names_in_body, in_vars, out_vars, local_vars, parameters, body_vars}
use Rattle.bpl_declaration_faults.specs.DeclFaults.{fault_of, local_faults}
use Rattle.bpl_resolve.proofs.HasSort.{first_empty, second_empty}
use Rattle.bpl_resolve.proofs.Faultless.{TypesKnown, groups_known}
use Rattle.bpl_resolve.proofs.EntriesFine.{SignatureFine}
use Rattle.bpl_resolve.proofs.ScopesKnown.{VarsKnown, fine_type, types_vars, vars_from_known, vars_joined}
use Rattle.bpl_resolve.proofs.ModuleSorts.{T, C, fine}
use Rattle.bpl_resolve.proofs.Numbered.{slice_at}
use Rattle.bpl_resolve.proofs.ProcedureVariables.{map_length}
use Rattle.std.specs.Prelude.{flat_map}
use Rattle.bpl_sorts.specs.Types.{Ty}
use Rattle.bpl_sorts.specs.TypeNames.{type_of}
use Rattle.bpl_sorts.specs.DeclaredTypes.{types_named, declared_types}
use Rattle.bpl_sorts.specs.TypedModule.{with_own}
use Rattle.bpl_sorts.proofs.ReadTypes.{types_fit}
use Rattle.bpl_sorts.proofs.NumberedTypes.{constants_long, globals_long}
use Rattle.bpl_sorts.proofs.AlikeScopes.{A, TE, TA, CE, VarsAlike}

module _ (ds : List Decl) where
  abbrev pub CA : Counts
  CA = counts_after no_counts (A ds)

  some_alike : (pre more : List Ty) (hidden others : List Text) (r : Role) (k j : ℕ) (ps : List (Name × Written)) → length pre ≡ k
      → VarsAlike (pre ++ (types_named (table_of ds) ps ++ more)) (vars_from (TE ds) hidden r k ps) (vars_from (TA ds) others r j ps)
  some_alike pre more hidden others r k j [] e = tt
  some_alike pre more hidden others r k j (p ∷ ps) e = (
    record { name = refl; role = refl; type = type_of ds p.1; there = slice_at pre (type_of ds p.1) _ k e; fits = types_fit ds hidden others p.1 },
    subst (λ w. VarsAlike w (vars_from (TE ds) hidden r (k + 1) ps) (vars_from (TA ds) others r (j + 1) ps)) (append_assoc pre (type_of ds p.1 ∷ []) (types_named (table_of ds) ps ++ more))
        (some_alike (pre ++ (type_of ds p.1 ∷ [])) more hidden others r (k + 1) (j + 1) ps (length-append pre (type_of ds p.1 ∷ []) ∙ ap (λ w. w + 1) e)),
  )

  alike_joined : (types : List Ty) (vs us ws xs : List Var) → VarsAlike types vs us → VarsAlike types ws xs → VarsAlike types (vs ++ ws) (us ++ xs)
  alike_joined types [] [] ws xs h g = g
  alike_joined types [] (u ∷ us) ws xs h g = absurd h
  alike_joined types (v ∷ vs) [] ws xs h g = absurd h
  alike_joined types (v ∷ vs) (u ∷ us) ws xs h g = (h.0, alike_joined types vs us ws xs h.1 g)

  abbrev before : List Ty
  before = (declared_types ds).consts ++ ((declared_types ds).globals ++ (declared_types ds).globals)

  before_long : length before ≡ first_parameter (CE ds)
  before_long = length-append (declared_types ds).consts _ ∙ λ i. constants_long ds i + (length-append (declared_types ds).globals (declared_types ds).globals ∙ λ j. globals_long ds j + globals_long ds j) i

  behind : (own : List Ty) → before ++ own ≡ with_own (declared_types ds) own
  behind own = append_assoc (declared_types ds).consts _ own ∙ ap (λ w. (declared_types ds).consts ++ w) (append_assoc (declared_types ds).globals (declared_types ds).globals own)

  longer : (pre : List Ty) (k : ℕ) (ps : List (Name × Written)) → length pre ≡ k → length (pre ++ types_named (table_of ds) ps) ≡ k + length ps
  longer pre k ps e = length-append pre _ ∙ λ i. e i + map_length (λ (p : Name × Written). type_of ds p.1) ps i

  abbrev pub own_types : Signature → List Groups → List Ty
  own_types g vs = types_named (table_of ds) (names_of g.ins) ++ (types_named (table_of ds) (names_of g.outs) ++ types_named (table_of ds) (locals_of vs))

  ins_alike : (g : Signature) (more : List Ty) → VarsAlike (with_own (declared_types ds) (types_named (table_of ds) (names_of g.ins) ++ more)) (in_vars (TE ds) (CE ds) g) (in_vars (TA ds) CA g)
  ins_alike g more = subst (λ w. VarsAlike w (in_vars (TE ds) (CE ds) g) (in_vars (TA ds) CA g)) (behind _) (some_alike before more (texts_of (signature_names g)) (texts_of (signature_names g)) in_parameter (first_parameter (CE ds)) (first_parameter CA) (names_of g.ins) before_long)

  outs_alike : (g : Signature) (more : List Ty) → VarsAlike (with_own (declared_types ds) (types_named (table_of ds) (names_of g.ins) ++ (types_named (table_of ds) (names_of g.outs) ++ more))) (out_vars (TE ds) (CE ds) g) (out_vars (TA ds) CA g)
  outs_alike g more = subst (λ w. VarsAlike w (out_vars (TE ds) (CE ds) g) (out_vars (TA ds) CA g))
      (append_assoc before (types_named (table_of ds) (names_of g.ins)) _ ∙ behind _)
      (some_alike (before ++ types_named (table_of ds) (names_of g.ins)) more (texts_of (signature_names g)) (texts_of (signature_names g)) out_parameter (first_parameter (CE ds) + length (names_of g.ins)) (first_parameter CA + length (names_of g.ins)) (names_of g.outs) (longer before (first_parameter (CE ds)) (names_of g.ins) before_long))

  locals_alike : (g : Signature) (vs : List Groups) → VarsAlike (with_own (declared_types ds) (own_types g vs)) (local_vars (TE ds) (CE ds) g vs) (local_vars (TA ds) CA g vs)
  locals_alike g vs =
      let I = types_named (table_of ds) (names_of g.ins) in
      let O = types_named (table_of ds) (names_of g.outs) in
      let L = types_named (table_of ds) (locals_of vs) in
      let k = first_parameter (CE ds) in
      let l1 = longer before k (names_of g.ins) before_long in
      let l2 = longer (before ++ I) (k + length (names_of g.ins)) (names_of g.outs) l1 in
      let l3 : length ((before ++ I) ++ O) ≡ k + (length (names_of g.ins) + length (names_of g.outs)) = omega (arith, l2) in
      subst (λ w. VarsAlike w (local_vars (TE ds) (CE ds) g vs) (local_vars (TA ds) CA g vs))
      (append_assoc (before ++ I) O (L ++ []) ∙ (append_assoc before I (O ++ (L ++ [])) ∙ (ap (λ w. before ++ (I ++ (O ++ w))) (append-nil L) ∙ behind _)))
      (some_alike ((before ++ I) ++ O) [] (texts_of (names_in_body g vs)) (texts_of (names_in_body g vs)) local_variable (k + (length (names_of g.ins) + length (names_of g.outs))) (first_parameter CA + (length (names_of g.ins) + length (names_of g.outs))) (locals_of vs) l3)

  pub parameters_alike : (g : Signature) → VarsAlike (with_own (declared_types ds) (types_named (table_of ds) (names_of g.ins) ++ types_named (table_of ds) (names_of g.outs))) (parameters (TE ds) (CE ds) g) (parameters (TA ds) CA g)
  parameters_alike g = alike_joined _ (in_vars (TE ds) (CE ds) g) (in_vars (TA ds) CA g) _ _ (ins_alike g _)
      (subst (λ w. VarsAlike (with_own (declared_types ds) (types_named (table_of ds) (names_of g.ins) ++ w)) (out_vars (TE ds) (CE ds) g) (out_vars (TA ds) CA g)) (append-nil (types_named (table_of ds) (names_of g.outs))) (outs_alike g []))

  pub body_alike : (g : Signature) (vs : List Groups) → VarsAlike (with_own (declared_types ds) (own_types g vs)) (body_vars (TE ds) (CE ds) g vs) (body_vars (TA ds) CA g vs)
  body_alike g vs = alike_joined _ (parameters (TE ds) (CE ds) g) (parameters (TA ds) CA g) _ _
      (alike_joined _ (in_vars (TE ds) (CE ds) g) (in_vars (TA ds) CA g) _ _ (ins_alike g _) (outs_alike g _)) (locals_alike g vs)

-- in one reading, the variables have sorts
module _ (ds : List Decl) (none : fault_of ds ≡ None) where
  abbrev TT : Table
  TT = T ds none

  abbrev CC : Counts
  CC = C ds none

  pub parameters_known : (g : Signature) → SignatureFine TT CC g → VarsKnown (parameters TT CC g)
  parameters_known g s = vars_joined TT CC (fine ds none) (in_vars TT CC g) (out_vars TT CC g) (vars_from_known TT CC (fine ds none) _ in_parameter _ g.ins s.ins_fine) (vars_from_known TT CC (fine ds none) _ out_parameter _ g.outs s.outs_fine)

  types_joined : (hidden : List Text) (ps qs : List (Name × Written)) → TypesKnown TT hidden ps → TypesKnown TT hidden qs → TypesKnown TT hidden (ps ++ qs)
  types_joined hidden [] qs h g = g
  types_joined hidden (p ∷ ps) qs h g = (h.0, types_joined hidden ps qs h.1 g)

  pub locals_known : (g : Signature) (all vs : List Groups) → flat_map (local_faults TT CC g all) vs ≡ [] → TypesKnown TT (texts_of (names_in_body g all)) (locals_of vs)
  locals_known g all [] e = tt
  locals_known g all (v ∷ vs) e = types_joined (texts_of (names_in_body g all)) (names_of v) (locals_of vs)
      (groups_known TT (texts_of (names_in_body g all)) (fine_type TT CC (fine ds none) (texts_of (names_in_body g all))) v (first_empty _ _ (first_empty _ _ e))) (locals_known g all vs (second_empty (local_faults TT CC g all v) _ e))

  pub body_known : (g : Signature) (b : Body) → SignatureFine TT CC g → flat_map (local_faults TT CC g b.locals) b.locals ≡ [] → VarsKnown (body_vars TT CC g b.locals)
  body_known g b s e = vars_joined TT CC (fine ds none) (parameters TT CC g) (local_vars TT CC g b.locals) (parameters_known g s)
      (types_vars TT CC (fine ds none) (texts_of (names_in_body g b.locals)) local_variable _ (locals_of b.locals) (locals_known g b.locals b.locals e))
