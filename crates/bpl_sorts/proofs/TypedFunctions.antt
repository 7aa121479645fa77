-- Each function's body has its type, over the types of constants, its parameters and the functions with lower numbers.
use Rattle.std.proofs.Common.{◌≡◌, ◌∙◌, refl, sym, ap, subst, inl, inr, ℕ, zero, suc, true, Some, None, List, [], ◌∷◌, ◌++◌, append-nil, map, length, reverse, take, slice_get}
use Rattle.logic_core.specs.Def.{Def}
use Rattle.logic_laws.proofs.SortedNumbers.{HasVariable, HasDefinition, mentions_there, there_in_front, body_is_sorted}
use Rattle.bpl_ast.specs.Place.{Ty as Written}
use Rattle.bpl_ast.specs.Tree.{Expr}
use Rattle.bpl_ast.specs.Statement.{Argument, Decl}
use Rattle.bpl_model.specs.Numbering.{defs_of, const_sorts}
use Rattle.bpl_model.specs.Typed.{IsTypedModule}
use Rattle.bpl_scopes.specs.declared.part.Part.TheVariants.{Function as in_function}
use Rattle.bpl_scopes.specs.Scopes.{table_of, Text, Heading, a_function, Table, BoundVar, entity_of}
use Rattle.bpl_scopes.specs.Sorts.{sort_of_type, argument_sorts}
use Rattle.bpl_scopes.specs.Functions.{function_in, in_number_order}
use Rattle.bpl_faults.specs.ExprFaults.{expr_faults}
use Rattle.bpl_declaration_faults.specs.Variables.{bound_argument, function_scope}
use Rattle.bpl_declaration_faults.specs.DeclFaults.{fault_of, function_body_faults}
use Rattle.bpl_terms.specs.Terms.{sort_or_int, term_of}
use Rattle.bpl_resolve.specs.Elaborate.{module_of, value_term}
use Rattle.bpl_resolve.proofs.Below.{back_onto}
use Rattle.bpl_resolve.proofs.HasSort.{Known, first_empty, second_empty}
use Rattle.bpl_resolve.proofs.Faultless.{KnownBounds, EachKnown}
use Rattle.bpl_resolve.proofs.EntriesFine.{FunctionFine, entity_fine, synonyms_fine}
use Rattle.bpl_resolve.proofs.ScopesKnown.{fine_type, arguments_fine}
use Rattle.bpl_resolve.proofs.FunctionOrder.{AllFunctions, order_only}
use Rattle.bpl_resolve.proofs.ScopesFit.{some_heading, def_of, defs_for, defs_step}
use Rattle.bpl_resolve.proofs.ModuleSorts.{fine, acyclic}
use Rattle.bpl_sorts.specs.Types.{Ty, kind_of, kinds_of, Head}
use Rattle.bpl_sorts.specs.Typed.{HasType, AreTypedDefs}
use Rattle.bpl_sorts.specs.TypeNames.{type_of}
use Rattle.bpl_sorts.specs.DeclaredTypes.{head_of, Types, declared_types}
use Rattle.bpl_sorts.specs.Readings.{BoundsAlike}
use Rattle.bpl_sorts.proofs.ReadTypes.{types_fit}
use Rattle.bpl_sorts.proofs.AlikeScopes.{E, A, TE, TA, CE, constants_at, function_too}
use Rattle.bpl_sorts.proofs.ExchangedValues.{whole_take}
use Rattle.bpl_sorts.proofs.TypedParts.{same_some, side_typed}
use Rattle.bpl_sorts.proofs.TypedVars.{CA}
use Rattle.bpl_sorts.proofs.NarrowedHeads.{narrowed}

-- parameters as bound variables
bounds_known : (t : Table) (ins : List Argument) (vs : List BoundVar) → EachKnown (argument_sorts t ins) → KnownBounds vs → KnownBounds (reverse (map (bound_argument t) ins) ++ vs)
bounds_known t [] vs h k = k
bounds_known t (a ∷ ins) vs h k = subst KnownBounds (sym (back_onto (bound_argument t a) (map (bound_argument t) ins) vs)) (bounds_known t ins (bound_argument t a ∷ vs) h.1 (h.0, k))

parameters_known : (t : Table) (ins : List Argument) → EachKnown (argument_sorts t ins) → KnownBounds (reverse (map (bound_argument t) ins))
parameters_known t ins h = subst KnownBounds (append-nil (reverse (map (bound_argument t) ins))) (bounds_known t ins [] h tt)

module _ (ds : List Decl) (none : fault_of (E ds) ≡ None) (nope : fault_of (A ds) ≡ None) where
  abbrev T : Types
  T = declared_types ds

  abbrev types_in : List Argument → List Ty
  types_in ins = map (λ (a : Argument). type_of ds a.type) ins

  bounds_alike : (ins : List Argument) (us vs : List BoundVar) (b : List Ty) → BoundsAlike us vs b
      → BoundsAlike (reverse (map (bound_argument (TE ds)) ins) ++ us) (reverse (map (bound_argument (TA ds)) ins) ++ vs) (reverse (types_in ins) ++ b)
  bounds_alike [] us vs b g = g
  bounds_alike (a ∷ ins) us vs b g =
      let f : BoundsAlike (bound_argument (TE ds) a ∷ us) (bound_argument (TA ds) a ∷ vs) (type_of ds a.type ∷ b) = ((λ n. refl), types_fit ds [] [] a.type, g) in
      let e = bounds_alike ins (bound_argument (TE ds) a ∷ us) (bound_argument (TA ds) a ∷ vs) (type_of ds a.type ∷ b) f in
      subst (λ w. BoundsAlike w (reverse (map (bound_argument (TA ds)) (a ∷ ins)) ++ vs) (reverse (types_in (a ∷ ins)) ++ b)) (sym (back_onto (bound_argument (TE ds) a) (map (bound_argument (TE ds)) ins) us))
      (subst (λ w. BoundsAlike (reverse (map (bound_argument (TE ds)) ins) ++ (bound_argument (TE ds) a ∷ us)) w (reverse (types_in (a ∷ ins)) ++ b)) (sym (back_onto (bound_argument (TA ds) a) (map (bound_argument (TA ds)) ins) vs))
      (subst (BoundsAlike (reverse (map (bound_argument (TE ds)) ins) ++ (bound_argument (TE ds) a ∷ us)) (reverse (map (bound_argument (TA ds)) ins) ++ (bound_argument (TA ds) a ∷ vs))) (sym (back_onto (type_of ds a.type) (types_in ins) b)) e))

  parameters_alike : (ins : List Argument) → BoundsAlike (reverse (map (bound_argument (TE ds)) ins)) (reverse (map (bound_argument (TA ds)) ins)) (reverse (types_in ins))
  parameters_alike ins = subst (λ w. BoundsAlike w (reverse (map (bound_argument (TA ds)) ins)) (reverse (types_in ins))) (append-nil _)
      (subst (λ w. BoundsAlike (reverse (map (bound_argument (TE ds)) ins) ++ []) w (reverse (types_in ins))) (append-nil _)
      (subst (BoundsAlike (reverse (map (bound_argument (TE ds)) ins) ++ []) (reverse (map (bound_argument (TA ds)) ins) ++ [])) (append-nil (reverse (types_in ins))) (bounds_alike ins [] [] [] tt)))

  kinds_are : (ins : List Argument) → EachKnown (argument_sorts (TE ds) ins) → EachKnown (argument_sorts (TA ds) ins) → map sort_or_int (argument_sorts (TE ds) ins) ≡ kinds_of (types_in ins)
  kinds_are [] h k = refl
  kinds_are (a ∷ ins) h k =
      let f = types_fit ds [] [] a.type (h.0).0 (k.0).0 (h.0).1 (k.0).1 in
      λ i. (ap sort_or_int (h.0).1 ∙ sym f.0) i ∷ kinds_are ins h.1 k.1 i

  body_typed : (ins : List Argument) (r : Written) (x : Expr) → EachKnown (argument_sorts (TE ds) ins) → EachKnown (argument_sorts (TA ds) ins) → Known (sort_of_type (TE ds) [] r) → Known (sort_of_type (TA ds) [] r)
      → function_body_faults (TE ds) (CE ds) ins r x ≡ [] → function_body_faults (TA ds) (CA ds) ins r x ≡ []
      → HasType T.consts T.functions (reverse (types_in ins)) (term_of (function_scope (TE ds) (CE ds) ins) x) (type_of ds r)
  body_typed ins r x h k l m e o =
      let f = types_fit ds [] [] r l.0 m.0 l.1 m.1 in
      side_typed ds none nope T.consts in_function (constants_at ds in_function refl) [] [] (reverse (map (bound_argument (TE ds)) ins)) (reverse (map (bound_argument (TA ds)) ins)) (reverse (types_in ins))
      tt tt tt (parameters_known (TE ds) ins h) (parameters_known (TA ds) ins k) (parameters_alike ins) true x (sort_of_type (TE ds) [] r) (sort_of_type (TA ds) [] r) (type_of ds r)
      (l.1 ∙ ap Some (sym f.0)) (m.1 ∙ ap Some (sym f.1)) (first_empty _ _ e) (first_empty _ _ o)
      (second_empty (expr_faults (function_scope (TE ds) (CE ds) ins) true x) _ e) (second_empty (expr_faults (function_scope (TA ds) (CA ds) ins) true x) _ o)

  -- the definition of a function
  abbrev Def_of : Text → Heading → Def
  Def_of n h = def_of (E ds) (TE ds) (CE ds) n h

  pub record IsDefined (d : Def) (j : Head) : Type 0 where
    pub params : d.params ≡ kinds_of j.0
    pub sort : d.sort ≡ kind_of j.1
    pub body : HasType T.consts T.functions (reverse j.0) d.body j.1

  function_typed : (n : Text) (h : Heading) → entity_of (TE ds) n ≡ Some (a_function h) → IsDefined (Def_of n h) (head_of (table_of ds) (Some h))
  function_typed n h q =
      let p = function_too ds n h q in
      let g : FunctionFine (TE ds) (CE ds) n h.ins h.result h.value = entity_fine (TE ds) (CE ds) (fine (E ds) none) n (a_function h) q in
      let j : FunctionFine (TA ds) (CA ds) n h.ins h.result h.value = entity_fine (TA ds) (CA ds) (fine (A ds) nope) n (a_function h) p in
      let k = arguments_fine (TE ds) (CE ds) (fine (E ds) none) h.ins g.ins_fine in
      let l = arguments_fine (TA ds) (CA ds) (fine (A ds) nope) h.ins j.ins_fine in
      let r = fine_type (TE ds) (CE ds) (fine (E ds) none) [] h.result g.result_fine in
      let s = fine_type (TA ds) (CA ds) (fine (A ds) nope) [] h.result j.result_fine in
      let f = types_fit ds [] [] h.result r.0 s.0 r.1 s.1 in
      let same : g.body ≡ j.body = same_some _ _ (sym g.is_body ∙ j.is_body) in
      record {
        params = kinds_are h.ins k l;
        sort = ap sort_or_int r.1 ∙ sym f.0;
        body = subst (λ w. HasType T.consts T.functions (reverse (types_in h.ins)) (value_term (TE ds) (CE ds) h.ins w) (type_of ds h.result)) (sym g.is_body)
            (body_typed h.ins h.result g.body k l r s g.body_fine (subst (λ w. function_body_faults (TA ds) (CA ds) h.ins h.result w ≡ []) (sym same) j.body_fine));
      }

  abbrev head_at : Text → Head
  head_at n = head_of (table_of ds) (function_in (entity_of (TE ds) n))

  each_defined : (ns : List Text) → AllFunctions (TE ds) ns → (f : ℕ) (j : Head) → slice_get (map head_at ns) f ≡ Some j → (d : Def) × (slice_get (defs_for (E ds) (TE ds) (CE ds) ns) f ≡ Some d) × IsDefined d j
  each_defined [] all f j e = absurd (cc)
  each_defined (n ∷ ns) all zero j e =
      let h = some_heading (entity_of (TE ds) n) (all n (inl refl)) in
      let same : head_of (table_of ds) (Some h.0) ≡ j = same_some _ _ (sym (ap (λ w. Some (head_of (table_of ds) (function_in w))) h.1) ∙ e) in
      (Def_of n h.0, ap (λ w. slice_get w 0) (defs_step (E ds) (TE ds) (CE ds) n ns h.0 h.1), subst (IsDefined (Def_of n h.0)) same (function_typed n h.0 h.1))
  each_defined (n ∷ ns) all (suc f) j e =
      let h = some_heading (entity_of (TE ds) n) (all n (inl refl)) in
      let r = each_defined ns (λ m i. all m (inr i)) f j e in
      (r.0, ap (λ w. slice_get w (suc f)) (defs_step (E ds) (TE ds) (CE ds) n ns h.0 h.1) ∙ r.1, r.2)

  each_has : (ns : List Text) → AllFunctions (TE ds) ns → length (map head_at ns) ≡ length (defs_for (E ds) (TE ds) (CE ds) ns)
  each_has [] all = refl
  each_has (n ∷ ns) all =
      let h = some_heading (entity_of (TE ds) n) (all n (inl refl)) in
      ap suc (each_has ns (λ m i. all m (inr i))) ∙ sym (ap length (defs_step (E ds) (TE ds) (CE ds) n ns h.0 h.1))

  all_functions : AllFunctions (TE ds) (in_number_order (TE ds))
  all_functions = order_only (TE ds) (synonyms_fine (TE ds) (CE ds) (fine (E ds) none)) (acyclic (E ds) none)

  pub as_many : length T.functions ≡ length (defs_of (module_of (E ds)))
  as_many = each_has (in_number_order (TE ds)) all_functions

  pub functions_typed : IsTypedModule (module_of (E ds)) → AreTypedDefs T.consts T.functions (defs_of (module_of (E ds)))
  functions_typed m f j e =
      let r = each_defined (in_number_order (TE ds)) all_functions f j e in
      let defs = defs_of (module_of (E ds)) in
      let there = mentions_there (const_sorts (module_of (E ds))) (take f defs) (r.0).body (reverse (r.0).params) (body_is_sorted (const_sorts (module_of (E ds))) defs f r.0 m.functions r.1) in (
        r.0,
        r.1,
        record {
          params = (r.2).params;
          sort = (r.2).sort;
          body = narrowed T.consts T.functions (take f T.functions) (HasVariable (const_sorts (module_of (E ds))) (take f defs)) (HasDefinition (const_sorts (module_of (E ds))) (take f defs))
              (λ g h. whole_take T.functions f g (there_in_front defs f g h).0) (r.0).body (reverse j.0) j.1 there (r.2).body;
        },
      )
