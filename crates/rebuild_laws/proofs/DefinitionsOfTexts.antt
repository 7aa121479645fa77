-- Of two procedures with one dependency text, a function that is met has definitions that go alike, and calls functions numbered before it alone in both modules.
use Rattle.std.specs.Prelude.{◌≡◌, ⊤, ℕ, ◌+◌, ◌<◌, true, false, IsTrue, List, [], ◌∷◌, ◌++◌, map, reverse, slice_get, Some, None, option_map}
use Rattle.std.specs.List.{AllByRecursion}
use Rattle.std.proofs.Common.{refl, ap, sym, ◌∙◌, subst, arith}
use Rattle.logic_core.specs.Tree.{Tree}
use Rattle.logic_core.specs.Renamed.{both_renamed, def_renamed, EachHas}
use Rattle.logic_core.specs.Variables.{calls}
use Rattle.logic_core.proofs.Mentioned.{as_it_stands}
use Rattle.obligation_text.proofs.Lists.{variables_have, calls_have}
use Rattle.bpl_ast.specs.Tree.{Expr}
use Rattle.bpl_ast.specs.Statement.{Decl}
use Rattle.bpl_model.specs.Module.{Proc, Module}
use Rattle.bpl_model.specs.Numbering.{defs_of}
use Rattle.bpl_model.specs.Reach.{own_positions}
use Rattle.bpl_scopes.specs.declared.part.Part.TheVariants.{Function as in_function}
use Rattle.bpl_scopes.specs.Scopes.{Text, Heading, a_constant, a_global, a_function, a_synonym, a_procedure, Table, table_of, Counts, no_counts, counts_after, texts_of, entity_of, Scope, Meaning, bound_to, stands_for, declared_as, nothing}
use Rattle.bpl_scopes.specs.Functions.{is_function, applied_by, applied_in, argument_names, next_names, function_number}
use Rattle.bpl_texts.specs.Uses.{type_uses, expr_uses, guard_uses, arguments_uses}
use Rattle.bpl_terms.specs.Terms.{sort_or_int, meaning_term, term_of}
use Rattle.bpl_declaration_faults.specs.Variables.{bound_argument, function_scope}
use Rattle.bpl_declaration_faults.specs.DeclFaults.{fault_of}
use Rattle.canonical_text.specs.Same.{bare}
use Rattle.canonical_text.specs.SameStatement.{bare_decl}
use Rattle.canonical_text.specs.Heads.{bare_head, HaveBody}
use Rattle.bpl_resolve.specs.Elaborate.{value_term, module_of}
use Rattle.bpl_resolve.proofs.HasSort.{first_empty}
use Rattle.bpl_resolve.proofs.HiddenNames.{arguments_hide}
use Rattle.bpl_resolve.proofs.Ways.{Member}
use Rattle.bpl_resolve.proofs.TypesKnown.{passes}
use Rattle.bpl_resolve.proofs.EntriesFine.{FunctionFine, entity_fine}
use Rattle.bpl_resolve.proofs.ScopesFit.{some_heading, def_of}
use Rattle.bpl_resolve.proofs.ModuleSorts.{fine}
use Rattle.bpl_resolve.proofs.Reached.{reached}
use Rattle.bpl_resolve.proofs.TypeSorts.{member_right}
use Rattle.rebuild_laws.specs.DependencyTexts.{bodies_at, other_positions}
use Rattle.rebuild_laws.specs.Numbers.{Low}
use Rattle.rebuild_laws.specs.Procedures.{AlikeDef}
use Rattle.rebuild_laws.proofs.ScopesAlike.{AlikeTerm, AlikeName, no_vars}
use Rattle.rebuild_laws.proofs.SameExpressionsAlike.{expressions_alike}
use Rattle.rebuild_laws.specs.Twins.{Twins}
use Rattle.rebuild_laws.proofs.NamesInUse.{Used, used}
use Rattle.rebuild_laws.proofs.UsedNames.{entity_entry}
use Rattle.rebuild_laws.proofs.EntityUses.{entity_uses, used_in_entity}
use Rattle.rebuild_laws.proofs.AppliedNames.{heading_applies, heading_used}
use Rattle.rebuild_laws.proofs.SameLogical.{both_functions}
use Rattle.rebuild_laws.proofs.SameNames.{of_name, vars_met, functions_met, new_low, new_function, function_there}
use Rattle.rebuild_laws.proofs.FunctionsAlike.{BothFunctions, both_met}
use Rattle.rebuild_laws.proofs.FunctionNumbers.{applied_before, def_there, applied_is_function}
use Rattle.rebuild_laws.proofs.ArgumentNames.{same_bounds, hidden_by_arguments}
use Rattle.rebuild_laws.proofs.NamesOfTexts.{twins, twins_back, Functions, low_names}
use Rattle.rebuild_laws.proofs.AxiomsOfTexts.{each_used}

-- what the definitions that a term calls have by two facts
each_joined : (P Q R : ℕ → Type 0) → ((f : ℕ) → P f → Q f → R f) → (xs : List ℕ) → AllByRecursion P xs → AllByRecursion Q xs → AllByRecursion R xs
each_joined P Q R j [] h k = tt
each_joined P Q R j (x ∷ xs) h k = (j x h.0 k.0, each_joined P Q R j xs h.1 k.1)

calls_joined : (V W P Q R : ℕ → Type 0) → ((f : ℕ) → P f → Q f → R f) → (x : Tree) → EachHas V P x → EachHas W Q x → EachHas V R x
calls_joined V W P Q R j x h k = as_it_stands V R x (variables_have V P x h, each_joined P Q R j (calls x) (calls_have V P x h) (calls_have W Q x k))

-- a name stands for no call of a function
any_name : (B : ℕ → Type 0) (c : Counts) (m : Meaning) → EachHas (λ v. ⊤) B (meaning_term false c m)
any_name B c (bound_to i k) = tt
any_name B c (stands_for v) = tt
any_name B c (declared_as (a_constant k s)) = tt
any_name B c (declared_as (a_global k s)) = tt
any_name B c (declared_as (a_function h)) = tt
any_name B c (declared_as (a_synonym s)) = tt
any_name B c (declared_as (a_procedure k d)) = tt
any_name B c nothing = tt

same_body : (x y : Expr) → Some x ≡ Some y → x ≡ y
same_body x y e = cc

module _ (ds : List Decl) (p : Proc) (es : List Decl) (q : Proc) (none : fault_of ds ≡ None) (none_there : fault_of es ≡ None)
    (body : HaveBody (bodies_at ds (own_positions (module_of ds) p))) (body_there : HaveBody (bodies_at es (own_positions (module_of es) q)))
    (own : map bare_decl (bodies_at ds (own_positions (module_of ds) p)) ≡ map bare_decl (bodies_at es (own_positions (module_of es) q)))
    (others : map bare_head (bodies_at ds (other_positions (module_of ds) p)) ≡ map bare_head (bodies_at es (other_positions (module_of es) q))) where
  abbrev M : Module
  M = module_of ds

  abbrev N : Module
  N = module_of es

  abbrev T : Table
  T = table_of ds

  abbrev U : Table
  U = table_of es

  abbrev C : Counts
  C = counts_after no_counts ds

  abbrev E : Counts
  E = counts_after no_counts es

  abbrev F : ℕ → Type 0
  F = Functions ds p es q none none_there body body_there own others

  abbrev L : ℕ → Type 0
  L = Low M N (vars_met ds p) (vars_met es q) (new_low ds es) (new_low es ds)

  abbrev lows : (n : Text) → Used ds p n → AlikeName (new_function ds es) (new_low ds es) F L (Used ds p) T U C E n
  lows = low_names ds p es q none none_there body body_there own others

  abbrev tw : Twins ds p es q
  tw = twins ds p es q none none_there body body_there own others

  abbrev back : Twins es q ds p
  back = twins_back ds p es q none none_there body body_there own others

  abbrev Both : ℕ → Type 0
  Both f = BothFunctions ds p es q tw back none none_there f

  pub functions_back : (f : ℕ) → IsTrue (functions_met ds p f) → new_function es ds (new_function ds es f) ≡ f
  functions_back f h = (both_met ds p es q tw back none none_there f h).old

  -- the two bodies of a function that is met
  module _ (f : ℕ) (b : Both f) where
    fine_here : FunctionFine T C b.name b.heading.ins b.heading.result b.heading.value
    fine_here = entity_fine T C (fine ds none) b.name (a_function b.heading) b.here

    fine_there : FunctionFine U E b.name b.new_heading.ins b.new_heading.result b.new_heading.value
    fine_there = entity_fine U E (fine es none_there) b.name (a_function b.new_heading) b.is_there

    abbrev here : Scope
    here = function_scope T C b.heading.ins

    abbrev there : Scope
    there = function_scope U E b.new_heading.ins

    abbrev parameters : List Text
    parameters = texts_of (argument_names b.heading.ins)

    -- what the body uses is used
    used_here : (n : Text) → Member n (guard_uses parameters b.heading.value) → Used ds p n
    used_here n i =
        let r = entity_entry T b.name (a_function b.heading) b.here in
        used_in_entity ds p b.name n r.0 b.met r.1 (subst (λ w. Member n (entity_uses w)) (sym r.2)
        (member_right n (arguments_uses b.heading.ins) (type_uses [] b.heading.result ++ guard_uses parameters b.heading.value) (member_right n (type_uses [] b.heading.result) (guard_uses parameters b.heading.value) i)))

    bodies_same : bare fine_here.body ≡ bare fine_there.body
    bodies_same = same_body (bare fine_here.body) (bare fine_there.body)
        (sym (ap (option_map bare) fine_here.is_body) ∙ (ap (λ (w : Heading). w.value) b.same ∙ ap (option_map bare) fine_there.is_body))

    bodies_alike : AlikeTerm (new_function ds es) (new_low ds es) F L (Used ds p) T U C E (term_of here fine_here.body) (term_of there fine_there.body)
    bodies_alike =
        expressions_alike (new_function ds es) (new_low ds es) F L (Used ds p) T U C E lows in_function [] [] no_vars (reverse (map (bound_argument T) b.heading.ins)) (reverse (map (bound_argument U) b.new_heading.ins))
        (same_bounds T U b.heading.ins b.new_heading.ins (ap (λ (w : Heading). w.ins) b.same)) parameters (hidden_by_arguments T b.heading.ins) true fine_here.body fine_there.body (first_empty _ _ fine_here.body_fine)
        (each_used (Used ds p) (expr_uses parameters fine_here.body) (λ n i. used_here n (subst (λ w. Member n (guard_uses parameters w)) (sym fine_here.is_body) i))) bodies_same

    -- the numbers before the function's own, in both modules
    abbrev Before : ℕ → Type 0
    Before g = (g < f) × (new_function ds es g < new_function ds es f)

    abbrev IsApplied : Text → Type 0
    IsApplied n = Member n (applied_by (Some b.heading))

    number_before : (n : Text) → is_function (entity_of T n) ≡ true → IsApplied n → Before (function_number T n)
    number_before n x i =
        let h = some_heading (entity_of T n) x in
        let u = used (used_here n (heading_used b.heading n i)) in
        let a = applied_before ds none b.name n (ap is_function b.here) (subst (λ w. Member n (next_names T w)) (sym b.here) (passes (λ m. is_function (entity_of T m)) n (applied_by (Some b.heading)) i x)) in
        let applied : applied_by (Some b.heading) ≡ applied_by (Some b.new_heading) = sym (heading_applies b.heading) ∙ (ap (λ w. applied_by (Some w)) b.same ∙ heading_applies b.new_heading) in
        let y : is_function (entity_of U n) ≡ true = sym (both_functions ds p es q tw back none none_there n u) ∙ x in
        let c = applied_before es none_there b.name n (ap is_function b.is_there) (subst (λ w. Member n (next_names U w)) (sym b.is_there) (passes (λ m. is_function (entity_of U m)) n (applied_by (Some b.new_heading)) (subst (Member n) applied i) y)) in
        let e = b.number in
        let d = b.new in
        let g : new_function ds es (function_number T n) ≡ function_number U n = ap (of_name 0 (λ m. function_number U m)) (function_there ds none n h.0 h.1) in
        (omega (arith, a, e), omega (arith, c, d, g))

    body_before : EachHas (λ v. ⊤) Before (term_of here fine_here.body)
    body_before = reached (λ v. ⊤) Before IsApplied here
        (record { names = λ bs n. any_name Before C _; functions = λ bs n k z i. number_before n (applied_is_function ds none bs n k z) i })
        refl parameters (arguments_hide T b.heading.ins) true fine_here.body (first_empty _ _ fine_here.body_fine)
        (λ m i. subst (λ w. Member m (elim w [ None ↦ [] | Some y ↦ applied_in parameters y ])) (sym fine_here.is_body) i)

    abbrev Lower : ℕ → Type 0
    Lower g = F g × (g < f) × (new_function ds es g < new_function ds es f)

    body_lower : EachHas L Lower (term_of here fine_here.body)
    body_lower = calls_joined L (λ v. ⊤) F Before Lower (λ g h k. (h, k.0, k.1)) (term_of here fine_here.body) bodies_alike.covered body_before

    new_body : value_term U E b.new_heading.ins b.new_heading.value ≡ both_renamed (new_function ds es) (new_low ds es) (value_term T C b.heading.ins b.heading.value)
    new_body =
        ap (value_term U E b.new_heading.ins) fine_there.is_body
        ∙ (bodies_alike.same ∙ ap (λ o. both_renamed (new_function ds es) (new_low ds es) (value_term T C b.heading.ins o)) (sym fine_here.is_body))

    new_definition : def_of es U E b.name b.new_heading ≡ def_renamed (new_function ds es) (new_low ds es) (def_of ds T C b.name b.heading)
    new_definition = λ i. record { params = map sort_or_int (sym b.ins i); sort = sort_or_int (sym b.result i); logical = sym b.logical i; body = new_body i }

    definition_alike : AlikeDef M N (vars_met ds p) (vars_met es q) (new_low ds es) (new_low es ds) (new_function ds es) F f
    definition_alike = record {
      definition = def_of ds T C b.name b.heading;
      old = ap (slice_get (defs_of M)) (sym b.number) ∙ def_there ds none b.name b.heading b.here;
      new = ap (slice_get (defs_of N)) b.new ∙ (def_there es none_there b.name b.new_heading b.is_there ∙ ap Some new_definition);
      lower = subst (λ o. EachHas L Lower (value_term T C b.heading.ins o)) (sym fine_here.is_body) body_lower;
    }

  pub definitions_alike : (f : ℕ) → IsTrue (functions_met ds p f)
      → AlikeDef M N (vars_met ds p) (vars_met es q) (new_low ds es) (new_low es ds) (new_function ds es) (λ g. IsTrue (functions_met ds p g)) f
  definitions_alike f h = definition_alike f (both_met ds p es q tw back none none_there f h)
