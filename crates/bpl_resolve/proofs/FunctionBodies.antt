-- In the module of a program without faults each function's body has its sort over constants, its parameters and the functions numbered before it.
use Rattle.std.proofs.Common.{◌≡◌, refl, ap, sym, ◌∙◌, inl, inr, subst, ℕ, ◌+◌, Bool, true, false, List, [], ◌∷◌, ◌++◌, append_assoc, append-nil, map, reverse, Option, Some, None}
use Rattle.std.specs.Prelude.{⊤, bytes_eq, slice_get}
use Rattle.std.proofs.lemmas.List.{map-append}
use Rattle.logic_core.proofs.Booleans.{all_true as both_true}
use Rattle.logic_core.specs.Tree.{Kind}
use Rattle.logic_core.specs.Def.{Def}
use Rattle.logic_core.specs.Renamed.{EachHas}
use Rattle.logic_core.specs.Sorts.{is, sort_of, bodies_sorted}
use Rattle.bpl_ast.specs.Tree.{Expr, first_place}
use Rattle.bpl_ast.specs.Statement.{Argument, Decl}
use Rattle.bpl_model.specs.Module.{Function}
use Rattle.bpl_model.specs.Numbering.{defs_of, const_sorts}
use Rattle.bpl_scopes.specs.declared.part.Part.TheVariants.{Function as in_function}
use Rattle.bpl_scopes.specs.Scopes.{Text, Heading, Entity, a_constant, a_global, a_function, a_synonym, a_procedure, Table, Counts, BoundVar, Scope, Meaning, bound_to, stands_for, declared_as, nothing, texts_of, entity_of, meaning}
use Rattle.bpl_scopes.specs.Sorts.{sort_of_type, argument_sorts, applied_heading, sort_in}
use Rattle.bpl_scopes.specs.Functions.{is_function, function_in, applied_by, applied_in, argument_names, next_names, in_number_order, position_of, function_number}
use Rattle.bpl_faults.specs.ExprFaults.{expr_faults}
use Rattle.bpl_declaration_faults.specs.Variables.{bound_argument, function_scope}
use Rattle.bpl_declaration_faults.specs.DeclFaults.{fault_of, function_body_faults}
use Rattle.bpl_terms.specs.Terms.{sort_or_int, meaning_term, term_of}
use Rattle.bpl_resolve.specs.Elaborate.{value_term, function_def}
use Rattle.bpl_resolve.proofs.Below.{Below, back_onto, is_itself}
use Rattle.bpl_resolve.proofs.TermSorts.{BoundsFit, sorted}
use Rattle.bpl_resolve.proofs.HasSort.{Known, first_empty, second_empty, has_same}
use Rattle.bpl_resolve.proofs.Faultless.{KnownBounds, EachKnown, has_known}
use Rattle.bpl_resolve.proofs.Ways.{Member, text_itself}
use Rattle.bpl_resolve.proofs.TypesKnown.{passes}
use Rattle.bpl_resolve.proofs.EntriesFine.{FunctionFine, entity_fine, synonyms_fine}
use Rattle.bpl_resolve.proofs.ScopesKnown.{name_has, any_bounds, scope_known, arguments_fine, fine_type}
use Rattle.bpl_resolve.proofs.FunctionOrder.{IsFunction, AllFunctions, OrderedAfter, stays, in_order, order_only}
use Rattle.bpl_resolve.proofs.ScopesFit.{some_heading, or_int, def_of, defs_for, defs_step, def_at, scope_fits}
use Rattle.bpl_resolve.proofs.ModuleSorts.{T, C, M, fine, acyclic, constants_at}
use Rattle.bpl_resolve.proofs.HiddenNames.{Each, arguments_hide}
use Rattle.bpl_resolve.proofs.Reached.{reached}
use Rattle.bpl_resolve.proofs.SameOver.{SameAt, same_over}

-- parameters as bound variables
bounds_fit : (t : Table) (ins : List Argument) (vs : List BoundVar) (ks : List Kind) → BoundsFit vs ks → BoundsFit (reverse (map (bound_argument t) ins) ++ vs) (reverse (map sort_or_int (argument_sorts t ins)) ++ ks)
bounds_fit t [] vs ks f = f
bounds_fit t (a ∷ ins) vs ks f =
    let k = sort_or_int (sort_of_type t [] a.type) in
    let e = bounds_fit t ins (bound_argument t a ∷ vs) (k ∷ ks) (or_int (sort_of_type t [] a.type), f) in
    subst (λ w. BoundsFit w (reverse (map sort_or_int (argument_sorts t (a ∷ ins))) ++ ks)) (sym (back_onto (bound_argument t a) (map (bound_argument t) ins) vs))
    (subst (BoundsFit (reverse (map (bound_argument t) ins) ++ (bound_argument t a ∷ vs))) (sym (back_onto k (map sort_or_int (argument_sorts t ins)) ks)) e)

parameters_fit : (t : Table) (ins : List Argument) → BoundsFit (reverse (map (bound_argument t) ins)) (reverse (map sort_or_int (argument_sorts t ins)))
parameters_fit t ins = subst (λ w. BoundsFit w (reverse (map sort_or_int (argument_sorts t ins)))) (append-nil (reverse (map (bound_argument t) ins)))
    (subst (BoundsFit (reverse (map (bound_argument t) ins) ++ [])) (append-nil (reverse (map sort_or_int (argument_sorts t ins)))) (bounds_fit t ins [] [] tt))

bounds_known : (t : Table) (ins : List Argument) (vs : List BoundVar) → EachKnown (argument_sorts t ins) → KnownBounds vs → KnownBounds (reverse (map (bound_argument t) ins) ++ vs)
bounds_known t [] vs g h = h
bounds_known t (a ∷ ins) vs g h = subst KnownBounds (sym (back_onto (bound_argument t a) (map (bound_argument t) ins) vs)) (bounds_known t ins (bound_argument t a ∷ vs) g.1 (g.0, h))

parameters_known : (t : Table) (ins : List Argument) → EachKnown (argument_sorts t ins) → KnownBounds (reverse (map (bound_argument t) ins))
parameters_known t ins g = subst KnownBounds (append-nil (reverse (map (bound_argument t) ins))) (bounds_known t ins [] g tt)

-- a name among the first stands at its place there
position_first : (ms ns : List Text) (n : Text) → Member n ms → position_of (ms ++ ns) n ≡ position_of ms n
position_first [] ns n i = absurd i
position_first (m ∷ ms) ns n i = by (bytes_eq m n) refl i (position_first ms ns n)
  where
    by : (r : Bool) → bytes_eq m n ≡ r → Member n (m ∷ ms) → (Member n ms → position_of (ms ++ ns) n ≡ position_of ms n)
        → ◌≡◌ {A = ℕ} (elim r [ true ↦ 0 | false ↦ position_of (ms ++ ns) n + 1 ]) (elim r [ true ↦ 0 | false ↦ position_of ms n + 1 ])
    by true q j later = refl
    by false q (inl u) later = let bad : true ≡ false = sym (subst (λ w. bytes_eq w n ≡ true) u (text_itself n)) ∙ q in cc
    by false q (inr j) later = ap (λ w. w + 1) (later j)

sort_then : (o q r : Option Kind) → Known r → o ≡ r → Below o q → is (sort_or_int r) q ≡ true
sort_then o q r (k, e) h (inl z) = let bad : None ≡ Some k = sym z ∙ (h ∙ e) in cc
sort_then o q r (k, e) h (inr z) = (λ i. is (sort_or_int (e i)) ((sym z ∙ (h ∙ e)) i)) ∙ is_itself k

module _ (ds : List Decl) (none : fault_of ds ≡ None) where
  abbrev TT : Table
  TT = T ds none

  abbrev CC : Counts
  CC = C ds none

  abbrev Consts : List Kind
  Consts = const_sorts (M ds none)

  abbrev Defs : List Text → List Def
  Defs ns = defs_for ds TT CC ns

  abbrev Whole : List Def
  Whole = Defs (in_number_order TT)

  only : AllFunctions TT (in_number_order TT)
  only = order_only TT (synonyms_fine TT CC (fine ds none)) (acyclic ds none)

  -- what a name stands for where it is applied
  abbrev IsIt : Text → Meaning → Type 0
  IsIt n m = (h : Heading) → applied_heading m ≡ Some h → IsFunction TT n

  entity_is : (n : Text) (e : Entity) → entity_of TT n ≡ Some e → IsIt n (declared_as e)
  entity_is n (a_function f) q h e = ap is_function q
  entity_is n (a_constant k s) q h e = cc
  entity_is n (a_global k s) q h e = cc
  entity_is n (a_synonym s) q h e = cc
  entity_is n (a_procedure k d) q h e = cc

  applied_function : (bs : List BoundVar) (n : Text) → IsIt n (meaning (record { table = TT; counts = CC; part = in_function; vars = []; bounds = bs }) n)
  applied_function bs n = name_has (IsIt n) (λ h e. cc) (λ o. ⊤) (λ j o i h e. cc) (record { table = TT; counts = CC; part = in_function; vars = []; bounds = bs }) n (entity_is n) tt (any_bounds bs)

  -- the functions before one of the order
  module _ (before rest : List Text) (all : AllFunctions TT before) (whole : before ++ rest ≡ in_number_order TT) where
    abbrev SameVar : ℕ → Type 0
    SameVar = SameAt Consts Consts

    abbrev Same : ℕ → Type 0
    Same = SameAt (Defs before) Whole

    abbrev IsBefore : Text → Type 0
    IsBefore m = IsFunction TT m → Member m before

    same_number : (m : Text) → IsFunction TT m → Member m before → Same (function_number TT m)
    unfolding function_number
    same_number m f i =
        let h = some_heading (entity_of TT m) f in
        let p = sym (ap (λ w. position_of w m) whole) ∙ position_first before rest m i in
        let a = def_at ds TT CC before m h.0 all i h.1 in
        let in_whole = subst (Member m) whole (stays m before rest i) in
        let b = def_at ds TT CC (in_number_order TT) m h.0 only in_whole h.1 in
        ap (slice_get (Defs before)) p ∙ (a ∙ sym b)

    any_name : (m : Meaning) → EachHas SameVar Same (meaning_term false CC m)
    any_name (bound_to i k) = tt
    any_name (stands_for v) = refl
    any_name (declared_as (a_constant k s)) = refl
    any_name (declared_as (a_global k s)) = refl
    any_name (declared_as (a_function h)) = tt
    any_name (declared_as (a_synonym s)) = tt
    any_name (declared_as (a_procedure k d)) = tt
    any_name nothing = tt

    abbrev Scoped : List Argument → Scope
    Scoped ins = function_scope TT CC ins

    body_same : (ins : List Argument) (x : Expr) (b : List Kind) → expr_faults (Scoped ins) true x ≡ [] → Each IsBefore (applied_in (texts_of (argument_names ins)) x)
        → sort_of Consts (Defs before) b (term_of (Scoped ins) x) ≡ sort_of Consts Whole b (term_of (Scoped ins) x)
    body_same ins x b e a = same_over Consts Consts Whole (Defs before) b (term_of (Scoped ins) x)
        (reached SameVar Same IsBefore (Scoped ins) (record { names = λ bs n. any_name _; functions = λ bs n k q u. same_number n (applied_function bs n k q) (u (applied_function bs n k q)) })
        refl (texts_of (argument_names ins)) (arguments_hide TT ins) true x e a)

    body_sort : (n : Text) (h : Heading) → entity_of TT n ≡ Some (a_function h) → ((m : Text) → Member m (next_names TT (entity_of TT n)) → Member m before)
        → is (def_of ds TT CC n h).sort (sort_of Consts (Defs before) (reverse (def_of ds TT CC n h).params) (def_of ds TT CC n h).body) ≡ true
    body_sort n h q later = with_value h.value refl
      where
        g : FunctionFine TT CC n h.ins h.result h.value
        g = entity_fine TT CC (fine ds none) n (a_function h) q

        known : EachKnown (argument_sorts TT h.ins)
        known = arguments_fine TT CC (fine ds none) h.ins g.ins_fine

        applied : (x : Expr) → h.value ≡ Some x → Each IsBefore (applied_in (texts_of (argument_names h.ins)) x)
        applied x u m i f = later m (subst (λ w. Member m (next_names TT w)) (sym q)
            (passes (λ k. is_function (entity_of TT k)) m (applied_by (Some h)) (subst (λ w. Member m (elim w [ None ↦ [] | Some y ↦ applied_in (texts_of (argument_names h.ins)) y ])) (sym u) i) f))

        sort : (x : Expr) → function_body_faults TT CC h.ins h.result x ≡ [] → Each IsBefore (applied_in (texts_of (argument_names h.ins)) x)
            → is (sort_or_int (sort_of_type TT [] h.result)) (sort_of Consts (Defs before) (reverse (map sort_or_int (argument_sorts TT h.ins))) (term_of (Scoped h.ins) x)) ≡ true
        sort x e a =
            let b = reverse (map sort_or_int (argument_sorts TT h.ins)) in
            let e1 = first_empty _ _ e in
            let k = has_known (Scoped h.ins) (scope_known TT CC (fine ds none) CC in_function [] _ tt) (parameters_known TT h.ins known) true x e1 in
            let r = fine_type TT CC (fine ds none) [] h.result g.result_fine in
            let s = has_same (sort_of_type TT [] h.result) (sort_in (Scoped h.ins) x) (first_place x) r k (second_empty (expr_faults (Scoped h.ins) true x) _ e) in
            let w = sorted Consts Whole (Scoped h.ins) (scope_fits ds TT CC Consts Whole in_function (constants_at ds none in_function refl) [] _ tt) b (parameters_fit TT h.ins) false x in
            sort_then (sort_in (Scoped h.ins) x) _ (sort_of_type TT [] h.result) r (sym s) (subst (Below (sort_in (Scoped h.ins) x)) (sym (body_same h.ins x b e1 a)) w)

        with_value : (o : Option Expr) → h.value ≡ o → is (sort_or_int (sort_of_type TT [] h.result)) (sort_of Consts (Defs before) (reverse (map sort_or_int (argument_sorts TT h.ins))) (value_term TT CC h.ins h.value)) ≡ true
        with_value o u = subst (λ y. is (sort_or_int (sort_of_type TT [] h.result)) (sort_of Consts (Defs before) (reverse (map sort_or_int (argument_sorts TT h.ins))) (value_term TT CC h.ins y)) ≡ true) (sym g.is_body)
            (sort g.body g.body_fine (applied g.body g.is_body))

  -- one more function
  defs_joined : (ms ns : List Text) → Defs (ms ++ ns) ≡ Defs ms ++ Defs ns
  defs_joined [] ns = refl
  defs_joined (m ∷ ms) ns = map-append (λ (f : Function). f.def) (function_def_of m) _ ∙ (ap (λ w. map (λ (f : Function). f.def) (function_def_of m) ++ w) (defs_joined ms ns)
      ∙ (sym (append_assoc (map (λ (f : Function). f.def) (function_def_of m)) (Defs ms) (Defs ns)) ∙ ap (λ w. w ++ Defs ns) (sym (map-append (λ (f : Function). f.def) (function_def_of m) _))))
    where
      function_def_of : Text → List Function
      function_def_of n = function_def TT CC n (function_in (entity_of TT n))

  from : (before ns : List Text) → AllFunctions TT before → AllFunctions TT ns → before ++ ns ≡ in_number_order TT → OrderedAfter TT before ns → bodies_sorted Consts (Defs before) (Defs ns) ≡ true
  from before [] a b w o = refl
  from before (n ∷ ns) a b w o =
      let h = some_heading (entity_of TT n) (b n (inl refl)) in
      let d = def_of ds TT CC n h.0 in
      let one : Defs (n ∷ []) ≡ d ∷ [] = defs_step ds TT CC n [] h.0 h.1 in
      let longer : Defs (before ++ n ∷ []) ≡ Defs before ++ d ∷ [] = defs_joined before (n ∷ []) ∙ ap (λ z. Defs before ++ z) one in
      let later = from (before ++ n ∷ []) ns (added a (b n (inl refl))) (λ m i. b m (inr i)) (append_assoc before (n ∷ []) ns ∙ w) o.1 in
      subst (λ z. bodies_sorted Consts (Defs before) z ≡ true) (sym (defs_step ds TT CC n ns h.0 h.1))
      (both_true _ _ (body_sort before (n ∷ ns) a w n h.0 h.1 o.0) (subst (λ z. bodies_sorted Consts z (Defs ns) ≡ true) longer later))
    where
      added : AllFunctions TT before → IsFunction TT n → AllFunctions TT (before ++ n ∷ [])
      added f g m i = by before f i
        where
          by : (ms : List Text) → AllFunctions TT ms → Member m (ms ++ n ∷ []) → IsFunction TT m
          by [] f (inl e) = subst (IsFunction TT) (sym e) g
          by [] f (inr j) = absurd j
          by (k ∷ ms) f (inl e) = f m (inl e)
          by (k ∷ ms) f (inr j) = by ms (λ l z. f l (inr z)) j

  pub functions_typed : bodies_sorted Consts [] (defs_of (M ds none)) ≡ true
  functions_typed = from [] (in_number_order TT) (λ m i. absurd i) only refl (in_order TT (synonyms_fine TT CC (fine ds none)) (acyclic ds none))
