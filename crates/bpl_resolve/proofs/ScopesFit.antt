-- Names and functions have their sorts in each scope over a program's table, where the list of sorts has those of constants, globals and variables at their numbers.
use Rattle.std.proofs.Common.{◌≡◌, refl, ap, sym, ◌∙◌, inl, inr, subst, ℕ, suc, ◌+◌, arith, Bool, true, false, List, [], ◌∷◌, ◌++◌, append_assoc, map, length, length-append, Option, Some, None}
use Rattle.std.specs.Prelude.{⊤, bytes_eq, flat_map, slice_get}
use Rattle.std.specs.List.{AllByRecursion}
use Rattle.logic_core.specs.Tree.{Kind}
use Rattle.logic_core.specs.Wide.{when}
use Rattle.logic_core.specs.Def.{Def}
use Rattle.logic_core.specs.Sorts.{sort_of}
use Rattle.bpl_ast.specs.Place.{Name, Ty}
use Rattle.bpl_ast.specs.Statement.{Decl}
use Rattle.bpl_model.specs.Module.{Function}
use Rattle.bpl_scopes.specs.declared.part.Part.{Part}
use Rattle.bpl_scopes.specs.declared.part.Role.{Role}
use Rattle.bpl_scopes.specs.Scopes.{Text, Heading, Entity, a_constant, a_global, a_function, a_synonym, a_procedure, Table, Counts, entity_of, Var, BoundVar, Scope, Meaning, declared_as, var_in}
use Rattle.bpl_scopes.specs.Sorts.{sort_of_type, argument_sorts, reads_globals, sort_of_meaning, applied_heading}
use Rattle.bpl_scopes.specs.Functions.{is_function, function_in, is_logical, in_number_order, position_of, function_number}
use Rattle.bpl_terms.specs.Terms.{sort_or_int, global_at, meaning_term}
use Rattle.bpl_declaration_faults.specs.Variables.{vars_from}
use Rattle.bpl_resolve.specs.Elaborate.{value_term, function_def}
use Rattle.bpl_resolve.proofs.Below.{Below}
use Rattle.bpl_resolve.proofs.TermSorts.{Fits}
use Rattle.bpl_resolve.proofs.Ways.{Member, same_text, text_itself}
use Rattle.bpl_resolve.proofs.FunctionOrder.{AllFunctions}
use Rattle.bpl_resolve.proofs.ScopesKnown.{free_has, name_has, var_in_has, any_bounds}
use Rattle.bpl_resolve.proofs.Numbered.{kind_of, slice_at}

pub or_int : (o : Option Kind) → Below o (Some (sort_or_int o))
or_int None = inl refl
or_int (Some k) = inr refl

pub some_heading : (o : Option Entity) → is_function o ≡ true → (h : Heading) × (o ≡ Some (a_function h))
some_heading None e = cc
some_heading (Some (a_function h)) e = (h, refl)
some_heading (Some (a_constant k s)) e = cc
some_heading (Some (a_global k s)) e = cc
some_heading (Some (a_synonym s)) e = cc
some_heading (Some (a_procedure k d)) e = cc

module _ (ds : List Decl) (t : Table) (c : Counts) where
  abbrev pub def_of : Text → Heading → Def
  def_of n h = record { params = map sort_or_int (argument_sorts t h.ins); sort = sort_or_int (sort_of_type t [] h.result); logical = is_logical t n; body = value_term t c h.ins h.value }

  abbrev pub defs_for : List Text → List Def
  defs_for ns = map (λ (f : Function). f.def) (flat_map (λ n. function_def t c n (function_in (entity_of t n))) ns)

  pub defs_step : (n : Text) (ns : List Text) (h : Heading) → entity_of t n ≡ Some (a_function h) → defs_for (n ∷ ns) ≡ def_of n h ∷ defs_for ns
  defs_step n ns h e = ap (λ w. map (λ (f : Function). f.def) (function_def t c n (function_in w) ++ flat_map (λ m. function_def t c m (function_in (entity_of t m))) ns)) e

  pub def_at : (ns : List Text) (n : Text) (h : Heading) → AllFunctions t ns → Member n ns → entity_of t n ≡ Some (a_function h) → slice_get (defs_for ns) (position_of ns n) ≡ Some (def_of n h)
  def_at [] n h all i e = absurd i
  def_at (m ∷ ms) n h all i e =
      let g = some_heading (entity_of t m) (all m (inl refl)) in
      subst (λ w. slice_get w (position_of (m ∷ ms) n) ≡ Some (def_of n h)) (sym (defs_step m ms g.0 g.1)) (by g.0 g.1 (λ j. def_at ms n h (λ k l. all k (inr l)) j e) (bytes_eq m n) refl i)
    where
      same_heading : (f g : Heading) → Some (a_function f) ≡ Some (a_function g) → f ≡ g
      same_heading f g z = cc

      by : (g : Heading) → entity_of t m ≡ Some (a_function g) → (Member n ms → slice_get (defs_for ms) (position_of ms n) ≡ Some (def_of n h)) → (r : Bool) → bytes_eq m n ≡ r → Member n (m ∷ ms)
          → slice_get (def_of m g ∷ defs_for ms) (elim r [ true ↦ 0 | false ↦ position_of ms n + 1 ]) ≡ Some (def_of n h)
      by g q later true z j =
          let u = same_text m n z in
          let v = same_heading g h (sym q ∙ (ap (entity_of t) u ∙ e)) in
          λ l. Some (def_of (u l) (v l))
      by g q later false z (inl u) = let bad : true ≡ false = sym (subst (λ w. bytes_eq w n ≡ true) u (text_itself n)) ∙ z in cc
      by g q later false z (inr j) = let u : position_of ms n + 1 ≡ suc (position_of ms n) = omega arith in
          subst (λ w. slice_get (def_of m g ∷ defs_for ms) w ≡ Some (def_of n h)) (sym u) (later j)

  abbrev pub FunctionAt : List Def → Text → Heading → Type 0
  FunctionAt defs n h = (d : Def) × (slice_get defs (function_number t n) ≡ Some d) × (d.params ≡ map sort_or_int (argument_sorts t h.ins)) × Below (sort_of_type t [] h.result) (Some d.sort)

  pub function_at : AllFunctions t (in_number_order t) → ((n : Text) → is_function (entity_of t n) ≡ true → Member n (in_number_order t))
      → (n : Text) (h : Heading) → entity_of t n ≡ Some (a_function h) → FunctionAt (defs_for (in_number_order t)) n h
  unfolding function_number
  function_at all has n h e = (def_of n h, def_at (in_number_order t) n h all (has n (ap is_function e)) e, refl, or_int (sort_of_type t [] h.result))

  -- a list of sorts that has those of constants and globals
  module _ (V : List Kind) (defs : List Def) where
    pub record SortsAt (w : Part) : Type 0 where
      pub constants : (n : Text) (k : ℕ) (s : Ty) → entity_of t n ≡ Some (a_constant k s) → slice_get V k ≡ Some (kind_of ds t c s)
      pub globals : reads_globals w ≡ true → (n : Text) (k : ℕ) (s : Ty) → entity_of t n ≡ Some (a_global k s) → (in_old : Bool) → slice_get V (global_at in_old c k) ≡ Some (kind_of ds t c s)
      pub functions : (n : Text) (h : Heading) → entity_of t n ≡ Some (a_function h) → FunctionAt defs n h

    abbrev pub FitsMeaning : Scope → Meaning → Type 0
    FitsMeaning s m = (b : List Kind) (in_old : Bool) → Below (sort_of_meaning s m) (sort_of V defs b (meaning_term in_old c m))

    abbrev pub VarsFit : Scope → List Var → Type 0
    VarsFit s vs = AllByRecursion (λ (v : Var). FitsMeaning s (var_in s.part v)) vs

    abbrev IsAt : Meaning → Text → Type 0
    IsAt m n = (h : Heading) → applied_heading m ≡ Some h → FunctionAt defs n h

    same_function : (f h : Heading) → Some f ≡ Some h → f ≡ h
    same_function f h e = cc

    fits_sort : (s : Ty) (k : ℕ) (o : Option Kind) → slice_get V k ≡ Some (kind_of ds t c s) → o ≡ sort_of_type t [] s → Below o (slice_get V k)
    fits_sort s k o e q = subst (λ w. Below o w) (sym e) (subst (λ w. Below w (Some (kind_of ds t c s))) (sym q) (or_int (sort_of_type t [] s)))

    module _ (w : Part) (at : SortsAt w) (vs : List Var) (bs : List BoundVar) where
      abbrev the_scope : List BoundVar → Scope
      the_scope ks = record { table = t; counts = c; part = w; vars = vs; bounds = ks }

      global_fits : (r : Bool) → reads_globals w ≡ r → (n : Text) (k : ℕ) (s : Ty) → entity_of t n ≡ Some (a_global k s) → (in_old : Bool) → Below (when r (sort_of_type t [] s)) (slice_get V (global_at in_old c k))
      global_fits true q n k s e in_old = fits_sort s (global_at in_old c k) _ (at.globals q n k s e in_old) refl
      global_fits false q n k s e in_old = inl refl

      entity_fits : (n : Text) (e : Entity) → entity_of t n ≡ Some e → FitsMeaning (the_scope bs) (declared_as e)
      entity_fits n (a_constant k s) e b in_old = fits_sort s k _ (at.constants n k s e) refl
      entity_fits n (a_global k s) e b in_old = global_fits (reads_globals w) refl n k s e in_old
      entity_fits n (a_function h) e b in_old = inl refl
      entity_fits n (a_synonym s) e b in_old = inl refl
      entity_fits n (a_procedure k d) e b in_old = inl refl

      entity_at : (n : Text) (e : Entity) → entity_of t n ≡ Some e → IsAt (declared_as e) n
      entity_at n (a_constant k s) q h e = cc
      entity_at n (a_global k s) q h e = cc
      entity_at n (a_function f) q h e = subst (FunctionAt defs n) (same_function f h e) (at.functions n f q)
      entity_at n (a_synonym s) q h e = cc
      entity_at n (a_procedure k d) q h e = cc

      vars_at : (n : Text) (us : List Var) → AllByRecursion (λ (v : Var). IsAt (var_in w v) n) us
      vars_at n [] = tt
      vars_at n (v ∷ us) = (var_in_has (λ m. IsAt m n) (λ h e. cc) w v (λ h e. cc), vars_at n us)

      pub scope_fits : VarsFit (the_scope bs) vs → Fits V defs (the_scope bs)
      scope_fits h = record {
        free_names = λ b in_old n. free_has (FitsMeaning (the_scope bs)) (λ d o. inl refl) (the_scope bs) n (entity_fits n) h b in_old;
        functions = λ ks n. name_has (λ m. IsAt m n) (λ f e. cc) (λ o. ⊤) (λ j o i f e. cc) (the_scope ks) n (entity_at n) (vars_at n vs) (any_bounds ks);
      }

  -- variables that have their sorts behind others
  abbrev pub var_kinds : List Var → List Kind
  var_kinds vs = map (λ (v : Var). sort_or_int v.sort) vs

  abbrev pub AreAt : List Kind → List Var → Type 0
  AreAt V vs = AllByRecursion (λ (v : Var). slice_get V v.number ≡ Some (sort_or_int v.sort)) vs

  pub vars_are_at : (pre more : List Kind) (hidden : List Text) (r : Role) (k : ℕ) (ps : List (Name × Ty)) → length pre ≡ k
      → AreAt (pre ++ (var_kinds (vars_from t hidden r k ps) ++ more)) (vars_from t hidden r k ps)
  vars_are_at pre more hidden r k [] e = tt
  vars_are_at pre more hidden r k (p ∷ ps) e =
      let a = sort_or_int (sort_of_type t hidden p.1) in (
        slice_at pre a _ k e,
        subst (λ w. AreAt w (vars_from t hidden r (k + 1) ps)) (append_assoc pre (a ∷ []) (var_kinds (vars_from t hidden r (k + 1) ps) ++ more))
            (vars_are_at (pre ++ (a ∷ [])) more hidden r (k + 1) ps (length-append pre (a ∷ []) ∙ ap (λ w. w + 1) e)),
      )

  pub at_joined : (V : List Kind) (vs ws : List Var) → AreAt V vs → AreAt V ws → AreAt V (vs ++ ws)
  at_joined V [] ws h g = g
  at_joined V (v ∷ vs) ws h g = (h.0, at_joined V vs ws h.1 g)

  pub vars_fit : (V : List Kind) (defs : List Def) (s : Scope) (vs : List Var) → AreAt V vs → VarsFit V defs s vs
  vars_fit V defs s [] h = tt
  vars_fit V defs s (v ∷ vs) h = (var_in_has (FitsMeaning V defs s) (λ d o. inl refl) s.part v (λ b o. subst (Below v.sort) (sym h.0) (or_int v.sort)), vars_fit V defs s vs h.1)
