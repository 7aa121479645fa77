-- Whatever may be named has a sort, in each scope over the table of a program without faults whose variables have one.
use Rattle.std.proofs.Common.{◌≡◌, refl, sym, subst, ℕ, ◌+◌, Bool, true, false, List, [], ◌∷◌, ◌++◌, Option, Some, None}
use Rattle.std.specs.Prelude.{⊤, bytes_eq, cond}
use Rattle.std.specs.List.{AllByRecursion}
use Rattle.bv_base.specs.declared.place.Place.{Place}
use Rattle.logic_core.specs.Tree.{Kind}
use Rattle.bpl_ast.specs.Place.{Name, Ty}
use Rattle.bpl_ast.specs.Tree.{Groups}
use Rattle.bpl_ast.specs.Statement.{Argument}
use Rattle.bpl_scopes.specs.declared.fault.TypeKind.TheVariants.{Kind as wrong_kind}
use Rattle.bpl_scopes.specs.declared.part.Part.{Part}
use Rattle.bpl_scopes.specs.declared.part.Part.TheVariants.{Axiom as in_axiom, Function as in_function, Requires as in_requires, Ensures as in_ensures, Body as in_body, ClauseOfGlobal as in_clause_of_global, ClauseOfIn as in_clause_of_in, ClauseOfOut as in_clause_of_out, ClauseOfLocal as in_clause_of_local}
use Rattle.bpl_scopes.specs.declared.part.Role.{Role}
use Rattle.bpl_scopes.specs.declared.part.Role.TheVariants.{In as in_parameter, Out as out_parameter, Local as local_variable}
use Rattle.bpl_scopes.specs.Scopes.{Text, Heading, Entity, a_constant, a_global, a_function, a_synonym, a_procedure, Table, Counts, names_of, entity_of, Var, BoundVar, Scope, Meaning, bound_to, stands_for, declared_as, nothing, has_name, var_in, var_of, entity_in, declared_meaning, free_meaning, bound_meaning, meaning}
use Rattle.bpl_scopes.specs.Sorts.{sort_of_type, argument_sorts, reads_globals, sort_of_meaning, applied_heading}
use Rattle.bpl_scopes.specs.TypeFaults.{type_faults, group_type_faults}
use Rattle.bpl_faults.specs.NameFaults.{variable_faults}
use Rattle.bpl_declaration_faults.specs.Variables.{vars_from}
use Rattle.bpl_declaration_faults.specs.DeclFaults.{argument_type_faults}
use Rattle.bpl_resolve.proofs.HasSort.{Known, first_empty, second_empty, unless_empty, when_known}
use Rattle.bpl_resolve.proofs.Faultless.{KnownBounds, EachKnown, NamesKnown, TypesKnown, groups_known}
use Rattle.bpl_resolve.proofs.TypesKnown.{type_known}
use Rattle.bpl_resolve.proofs.EntriesFine.{EntriesFine, entity_fine, synonyms_fine}

-- what holds of all that a name may stand for holds of what it stands for
module _ (Q : Meaning → Type 0) (none : Q nothing) where
  entity_in_has : (w : Part) (e : Entity) → Q (declared_as e) → Q (entity_in w e)
  entity_in_has in_axiom e h = h
  entity_in_has in_function e h = h
  entity_in_has in_requires e h = h
  entity_in_has in_ensures e h = h
  entity_in_has in_body e h = h
  entity_in_has in_clause_of_local e h = h
  entity_in_has in_clause_of_global (a_constant k s) h = h
  entity_in_has in_clause_of_global (a_global k s) h = h
  entity_in_has in_clause_of_global (a_function f) h = h
  entity_in_has in_clause_of_global (a_synonym s) h = none
  entity_in_has in_clause_of_global (a_procedure k c) h = none
  entity_in_has in_clause_of_in (a_constant k s) h = h
  entity_in_has in_clause_of_in (a_global k s) h = h
  entity_in_has in_clause_of_in (a_function f) h = h
  entity_in_has in_clause_of_in (a_synonym s) h = none
  entity_in_has in_clause_of_in (a_procedure k c) h = none
  entity_in_has in_clause_of_out (a_constant k s) h = h
  entity_in_has in_clause_of_out (a_global k s) h = h
  entity_in_has in_clause_of_out (a_function f) h = h
  entity_in_has in_clause_of_out (a_synonym s) h = none
  entity_in_has in_clause_of_out (a_procedure k c) h = none

  declared_has : (w : Part) (o : Option Entity) → ((e : Entity) → o ≡ Some e → Q (declared_as e)) → Q (declared_meaning w o)
  declared_has w None h = none
  declared_has w (Some e) h = entity_in_has w e (h e refl)

  module _ (s : Scope) (n : Text) (declared : (e : Entity) → entity_of s.table n ≡ Some e → Q (declared_as e)) where
    var_has : (vs : List Var) → AllByRecursion (λ (v : Var). Q (var_in s.part v)) vs → Q (free_meaning s n None) → Q (free_meaning s n (var_of vs n))
    var_has [] h g = g
    var_has (v ∷ vs) h g = by (bytes_eq v.name n) (var_has vs h.1 g)
      where
        by : (r : Bool) → Q (free_meaning s n (var_of vs n)) → Q (free_meaning s n (cond r (Some v) (var_of vs n)))
        by true z = h.0
        by false z = z

    pub free_has : AllByRecursion (λ (v : Var). Q (var_in s.part v)) s.vars → Q (free_meaning s n (var_of s.vars n))
    free_has h = var_has s.vars h (declared_has s.part (entity_of s.table n) declared)

  bound_has : (R : Option Kind → Type 0) → ((j : ℕ) (k : Option Kind) → R k → Q (bound_to j k)) → (j : ℕ) (bs : List BoundVar) (n : Text) (m : Meaning)
      → AllByRecursion (λ (b : BoundVar). R b.sort) bs → Q m → Q (bound_meaning j bs n m)
  bound_has R bound j [] n m h g = g
  bound_has R bound j (b ∷ bs) n m h g = by (has_name n b.name) (bound_has R bound (j + 1) bs n m h.1 g)
    where
      by : (r : Bool) → Q (bound_meaning (j + 1) bs n m) → Q (elim r [ true ↦ bound_to j b.sort | false ↦ bound_meaning (j + 1) bs n m ])
      by true z = bound j b.sort h.0
      by false z = z

  pub name_has : (R : Option Kind → Type 0) → ((j : ℕ) (k : Option Kind) → R k → Q (bound_to j k)) → (s : Scope) (n : Text) → ((e : Entity) → entity_of s.table n ≡ Some e → Q (declared_as e))
      → AllByRecursion (λ (v : Var). Q (var_in s.part v)) s.vars → AllByRecursion (λ (b : BoundVar). R b.sort) s.bounds → Q (meaning s n)
  unfolding meaning
  name_has R bound s n declared h g = bound_has R bound 0 s.bounds n (free_meaning s n (var_of s.vars n)) g (free_has s n declared h)

-- a variable, unless the part hides outs
pub var_in_has : (Q : Meaning → Type 0) → Q nothing → (w : Part) (v : Var) → Q (stands_for v) → Q (var_in w v)
var_in_has Q none w v h = by w
  where
    out : (r : Role) → Q (elim r [ in_parameter ↦ stands_for v | out_parameter ↦ nothing | local_variable ↦ stands_for v ])
    out in_parameter = h
    out out_parameter = none
    out local_variable = h

    by : (w : Part) → Q (var_in w v)
    by in_requires = out v.role
    by in_clause_of_in = out v.role
    by in_axiom = h
    by in_function = h
    by in_ensures = h
    by in_body = h
    by in_clause_of_global = h
    by in_clause_of_out = h
    by in_clause_of_local = h

bounds_all : (bs : List BoundVar) → KnownBounds bs → AllByRecursion (λ (b : BoundVar). Known b.sort) bs
bounds_all [] h = tt
bounds_all (b ∷ bs) h = (h.0, bounds_all bs h.1)

pub any_bounds : (bs : List BoundVar) → AllByRecursion (λ (b : BoundVar). ⊤) bs
any_bounds [] = tt
any_bounds (b ∷ bs) = (tt, any_bounds bs)

abbrev pub VarsKnown : List Var → Type 0
VarsKnown vs = AllByRecursion (λ (v : Var). Known v.sort) vs

module _ (t : Table) (c : Counts) (fine : EntriesFine t c t) where
  pub fine_type : (hidden : List Text) (s : Ty) → type_faults t hidden s ≡ [] → Known (sort_of_type t hidden s)
  fine_type hidden s e = type_known t (synonyms_fine t c fine) hidden s e

  pub arguments_fine : (ins : List Argument) → argument_type_faults t ins ≡ [] → EachKnown (argument_sorts t ins)
  arguments_fine [] e = tt
  arguments_fine (a ∷ ins) e = (fine_type [] a.type (first_empty _ _ e), arguments_fine ins (second_empty (type_faults t [] a.type) _ e))

  abbrev HasKnown : Scope → Place → Meaning → Type 0
  HasKnown s p m = variable_faults s.part m p ≡ [] → Known (sort_of_meaning s m)

  entity_known : (s : Scope) → s.table ≡ t → (n : Text) (p : Place) (e : Entity) → entity_of t n ≡ Some e → HasKnown s p (declared_as e)
  entity_known s q n p (a_constant k r) h e = subst (λ w. Known (sort_of_type w [] r)) (sym q) (fine_type [] r (entity_fine t c fine n (a_constant k r) h))
  entity_known s q n p (a_global k r) h e = when_known (reads_globals s.part) _ (unless_empty _ wrong_kind p e) (subst (λ w. Known (sort_of_type w [] r)) (sym q) (fine_type [] r (entity_fine t c fine n (a_global k r) h)))
  entity_known s q n p (a_function f) h e = cc
  entity_known s q n p (a_synonym r) h e = cc
  entity_known s q n p (a_procedure k d) h e = cc

  vars_known : (s : Scope) (p : Place) (vs : List Var) → VarsKnown vs → AllByRecursion (λ (v : Var). HasKnown s p (var_in s.part v)) vs
  vars_known s p [] h = tt
  vars_known s p (v ∷ vs) h = (var_in_has (HasKnown s p) (λ e. cc) s.part v (λ e. h.0), vars_known s p vs h.1)

  abbrev HeadingKnown : Meaning → Type 0
  HeadingKnown m = (h : Heading) → applied_heading m ≡ Some h → EachKnown (argument_sorts t h.ins) × Known (sort_of_type t [] h.result)

  same_heading : (f h : Heading) → Some f ≡ Some h → f ≡ h
  same_heading f h e = cc

  entity_heading : (n : Text) (e : Entity) → entity_of t n ≡ Some e → HeadingKnown (declared_as e)
  entity_heading n (a_constant k r) q h e = cc
  entity_heading n (a_global k r) q h e = cc
  entity_heading n (a_function f) q h e = let g = entity_fine t c fine n (a_function f) q in
      subst (λ w. EachKnown (argument_sorts t w.ins) × Known (sort_of_type t [] w.result)) (same_heading f h e) (arguments_fine f.ins g.ins_fine, fine_type [] f.result g.result_fine)
  entity_heading n (a_synonym r) q h e = cc
  entity_heading n (a_procedure k d) q h e = cc

  vars_heading : (w : Part) (vs : List Var) → AllByRecursion (λ (v : Var). HeadingKnown (var_in w v)) vs
  vars_heading w [] = tt
  vars_heading w (v ∷ vs) = (var_in_has HeadingKnown (λ h e. cc) w v (λ h e. cc), vars_heading w vs)

  -- any scope over the table
  pub scope_known : (k : Counts) (w : Part) (vs : List Var) (bs : List BoundVar) → VarsKnown vs → NamesKnown (record { table = t; counts = k; part = w; vars = vs; bounds = bs })
  scope_known k w vs bs h = record {
    names = λ ds g n p. let s : Scope = record { table = t; counts = k; part = w; vars = vs; bounds = ds } in
        name_has (HasKnown s p) (λ e. cc) Known (λ j o i e. i) s n (entity_known s refl n p) (vars_known s p vs h) (bounds_all ds g);
    functions = λ ds n. let s : Scope = record { table = t; counts = k; part = w; vars = vs; bounds = ds } in
        name_has HeadingKnown (λ i e. cc) (λ o. ⊤) (λ j o i f e. cc) s n (entity_heading n) (vars_heading w vs) (any_bounds ds);
    types = fine_type;
  }

  -- variables whose types have no fault
  pub types_vars : (hidden : List Text) (r : Role) (k : ℕ) (ps : List (Name × Ty)) → TypesKnown t hidden ps → VarsKnown (vars_from t hidden r k ps)
  types_vars hidden r k [] h = tt
  types_vars hidden r k (p ∷ ps) h = (h.0, types_vars hidden r (k + 1) ps h.1)

  pub vars_from_known : (hidden : List Text) (r : Role) (k : ℕ) (gs : Groups) → group_type_faults t hidden gs ≡ [] → VarsKnown (vars_from t hidden r k (names_of gs))
  vars_from_known hidden r k gs e = types_vars hidden r k (names_of gs) (groups_known t hidden (fine_type hidden) gs e)

  pub vars_joined : (vs ws : List Var) → VarsKnown vs → VarsKnown ws → VarsKnown (vs ++ ws)
  vars_joined [] ws h g = g
  vars_joined (v ∷ vs) ws h g = (h.0, vars_joined vs ws h.1 g)
