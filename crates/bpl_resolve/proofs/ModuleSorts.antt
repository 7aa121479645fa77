-- The lists of sorts and definitions of the module of a program without faults fit each scope of the program; and its axioms are formulas over constants.
use Rattle.std.proofs.Common.{◌≡◌, refl, ap, sym, ◌∙◌, ℕ, zero, suc, ◌+◌, arith, Bool, true, false, List, [], ◌∷◌, ◌++◌, map, length, Option, Some, None}
use Rattle.std.specs.Prelude.{flat_map, slice_get}
use Rattle.std.specs.List.{AllByRecursion}
use Rattle.logic_core.specs.Tree.{Kind, Tree}
use Rattle.logic_core.specs.WellSorted.{IsFormula}
use Rattle.bpl_ast.specs.Place.{Name, Ty}
use Rattle.bpl_ast.specs.Tree.{Expr}
use Rattle.bpl_ast.specs.Statement.{DeclBody, constant, function, axiom_of, variables, synonym, procedure, implementation, Decl}
use Rattle.bpl_model.specs.Module.{Module}
use Rattle.bpl_model.specs.Numbering.{defs_of, const_sorts, global_sorts, local_sorts}
use Rattle.bpl_scopes.specs.declared.part.Part.{Part}
use Rattle.bpl_scopes.specs.declared.part.Part.TheVariants.{Axiom as in_axiom}
use Rattle.bpl_scopes.specs.declared.part.Role.{Role}
use Rattle.bpl_scopes.specs.Scopes.{Text, Heading, Entity, a_constant, a_global, a_function, Table, table_of, Counts, no_counts, counts_after, entity_of, Var}
use Rattle.bpl_scopes.specs.Sorts.{reads_globals}
use Rattle.bpl_scopes.specs.Functions.{leads_to_itself}
use Rattle.bpl_faults.specs.ExprFaults.{formula_faults}
use Rattle.bpl_terms.specs.Terms.{sort_or_int, global_at, term_of}
use Rattle.bpl_declaration_faults.specs.Variables.{vars_from, scope_of}
use Rattle.bpl_declaration_faults.specs.DeclFaults.{decl_faults, before_with, Before, fault_of, nothing_before}
use Rattle.bpl_resolve.specs.Elaborate.{locals_with, axioms_in, module_of}
use Rattle.bpl_resolve.proofs.Formulas.{formula_sorted}
use Rattle.bpl_resolve.proofs.EntriesFine.{EntriesFine, entity_has, entity_fine, synonyms_fine, table_fine, NoFaults, none_faulty}
use Rattle.bpl_resolve.proofs.FunctionOrder.{IsFunction, order_has, order_only}
use Rattle.bpl_resolve.proofs.ScopesKnown.{VarsKnown, scope_known}
use Rattle.bpl_resolve.proofs.Numbered.{IsNumbered, numbered, count_constants, count_globals}
use Rattle.bpl_resolve.proofs.ScopesFit.{some_heading, FunctionAt, function_at, SortsAt, AreAt, vars_fit, scope_fits}

pub slice_left : {A : Type 0} (xs ys : List A) (k : ℕ) (a : A) → slice_get xs k ≡ Some a → slice_get (xs ++ ys) k ≡ Some a
slice_left [] ys k a e = cc
slice_left (x ∷ xs) ys zero a e = e
slice_left (x ∷ xs) ys (suc k) a e = slice_left xs ys k a e

pub slice_right : {A : Type 0} (xs ys : List A) (n k : ℕ) → length xs ≡ n → slice_get (xs ++ ys) (n + k) ≡ slice_get ys k
slice_right [] ys zero k e = let u : 0 + k ≡ k = omega arith in ap (slice_get ys) u
slice_right [] ys (suc n) k e = absurd (omega (arith, e))
slice_right (x ∷ xs) ys zero k e = absurd (omega (arith, e))
slice_right (x ∷ xs) ys (suc n) k e = let u : suc n + k ≡ suc (n + k) = omega arith in ap (slice_get (x ∷ (xs ++ ys))) u ∙ slice_right xs ys n k (omega (arith, e))

pub same_locals : (vs : List Var) (cs : List (Option Tree)) → length cs ≡ length vs → local_sorts (locals_with vs cs) ≡ map (λ (v : Var). sort_or_int v.sort) vs
same_locals [] cs e = refl
same_locals (v ∷ vs) [] e = absurd (omega (arith, e))
same_locals (v ∷ vs) (k ∷ cs) e = ap (λ w. sort_or_int v.sort ∷ w) (same_locals vs cs (omega (arith, e)))

pub length_vars : (t : Table) (hidden : List Text) (r : Role) (k : ℕ) (ps : List (Name × Ty)) → length (vars_from t hidden r k ps) ≡ length ps
length_vars t hidden r k [] = refl
length_vars t hidden r k (p ∷ ps) = ap suc (length_vars t hidden r (k + 1) ps)

module _ (ds : List Decl) (none : fault_of ds ≡ None) where
  abbrev pub T : Table
  T = table_of ds

  abbrev pub C : Counts
  C = counts_after no_counts ds

  abbrev pub M : Module
  M = module_of ds

  pub fine : EntriesFine T C T
  fine = table_fine ds none

  pub numbered_entity : (n : Text) (x : Entity) → entity_of T n ≡ Some x → IsNumbered ds T C (const_sorts M) (global_sorts M) M.procs n x
  numbered_entity n x e = entity_has (IsNumbered ds T C (const_sorts M) (global_sorts M) M.procs) T (numbered ds T C [] [] [] no_counts 0 ds refl refl refl) n x e

  pub constants_count : length (const_sorts M) ≡ C.constants
  constants_count = count_constants ds T C [] no_counts ds refl

  pub globals_count : length (global_sorts M) ≡ C.globals
  globals_count = count_globals ds T C [] no_counts ds refl

  pub acyclic : (n : Text) → IsFunction T n → leads_to_itself T n ≡ false
  acyclic n x = let h = some_heading (entity_of T n) x in (entity_fine T C fine n (a_function h.0) h.1).no_cycle

  pub functions_at : (n : Text) (h : Heading) → entity_of T n ≡ Some (a_function h) → FunctionAt ds T C (defs_of M) n h
  functions_at n h e = function_at ds T C (order_only T (synonyms_fine T C fine) acyclic) (order_has T (synonyms_fine T C fine) acyclic) n h e

  -- where no global variable is read, constants do
  pub constants_at : (w : Part) → reads_globals w ≡ false → SortsAt ds T C (const_sorts M) (defs_of M) w
  constants_at w r = record { constants = λ n k s e. numbered_entity n (a_constant k s) e; globals = λ q n k s e o. let bad : true ≡ false = sym q ∙ r in cc; functions = functions_at }

  abbrev pub sorts_before : List Kind → List Kind
  sorts_before rest = const_sorts M ++ (global_sorts M ++ (global_sorts M ++ rest))

  pub global_is_at : (rest : List Kind) (k : ℕ) (a : Kind) → slice_get (global_sorts M) k ≡ Some a → (in_old : Bool) → slice_get (sorts_before rest) (global_at in_old C k) ≡ Some a
  global_is_at rest k a h false = slice_right (const_sorts M) (global_sorts M ++ (global_sorts M ++ rest)) C.constants k constants_count ∙ slice_left (global_sorts M) _ k a h
  global_is_at rest k a h true = slice_right (const_sorts M) (global_sorts M ++ (global_sorts M ++ rest)) C.constants (C.globals + k) constants_count
      ∙ (slice_right (global_sorts M) (global_sorts M ++ rest) C.globals k globals_count ∙ slice_left (global_sorts M) rest k a h)

  pub all_at : (rest : List Kind) (w : Part) → SortsAt ds T C (sorts_before rest) (defs_of M) w
  all_at rest w = record {
    constants = λ n k s e. slice_left (const_sorts M) _ k _ (numbered_entity n (a_constant k s) e);
    globals = λ q n k s e o. global_is_at rest k _ (numbered_entity n (a_global k s) e) o;
    functions = functions_at;
  }

  -- a formula without fault over those and over variables at their numbers
  pub formula_fits : (rest : List Kind) (w : Part) (vs : List Var) → VarsKnown vs → AreAt ds T C (sorts_before rest) vs
      → (x : Expr) → formula_faults (scope_of T C w vs) x ≡ [] → IsFormula (sorts_before rest) (defs_of M) (term_of (scope_of T C w vs) x)
  formula_fits rest w vs k a x e = formula_sorted (sorts_before rest) (defs_of M) (scope_of T C w vs) (scope_known T C fine C w vs [] k) tt
      (scope_fits ds T C (sorts_before rest) (defs_of M) w (all_at rest w) vs [] (vars_fit ds T C (sorts_before rest) (defs_of M) (scope_of T C w vs) vs a)) tt x e

  -- axioms
  axiom_fits : (x : Expr) → formula_faults (scope_of T C in_axiom []) x ≡ [] → IsFormula (const_sorts M) (defs_of M) (term_of (scope_of T C in_axiom []) x)
  axiom_fits x e = formula_sorted (const_sorts M) (defs_of M) (scope_of T C in_axiom []) (scope_known T C fine C in_axiom [] [] tt) tt
      (scope_fits ds T C (const_sorts M) (defs_of M) in_axiom (constants_at in_axiom refl) [] [] tt) tt x e

  axioms_from : (b : Before) (xs : List Decl) → NoFaults T C b xs → AllByRecursion (IsFormula (const_sorts M) (defs_of M)) (flat_map (λ (d : Decl). axioms_in T C d.body) xs)
  axioms_from b [] h = tt
  axioms_from b (x ∷ xs) h = by x.body h.0 (axioms_from (before_with b x.body) xs h.1)
    where
      by : (d : DeclBody) → decl_faults T C b d ≡ [] → AllByRecursion (IsFormula (const_sorts M) (defs_of M)) (flat_map (λ (d : Decl). axioms_in T C d.body) xs)
          → AllByRecursion (IsFormula (const_sorts M) (defs_of M)) (axioms_in T C d ++ flat_map (λ (d : Decl). axioms_in T C d.body) xs)
      by (axiom_of y) e later = (axiom_fits y e, later)
      by (constant u ns s) e later = later
      by (function n ps ins r y) e later = later
      by (variables gs) e later = later
      by (synonym n s) e later = later
      by (procedure n ps g ss y) e later = later
      by (implementation n ps g y) e later = later

  pub axioms_typed : AllByRecursion (IsFormula (const_sorts M) (defs_of M)) M.axioms
  axioms_typed = axioms_from nothing_before ds (none_faulty ds none)
