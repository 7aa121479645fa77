-- Two scopes in which the names that are used stand for things that go alike over new numbers: variables, types, and the names that variables hide.
use Rattle.std.specs.Prelude.{◌≡◌, refl, ◌⊎◌, ℕ, suc, ◌+◌, Bool, true, false, ◌||◌, cond, List, [], ◌∷◌, ◌++◌, map, length, reverse, find, bytes_eq, Option, Some, None, option_map}
use Rattle.std.specs.List.{AllByRecursion, list_any}
use Rattle.std.proofs.Common.{ap, sym, subst, ◌∙◌, true≢false}
use Rattle.std.proofs.lemmas.List.{map-append}
use Rattle.logic_core.specs.Tree.{Kind, Tree, free, bound}
use Rattle.logic_core.specs.Renamed.{both_renamed, EachHas}
use Rattle.bpl_ast.specs.Place.{Name, Ty, integer, boolean as truth_type, named, map_type, Tys, no_tys, ty}
use Rattle.bpl_ast.specs.Tree.{Groups, no_groups, group}
use Rattle.bpl_scopes.specs.declared.part.Part.{Part}
use Rattle.bpl_scopes.specs.declared.part.Part.TheVariants.{Axiom as in_axiom, Function as in_function, Requires as in_requires, Ensures as in_ensures, Body as in_body, ClauseOfGlobal as in_clause_of_global, ClauseOfIn as in_clause_of_in, ClauseOfOut as in_clause_of_out, ClauseOfLocal as in_clause_of_local}
use Rattle.bpl_scopes.specs.declared.part.Role.{Role}
use Rattle.bpl_scopes.specs.declared.part.Role.TheVariants.{In as in_parameter, Out as out_parameter, Local as local_variable}
use Rattle.bv_base.specs.Text.{is_among}
use Rattle.bpl_scopes.specs.Scopes.{Text, Heading, Contract, Entity, a_constant, a_global, a_function, a_synonym, a_procedure, Table, Counts, names_of, typed_names, entity_of, Var, BoundVar, Scope, Meaning, bound_to, stands_for, declared_as, nothing, has_name, unless_out, var_in, var_of, unless_other, entity_in, declared_meaning, free_meaning, bound_meaning, meaning, bound_names, hidden_in}
use Rattle.bpl_scopes.specs.Sorts.{map_sort, sort_by, sorts_by, synonym_sort, unless_hidden, sort_of_type, applied_heading}
use Rattle.bpl_scopes.specs.Functions.{names_in_type, names_in_types, function_number}
use Rattle.bpl_texts.specs.Uses.{use_of, type_uses, types_uses}
use Rattle.bpl_terms.specs.Terms.{global_number, entry_number, global_at, no_term, entity_term, meaning_term, sort_or_int, bound_sorts}
use Rattle.bpl_resolve.proofs.GoesForward.{not_equal}

-- a name that is among neither
pub among_two : (n : Text) (ms ks : List Text) → is_among ms n ≡ false → is_among ks n ≡ false → is_among (ms ++ ks) n ≡ false
among_two n [] ks f g = g
among_two n (l ∷ ms) ks f g = by (bytes_eq n l) refl (λ k. among_two n ms ks k g)
  where
    by : (b : Bool) → bytes_eq n l ≡ b → (is_among ms n ≡ false → is_among (ms ++ ks) n ≡ false) → (bytes_eq n l || is_among (ms ++ ks) n) ≡ false
    by true h rest = absurd (true≢false (sym (λ i. h i || is_among ms n) ∙ f))
    by false h rest = (λ i. h i || is_among (ms ++ ks) n) ∙ rest ((λ i. sym h i || is_among ms n) ∙ f)

-- the names of bound variables
abbrev given_names : List (Option Text) → List Text
given_names [] = []
given_names (o ∷ os) = elim o [ None ↦ given_names os | Some n ↦ n ∷ given_names os ]

names_given : (bs : List BoundVar) → bound_names bs ≡ given_names (map (λ (b : BoundVar). b.name) bs)
names_given [] = refl
names_given (b ∷ bs) = λ i. elim b.name [ None ↦ names_given bs i | Some n ↦ n ∷ names_given bs i ]

abbrev pub SameBounds : List BoundVar → List BoundVar → Type 0
SameBounds bs cs = map (λ (b : BoundVar). b.name) cs ≡ map (λ (b : BoundVar). b.name) bs

-- over two tables with their counts, new numbers, and the names that are used
module _ (new_def new_var : ℕ → ℕ) (D V : ℕ → Type 0) (Used : Text → Type 0) (t u : Table) (c d : Counts) where
  pub record AlikeTerm (a b : Tree) : Type 0 where
    pub same : b ≡ both_renamed new_def new_var a
    pub covered : EachHas V D a

  no_terms_alike : AlikeTerm no_term no_term
  no_terms_alike = record { same = refl; covered = tt }

  -- what a name is in both
  pub data AlikeEntity (n : Text) : Option Entity → Option Entity → Type 0 where
    undeclared : AlikeEntity n None None
    constants : {k l : ℕ} {x y : Ty} → new_var k ≡ l → V k → AlikeEntity n (Some (a_constant k x)) (Some (a_constant l y))
    globals : {k l : ℕ} {x y : Ty} → new_var (global_number c k) ≡ global_number d l → V (global_number c k) → new_var (entry_number c k) ≡ entry_number d l → V (entry_number c k)
        → AlikeEntity n (Some (a_global k x)) (Some (a_global l y))
    functions : {g h : Heading} → new_def (function_number t n) ≡ function_number u n → D (function_number t n) → AlikeEntity n (Some (a_function g)) (Some (a_function h))
    synonyms : {x y : Option Ty} → AlikeEntity n (Some (a_synonym x)) (Some (a_synonym y))
    procedures : {k l : ℕ} {f g : Contract} → AlikeEntity n (Some (a_procedure k f)) (Some (a_procedure l g))

  -- a used name is the same in both, and as a type it stands for one sort
  pub record AlikeName (n : Text) : Type 0 where
    pub entity : AlikeEntity n (entity_of t n) (entity_of u n)
    pub sort : synonym_sort u (length u) n ≡ synonym_sort t (length t) n

  pub data AlikeVars : List Var → List Var → Type 0 where
    no_vars : AlikeVars [] []
    a_var : {v w : Var} {vs ws : List Var} → w.name ≡ v.name → w.role ≡ v.role → new_var v.number ≡ w.number → V v.number → AlikeVars vs ws → AlikeVars (v ∷ vs) (w ∷ ws)

  var_names : (vs ws : List Var) → AlikeVars vs ws → map (λ (v : Var). v.name) ws ≡ map (λ (v : Var). v.name) vs
  var_names _ _ no_vars = refl
  var_names _ _ (a_var {vs = vs} {ws = ws} e o q h rest) = λ i. e i ∷ var_names vs ws rest i

  abbrev pub scope_here : Part → List Var → List BoundVar → Scope
  scope_here part vs bs = record { table = t; counts = c; part = part; vars = vs; bounds = bs }

  abbrev pub scope_there : Part → List Var → List BoundVar → Scope
  scope_there part ws cs = record { table = u; counts = d; part = part; vars = ws; bounds = cs }

  pub hidden_same : (vs ws : List Var) → AlikeVars vs ws → (bs cs : List BoundVar) → SameBounds bs cs → bound_names cs ++ map (λ (v : Var). v.name) ws ≡ bound_names bs ++ map (λ (v : Var). v.name) vs
  hidden_same vs ws a bs cs e = λ i. (names_given cs ∙ ap given_names e ∙ sym (names_given bs)) i ++ var_names vs ws a i

  -- what a declared name stands for in an expression
  module _ (in_old : Bool) where
    declared_alike : (n : Text) (o p : Option Entity) (part : Part) → AlikeEntity n o p → AlikeTerm (meaning_term in_old c (declared_meaning part o)) (meaning_term in_old d (declared_meaning part p))
    declared_alike n _ _ part undeclared = no_terms_alike
    declared_alike n _ _ part (constants {k = k} {l = l} {x = x} {y = y} e h) = by part
      where
        one : AlikeTerm (free k) (free l)
        one = record { same = ap free (sym e); covered = h }

        by : (part : Part) → AlikeTerm (meaning_term in_old c (entity_in part (a_constant k x))) (meaning_term in_old d (entity_in part (a_constant l y)))
        by in_axiom = one
        by in_function = one
        by in_requires = one
        by in_ensures = one
        by in_body = one
        by in_clause_of_global = one
        by in_clause_of_in = one
        by in_clause_of_out = one
        by in_clause_of_local = one
    declared_alike n _ _ part (globals {k = k} {l = l} {x = x} {y = y} e h f g) = by part
      where
        either : (o : Bool) → AlikeTerm (free (global_at o c k)) (free (global_at o d l))
        either true = record { same = ap free (sym f); covered = g }
        either false = record { same = ap free (sym e); covered = h }

        one : AlikeTerm (free (global_at in_old c k)) (free (global_at in_old d l))
        one = either in_old

        by : (part : Part) → AlikeTerm (meaning_term in_old c (entity_in part (a_global k x))) (meaning_term in_old d (entity_in part (a_global l y)))
        by in_axiom = one
        by in_function = one
        by in_requires = one
        by in_ensures = one
        by in_body = one
        by in_clause_of_global = one
        by in_clause_of_in = one
        by in_clause_of_out = one
        by in_clause_of_local = one
    declared_alike n _ _ part (functions {g = g} {h = h} e f) = by part
      where
        by : (part : Part) → AlikeTerm (meaning_term in_old c (entity_in part (a_function g))) (meaning_term in_old d (entity_in part (a_function h)))
        by in_axiom = no_terms_alike
        by in_function = no_terms_alike
        by in_requires = no_terms_alike
        by in_ensures = no_terms_alike
        by in_body = no_terms_alike
        by in_clause_of_global = no_terms_alike
        by in_clause_of_in = no_terms_alike
        by in_clause_of_out = no_terms_alike
        by in_clause_of_local = no_terms_alike
    declared_alike n _ _ part (synonyms {x = x} {y = y}) = by part
      where
        by : (part : Part) → AlikeTerm (meaning_term in_old c (entity_in part (a_synonym x))) (meaning_term in_old d (entity_in part (a_synonym y)))
        by in_axiom = no_terms_alike
        by in_function = no_terms_alike
        by in_requires = no_terms_alike
        by in_ensures = no_terms_alike
        by in_body = no_terms_alike
        by in_clause_of_global = no_terms_alike
        by in_clause_of_in = no_terms_alike
        by in_clause_of_out = no_terms_alike
        by in_clause_of_local = no_terms_alike
    declared_alike n _ _ part (procedures {k = k} {l = l} {f = f} {g = g}) = by part
      where
        by : (part : Part) → AlikeTerm (meaning_term in_old c (entity_in part (a_procedure k f))) (meaning_term in_old d (entity_in part (a_procedure l g)))
        by in_axiom = no_terms_alike
        by in_function = no_terms_alike
        by in_requires = no_terms_alike
        by in_ensures = no_terms_alike
        by in_body = no_terms_alike
        by in_clause_of_global = no_terms_alike
        by in_clause_of_in = no_terms_alike
        by in_clause_of_out = no_terms_alike
        by in_clause_of_local = no_terms_alike

    -- a parameter or local
    role_alike : (v w : Var) → AlikeTerm (free v.number) (free w.number) → (r : Role)
        → AlikeTerm (meaning_term in_old c (elim r [ in_parameter ↦ stands_for v | out_parameter ↦ nothing | local_variable ↦ stands_for v ])) (meaning_term in_old d (elim r [ in_parameter ↦ stands_for w | out_parameter ↦ nothing | local_variable ↦ stands_for w ]))
    role_alike v w a in_parameter = a
    role_alike v w a out_parameter = no_terms_alike
    role_alike v w a local_variable = a

    var_alike : (v w : Var) → w.role ≡ v.role → new_var v.number ≡ w.number → V v.number → (part : Part) → AlikeTerm (meaning_term in_old c (var_in part v)) (meaning_term in_old d (var_in part w))
    var_alike v w o e h part = by part
      where
        one : AlikeTerm (free v.number) (free w.number)
        one = record { same = ap free (sym e); covered = h }

        unless : AlikeTerm (meaning_term in_old c (unless_out v)) (meaning_term in_old d (unless_out w))
        unless = subst (λ r. AlikeTerm (meaning_term in_old c (unless_out v)) (meaning_term in_old d (elim r [ in_parameter ↦ stands_for w | out_parameter ↦ nothing | local_variable ↦ stands_for w ]))) (sym o) (role_alike v w one v.role)

        by : (part : Part) → AlikeTerm (meaning_term in_old c (var_in part v)) (meaning_term in_old d (var_in part w))
        by in_requires = unless
        by in_clause_of_in = unless
        by in_axiom = one
        by in_function = one
        by in_ensures = one
        by in_body = one
        by in_clause_of_global = one
        by in_clause_of_out = one
        by in_clause_of_local = one

    -- what a name stands for behind the bound variables; a declared one only where no variable hides it
    free_alike : (part : Part) (n : Text) (vs ws : List Var) → AlikeVars vs ws → (is_among (map (λ (v : Var). v.name) vs) n ≡ false → AlikeEntity n (entity_of t n) (entity_of u n))
        → AlikeTerm (meaning_term in_old c (free_meaning (scope_here part [] []) n (var_of vs n))) (meaning_term in_old d (free_meaning (scope_there part [] []) n (var_of ws n)))
    free_alike part n _ _ no_vars used = declared_alike n (entity_of t n) (entity_of u n) part (used refl)
    free_alike part n _ _ (a_var {v = v} {w = w} {vs = vs} {ws = ws} e o q h rest) used =
        subst (λ b. AlikeTerm (meaning_term in_old c (free_meaning (scope_here part [] []) n (var_of (v ∷ vs) n))) (meaning_term in_old d (free_meaning (scope_there part [] []) n (cond b (Some w) (var_of ws n))))) (sym (ap (λ m. bytes_eq m n) e))
        (by (bytes_eq v.name n) refl (λ f. free_alike part n vs ws rest (λ g. used ((λ i. not_equal n v.name f i || is_among (map (λ (x : Var). x.name) vs) n) ∙ g))))
      where
        by : (b : Bool) → bytes_eq v.name n ≡ b
            → (bytes_eq v.name n ≡ false → AlikeTerm (meaning_term in_old c (free_meaning (scope_here part [] []) n (var_of vs n))) (meaning_term in_old d (free_meaning (scope_there part [] []) n (var_of ws n))))
            → AlikeTerm (meaning_term in_old c (free_meaning (scope_here part [] []) n (cond b (Some v) (var_of vs n)))) (meaning_term in_old d (free_meaning (scope_there part [] []) n (cond b (Some w) (var_of ws n))))
        by true f deeper = var_alike v w o q h part
        by false f deeper = deeper f

    bound_alike : (n : Text) (m p : Meaning) (k : ℕ) (bs cs : List BoundVar) → SameBounds bs cs → (is_among (bound_names bs) n ≡ false → AlikeTerm (meaning_term in_old c m) (meaning_term in_old d p))
        → AlikeTerm (meaning_term in_old c (bound_meaning k bs n m)) (meaning_term in_old d (bound_meaning k cs n p))
    bound_alike n m p k [] [] e used = used refl
    bound_alike n m p k [] (x ∷ cs) e used = absurd (cc)
    bound_alike n m p k (b ∷ bs) [] e used = absurd (cc)
    bound_alike n m p k (b ∷ bs) (x ∷ cs) e used =
        let first : x.name ≡ b.name = cc in
        let rest : SameBounds bs cs = cc in
        subst (λ o. AlikeTerm (meaning_term in_old c (bound_meaning k (b ∷ bs) n m)) (meaning_term in_old d (elim (has_name n o) [ true ↦ bound_to k x.sort | false ↦ bound_meaning (k + 1) cs n p ]))) (sym first)
        (by b.name (λ g. bound_alike n m p (k + 1) bs cs rest g) used)
      where
        by : (o : Option Text) → ((is_among (bound_names bs) n ≡ false → AlikeTerm (meaning_term in_old c m) (meaning_term in_old d p)) → AlikeTerm (meaning_term in_old c (bound_meaning (k + 1) bs n m)) (meaning_term in_old d (bound_meaning (k + 1) cs n p)))
            → (is_among (elim o [ None ↦ bound_names bs | Some l ↦ l ∷ bound_names bs ]) n ≡ false → AlikeTerm (meaning_term in_old c m) (meaning_term in_old d p))
            → AlikeTerm (meaning_term in_old c (elim (has_name n o) [ true ↦ bound_to k b.sort | false ↦ bound_meaning (k + 1) bs n m ])) (meaning_term in_old d (elim (has_name n o) [ true ↦ bound_to k x.sort | false ↦ bound_meaning (k + 1) cs n p ]))
        by None deeper given = deeper given
        by (Some l) deeper given = test (bytes_eq n l) refl
          where
            test : (a : Bool) → bytes_eq n l ≡ a → AlikeTerm (meaning_term in_old c (elim a [ true ↦ bound_to k b.sort | false ↦ bound_meaning (k + 1) bs n m ])) (meaning_term in_old d (elim a [ true ↦ bound_to k x.sort | false ↦ bound_meaning (k + 1) cs n p ]))
            test true f = record { same = refl; covered = tt }
            test false f = deeper (λ g. given ((λ i. f i || is_among (bound_names bs) n) ∙ g))

    -- a name in an expression, which is used where no variable hides it
    pub name_alike : (part : Part) (vs ws : List Var) → AlikeVars vs ws → (bs cs : List BoundVar) → SameBounds bs cs → (n : Text)
        → (is_among (hidden_in (scope_here part vs bs)) n ≡ false → AlikeEntity n (entity_of t n) (entity_of u n))
        → AlikeTerm (meaning_term in_old c (meaning (scope_here part vs bs) n)) (meaning_term in_old d (meaning (scope_there part ws cs) n))
    unfolding meaning
    name_alike part vs ws a bs cs e n used =
        bound_alike n (free_meaning (scope_here part [] []) n (var_of vs n)) (free_meaning (scope_there part [] []) n (var_of ws n)) 0 bs cs e
        (λ f. free_alike part n vs ws a (λ g. used (among_two n (bound_names bs) (map (λ (v : Var). v.name) vs) f g)))

  -- a name that is applied is hidden by no variable, and stands for a function
  unless_heading : (x : Entity) (g : Heading) → applied_heading (unless_other x) ≡ Some g → applied_heading (declared_as x) ≡ Some g
  unless_heading (a_constant k x) g e = e
  unless_heading (a_global k x) g e = e
  unless_heading (a_function h) g e = e
  unless_heading (a_synonym x) g e = absurd (cc)
  unless_heading (a_procedure k x) g e = absurd (cc)

  entity_heading : (part : Part) (x : Entity) (g : Heading) → applied_heading (entity_in part x) ≡ Some g → applied_heading (declared_as x) ≡ Some g
  entity_heading in_axiom x g e = e
  entity_heading in_function x g e = e
  entity_heading in_requires x g e = e
  entity_heading in_ensures x g e = e
  entity_heading in_body x g e = e
  entity_heading in_clause_of_global x g e = unless_heading x g e
  entity_heading in_clause_of_in x g e = unless_heading x g e
  entity_heading in_clause_of_out x g e = unless_heading x g e
  entity_heading in_clause_of_local x g e = e

  role_heading : (v : Var) (r : Role) → applied_heading (elim r [ in_parameter ↦ stands_for v | out_parameter ↦ nothing | local_variable ↦ stands_for v ]) ≡ None
  role_heading v in_parameter = refl
  role_heading v out_parameter = refl
  role_heading v local_variable = refl

  var_heading : (part : Part) (v : Var) → applied_heading (var_in part v) ≡ None
  var_heading in_requires v = role_heading v v.role
  var_heading in_clause_of_in v = role_heading v v.role
  var_heading in_axiom v = refl
  var_heading in_function v = refl
  var_heading in_ensures v = refl
  var_heading in_body v = refl
  var_heading in_clause_of_global v = refl
  var_heading in_clause_of_out v = refl
  var_heading in_clause_of_local v = refl

  abbrev AlikeFunction : Text → Type 0
  AlikeFunction n = (new_def (function_number t n) ≡ function_number u n) × D (function_number t n)

  declared_function : (n : Text) (o p : Option Entity) (part : Part) (g : Heading) → AlikeEntity n o p → applied_heading (declared_meaning part o) ≡ Some g → AlikeFunction n
  declared_function n _ _ part g undeclared e = absurd (cc)
  declared_function n _ _ part g (constants {k = k} {x = x} a b) e = let f = entity_heading part (a_constant k x) g e in absurd (cc)
  declared_function n _ _ part g (globals {k = k} {x = x} a b a' b') e = let f = entity_heading part (a_global k x) g e in absurd (cc)
  declared_function n _ _ part g (functions a b) e = (a, b)
  declared_function n _ _ part g (synonyms {x = x}) e = let f = entity_heading part (a_synonym x) g e in absurd (cc)
  declared_function n _ _ part g (procedures {k = k} {f = x}) e = let f = entity_heading part (a_procedure k x) g e in absurd (cc)

  free_function : (part : Part) (n : Text) (g : Heading) (vs : List Var) → (is_among (map (λ (v : Var). v.name) vs) n ≡ false → AlikeEntity n (entity_of t n) (entity_of u n))
      → applied_heading (free_meaning (scope_here part [] []) n (var_of vs n)) ≡ Some g → AlikeFunction n
  free_function part n g [] used e = declared_function n (entity_of t n) (entity_of u n) part g (used refl) e
  free_function part n g (v ∷ vs) used e = by (bytes_eq v.name n) refl e (λ q k. free_function part n g vs (λ j. used ((λ i. not_equal n v.name q i || is_among (map (λ (x : Var). x.name) vs) n) ∙ j)) k)
    where
      by : (b : Bool) → bytes_eq v.name n ≡ b → applied_heading (free_meaning (scope_here part [] []) n (cond b (Some v) (var_of vs n))) ≡ Some g
          → (bytes_eq v.name n ≡ false → applied_heading (free_meaning (scope_here part [] []) n (var_of vs n)) ≡ Some g → AlikeFunction n) → AlikeFunction n
      by true q k rest = let none = var_heading part v in absurd (cc)
      by false q k rest = rest q k

  bound_function : (n : Text) (m : Meaning) (g : Heading) (k : ℕ) (bs : List BoundVar) → (is_among (bound_names bs) n ≡ false → applied_heading m ≡ Some g → AlikeFunction n) → applied_heading (bound_meaning k bs n m) ≡ Some g → AlikeFunction n
  bound_function n m g k [] used e = used refl e
  bound_function n m g k (b ∷ bs) used e = by b.name used e (λ given j. bound_function n m g (k + 1) bs given j)
    where
      by : (o : Option Text) → (is_among (elim o [ None ↦ bound_names bs | Some l ↦ l ∷ bound_names bs ]) n ≡ false → applied_heading m ≡ Some g → AlikeFunction n)
          → applied_heading (elim (has_name n o) [ true ↦ bound_to k b.sort | false ↦ bound_meaning (k + 1) bs n m ]) ≡ Some g
          → ((is_among (bound_names bs) n ≡ false → applied_heading m ≡ Some g → AlikeFunction n) → applied_heading (bound_meaning (k + 1) bs n m) ≡ Some g → AlikeFunction n) → AlikeFunction n
      by None given j rest = rest given j
      by (Some l) given j rest = test (bytes_eq n l) refl j
        where
          test : (a : Bool) → bytes_eq n l ≡ a → applied_heading (elim a [ true ↦ bound_to k b.sort | false ↦ bound_meaning (k + 1) bs n m ]) ≡ Some g → AlikeFunction n
          test true q i = absurd (cc)
          test false q i = rest (λ r. given ((λ x. q x || is_among (bound_names bs) n) ∙ r)) i

  pub function_alike : (part : Part) (vs : List Var) (bs : List BoundVar) (n : Text) (g : Heading) → (is_among (hidden_in (scope_here part vs bs)) n ≡ false → AlikeEntity n (entity_of t n) (entity_of u n))
      → applied_heading (meaning (scope_here part vs bs) n) ≡ Some g → AlikeFunction n
  unfolding meaning
  function_alike part vs bs n g used e =
      bound_function n (free_meaning (scope_here part [] []) n (var_of vs n)) g 0 bs (λ f k. free_function part n g vs (λ j. used (among_two n (bound_names bs) (map (λ (v : Var). v.name) vs) f j)) k) e

  -- a name that stands for what is declared is hidden by no variable
  abbrev pub IsDeclared : Meaning → Type 0
  IsDeclared (bound_to i k) = ⊥
  IsDeclared (stands_for v) = ⊥
  IsDeclared (declared_as x) = Unit {0}
  IsDeclared nothing = ⊥

  role_undeclared : (v : Var) (r : Role) → IsDeclared (elim r [ in_parameter ↦ stands_for v | out_parameter ↦ nothing | local_variable ↦ stands_for v ]) → ⊥
  role_undeclared v in_parameter e = e
  role_undeclared v out_parameter e = e
  role_undeclared v local_variable e = e

  var_undeclared : (part : Part) (v : Var) → IsDeclared (var_in part v) → ⊥
  var_undeclared in_requires v e = role_undeclared v v.role e
  var_undeclared in_clause_of_in v e = role_undeclared v v.role e
  var_undeclared in_axiom v e = e
  var_undeclared in_function v e = e
  var_undeclared in_ensures v e = e
  var_undeclared in_body v e = e
  var_undeclared in_clause_of_global v e = e
  var_undeclared in_clause_of_out v e = e
  var_undeclared in_clause_of_local v e = e

  free_unhidden : (part : Part) (n : Text) (vs : List Var) → IsDeclared (free_meaning (scope_here part [] []) n (var_of vs n)) → is_among (map (λ (v : Var). v.name) vs) n ≡ false
  free_unhidden part n [] e = refl
  free_unhidden part n (v ∷ vs) e = by (bytes_eq v.name n) refl e (free_unhidden part n vs)
    where
      by : (b : Bool) → bytes_eq v.name n ≡ b → IsDeclared (free_meaning (scope_here part [] []) n (cond b (Some v) (var_of vs n)))
          → (IsDeclared (free_meaning (scope_here part [] []) n (var_of vs n)) → is_among (map (λ (x : Var). x.name) vs) n ≡ false) → (bytes_eq n v.name || is_among (map (λ (x : Var). x.name) vs) n) ≡ false
      by true q k rest = absurd (var_undeclared part v k)
      by false q k rest = (λ i. not_equal n v.name q i || is_among (map (λ (x : Var). x.name) vs) n) ∙ rest k

  bound_unhidden : (n : Text) (m : Meaning) (k : ℕ) (bs : List BoundVar) → IsDeclared (bound_meaning k bs n m) → (is_among (bound_names bs) n ≡ false) × IsDeclared m
  bound_unhidden n m k [] e = (refl, e)
  bound_unhidden n m k (b ∷ bs) e = by b.name e (bound_unhidden n m (k + 1) bs)
    where
      by : (o : Option Text) → IsDeclared (elim (has_name n o) [ true ↦ bound_to k b.sort | false ↦ bound_meaning (k + 1) bs n m ]) → (IsDeclared (bound_meaning (k + 1) bs n m) → (is_among (bound_names bs) n ≡ false) × IsDeclared m)
          → (is_among (elim o [ None ↦ bound_names bs | Some l ↦ l ∷ bound_names bs ]) n ≡ false) × IsDeclared m
      by None j rest = rest j
      by (Some l) j rest = test (bytes_eq n l) refl j
        where
          test : (a : Bool) → bytes_eq n l ≡ a → IsDeclared (elim a [ true ↦ bound_to k b.sort | false ↦ bound_meaning (k + 1) bs n m ]) → ((bytes_eq n l || is_among (bound_names bs) n) ≡ false) × IsDeclared m
          test true q i = absurd i
          test false q i = let r = rest i in ((λ x. q x || is_among (bound_names bs) n) ∙ r.0, r.1)

  pub unhidden : (part : Part) (vs : List Var) (bs : List BoundVar) (n : Text) → IsDeclared (meaning (scope_here part vs bs) n) → is_among (hidden_in (scope_here part vs bs)) n ≡ false
  unfolding meaning
  unhidden part vs bs n e =
      let r = bound_unhidden n (free_meaning (scope_here part [] []) n (var_of vs n)) 0 bs e in
      among_two n (bound_names bs) (map (λ (v : Var). v.name) vs) r.0 (free_unhidden part n vs r.1)

  -- types over used names
  module _ (hidden : List Text) where
    name_sort : (n : Text) → (is_among hidden n ≡ false → Used n) → ((m : Text) → Used m → AlikeName m) → unless_hidden (is_among hidden n) (synonym_sort u (length u) n) ≡ unless_hidden (is_among hidden n) (synonym_sort t (length t) n)
    name_sort n used all = by (is_among hidden n) refl
      where
        by : (b : Bool) → is_among hidden n ≡ b → unless_hidden b (synonym_sort u (length u) n) ≡ unless_hidden b (synonym_sort t (length t) n)
        by true e = refl
        by false e = (all n (used e)).sort

    -- a name is used where no variable hides it
    abbrev pub UsedIn : List Text → Type 0
    UsedIn ns = AllByRecursion (λ n. is_among hidden n ≡ false → Used n) ns

    abbrev sorts_here : Text → Option Kind
    sorts_here n = unless_hidden (is_among hidden n) (synonym_sort t (length t) n)

    abbrev sorts_there : Text → Option Kind
    sorts_there n = unless_hidden (is_among hidden n) (synonym_sort u (length u) n)

    used_first : (xs ys : List Text) → UsedIn (xs ++ ys) → UsedIn xs
    used_first [] ys h = tt
    used_first (x ∷ xs) ys h = (h.0, used_first xs ys h.1)

    used_second : (xs ys : List Text) → UsedIn (xs ++ ys) → UsedIn ys
    used_second [] ys h = h
    used_second (x ∷ xs) ys h = used_second xs ys h.1

    module _ (all : (m : Text) → Used m → AlikeName m) where
      mutual
        type_alike : (x : Ty) → UsedIn (names_in_type x) → sort_by sorts_there x ≡ sort_by sorts_here x
        type_alike (integer p) h = refl
        type_alike (truth_type p) h = refl
        type_alike (named p n) h = name_sort n.text h.0 all
        type_alike (map_type p ps ds r) h = λ i. map_sort ps (types_alike ds (used_first (names_in_types ds) (names_in_type r) h) i) (type_alike r (used_second (names_in_types ds) (names_in_type r) h) i)

        types_alike : (xs : Tys) → UsedIn (names_in_types xs) → sorts_by sorts_there xs ≡ sorts_by sorts_here xs
        types_alike no_tys h = refl
        types_alike (ty x xs) h = λ i. type_alike x (used_first (names_in_type x) (names_in_types xs) h) i ∷ types_alike xs (used_second (names_in_type x) (names_in_types xs) h) i

      pub sort_alike : (x : Ty) → UsedIn (names_in_type x) → sort_of_type u hidden x ≡ sort_of_type t hidden x
      unfolding sort_of_type
      sort_alike x h = type_alike x h
