-- The scopes of the erased declarations and of those told apart are alike, over lists that have the types of names at their numbers.
use Rattle.std.proofs.Common.{◌≡◌, ◌∙◌, refl, sym, ap, subst, inl, inr, ℕ, suc, ◌+◌, arith, Bool, true, false, cond, bytes_eq, Option, Some, None, List, [], ◌∷◌, map, slice_get}
use Rattle.std.specs.Prelude.{⊤}
use Rattle.std.specs.List.{AllByRecursion}
use Rattle.logic_core.specs.Tree.{Kind}
use Rattle.logic_core.specs.Wide.{when}
use Rattle.bpl_ast.specs.Place.{Ty as Written}
use Rattle.bpl_ast.specs.Statement.{Argument, Decl}
use Rattle.bpl_scopes.specs.declared.part.Part.{Part}
use Rattle.bpl_scopes.specs.declared.part.Part.TheVariants.{Axiom as in_axiom, Function as in_function, Requires as in_requires, Ensures as in_ensures, Body as in_body, ClauseOfGlobal as in_clause_of_global, ClauseOfIn as in_clause_of_in, ClauseOfOut as in_clause_of_out, ClauseOfLocal as in_clause_of_local}
use Rattle.bpl_scopes.specs.declared.part.Role.{Role}
use Rattle.bpl_scopes.specs.declared.part.Role.TheVariants.{In as in_parameter, Out as out_parameter, Local as local_variable}
use Rattle.bpl_scopes.specs.Scopes.{Text, Heading, Contract, Entity, a_constant, a_global, a_function, a_synonym, a_procedure, Table, table_of, Counts, no_counts, counts_after, entity_of, Var, BoundVar, Scope, Meaning, stands_for, declared_as, nothing, meaning, free_meaning, var_of, var_in, entity_in, declared_meaning}
use Rattle.bpl_scopes.specs.Sorts.{sort_of_type, argument_sorts, reads_globals, sort_of_meaning, applied_heading}
use Rattle.bpl_scopes.specs.Functions.{is_function, function_in, in_number_order, position_of, function_number}
use Rattle.bpl_declaration_faults.specs.DeclFaults.{fault_of}
use Rattle.bpl_terms.specs.Terms.{global_at, meaning_term}
use Rattle.bpl_resolve.proofs.Ways.{Member, text_itself, same_text}
use Rattle.bpl_resolve.proofs.EntriesFine.{synonyms_fine}
use Rattle.bpl_resolve.proofs.FunctionOrder.{order_has}
use Rattle.bpl_resolve.proofs.ModuleSorts.{fine, acyclic, slice_left, slice_right}
use Rattle.bpl_resolve.proofs.ScopesKnown.{name_has, var_in_has, any_bounds}
use Rattle.bpl_sorts.specs.Types.{Ty, Head}
use Rattle.bpl_sorts.specs.Typed.{HasType}
use Rattle.bpl_sorts.specs.TypeNames.{number_of, type_of}
use Rattle.user_types.specs.Erased.{as_integers, erased, maps_over, told_apart}
use Rattle.bpl_sorts.specs.DeclaredTypes.{head_of, declared_types}
use Rattle.bpl_sorts.specs.TypedModule.{with_own}
use Rattle.bpl_sorts.specs.Readings.{Fits, Has, EachFits, IsHead, Alike}
use Rattle.bpl_sorts.proofs.ReadTypes.{Found, found, erased_reads, apart_reads, types_fit}
use Rattle.bpl_sorts.proofs.NumberedTypes.{types_numbered, constants_long, globals_long}

-- what has no sort in the first reading
no_first : (o p : Option Kind) (P : Ty → Type 0) → o ≡ None → Has o p P
no_first o p P e j k f g = let bad : None ≡ Some j = sym e ∙ f in absurd (cc)

-- a name stands for its declaration, where that is a variable, and else has no sort
as_constant : (w : Part) (k : ℕ) (s : Written) → entity_in w (a_constant k s) ≡ declared_as (a_constant k s)
as_constant in_axiom k s = refl
as_constant in_function k s = refl
as_constant in_requires k s = refl
as_constant in_ensures k s = refl
as_constant in_body k s = refl
as_constant in_clause_of_global k s = refl
as_constant in_clause_of_in k s = refl
as_constant in_clause_of_out k s = refl
as_constant in_clause_of_local k s = refl

as_global : (w : Part) (k : ℕ) (s : Written) → entity_in w (a_global k s) ≡ declared_as (a_global k s)
as_global in_axiom k s = refl
as_global in_function k s = refl
as_global in_requires k s = refl
as_global in_ensures k s = refl
as_global in_body k s = refl
as_global in_clause_of_global k s = refl
as_global in_clause_of_in k s = refl
as_global in_clause_of_out k s = refl
as_global in_clause_of_local k s = refl

function_unsorted : (s : Scope) (w : Part) (h : Heading) → sort_of_meaning s (entity_in w (a_function h)) ≡ None
function_unsorted s in_axiom h = refl
function_unsorted s in_function h = refl
function_unsorted s in_requires h = refl
function_unsorted s in_ensures h = refl
function_unsorted s in_body h = refl
function_unsorted s in_clause_of_global h = refl
function_unsorted s in_clause_of_in h = refl
function_unsorted s in_clause_of_out h = refl
function_unsorted s in_clause_of_local h = refl

synonym_unsorted : (s : Scope) (w : Part) (r : Option Written) → sort_of_meaning s (entity_in w (a_synonym r)) ≡ None
synonym_unsorted s in_axiom r = refl
synonym_unsorted s in_function r = refl
synonym_unsorted s in_requires r = refl
synonym_unsorted s in_ensures r = refl
synonym_unsorted s in_body r = refl
synonym_unsorted s in_clause_of_global r = refl
synonym_unsorted s in_clause_of_in r = refl
synonym_unsorted s in_clause_of_out r = refl
synonym_unsorted s in_clause_of_local r = refl

procedure_unsorted : (s : Scope) (w : Part) (k : ℕ) (c : Contract) → sort_of_meaning s (entity_in w (a_procedure k c)) ≡ None
procedure_unsorted s in_axiom k c = refl
procedure_unsorted s in_function k c = refl
procedure_unsorted s in_requires k c = refl
procedure_unsorted s in_ensures k c = refl
procedure_unsorted s in_body k c = refl
procedure_unsorted s in_clause_of_global k c = refl
procedure_unsorted s in_clause_of_in k c = refl
procedure_unsorted s in_clause_of_out k c = refl
procedure_unsorted s in_clause_of_local k c = refl

-- a variable in both readings: one name, role and number, and the sorts of the type at its number
pub record IsVar (types : List Ty) (v u : Var) : Type 0 where
  pub name : v.name ≡ u.name
  pub role : v.role ≡ u.role
  pub type : Ty
  pub there : slice_get types v.number ≡ Some type
  pub fits : Fits v.sort u.sort type

abbrev pub VarsAlike : List Ty → List Var → List Var → Type 0
VarsAlike types [] [] = ⊤
VarsAlike types (v ∷ vs) (u ∷ us) = IsVar types v u × VarsAlike types vs us
VarsAlike types vs us = ⊥

-- a list over names has each at the position of its name
placed : {A : Type 0} (f : Text → A) (ns : List Text) (n : Text) → Member n ns → slice_get (map f ns) (position_of ns n) ≡ Some (f n)
placed f [] n i = absurd i
placed f (m ∷ ns) n i = by (bytes_eq m n) refl i (λ j. placed f ns n j)
  where
    by : (r : Bool) → bytes_eq m n ≡ r → Member n (m ∷ ns) → (Member n ns → slice_get (map f ns) (position_of ns n) ≡ Some (f n))
        → slice_get (f m ∷ map f ns) (elim r [ true ↦ 0 | false ↦ position_of ns n + 1 ]) ≡ Some (f n)
    by true z j later = ap (λ w. Some (f w)) (same_text m n z)
    by false z (inl u) later = let bad : true ≡ false = sym (subst (λ w. bytes_eq w n ≡ true) u (text_itself n)) ∙ z in absurd (cc)
    by false z (inr j) later = let u : position_of ns n + 1 ≡ suc (position_of ns n) = omega arith in
        subst (λ w. slice_get (f m ∷ map f ns) w ≡ Some (f n)) (sym u) (later j)

module _ (ds : List Decl) where
  abbrev pub E : List Decl
  E = erased ds

  abbrev pub A : List Decl
  A = told_apart ds

  abbrev pub TE : Table
  TE = table_of E

  abbrev pub TA : Table
  TA = table_of A

  abbrev pub CE : Counts
  CE = counts_after no_counts E

  abbrev pub hs : List Head
  hs = (declared_types ds).functions

  -- what a name is declared as in both readings
  pub in_erased : (n : Text) → Found as_integers (0 + number_of (table_of ds) n) (entity_of (table_of ds) n) (entity_of TE n)
  in_erased n = found as_integers 0 (table_of ds) TE n (erased_reads ds)

  pub in_apart : (n : Text) → Found maps_over (0 + number_of (table_of ds) n) (entity_of (table_of ds) n) (entity_of TA n)
  in_apart n = found maps_over 0 (table_of ds) TA n (apart_reads ds)

  -- the list has the types of constants and globals at their numbers
  pub record TypesAt (types : List Ty) (w : Part) : Type 0 where
    pub constants : (n : Text) (k : ℕ) (s : Written) → entity_of TE n ≡ Some (a_constant k s) → slice_get types k ≡ Some (type_of ds s)
    pub globals : reads_globals w ≡ true → (n : Text) (k : ℕ) (s : Written) → entity_of TE n ≡ Some (a_global k s) → (in_old : Bool) → slice_get types (global_at in_old CE k) ≡ Some (type_of ds s)

  pub constants_at : (w : Part) → reads_globals w ≡ false → TypesAt (declared_types ds).consts w
  constants_at w r = record { constants = λ n k s e. types_numbered ds n (a_constant k s) e; globals = λ q n k s e o. let bad : true ≡ false = sym q ∙ r in absurd (cc) }

  global_is_at : (own : List Ty) (k : ℕ) (a : Ty) → slice_get (declared_types ds).globals k ≡ Some a → (in_old : Bool) → slice_get (with_own (declared_types ds) own) (global_at in_old CE k) ≡ Some a
  global_is_at own k a h false = slice_right (declared_types ds).consts _ CE.constants k (constants_long ds) ∙ slice_left (declared_types ds).globals _ k a h
  global_is_at own k a h true = slice_right (declared_types ds).consts _ CE.constants (CE.globals + k) (constants_long ds)
      ∙ (slice_right (declared_types ds).globals _ CE.globals k (globals_long ds) ∙ slice_left (declared_types ds).globals own k a h)

  pub all_at : (own : List Ty) (w : Part) → TypesAt (with_own (declared_types ds) own) w
  all_at own w = record {
    constants = λ n k s e. slice_left (declared_types ds).consts _ k _ (types_numbered ds n (a_constant k s) e);
    globals = λ q n k s e o. global_is_at own k _ (types_numbered ds n (a_global k s) e) o;
  }

  module _ (none : fault_of E ≡ None) where
    -- ---- functions

    function_there : (n : Text) (h : Heading) → entity_of TE n ≡ Some (a_function h) → slice_get hs (function_number TE n) ≡ Some (head_of (table_of ds) (Some h))
    unfolding function_number
    function_there n h e = placed (λ m. head_of (table_of ds) (function_in (entity_of TE m))) (in_number_order TE) n (order_has TE (synonyms_fine TE CE (fine E none)) (acyclic E none) n (ap is_function e))
        ∙ ap (λ w. Some (head_of (table_of ds) (function_in w))) e

    arguments_fit : (ins : List Argument) → EachFits (argument_sorts TE ins) (argument_sorts TA ins) (map (λ (a : Argument). type_of ds a.type) ins)
    arguments_fit [] = tt
    arguments_fit (a ∷ ins) = (types_fit ds [] [] a.type, arguments_fit ins)

    same_entity : (n : Text) (h j : Heading) → (r x y : Option Entity) → entity_of (table_of ds) n ≡ r → Found as_integers (0 + number_of (table_of ds) n) r x → Found maps_over (0 + number_of (table_of ds) n) r y
        → x ≡ Some (a_function h) → y ≡ Some (a_function j) → h ≡ j
    same_entity n h j None x y q f g e i = let bad : None ≡ Some (a_function h) = sym f ∙ e in absurd (cc)
    same_entity n h j (Some (a_function r)) x y q f g e i =
        let u : Some (a_function r) ≡ Some (a_function h) = sym (f.1 ∙ ap Some f.2) ∙ e in
        let v : Some (a_function r) ≡ Some (a_function j) = sym (g.1 ∙ ap Some g.2) ∙ i in
        cc
    same_entity n h j (Some (a_constant k r)) x y q f g e i = let bad : Some (a_constant k r) ≡ Some (a_function h) = sym (f.1 ∙ ap Some f.2) ∙ e in absurd (cc)
    same_entity n h j (Some (a_global k r)) x y q f g e i = let bad : Some (a_global k r) ≡ Some (a_function h) = sym (f.1 ∙ ap Some f.2) ∙ e in absurd (cc)
    same_entity n h j (Some (a_synonym None)) x y q f g e i = let bad = sym (f.1 ∙ ap Some (f.2).is) ∙ e in absurd (cc)
    same_entity n h j (Some (a_synonym (Some r))) x y q f g e i = let bad : Some (a_synonym (Some r)) ≡ Some (a_function h) = sym (f.1 ∙ ap Some f.2) ∙ e in absurd (cc)
    same_entity n h j (Some (a_procedure k r)) x y q f g e i = let bad : Some (a_procedure k r) ≡ Some (a_function h) = sym (f.1 ∙ ap Some f.2) ∙ e in absurd (cc)

    one_head : (n : Text) (h j : Heading) → entity_of TE n ≡ Some (a_function h) → entity_of TA n ≡ Some (a_function j) → (types : List Ty) → IsHead types hs (type_of ds) TE TA n h j
    one_head n h j e i types =
        let q : h ≡ j = same_entity n h j (entity_of (table_of ds) n) (entity_of TE n) (entity_of TA n) refl (in_erased n) (in_apart n) e i in
        subst (λ w. IsHead types hs (type_of ds) TE TA n h w) q
        (record { head = head_of (table_of ds) (Some h); there = function_there n h e; arguments = arguments_fit h.ins; result = types_fit ds [] [] h.result })

  -- a procedure in both readings
  pub same_procedure : (n : Text) (k j : ℕ) (d c : Contract) → entity_of TE n ≡ Some (a_procedure k d) → entity_of TA n ≡ Some (a_procedure j c) → d ≡ c
  same_procedure n k j d c e i = by (entity_of (table_of ds) n) (in_erased n) (in_apart n)
    where
      by : (r : Option Entity) → Found as_integers (0 + number_of (table_of ds) n) r (entity_of TE n) → Found maps_over (0 + number_of (table_of ds) n) r (entity_of TA n) → d ≡ c
      by None f g = let bad : None ≡ Some (a_procedure k d) = sym f ∙ e in absurd (cc)
      by (Some (a_procedure l r)) f g =
          let u : Some (a_procedure l r) ≡ Some (a_procedure k d) = sym (f.1 ∙ ap Some f.2) ∙ e in
          let v : Some (a_procedure l r) ≡ Some (a_procedure j c) = sym (g.1 ∙ ap Some g.2) ∙ i in
          cc
      by (Some (a_constant l r)) f g = let bad : Some (a_constant l r) ≡ Some (a_procedure k d) = sym (f.1 ∙ ap Some f.2) ∙ e in absurd (cc)
      by (Some (a_global l r)) f g = let bad : Some (a_global l r) ≡ Some (a_procedure k d) = sym (f.1 ∙ ap Some f.2) ∙ e in absurd (cc)
      by (Some (a_function r)) f g = let bad : Some (a_function r) ≡ Some (a_procedure k d) = sym (f.1 ∙ ap Some f.2) ∙ e in absurd (cc)
      by (Some (a_synonym None)) f g = let bad = sym (f.1 ∙ ap Some (f.2).is) ∙ e in absurd (cc)
      by (Some (a_synonym (Some r))) f g = let bad : Some (a_synonym (Some r)) ≡ Some (a_procedure k d) = sym (f.1 ∙ ap Some f.2) ∙ e in absurd (cc)

  pub procedure_too : (n : Text) (k : ℕ) (d : Contract) → entity_of TE n ≡ Some (a_procedure k d) → entity_of TA n ≡ Some (a_procedure k d)
  procedure_too n k d e = by (entity_of (table_of ds) n) (in_erased n) (in_apart n)
    where
      by : (r : Option Entity) → Found as_integers (0 + number_of (table_of ds) n) r (entity_of TE n) → Found maps_over (0 + number_of (table_of ds) n) r (entity_of TA n) → entity_of TA n ≡ Some (a_procedure k d)
      by None f g = let bad : None ≡ Some (a_procedure k d) = sym f ∙ e in absurd (cc)
      by (Some (a_procedure l r)) f g = g.1 ∙ ap Some g.2 ∙ (sym (f.1 ∙ ap Some f.2) ∙ e)
      by (Some (a_constant l r)) f g = let bad : Some (a_constant l r) ≡ Some (a_procedure k d) = sym (f.1 ∙ ap Some f.2) ∙ e in absurd (cc)
      by (Some (a_global l r)) f g = let bad : Some (a_global l r) ≡ Some (a_procedure k d) = sym (f.1 ∙ ap Some f.2) ∙ e in absurd (cc)
      by (Some (a_function r)) f g = let bad : Some (a_function r) ≡ Some (a_procedure k d) = sym (f.1 ∙ ap Some f.2) ∙ e in absurd (cc)
      by (Some (a_synonym None)) f g = let bad = sym (f.1 ∙ ap Some (f.2).is) ∙ e in absurd (cc)
      by (Some (a_synonym (Some r))) f g = let bad : Some (a_synonym (Some r)) ≡ Some (a_procedure k d) = sym (f.1 ∙ ap Some f.2) ∙ e in absurd (cc)

  pub function_too : (n : Text) (h : Heading) → entity_of TE n ≡ Some (a_function h) → entity_of TA n ≡ Some (a_function h)
  function_too n h e = by (entity_of (table_of ds) n) (in_erased n) (in_apart n)
    where
      by : (r : Option Entity) → Found as_integers (0 + number_of (table_of ds) n) r (entity_of TE n) → Found maps_over (0 + number_of (table_of ds) n) r (entity_of TA n) → entity_of TA n ≡ Some (a_function h)
      by None f g = let bad : None ≡ Some (a_function h) = sym f ∙ e in absurd (cc)
      by (Some (a_function r)) f g = g.1 ∙ ap Some g.2 ∙ (sym (f.1 ∙ ap Some f.2) ∙ e)
      by (Some (a_constant l r)) f g = let bad : Some (a_constant l r) ≡ Some (a_function h) = sym (f.1 ∙ ap Some f.2) ∙ e in absurd (cc)
      by (Some (a_global l r)) f g = let bad : Some (a_global l r) ≡ Some (a_function h) = sym (f.1 ∙ ap Some f.2) ∙ e in absurd (cc)
      by (Some (a_procedure l r)) f g = let bad : Some (a_procedure l r) ≡ Some (a_function h) = sym (f.1 ∙ ap Some f.2) ∙ e in absurd (cc)
      by (Some (a_synonym None)) f g = let bad = sym (f.1 ∙ ap Some (f.2).is) ∙ e in absurd (cc)
      by (Some (a_synonym (Some r))) f g = let bad : Some (a_synonym (Some r)) ≡ Some (a_function h) = sym (f.1 ∙ ap Some f.2) ∙ e in absurd (cc)

  -- a name that stands for a declaration has it
  abbrev Declares : Table → Text → Meaning → Type 0
  Declares t n m = (e : Entity) → m ≡ declared_as e → entity_of t n ≡ Some e

  entity_declares : (t : Table) (n : Text) (x : Entity) → entity_of t n ≡ Some x → Declares t n (declared_as x)
  entity_declares t n x q e h = let u : x ≡ e = cc in q ∙ ap Some u

  vars_declare : (t : Table) (n : Text) (w : Part) (vs : List Var) → AllByRecursion (λ (v : Var). Declares t n (var_in w v)) vs
  vars_declare t n w [] = tt
  vars_declare t n w (v ∷ vs) = (var_in_has (Declares t n) (λ e h. absurd (cc)) w v (λ e h. absurd (cc)), vars_declare t n w vs)

  pub declared_there : (s : Scope) (n : Text) (e : Entity) → meaning s n ≡ declared_as e → entity_of s.table n ≡ Some e
  declared_there s n e h = name_has (Declares s.table n) (λ e h. absurd (cc)) (λ o. ⊤) (λ j o i e h. absurd (cc)) s n (entity_declares s.table n) (vars_declare s.table n s.part s.vars) (any_bounds s.bounds) e h

  -- a name that is applied is declared as that function
  abbrev Applies : Table → Text → Meaning → Type 0
  Applies t n m = (h : Heading) → applied_heading m ≡ Some h → entity_of t n ≡ Some (a_function h)

  entity_applies : (t : Table) (n : Text) (e : Entity) → entity_of t n ≡ Some e → Applies t n (declared_as e)
  entity_applies t n (a_function f) q h e = let u : f ≡ h = cc in q ∙ ap (λ w. Some (a_function w)) u
  entity_applies t n (a_constant k r) q h e = absurd (cc)
  entity_applies t n (a_global k r) q h e = absurd (cc)
  entity_applies t n (a_synonym r) q h e = absurd (cc)
  entity_applies t n (a_procedure k d) q h e = absurd (cc)

  vars_apply : (t : Table) (n : Text) (w : Part) (vs : List Var) → AllByRecursion (λ (v : Var). Applies t n (var_in w v)) vs
  vars_apply t n w [] = tt
  vars_apply t n w (v ∷ vs) = (var_in_has (Applies t n) (λ h e. absurd (cc)) w v (λ h e. absurd (cc)), vars_apply t n w vs)

  applied : (s : Scope) (n : Text) → Applies s.table n (meaning s n)
  applied s n = name_has (Applies s.table n) (λ h e. absurd (cc)) (λ o. ⊤) (λ j o i h e. absurd (cc)) s n (entity_applies s.table n) (vars_apply s.table n s.part s.vars) (any_bounds s.bounds)

  module _ (types : List Ty) (w : Part) (at : TypesAt types w) (d : Counts) (vs us : List Var) (bs cs : List BoundVar) where
    abbrev pub S : Scope
    S = record { table = TE; counts = CE; part = w; vars = vs; bounds = bs }

    abbrev pub U : Scope
    U = record { table = TA; counts = d; part = w; vars = us; bounds = cs }

    abbrev Stands : List Ty → Bool → Meaning → Meaning → Type 0
    Stands b o m n = Has (sort_of_meaning S m) (sort_of_meaning U n) (HasType types hs b (meaning_term o CE m))

    constant_stands : (b : List Ty) (o : Bool) (k : ℕ) (r : Written) → slice_get types k ≡ Some (type_of ds r) → Stands b o (declared_as (a_constant k r)) (declared_as (a_constant k r))
    constant_stands b o k r there i j e f = let q = types_fit ds [] [] r i j e f in (type_of ds r, q.0, q.1, there)

    global_stands : (reads : Bool) → reads_globals w ≡ reads → (b : List Ty) (o : Bool) (k : ℕ) (r : Written) → (reads_globals w ≡ true → slice_get types (global_at o CE k) ≡ Some (type_of ds r))
        → Has (when reads (sort_of_type TE [] r)) (when reads (sort_of_type TA [] r)) (λ y. slice_get types (global_at o CE k) ≡ Some y)
    global_stands true z b o k r there i j e f = let q = types_fit ds [] [] r i j e f in (type_of ds r, q.0, q.1, there z)
    global_stands false z b o k r there i j e f = absurd (cc)

    -- what is declared
    declared_stands : (b : List Ty) (o : Bool) (n : Text) (r : Option Entity) → Found as_integers (0 + number_of (table_of ds) n) r (entity_of TE n) → Found maps_over (0 + number_of (table_of ds) n) r (entity_of TA n)
        → Stands b o (declared_meaning w (entity_of TE n)) (declared_meaning w (entity_of TA n))
    declared_stands b o n None f g = no_first _ _ _ (ap (λ z. sort_of_meaning S (declared_meaning w z)) f)
    declared_stands b o n (Some (a_constant k r)) f g =
        let p = f.1 ∙ ap Some f.2 in
        subst (λ z. Stands b o (declared_meaning w z) (declared_meaning w (entity_of TA n))) (sym p) (subst (λ z. Stands b o (entity_in w (a_constant k r)) (declared_meaning w z)) (sym (g.1 ∙ ap Some g.2))
        (subst (λ m. Stands b o m m) (sym (as_constant w k r)) (constant_stands b o k r (at.constants n k r p))))
    declared_stands b o n (Some (a_global k r)) f g =
        let p = f.1 ∙ ap Some f.2 in
        subst (λ z. Stands b o (declared_meaning w z) (declared_meaning w (entity_of TA n))) (sym p) (subst (λ z. Stands b o (entity_in w (a_global k r)) (declared_meaning w z)) (sym (g.1 ∙ ap Some g.2))
        (subst (λ m. Stands b o m m) (sym (as_global w k r)) (global_stands (reads_globals w) refl b o k r (λ z. at.globals z n k r p o))))
    declared_stands b o n (Some (a_function h)) f g = no_first _ _ _ (ap (λ z. sort_of_meaning S (declared_meaning w z)) (f.1 ∙ ap Some f.2) ∙ function_unsorted S w h)
    declared_stands b o n (Some (a_synonym None)) f g = no_first _ _ _ (ap (λ z. sort_of_meaning S (declared_meaning w z)) (f.1 ∙ ap Some (f.2).is) ∙ synonym_unsorted S w _)
    declared_stands b o n (Some (a_synonym (Some r))) f g = no_first _ _ _ (ap (λ z. sort_of_meaning S (declared_meaning w z)) (f.1 ∙ ap Some f.2) ∙ synonym_unsorted S w _)
    declared_stands b o n (Some (a_procedure k c)) f g = no_first _ _ _ (ap (λ z. sort_of_meaning S (declared_meaning w z)) (f.1 ∙ ap Some f.2) ∙ procedure_unsorted S w k c)

    -- a variable
    variable_stands : (b : List Ty) (o : Bool) (v u : Var) → IsVar types v u → Stands b o (stands_for v) (stands_for u)
    variable_stands b o v u h i j e f = let q = h.fits i j e f in (h.type, q.0, q.1, h.there)

    unless_out_stands : (b : List Ty) (o : Bool) (v u : Var) (q r : Role) → q ≡ r → IsVar types v u
        → Stands b o (elim q [ in_parameter ↦ stands_for v | out_parameter ↦ nothing | local_variable ↦ stands_for v ]) (elim r [ in_parameter ↦ stands_for u | out_parameter ↦ nothing | local_variable ↦ stands_for u ])
    unless_out_stands b o v u in_parameter in_parameter e h = variable_stands b o v u h
    unless_out_stands b o v u local_variable local_variable e h = variable_stands b o v u h
    unless_out_stands b o v u out_parameter r e h = no_first _ _ _ refl
    unless_out_stands b o v u in_parameter out_parameter e h = absurd (cc)
    unless_out_stands b o v u in_parameter local_variable e h = absurd (cc)
    unless_out_stands b o v u local_variable in_parameter e h = absurd (cc)
    unless_out_stands b o v u local_variable out_parameter e h = absurd (cc)

    var_stands : (p : Part) (b : List Ty) (o : Bool) (v u : Var) → IsVar types v u → Stands b o (var_in p v) (var_in p u)
    var_stands in_requires b o v u h = unless_out_stands b o v u v.role u.role h.role h
    var_stands in_clause_of_in b o v u h = unless_out_stands b o v u v.role u.role h.role h
    var_stands in_axiom b o v u h = variable_stands b o v u h
    var_stands in_function b o v u h = variable_stands b o v u h
    var_stands in_ensures b o v u h = variable_stands b o v u h
    var_stands in_body b o v u h = variable_stands b o v u h
    var_stands in_clause_of_global b o v u h = variable_stands b o v u h
    var_stands in_clause_of_out b o v u h = variable_stands b o v u h
    var_stands in_clause_of_local b o v u h = variable_stands b o v u h

    one_stands : (b : List Ty) (o : Bool) (n : Text) (q r : Bool) (v u : Var) (x y : Option Var) → q ≡ r → IsVar types v u → Stands b o (free_meaning S n x) (free_meaning U n y)
        → Stands b o (free_meaning S n (cond q (Some v) x)) (free_meaning U n (cond r (Some u) y))
    one_stands b o n true true v u x y e h g = var_stands w b o v u h
    one_stands b o n false false v u x y e h g = g
    one_stands b o n true false v u x y e h g = absurd (cc)
    one_stands b o n false true v u x y e h g = absurd (cc)

    free_stands : (b : List Ty) (o : Bool) (n : Text) (xs ys : List Var) → VarsAlike types xs ys → Stands b o (free_meaning S n None) (free_meaning U n None) → Stands b o (free_meaning S n (var_of xs n)) (free_meaning U n (var_of ys n))
    free_stands b o n [] [] h g = g
    free_stands b o n [] (y ∷ ys) h g = absurd h
    free_stands b o n (x ∷ xs) [] h g = absurd h
    free_stands b o n (x ∷ xs) (y ∷ ys) h g = one_stands b o n (bytes_eq x.name n) (bytes_eq y.name n) x y (var_of xs n) (var_of ys n) (ap (λ m. bytes_eq m n) (h.0).name) h.0 (free_stands b o n xs ys h.1 g)

    pub alike : fault_of E ≡ None → VarsAlike types vs us → Alike types hs (type_of ds) S U
    alike none h = record {
      free_names = λ b o n. free_stands b o n vs us h (declared_stands b o n (entity_of (table_of ds) n) (in_erased n) (in_apart n));
      functions = λ xs ys n g j e f. one_head none n g j (applied (record S { bounds = xs }) n g e) (applied (record U { bounds = ys }) n j f) types;
      types = types_fit ds;
    }
