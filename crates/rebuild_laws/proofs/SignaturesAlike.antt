-- Parameters, locals and contracts whose declarations are the same but for places go alike in two tables in which the names that they use stand for things that go alike.
use Rattle.std.specs.Prelude.{◌≡◌, refl, ℕ, ◌+◌, ◌<◌, ◌≤◌, Bool, true, false, ◌||◌, List, [], ◌∷◌, ◌++◌, map, length, flat_map, filter_map, bytes_eq, Option, Some, None}
use Rattle.std.specs.List.{AllByRecursion, cons_option}
use Rattle.std.proofs.Common.{ap, sym, subst, arith, ◌∙◌, append_assoc, append-nil}
use Rattle.std.proofs.lemmas.List.{map-append}
use Rattle.logic_core.specs.Tree.{Tree}
use Rattle.logic_core.proofs.Booleans.{or_assoc}
use Rattle.bv_base.specs.declared.place.Place.{Place}
use Rattle.bpl_ast.specs.Place.{Name, Ty}
use Rattle.bpl_ast.specs.Tree.{Groups, no_groups, group}
use Rattle.bpl_ast.specs.Statement.{Spec as SpecTree, requires, ensures, modifies, Body, Signature}
use Rattle.bpl_model.specs.Module.{Local, Spec, Proc}
use Rattle.bpl_scopes.specs.declared.fault.TypeKind.TheVariants.{Kind as wrong_kind}
use Rattle.bpl_scopes.specs.declared.fault.Fault.{Fault}
use Rattle.bpl_scopes.specs.declared.part.Part.{Part}
use Rattle.bpl_scopes.specs.declared.part.Part.TheVariants.{Requires as in_requires, Ensures as in_ensures, ClauseOfIn as in_clause_of_in, ClauseOfOut as in_clause_of_out, ClauseOfLocal as in_clause_of_local}
use Rattle.bpl_scopes.specs.declared.part.Role.{Role}
use Rattle.bpl_scopes.specs.declared.part.Role.TheVariants.{In as in_parameter, Out as out_parameter, Local as local_variable}
use Rattle.bv_base.specs.Text.{is_among}
use Rattle.bpl_scopes.specs.Fault.{fault}
use Rattle.bpl_scopes.specs.Scopes.{Text, Entity, Table, Counts, names_of, typed_names, only_names, texts_of, signature_names, entity_of, Var, Scope}
use Rattle.bpl_scopes.specs.Sorts.{sort_of_type}
use Rattle.bpl_scopes.specs.Functions.{names_in_type}
use Rattle.bpl_faults.specs.ExprFaults.{clause_faults, group_clause_faults}
use Rattle.bpl_texts.specs.Uses.{use_of, uses_of, type_uses, groups_uses, clause_uses, spec_uses, local_texts, locals_uses, signature_uses}
use Rattle.bpl_terms.specs.Terms.{sort_or_int}
use Rattle.bpl_declaration_faults.specs.Variables.{vars_from, first_parameter, locals_of, names_in_body, in_vars, out_vars, parameters, local_vars, body_vars, scope_of}
use Rattle.bpl_declaration_faults.specs.DeclFaults.{parameter_clause_faults, modified_entity_faults, modified_faults, clause_faults_in, spec_faults, local_faults}
use Rattle.bpl_scopes.specs.TypeFaults.{group_type_faults}
use Rattle.canonical_text.specs.SameStatement.{bare_spec, bare_signature}
use Rattle.bpl_resolve.specs.Elaborate.{clause_term, clause_terms, locals_with, entity_number, modified_number, spec_in, spec_of, Implemented, proc_locals, proc_of}
use Rattle.bpl_resolve.proofs.HasSort.{first_empty, second_empty}
use Rattle.rebuild_laws.specs.Alike.{AlikeClause, AlikeLocals, no_locals, a_local, AlikeSpec, both_require, both_ensure, both_modify, AlikeSpecs, no_specs, a_spec}
use Rattle.rebuild_laws.proofs.UnplacedAlike.{clauses_wherever}
use Rattle.rebuild_laws.proofs.ScopesAlike.{AlikeEntity, undeclared, constants, globals, functions, synonyms, procedures, AlikeName, AlikeVars, no_vars, a_var, scope_here, scope_there, UsedIn, sort_alike}
use Rattle.rebuild_laws.proofs.TermsAlike.{Each, each_first, each_second, used_unless, Hidden}
use Rattle.rebuild_laws.proofs.SameExpressionsAlike.{expressions_alike, clauses_alike}
use Rattle.rebuild_laws.proofs.BareProcedures.{same_procedures}

-- the names of variables
var_texts : (t : Table) (hidden : List Text) (r : Role) (k : ℕ) (ps : List (Name × Ty)) → map (λ (v : Var). v.name) (vars_from t hidden r k ps) ≡ texts_of (only_names ps)
var_texts t hidden r k [] = refl
var_texts t hidden r k (p ∷ ps) = ap (λ ns. (p.0).text ∷ ns) (var_texts t hidden r (k + 1) ps)

parameter_texts : (t : Table) (c : Counts) (g : Signature) → map (λ (v : Var). v.name) (parameters t c g) ≡ texts_of (signature_names g)
parameter_texts t c g =
    map-append (λ (v : Var). v.name) (in_vars t c g) (out_vars t c g)
    ∙ ((λ i. var_texts t (texts_of (signature_names g)) in_parameter (first_parameter c) (names_of g.ins) i
    ++ var_texts t (texts_of (signature_names g)) out_parameter (first_parameter c + length (names_of g.ins)) (names_of g.outs) i)
    ∙ sym (ap texts_of (map-append (λ (p : Name × Ty). p.0) (names_of g.ins) (names_of g.outs)) ∙ map-append (λ (n : Name). n.text) (only_names (names_of g.ins)) (only_names (names_of g.outs))))

body_texts : (t : Table) (c : Counts) (g : Signature) (vs : List Groups) → map (λ (v : Var). v.name) (body_vars t c g vs) ≡ texts_of (signature_names g) ++ texts_of (only_names (locals_of vs))
body_texts t c g vs =
    map-append (λ (v : Var). v.name) (parameters t c g) (local_vars t c g vs)
    ∙ (λ i. parameter_texts t c g i
    ++ var_texts t (texts_of (names_in_body g vs)) local_variable (first_parameter c + (length (names_of g.ins) + length (names_of g.outs))) (locals_of vs) i)

among_joined : (n : Text) (xs ys : List Text) → is_among (xs ++ ys) n ≡ (is_among xs n || is_among ys n)
among_joined n [] ys = refl
among_joined n (x ∷ xs) ys = ap (λ b. bytes_eq n x || b) (among_joined n xs ys) ∙ sym (or_assoc (bytes_eq n x) (is_among xs n) (is_among ys n))

-- the same names in another order
swapped : (xs ys : List Text) (n : Text) → is_among (xs ++ ys) n ≡ is_among (ys ++ xs) n
swapped xs ys n = among_joined n xs ys ∙ (by (is_among xs n) (is_among ys n) ∙ sym (among_joined n ys xs))
  where
    by : (a b : Bool) → (a || b) ≡ (b || a)
    by true true = refl
    by true false = refl
    by false true = refl
    by false false = refl

not_hidden : (b : Bool) (p : Place) (fs : List Fault) → ◌≡◌ {A = List Fault} (elim b [ true ↦ fault wrong_kind p | false ↦ fs ]) [] → (b ≡ false) × (fs ≡ [])
not_hidden true p fs e = absurd (cc)
not_hidden false p fs e = (refl, e)

module _ (new_def new_var : ℕ → ℕ) (D V : ℕ → Type 0) (Used : Text → Type 0) (t u : Table) (c d : Counts) (names : (n : Text) → Used n → AlikeName new_def new_var D V Used t u c d n) where
  abbrev Vars : List Var → List Var → Type 0
  Vars = AlikeVars new_def new_var D V Used t u c d

  abbrev Eaches : List Text → Type 0
  Eaches = Each new_def new_var D V Used t u c d names

  abbrev Locals : List Local → List Local → Type 0
  Locals = AlikeLocals new_def new_var D V

  first_used : (xs ys : List Text) → Eaches (xs ++ ys) → Eaches xs
  first_used = each_first new_def new_var D V Used t u c d names

  second_used : (xs ys : List Text) → Eaches (xs ++ ys) → Eaches ys
  second_used = each_second new_def new_var D V Used t u c d names

  -- so many variables behind those of the module have numbers behind those of the other one
  abbrev pub Follow : ℕ → Type 0
  Follow k = (j : ℕ) → j < k → (new_var (first_parameter c + j) ≡ first_parameter d + j) × V (first_parameter c + j)

  vars_alike : (hidden : List Text) (r : Role) (k a b i : ℕ) (ps : List (Name × Ty)) → Follow k → a ≡ first_parameter c + i → b ≡ first_parameter d + i → i + length ps ≤ k → Vars (vars_from t hidden r a ps) (vars_from u hidden r b ps)
  vars_alike hidden r k a b i [] f e g l = no_vars
  vars_alike hidden r k a b i (p ∷ ps) f e g l =
      let one = f i (omega (arith, l)) in
      a_var refl refl (ap new_var e ∙ (one.0 ∙ sym g)) (subst V (sym e) one.1) (vars_alike hidden r k (a + 1) (b + 1) (i + 1) ps f (omega (arith, e)) (omega (arith, g)) (omega (arith, l)))

  vars_joined : (vs ws xs ys : List Var) → Vars vs ws → Vars xs ys → Vars (vs ++ xs) (ws ++ ys)
  vars_joined _ _ xs ys no_vars b = b
  vars_joined _ _ xs ys (a_var {vs = vs} {ws = ws} e o q h rest) b = a_var e o q h (vars_joined vs ws xs ys rest b)

  parameters_alike : (g : Signature) (k : ℕ) → Follow k → length (names_of g.ins) + length (names_of g.outs) ≤ k → Vars (parameters t c g) (parameters u d g)
  parameters_alike g k f l =
      let h = texts_of (signature_names g) in
      vars_joined (in_vars t c g) (in_vars u d g) (out_vars t c g) (out_vars u d g)
      (vars_alike h in_parameter k (first_parameter c) (first_parameter d) 0 (names_of g.ins) f (omega arith) (omega arith) (omega (arith, l)))
      (vars_alike h out_parameter k (first_parameter c + length (names_of g.ins)) (first_parameter d + length (names_of g.ins)) (length (names_of g.ins)) (names_of g.outs) f refl refl l)

  pub body_vars_alike : (g : Signature) (vs : List Groups) (k : ℕ) → Follow k → (length (names_of g.ins) + length (names_of g.outs)) + length (locals_of vs) ≤ k → Vars (body_vars t c g vs) (body_vars u d g vs)
  body_vars_alike g vs k f l =
      let z = length (names_of g.ins) + length (names_of g.outs) in
      vars_joined (parameters t c g) (parameters u d g) (local_vars t c g vs) (local_vars u d g vs)
      (parameters_alike g k f (omega (arith, l)))
      (vars_alike (texts_of (names_in_body g vs)) local_variable k (first_parameter c + z) (first_parameter d + z) z (locals_of vs) f refl refl l)

  -- sorts, where one list or another holds the names that variables hide
  module _ (h hidden : List Text) (same : (n : Text) → is_among h n ≡ is_among hidden n) where
    types_used : (ns : List Text) → Eaches (flat_map (use_of h) ns) → UsedIn new_def new_var D V Used t u c d hidden ns
    types_used [] e = tt
    types_used (n ∷ ns) e = ((λ f. used_unless new_def new_var D V Used t u c d names h n (first_used (use_of h n) _ e) (same n ∙ f)), types_used ns (second_used (use_of h n) _ e))

    sorts_same : (x : Ty) → Eaches (type_uses h x) → sort_of_type u hidden x ≡ sort_of_type t hidden x
    sorts_same x e = sort_alike new_def new_var D V Used t u c d hidden names x (types_used (names_in_type x) e)

    -- groups of one role, whose clauses stand in one part
    module _ (r : Role) (part : Part) (vs ws : List Var) (vars : Vars vs ws) (hides : Hidden new_def new_var D V Used t u c d names part vs [] h) where
      abbrev here : Scope
      here = scope_here new_def new_var D V Used t u c d part vs []

      abbrev there : Scope
      there = scope_there new_def new_var D V Used t u c d part ws []

      -- variables with their clauses, whatever their numbers
      abbrev Columns : List (Name × Ty) → List (Option Tree) → List (Option Tree) → Type 0
      Columns ps ks ls = (a b : ℕ) → Locals (locals_with (vars_from t hidden r a ps) ks) (locals_with (vars_from u hidden r b ps) ls)

      names_alike : (x : Ty) → sort_of_type u hidden x ≡ sort_of_type t hidden x → (k l : Option Tree) → AlikeClause new_def new_var D V k l → (ns : List Name) (ps : List (Name × Ty)) (ks ls : List (Option Tree)) → Columns ps ks ls
          → Columns (typed_names ns x ++ ps) (map (λ (n : Name). k) ns ++ ks) (map (λ (n : Name). l) ns ++ ls)
      names_alike x e k l a [] ps ks ls rest = rest
      names_alike x e k l a (n ∷ ns) ps ks ls rest = λ v w. a_local (ap sort_or_int e) refl a (names_alike x e k l a ns ps ks ls rest (v + 1) (w + 1))

      regrouped : (xs ys ps : List (Name × Ty)) (is js ks ls ms ns : List (Option Tree)) → Columns (xs ++ (ys ++ ps)) (is ++ (js ++ ks)) (ls ++ (ms ++ ns)) → Columns ((xs ++ ys) ++ ps) ((is ++ js) ++ ks) ((ls ++ ms) ++ ns)
      regrouped xs ys ps is js ks ls ms ns h =
          subst (λ z. Columns z ((is ++ js) ++ ks) ((ls ++ ms) ++ ns)) (sym (append_assoc xs ys ps))
          (subst (λ z. Columns (xs ++ (ys ++ ps)) z ((ls ++ ms) ++ ns)) (sym (append_assoc is js ks))
          (subst (λ z. Columns (xs ++ (ys ++ ps)) (is ++ (js ++ ks)) z) (sym (append_assoc ls ms ns)) h))

      groups_before : (gs : Groups) → group_clause_faults here gs ≡ [] → Eaches (groups_uses h gs) → (ps : List (Name × Ty)) (ks ls : List (Option Tree)) → Columns ps ks ls
          → Columns (names_of gs ++ ps) (clause_terms here gs ++ ks) (clause_terms there gs ++ ls)
      groups_before no_groups e g ps ks ls rest = rest
      groups_before (group ns x k gs) e g ps ks ls rest =
          let g1 = second_used (type_uses h x) (clause_uses h k ++ groups_uses h gs) g in
          let a = clauses_alike new_def new_var D V Used t u c d names part vs ws vars [] [] refl h hides k k (first_empty _ _ e) (first_used (clause_uses h k) (groups_uses h gs) g1) refl in
          let more = groups_before gs (second_empty (clause_faults here k) _ e) (second_used (clause_uses h k) (groups_uses h gs) g1) ps ks ls rest in
          regrouped (typed_names ns x) (names_of gs) ps (map (λ (n : Name). clause_term here k) ns) (clause_terms here gs) ks (map (λ (n : Name). clause_term there k) ns) (clause_terms there gs) ls
          (names_alike x (sorts_same x (first_used (type_uses h x) (clause_uses h k ++ groups_uses h gs) g)) (clause_term here k) (clause_term there k) a ns (names_of gs ++ ps) (clause_terms here gs ++ ks) (clause_terms there gs ++ ls) more)

      groups_alike : (gs : Groups) → group_clause_faults here gs ≡ [] → Eaches (groups_uses h gs) → Columns (names_of gs) (clause_terms here gs) (clause_terms there gs)
      groups_alike gs e g =
          subst (λ z. Columns z (clause_terms here gs) (clause_terms there gs)) (append-nil (names_of gs))
          (subst (λ z. Columns (names_of gs ++ []) z (clause_terms there gs)) (append-nil (clause_terms here gs))
          (subst (λ z. Columns (names_of gs ++ []) (clause_terms here gs ++ []) z) (append-nil (clause_terms there gs)) (groups_before gs e g [] [] [] (λ a b. no_locals))))

      all_groups_alike : (ls : List Groups) → AllByRecursion (λ gs. group_clause_faults here gs ≡ []) ls → Eaches (flat_map (groups_uses h) ls)
          → Columns (flat_map names_of ls) (flat_map (clause_terms here) ls) (flat_map (clause_terms there) ls)
      all_groups_alike [] e g = λ a b. no_locals
      all_groups_alike (gs ∷ ls) e g =
          groups_before gs e.0 (first_used (groups_uses h gs) _ g) (flat_map names_of ls) (flat_map (clause_terms here) ls) (flat_map (clause_terms there) ls) (all_groups_alike ls e.1 (second_used (groups_uses h gs) _ g))

  -- the globals that a contract modifies
  one_modified : (n : Text) (p : Place) (a b : Option Entity) → AlikeEntity new_def new_var D V Used t u c d n a b → modified_entity_faults a p ≡ [] → (ks ls : List ℕ) → (ls ≡ map new_var ks) × AllByRecursion V ks
      → (cons_option (entity_number d b) ls ≡ map new_var (cons_option (entity_number c a) ks)) × AllByRecursion V (cons_option (entity_number c a) ks)
  one_modified n p _ _ undeclared e ks ls r = absurd (cc)
  one_modified n p _ _ (constants q h) e ks ls r = absurd (cc)
  one_modified n p _ _ (globals q h i j) e ks ls r = ((λ k. sym q k ∷ r.0 k), (h, r.1))
  one_modified n p _ _ (functions q h) e ks ls r = absurd (cc)
  one_modified n p _ _ synonyms e ks ls r = absurd (cc)
  one_modified n p _ _ procedures e ks ls r = absurd (cc)

  modified_alike : (h : List Text) (ns : List Name) → flat_map (modified_faults t h) ns ≡ [] → Eaches (uses_of h ns)
      → (filter_map (modified_number u d) ns ≡ map new_var (filter_map (modified_number t c) ns)) × AllByRecursion V (filter_map (modified_number t c) ns)
  modified_alike h [] e g = (refl, tt)
  modified_alike h (n ∷ ns) e g =
      let a = not_hidden (is_among h n.text) n.at (modified_entity_faults (entity_of t n.text) n.at) (first_empty _ _ e) in
      let used = used_unless new_def new_var D V Used t u c d names h n.text (first_used (use_of h n.text) (uses_of h ns) g) a.0 in
      one_modified n.text n.at (entity_of t n.text) (entity_of u n.text) (names n.text used).entity a.1 (filter_map (modified_number t c) ns) (filter_map (modified_number u d) ns)
      (modified_alike h ns (second_empty (modified_faults t h n) _ e) (second_used (use_of h n.text) (uses_of h ns) g))

  -- clauses of a contract
  module _ (h : List Text) (vs ws : List Var) (vars : Vars vs ws) (hides : (part : Part) → Hidden new_def new_var D V Used t u c d names part vs [] h) where
    spec_alike : (x : SpecTree) → clause_faults_in t c vs h x ≡ [] → Eaches (spec_uses h x) → AlikeSpec new_def new_var D V (spec_in t c vs x) (spec_in u d ws x)
    spec_alike (requires p f x) e k =
        let a = expressions_alike new_def new_var D V Used t u c d names in_requires vs ws vars [] [] refl h (hides in_requires) true x x (first_empty _ _ e) k refl in
        subst (λ y. AlikeSpec new_def new_var D V (spec_in t c vs (requires p f x)) (Spec.requires f p y)) (sym a.same) (both_require a.covered)
    spec_alike (ensures p f x) e k =
        let a = expressions_alike new_def new_var D V Used t u c d names in_ensures vs ws vars [] [] refl h (hides in_ensures) true x x (first_empty _ _ e) k refl in
        subst (λ y. AlikeSpec new_def new_var D V (spec_in t c vs (ensures p f x)) (Spec.ensures f p y)) (sym a.same) (both_ensure a.covered)
    spec_alike (modifies p ns) e k =
        let a = modified_alike h ns e k in
        subst (λ ys. AlikeSpec new_def new_var D V (spec_in t c vs (modifies p ns)) (Spec.modifies ys)) (sym a.0) (both_modify a.1)

    specs_alike : (ss : List SpecTree) → flat_map (clause_faults_in t c vs h) ss ≡ [] → Eaches (flat_map (spec_uses h) ss) → AlikeSpecs new_def new_var D V (map (spec_in t c vs) ss) (map (spec_in u d ws) ss)
    specs_alike [] e k = no_specs
    specs_alike (x ∷ ss) e k = a_spec (spec_alike x (first_empty _ _ e) (first_used (spec_uses h x) _ k)) (specs_alike ss (second_empty (clause_faults_in t c vs h x) _ e) (second_used (spec_uses h x) _ k))

  -- a body's locals
  no_local_fault : (g : Signature) (all vs : List Groups) → flat_map (local_faults t c g all) vs ≡ [] → AllByRecursion (λ gs. group_clause_faults (scope_of t c in_clause_of_local (body_vars t c g all)) gs ≡ []) vs
  no_local_fault g all [] e = tt
  no_local_fault g all (gs ∷ vs) e = (second_empty (group_type_faults t (texts_of (names_in_body g all)) gs) _ (first_empty _ _ e), no_local_fault g all vs (second_empty (local_faults t c g all gs) _ e))

  pub body_hides : (g : Signature) (b : Body) (part : Part) → Hidden new_def new_var D V Used t u c d names part (body_vars t c g b.locals) [] (local_texts b ++ texts_of (signature_names g))
  body_hides g b part n = swapped (local_texts b) (texts_of (signature_names g)) n ∙ ap (λ ms. is_among ms n) (sym (body_texts t c g b.locals))

  pub locals_alike : (g : Signature) (b : Body) (k : ℕ) → Follow k → (length (names_of g.ins) + length (names_of g.outs)) + length (locals_of b.locals) ≤ k → flat_map (local_faults t c g b.locals) b.locals ≡ []
      → Eaches (locals_uses (local_texts b ++ texts_of (signature_names g)) b.locals) → Locals (proc_locals t c (Some (g, b))) (proc_locals u d (Some (g, b)))
  locals_alike g b k f l e m =
      let h = local_texts b ++ texts_of (signature_names g) in
      let z = length (names_of g.ins) + length (names_of g.outs) in
      all_groups_alike h (texts_of (names_in_body g b.locals))
      (λ n. swapped (local_texts b) (texts_of (signature_names g)) n ∙ ap (λ ms. is_among ms n) (sym (map-append (λ (x : Name). x.text) (signature_names g) (only_names (locals_of b.locals)))))
      local_variable in_clause_of_local (body_vars t c g b.locals) (body_vars u d g b.locals) (body_vars_alike g b.locals k f l) (body_hides g b in_clause_of_local) b.locals (no_local_fault g b.locals b.locals e) m
      (first_parameter c + z) (first_parameter d + z)

  -- what two procedures promise
  pub record AlikeContracts (x y : Proc) : Type 0 where
    pub ins : AlikeLocals new_def new_var D V x.ins y.ins
    pub outs : AlikeLocals new_def new_var D V x.outs y.outs
    pub specs : AlikeSpecs new_def new_var D V x.specs y.specs

  module _ (g : Signature) (ss : List SpecTree) (k : ℕ) (follow : Follow k) (fits : length (names_of g.ins) + length (names_of g.outs) ≤ k) where
    -- of one declaration in both tables
    contract_alike : (n : Text) (a : Option Implemented) → parameter_clause_faults t c g ≡ [] → flat_map (spec_faults t c g) ss ≡ [] → Eaches (signature_uses g) → Eaches (flat_map (spec_uses (texts_of (signature_names g))) ss)
        → AlikeContracts (proc_of t c n g ss a) (proc_of u d n g ss a)
    contract_alike n a e f i j =
        let h = texts_of (signature_names g) in
        let vars = parameters_alike g k follow fits in
        let vs = parameters t c g in
        let ws = parameters u d g in
        let hides : (part : Part) → Hidden new_def new_var D V Used t u c d names part vs [] h = λ part m. ap (λ ms. is_among ms m) (sym (parameter_texts t c g)) in
        record {
          ins = groups_alike h h (λ m. refl) in_parameter in_clause_of_in vs ws vars (hides in_clause_of_in) g.ins (first_empty _ _ e) (first_used (groups_uses h g.ins) (groups_uses h g.outs) i) (first_parameter c) (first_parameter d);
          outs = groups_alike h h (λ m. refl) out_parameter in_clause_of_out vs ws vars (hides in_clause_of_out) g.outs (second_empty (group_clause_faults (scope_of t c in_clause_of_in vs) g.ins) _ e)
              (second_used (groups_uses h g.ins) (groups_uses h g.outs) i) (first_parameter c + length (names_of g.ins)) (first_parameter d + length (names_of g.ins));
          specs = specs_alike h vs ws vars hides ss f j;
        }

    -- of two declarations that are the same but for places
    pub contracts_alike : (n m : Text) (a b : Option Implemented) (h : Signature) (ts : List SpecTree) → parameter_clause_faults t c g ≡ [] → flat_map (spec_faults t c g) ss ≡ [] → Eaches (signature_uses g)
        → Eaches (flat_map (spec_uses (texts_of (signature_names g))) ss) → bare_signature g ≡ bare_signature h → map bare_spec ss ≡ map bare_spec ts → AlikeContracts (proc_of t c n g ss a) (proc_of u d m h ts b)
    contracts_alike n m a b h ts e f i j q r =
        let x = contract_alike n a e f i j in
        let y = same_procedures u d n g h ss ts None None q r refl in
        record {
          ins = subst (Locals (proc_of t c n g ss a).ins) (ap (λ (z : Proc). z.ins) y) x.ins;
          outs = subst (Locals (proc_of t c n g ss a).outs) (ap (λ (z : Proc). z.outs) y) x.outs;
          specs = clauses_wherever new_def new_var D V (map (spec_of t c g) ss) (map (spec_of u d g) ss) (map (spec_of u d h) ts) x.specs (ap (λ (z : Proc). z.specs) y);
        }
