-- A procedure and the same without the places of its declaration are, once elaborated, the same but for places.
use Rattle.std.specs.Prelude.{◌≡◌, refl, ℕ, suc, ◌+◌, false, List, [], ◌∷◌, ◌++◌, map, length, filter_map, flat_map, Option, Some, None, option_map}
use Rattle.std.specs.List.{cons_option}
use Rattle.std.proofs.Common.{ap, sym, ◌∙◌}
use Rattle.std.proofs.lemmas.List.{map-append}
use Rattle.logic_core.specs.Tree.{Tree}
use Rattle.bpl_ast.specs.Place.{Name, Ty}
use Rattle.bpl_ast.specs.Tree.{Groups, no_groups, group, Clause, no_clause, clause}
use Rattle.bpl_ast.specs.Statement.{Spec as SpecTree, requires, ensures, modifies, Signature}
use Rattle.bpl_model.specs.Module.{Spec, Proc}
use Rattle.bpl_scopes.specs.declared.part.Part.TheVariants.{Requires as in_requires, Ensures as in_ensures, Body as in_body, ClauseOfIn as in_clause_of_in, ClauseOfOut as in_clause_of_out, ClauseOfLocal as in_clause_of_local}
use Rattle.bpl_scopes.specs.declared.part.Role.{Role}
use Rattle.bpl_scopes.specs.declared.part.Role.TheVariants.{In as in_parameter, Out as out_parameter, Local as local_variable}
use Rattle.bpl_scopes.specs.Scopes.{Text, Table, Counts, names_of, typed_names, only_names, texts_of, signature_names, Var, Scope}
use Rattle.bpl_scopes.specs.Sorts.{sort_of_type}
use Rattle.bpl_declaration_faults.specs.Variables.{vars_from, first_parameter, locals_of, names_in_body, in_vars, out_vars, parameters, local_vars, body_vars, scope_of}
use Rattle.canonical_text.specs.Same.{start, bare_name, bare_names, bare_type, bare_groups, bare_clause}
use Rattle.canonical_text.specs.SameStatement.{bare_stmts, bare_spec, bare_body, bare_signature}
use Rattle.bpl_resolve.specs.Elaborate.{clause_term, clause_terms, locals_with, modified_number, spec_in, spec_of, Implemented, stmts_of, proc_locals, proc_body, proc_of}
use Rattle.rebuild_laws.specs.Unplaced.{unplaced_stmts, unplaced_spec, unplaced_proc}
use Rattle.rebuild_laws.specs.SameButForPlaces.{bare_implemented, SameProceduresDifferInPlaces}
use Rattle.rebuild_laws.proofs.BareTerms.{bare_type_sort, bare_term}
use Rattle.rebuild_laws.proofs.BareStatements.{bare_body_stmts}

-- names with their types
abbrev bare_pair : Name × Ty → Name × Ty
bare_pair p = (bare_name p.0, bare_type p.1)

bare_typed : (ns : List Name) (x : Ty) → typed_names (bare_names ns) (bare_type x) ≡ map bare_pair (typed_names ns x)
bare_typed [] x = refl
bare_typed (n ∷ ns) x = ap (λ ps. (bare_name n, bare_type x) ∷ ps) (bare_typed ns x)

bare_pairs : (gs : Groups) → names_of (bare_groups gs) ≡ map bare_pair (names_of gs)
bare_pairs no_groups = refl
bare_pairs (group ns x c gs) = (λ i. bare_typed ns x i ++ bare_pairs gs i) ∙ sym (map-append bare_pair (typed_names ns x) (names_of gs))

bare_local_pairs : (vs : List Groups) → locals_of (map bare_groups vs) ≡ map bare_pair (locals_of vs)
bare_local_pairs [] = refl
bare_local_pairs (gs ∷ vs) = (λ i. bare_pairs gs i ++ bare_local_pairs vs i) ∙ sym (map-append bare_pair (names_of gs) (locals_of vs))

pair_texts : (ps : List (Name × Ty)) → texts_of (only_names (map bare_pair ps)) ≡ texts_of (only_names ps)
pair_texts [] = refl
pair_texts (p ∷ ps) = ap (λ ns. (p.0).text ∷ ns) (pair_texts ps)

pair_count : (ps : List (Name × Ty)) → length (map bare_pair ps) ≡ length ps
pair_count [] = refl
pair_count (p ∷ ps) = ap suc (pair_count ps)

pair_vars : (t : Table) (hidden : List Text) (r : Role) (k : ℕ) (ps : List (Name × Ty)) → vars_from t hidden r k (map bare_pair ps) ≡ vars_from t hidden r k ps
pair_vars t hidden r k [] = refl
pair_vars t hidden r k (p ∷ ps) = λ i. record { name = (p.0).text; role = r; number = k; sort = bare_type_sort t hidden p.1 i } ∷ pair_vars t hidden r (k + 1) ps i

-- a signature's names
bare_signature_texts : (g : Signature) → texts_of (signature_names (bare_signature g)) ≡ texts_of (signature_names g)
bare_signature_texts g =
    ap (λ ps. texts_of (only_names ps)) ((λ i. bare_pairs g.ins i ++ bare_pairs g.outs i) ∙ sym (map-append bare_pair (names_of g.ins) (names_of g.outs))) ∙ pair_texts (names_of g.ins ++ names_of g.outs)

bare_body_texts : (g : Signature) (vs : List Groups) → texts_of (names_in_body (bare_signature g) (map bare_groups vs)) ≡ texts_of (names_in_body g vs)
bare_body_texts g vs =
    map-append (λ (n : Name). n.text) (signature_names (bare_signature g)) (only_names (locals_of (map bare_groups vs)))
    ∙ ((λ i. bare_signature_texts g i ++ (ap (λ ps. texts_of (only_names ps)) (bare_local_pairs vs) ∙ pair_texts (locals_of vs)) i) ∙ sym (map-append (λ (n : Name). n.text) (signature_names g) (only_names (locals_of vs))))

bare_count : (gs : Groups) → length (names_of (bare_groups gs)) ≡ length (names_of gs)
bare_count gs = ap (λ ps. length ps) (bare_pairs gs) ∙ pair_count (names_of gs)

-- its variables, which are numbered in order
module _ (t : Table) (c : Counts) (g : Signature) where
  bare_ins : in_vars t c (bare_signature g) ≡ in_vars t c g
  bare_ins = (λ i. vars_from t (bare_signature_texts g i) in_parameter (first_parameter c) (bare_pairs g.ins i)) ∙ pair_vars t (texts_of (signature_names g)) in_parameter (first_parameter c) (names_of g.ins)

  bare_outs : out_vars t c (bare_signature g) ≡ out_vars t c g
  bare_outs =
      (λ i. vars_from t (bare_signature_texts g i) out_parameter (first_parameter c + bare_count g.ins i) (bare_pairs g.outs i))
      ∙ pair_vars t (texts_of (signature_names g)) out_parameter (first_parameter c + length (names_of g.ins)) (names_of g.outs)

  bare_parameters : parameters t c (bare_signature g) ≡ parameters t c g
  bare_parameters = λ i. bare_ins i ++ bare_outs i

  module _ (vs : List Groups) where
    bare_locals : local_vars t c (bare_signature g) (map bare_groups vs) ≡ local_vars t c g vs
    bare_locals =
        (λ i. vars_from t (bare_body_texts g vs i) local_variable (first_parameter c + (bare_count g.ins i + bare_count g.outs i)) (bare_local_pairs vs i))
        ∙ pair_vars t (texts_of (names_in_body g vs)) local_variable (first_parameter c + (length (names_of g.ins) + length (names_of g.outs))) (locals_of vs)

    bare_variables : body_vars t c (bare_signature g) (map bare_groups vs) ≡ body_vars t c g vs
    bare_variables = λ i. bare_parameters i ++ bare_locals i

-- clauses of groups
bare_clause_term : (s : Scope) (c : Clause) → clause_term s (bare_clause c) ≡ clause_term s c
bare_clause_term s no_clause = refl
bare_clause_term s (clause p x) = ap Some (bare_term s false x)

for_each : (s : Scope) (c : Clause) (ns : List Name) → map (λ (n : Name). clause_term s (bare_clause c)) (bare_names ns) ≡ map (λ (n : Name). clause_term s c) ns
for_each s c [] = refl
for_each s c (n ∷ ns) = λ i. bare_clause_term s c i ∷ for_each s c ns i

pub bare_clauses : (s : Scope) (gs : Groups) → clause_terms s (bare_groups gs) ≡ clause_terms s gs
bare_clauses s no_groups = refl
bare_clauses s (group ns x c gs) = λ i. for_each s c ns i ++ bare_clauses s gs i

bare_local_clauses : (s : Scope) (vs : List Groups) → flat_map (clause_terms s) (map bare_groups vs) ≡ flat_map (clause_terms s) vs
bare_local_clauses s [] = refl
bare_local_clauses s (gs ∷ vs) = λ i. bare_clauses s gs i ++ bare_local_clauses s vs i

-- clauses of contracts
bare_modified : (t : Table) (c : Counts) (ns : List Name) → filter_map (modified_number t c) (bare_names ns) ≡ filter_map (modified_number t c) ns
bare_modified t c [] = refl
bare_modified t c (n ∷ ns) = ap (cons_option (modified_number t c n)) (bare_modified t c ns)

bare_spec_in : (t : Table) (c : Counts) (vs : List Var) (x : SpecTree) → unplaced_spec (spec_in t c vs (bare_spec x)) ≡ unplaced_spec (spec_in t c vs x)
bare_spec_in t c vs (requires p f x) = ap (Spec.requires f start) (bare_term (scope_of t c in_requires vs) false x)
bare_spec_in t c vs (ensures p f x) = ap (Spec.ensures f start) (bare_term (scope_of t c in_ensures vs) false x)
bare_spec_in t c vs (modifies p ns) = ap Spec.modifies (bare_modified t c ns)

bare_specs : (t : Table) (c : Counts) (g : Signature) (ss : List SpecTree) → map unplaced_spec (map (spec_of t c (bare_signature g)) (map bare_spec ss)) ≡ map unplaced_spec (map (spec_of t c g) ss)
bare_specs t c g [] = refl
bare_specs t c g (x ∷ ss) = λ i. (ap (λ vs. unplaced_spec (spec_in t c vs (bare_spec x))) (bare_parameters t c g) ∙ bare_spec_in t c (parameters t c g) x) i ∷ bare_specs t c g ss i

-- bodies
bare_proc_locals : (t : Table) (c : Counts) (b : Option Implemented) → proc_locals t c (bare_implemented b) ≡ proc_locals t c b
bare_proc_locals t c None = refl
bare_proc_locals t c (Some x) =
    (λ i. locals_with (bare_locals t c x.0 x.1.locals i) (flat_map (clause_terms (scope_of t c in_clause_of_local (bare_variables t c x.0 x.1.locals i))) (map bare_groups x.1.locals)))
    ∙ ap (locals_with (local_vars t c x.0 x.1.locals)) (bare_local_clauses (scope_of t c in_clause_of_local (body_vars t c x.0 x.1.locals)) x.1.locals)

bare_proc_body : (t : Table) (c : Counts) (b : Option Implemented) → option_map unplaced_stmts (proc_body t c (bare_implemented b)) ≡ option_map unplaced_stmts (proc_body t c b)
bare_proc_body t c None = refl
bare_proc_body t c (Some x) = ap Some
    (ap (λ vs. unplaced_stmts (stmts_of (scope_of t c in_body vs) (bare_stmts x.1.stmts))) (bare_variables t c x.0 x.1.locals) ∙ bare_body_stmts (scope_of t c in_body (body_vars t c x.0 x.1.locals)) x.1.stmts)

module _ (t : Table) (c : Counts) (n : Text) (g : Signature) (ss : List SpecTree) (b : Option Implemented) where
  bare_proc_ins : locals_with (in_vars t c (bare_signature g)) (clause_terms (scope_of t c in_clause_of_in (parameters t c (bare_signature g))) (bare_groups g.ins)) ≡ locals_with (in_vars t c g) (clause_terms (scope_of t c in_clause_of_in (parameters t c g)) g.ins)
  bare_proc_ins =
      (λ i. locals_with (bare_ins t c g i) (clause_terms (scope_of t c in_clause_of_in (bare_parameters t c g i)) (bare_groups g.ins)))
      ∙ ap (locals_with (in_vars t c g)) (bare_clauses (scope_of t c in_clause_of_in (parameters t c g)) g.ins)

  bare_proc_outs : locals_with (out_vars t c (bare_signature g)) (clause_terms (scope_of t c in_clause_of_out (parameters t c (bare_signature g))) (bare_groups g.outs)) ≡ locals_with (out_vars t c g) (clause_terms (scope_of t c in_clause_of_out (parameters t c g)) g.outs)
  bare_proc_outs =
      (λ i. locals_with (bare_outs t c g i) (clause_terms (scope_of t c in_clause_of_out (bare_parameters t c g i)) (bare_groups g.outs)))
      ∙ ap (locals_with (out_vars t c g)) (bare_clauses (scope_of t c in_clause_of_out (parameters t c g)) g.outs)

  pub bare_proc : unplaced_proc (proc_of t c n (bare_signature g) (map bare_spec ss) (bare_implemented b)) ≡ unplaced_proc (proc_of t c n g ss b)
  bare_proc = λ i. record { name = n; ins = bare_proc_ins i; outs = bare_proc_outs i; locals = bare_proc_locals t c b i; specs = bare_specs t c g ss i; body = bare_proc_body t c b i }

pub same_procedures : SameProceduresDifferInPlaces
same_procedures t c n g h ss ts a b e f k =
    sym (bare_proc t c n g ss a) ∙ ((λ i. unplaced_proc (proc_of t c n (e i) (f i) (k i))) ∙ bare_proc t c n h ts b)
