-- Of two procedures with one dependency text, the clauses of globals that are reached go alike, one after another.
use Rattle.std.specs.Prelude.{◌≡◌, ℕ, Bool, true, false, not, IsTrue, List, [], ◌∷◌, ◌++◌, map, flat_map, filter_map, slice_get, Option, Some, None, option_map}
use Rattle.std.specs.List.{AllByRecursion, cons_option}
use Rattle.std.proofs.Common.{refl, ap, sym, ◌∙◌, subst, inr}
use Rattle.logic_core.specs.Tree.{Tree}
use Rattle.logic_core.specs.Renamed.{both_renamed}
use Rattle.bpl_ast.specs.Place.{Name, Ty}
use Rattle.bpl_ast.specs.Tree.{Groups, no_groups, group, Clause}
use Rattle.bpl_ast.specs.Statement.{DeclBody, constant, function, axiom_of, variables, synonym, procedure, implementation, Decl}
use Rattle.bpl_model.specs.Module.{Global, Proc}
use Rattle.bpl_model.specs.Reach.{among, own_positions, reached_by, reached_globals, reached_clauses}
use Rattle.bpl_scopes.specs.declared.part.Part.TheVariants.{ClauseOfGlobal as in_clause_of_global}
use Rattle.bpl_scopes.specs.Scopes.{Text, Table, table_of, Counts, no_counts, counts_after, names_of, typed_names, Scope}
use Rattle.bpl_texts.specs.Uses.{type_uses, clause_uses, groups_uses, contract_uses}
use Rattle.bpl_faults.specs.ExprFaults.{clause_faults, group_clause_faults}
use Rattle.bpl_declaration_faults.specs.Variables.{scope_of}
use Rattle.bpl_declaration_faults.specs.DeclFaults.{nothing_before, decl_faults, fault_of}
use Rattle.canonical_text.specs.Same.{bare_names, bare_groups, bare_clause}
use Rattle.canonical_text.specs.SameStatement.{bare_decl}
use Rattle.canonical_text.specs.RoundTrip.{AreWrittenDecls}
use Rattle.canonical_text.specs.Heads.{bare_head, HaveBody}
use Rattle.bpl_resolve.specs.Elaborate.{clause_term, clause_terms, globals_with, globals_in, module_of}
use Rattle.bpl_resolve.proofs.Ways.{Member}
use Rattle.bpl_resolve.proofs.HasSort.{first_empty, second_empty}
use Rattle.bpl_resolve.proofs.EntriesFine.{none_faulty}
use Rattle.rebuild_laws.specs.Alike.{free_choice, guarded, AlikeClause, AlikeTerms}
use Rattle.rebuild_laws.specs.DependencyTexts.{bodies_at, other_positions}
use Rattle.rebuild_laws.specs.Numbers.{Low}
use Rattle.rebuild_laws.proofs.ScopesAlike.{AlikeName, no_vars}
use Rattle.rebuild_laws.proofs.TermsAlike.{each_first, each_second}
use Rattle.rebuild_laws.proofs.SameExpressionsAlike.{clauses_alike}
use Rattle.rebuild_laws.specs.Twins.{Reached}
use Rattle.rebuild_laws.proofs.NamesInUse.{Used, in_reached}
use Rattle.rebuild_laws.proofs.Settled.{among_passed}
use Rattle.rebuild_laws.proofs.SameNames.{vars_met, functions_met, new_low, new_function}
use Rattle.rebuild_laws.proofs.NamesOfTexts.{reached_globals_are, Functions, low_names}
use Rattle.rebuild_laws.proofs.AxiomsOfTexts.{faults_at, each_used, each_body}
use Rattle.rebuild_laws.proofs.GlobalsOfTexts.{groups_fine}

-- the groups of a declaration of globals
abbrev groups_in : DeclBody → Option Groups
groups_in (variables gs) = Some gs
groups_in (constant u ns s) = None
groups_in (function n ps ins r x) = None
groups_in (axiom_of x) = None
groups_in (synonym n s) = None
groups_in (procedure n ps g ss b) = None
groups_in (implementation n ps g b) = None

bare_groups_in : (b : DeclBody) → groups_in (bare_head b) ≡ option_map bare_groups (groups_in b)
bare_groups_in (variables gs) = refl
bare_groups_in (constant u ns s) = refl
bare_groups_in (function n ps ins r x) = refl
bare_groups_in (axiom_of x) = refl
bare_groups_in (synonym n s) = refl
bare_groups_in (procedure n ps g ss b) = refl
bare_groups_in (implementation n ps g b) = refl

abbrev group_globals : Table → Counts → Option Groups → List Global
group_globals t c None = []
group_globals t c (Some gs) = globals_with t c (names_of gs) (clause_terms (scope_of t c in_clause_of_global []) gs)

by_groups : (t : Table) (c : Counts) (b : DeclBody) → globals_in t c b ≡ group_globals t c (groups_in b)
by_groups t c (variables gs) = refl
by_groups t c (constant u ns s) = refl
by_groups t c (function n ps ins r x) = refl
by_groups t c (axiom_of x) = refl
by_groups t c (synonym n s) = refl
by_groups t c (procedure n ps g ss b) = refl
by_groups t c (implementation n ps g b) = refl

-- the clauses that these have
abbrev clauses_of : List Global → List Tree
clauses_of gs = filter_map (λ (g : Global). g.clause) gs

some_groups : (gs hs : Groups) → Some gs ≡ Some hs → gs ≡ hs
some_groups gs hs e = cc

module _ (new_def new_var : ℕ → ℕ) (D V : ℕ → Type 0) (Used : Text → Type 0) (t u : Table) (c d : Counts) (names : (n : Text) → Used n → AlikeName new_def new_var D V Used t u c d n) where
  abbrev AlikeLists : List Tree → List Tree → Type 0
  AlikeLists = AlikeTerms new_def new_var D V

  abbrev S : Scope
  S = scope_of t c in_clause_of_global []

  abbrev R : Scope
  R = scope_of u d in_clause_of_global []

  one_clause : (a b : Option Tree) (ts us : List Tree) → AlikeClause new_def new_var D V a b → AlikeLists ts us → AlikeLists (cons_option a ts) (cons_option b us)
  one_clause _ _ ts us free_choice r = r
  one_clause _ _ ts us (guarded {E = x} h) r = record { same = ap (λ ws. both_renamed new_def new_var x ∷ ws) r.same; covered = (h, r.covered) }

  -- each name of a group with the group's clause, and then others
  one_group : (ns ms : List Name) (x y : Ty) (a b : Option Tree) (ps qs : List (Name × Ty)) (ks ls : List (Option Tree)) (rest more : List Global)
      → bare_names ns ≡ bare_names ms → AlikeClause new_def new_var D V a b
      → AlikeLists (clauses_of (globals_with t c ps ks ++ rest)) (clauses_of (globals_with u d qs ls ++ more))
      → AlikeLists (clauses_of (globals_with t c (typed_names ns x ++ ps) (map (λ (n : Name). a) ns ++ ks) ++ rest)) (clauses_of (globals_with u d (typed_names ms y ++ qs) (map (λ (n : Name). b) ms ++ ls) ++ more))
  one_group [] [] x y a b ps qs ks ls rest more e k r = r
  one_group [] (m ∷ ms) x y a b ps qs ks ls rest more e k r = absurd (cc)
  one_group (n ∷ ns) [] x y a b ps qs ks ls rest more e k r = absurd (cc)
  one_group (n ∷ ns) (m ∷ ms) x y a b ps qs ks ls rest more e k r =
      let later : bare_names ns ≡ bare_names ms = cc in
      one_clause a b _ _ k (one_group ns ms x y a b ps qs ks ls rest more later k r)

  -- groups without faults whose names are used
  abbrev FineGroups : Option Groups → Type 0
  FineGroups None = Unit {0}
  FineGroups (Some gs) = (group_clause_faults S gs ≡ []) × AllByRecursion Used (groups_uses [] gs)

  all_groups : (gs hs : Groups) (rest more : List Global) → bare_groups gs ≡ bare_groups hs → group_clause_faults S gs ≡ [] → AllByRecursion Used (groups_uses [] gs)
      → AlikeLists (clauses_of rest) (clauses_of more)
      → AlikeLists (clauses_of (globals_with t c (names_of gs) (clause_terms S gs) ++ rest)) (clauses_of (globals_with u d (names_of hs) (clause_terms R hs) ++ more))
  all_groups no_groups no_groups rest more e f k r = r
  all_groups no_groups (group ms y l hs) rest more e f k r = absurd (cc)
  all_groups (group ns x a gs) no_groups rest more e f k r = absurd (cc)
  all_groups (group ns x a gs) (group ms y b hs) rest more e f k r =
      let first : bare_names ns ≡ bare_names ms = cc in
      let clause : bare_clause a ≡ bare_clause b = cc in
      let later : bare_groups gs ≡ bare_groups hs = cc in
      let used = each_second new_def new_var D V Used t u c d names (type_uses [] x) (clause_uses [] a ++ groups_uses [] gs) k in
      one_group ns ms x y (clause_term S a) (clause_term R b) (names_of gs) (names_of hs) (clause_terms S gs) (clause_terms R hs) rest more first
      (clauses_alike new_def new_var D V Used t u c d names in_clause_of_global [] [] no_vars [] [] refl [] (λ n. refl) a b (first_empty _ _ f)
      (each_first new_def new_var D V Used t u c d names (clause_uses [] a) (groups_uses [] gs) used) clause)
      (all_groups gs hs rest more later (second_empty (clause_faults S a) _ f) (each_second new_def new_var D V Used t u c d names (clause_uses [] a) (groups_uses [] gs) used) r)

  some_or_none : (o r : Option Groups) (rest more : List Global) → option_map bare_groups o ≡ option_map bare_groups r → FineGroups o → AlikeLists (clauses_of rest) (clauses_of more)
      → AlikeLists (clauses_of (group_globals t c o ++ rest)) (clauses_of (group_globals u d r ++ more))
  some_or_none None None rest more e f a = a
  some_or_none None (Some hs) rest more e f a = absurd (cc)
  some_or_none (Some gs) None rest more e f a = absurd (cc)
  some_or_none (Some gs) (Some hs) rest more e f a = all_groups gs hs rest more (some_groups (bare_groups gs) (bare_groups hs) e) f.0 f.1 a

  -- of declarations that are the same but for places and bodies of procedures
  global_clauses_alike : (xs ys : List DeclBody) → map bare_head xs ≡ map bare_head ys → AllByRecursion (λ b. FineGroups (groups_in b)) xs
      → AlikeLists (clauses_of (flat_map (globals_in t c) xs)) (clauses_of (flat_map (globals_in u d) ys))
  global_clauses_alike [] [] e f = record { same = refl; covered = tt }
  global_clauses_alike [] (y ∷ ys) e f = absurd (cc)
  global_clauses_alike (x ∷ xs) [] e f = absurd (cc)
  global_clauses_alike (x ∷ xs) (y ∷ ys) e f =
      let first : bare_head x ≡ bare_head y = cc in
      let later : map bare_head xs ≡ map bare_head ys = cc in
      let o : option_map bare_groups (groups_in x) ≡ option_map bare_groups (groups_in y) = sym (bare_groups_in x) ∙ (ap groups_in first ∙ bare_groups_in y) in
      let r = some_or_none (groups_in x) (groups_in y) (flat_map (globals_in t c) xs) (flat_map (globals_in u d) ys) o f.0 (global_clauses_alike xs ys later f.1) in
      subst (λ gs. AlikeLists (clauses_of (gs ++ flat_map (globals_in t c) xs)) (clauses_of (globals_in u d y ++ flat_map (globals_in u d) ys))) (sym (by_groups t c x))
      (subst (λ hs. AlikeLists (clauses_of (group_globals t c (groups_in x) ++ flat_map (globals_in t c) xs)) (clauses_of (hs ++ flat_map (globals_in u d) ys))) (sym (by_groups u d y)) r)

module _ (ds : List Decl) (p : Proc) (es : List Decl) (q : Proc) (none : fault_of ds ≡ None) (none_there : fault_of es ≡ None)
    (body : HaveBody (bodies_at ds (own_positions (module_of ds) p))) (body_there : HaveBody (bodies_at es (own_positions (module_of es) q)))
    (own : map bare_decl (bodies_at ds (own_positions (module_of ds) p)) ≡ map bare_decl (bodies_at es (own_positions (module_of es) q)))
    (others : map bare_head (bodies_at ds (other_positions (module_of ds) p)) ≡ map bare_head (bodies_at es (other_positions (module_of es) q))) where
  abbrev C : Counts
  C = counts_after no_counts ds

  abbrev E : Counts
  E = counts_after no_counts es

  abbrev F : ℕ → Type 0
  F = Functions ds p es q none none_there body body_there own others

  abbrev L : ℕ → Type 0
  L = Low (module_of ds) (module_of es) (vars_met ds p) (vars_met es q) (new_low ds es) (new_low es ds)

  abbrev lows : (n : Text) → Used ds p n → AlikeName (new_function ds es) (new_low ds es) F L (Used ds p) (table_of ds) (table_of es) C E n
  lows = low_names ds p es q none none_there body body_there own others

  abbrev Fine : DeclBody → Type 0
  Fine b = FineGroups (new_function ds es) (new_low ds es) F L (Used ds p) (table_of ds) (table_of es) C E lows (groups_in b)

  fine_groups : (k : ℕ) (x : Decl) → Reached ds p k → slice_get ds k ≡ Some x → Fine x.body
  fine_groups k x r e = by x.body refl
    where
      by : (b : DeclBody) → x.body ≡ b → Fine b
      by (variables gs) f =
          let g = faults_at (table_of ds) C nothing_before ds k x (none_faulty ds none) e in
          (groups_fine (table_of ds) C g.0 gs (subst (λ b. decl_faults (table_of ds) C g.0 b ≡ []) f g.1), each_used (Used ds p) (contract_uses (variables gs)) (λ n i. in_reached k x r e (subst (λ b. Member n (contract_uses b)) (sym f) i)))
      by (constant u ns s) f = tt
      by (function n ps ins r x) f = tt
      by (axiom_of y) f = tt
      by (synonym n s) f = tt
      by (procedure n ps g ss b) f = tt
      by (implementation n ps g b) f = tt

  pub reached_clauses_alike : AreWrittenDecls 0 ds → AreWrittenDecls 0 es
      → AlikeTerms (new_function ds es) (new_low ds es) (λ g. IsTrue (functions_met ds p g)) L (reached_clauses (module_of ds) p) (reached_clauses (module_of es) q)
  reached_clauses_alike w v =
      let r = global_clauses_alike (new_function ds es) (new_low ds es) F L (Used ds p) (table_of ds) (table_of es) C E lows (bodies_at ds (other_positions (module_of ds) p)) (bodies_at es (other_positions (module_of es) q)) others
      (each_body Fine ds (other_positions (module_of ds) p)
      (λ k x i e. fine_groups k x (inr (among_passed (λ d. not (among (own_positions (module_of ds) p) d)) (reached_by (module_of ds) p) k i).0) e)) in
      subst (λ gs. AlikeTerms (new_function ds es) (new_low ds es) F L (clauses_of gs) (reached_clauses (module_of es) q)) (sym (reached_globals_are ds p w none body))
      (subst (λ hs. AlikeTerms (new_function ds es) (new_low ds es) F L (clauses_of (flat_map (globals_in (table_of ds) C) (bodies_at ds (other_positions (module_of ds) p)))) (clauses_of hs)) (sym (reached_globals_are es q v none_there body_there)) r)
