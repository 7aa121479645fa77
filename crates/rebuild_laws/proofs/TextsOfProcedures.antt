-- Equal dependency texts of two procedures are texts of the same declarations.
use Rattle.std.specs.Prelude.{◌≡◌, ℕ, true, Contains, List, [], ◌∷◌, ◌++◌, map, filter, flat_map, is_some, bytes_eq, Option, Some, None}
use Rattle.std.proofs.Common.{refl, ap, sym, ◌∙◌, subst, inl, inr}
use Rattle.bpl_ast.specs.Place.{Name, Params}
use Rattle.bpl_ast.specs.Statement.{Spec, Body, Signature, DeclBody, constant, function, axiom_of, variables, synonym, procedure, implementation, Decl, axioms_with}
use Rattle.bpl_model.specs.Module.{Proc}
use Rattle.bpl_model.specs.Reach.{positions, is_named, own_positions}
use Rattle.bpl_scopes.specs.Scopes.{Table, table_of, Counts, no_counts, counts_after}
use Rattle.bpl_declaration_faults.specs.DeclFaults.{nothing_before, fault_of}
use Rattle.canonical_text.specs.WrittenExpression.{IsName}
use Rattle.canonical_text.specs.WrittenStatement.{IsWrittenDecl}
use Rattle.canonical_text.specs.RoundTrip.{AreWrittenDecls}
use Rattle.canonical_text.specs.Heads.{HaveBody, whole, apart}
use Rattle.canonical_text.proofs.TextsTold.{texts_tell}
use Rattle.bpl_resolve.specs.Elaborate.{Implemented, or_else, implementation_of, own_body, proc_body, proc_of, procs_in, module_of}
use Rattle.bpl_resolve.proofs.EntriesFine.{none_faulty}
use Rattle.vc_build.specs.Rebuild.{with_body}
use Rattle.rebuild_laws.specs.DependencyTexts.{bodies_at, other_positions, DependencyTextsTell}
use Rattle.rebuild_laws.proofs.InLists.{In, in_list, list_in, in_filter}
use Rattle.rebuild_laws.proofs.TextsAt.{bodies_joined, bodies_written, depends_is, bodies_named, named_bodies}
use Rattle.rebuild_laws.proofs.OwnNames.{implementation_name, Stands, IsOnly, one_named, one_implements, none_for_own}

-- the declaration of a procedure of the module
pub record IsOf (ds : List Decl) (t : Table) (c : Counts) (xs : List Decl) (p : Proc) : Type 0 where
  pub name : Name
  pub params : Option Params
  pub signature : Signature
  pub specs : List Spec
  pub body : Option Body
  pub stands : Stands (procedure name params signature specs body) xs
  pub is : proc_of t c name.text signature specs (or_else (own_body signature body) (implementation_of ds name.text)) ≡ p

module _ (ds : List Decl) (t : Table) (c : Counts) where
  further : (x : Decl) (xs : List Decl) (p : Proc) → IsOf ds t c xs p → IsOf ds t c (x ∷ xs) p
  further x xs p h = record { name = h.name; params = h.params; signature = h.signature; specs = h.specs; body = h.body; stands = inr h.stands; is = h.is }

  pub of_procs : (xs : List Decl) (p : Proc) → In p (flat_map (λ (d : Decl). procs_in ds t c d.body) xs) → IsOf ds t c xs p
  of_procs [] p h = absurd h
  of_procs (x ∷ xs) p h = by (of_procs xs p) x.body refl h
    where
      by : (In p (flat_map (λ (d : Decl). procs_in ds t c d.body) xs) → IsOf ds t c xs p) → (d : DeclBody) → x.body ≡ d → In p (procs_in ds t c d ++ flat_map (λ (d : Decl). procs_in ds t c d.body) xs) → IsOf ds t c (x ∷ xs) p
      by later (procedure n ps g ss b) e (inl q) = record { name = n; params = ps; signature = g; specs = ss; body = b; stands = inl e; is = q }
      by later (procedure n ps g ss b) e (inr q) = further x xs p (later q)
      by later (implementation n ps g b) e q = further x xs p (later q)
      by later (constant u ns s) e q = further x xs p (later q)
      by later (function n ps ins r v) e q = further x xs p (later q)
      by later (axiom_of v) e q = further x xs p (later q)
      by later (variables gs) e q = further x xs p (later q)
      by later (synonym n s) e q = further x xs p (later q)

pub its_name : (k : ℕ) (xs : List Decl) (n : Name) (ps : Option Params) (g : Signature) (ss : List Spec) (b : Option Body) → AreWrittenDecls k xs → Stands (procedure n ps g ss b) xs → IsName n
its_name k [] n ps g ss b w h = absurd h
its_name k (x ∷ xs) n ps g ss b w (inl e) = (written x.body e w.1).0
  where
    written : (d : DeclBody) → d ≡ procedure n ps g ss b → IsWrittenDecl d → IsWrittenDecl (procedure n ps g ss b)
    written d q v = subst IsWrittenDecl q v
its_name k (x ∷ xs) n ps g ss b w (inr h) = its_name (axioms_with k x.body) xs n ps g ss b w.2 h

pub one_body : (n : List ℕ) (xs : List Decl) (d : DeclBody) → IsOnly n d xs → map (λ (x : Decl). x.body) (filter (λ (x : Decl). bytes_eq n x.name) xs) ≡ d ∷ []
one_body n xs d r = ap (map (λ (x : Decl). x.body)) r.1 ∙ ap (λ y. y ∷ []) r.2

module _ (ds : List Decl) (w : AreWrittenDecls 0 ds) (none : fault_of ds ≡ None) where
  abbrev TT : Table
  TT = table_of ds

  abbrev CC : Counts
  CC = counts_after no_counts ds

  pub own_bodies : (p : Proc) → bodies_at ds (own_positions (module_of ds) p) ≡ bodies_named ds p.name ds ++ bodies_named ds (implementation_name p.name) ds
  own_bodies p = bodies_joined ds (filter (is_named (module_of ds) p.name) (positions (module_of ds))) (filter (is_named (module_of ds) (implementation_name p.name)) (positions (module_of ds)))
      ∙ λ i. named_bodies ds p.name i ++ named_bodies ds (implementation_name p.name) i

  pub some_implemented : (o : Option Implemented) → is_some (proc_body TT CC o) ≡ true → (i : Implemented) × (o ≡ Some i)
  some_implemented None e = absurd (cc)
  some_implemented (Some i) e = (i, refl)

  -- by the procedure's own body
  by_body : (n : Name) (ps : Option Params) (g : Signature) (ss : List Spec) (b : Option Body) → IsName n → Stands (procedure n ps g ss b) ds → is_some (proc_body TT CC (or_else (own_body g b) (implementation_of ds n.text))) ≡ true
      → HaveBody (bodies_named ds n.text ds ++ bodies_named ds (implementation_name n.text) ds)
  by_body n ps g ss (Some b) i h e =
      let first = one_body n.text ds (procedure n ps g ss (Some b)) (one_named TT CC n i ps g ss (Some b) nothing_before 0 ds w (none_faulty ds none) h) in
      let second = ap (map (λ (x : Decl). x.body)) (none_for_own TT CC n i ps g ss b nothing_before 0 ds w (none_faulty ds none) h) in
      subst HaveBody (λ j. sym first j ++ sym second j) whole
  by_body n ps g ss None i h e =
      let first = one_body n.text ds (procedure n ps g ss None) (one_named TT CC n i ps g ss None nothing_before 0 ds w (none_faulty ds none) h) in
      let o = some_implemented (implementation_of ds n.text) e in
      let r = one_implements TT CC n.text nothing_before 0 ds o.0 w (none_faulty ds none) o.1 in
      let second = one_body (implementation_name n.text) ds (implementation r.is.name r.is.params r.is.signature r.is.body) (r.decl, r.only, r.is.is) in
      subst HaveBody (λ j. sym first j ++ sym second j) apart

  have_body : (p : Proc) → IsOf ds TT CC ds p → is_some p.body ≡ true → HaveBody (bodies_at ds (own_positions (module_of ds) p))
  have_body p h e =
      let i = its_name 0 ds h.name h.params h.signature h.specs h.body w h.stands in
      let f = subst (λ (q : Proc). is_some q.body ≡ true) (sym h.is) e in
      let r = by_body h.name h.params h.signature h.specs h.body i h.stands f in
      subst HaveBody (sym (own_bodies p ∙ ap (λ (q : Proc). bodies_named ds q.name ds ++ bodies_named ds (implementation_name q.name) ds) (sym h.is))) r

  -- a procedure of the module that has a body
  of_body : (p : Proc) → Contains (with_body (module_of ds)) p → In p (module_of ds).procs × (is_some p.body ≡ true)
  of_body p h = in_filter (λ (r : Proc). is_some r.body) (module_of ds).procs p (in_list (with_body (module_of ds)) p h)

  pub is_procedure : (p : Proc) → Contains (with_body (module_of ds)) p → Contains (module_of ds).procs p
  is_procedure p h = list_in (module_of ds).procs p (of_body p h).0

  pub its_body : (p : Proc) → Contains (with_body (module_of ds)) p → HaveBody (bodies_at ds (own_positions (module_of ds) p))
  its_body p h = let r = of_body p h in have_body p (of_procs ds TT CC ds p r.0) r.1

pub dependency_texts_tell : DependencyTextsTell
dependency_texts_tell = λ ds es p q w v f g hp hq e.
    texts_tell (bodies_at ds (own_positions (module_of ds) p)) (bodies_at es (own_positions (module_of es) q)) (bodies_at ds (other_positions (module_of ds) p)) (bodies_at es (other_positions (module_of es) q))
    (its_body ds w f p hp) (its_body es v g q hq)
    (bodies_written ds w (own_positions (module_of ds) p)) (bodies_written es v (own_positions (module_of es) q))
    (bodies_written ds w (other_positions (module_of ds) p)) (bodies_written es v (other_positions (module_of es) q))
    (sym (depends_is ds p) ∙ (e ∙ depends_is es q))
