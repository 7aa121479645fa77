-- A procedure with a body, of a program without faults, is made of its own declarations; these have no faults, and the names in them are used.
use Rattle.std.specs.Prelude.{◌≡◌, ℕ, zero, suc, Bool, true, false, ◌&&◌, cond, is_some, List, [], ◌∷◌, ◌++◌, map, length, flat_map, slice_get, bytes_eq, Option, Some, None}
use Rattle.std.specs.List.{AllByRecursion, Contains}
use Rattle.std.proofs.Common.{refl, ap, sym, ◌∙◌, subst, inl, inr}
use Rattle.logic_core.proofs.Booleans.{both_true}
use Rattle.bv_base.specs.declared.place.Place.{Place}
use Rattle.bpl_ast.specs.Place.{Name, Params, Ty}
use Rattle.bpl_ast.specs.Tree.{Groups}
use Rattle.bpl_ast.specs.Statement.{Spec, Body, Signature, DeclBody, constant, function, axiom_of, variables, synonym, procedure, implementation, Decl, name_of, axioms_with}
use Rattle.bpl_model.specs.Module.{Proc}
use Rattle.bpl_model.specs.Reach.{own_positions}
use Rattle.bpl_scopes.specs.declared.fault.TypeKind.TheVariants.{Twice as twice, Arity as arity}
use Rattle.bv_base.specs.Text.{is_among}
use Rattle.bpl_scopes.specs.Fault.{again, if_so}
use Rattle.bpl_scopes.specs.Scopes.{Text, contract_with, Entity, a_procedure, Table, table_of, Counts, no_counts, counts_after, names_of, only_names, texts_of, signature_names, entity_of}
use Rattle.bpl_scopes.specs.TypeFaults.{group_where_faults}
use Rattle.bpl_statement_faults.specs.StmtFaults.{modified_by}
use Rattle.bpl_texts.specs.Uses.{signature_uses, spec_uses, body_uses, decl_uses, contract_uses}
use Rattle.bpl_declaration_faults.specs.Variables.{names_in_body}
use Rattle.bpl_declaration_faults.specs.DeclFaults.{Before, nothing_before, signature_faults, parameter_clause_faults, spec_faults, body_faults, has_body, same_texts, same_groups, same_parameters, implemented_faults, implemented_modifies, decl_faults, fault_of}
use Rattle.canonical_text.specs.SameStatement.{bare_spec, bare_body, bare_signature, bare_decl}
use Rattle.canonical_text.specs.RoundTrip.{AreWrittenDecls}
use Rattle.vc_build.specs.Rebuild.{with_body}
use Rattle.bpl_resolve.specs.Elaborate.{Implemented, or_else, implements, implementation_of, own_body, proc_body, proc_of, module_of}
use Rattle.bpl_resolve.proofs.HasSort.{first_empty, second_empty, unless_empty}
use Rattle.bpl_resolve.proofs.Ways.{same_text, text_itself}
use Rattle.bpl_resolve.proofs.EntriesFine.{none_faulty}
use Rattle.bpl_resolve.proofs.DeclaredOnce.{StandsForIt, each_stands}
use Rattle.rebuild_laws.specs.DependencyTexts.{bodies_at}
use Rattle.rebuild_laws.proofs.InLists.{In, in_list, in_filter}
use Rattle.rebuild_laws.proofs.TextsAt.{bodies_named}
use Rattle.rebuild_laws.proofs.TextsOfProcedures.{of_procs, its_name as written_by, one_body, own_bodies, some_implemented}
use Rattle.rebuild_laws.proofs.OwnNames.{implementation_name, Stands, named, one_named, one_implements, none_for_own}
use Rattle.rebuild_laws.proofs.NamesInUse.{Used, in_own}
use Rattle.rebuild_laws.proofs.ContractsFine.{contract_fine}
use Rattle.rebuild_laws.proofs.AxiomsOfTexts.{faults_at, each_used, each_body}

-- a procedure's own declarations, with its contract and its body
pub data OwnBodies : List DeclBody → Signature → List Spec → Signature → Body → Type 0 where
  in_one : {n : Name} {ps : Option Params} {g : Signature} {ss : List Spec} {b : Body} → OwnBodies (procedure n ps g ss (Some b) ∷ []) g ss g b
  in_two : {n m : Name} {ps qs : Option Params} {g h : Signature} {ss : List Spec} {b : Body} → m.text ≡ n.text → OwnBodies (procedure n ps g ss None ∷ implementation m qs h b ∷ []) g ss h b

-- the same but for places
pub record SameOwn (g : Signature) (ss : List Spec) (h : Signature) (b : Body) (k : Signature) (ts : List Spec) (l : Signature) (c : Body) : Type 0 where
  pub signature : bare_signature g ≡ bare_signature k
  pub specs : map bare_spec ss ≡ map bare_spec ts
  pub inner : bare_signature h ≡ bare_signature l
  pub body : bare_body b ≡ bare_body c

pub same_own : (xs ys : List DeclBody) (g : Signature) (ss : List Spec) (h : Signature) (b : Body) (k : Signature) (ts : List Spec) (l : Signature) (c : Body) → OwnBodies xs g ss h b → OwnBodies ys k ts l c → map bare_decl xs ≡ map bare_decl ys → SameOwn g ss h b k ts l c
same_own _ _ _ _ _ _ _ _ _ _ in_one in_one e = record { signature = cc; specs = cc; inner = cc; body = cc }
same_own _ _ _ _ _ _ _ _ _ _ in_one (in_two q) e = absurd (cc)
same_own _ _ _ _ _ _ _ _ _ _ (in_two q) in_one e = absurd (cc)
same_own _ _ _ _ _ _ _ _ _ _ (in_two q) (in_two r) e = record { signature = cc; specs = cc; inner = cc; body = cc }

-- what implements a procedure stands among the declarations
pub record ImplementedBy (n : Text) (i : Implemented) (xs : List Decl) : Type 0 where
  pub decl : Decl
  pub stands : In decl xs
  pub is : implements n decl.body ≡ Some i

implemented_by : (n : Text) (i : Implemented) (xs : List Decl) → implementation_of xs n ≡ Some i → ImplementedBy n i xs
implemented_by n i [] e = absurd (cc)
implemented_by n i (x ∷ xs) e = by (implemented_by n i xs) (implements n x.body) refl e
  where
    by : (implementation_of xs n ≡ Some i → ImplementedBy n i xs) → (o : Option Implemented) → implements n x.body ≡ o → or_else o (implementation_of xs n) ≡ Some i → ImplementedBy n i (x ∷ xs)
    by later None q z = let r = later z in record { decl = r.decl; stands = inr r.stands; is = r.is }
    by later (Some j) q z = record { decl = x; stands = inl refl; is = q ∙ z }

-- it has the name of an implementation
its_name : (n : Text) (d : DeclBody) (i : Implemented) (k : ℕ) → implements n d ≡ Some i → bytes_eq (implementation_name n) (name_of k d) ≡ true
its_name n (implementation m ps g b) i k e = by (bytes_eq m.text n) refl e
  where
    by : (r : Bool) → bytes_eq m.text n ≡ r → ◌≡◌ {A = Option Implemented} (elim r [ true ↦ Some (g, b) | false ↦ None ]) (Some i) → bytes_eq (implementation_name n) (implementation_name m.text) ≡ true
    by true q z = subst (λ y. bytes_eq (implementation_name n) (implementation_name y) ≡ true) (sym (same_text m.text n q)) (text_itself (implementation_name n))
    by false q z = absurd (cc)
its_name n (constant u ns s) i k e = absurd (cc)
its_name n (function m ps ins r x) i k e = absurd (cc)
its_name n (axiom_of x) i k e = absurd (cc)
its_name n (variables gs) i k e = absurd (cc)
its_name n (synonym m s) i k e = absurd (cc)
its_name n (procedure m ps g ss b) i k e = absurd (cc)

its_parts : (n : Text) (m : Name) (ps : Option Params) (g : Signature) (b : Body) (i : Implemented) → implements n (implementation m ps g b) ≡ Some i → i ≡ (g, b)
its_parts n m ps g b i e = by (bytes_eq m.text n) e
  where
    by : (r : Bool) → ◌≡◌ {A = Option Implemented} (elim r [ true ↦ Some (g, b) | false ↦ None ]) (Some i) → i ≡ (g, b)
    by true z = cc
    by false z = absurd (cc)

-- each declaration has its own name
named_so : (k : ℕ) (xs : List Decl) (x : Decl) → AreWrittenDecls k xs → In x xs → (j : ℕ) × (x.name ≡ name_of j x.body)
named_so k [] x w h = absurd h
named_so k (y ∷ xs) x w (inl e) = (k, subst (λ (z : Decl). z.name ≡ name_of k z.body) e w.0)
named_so k (y ∷ xs) x w (inr h) = named_so (axioms_with k y.body) xs x w.2 h

in_named : (n : Text) (xs : List Decl) (x : Decl) → In x xs → bytes_eq n x.name ≡ true → In x (named n xs)
in_named n [] x h e = absurd h
in_named n (y ∷ xs) x h e = by (bytes_eq n y.name) refl h (λ i. in_named n xs x i e)
  where
    by : (b : Bool) → bytes_eq n y.name ≡ b → In x (y ∷ xs) → (In x xs → In x (named n xs)) → In x (cond b (y ∷ named n xs) (named n xs))
    by true q (inl z) rest = inl z
    by true q (inr i) rest = inr (rest i)
    by false q (inl z) rest = let bad : true ≡ false = sym e ∙ (ap (λ (w : Decl). bytes_eq n w.name) (sym z) ∙ q) in absurd (cc)
    by false q (inr i) rest = rest i

the_only : (x y : Decl) (xs : List Decl) → xs ≡ y ∷ [] → In x xs → y ≡ x
the_only x y xs e h = by (subst (In x) e h)
  where
    by : In x (y ∷ []) → y ≡ x
    by (inl z) = z
    by (inr i) = absurd i

-- of names in a row
pub all_first : (P : Text → Type 0) (xs ys : List Text) → AllByRecursion P (xs ++ ys) → AllByRecursion P xs
all_first P [] ys h = tt
all_first P (x ∷ xs) ys h = (h.0, all_first P xs ys h.1)

pub all_second : (P : Text → Type 0) (xs ys : List Text) → AllByRecursion P (xs ++ ys) → AllByRecursion P ys
all_second P [] ys h = h
all_second P (x ∷ xs) ys h = all_second P xs ys h.1

at_place : (P : Decl → Type 0) (xs : List Decl) (k : ℕ) (x : Decl) → AllByRecursion P xs → slice_get xs k ≡ Some x → P x
at_place P [] k x h e = absurd (cc)
at_place P (y ∷ xs) zero x h e = let q : y ≡ x = cc in subst P q h.0
at_place P (y ∷ xs) (suc k) x h e = at_place P xs k x h.1 e

as_many : (ms ns : List Text) → same_texts ms ns ≡ true → length ms ≡ length ns
as_many [] [] e = refl
as_many [] (n ∷ ns) e = absurd (cc)
as_many (m ∷ ms) [] e = absurd (cc)
as_many (m ∷ ms) (n ∷ ns) e = ap suc (as_many ms ns (both_true (bytes_eq m n) (same_texts ms ns) e).1)

pair_texts : (ps : List (Name × Ty)) → length (texts_of (only_names ps)) ≡ length ps
pair_texts [] = refl
pair_texts (p ∷ ps) = ap suc (pair_texts ps)

module _ (ds : List Decl) (p : Proc) (none : fault_of ds ≡ None) where
  abbrev T : Table
  T = table_of ds

  abbrev C : Counts
  C = counts_after no_counts ds

  -- what the procedure is made of
  pub record OwnProcedure : Type 0 where
    pub name : Text
    pub signature : Signature
    pub specs : List Spec
    pub inner : Signature
    pub body : Body
    pub bodies : OwnBodies (bodies_at ds (own_positions (module_of ds) p)) signature specs inner body
    pub is : proc_of T C name signature specs (Some (inner, body)) ≡ p

  module _ (written : AreWrittenDecls 0 ds) where
    -- by a body of its own, or by the one that implements it
    made : (n : Name) (ps : Option Params) (g : Signature) (ss : List Spec) (b : Option Body) → Stands (procedure n ps g ss b) ds → is_some (proc_body T C (or_else (own_body g b) (implementation_of ds n.text))) ≡ true
        → proc_of T C n.text g ss (or_else (own_body g b) (implementation_of ds n.text)) ≡ p → OwnProcedure
    made n ps g ss (Some b) h e q =
        let i = written_by 0 ds n ps g ss (Some b) written h in
        let first = one_body n.text ds (procedure n ps g ss (Some b)) (one_named T C n i ps g ss (Some b) nothing_before 0 ds written (none_faulty ds none) h) in
        let second = ap (map (λ (x : Decl). x.body)) (none_for_own T C n i ps g ss b nothing_before 0 ds written (none_faulty ds none) h) in
        let names : p.name ≡ n.text = ap (λ (r : Proc). r.name) (sym q) in
        let all : bodies_at ds (own_positions (module_of ds) p) ≡ procedure n ps g ss (Some b) ∷ [] =
        own_bodies ds written none p ∙ (ap (λ m. bodies_named ds m ds ++ bodies_named ds (implementation_name m) ds) names ∙ (λ j. first j ++ second j)) in
        record { name = n.text; signature = g; specs = ss; inner = g; body = b; bodies = subst (λ xs. OwnBodies xs g ss g b) (sym all) in_one; is = q }
    made n ps g ss None h e q =
        let i = written_by 0 ds n ps g ss None written h in
        let first = one_body n.text ds (procedure n ps g ss None) (one_named T C n i ps g ss None nothing_before 0 ds written (none_faulty ds none) h) in
        let o = some_implemented ds written none (implementation_of ds n.text) e in
        let r = one_implements T C n.text nothing_before 0 ds o.0 written (none_faulty ds none) o.1 in
        let x = implemented_by n.text o.0 ds o.1 in
        let k = named_so 0 ds x.decl written x.stands in
        let there = the_only x.decl r.decl (named (implementation_name n.text) ds) r.only (in_named (implementation_name n.text) ds x.decl x.stands (ap (bytes_eq (implementation_name n.text)) k.1 ∙ its_name n.text x.decl.body o.0 k.0 x.is)) in
        let is : x.decl.body ≡ implementation r.is.name r.is.params r.is.signature r.is.body = ap (λ (w : Decl). w.body) (sym there) ∙ r.is.is in
        let parts = its_parts n.text r.is.name r.is.params r.is.signature r.is.body o.0 (ap (implements n.text) (sym is) ∙ x.is) in
        let second = one_body (implementation_name n.text) ds (implementation r.is.name r.is.params r.is.signature r.is.body) (r.decl, r.only, r.is.is) in
        let names : p.name ≡ n.text = ap (λ (z : Proc). z.name) (sym q) in
        let all : bodies_at ds (own_positions (module_of ds) p) ≡ procedure n ps g ss None ∷ implementation r.is.name r.is.params r.is.signature r.is.body ∷ [] =
        own_bodies ds written none p ∙ (ap (λ m. bodies_named ds m ds ++ bodies_named ds (implementation_name m) ds) names ∙ (λ j. first j ++ second j)) in
        record {
          name = n.text;
          signature = g;
          specs = ss;
          inner = r.is.signature;
          body = r.is.body;
          bodies = subst (λ xs. OwnBodies xs g ss r.is.signature r.is.body) (sym all) (in_two r.is.same);
          is = ap (proc_of T C n.text g ss) (ap Some (sym parts) ∙ sym o.1) ∙ q;
        }

    pub own_procedure : Contains (with_body (module_of ds)) p → OwnProcedure
    own_procedure h =
        let a = in_filter (λ (r : Proc). is_some r.body) (module_of ds).procs p (in_list (with_body (module_of ds)) p h) in
        let o = of_procs ds T C ds p a.0 in
        made o.name o.params o.signature o.specs o.body o.stands (subst (λ (q : Proc). is_some q.body ≡ true) (sym o.is) a.1) o.is

  -- its declarations have no faults, and the names in them are used
  pub record FineOwn (g : Signature) (ss : List Spec) (h : Signature) (b : Body) : Type 0 where
    pub parameters : parameter_clause_faults T C g ≡ []
    pub specs : flat_map (spec_faults T C g) ss ≡ []
    pub modified : Option (List Text)
    pub body : body_faults T C h modified b ≡ []
    pub ins : length (names_of g.ins) ≡ length (names_of h.ins)
    pub outs : length (names_of g.outs) ≡ length (names_of h.outs)
    pub signature_used : AllByRecursion (Used ds p) (signature_uses g)
    pub specs_used : AllByRecursion (Used ds p) (flat_map (spec_uses (texts_of (signature_names g))) ss)
    pub body_used : AllByRecursion (Used ds p) (body_uses h b)

  abbrev Fine : DeclBody → Type 0
  Fine b = ((bf : Before) × (decl_faults T C bf b ≡ [])) × (StandsForIt T b × AllByRecursion (Used ds p) (decl_uses b))

  each_fine : AllByRecursion Fine (bodies_at ds (own_positions (module_of ds) p))
  each_fine = each_body Fine ds (own_positions (module_of ds) p) (λ k x o e. (
    faults_at T C nothing_before ds k x (none_faulty ds none) e,
    (at_place (λ (y : Decl). StandsForIt T y.body) ds k x (each_stands T C [] nothing_before no_counts 0 ds (λ m h. tt) (none_faulty ds none)) e, each_used (Used ds p) (decl_uses x.body) (λ n i. in_own k x o e i)),
  ))

  -- of a procedure's declaration
  own_body_fine : (n : Name) (ps : Option Params) (g : Signature) (ss : List Spec) (b : Body) (bf : Before) → decl_faults T C bf (procedure n ps g ss (Some b)) ≡ [] → body_faults T C g (Some (modified_by T (contract_with g ss))) b ≡ []
  own_body_fine n ps g ss b bf e =
      let r1 = second_empty (again twice bf.names (n ∷ [])) _ e in
      let r2 = second_empty (if_so (has_body (Some b) && is_among bf.bodies n.text) twice n.at) _ r1 in
      let r3 = second_empty (signature_faults T ps g) _ r2 in
      let r4 = second_empty (parameter_clause_faults T C g) _ r3 in
      let r5 = second_empty (again twice [] (names_in_body g b.locals)) _ r4 in
      second_empty (flat_map (spec_faults T C g) ss) _ r5

  -- of what implements it
  body_fine : (m : Name) (qs : Option Params) (h : Signature) (b : Body) (bf : Before) → decl_faults T C bf (implementation m qs h b) ≡ [] → (implemented_faults T (entity_of T m.text) h m.at ≡ []) × (body_faults T C h (implemented_modifies T (entity_of T m.text)) b ≡ [])
  body_fine m qs h b bf e =
      let r1 = second_empty (if_so (is_among bf.bodies m.text) twice m.at) _ e in
      let r2 = second_empty (implemented_faults T (entity_of T m.text) h m.at) _ r1 in
      let r3 = second_empty (signature_faults T qs h) _ r2 in
      let r4 = second_empty (group_where_faults h.ins) _ r3 in
      let r5 = second_empty (group_where_faults h.outs) _ r4 in
      (first_empty _ _ r1, second_empty (again twice [] (names_in_body h b.locals)) _ r5)

  groups_count : (g h : Signature) (gs hs : Groups) → same_groups T g h gs hs ≡ true → length (names_of gs) ≡ length (names_of hs)
  groups_count g h gs hs e = sym (pair_texts (names_of gs)) ∙ (as_many (texts_of (only_names (names_of gs))) (texts_of (only_names (names_of hs))) (both_true (same_texts (texts_of (only_names (names_of gs))) (texts_of (only_names (names_of hs)))) _ e).0 ∙ pair_texts (names_of hs))

  same_so : (o : Option Entity) (k : ℕ) (g h : Signature) (ss : List Spec) (at : Place) → o ≡ Some (a_procedure k (contract_with g ss)) → implemented_faults T o h at ≡ [] → same_parameters T g h ≡ true
  same_so o k g h ss at q e = unless_empty (same_parameters T g h) arity at (subst (λ z. implemented_faults T z h at ≡ []) q e)

  fine_own : (xs : List DeclBody) (g : Signature) (ss : List Spec) (h : Signature) (b : Body) → OwnBodies xs g ss h b → AllByRecursion Fine xs → FineOwn g ss h b
  fine_own _ _ _ _ _ (in_one {n = n} {ps = ps} {g = g} {ss = ss} {b = b}) f =
      let e = f.0.0.1 in
      let c = contract_fine T C f.0.0.0 n ps g ss (Some b) e in
      let u = f.0.1.1 in
      let k = all_first (Used ds p) (contract_uses (procedure n ps g ss (Some b))) (body_uses g b) u in
      record {
        parameters = c.parameters;
        specs = c.specs;
        modified = Some (modified_by T (contract_with g ss));
        body = own_body_fine n ps g ss b f.0.0.0 e;
        ins = refl;
        outs = refl;
        signature_used = all_first (Used ds p) (signature_uses g) (flat_map (spec_uses (texts_of (signature_names g))) ss) k;
        specs_used = all_second (Used ds p) (signature_uses g) (flat_map (spec_uses (texts_of (signature_names g))) ss) k;
        body_used = all_second (Used ds p) (contract_uses (procedure n ps g ss (Some b))) (body_uses g b) u;
      }
  fine_own _ _ _ _ _ (in_two {n = n} {m = m} {ps = ps} {qs = qs} {g = g} {h = h} {ss = ss} {b = b} q) f =
      let s = f.0.1.0 in
      let c = contract_fine T C f.0.0.0 n ps g ss None f.0.0.1 in
      let d = body_fine m qs h b f.1.0.0.0 f.1.0.0.1 in
      let k = all_first (Used ds p) (contract_uses (procedure n ps g ss None)) [] f.0.1.1 in
      let same = both_true (same_groups T g h g.ins h.ins) (same_groups T g h g.outs h.outs) (same_so (entity_of T m.text) s.0 g h ss m.at (ap (entity_of T) q ∙ s.1) d.0) in
      record {
        parameters = c.parameters;
        specs = c.specs;
        modified = implemented_modifies T (entity_of T m.text);
        body = d.1;
        ins = groups_count g h g.ins h.ins same.0;
        outs = groups_count g h g.outs h.outs same.1;
        signature_used = all_first (Used ds p) (signature_uses g) (flat_map (spec_uses (texts_of (signature_names g))) ss) k;
        specs_used = all_second (Used ds p) (signature_uses g) (flat_map (spec_uses (texts_of (signature_names g))) ss) k;
        body_used = all_second (Used ds p) (contract_uses (implementation m qs h b)) (body_uses h b) f.1.0.1.1;
      }

  pub own_is_fine : (o : OwnProcedure) → FineOwn o.signature o.specs o.inner o.body
  own_is_fine o = fine_own (bodies_at ds (own_positions (module_of ds) p)) o.signature o.specs o.inner o.body o.bodies each_fine
