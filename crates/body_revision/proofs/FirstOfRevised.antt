-- The first fault of a program without faults with one revision: that of this declaration.
use Rattle.std.proofs.Common.{◌≡◌, refl, sym, ap, ◌∙◌, ℕ, zero, suc, ◌+◌, arith, List, [], ◌∷◌, ◌++◌, take, slice_get, slice_set, Option, Some, None}
use Rattle.std.proofs.lemmas.Option.{none-some}
use Rattle.std.proofs.lemmas.List.{append_assoc, append-nil}
use Rattle.std.proofs.lemmas.Bool.{false≢true}
use Rattle.std.specs.Prelude.{is_some}
use Rattle.bpl_ast.specs.Place.{Name, Params}
use Rattle.bpl_ast.specs.Statement.{Body, Signature, Spec, DeclBody, procedure, Decl}
use Rattle.bpl_scopes.specs.declared.fault.Fault.{Fault}
use Rattle.bpl_scopes.specs.Fault.{first_fault}
use Rattle.bpl_scopes.specs.Scopes.{Text, Table, table_of, Counts, counts_after, no_counts, texts_of, declared_names}
use Rattle.bpl_declaration_faults.specs.DeclFaults.{Before, before_with, body_names, decl_faults, faults_after, nothing_before, in_decl, first_from, fault_of}
use Rattle.bpl_resolve.proofs.SameBefore.{none_here}
use Rattle.body_revision.specs.Revised.{IsRevised}
use Rattle.body_revision.specs.EarlierDecls.{names_of_decls, bodies_of_decls, turned, earlier_decls}
use Rattle.body_revision.proofs.KeptBodies.{of_revised}
use Rattle.body_revision.proofs.SameTable.{revised_first, tables_alike, same_counts}
use Rattle.body_revision.proofs.DeclarationReadings.{each_like}

bodies_stay : (n : Name) (ps : Option Params) (g : Signature) (ss zs : List Spec) (a b : Option Body) → is_some b ≡ is_some a → body_names (procedure n ps g zs b) ≡ body_names (procedure n ps g ss a)
bodies_stay n ps g ss zs None None h = refl
bodies_stay n ps g ss zs None (Some b) h = absurd (false≢true (sym h))
bodies_stay n ps g ss zs (Some a) None h = absurd (false≢true h)
bodies_stay n ps g ss zs (Some a) (Some b) h = refl

revised_before : (b : Before) (d e : DeclBody) → IsRevised d e → before_with b e ≡ before_with b d
revised_before b = of_revised (before_with b) (λ n ps g ss zs x y same h. λ i. record { names = n.text ∷ b.names; bodies = bodies_stay n ps g ss zs x y h i ++ b.bodies }) (λ n ps g x y. refl) (λ x y. refl) (λ n ps ins v x y h. refl)

none_in : (k : ℕ) (f : Option Fault) (later : Option (ℕ × Fault)) → in_decl k f later ≡ None → (f ≡ None) × (later ≡ None)
none_in k None later h = (refl, h)
none_in k (Some f) later h = absurd (none-some (k, f) (sym h))

-- the declaration stands first
revised_here : (t : Table) (c : Counts) (k : ℕ) (b : Before) (xs : List Decl) (x e : Decl) → IsRevised x.body e.body → first_from k (faults_after t c b (x ∷ xs)) ≡ None
    → first_from k (faults_after t c b (e ∷ xs)) ≡ in_decl k (first_fault (decl_faults t c b e.body)) None
revised_here t c k b xs x e r none =
    ap (λ a. in_decl k (first_fault (decl_faults t c b e.body)) (first_from (k + 1) (faults_after t c a xs))) (revised_before b x.body e.body r)
    ∙ ap (in_decl k (first_fault (decl_faults t c b e.body))) ((none_in k (first_fault (decl_faults t c b x.body)) (first_from (k + 1) (faults_after t c (before_with b x.body) xs)) none).1)

-- it stands anywhere
pub revised_from : (t : Table) (c : Counts) (k : ℕ) (names bodies : List Text) (ds : List Decl) (at : ℕ) (d e : Decl) → slice_get ds at ≡ Some d → IsRevised d.body e.body
    → first_from k (faults_after t c (turned names bodies) ds) ≡ None
    → first_from k (faults_after t c (turned names bodies) (slice_set ds at e)) ≡ in_decl (k + at) (first_fault (decl_faults t c (turned (names ++ names_of_decls (take at ds)) (bodies ++ bodies_of_decls (take at ds))) e.body)) None
revised_from t c k names bodies [] at d e is r none = absurd (none-some d is)
revised_from t c k names bodies (x ∷ xs) zero d e is r none =
    let place : k ≡ k + 0 = omega arith in
    revised_here t c k (turned names bodies) xs x e (revised_first x d e is r) none
    ∙ (λ i. in_decl (place i) (first_fault (decl_faults t c (turned (sym (append-nil names) i) (sym (append-nil bodies) i)) e.body)) None)
revised_from t c k names bodies (x ∷ xs) (suc at) d e is r none =
    let here = (none_in k (first_fault (decl_faults t c (turned names bodies) x.body)) (first_from (k + 1) (faults_after t c (before_with (turned names bodies) x.body) xs)) none).0 in
    let more = names ++ texts_of (declared_names x.body) in
    let others = bodies ++ body_names x.body in
    let place : k + 1 + at ≡ k + suc at = omega arith in
    none_here t c k names bodies more others x (slice_set xs at e) refl refl here
    ∙ revised_from t c (k + 1) more others xs at d e is r (sym (none_here t c k names bodies more others x xs refl refl here) ∙ none)
    ∙ (λ i. in_decl (place i) (first_fault (decl_faults t c (turned (append_assoc names (texts_of (declared_names x.body)) (names_of_decls (take at xs)) i) (append_assoc bodies (body_names x.body) (bodies_of_decls (take at xs)) i)) e.body)) None)

-- the first fault of the program, where these stand before the revised declaration
pub revised_fault : (ds : List Decl) (at : ℕ) (d e : Decl) → slice_get ds at ≡ Some d → IsRevised d.body e.body → fault_of ds ≡ None
    → fault_of (slice_set ds at e) ≡ in_decl at (first_fault (decl_faults (table_of ds) (counts_after no_counts ds) (earlier_decls (take at ds)) e.body)) None
revised_fault ds at d e is r none =
    let place : 0 + at ≡ at = omega arith in
    (λ i. first_from 0 (faults_after (table_of (slice_set ds at e)) (same_counts ds at d e is r i) nothing_before (slice_set ds at e)))
    ∙ ap (first_from 0) (each_like (table_of (slice_set ds at e)) (table_of ds) (tables_alike ds at d e is r) (counts_after no_counts ds) nothing_before (slice_set ds at e))
    ∙ revised_from (table_of ds) (counts_after no_counts ds) 0 [] [] ds at d e is r none
    ∙ ap (λ k. in_decl k (first_fault (decl_faults (table_of ds) (counts_after no_counts ds) (earlier_decls (take at ds)) e.body)) None) place
