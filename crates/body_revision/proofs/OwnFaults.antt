-- A revision in a program without faults: its faults there are those where nothing stands before it.
use Rattle.std.proofs.Common.{◌≡◌, refl, sym, ap, ◌∙◌, inl, inr, ℕ, zero, suc, Bool, true, false, ◌&&◌, List, [], ◌∷◌, ◌++◌, flat_map, take, slice_get, slice_set, Option, Some, None}
use Rattle.std.proofs.lemmas.Option.{none-some}
use Rattle.std.proofs.lemmas.Bool.{false≢true}
use Rattle.std.specs.Prelude.{is_some}
use Rattle.bpl_ast.specs.Place.{Name}
use Rattle.bpl_ast.specs.Statement.{Body, DeclBody, function, procedure, implementation, Decl}
use Rattle.bpl_scopes.specs.declared.fault.Fault.{Fault}
use Rattle.bpl_scopes.specs.declared.fault.TypeKind.TheVariants.{Twice as twice}
use Rattle.bv_base.specs.Text.{is_among}
use Rattle.bpl_scopes.specs.Fault.{first_fault, again, if_so}
use Rattle.bpl_scopes.specs.Scopes.{contract_with, Table, table_of, Counts, no_counts, counts_after, entity_of}
use Rattle.bpl_scopes.specs.Functions.{argument_names}
use Rattle.bpl_scopes.specs.TypeFaults.{params_faults, type_faults, group_where_faults}
use Rattle.bpl_scopes.proofs.IsFirst.{no_first-no_fault}
use Rattle.bpl_declaration_faults.specs.DeclFaults.{Before, decl_faults, nothing_before, in_decl, fault_of, cycle_faults, argument_type_faults, function_value_faults, signature_faults, parameter_clause_faults, optional_locals, has_body, spec_faults, body_faults, optional_body_faults, implemented_faults, implemented_modifies}
use Rattle.bpl_declaration_faults.specs.Variables.{names_in_body}
use Rattle.bpl_statement_faults.specs.StmtFaults.{modified_by}
use Rattle.body_revision.specs.Revised.{IsRevised}
use Rattle.body_revision.specs.EarlierDecls.{earlier_decls}
use Rattle.body_revision.specs.Names.{own_fault}
use Rattle.body_revision.proofs.KeptBodies.{of_itself}
use Rattle.body_revision.proofs.FirstOfRevised.{revised_fault}

front_empty : {A : Type 0} (xs ys : List A) → xs ++ ys ≡ [] → xs ≡ []
front_empty [] ys e = refl
front_empty (x ∷ xs) ys e = absurd (cc)

back_empty : {A : Type 0} (xs ys : List A) → xs ++ ys ≡ [] → ys ≡ []
back_empty [] ys e = e
back_empty (x ∷ xs) ys e = absurd (cc)

has_body_stays : (a b : Option Body) → is_some b ≡ is_some a → has_body b ≡ has_body a
has_body_stays None None h = refl
has_body_stays None (Some b) h = absurd (false≢true (sym h))
has_body_stays (Some a) None h = absurd (false≢true h)
has_body_stays (Some a) (Some b) h = refl

nothing_twice : (b : Bool) (n : Name) → if_so (b && false) twice n.at ≡ []
nothing_twice true n = refl
nothing_twice false n = refl

-- one that has no fault says that nothing before has its name, or gives it a body
own_by : (t : Table) (c : Counts) (b : Before) (d e : DeclBody) → IsRevised d e → decl_faults t c b d ≡ [] → decl_faults t c b e ≡ decl_faults t c nothing_before e
own_by t c b d e (inl r) none =
    let n = r.name in
    let old : decl_faults t c b (procedure r.name r.params r.signature r.specs r.before) ≡ [] = ap (decl_faults t c b) (sym r.old) ∙ none in
    let once : again twice b.names (n ∷ []) ≡ [] = front_empty (again twice b.names (n ∷ [])) _ old in
    let alone : if_so (has_body r.before && is_among b.bodies n.text) twice n.at ≡ [] = front_empty (if_so (has_body r.before && is_among b.bodies n.text) twice n.at) _ (back_empty (again twice b.names (n ∷ [])) _ old) in
    let still : if_so (has_body r.after && is_among b.bodies n.text) twice n.at ≡ if_so (has_body r.after && false) twice n.at
    = (λ i. if_so (has_body_stays r.before r.after r.bodies i && is_among b.bodies n.text) twice n.at) ∙ alone ∙ sym (nothing_twice (has_body r.after) n) in
    let others : List Fault = signature_faults t r.params r.signature ++ (parameter_clause_faults t c r.signature ++ (again twice [] (names_in_body r.signature (optional_locals r.after)) ++ (flat_map (spec_faults t c r.signature) r.new_specs
    ++ optional_body_faults t c r.signature (Some (modified_by t (contract_with r.signature r.new_specs))) r.after))) in
    ap (decl_faults t c b) r.new ∙ (λ i. once i ++ (still i ++ others)) ∙ sym (ap (decl_faults t c nothing_before) r.new)
own_by t c b d e (inr (inr (inl r))) none = ap (decl_faults t c b) r.new ∙ sym (ap (decl_faults t c nothing_before) r.new)
own_by t c b d e (inr (inr (inr r))) none =
    let n = r.name in
    let old : decl_faults t c b (function n r.params r.ins r.result r.before) ≡ [] = ap (decl_faults t c b) (sym r.old) ∙ none in
    let once : again twice b.names (n ∷ []) ≡ [] = front_empty (again twice b.names (n ∷ [])) _ old in
    let others : List Fault = cycle_faults t n ++ (params_faults r.params ++ (again twice [] (argument_names r.ins) ++ (argument_type_faults t r.ins ++ (type_faults t [] r.result ++ function_value_faults t c n r.ins r.result r.after)))) in
    ap (decl_faults t c b) r.new ∙ (λ i. once i ++ others) ∙ sym (ap (decl_faults t c nothing_before) r.new)
own_by t c b d e (inr (inl r)) none =
    let n = r.name in
    let old : decl_faults t c b (implementation r.name r.params r.signature r.before) ≡ [] = ap (decl_faults t c b) (sym r.old) ∙ none in
    let alone : if_so (is_among b.bodies n.text) twice n.at ≡ [] = front_empty (if_so (is_among b.bodies n.text) twice n.at) _ old in
    let others : List Fault = implemented_faults t (entity_of t n.text) r.signature n.at ++ (signature_faults t r.params r.signature ++ (group_where_faults r.signature.ins ++ (group_where_faults r.signature.outs
    ++ (again twice [] (names_in_body r.signature r.after.locals) ++ body_faults t c r.signature (implemented_modifies t (entity_of t n.text)) r.after)))) in
    ap (decl_faults t c b) r.new ∙ (λ i. alone i ++ others) ∙ sym (ap (decl_faults t c nothing_before) r.new)

set_same : {A : Type 0} (xs : List A) (i : ℕ) (x : A) → slice_get xs i ≡ Some x → slice_set xs i x ≡ xs
set_same [] i x e = refl
set_same (y ∷ xs) zero x e = let s : x ≡ y = cc in ap (λ z. z ∷ xs) s
set_same (y ∷ xs) (suc i) x e = ap (λ zs. y ∷ zs) (set_same xs i x e)

here_none : (k : ℕ) (f : Option Fault) → in_decl k f None ≡ None → f ≡ None
here_none k None e = refl
here_none k (Some f) e = absurd (none-some (k, f) (sym e))

pub none_by_itself : (ds : List Decl) (at : ℕ) (d e : Decl) → slice_get ds at ≡ Some d → IsRevised d.body e.body → fault_of ds ≡ None
    → own_fault (table_of ds) (counts_after no_counts ds) e.body ≡ None → fault_of (slice_set ds at e) ≡ None
none_by_itself ds at d e g r none own =
    let t = table_of ds in
    let c = counts_after no_counts ds in
    let b = earlier_decls (take at ds) in
    let same : IsRevised d.body d.body = of_itself d.body e.body r in
    let before : first_fault (decl_faults t c b d.body) ≡ None = here_none at (first_fault (decl_faults t c b d.body)) (sym (revised_fault ds at d d g same none) ∙ (ap fault_of (set_same ds at d g) ∙ none)) in
    let own_there : first_fault (decl_faults t c b e.body) ≡ None = ap first_fault (own_by t c b d.body e.body r (no_first-no_fault (decl_faults t c b d.body) before)) ∙ own in
    revised_fault ds at d e g r none ∙ ap (λ f. in_decl at f None) own_there
