-- What is new where no other declaration is revised is so where some are.
use Rattle.std.proofs.Common.{◌≡◌, ◌≢◌, refl, sym, ap, ◌∙◌, subst, inl, inr, ℕ, zero, suc, ◌+◌, ◌<◌, Bool, true, List, [], ◌∷◌, length, take, slice_get, slice_set, get_or, cond, count_by, Some, None}
use Rattle.std.proofs.lemmas.List.{length-set}
use Rattle.std.proofs.lemmas.List.Sums.{sum_by-cons}
use Rattle.std.proofs.lemmas.Option.{slice_get-get_or}
use Rattle.std.proofs.lemmas.Bool.{false≢true}
use Rattle.logic_core.specs.Tree.{Tree}
use Rattle.bpl_ast.specs.Statement.{DeclBody, constant, function, axiom_of, variables, synonym, procedure, implementation, Decl}
use Rattle.bpl_declaration_faults.specs.DeclFaults.{fault_of}
use Rattle.bpl_scopes.specs.Scopes.{Table, table_of, Counts, no_counts, counts_after}
use Rattle.bpl_model.specs.Module.{DeclText, with_procedure}
use Rattle.bpl_resolve.specs.Elaborate.{decl_text, procs_in, axioms_in, module_of}
use Rattle.body_revision.specs.Revised.{IsOtherAxiom, IsOtherFunction, IsRevised}
use Rattle.body_revision.specs.Procedures.{is_procedure, is_axiom, procedure_place, procedure_by}
use Rattle.body_revision.specs.Names.{own_fault}
use Rattle.body_revision.specs.Revision.{values_in, IsPartOf, IsNew, AreNew, with_axiom, with_function, with_part, revised, IsThere, HasPlaces, all_put}
use Rattle.body_revision.specs.Laws.{RevisionsGoTogether}
use Rattle.body_revision.specs.declared.revised.ModulePart.{ModulePart}
use Rattle.body_revision.specs.declared.revised.ModulePart.TheVariants.{Procedure, Axiom, Function}
use Rattle.body_revision.specs.declared.revised.Revision.{Revision}
use Rattle.body_revision.proofs.FoundPlaces.{place_stays, kind_stays, axiom_stays, still_revised, given, IsFound, apart}
use Rattle.body_revision.proofs.SameTable.{tables_alike, same_counts}
use Rattle.body_revision.proofs.TablesAlike.{LikeTables}
use Rattle.body_revision.proofs.DeclarationReadings.{own_like, axioms_like, values_like, procs_like, decl_text_like}
use Rattle.body_revision.proofs.OwnFaults.{none_by_itself}
use Rattle.body_revision.proofs.RevisedModule.{module_revised, procs_there, texts_there}
use Rattle.body_revision.proofs.RevisedAxiom.{axiom_revised, axioms_there}
use Rattle.body_revision.proofs.RevisedFunction.{function_revised, functions_there}

abbrev Counted : (DeclBody → Bool) → List Decl → ℕ
Counted p ds = count_by (λ (d : Decl). p d.body) ds

abbrev one : (DeclBody → Bool) → Decl → ℕ
one p d = cond (p d.body) 1 0

module _ (p : DeclBody → Bool) (stays : (d e : DeclBody) → IsRevised d e → p e ≡ p d) where
  as_many : (ds : List Decl) (at k : ℕ) (e : Decl) → ((d : Decl) → slice_get ds at ≡ Some d → IsRevised d.body e.body) → Counted p (take k (slice_set ds at e)) ≡ Counted p (take k ds)
  as_many [] at k e r = refl
  as_many (x ∷ xs) zero zero e r = refl
  as_many (x ∷ xs) zero (suc k) e r =
      sum_by-cons (one p) e (take k xs) ∙ (λ i. cond (stays x.body e.body (r x refl) i) 1 0 + Counted p (take k xs)) ∙ sym (sum_by-cons (one p) x (take k xs))
  as_many (x ∷ xs) (suc at) zero e r = refl
  as_many (x ∷ xs) (suc at) (suc k) e r =
      sum_by-cons (one p) x (take k (slice_set xs at e)) ∙ (λ i. one p x + as_many xs at k e r i) ∙ sym (sum_by-cons (one p) x (take k xs))

get_other : (ds : List Decl) (at k : ℕ) (e f : Decl) → at ≢ k → get_or (slice_set ds at e) k f ≡ get_or ds k f
get_other [] at k e f h = refl
get_other (x ∷ xs) zero zero e f h = absurd (h refl)
get_other (x ∷ xs) zero (suc k) e f h = refl
get_other (x ∷ xs) (suc at) zero e f h = refl
get_other (x ∷ xs) (suc at) (suc k) e f h = get_other xs at k e f (λ s. h (ap suc s))

-- what states no axiom has its procedure
procedure_found : (t : Table) (c : Counts) (ds : List Decl) (at : ℕ) (e : Decl) (part : ModulePart) → IsPartOf t c ds at e part → IsFound ds at e.body
procedure_found t c ds at e (Procedure k p) is h = (is.place, is.found)
procedure_found t c ds at e (Function k f) is h = absurd (by e.body is h)
  where
    by : (b : DeclBody) → values_in t c b ≡ (k, f) ∷ [] → is_procedure b ≡ true → ⊥
    by (procedure n ps s ss b) none h = cc
    by (implementation n ps s b) none h = false≢true h
    by (constant u ns s) none h = false≢true h
    by (function n ps ins s x) none h = false≢true h
    by (axiom_of x) none h = false≢true h
    by (variables gs) none h = false≢true h
    by (synonym n s) none h = false≢true h
procedure_found t c ds at e (Axiom k f) is h = absurd (by e.body is.made h)
  where
    by : (b : DeclBody) → axioms_in t c b ≡ f ∷ [] → is_procedure b ≡ true → ⊥
    by (procedure n ps s ss b) none h = cc
    by (implementation n ps s b) none h = false≢true h
    by (constant u ns s) none h = false≢true h
    by (function n ps ins s x) none h = false≢true h
    by (axiom_of x) none h = false≢true h
    by (variables gs) none h = false≢true h
    by (synonym n s) none h = false≢true h

-- its procedure is the same
still_by : (ds : List Decl) (at : ℕ) (d e : Decl) (k : ℕ) (f : Decl) (q : ℕ) → slice_get ds at ≡ Some d → IsRevised d.body e.body → IsFound ds at e.body → procedure_place ds k f.body ≡ Some q
    → procedure_by (slice_set ds at e) q f ≡ procedure_by ds q f
still_by ds at d e k f q g r found there = by f.body there
  where
    by : (b : DeclBody) → procedure_place ds k b ≡ Some q → cond (is_procedure b) b (get_or (slice_set ds at e) q f).body ≡ cond (is_procedure b) b (get_or ds q f).body
    by (procedure n ps s ss b) h = refl
    by (implementation n ps s b) h = ap (λ (x : Decl). x.body) (get_other ds at q e f (apart ds at d e n.text k q g r found (given ds k n ps s b q h)))
    by (constant u ns s) h = absurd (cc)
    by (function n ps ins s x) h = absurd (cc)
    by (axiom_of x) h = absurd (cc)
    by (variables gs) h = absurd (cc)
    by (synonym n s) h = absurd (cc)

module _ (ds : List Decl) (at : ℕ) (e : Decl) (x : Revision) (a : IsNew ds at e x) where
  abbrev d : Decl
  d = get_or ds at e

  stands : slice_get ds at ≡ Some d
  stands = slice_get-get_or ds at e a.there

  tables : LikeTables (table_of (slice_set ds at e)) (table_of ds)
  tables = tables_alike ds at d e stands (a.revised d stands)

  counts : counts_after no_counts (slice_set ds at e) ≡ counts_after no_counts ds
  counts = same_counts ds at d e stands (a.revised d stands)

  still_part : (k : ℕ) (f : Decl) (part : ModulePart) → IsPartOf (table_of ds) (counts_after no_counts ds) ds k f part → IsPartOf (table_of (slice_set ds at e)) (counts_after no_counts (slice_set ds at e)) (slice_set ds at e) k f part
  still_part k f (Procedure j p) b =
      let r = a.revised d stands in
      record {
        place = b.place;
        found = place_stays ds at d e stands r k f.body ∙ b.found;
        counted = b.counted ∙ sym (as_many is_procedure kind_stays ds at b.place e a.revised);
        made = (λ i. procs_in (f ∷ []) (table_of (slice_set ds at e)) (counts i) (still_by ds at d e k f b.place stands r (procedure_found (table_of ds) (counts_after no_counts ds) ds at e x.part a.part) b.found i))
            ∙ (procs_like (table_of (slice_set ds at e)) (table_of ds) tables (f ∷ []) (counts_after no_counts ds) (procedure_by ds b.place f) ∙ b.made);
      }
  still_part k f (Axiom j h) b = record {
    counted = b.counted ∙ sym (as_many is_axiom axiom_stays ds at k e a.revised);
    made = (λ i. axioms_in (table_of (slice_set ds at e)) (counts i) f.body) ∙ (axioms_like (table_of (slice_set ds at e)) (table_of ds) tables (counts_after no_counts ds) f.body ∙ b.made);
  }
  still_part k f (Function j h) b = (λ i. values_in (table_of (slice_set ds at e)) (counts i) f.body) ∙ (values_like (table_of (slice_set ds at e)) (table_of ds) tables (counts_after no_counts ds) f.body ∙ b)

  still_new : (k : ℕ) (f : Decl) (y : Revision) → IsNew ds k f y → IsNew (slice_set ds at e) k f y
  still_new k f y b = record {
    there = subst (λ n. k < n) (sym (length-set ds at e)) b.there;
    revised = still_revised ds at e k f a.revised b.revised;
    faultless = (λ i. own_fault (table_of (slice_set ds at e)) (counts i) f.body) ∙ (own_like (table_of (slice_set ds at e)) (table_of ds) tables (counts_after no_counts ds) f.body ∙ b.faultless);
    placed = b.placed;
    part = still_part k f y.part b.part;
    text = b.text ∙ sym ((λ i. decl_text (table_of (slice_set ds at e)) (length-set ds at e i) f) ∙ decl_text_like (table_of (slice_set ds at e)) (table_of ds) tables (length ds) f);
  }

pub over_all : (ds : List Decl) (cs : List (ℕ × Decl)) (rs : List Revision) (k : ℕ) (f : Decl) (y : Revision) → AreNew ds cs rs → IsNew ds k f y → IsNew (all_put ds cs) k f y
over_all ds [] [] k f y are new = new
over_all ds [] (r ∷ rs) k f y are new = absurd are
over_all ds (c ∷ cs) [] k f y are new = absurd are
over_all ds (c ∷ cs) (r ∷ rs) k f y are new = still_new (all_put ds cs) c.0 c.1 r (over_all ds cs rs c.0 c.1 r are.1 are.0) k f y (over_all ds cs rs k f y are.1 new)

-- one more
one_faultless : (ds : List Decl) (at : ℕ) (e : Decl) (r : Revision) → IsNew ds at e r → fault_of ds ≡ None → fault_of (slice_set ds at e) ≡ None
one_faultless ds at e r n none =
    let g = slice_get-get_or ds at e n.there in
    none_by_itself ds at (get_or ds at e) e g (n.revised (get_or ds at e) g) none n.faultless

-- what states an axiom is revised as one
revised_axiom : (t : Table) (c : Counts) (d e : DeclBody) (f : Tree) → IsRevised d e → axioms_in t c e ≡ f ∷ [] → IsOtherAxiom d e
revised_axiom t c d e f (inl r) made = let none : [] ≡ f ∷ [] = ap (axioms_in t c) (sym r.new) ∙ made in absurd (cc none)
revised_axiom t c d e f (inr (inl r)) made = let none : [] ≡ f ∷ [] = ap (axioms_in t c) (sym r.new) ∙ made in absurd (cc none)
revised_axiom t c d e f (inr (inr (inl r))) made = r
revised_axiom t c d e f (inr (inr (inr r))) made = let none : [] ≡ f ∷ [] = ap (axioms_in t c) (sym r.new) ∙ made in absurd (cc none)

-- and what gives a function a value as one
revised_function : (t : Table) (c : Counts) (d e : DeclBody) (k : ℕ) (f : Tree) → IsRevised d e → values_in t c e ≡ (k, f) ∷ [] → IsOtherFunction d e
revised_function t c d e k f (inl r) made = let none : [] ≡ (k, f) ∷ [] = ap (values_in t c) (sym r.new) ∙ made in absurd (cc none)
revised_function t c d e k f (inr (inl r)) made = let none : [] ≡ (k, f) ∷ [] = ap (values_in t c) (sym r.new) ∙ made in absurd (cc none)
revised_function t c d e k f (inr (inr (inl r))) made = let none : [] ≡ (k, f) ∷ [] = ap (values_in t c) (sym r.new) ∙ made in absurd (cc none)
revised_function t c d e k f (inr (inr (inr r))) made = r

part_revised : (ds : List Decl) (at : ℕ) (d e : Decl) (part : ModulePart) (k : ℕ) (x : DeclText) → fault_of ds ≡ None → slice_get ds at ≡ Some d → IsRevised d.body e.body → IsPartOf (table_of ds) (counts_after no_counts ds) ds at e part
    → k ≡ at → x ≡ decl_text (table_of ds) (length ds) e → module_of (slice_set ds at e) ≡ with_part part k x (module_of ds)
part_revised ds at d e (Procedure j p) k x none g r n placed text =
    module_revised ds at d e g r n.place n.found p n.made ∙ sym (λ i. with_procedure (n.counted i) p (placed i) (text i) (module_of ds))
part_revised ds at d e (Axiom j f) k x none g r n placed text =
    axiom_revised ds at d e g (revised_axiom (table_of ds) (counts_after no_counts ds) d.body e.body f r n.made) f n.made ∙ sym (λ i. with_axiom (n.counted i) f (placed i) (text i) (module_of ds))
part_revised ds at d e (Function j f) k x none g r n placed text =
    function_revised ds at d e g (revised_function (table_of ds) (counts_after no_counts ds) d.body e.body j f r n) none j f n ∙ sym (λ i. with_function j f (placed i) (text i) (module_of ds))

one_revised : (ds : List Decl) (at : ℕ) (e : Decl) (r : Revision) → fault_of ds ≡ None → IsNew ds at e r → module_of (slice_set ds at e) ≡ revised r (module_of ds)
one_revised ds at e r none n =
    let g = slice_get-get_or ds at e n.there in
    part_revised ds at (get_or ds at e) e r.part r.decl_at r.text none g (n.revised (get_or ds at e) g) n.part n.placed n.text

-- its places are in the module
part_there : (ds : List Decl) (at : ℕ) (d e : Decl) (part : ModulePart) → fault_of ds ≡ None → slice_get ds at ≡ Some d → IsRevised d.body e.body → IsPartOf (table_of ds) (counts_after no_counts ds) ds at e part → IsThere part (module_of ds)
part_there ds at d e (Procedure j p) none g r n = subst (λ k. k < length (module_of ds).procs) (sym n.counted) (procs_there ds at d e g r n.place n.found)
part_there ds at d e (Axiom j f) none g r n =
    subst (λ k. k < length (module_of ds).axioms) (sym n.counted) (axioms_there ds at d e g (revised_axiom (table_of ds) (counts_after no_counts ds) d.body e.body f r n.made))
part_there ds at d e (Function j f) none g r n =
    functions_there ds at d e g (revised_function (table_of ds) (counts_after no_counts ds) d.body e.body j f r n) none j f n

pub new_there : (ds : List Decl) (at : ℕ) (e : Decl) (r : Revision) → fault_of ds ≡ None → IsNew ds at e r → HasPlaces (module_of ds) r
new_there ds at e r none n =
    let d = get_or ds at e in
    let g = slice_get-get_or ds at e n.there in
    (part_there ds at d e r.part none g (n.revised d g) n.part, subst (λ k. k < length (module_of ds).texts) (sym n.placed) (texts_there ds at d e g))

pub go_together : RevisionsGoTogether
go_together ds [] [] none are = (none, refl)
go_together ds [] (r ∷ rs) none are = absurd are
go_together ds (c ∷ cs) [] none are = absurd are
go_together ds (c ∷ cs) (r ∷ rs) none are =
    let rest = go_together ds cs rs none are.1 in
    let new = over_all ds cs rs c.0 c.1 r are.1 are.0 in
    (one_faultless (all_put ds cs) c.0 c.1 r new rest.0, one_revised (all_put ds cs) c.0 c.1 r rest.0 new ∙ ap (revised r) rest.1)
