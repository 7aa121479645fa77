-- In a program without faults the procedure for which a name stands is made of the declaration at its position, which has no fault.
use Rattle.std.specs.Prelude.{◌≡◌, ℕ, zero, suc, Bool, true, false, ◌||◌, cond, List, [], ◌∷◌, slice_get, bytes_eq, Option, Some, None}
use Rattle.std.proofs.Common.{refl, ap, sym, ◌∙◌, subst, arith, inl, inr}
use Rattle.bpl_ast.specs.Place.{Name, Params}
use Rattle.bpl_ast.specs.Statement.{Spec, Signature, Body, DeclBody, procedure, Decl}
use Rattle.bpl_model.specs.Module.{Proc}
use Rattle.bv_base.specs.Text.{is_among}
use Rattle.bpl_scopes.specs.Scopes.{Text, Contract, contract_with, a_procedure, Entry, Table, table_of, Counts, no_counts, counts_after, declared_names, texts_of, entries_of, entry_of, entity_of}
use Rattle.bpl_declaration_faults.specs.DeclFaults.{decl_faults, nothing_before, fault_of}
use Rattle.bpl_resolve.specs.Elaborate.{Implemented, or_else, own_body, implementation_of, proc_of, module_of}
use Rattle.bpl_resolve.proofs.Ways.{text_itself}
use Rattle.bpl_resolve.proofs.EntriesFine.{none_faulty}
use Rattle.bpl_resolve.proofs.ModuleSorts.{numbered_entity}
use Rattle.rebuild_laws.proofs.InLists.{In}
use Rattle.rebuild_laws.proofs.OwnNames.{Stands}
use Rattle.rebuild_laws.proofs.TextsOfProcedures.{of_procs}
use Rattle.rebuild_laws.proofs.Located.{found_at}
use Rattle.rebuild_laws.proofs.UsedNames.{entity_entry}
use Rattle.rebuild_laws.proofs.AxiomsOfTexts.{faults_at}
use Rattle.rebuild_laws.proofs.ContractsFine.{ContractFine, contract_fine}

at_in : {A : Type 0} (xs : List A) (k : ℕ) (x : A) → slice_get xs k ≡ Some x → In x xs
at_in [] k x e = absurd (cc)
at_in (y ∷ ys) zero x e = let q : y ≡ x = cc in inl q
at_in (y ∷ ys) (suc k) x e = inr (at_in ys k x e)

stands_at : (d : DeclBody) (xs : List Decl) → Stands d xs → (j : ℕ) × (y : Decl) × (slice_get xs j ≡ Some y) × (y.body ≡ d)
stands_at d [] h = absurd h
stands_at d (x ∷ xs) (inl e) = (zero, x, refl, e)
stands_at d (x ∷ xs) (inr h) = let r = stands_at d xs h in (suc r.0, r.1, r.2, r.3)

one_found : (f : Entry) (n : Text) (e : Entry) → entry_of (f ∷ []) n ≡ Some e → f ≡ e
one_found f n e h = by (bytes_eq f.name n) h
  where
    by : (b : Bool) → cond b (Some f) None ≡ Some e → f ≡ e
    by true g = cc
    by false g = absurd (cc)

one_entry : (e f : Entry) → Some e ≡ Some f → e ≡ f
one_entry e f h = cc

same_contract : (k l : ℕ) (c d : Contract) → a_procedure k c ≡ a_procedure l d → c ≡ d
same_contract k l c d e = cc

module _ (ds : List Decl) (none : fault_of ds ≡ None) where
  abbrev T : Table
  T = table_of ds

  abbrev C : Counts
  C = counts_after no_counts ds

  pub record DeclaredProcedure (n : Text) (k : ℕ) (d : Contract) : Type 0 where
    pub name : Name
    pub params : Option Params
    pub signature : Signature
    pub specs : List Spec
    pub body : Option Body
    pub position : ℕ
    pub decl : Decl
    pub at : slice_get ds position ≡ Some decl
    pub is : decl.body ≡ procedure name params signature specs body
    pub contract : d ≡ contract_with signature specs
    pub fine : ContractFine T C signature specs
    pub entry : Entry
    pub found : entry_of T n ≡ Some entry
    pub placed : entry.decl ≡ position
    pub implemented : Option Implemented
    pub here : slice_get (module_of ds).procs k ≡ Some (proc_of T C n signature specs implemented)

  pub declared_procedure : (n : Text) (k : ℕ) (d : Contract) → entity_of T n ≡ Some (a_procedure k d) → DeclaredProcedure n k d
  declared_procedure n k d e =
      let a = numbered_entity ds none n (a_procedure k d) e in
      let o = of_procs ds T C ds (proc_of T C n d.signature a.1 a.0) (at_in (module_of ds).procs k (proc_of T C n d.signature a.1 a.0) a.2) in
      let i = or_else (own_body o.signature o.body) (implementation_of ds o.name.text) in
      let named : o.name.text ≡ n = ap (λ (p : Proc). p.name) o.is in
      let s = stands_at (procedure o.name o.params o.signature o.specs o.body) ds o.stands in
      let declares : is_among (texts_of (declared_names s.1.body)) n ≡ true =
      ap (λ x. is_among (texts_of (declared_names x)) n) s.3 ∙ (ap (λ m. is_among (m ∷ []) n) named ∙ ap (λ b. b || false) (text_itself n)) in
      let f = found_at T C nothing_before no_counts 0 ds s.0 s.1 n (none_faulty ds none) s.2 declares in
      let place = f.decl in
      let x = one_found (record { name = o.name.text; decl = f.entry.decl; entity = a_procedure f.counts.procedures (contract_with o.signature o.specs) }) n f.entry
      (ap (λ y. entry_of (entries_of f.counts f.entry.decl y) n) (sym s.3) ∙ f.here) in
      let r = entity_entry T n (a_procedure k d) e in
      let one = one_entry f.entry r.0 (sym f.is ∙ r.1) in
      let entities : a_procedure k d ≡ a_procedure f.counts.procedures (contract_with o.signature o.specs) = sym r.2 ∙ ap (λ (z : Entry). z.entity) (sym one ∙ sym x) in
      let g = faults_at T C nothing_before ds s.0 s.1 (none_faulty ds none) s.2 in
      record {
        name = o.name;
        params = o.params;
        signature = o.signature;
        specs = o.specs;
        body = o.body;
        position = s.0;
        decl = s.1;
        at = s.2;
        is = s.3;
        contract = same_contract k f.counts.procedures d (contract_with o.signature o.specs) entities;
        fine = contract_fine T C g.0 o.name o.params o.signature o.specs o.body (subst (λ y. decl_faults T C g.0 y ≡ []) s.3 g.1);
        entry = f.entry;
        found = f.is;
        placed = omega (arith, place);
        implemented = i;
        here = a.2 ∙ ap Some (sym o.is ∙ ap (λ m. proc_of T C m o.signature o.specs i) named);
      }
