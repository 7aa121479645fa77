-- A procedure whose name is met stands in both modules at its number there, with contracts that are the same but for places.
use Rattle.std.specs.Prelude.{◌≡◌, ℕ, List, map, slice_get, Option, Some, None}
use Rattle.std.proofs.Common.{refl, ap, sym, ◌∙◌, subst}
use Rattle.bpl_ast.specs.Place.{Name, Params}
use Rattle.bpl_ast.specs.Statement.{Spec, Signature, Body, DeclBody, procedure, Decl}
use Rattle.bpl_model.specs.Module.{Proc}
use Rattle.bpl_scopes.specs.Scopes.{Text, Contract, Entity, a_constant, a_global, a_function, a_synonym, a_procedure, Entry, table_of, entity_of}
use Rattle.bpl_texts.specs.Uses.{contract_uses}
use Rattle.bpl_declaration_faults.specs.DeclFaults.{fault_of}
use Rattle.canonical_text.specs.SameStatement.{bare_spec, bare_signature}
use Rattle.canonical_text.specs.Heads.{bare_head}
use Rattle.bpl_resolve.proofs.Ways.{Member}
use Rattle.rebuild_laws.specs.Twins.{Reached, Twins}
use Rattle.rebuild_laws.proofs.NamesInUse.{Used, in_reached, Met}
use Rattle.rebuild_laws.proofs.Shapes.{bare_entity}
use Rattle.rebuild_laws.proofs.UsedNames.{bare_meaning, met_reached, same_there, same_entity}
use Rattle.rebuild_laws.proofs.DeclaredProcedures.{DeclaredProcedure, declared_procedure}

procedure_like : (o : Option Entity) (d : Contract) → Some (bare_entity (a_procedure 0 d)) ≡ bare_meaning o → (l : ℕ) × (e : Contract) × (o ≡ Some (a_procedure l e))
procedure_like None d h = absurd (cc)
procedure_like (Some (a_constant l r)) d h = absurd (cc)
procedure_like (Some (a_global l r)) d h = absurd (cc)
procedure_like (Some (a_function g)) d h = absurd (cc)
procedure_like (Some (a_synonym r)) d h = absurd (cc)
procedure_like (Some (a_procedure l e)) d h = (l, e, refl)

one_decl : (x y : Decl) → Some x ≡ Some y → x ≡ y
one_decl x y e = cc

one_entry : (e f : Entry) → Some e ≡ Some f → e ≡ f
one_entry e f h = cc

same_heads : (n m : Name) (ps qs : Option Params) (g h : Signature) (ss ts : List Spec) (b c : Option Body) → bare_head (procedure n ps g ss b) ≡ bare_head (procedure m qs h ts c)
    → (bare_signature g ≡ bare_signature h) × (map bare_spec ss ≡ map bare_spec ts)
same_heads n m ps qs g h ss ts b c e = (cc, cc)

module _ (ds : List Decl) (p : Proc) (es : List Decl) (q : Proc) (twins : Twins ds p es q) (back : Twins es q ds p) (none : fault_of ds ≡ None) (none_there : fault_of es ≡ None) where
  pub record BothProcedures (n : Text) (k : ℕ) (d : Contract) : Type 0 where
    pub here : DeclaredProcedure ds none n k d
    pub new : ℕ
    pub contract : Contract
    pub is_there : entity_of (table_of es) n ≡ Some (a_procedure new contract)
    pub there : DeclaredProcedure es none_there n new contract
    pub signatures : bare_signature here.signature ≡ bare_signature there.signature
    pub clauses : map bare_spec here.specs ≡ map bare_spec there.specs
    -- the names of its contract are used
    pub uses : (m : Text) → Member m (contract_uses (procedure here.name here.params here.signature here.specs here.body)) → Used ds p m

  pub both_procedures : (n : Text) (k : ℕ) (d : Contract) → Met ds p n → entity_of (table_of ds) n ≡ Some (a_procedure k d) → BothProcedures n k d
  both_procedures n k d u e =
      let a = declared_procedure ds none n k d e in
      let y = procedure_like (entity_of (table_of es) n) d (sym (ap bare_meaning e) ∙ same_entity ds p es q twins back none none_there n u) in
      let b = declared_procedure es none_there n y.0 y.1 y.2 in
      let s = same_there ds p es q twins none_there n a.entry u a.found in
      let mine = one_decl s.decl a.decl (sym s.at ∙ (ap (slice_get ds) a.placed ∙ a.at)) in
      let entries = one_entry s.entry b.entry (sym s.is ∙ b.found) in
      let theirs = one_decl s.twin b.decl (sym s.twin_at ∙ (ap (slice_get es) (ap (λ (z : Entry). z.decl) entries ∙ b.placed) ∙ b.at)) in
      let heads = ap bare_head (sym a.is ∙ ap (λ (z : Decl). z.body) (sym mine)) ∙ (s.heads ∙ ap bare_head (ap (λ (z : Decl). z.body) theirs ∙ b.is)) in
      let same = same_heads a.name b.name a.params b.params a.signature b.signature a.specs b.specs a.body b.body heads in
      let reached = subst (Reached ds p) a.placed (met_reached ds p n a.entry u a.found) in
      record {
        here = a;
        new = y.0;
        contract = y.1;
        is_there = y.2;
        there = b;
        signatures = same.0;
        clauses = same.1;
        uses = λ m i. in_reached a.position a.decl reached a.at (subst (λ (x : DeclBody). Member m (contract_uses x)) (sym a.is) i);
      }
