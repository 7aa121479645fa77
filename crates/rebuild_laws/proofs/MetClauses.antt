-- A global that is met has in both modules the clause of its group, and these are the same but for places.
use Rattle.std.specs.Prelude.{◌≡◌, ℕ, ◌+◌, true, List, slice_get, Option, Some, None, option_map, is_some}
use Rattle.std.proofs.Common.{refl, ap, sym, ◌∙◌, subst, arith}
use Rattle.bpl_ast.specs.Place.{Ty}
use Rattle.bpl_ast.specs.Tree.{Groups, Clause}
use Rattle.bpl_ast.specs.Statement.{DeclBody, constant, function, axiom_of, variables, synonym, procedure, implementation, Decl}
use Rattle.bpl_model.specs.Module.{Proc}
use Rattle.bv_base.specs.Text.{is_among}
use Rattle.bpl_scopes.specs.Scopes.{Text, a_global, Entry, Table, table_of, Counts, no_counts, counts_after, declared_names, texts_of, entry_of, entity_of}
use Rattle.bpl_declaration_faults.specs.DeclFaults.{nothing_before, fault_of}
use Rattle.canonical_text.specs.Same.{bare_groups, bare_clause}
use Rattle.bpl_resolve.specs.Elaborate.{module_of}
use Rattle.bpl_resolve.proofs.EntriesFine.{none_faulty}
use Rattle.canonical_text.specs.Heads.{bare_head}
use Rattle.rebuild_laws.specs.Twins.{Reached, Twin, Twins}
use Rattle.rebuild_laws.proofs.BareUses.{same_declared}
use Rattle.rebuild_laws.proofs.Located.{declared_found, FoundAt, found_at}
use Rattle.rebuild_laws.proofs.UsedNames.{StandsFor, stands_for, entity_entry}
use Rattle.rebuild_laws.proofs.SameNames.{global_met}
use Rattle.rebuild_laws.proofs.MetNumbers.{BothGlobals, both_globals}
use Rattle.rebuild_laws.proofs.GlobalsAlike.{group_clause, clause_bare, global_with, GlobalAt, global_there}

-- what is the same as a declaration of globals
variables_like : (y : DeclBody) (gs : Groups) → variables (bare_groups gs) ≡ bare_head y → (hs : Groups) × (y ≡ variables hs) × (bare_groups gs ≡ bare_groups hs)
variables_like (constant u ns s) gs e = absurd (cc)
variables_like (function m ps ins r x) gs e = absurd (cc)
variables_like (axiom_of x) gs e = absurd (cc)
variables_like (variables hs) gs e = (hs, refl, cc)
variables_like (synonym m s) gs e = absurd (cc)
variables_like (procedure m ps g ss b) gs e = absurd (cc)
variables_like (implementation m ps g b) gs e = absurd (cc)

same_slice : (xs : List Decl) (i j : ℕ) (x y : Decl) → i ≡ j → slice_get xs i ≡ Some x → slice_get xs j ≡ Some y → x ≡ y
same_slice xs i j x y e f g = from (sym f ∙ (ap (slice_get xs) e ∙ g))
  where
    from : Some x ≡ Some y → x ≡ y
    from z = cc

same_entry : (a b : Entry) → Some a ≡ Some b → a ≡ b
same_entry a b z = cc

same_groups : (gs hs : Groups) → variables gs ≡ variables hs → gs ≡ hs
same_groups gs hs z = cc

same_clause : (a b : Clause) → Some a ≡ Some b → a ≡ b
same_clause a b z = cc

module _ (ds : List Decl) (p : Proc) (es : List Decl) (q : Proc) (twins : Twins ds p es q) (back : Twins es q ds p) (none : fault_of ds ≡ None) (none_there : fault_of es ≡ None) where
  abbrev C : Counts
  C = counts_after no_counts ds

  abbrev D : Counts
  D = counts_after no_counts es

  pub record BothClauses (k : ℕ) (b : BothGlobals ds p es q twins back none none_there k) : Type 0 where
    pub type : Ty
    pub clause : Clause
    pub here : slice_get (module_of ds).globals k ≡ Some (global_with (table_of ds) C b.name type clause)
    pub new_type : Ty
    pub new_clause : Clause
    pub there : slice_get (module_of es).globals b.new ≡ Some (global_with (table_of es) D b.name new_type new_clause)
    pub same : bare_clause clause ≡ bare_clause new_clause
    -- the declaration of which the clause is, which is reached
    pub position : ℕ
    pub decl : Decl
    pub groups : Groups
    pub stands : slice_get ds position ≡ Some decl
    pub reached : Reached ds p position
    pub body : decl.body ≡ variables groups
    pub found : group_clause groups b.name ≡ Some clause

  pub both_clauses : (k : ℕ) (b : BothGlobals ds p es q twins back none none_there k) → BothClauses k b
  both_clauses k b =
      let e = entity_entry (table_of ds) b.name (a_global k b.type) b.here in
      let g = global_there ds b.name e.0 k b.type e.1 e.2 in
      let s = stands_for ds p b.name e.0 b.met e.1 in
      let place = g.place in
      let z : g.index ≡ e.0.decl = omega (arith, place) in
      let mine = same_slice ds g.index e.0.decl g.decl s.decl z g.stands s.at in
      let body : s.decl.body ≡ variables g.groups = ap (λ (w : Decl). w.body) (sym mine) ∙ g.body in
      let w = twins.all e.0.decl s.decl s.reached s.at in
      let v = variables_like w.decl.body g.groups (sym (ap bare_head body) ∙ w.same) in
      let f = entity_entry (table_of es) b.name (a_global b.new b.new_type) b.is_there in
      let h = global_there es b.name f.0 b.new b.new_type f.1 f.2 in
      let declared = sym (declared_found s.counts e.0.decl s.decl.body b.name) ∙ ap is_some s.here in
      let at = found_at (table_of es) (counts_after no_counts es) nothing_before no_counts 0 es w.position w.decl b.name (none_faulty es none_there) w.at
      (ap (λ ns. is_among ns b.name) (sym (same_declared s.decl.body w.decl.body w.same)) ∙ declared) in
      let entry = same_entry at.entry f.0 (sym at.is ∙ f.1) in
      let i = at.decl in
      let j = h.place in
      let l = ap (λ (y : Entry). y.decl) entry in
      let u : h.index ≡ w.position = omega (arith, i, j, l) in
      let its = same_slice es h.index w.position h.decl w.decl u h.stands w.at in
      let groups = same_groups h.groups v.0 (sym h.body ∙ (ap (λ (y : Decl). y.body) its ∙ v.1)) in
      record {
        type = g.type;
        clause = g.clause;
        here = g.at;
        new_type = h.type;
        new_clause = h.clause;
        there = h.at;
        same = same_clause (bare_clause g.clause) (bare_clause h.clause)
            (sym (clause_bare g.groups b.name ∙ ap (option_map bare_clause) g.found)
            ∙ (ap (λ gs. group_clause gs b.name) (v.2 ∙ sym (ap bare_groups groups))
            ∙ (clause_bare h.groups b.name ∙ ap (option_map bare_clause) h.found)));
        position = e.0.decl;
        decl = s.decl;
        groups = g.groups;
        stands = s.at;
        reached = s.reached;
        body = body;
        found = g.found;
      }
