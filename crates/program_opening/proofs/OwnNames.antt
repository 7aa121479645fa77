-- In the module of a program without faults no two procedures have one name.
use Rattle.std.proofs.Common.{◌≡◌, refl, ap, sym, ◌∙◌, subst, ℕ, zero, suc, true, false, List, [], ◌∷◌, ◌++◌, Some, None}
use Rattle.std.specs.Prelude.{bytes_eq, flat_map, slice_get}
use Rattle.std.specs.List.{AllByRecursion}
use Rattle.logic_core.proofs.Booleans.{neither as either_false}
use Rattle.bpl_ast.specs.Statement.{DeclBody, constant, function, axiom_of, variables, synonym, procedure, implementation, Decl}
use Rattle.bpl_scopes.specs.declared.fault.TypeKind.TheVariants.{Twice as twice}
use Rattle.bv_base.specs.Text.{is_among}
use Rattle.bpl_scopes.specs.Fault.{again}
use Rattle.bpl_scopes.specs.Scopes.{Text, Table, table_of, Counts, counts_after, no_counts, declared_names, texts_of}
use Rattle.bpl_declaration_faults.specs.DeclFaults.{decl_faults, Before, before_with, nothing_before, fault_of}
use Rattle.bpl_model.specs.Module.{Proc}
use Rattle.bpl_resolve.specs.Elaborate.{procs_in, module_of}
use Rattle.bpl_resolve.proofs.HasSort.{first_empty}
use Rattle.bpl_resolve.proofs.GoesForward.{if_so_empty}
use Rattle.bpl_resolve.proofs.Ways.{text_itself}
use Rattle.bpl_resolve.proofs.EntriesFine.{NoFaults, none_faulty}
use Rattle.program_opening.specs.Laws.{HaveOwnNames}

-- none of the procedures has one of these names
abbrev AreNew : List Text → List Proc → Type 0
AreNew names ps = AllByRecursion (λ (p : Proc). is_among names p.name ≡ false) ps

among_others : (ms ns : List Text) (m : Text) → is_among (ms ++ ns) m ≡ false → is_among ns m ≡ false
among_others [] ns m h = h
among_others (n ∷ ms) ns m h = among_others ms ns m (either_false (bytes_eq m n) _ h).1

new_still : (ms ns : List Text) (ps : List Proc) → AreNew (ms ++ ns) ps → AreNew ns ps
new_still ms ns [] h = tt
new_still ms ns (p ∷ ps) h = (among_others ms ns p.name h.0, new_still ms ns ps h.1)

at_place : (names : List Text) (ps : List Proc) (j : ℕ) (q : Proc) → AreNew names ps → slice_get ps j ≡ Some q → is_among names q.name ≡ false
at_place names [] j q h e = absurd (cc)
at_place names (p ∷ ps) zero q h e = let same : p ≡ q = cc in subst (λ (r : Proc). is_among names r.name ≡ false) same h.0
at_place names (p ∷ ps) (suc j) q h e = at_place names ps j q h.1 e

not_again : (n : Text) (names : List Text) (ps : List Proc) (j : ℕ) (q : Proc) → AreNew (n ∷ names) ps → slice_get ps j ≡ Some q → q.name ≡ n → ⊥
not_again n names ps j q h e same =
    let other : bytes_eq q.name n ≡ false = (either_false (bytes_eq q.name n) _ (at_place (n ∷ names) ps j q h e)).0 in
    let both : true ≡ false = sym (text_itself n) ∙ (λ i. bytes_eq (sym same i) n) ∙ other in
    absurd (cc)

-- one procedure more, whose name the others don't have
one_more : (p : Proc) (names : List Text) (ps : List Proc) → AreNew (p.name ∷ names) ps → HaveOwnNames ps → HaveOwnNames (p ∷ ps)
one_more p names ps h own zero zero a b e f same = refl
one_more p names ps h own zero (suc j) a b e f same = let first : p ≡ a = cc in absurd (not_again p.name names ps j b h f (sym (ap (λ (r : Proc). r.name) first ∙ same)))
one_more p names ps h own (suc i) zero a b e f same = let first : p ≡ b = cc in absurd (not_again p.name names ps i a h e (same ∙ sym (ap (λ (r : Proc). r.name) first)))
one_more p names ps h own (suc i) (suc j) a b e f same = ap suc (own i j a b e f same)

none_own : HaveOwnNames []
none_own i j p q e f same = absurd (cc)

module _ (ds : List Decl) (t : Table) (c : Counts) where
  abbrev procs_of : List Decl → List Proc
  procs_of xs = flat_map (λ (x : Decl). procs_in ds t c x.body) xs

  -- a declaration's procedures stand before the others
  new_with : (b : Before) (x : DeclBody) (ps : List Proc) → decl_faults t c b x ≡ [] → AreNew b.names ps → AreNew b.names (procs_in ds t c x ++ ps)
  new_with b (procedure n qs g ss y) ps e h = (if_so_empty _ twice n.at (first_empty _ [] (first_empty (again twice b.names (n ∷ [])) _ e)), h)
  new_with b (constant u ns s) ps e h = h
  new_with b (function n qs ins r x) ps e h = h
  new_with b (axiom_of x) ps e h = h
  new_with b (variables gs) ps e h = h
  new_with b (synonym n s) ps e h = h
  new_with b (implementation n qs g y) ps e h = h

  are_new : (b : Before) (xs : List Decl) → NoFaults t c b xs → AreNew b.names (procs_of xs)
  are_new b [] e = tt
  are_new b (x ∷ xs) e = new_with b x.body (procs_of xs) e.0 (new_still (texts_of (declared_names x.body)) b.names (procs_of xs) (are_new (before_with b x.body) xs e.1))

  own_with : (b : Before) (x : DeclBody) (ps : List Proc) → AreNew (before_with b x).names ps → HaveOwnNames ps → HaveOwnNames (procs_in ds t c x ++ ps)
  own_with b (procedure n qs g ss y) ps h own = one_more _ b.names ps h own
  own_with b (constant u ns s) ps h own = own
  own_with b (function n qs ins r x) ps h own = own
  own_with b (axiom_of x) ps h own = own
  own_with b (variables gs) ps h own = own
  own_with b (synonym n s) ps h own = own
  own_with b (implementation n qs g y) ps h own = own

  have_own : (b : Before) (xs : List Decl) → NoFaults t c b xs → HaveOwnNames (procs_of xs)
  have_own b [] e = none_own
  have_own b (x ∷ xs) e = own_with b x.body (procs_of xs) (are_new (before_with b x.body) xs e.1) (have_own (before_with b x.body) xs e.1)

pub own_names : (ds : List Decl) → fault_of ds ≡ None → HaveOwnNames (module_of ds).procs
own_names ds e = have_own ds (table_of ds) (counts_after no_counts ds) nothing_before ds (none_faulty ds e)
