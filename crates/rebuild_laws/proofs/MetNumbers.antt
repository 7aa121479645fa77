-- The new numbers of constants, globals and entry values that are met: each kind stays, sorts stay, and the old number comes back.
use Rattle.std.specs.Prelude.{◌≡◌, ℕ, zero, suc, ◌+◌, ◌-◌, ◌<◌, ◌≤◌, Bool, true, false, IsTrue, cond, List, [], ◌∷◌, ◌++◌, map, length, filter, slice_get, Option, Some, None}
use Rattle.std.specs.List.{range_with_len}
use Rattle.std.proofs.Common.{refl, ap, sym, ◌∙◌, subst, arith, inl, inr, ◌⊎◌}
use Rattle.std.proofs.lemmas.List.{map-append}
use Rattle.std.proofs.lemmas.List.Elements.{filter-append}
use Rattle.logic_core.specs.Tree.{Kind}
use Rattle.bpl_ast.specs.Place.{Ty}
use Rattle.bpl_ast.specs.Statement.{Decl}
use Rattle.bpl_model.specs.Module.{Proc, Module, Const, Global}
use Rattle.bpl_model.specs.Numbering.{const_sorts, global_sorts, first_global, first_entry, first_in}
use Rattle.bpl_scopes.specs.Scopes.{Text, Entity, a_constant, a_global, a_function, a_synonym, a_procedure, Table, table_of, Counts, no_counts, counts_after, entity_of}
use Rattle.bpl_scopes.specs.Sorts.{sort_of_type}
use Rattle.bpl_scopes.specs.Functions.{names_in_type}
use Rattle.bpl_terms.specs.Terms.{global_number, entry_number, sort_or_int}
use Rattle.bpl_declaration_faults.specs.DeclFaults.{fault_of}
use Rattle.canonical_text.specs.Same.{bare_type}
use Rattle.bpl_resolve.specs.Elaborate.{module_of}
use Rattle.bpl_resolve.proofs.Ways.{Member}
use Rattle.bpl_resolve.proofs.ModuleSorts.{numbered_entity, constants_count, globals_count}
use Rattle.rebuild_laws.specs.Twins.{Twins}
use Rattle.rebuild_laws.proofs.NamesInUse.{Met, used}
use Rattle.rebuild_laws.proofs.UsedNames.{bare_meaning, same_entity, entity_entry, met_there}
use Rattle.rebuild_laws.proofs.EntityUses.{entity_uses, used_in_entity}
use Rattle.rebuild_laws.proofs.SameSorts.{same_type_sort}
use Rattle.rebuild_laws.proofs.NamedNumbers.{constant_names, global_names, place_below, is_named, constants_counted, globals_counted}
use Rattle.rebuild_laws.proofs.NumbersOfNames.{constant_at, global_at}
use Rattle.rebuild_laws.proofs.SameNames.{by_kind, kind_constant, kind_global, kind_entry, of_name, number_in, is_met, met_so, so_met, constant_met, global_met, vars_met, there, new_constant, new_global, new_entry, new_low}
use Rattle.rebuild_laws.specs.Numbers.{LowNumbers, Low}

map_length : {A B : Type 0} (f : A → B) (xs : List A) → length (map f xs) ≡ length xs
map_length f [] = refl
map_length f (x ∷ xs) = ap suc (map_length f xs)

-- what a name is that is known but for places
constant_like : (o : Option Entity) (s : Ty) → Some (a_constant 0 (bare_type s)) ≡ bare_meaning o → (l : ℕ) × (r : Ty) × (o ≡ Some (a_constant l r)) × (bare_type s ≡ bare_type r)
constant_like None s e = absurd (cc)
constant_like (Some (a_constant l r)) s e = (l, r, refl, cc)
constant_like (Some (a_global l r)) s e = absurd (cc)
constant_like (Some (a_function h)) s e = absurd (cc)
constant_like (Some (a_synonym r)) s e = absurd (cc)
constant_like (Some (a_procedure l d)) s e = absurd (cc)

global_like : (o : Option Entity) (s : Ty) → Some (a_global 0 (bare_type s)) ≡ bare_meaning o → (l : ℕ) × (r : Ty) × (o ≡ Some (a_global l r)) × (bare_type s ≡ bare_type r)
global_like None s e = absurd (cc)
global_like (Some (a_constant l r)) s e = absurd (cc)
global_like (Some (a_global l r)) s e = (l, r, refl, cc)
global_like (Some (a_function h)) s e = absurd (cc)
global_like (Some (a_synonym r)) s e = absurd (cc)
global_like (Some (a_procedure l d)) s e = absurd (cc)

some_name : (f : Text → Bool) (o : Option Text) → of_name false f o ≡ true → (n : Text) × (o ≡ Some n) × (f n ≡ true)
some_name f None e = absurd (cc)
some_name f (Some n) e = (n, refl, e)

-- where a number lies among c constants, g globals and g entry values
pub data Kinds (c g v : ℕ) : Type 0 where
  is_constant : v < c → Kinds c g v
  is_global : (k : ℕ) → k < g → v ≡ c + k → Kinds c g v
  is_entry : (k : ℕ) → k < g → v ≡ c + (g + k) → Kinds c g v

at_least : (a b : ℕ) → (a < b) ⊎ ((k : ℕ) × (a ≡ b + k))
at_least a zero = inr (a, omega arith)
at_least zero (suc b) = inl (omega arith)
at_least (suc a) (suc b) = by (at_least a b)
  where
    by : (a < b) ⊎ ((k : ℕ) × (a ≡ b + k)) → (suc a < suc b) ⊎ ((k : ℕ) × (suc a ≡ suc b + k))
    by (inl h) = inl (omega (arith, h))
    by (inr h) = let z = h.1 in inr (h.0, omega (arith, z))

kinds : (c g v : ℕ) → v < c + (g + g) → Kinds c g v
kinds c g v h = by (at_least v c)
  where
    further : (k : ℕ) → v ≡ c + k → (k < g) ⊎ ((j : ℕ) × (k ≡ g + j)) → Kinds c g v
    further k e (inl l) = is_global k l e
    further k e (inr r) = let z = r.1 in is_entry r.0 (omega (arith, h, e, z)) (omega (arith, e, z))

    by : (v < c) ⊎ ((k : ℕ) × (v ≡ c + k)) → Kinds c g v
    by (inl l) = is_constant l
    by (inr r) = further r.0 r.1 (at_least r.0 g)

module _ (ds : List Decl) (none : fault_of ds ≡ None) where
  pub consts_are : length (module_of ds).consts ≡ (counts_after no_counts ds).constants
  consts_are = sym (map_length (λ (c : Const). c.sort) (module_of ds).consts) ∙ constants_count ds none

  pub globals_are : length (module_of ds).globals ≡ (counts_after no_counts ds).globals
  globals_are = sym (map_length (λ (g : Global). g.sort) (module_of ds).globals) ∙ globals_count ds none

module _ (ds : List Decl) (p : Proc) (es : List Decl) (q : Proc) (twins : Twins ds p es q) (back : Twins es q ds p) (none : fault_of ds ≡ None) (none_there : fault_of es ≡ None) where
  abbrev T : Table
  T = table_of ds

  abbrev U : Table
  U = table_of es

  abbrev C : Counts
  C = counts_after no_counts ds

  abbrev D : Counts
  D = counts_after no_counts es

  abbrev kind_of : Table → Ty → Kind
  kind_of t s = sort_or_int (sort_of_type t [] s)

  -- a constant that is met, here and there
  pub record BothConstants (k : ℕ) : Type 0 where
    pub name : Text
    pub at : slice_get (constant_names ds) k ≡ Some name
    pub met : Met ds p name
    pub type : Ty
    pub here : entity_of T name ≡ Some (a_constant k type)
    pub new : ℕ
    pub new_type : Ty
    pub is_there : entity_of U name ≡ Some (a_constant new new_type)
    pub same : kind_of T type ≡ kind_of U new_type

  types_met : (n : Text) (x : Entity) → Met ds p n → entity_of T n ≡ Some x → (m : Text) → Member m (entity_uses x) → Met ds p m
  types_met n x u e m i =
      let r = entity_entry T n x e in
      used (used_in_entity ds p n m r.0 u r.1 (subst (λ w. Member m (entity_uses w)) (sym r.2) i))

  pub both_constants : (k : ℕ) → constant_met ds p k ≡ true → BothConstants k
  both_constants k h =
      let r = some_name (is_met ds p) (slice_get (constant_names ds) k) h in
      let u = so_met ds p r.0 r.2 in
      let x = constant_at ds none k r.0 r.1 in
      let y = constant_like (entity_of U r.0) x.0 (sym (ap bare_meaning x.1) ∙ same_entity ds p es q twins back none none_there r.0 u) in
      record {
        name = r.0;
        at = r.1;
        met = u;
        type = x.0;
        here = x.1;
        new = y.0;
        new_type = y.1;
        is_there = y.2;
        same = ap sort_or_int (same_type_sort ds p es q twins back none none_there x.0 y.1 y.3 (types_met r.0 (a_constant k x.0) u x.1));
      }

  -- a global that is met, here and there
  pub record BothGlobals (k : ℕ) : Type 0 where
    pub name : Text
    pub at : slice_get (global_names ds) k ≡ Some name
    pub met : Met ds p name
    pub type : Ty
    pub here : entity_of T name ≡ Some (a_global k type)
    pub new : ℕ
    pub new_type : Ty
    pub is_there : entity_of U name ≡ Some (a_global new new_type)
    pub same : kind_of T type ≡ kind_of U new_type

  pub both_globals : (k : ℕ) → global_met ds p k ≡ true → BothGlobals k
  both_globals k h =
      let r = some_name (is_met ds p) (slice_get (global_names ds) k) h in
      let u = so_met ds p r.0 r.2 in
      let x = global_at ds none k r.0 r.1 in
      let y = global_like (entity_of U r.0) x.0 (sym (ap bare_meaning x.1) ∙ same_entity ds p es q twins back none none_there r.0 u) in
      record {
        name = r.0;
        at = r.1;
        met = u;
        type = x.0;
        here = x.1;
        new = y.0;
        new_type = y.1;
        is_there = y.2;
        same = ap sort_or_int (same_type_sort ds p es q twins back none none_there x.0 y.1 y.3 (types_met r.0 (a_global k x.0) u x.1));
      }

  abbrev pick_new : (v : ℕ) → ℕ
  pick_new v = new_low ds es v

  new_of_constant : (k : ℕ) → k < C.constants → (b : BothConstants k) → new_low ds es k ≡ b.new
  new_of_constant k l b = kind_constant C.constants C.globals (new_constant ds es) (new_global ds es) (new_entry ds es) k l ∙ (ap (there ds es) b.at ∙ ap number_in b.is_there)

  new_of_global : (k : ℕ) → k < C.globals → (b : BothGlobals k) → new_low ds es (C.constants + k) ≡ D.constants + b.new
  new_of_global k l b = kind_global C.constants C.globals (new_constant ds es) (new_global ds es) (new_entry ds es) k l ∙ ap (global_number D) (ap (there ds es) b.at ∙ ap number_in b.is_there)

  new_of_entry : (k : ℕ) (b : BothGlobals k) → new_low ds es (C.constants + (C.globals + k)) ≡ D.constants + (D.globals + b.new)
  new_of_entry k b = kind_entry C.constants C.globals (new_constant ds es) (new_global ds es) (new_entry ds es) k ∙ ap (entry_number D) (ap (there ds es) b.at ∙ ap number_in b.is_there)

  constant_below : (k : ℕ) (b : BothConstants k) → b.new < D.constants
  constant_below k b =
      let r = place_below (constant_names es) b.new b.name (is_named es b.name (a_constant b.new b.new_type) b.is_there) in
      let z = constants_counted es in
      omega (arith, r, z)

  global_below : (k : ℕ) (b : BothGlobals k) → b.new < D.globals
  global_below k b =
      let r = place_below (global_names es) b.new b.name (is_named es b.name (a_global b.new b.new_type) b.is_there) in
      let z = globals_counted es in
      omega (arith, r, z)

  met_constant_there : (k : ℕ) (b : BothConstants k) → constant_met es q b.new ≡ true
  met_constant_there k b =
      ap (of_name false (is_met es q)) (is_named es b.name (a_constant b.new b.new_type) b.is_there)
      ∙ met_so es q b.name (a_constant b.new b.new_type) (met_there ds p es q twins none_there b.name b.met) b.is_there

  met_global_there : (k : ℕ) (b : BothGlobals k) → global_met es q b.new ≡ true
  met_global_there k b =
      ap (of_name false (is_met es q)) (is_named es b.name (a_global b.new b.new_type) b.is_there)
      ∙ met_so es q b.name (a_global b.new b.new_type) (met_there ds p es q twins none_there b.name b.met) b.is_there

  -- what becomes of a variable that is met
  pub data NewVariable (v : ℕ) : Type 0 where
    new_const : v < C.constants → (b : BothConstants v) → new_low ds es v ≡ b.new → NewVariable v
    new_glob : (k : ℕ) → k < C.globals → v ≡ C.constants + k → (b : BothGlobals k) → new_low ds es v ≡ D.constants + b.new → NewVariable v
    new_ent : (k : ℕ) → k < C.globals → v ≡ C.constants + (C.globals + k) → (b : BothGlobals k) → new_low ds es v ≡ D.constants + (D.globals + b.new) → NewVariable v

  pub new_variable : (v : ℕ) → v < C.constants + (C.globals + C.globals) → vars_met ds p v ≡ true → NewVariable v
  new_variable v h m = by (kinds C.constants C.globals v h)
    where
      by : Kinds C.constants C.globals v → NewVariable v
      by (is_constant l) =
          let b = both_constants v (sym (kind_constant C.constants C.globals (constant_met ds p) (global_met ds p) (global_met ds p) v l) ∙ m) in
          new_const l b (new_of_constant v l b)
      by (is_global k l e) =
          let b = both_globals k (sym (kind_global C.constants C.globals (constant_met ds p) (global_met ds p) (global_met ds p) k l) ∙ (sym (ap (vars_met ds p) e) ∙ m)) in
          new_glob k l e b (ap (new_low ds es) e ∙ new_of_global k l b)
      by (is_entry k l e) =
          let b = both_globals k (sym (kind_entry C.constants C.globals (constant_met ds p) (global_met ds p) (global_met ds p) k) ∙ (sym (ap (vars_met ds p) e) ∙ m)) in
          new_ent k l e b (ap (new_low ds es) e ∙ new_of_entry k b)

  -- it is met there
  pub new_met : (v : ℕ) → NewVariable v → vars_met es q (new_low ds es v) ≡ true
  new_met v (new_const l b e) = ap (vars_met es q) e ∙ (kind_constant D.constants D.globals (constant_met es q) (global_met es q) (global_met es q) b.new (constant_below v b) ∙ met_constant_there v b)
  new_met v (new_glob k l z b e) = ap (vars_met es q) e ∙ (kind_global D.constants D.globals (constant_met es q) (global_met es q) (global_met es q) b.new (global_below k b) ∙ met_global_there k b)
  new_met v (new_ent k l z b e) = ap (vars_met es q) e ∙ (kind_entry D.constants D.globals (constant_met es q) (global_met es q) (global_met es q) b.new ∙ met_global_there k b)

  pub new_below : (v : ℕ) → NewVariable v → new_low ds es v < D.constants + (D.globals + D.globals)
  new_below v (new_const l b e) = let z = constant_below v b in omega (arith, e, z)
  new_below v (new_glob k l y b e) = let z = global_below k b in omega (arith, e, z)
  new_below v (new_ent k l y b e) = let z = global_below k b in omega (arith, e, z)

  -- its old number comes back
  pub new_back : (v : ℕ) → NewVariable v → new_low es ds (new_low ds es v) ≡ v
  new_back v (new_const l b e) =
      ap (new_low es ds) e ∙ (kind_constant D.constants D.globals (new_constant es ds) (new_global es ds) (new_entry es ds) b.new (constant_below v b)
      ∙ (ap (there es ds) (is_named es b.name (a_constant b.new b.new_type) b.is_there) ∙ ap number_in b.here))
  new_back v (new_glob k l y b e) =
      ap (new_low es ds) e ∙ (kind_global D.constants D.globals (new_constant es ds) (new_global es ds) (new_entry es ds) b.new (global_below k b)
      ∙ (ap (global_number C) (ap (there es ds) (is_named es b.name (a_global b.new b.new_type) b.is_there) ∙ ap number_in b.here) ∙ sym y))
  new_back v (new_ent k l y b e) =
      ap (new_low es ds) e ∙ (kind_entry D.constants D.globals (new_constant es ds) (new_global es ds) (new_entry es ds) b.new
      ∙ (ap (entry_number C) (ap (there es ds) (is_named es b.name (a_global b.new b.new_type) b.is_there) ∙ ap number_in b.here) ∙ sym y))
