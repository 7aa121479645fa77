-- A name that stands for a function is the name of a declaration of one.
use Rattle.std.proofs.Common.{◌≡◌, refl, inl, inr, ◌⊎◌, ℕ, ◌+◌, Bool, true, false, ◌||◌, List, [], ◌∷◌, ◌++◌, Option, Some, None}
use Rattle.std.specs.Prelude.{bytes_eq, find, cond, option_map}
use Rattle.std.specs.List.{list_any}
use Rattle.bpl_ast.specs.Place.{Name, Ty}
use Rattle.bpl_ast.specs.Statement.{DeclBody, constant, function, axiom_of, variables, synonym, procedure, implementation, Decl}
use Rattle.bpl_scopes.specs.Scopes.{Text, Entity, a_constant, a_global, Entry, Table, table_of, Counts, no_counts, counts_with, typed_names, names_of, entries_from, entries_of, entries_after, entity_of}
use Rattle.bpl_scopes.specs.Functions.{is_function}
use Rattle.bpl_resolve.specs.Places.{function_name}

module _ (n : Text) where
  abbrev pub is_named : Option Text → Bool
  is_named None = false
  is_named (Some m) = bytes_eq m n

  abbrev pub declares : Decl → Bool
  declares d = is_named (function_name d.body)

  abbrev found : Table → Option Entry
  found es = find (λ (e : Entry). bytes_eq e.name n) es

  abbrev what_is : Option Entry → Bool
  what_is o = is_function (option_map (λ (e : Entry). e.entity) o)

  found_joined : (es fs : Table) → what_is (found (es ++ fs)) ≡ true → (what_is (found es) ≡ true) ⊎ (what_is (found fs) ≡ true)
  found_joined [] fs h = inr h
  found_joined (e ∷ es) fs h = by (bytes_eq e.name n) (found_joined es fs) h
    where
      by : (r : Bool) → (what_is (found (es ++ fs)) ≡ true → (what_is (found es) ≡ true) ⊎ (what_is (found fs) ≡ true))
          → what_is (cond r (Some e) (found (es ++ fs))) ≡ true → (what_is (cond r (Some e) (found es)) ≡ true) ⊎ (what_is (found fs) ≡ true)
      by true later z = inl z
      by false later z = later z

  not_function : (what : ℕ → Ty → Entity) → ((k : ℕ) (s : Ty) → is_function (Some (what k s)) ≡ false) → (d k : ℕ) (ps : List (Name × Ty)) → what_is (found (entries_from what d k ps)) ≡ true → false ≡ true
  not_function what h d k [] z = z
  not_function what h d k (p ∷ ps) z = by (bytes_eq ((p.0).text) n) (h k p.1) (not_function what h d (k + 1) ps) z
    where
      by : (r : Bool) → is_function (Some (what k p.1)) ≡ false → (what_is (found (entries_from what d (k + 1) ps)) ≡ true → false ≡ true)
          → what_is (cond r (Some (record { name = (p.0).text; decl = d; entity = what k p.1 })) (found (entries_from what d (k + 1) ps))) ≡ true → false ≡ true
      by true f later y = cc
      by false f later y = later y

  single : (r : Bool) (e : Entry) → what_is (cond r (Some e) None) ≡ true → (r ≡ true) × (is_function (Some e.entity) ≡ true)
  single true e z = (refl, z)
  single false e z = cc

  entries_named : (c : Counts) (d : ℕ) (x : DeclBody) → what_is (found (entries_of c d x)) ≡ true → is_named (function_name x) ≡ true
  entries_named c d (constant u ns s) z = not_function a_constant (λ k t. refl) d c.constants (typed_names ns s) z
  entries_named c d (function m ps ins t x) z = (single (bytes_eq m.text n) _ z).0
  entries_named c d (axiom_of x) z = z
  entries_named c d (variables gs) z = not_function a_global (λ k t. refl) d c.globals (names_of gs) z
  entries_named c d (synonym m s) z = (single (bytes_eq m.text n) _ z).1
  entries_named c d (procedure m ps g ss b) z = (single (bytes_eq m.text n) _ z).1
  entries_named c d (implementation m ps g b) z = z

  either_true : (a b : Bool) → (a ≡ true) ⊎ (b ≡ true) → (a || b) ≡ true
  either_true true b e = refl
  either_true false b (inl e) = cc
  either_true false b (inr e) = e

  all_named : (c : Counts) (d : ℕ) (ds : List Decl) → what_is (found (entries_after c d ds)) ≡ true → list_any declares ds ≡ true
  all_named c d [] z = z
  all_named c d (x ∷ xs) z = by (λ b. all_named (counts_with c x.body) (d + 1) xs b) (found_joined (entries_of c d x.body) (entries_after (counts_with c x.body) (d + 1) xs) z)
    where
      by : (what_is (found (entries_after (counts_with c x.body) (d + 1) xs)) ≡ true → list_any declares xs ≡ true) → (what_is (found (entries_of c d x.body)) ≡ true) ⊎ (what_is (found (entries_after (counts_with c x.body) (d + 1) xs)) ≡ true) → (declares x || list_any declares xs) ≡ true
      by later (inl a) = either_true (declares x) (list_any declares xs) (inl (entries_named c d x.body a))
      by later (inr b) = either_true (declares x) (list_any declares xs) (inr (later b))

  pub function_declared : (ds : List Decl) → is_function (entity_of (table_of ds) n) ≡ true → list_any declares ds ≡ true
  unfolding entity_of
  function_declared ds z = all_named no_counts 0 ds z
