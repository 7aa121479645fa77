-- What a name stands for but for places and numbers is told by a declaration that is the same but for places.
use Rattle.std.specs.Prelude.{◌≡◌, ℕ, ◌+◌, Bool, true, false, cond, List, [], ◌∷◌, ◌++◌, map, find, bytes_eq, Option, Some, None, option_map}
use Rattle.std.proofs.Common.{refl, ap, sym, ◌∙◌}
use Rattle.bpl_ast.specs.Place.{Name, Ty}
use Rattle.bpl_ast.specs.Tree.{Groups, no_groups, group}
use Rattle.bpl_ast.specs.Statement.{DeclBody, constant, function, axiom_of, variables, synonym, procedure, implementation}
use Rattle.bpl_scopes.specs.Scopes.{Text, Heading, Contract, Entity, a_constant, a_global, a_function, a_synonym, a_procedure, Entry, Table, Counts, no_counts, names_of, typed_names, entries_from, entries_of, entry_of}
use Rattle.canonical_text.specs.Same.{bare_names, bare_type, bare, bare_groups}
use Rattle.canonical_text.specs.SameStatement.{bare_signature, bare_argument, bare_decl}
use Rattle.canonical_text.specs.Heads.{head_of, bare_head}

-- but for places, its number, and what it modifies
abbrev pub bare_entity : Entity → Entity
bare_entity (a_constant k s) = a_constant 0 (bare_type s)
bare_entity (a_global k s) = a_global 0 (bare_type s)
bare_entity (a_function h) = a_function (record { ins = map bare_argument h.ins; result = bare_type h.result; value = option_map bare h.value })
bare_entity (a_synonym s) = a_synonym (option_map bare_type s)
bare_entity (a_procedure k d) = a_procedure 0 (record { signature = bare_signature d.signature; modified = [] })

abbrev unnumbered : Entity → Entity
unnumbered (a_constant k s) = a_constant 0 s
unnumbered (a_global k s) = a_global 0 s
unnumbered (a_function h) = a_function h
unnumbered (a_synonym s) = a_synonym s
unnumbered (a_procedure k d) = a_procedure 0 (record { signature = d.signature; modified = [] })

abbrev pub bare_found : Option Entry → Option Entity
bare_found o = option_map (λ (e : Entry). bare_entity e.entity) o

abbrev told : Option Entry → Option Entity
told o = option_map (λ (e : Entry). unnumbered e.entity) o

module _ (m : Text) where
  first_same : (e f : Entry) (es fs : Table) → f.name ≡ e.name → unnumbered f.entity ≡ bare_entity e.entity → told (entry_of fs m) ≡ bare_found (entry_of es m) → told (entry_of (f ∷ fs) m) ≡ bare_found (entry_of (e ∷ es) m)
  first_same e f es fs n h rest = ap (λ w. told (cond (bytes_eq w m) (Some f) (entry_of fs m))) n ∙ by (bytes_eq e.name m)
    where
      by : (b : Bool) → told (cond b (Some f) (entry_of fs m)) ≡ bare_found (cond b (Some e) (entry_of es m))
      by true = ap Some h
      by false = rest

  constants_same : (d j k : ℕ) (ns : List Name) (s : Ty) → told (entry_of (entries_from a_constant 0 j (typed_names (bare_names ns) (bare_type s))) m) ≡ bare_found (entry_of (entries_from a_constant d k (typed_names ns s)) m)
  constants_same d j k [] s = refl
  constants_same d j k (n ∷ ns) s =
      first_same (record { name = n.text; decl = d; entity = a_constant k s }) (record { name = n.text; decl = 0; entity = a_constant j (bare_type s) })
      (entries_from a_constant d (k + 1) (typed_names ns s)) (entries_from a_constant 0 (j + 1) (typed_names (bare_names ns) (bare_type s))) refl refl (constants_same d (j + 1) (k + 1) ns s)

  names_same : (d j k : ℕ) (ns : List Name) (s : Ty) (ps qs : List (Name × Ty))
      → ((i l : ℕ) → told (entry_of (entries_from a_global 0 i qs) m) ≡ bare_found (entry_of (entries_from a_global d l ps) m))
      → told (entry_of (entries_from a_global 0 j (typed_names (bare_names ns) (bare_type s) ++ qs)) m) ≡ bare_found (entry_of (entries_from a_global d k (typed_names ns s ++ ps)) m)
  names_same d j k [] s ps qs h = h j k
  names_same d j k (n ∷ ns) s ps qs h =
      first_same (record { name = n.text; decl = d; entity = a_global k s }) (record { name = n.text; decl = 0; entity = a_global j (bare_type s) })
      (entries_from a_global d (k + 1) (typed_names ns s ++ ps)) (entries_from a_global 0 (j + 1) (typed_names (bare_names ns) (bare_type s) ++ qs)) refl refl (names_same d (j + 1) (k + 1) ns s ps qs h)

  globals_same : (d : ℕ) (gs : Groups) (j k : ℕ) → told (entry_of (entries_from a_global 0 j (names_of (bare_groups gs))) m) ≡ bare_found (entry_of (entries_from a_global d k (names_of gs)) m)
  globals_same d no_groups j k = refl
  globals_same d (group ns s c gs) j k = names_same d j k ns s (names_of gs) (names_of (bare_groups gs)) (λ i l. globals_same d gs i l)

  decl_same : (k : Counts) (d : ℕ) (x : DeclBody) → told (entry_of (entries_of no_counts 0 (bare_decl x)) m) ≡ bare_found (entry_of (entries_of k d x) m)
  decl_same k d (constant u ns s) = constants_same d 0 k.constants ns s
  decl_same k d (function n ps ins r x) = first_same _ _ [] [] refl refl refl
  decl_same k d (axiom_of x) = refl
  decl_same k d (variables gs) = globals_same d gs 0 k.globals
  decl_same k d (synonym n s) = first_same _ _ [] [] refl refl refl
  decl_same k d (procedure n ps g ss b) = first_same _ _ [] [] refl refl refl
  decl_same k d (implementation n ps g b) = refl

  head_entries : (k : Counts) (d : ℕ) (x : DeclBody) → entries_of k d (head_of x) ≡ entries_of k d x
  head_entries k d (constant u ns s) = refl
  head_entries k d (function n ps ins r x) = refl
  head_entries k d (axiom_of x) = refl
  head_entries k d (variables gs) = refl
  head_entries k d (synonym n s) = refl
  head_entries k d (procedure n ps g ss b) = refl
  head_entries k d (implementation n ps g b) = refl

  -- what stands for the name in the one declaration stands for it in the other, but for places and numbers
  pub same_found : (k l : Counts) (d j : ℕ) (x y : DeclBody) → bare_head x ≡ bare_head y → bare_found (entry_of (entries_of k d x) m) ≡ bare_found (entry_of (entries_of l j y) m)
  same_found k l d j x y e =
      ap (λ (es : Table). bare_found (entry_of es m)) (sym (head_entries k d x))
      ∙ (sym (decl_same k d (head_of x))
      ∙ (ap (λ z. told (entry_of (entries_of no_counts 0 z) m)) e
      ∙ (decl_same l j (head_of y)
      ∙ ap (λ (es : Table). bare_found (entry_of es m)) (head_entries l j y))))
