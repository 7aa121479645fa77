-- What a name stands for uses what its declaration uses outside the clauses of procedures.
use Rattle.std.specs.Prelude.{◌≡◌, ℕ, ◌+◌, Bool, true, false, cond, List, [], ◌∷◌, ◌++◌, map, flat_map, find, bytes_eq, Option, Some, None}
use Rattle.std.proofs.Common.{refl, ap, sym, ◌∙◌, subst, inl, inr, ◌⊎◌}
use Rattle.bpl_ast.specs.Place.{Name, Ty}
use Rattle.bpl_ast.specs.Tree.{Groups, no_groups, group}
use Rattle.bpl_ast.specs.Statement.{DeclBody, constant, function, axiom_of, variables, synonym, procedure, implementation, Decl}
use Rattle.bpl_model.specs.Module.{Proc}
use Rattle.bpl_scopes.specs.Scopes.{Text, Entity, a_constant, a_global, a_function, a_synonym, a_procedure, Entry, Table, table_of, Counts, typed_names, names_of, texts_of, signature_names, entries_from, entries_of, entry_of}
use Rattle.bpl_scopes.specs.Functions.{names_in_type, argument_names}
use Rattle.bpl_texts.specs.Uses.{use_of, type_uses, groups_uses, clause_uses, guard_uses, spec_uses, signature_uses, arguments_uses, contract_uses}
use Rattle.bpl_resolve.proofs.Ways.{Member}
use Rattle.bpl_resolve.proofs.FunctionOrder.{stays}
use Rattle.bpl_resolve.proofs.TypeSorts.{member_right}
use Rattle.rebuild_laws.proofs.NamesInUse.{Used, Met}
use Rattle.rebuild_laws.proofs.UsedNames.{used_further}

abbrev pub entity_uses : Entity → List Text
entity_uses (a_constant k s) = names_in_type s
entity_uses (a_global k s) = names_in_type s
entity_uses (a_function h) = arguments_uses h.ins ++ (type_uses [] h.result ++ guard_uses (texts_of (argument_names h.ins)) h.value)
entity_uses (a_synonym None) = []
entity_uses (a_synonym (Some s)) = names_in_type s
entity_uses (a_procedure k d) = signature_uses d.signature

-- where no variable hides a name, each is used
pub plain_uses : (ns : List Text) → flat_map (use_of []) ns ≡ ns
plain_uses [] = refl
plain_uses (n ∷ ns) = ap (λ w. n ∷ w) (plain_uses ns)

in_type : (s : Ty) (m : Text) → Member m (names_in_type s) → Member m (type_uses [] s)
in_type s m i = subst (Member m) (sym (plain_uses (names_in_type s))) i

module _ (m n : Text) (e : Entry) where
  -- the name stands first, or further on
  first_or : (f : Entry) (es : Table) (A : Type 0) → (f ≡ e → A) → (entry_of es n ≡ Some e → A) → entry_of (f ∷ es) n ≡ Some e → A
  first_or f es A here later h = by (bytes_eq f.name n) h
    where
      by : (b : Bool) → cond b (Some f) (entry_of es n) ≡ Some e → A
      by true g = here (cc)
      by false g = later g

  constants_use : (d k : ℕ) (ns : List Name) (s : Ty) → entry_of (entries_from a_constant d k (typed_names ns s)) n ≡ Some e → Member m (entity_uses e.entity) → Member m (names_in_type s)
  constants_use d k [] s h i = absurd (cc)
  constants_use d k (l ∷ ns) s h i =
      first_or (record { name = l.text; decl = d; entity = a_constant k s }) (entries_from a_constant d (k + 1) (typed_names ns s)) (Member m (names_in_type s))
      (λ z. subst (λ (w : Entry). Member m (entity_uses w.entity)) (sym z) i) (λ z. constants_use d (k + 1) ns s z i) h

  names_use : (d k : ℕ) (ns : List Name) (s : Ty) (ps : List (Name × Ty)) (A : Type 0) → (Member m (names_in_type s) → A) → ((j : ℕ) → entry_of (entries_from a_global d j ps) n ≡ Some e → A)
      → entry_of (entries_from a_global d k (typed_names ns s ++ ps)) n ≡ Some e → Member m (entity_uses e.entity) → A
  names_use d k [] s ps A here later h i = later k h
  names_use d k (l ∷ ns) s ps A here later h i =
      first_or (record { name = l.text; decl = d; entity = a_global k s }) (entries_from a_global d (k + 1) (typed_names ns s ++ ps)) A
      (λ z. here (subst (λ (w : Entry). Member m (entity_uses w.entity)) (sym z) i)) (λ z. names_use d (k + 1) ns s ps A here later z i) h

  globals_use : (d k : ℕ) (gs : Groups) → entry_of (entries_from a_global d k (names_of gs)) n ≡ Some e → Member m (entity_uses e.entity) → Member m (groups_uses [] gs)
  globals_use d k no_groups h i = absurd (cc)
  globals_use d k (group ns s c gs) h i =
      names_use d k ns s (names_of gs) (Member m (groups_uses [] (group ns s c gs)))
      (λ z. stays m (type_uses [] s) (clause_uses [] c ++ groups_uses [] gs) (in_type s m z))
      (λ j z. member_right m (type_uses [] s) (clause_uses [] c ++ groups_uses [] gs) (member_right m (clause_uses [] c) (groups_uses [] gs) (globals_use d j gs z i)))
      h i

  one_is : (f : Entry) (A : Type 0) → (f ≡ e → A) → entry_of (f ∷ []) n ≡ Some e → A
  one_is f A here h = first_or f [] A here (λ z. absurd (cc)) h

  synonym_uses : (s : Option Ty) (l : Name) → Member m (entity_uses (a_synonym s)) → Member m (contract_uses (synonym l s))
  synonym_uses None l i = i
  synonym_uses (Some s) l i = in_type s m i

  pub uses_in : (k : Counts) (d : ℕ) (x : DeclBody) → entry_of (entries_of k d x) n ≡ Some e → Member m (entity_uses e.entity) → Member m (contract_uses x)
  uses_in k d (constant u ns s) h i = in_type s m (constants_use d k.constants ns s h i)
  uses_in k d (function l ps ins r x) h i = one_is _ (Member m (contract_uses (function l ps ins r x))) (λ z. subst (λ (w : Entry). Member m (entity_uses w.entity)) (sym z) i) h
  uses_in k d (axiom_of x) h i = absurd (cc)
  uses_in k d (variables gs) h i = globals_use d k.globals gs h i
  uses_in k d (synonym l s) h i = one_is _ (Member m (contract_uses (synonym l s))) (λ z. synonym_uses s l (subst (λ (w : Entry). Member m (entity_uses w.entity)) (sym z) i)) h
  uses_in k d (procedure l ps g ss b) h i = one_is _ (Member m (contract_uses (procedure l ps g ss b)))
      (λ z. stays m (signature_uses g) (flat_map (spec_uses (texts_of (signature_names g))) ss) (subst (λ (w : Entry). Member m (entity_uses w.entity)) (sym z) i)) h
  uses_in k d (implementation l ps g b) h i = absurd (cc)

-- what is used where a name is declared that is met is used
pub used_in_entity : (ds : List Decl) (p : Proc) (n m : Text) (e : Entry) → Met ds p n → entry_of (table_of ds) n ≡ Some e → Member m (entity_uses e.entity) → Used ds p m
used_in_entity ds p n m e u h i = used_further ds p n m e u h (λ k d x f. uses_in m n e k d x f i)
