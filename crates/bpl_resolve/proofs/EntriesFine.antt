-- In a program without faults each entry of the table comes from a declaration without faults: what is declared under a name has none.
use Rattle.std.proofs.Common.{◌≡◌, refl, subst, ℕ, ◌+◌, Bool, true, false, ◌&&◌, List, [], ◌∷◌, ◌++◌, Option, Some, None, option_map}
use Rattle.std.specs.Prelude.{⊤, bytes_eq, find, cond}
use Rattle.std.specs.List.{AllByRecursion}
use Rattle.bpl_ast.specs.Place.{Name, Ty, Params}
use Rattle.bpl_ast.specs.Tree.{Expr, Groups, no_groups, group}
use Rattle.bpl_ast.specs.Statement.{Argument, Signature, DeclBody, constant, function, axiom_of, variables, synonym, procedure, implementation, Decl}
use Rattle.bpl_scopes.specs.declared.fault.TypeKind.TheVariants.{Twice as twice}
use Rattle.bv_base.specs.Text.{is_among}
use Rattle.bpl_scopes.specs.Fault.{again, if_so, first_fault}
use Rattle.bpl_scopes.specs.Scopes.{Text, Entity, a_constant, a_global, a_function, a_synonym, a_procedure, Entry, Table, table_of, Counts, no_counts, counts_with, counts_after, typed_names, names_of, only_names, texts_of, signature_names, entries_from, entries_of, entries_after, entry_of, entity_of}
use Rattle.bpl_scopes.specs.Functions.{leads_to_itself, argument_names}
use Rattle.bpl_scopes.specs.TypeFaults.{type_faults, group_type_faults, params_faults}
use Rattle.bpl_declaration_faults.specs.DeclFaults.{argument_type_faults, function_body_faults, function_value_faults, unique_faults, synonym_faults, cycle_faults, signature_faults, has_body, decl_faults, Before, before_with, nothing_before, faults_after, first_from, fault_of}
use Rattle.bpl_resolve.proofs.HasSort.{first_empty, second_empty}
use Rattle.bpl_resolve.proofs.GoesForward.{if_so_empty, no_first, in_decl_none}
use Rattle.bpl_resolve.proofs.Ways.{same_text}
use Rattle.bpl_resolve.proofs.TypesKnown.{SynonymsFine}

module _ (t : Table) (c : Counts) where
  pub record FunctionFine (n : Text) (ins : List Argument) (r : Ty) (value : Option Expr) : Type 0 where
    pub no_cycle : leads_to_itself t n ≡ false
    pub ins_fine : argument_type_faults t ins ≡ []
    pub result_fine : type_faults t [] r ≡ []
    pub body : Expr
    pub is_body : value ≡ Some body
    pub body_fine : function_body_faults t c ins r body ≡ []

  pub record SignatureFine (g : Signature) : Type 0 where
    pub ins_fine : group_type_faults t (texts_of (signature_names g)) g.ins ≡ []
    pub outs_fine : group_type_faults t (texts_of (signature_names g)) g.outs ≡ []

  abbrev pub EntityFine : Text → Entity → Type 0
  EntityFine n (a_constant k s) = type_faults t [] s ≡ []
  EntityFine n (a_global k s) = type_faults t [] s ≡ []
  EntityFine n (a_function h) = FunctionFine n h.ins h.result h.value
  EntityFine n (a_synonym s) = (leads_to_itself t n ≡ false) × (synonym_faults t s ≡ [])
  EntityFine n (a_procedure k d) = SignatureFine d.signature

  abbrev pub EntriesFine : Table → Type 0
  EntriesFine es = AllByRecursion (λ (e : Entry). EntityFine e.name e.entity) es

  joined : (es fs : Table) → EntriesFine es → EntriesFine fs → EntriesFine (es ++ fs)
  joined [] fs h k = k
  joined (e ∷ es) fs h k = (h.0, joined es fs h.1 k)

  constants_fine : (d k : ℕ) (ns : List Name) (s : Ty) → type_faults t [] s ≡ [] → EntriesFine (entries_from a_constant d k (typed_names ns s))
  constants_fine d k [] s e = tt
  constants_fine d k (n ∷ ns) s e = (e, constants_fine d (k + 1) ns s e)

  names_fine : (d k : ℕ) (ns : List Name) (s : Ty) (ps : List (Name × Ty)) → type_faults t [] s ≡ [] → ((j : ℕ) → EntriesFine (entries_from a_global d j ps)) → EntriesFine (entries_from a_global d k (typed_names ns s ++ ps))
  names_fine d k [] s ps e h = h k
  names_fine d k (n ∷ ns) s ps e h = (e, names_fine d (k + 1) ns s ps e h)

  globals_fine : (d k : ℕ) (gs : Groups) → group_type_faults t [] gs ≡ [] → EntriesFine (entries_from a_global d k (names_of gs))
  globals_fine d k no_groups e = tt
  globals_fine d k (group ns s w gs) e = names_fine d k ns s (names_of gs) (first_empty _ _ e) (λ j. globals_fine d j gs (second_empty (type_faults t [] s) _ e))

  pub signature_fine : (ps : Option Params) (g : Signature) → signature_faults t ps g ≡ [] → SignatureFine g
  signature_fine ps g e =
      let r = second_empty (params_faults ps) _ e in
      record { ins_fine = first_empty _ _ r; outs_fine = second_empty (group_type_faults t (texts_of (signature_names g)) g.ins) _ r }

  value_fine : (n : Name) (ins : List Argument) (r : Ty) (value : Option Expr) → function_value_faults t c n ins r value ≡ [] → (x : Expr) × (value ≡ Some x) × (function_body_faults t c ins r x ≡ [])
  value_fine n ins r None e = cc
  value_fine n ins r (Some x) e = (x, refl, e)

  pub function_fine : (b : Before) (n : Name) (ps : Option Params) (ins : List Argument) (r : Ty) (x : Option Expr) → decl_faults t c b (function n ps ins r x) ≡ [] → FunctionFine n.text ins r x
  function_fine b n ps ins r x e =
      let r1 = second_empty (again twice b.names (n ∷ [])) _ e in
      let r2 = second_empty (cycle_faults t n) _ r1 in
      let r3 = second_empty (params_faults ps) _ r2 in
      let r4 = second_empty (again twice [] (argument_names ins)) _ r3 in
      let r5 = second_empty (argument_type_faults t ins) _ r4 in
      let r6 = second_empty (type_faults t [] r) _ r5 in
      let v = value_fine n ins r x r6 in
      record { no_cycle = if_so_empty _ _ _ (first_empty _ _ r1); ins_fine = first_empty _ _ r4; result_fine = first_empty _ _ r5; body = v.0; is_body = v.1; body_fine = v.2 }

  decl_entries : (b : Before) (k : Counts) (d : ℕ) (x : DeclBody) → decl_faults t c b x ≡ [] → EntriesFine (entries_of k d x)
  decl_entries b k d (constant u ns s) e = constants_fine d k.constants ns s (second_empty (again twice b.names ns) _ (second_empty (unique_faults u) _ e))
  decl_entries b k d (function n ps ins r x) e = (function_fine b n ps ins r x e, tt)
  decl_entries b k d (axiom_of x) e = tt
  decl_entries b k d (variables gs) e = globals_fine d k.globals gs (first_empty _ _ (second_empty (again twice b.names (only_names (names_of gs))) _ e))
  decl_entries b k d (synonym n s) e =
      let r = second_empty (again twice b.names (n ∷ [])) _ e in
      ((if_so_empty _ _ _ (first_empty _ _ r), second_empty (cycle_faults t n) _ r), tt)
  decl_entries b k d (procedure n ps g ss body) e =
      let r1 = second_empty (again twice b.names (n ∷ [])) _ e in
      let r2 = second_empty (if_so (has_body body && is_among b.bodies n.text) twice n.at) _ r1 in
      (signature_fine ps g (first_empty _ _ r2), tt)
  decl_entries b k d (implementation n ps g body) e = tt

  -- each declaration has no fault, after those before it
  abbrev pub NoFaults : Before → List Decl → Type 0
  NoFaults b [] = ⊤
  NoFaults b (x ∷ xs) = (decl_faults t c b x.body ≡ []) × NoFaults (before_with b x.body) xs

  pub no_faults : (b : Before) (k : ℕ) (ds : List Decl) → first_from k (faults_after t c b ds) ≡ None → NoFaults b ds
  no_faults b k [] e = tt
  no_faults b k (d ∷ ds) e =
      let r = in_decl_none k (first_fault (decl_faults t c b d.body)) (first_from (k + 1) (faults_after t c (before_with b d.body) ds)) e in
      (no_first _ r.0, no_faults (before_with b d.body) (k + 1) ds r.1)

  pub entries_fine : (b : Before) (k : Counts) (d : ℕ) (ds : List Decl) → NoFaults b ds → EntriesFine (entries_after k d ds)
  entries_fine b k d [] h = tt
  entries_fine b k d (x ∷ xs) h = joined _ _ (decl_entries b k d x.body h.0) (entries_fine (before_with b x.body) (counts_with k x.body) (d + 1) xs h.1)

-- what holds of each entry holds of what a name stands for
module _ (P : Text → Entity → Type 0) where
  abbrev what_is : Option Entry → Option Entity
  what_is o = option_map (λ (e : Entry). e.entity) o

  entry_has : (es : Table) (n : Text) (x : Entity) → AllByRecursion (λ (e : Entry). P e.name e.entity) es → what_is (entry_of es n) ≡ Some x → P n x
  entry_has [] n x h q = cc
  entry_has (e ∷ es) n x h q = by (entry_has es n x h.1) (bytes_eq e.name n) refl q
    where
      some_same : (a b : Entity) → Some a ≡ Some b → a ≡ b
      some_same a b z = cc

      by : (what_is (entry_of es n) ≡ Some x → P n x) → (r : Bool) → bytes_eq e.name n ≡ r → what_is (find (λ (d : Entry). bytes_eq d.name n) (e ∷ es)) ≡ Some x → P n x
      by later true g z =
          let u : what_is (cond true (Some e) (entry_of es n)) ≡ Some x = subst (λ w. what_is (cond w (Some e) (entry_of es n)) ≡ Some x) g z in
          subst (λ w. P n w) (some_same _ _ u) (subst (λ w. P w e.entity) (same_text e.name n g) h.0)
      by later false g z = later (subst (λ w. what_is (cond w (Some e) (entry_of es n)) ≡ Some x) g z)

  pub entity_has : (es : Table) → AllByRecursion (λ (e : Entry). P e.name e.entity) es → (n : Text) (x : Entity) → entity_of es n ≡ Some x → P n x
  unfolding entity_of
  entity_has es h n x q = entry_has es n x h q

pub entity_fine : (t : Table) (c : Counts) → EntriesFine t c t → (n : Text) (x : Entity) → entity_of t n ≡ Some x → EntityFine t c n x
entity_fine t c h n x q = entity_has (EntityFine t c) t h n x q

pub synonyms_fine : (t : Table) (c : Counts) → EntriesFine t c t → SynonymsFine t
synonyms_fine t c h n s q = entity_fine t c h n (a_synonym s) q

pub none_faulty : (ds : List Decl) → fault_of ds ≡ None → NoFaults (table_of ds) (counts_after no_counts ds) nothing_before ds
none_faulty ds e = no_faults (table_of ds) (counts_after no_counts ds) nothing_before 0 ds e

pub table_fine : (ds : List Decl) → fault_of ds ≡ None → EntriesFine (table_of ds) (counts_after no_counts ds) (table_of ds)
table_fine ds e = entries_fine (table_of ds) (counts_after no_counts ds) nothing_before no_counts 0 ds (none_faulty ds e)
