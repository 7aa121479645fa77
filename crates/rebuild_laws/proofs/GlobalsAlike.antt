-- The global variable of a name stands at its number with its sort and the clause of its group; and the groups of both programs give it clauses that are the same but for places.
use Rattle.std.specs.Prelude.{◌≡◌, ℕ, zero, suc, ◌+◌, Bool, true, false, cond, List, [], ◌∷◌, ◌++◌, map, length, flat_map, slice_get, bytes_eq, Option, Some, None, option_map}
use Rattle.std.proofs.Common.{refl, ap, sym, ◌∙◌, subst, arith, append_assoc, length-append}
use Rattle.logic_core.specs.Tree.{Kind, Tree}
use Rattle.bpl_ast.specs.Place.{Name, Ty}
use Rattle.bpl_ast.specs.Tree.{Groups, no_groups, group, Clause}
use Rattle.bpl_ast.specs.Statement.{DeclBody, constant, function, axiom_of, variables, synonym, procedure, implementation, Decl}
use Rattle.bpl_model.specs.Module.{Global}
use Rattle.bpl_scopes.specs.declared.part.Part.TheVariants.{ClauseOfGlobal as in_clause_of_global}
use Rattle.bpl_scopes.specs.Scopes.{Text, Entity, a_constant, a_global, a_function, a_synonym, a_procedure, Entry, Table, table_of, Counts, no_counts, counts_with, counts_after, typed_names, names_of, entries_from, entries_of, entries_after, entry_of, Scope}
use Rattle.bpl_scopes.specs.Sorts.{sort_of_type}
use Rattle.bpl_terms.specs.Terms.{sort_or_int}
use Rattle.bpl_declaration_faults.specs.Variables.{scope_of}
use Rattle.canonical_text.specs.Same.{bare_names, bare_groups, bare_clause}
use Rattle.bpl_resolve.specs.Elaborate.{clause_term, clause_terms, globals_with, globals_in, module_of}
use Rattle.bpl_resolve.proofs.Ways.{same_text}
use Rattle.bpl_resolve.proofs.Numbered.{length_clauses}
use Rattle.bpl_resolve.proofs.ModuleSorts.{slice_left, slice_right}
use Rattle.rebuild_laws.proofs.Located.{or_in, found_joined, position_here}

-- the clause of the first group that has the name
abbrev pub has_text : List Name → Text → Bool
has_text [] n = false
has_text (m ∷ ms) n = cond (bytes_eq m.text n) true (has_text ms n)

abbrev pub group_clause : Groups → Text → Option Clause
group_clause no_groups n = None
group_clause (group ns t c gs) n = cond (has_text ns n) (Some c) (group_clause gs n)

text_bare : (ns : List Name) (n : Text) → has_text (bare_names ns) n ≡ has_text ns n
text_bare [] n = refl
text_bare (m ∷ ms) n = ap (λ b. cond (bytes_eq m.text n) true b) (text_bare ms n)

pub clause_bare : (gs : Groups) (n : Text) → group_clause (bare_groups gs) n ≡ option_map bare_clause (group_clause gs n)
clause_bare no_groups n = refl
clause_bare (group ns t c gs) n = (λ i. cond (text_bare ns n i) (Some (bare_clause c)) (clause_bare gs n i)) ∙ by (has_text ns n)
  where
    by : (b : Bool) → cond b (Some (bare_clause c)) (option_map bare_clause (group_clause gs n)) ≡ option_map bare_clause (cond b (Some c) (group_clause gs n))
    by true = refl
    by false = refl

module _ (t : Table) (c : Counts) (n : Text) where
  abbrev S : Scope
  S = scope_of t c in_clause_of_global []

  abbrev pub global_with : Ty → Clause → Global
  global_with s k = record { name = n; sort = sort_or_int (sort_of_type t [] s); clause = clause_term S k }

  -- where a name of groups stands in them
  pub record InGroups (e : Entry) (first : ℕ) (gs : List Global) (o : Option Clause) : Type 0 where
    pub index : ℕ
    pub type : Ty
    pub clause : Clause
    pub is : e.entity ≡ a_global (first + index) type
    pub found : o ≡ Some clause
    pub at : slice_get gs index ≡ Some (global_with type clause)

  in_names : (e : Entry) (d k : ℕ) (ns : List Name) (s : Ty) (cl : Clause) (ps : List (Name × Ty)) (ks : List (Option Tree)) (o : Option Clause)
      → ((j : ℕ) → entry_of (entries_from a_global d j ps) n ≡ Some e → InGroups e j (globals_with t c ps ks) o)
      → entry_of (entries_from a_global d k (typed_names ns s ++ ps)) n ≡ Some e
      → InGroups e k (globals_with t c (typed_names ns s ++ ps) (map (λ (m : Name). clause_term S cl) ns ++ ks)) (cond (has_text ns n) (Some cl) o)
  in_names e d k [] s cl ps ks o later h = later k h
  in_names e d k (m ∷ ms) s cl ps ks o later h = by (bytes_eq m.text n) refl h (λ g. in_names e d (k + 1) ms s cl ps ks o later g)
    where
      by : (b : Bool) → bytes_eq m.text n ≡ b → cond b (Some (record { name = m.text; decl = d; entity = a_global k s })) (entry_of (entries_from a_global d (k + 1) (typed_names ms s ++ ps)) n) ≡ Some e
          → (entry_of (entries_from a_global d (k + 1) (typed_names ms s ++ ps)) n ≡ Some e → InGroups e (k + 1) (globals_with t c (typed_names ms s ++ ps) (map (λ (m : Name). clause_term S cl) ms ++ ks)) (cond (has_text ms n) (Some cl) o))
          → InGroups e k (globals_with t c (typed_names (m ∷ ms) s ++ ps) (map (λ (m : Name). clause_term S cl) (m ∷ ms) ++ ks)) (cond (cond b true (has_text ms n)) (Some cl) o)
      by true q g deeper =
          let z : record { name = m.text; decl = d; entity = a_global k s } ≡ e = cc in
          let w : k + 0 ≡ k = omega arith in
          record { index = 0; type = s; clause = cl; is = sym (ap (λ (y : Entry). y.entity) z) ∙ ap (λ j. a_global j s) (sym w); found = refl; at = ap (λ (x : Text). Some (record { name = x; sort = sort_or_int (sort_of_type t [] s); clause = clause_term S cl })) (same_text m.text n q) }
      by false q g deeper =
          let r = deeper g in
          let w : (k + 1) + r.index ≡ k + suc r.index = omega arith in
          record { index = suc r.index; type = r.type; clause = r.clause; is = r.is ∙ ap (λ j. a_global j r.type) w; found = r.found; at = r.at }

  in_groups : (e : Entry) (d : ℕ) (gs : Groups) (k : ℕ) → entry_of (entries_from a_global d k (names_of gs)) n ≡ Some e → InGroups e k (globals_with t c (names_of gs) (clause_terms S gs)) (group_clause gs n)
  in_groups e d no_groups k h = absurd (cc)
  in_groups e d (group ns s cl gs) k h = in_names e d k ns s cl (names_of gs) (clause_terms S gs) (group_clause gs n) (λ j g. in_groups e d gs j g) h

  -- what is no global
  abbrev is_global : Entity → Bool
  is_global (a_constant k s) = false
  is_global (a_global k s) = true
  is_global (a_function h) = false
  is_global (a_synonym s) = false
  is_global (a_procedure k d) = false

  constants_no : (e : Entry) (d k : ℕ) (ns : List Name) (s : Ty) → entry_of (entries_from a_constant d k (typed_names ns s)) n ≡ Some e → is_global e.entity ≡ false
  constants_no e d k [] s h = absurd (cc)
  constants_no e d k (m ∷ ms) s h = by (bytes_eq m.text n) h (constants_no e d (k + 1) ms s)
    where
      by : (b : Bool) → cond b (Some (record { name = m.text; decl = d; entity = a_constant k s })) (entry_of (entries_from a_constant d (k + 1) (typed_names ms s)) n) ≡ Some e
          → (entry_of (entries_from a_constant d (k + 1) (typed_names ms s)) n ≡ Some e → is_global e.entity ≡ false) → is_global e.entity ≡ false
      by true g later = let z : record { name = m.text; decl = d; entity = a_constant k s } ≡ e = cc in sym (ap (λ (y : Entry). is_global y.entity) z)
      by false g later = later g

  one_no : (f e : Entry) → is_global f.entity ≡ false → entry_of (f ∷ []) n ≡ Some e → is_global e.entity ≡ false
  one_no f e k h = by (bytes_eq f.name n) h
    where
      by : (b : Bool) → cond b (Some f) None ≡ Some e → is_global e.entity ≡ false
      by true g = let z : f ≡ e = cc in sym (ap (λ (y : Entry). is_global y.entity) z) ∙ k
      by false g = absurd (cc)

  -- the declaration of a global, and the global in the list of all
  pub record GlobalAt (e : Entry) (v : ℕ) (xs : List Decl) (d : ℕ) (all : List Global) : Type 0 where
    pub index : ℕ
    pub decl : Decl
    pub groups : Groups
    pub type : Ty
    pub clause : Clause
    pub stands : slice_get xs index ≡ Some decl
    pub place : e.decl ≡ d + index
    pub body : decl.body ≡ variables groups
    pub found : group_clause groups n ≡ Some clause
    pub at : slice_get all v ≡ Some (global_with type clause)

  as_many : (ps : List (Name × Ty)) (ks : List (Option Tree)) → length ks ≡ length ps → length (globals_with t c ps ks) ≡ length ps
  as_many [] ks e = refl
  as_many (p ∷ ps) [] e = absurd (omega (arith, e))
  as_many (p ∷ ps) (k ∷ ks) e = ap suc (as_many ps ks (omega (arith, e)))

  counted : (k : Counts) (x : DeclBody) → k.globals + length (globals_in t c x) ≡ (counts_with k x).globals
  counted k (constant u ns s) = omega arith
  counted k (function m q ins r x) = omega arith
  counted k (axiom_of x) = omega arith
  counted k (variables vs) = ap (λ w. k.globals + w) (as_many (names_of vs) (clause_terms S vs) (length_clauses S vs))
  counted k (synonym m s) = omega arith
  counted k (procedure m q g ss b) = omega arith
  counted k (implementation m q g b) = omega arith

  no_such : (e : Entry) (v : ℕ) (s : Ty) → e.entity ≡ a_global v s → is_global e.entity ≡ false → ⊥
  no_such e v s h k = let z : true ≡ false = sym (ap is_global h) ∙ k in cc

  abbrev number_of : Entity → ℕ
  number_of (a_constant k s) = 0
  number_of (a_global k s) = k
  number_of (a_function h) = 0
  number_of (a_synonym s) = 0
  number_of (a_procedure k d) = 0

  pub global_placed : (k : Counts) (d : ℕ) (before : List Global) (xs : List Decl) (e : Entry) (v : ℕ) (s : Ty) → length before ≡ k.globals → entry_of (entries_after k d xs) n ≡ Some e → e.entity ≡ a_global v s
      → GlobalAt e v xs d (before ++ flat_map (λ (x : Decl). globals_in t c x.body) xs)
  global_placed k d before [] e v s l h g = absurd (cc)
  global_placed k d before (x ∷ xs) e v s l h g =
      let m = counted k x.body in
      let w = length-append before (globals_in t c x.body) in
      by (entry_of (entries_of k d x.body) n) refl (sym (found_joined n (entries_of k d x.body) (entries_after (counts_with k x.body) (d + 1) xs)) ∙ h)
      (λ i. global_placed (counts_with k x.body) (d + 1) (before ++ globals_in t c x.body) xs e v s (omega (arith, m, w, l)) i g)
    where
      here : (b : DeclBody) → x.body ≡ b → entry_of (entries_of k d b) n ≡ Some e → e.decl ≡ d → GlobalAt e v (x ∷ xs) d (before ++ (globals_in t c b ++ flat_map (λ (x : Decl). globals_in t c x.body) xs))
      here (variables gs) f q place =
          let r = in_groups e d gs k.globals q in
          let z : v ≡ k.globals + r.index = ap number_of (sym g ∙ r.is) in
          record {
            index = 0;
            decl = x;
            groups = gs;
            type = r.type;
            clause = r.clause;
            stands = refl;
            place = omega (arith, place);
            body = f;
            found = r.found;
            at = ap (slice_get (before ++ (globals_in t c (variables gs) ++ flat_map (λ (x : Decl). globals_in t c x.body) xs))) z
                ∙ (slice_right before (globals_in t c (variables gs) ++ flat_map (λ (x : Decl). globals_in t c x.body) xs) k.globals r.index l
                ∙ slice_left (globals_in t c (variables gs)) (flat_map (λ (x : Decl). globals_in t c x.body) xs) r.index _ r.at);
          }
      here (constant u ns o) f q place = absurd (no_such e v s g (constants_no e d k.constants ns o q))
      here (function m ps ins o y) f q place = absurd (no_such e v s g (one_no _ e refl q))
      here (axiom_of y) f q place = absurd (cc)
      here (synonym m o) f q place = absurd (no_such e v s g (one_no _ e refl q))
      here (procedure m ps sg ss y) f q place = absurd (no_such e v s g (one_no _ e refl q))
      here (implementation m ps sg y) f q place = absurd (cc)

      by : (o : Option Entry) → entry_of (entries_of k d x.body) n ≡ o → or_in o (entry_of (entries_after (counts_with k x.body) (d + 1) xs) n) ≡ Some e
          → (entry_of (entries_after (counts_with k x.body) (d + 1) xs) n ≡ Some e → GlobalAt e v xs (d + 1) ((before ++ globals_in t c x.body) ++ flat_map (λ (x : Decl). globals_in t c x.body) xs))
          → GlobalAt e v (x ∷ xs) d (before ++ (globals_in t c x.body ++ flat_map (λ (x : Decl). globals_in t c x.body) xs))
      by None f q later =
          let r = later q in
          let p = r.place in
          record {
            index = suc r.index;
            decl = r.decl;
            groups = r.groups;
            type = r.type;
            clause = r.clause;
            stands = r.stands;
            place = omega (arith, p);
            body = r.body;
            found = r.found;
            at = ap (λ gs. slice_get gs v) (sym (append_assoc before (globals_in t c x.body) (flat_map (λ (x : Decl). globals_in t c x.body) xs))) ∙ r.at;
          }
      by (Some y) f q later = here x.body refl (f ∙ q) (position_here k d x.body n e (f ∙ q))

-- of a program
pub global_there : (ds : List Decl) (n : Text) (e : Entry) (v : ℕ) (s : Ty) → entry_of (table_of ds) n ≡ Some e → e.entity ≡ a_global v s → GlobalAt (table_of ds) (counts_after no_counts ds) n e v ds 0 (module_of ds).globals
global_there ds n e v s h g = global_placed (table_of ds) (counts_after no_counts ds) n no_counts 0 [] ds e v s refl h g
