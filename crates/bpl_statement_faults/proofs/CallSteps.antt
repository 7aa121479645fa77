-- Names of groups and clauses in turn, the sorts of names, and the targets of calls.
use Rattle.std.proofs.Common.{◌≡◌, refl, sym, ap, ◌∙◌, ℕ, ◌+◌, ◌<◌, ◌≤◌, min, nat_eq, Bool, true, false, true≢false, ◌&&◌, not, is_some, List, [], ◌∷◌, ◌++◌, map, length, drop, get_or, slice_get, filter, flat_map, Option, Some, arith}
use Rattle.std.specs.List.{list_all}
use Rattle.std.proofs.lemmas.List.{append_assoc, length-append, length-drop, append-nil}
use Rattle.std.proofs.lemmas.List.Elements.{filter-append}
use Rattle.std.proofs.lemmas.List.Folds.{list_all-append}
use Rattle.logic_terms.specs.Tree.{Kind}
use Rattle.bpl_ast.specs.Place.{Name, Ty}
use Rattle.bv_base.specs.declared.place.Place.{Place}
use Rattle.bpl_ast.specs.Tree.{Expr}
use Rattle.bpl_ast.specs.ExprView.{exprs_of, groups_of}
use Rattle.bpl_ast.specs.Statement.{Target, Spec, Signature}
use Rattle.bpl_ast.specs.declared.expr.Group.{Group}
use Rattle.bpl_scopes.specs.declared.fault.TypeKind.TheVariants.{Arity as arity}
use Rattle.bpl_scopes.specs.declared.shape.Shape.{Shape}
use Rattle.bv_base.specs.Text.{is_among}
use Rattle.bpl_scopes.specs.Fault.{unless}
use Rattle.bpl_scopes.specs.KnownSorts.{shapes_seen}
use Rattle.bpl_scopes.specs.Scopes.{Text, contract_with, spec_names, Table, typed_names, names_of, only_names, texts_of, signature_names, entity_of}
use Rattle.bpl_scopes.specs.Sorts.{sort_of_type, sorts_of_names}
use Rattle.bpl_scopes.proofs.Declared.{typed_length}
use Rattle.bpl_faults.proofs.ArgumentSteps.{count_is}
use Rattle.bpl_faults.proofs.ListedNames.{next_dropped}
use Rattle.bpl_statement_faults.specs.CallView.{modified_where}
use Rattle.bpl_statement_faults.specs.StmtFaults.{is_global, modified_by, count_faults, outs_faults}

texts_joined : (ms ns : List Name) → texts_of (ms ++ ns) ≡ texts_of ms ++ texts_of ns
texts_joined [] ns = refl
texts_joined (m ∷ ms) ns = ap (λ l. m.text ∷ l) (texts_joined ms ns)

pub only_joined : (ps qs : List (Name × Ty)) → only_names (ps ++ qs) ≡ only_names ps ++ only_names qs
only_joined [] qs = refl
only_joined (p ∷ ps) qs = ap (λ l. p.0 ∷ l) (only_joined ps qs)

sorts_typed : (t : Table) (h : List Text) (ns : List Name) (s : Ty) (k : Option Kind) → k ≡ sort_of_type t h s → map (λ (n : Name). k) ns ≡ sorts_of_names t h (typed_names ns s)
sorts_typed t h [] s k e = refl
sorts_typed t h (n ∷ ns) s k e = λ i. e i ∷ sorts_typed t h ns s k e i

sorts_joined : (t : Table) (h : List Text) (ps qs : List (Name × Ty)) → sorts_of_names t h (ps ++ qs) ≡ sorts_of_names t h ps ++ sorts_of_names t h qs
sorts_joined t h [] qs = refl
sorts_joined t h (p ∷ ps) qs = ap (λ l. sort_of_type t h p.1 ∷ l) (sorts_joined t h ps qs)

pub sorts_next : (t : Table) (h : List Text) (before after : List (Option Kind)) (k : Option Kind) (g : Group) (gs : List Group) → k ≡ sort_of_type t h g.of
    → after ≡ before ++ map (λ (n : Name). k) g.names.items
    → after ++ sorts_of_names t h (names_of (groups_of gs)) ≡ before ++ sorts_of_names t h (names_of (groups_of (g ∷ gs)))
sorts_next t h before after k g gs e put = ap (λ l. l ++ sorts_of_names t h (names_of (groups_of gs))) put
    ∙ append_assoc before (map (λ (n : Name). k) g.names.items) (sorts_of_names t h (names_of (groups_of gs)))
    ∙ sym (ap (λ l. before ++ l) (sorts_joined t h (typed_names g.names.items g.of) (names_of (groups_of gs)) ∙ ap (λ l. l ++ sorts_of_names t h (names_of (groups_of gs))) (sym (sorts_typed t h g.names.items g.of k e))))

pub count_next : (g : Group) (gs : List Group) → length (names_of (groups_of (g ∷ gs))) ≡ length g.names.items + length (names_of (groups_of gs))
count_next g gs = length-append (typed_names g.names.items g.of) (names_of (groups_of gs)) ∙ ap (λ n. n + length (names_of (groups_of gs))) (typed_length g.names.items g.of)

clauses_joined : (c : Spec) (cs : List Spec) → texts_of (flat_map spec_names (c ∷ cs)) ≡ texts_of (spec_names c) ++ texts_of (flat_map spec_names cs)
clauses_joined c cs = texts_joined (spec_names c) (flat_map spec_names cs)

modified_first : (t : Table) (h : List Text) (c : Spec) (cs : List Spec) → modified_where t h (c ∷ cs) ≡ filter (λ n. is_global (entity_of t n) && not (is_among h n)) (texts_of (spec_names c)) ++ modified_where t h cs
unfolding modified_where
modified_first t h c cs = ap (filter (λ n. is_global (entity_of t n) && not (is_among h n))) (clauses_joined c cs) ∙ filter-append (λ n. is_global (entity_of t n) && not (is_among h n)) (texts_of (spec_names c)) (texts_of (flat_map spec_names cs))

pub modified_nothing : (t : Table) (h : List Text) (before : List Text) → before ++ modified_where t h [] ≡ before
unfolding modified_where
modified_nothing t h before = append-nil before

-- what a procedure modifies
pub modified_are : (t : Table) (g : Signature) (cs : List Spec) → modified_where t (texts_of (signature_names g)) cs ≡ modified_by t (contract_with g cs)
unfolding modified_where
modified_are t g cs = refl

-- the global variables of one clause more
pub modified_walked : (t : Table) (h : List Text) (cs : List Spec) (i : ℕ) (c : Spec) (before after total : List Text) → i < length cs → c ≡ get_or cs i c
    → after ≡ before ++ filter (λ n. is_global (entity_of t n) && not (is_among h n)) (texts_of (spec_names c)) → before ++ modified_where t h (drop i cs) ≡ total → after ++ modified_where t h (drop (i + 1) cs) ≡ total
modified_walked t h cs i c before after total within is step so_far =
    ap (λ l. l ++ modified_where t h (drop (i + 1) cs)) step
    ∙ append_assoc before (filter (λ n. is_global (entity_of t n) && not (is_among h n)) (texts_of (spec_names c))) (modified_where t h (drop (i + 1) cs))
    ∙ sym (ap (λ l. before ++ l) (ap (modified_where t h) (next_dropped cs i c within is) ∙ modified_first t h c (drop (i + 1) cs))) ∙ so_far

may_first : (may : Text → Bool) (t : Table) (h : List Text) (cs : List Spec) (i : ℕ) (c : Spec) → i < length cs → c ≡ get_or cs i c
    → list_all may (modified_where t h (drop i cs)) ≡ (list_all may (filter (λ n. is_global (entity_of t n) && not (is_among h n)) (texts_of (spec_names c))) && list_all may (modified_where t h (drop (i + 1) cs)))
may_first may t h cs i c within is = ap (list_all may) (ap (modified_where t h) (next_dropped cs i c within is) ∙ modified_first t h c (drop (i + 1) cs))
    ∙ list_all-append may (filter (λ n. is_global (entity_of t n) && not (is_among h n)) (texts_of (spec_names c))) (modified_where t h (drop (i + 1) cs))

pub may_walked : (may : Text → Bool) (t : Table) (h : List Text) (cs : List Spec) (i : ℕ) (c : Spec) (total : Bool) → i < length cs → c ≡ get_or cs i c
    → list_all may (filter (λ n. is_global (entity_of t n) && not (is_among h n)) (texts_of (spec_names c))) ≡ true → list_all may (modified_where t h (drop i cs)) ≡ total → list_all may (modified_where t h (drop (i + 1) cs)) ≡ total
may_walked may t h cs i c total within is each so_far = sym (ap (λ b. b && list_all may (modified_where t h (drop (i + 1) cs))) each) ∙ sym (may_first may t h cs i c within is) ∙ so_far

pub may_stops : (may : Text → Bool) (t : Table) (h : List Text) (cs : List Spec) (i : ℕ) (c : Spec) (total : Bool) → i < length cs → c ≡ get_or cs i c
    → list_all may (filter (λ n. is_global (entity_of t n) && not (is_among h n)) (texts_of (spec_names c))) ≡ false → list_all may (modified_where t h (drop i cs)) ≡ total → false ≡ total
may_stops may t h cs i c total within is each so_far = sym (ap (λ b. b && list_all may (modified_where t h (drop (i + 1) cs))) each) ∙ sym (may_first may t h cs i c within is) ∙ so_far

pub may_all : (may : Text → Bool) (t : Table) (h : List Text) → true ≡ list_all may (modified_where t h [])
unfolding modified_where
may_all may t h = refl

-- there is a first target
pub count_first : (ts : List Target) (t : Target) (xs : List Expr) → slice_get ts 0 ≡ Some t → count_faults ts (exprs_of xs) ≡ unless (nat_eq (length ts) (length xs)) arity t.name.at
count_first [] t xs e = absurd (true≢false (sym (ap is_some e)))
count_first (u ∷ us) t xs e = let same : u ≡ t = cc in λ i. unless (nat_eq (length (u ∷ us)) (count_is xs i)) arity ((same i).name).at

-- outs are compared until there are no more
pub outs_end : (i : ℕ) (ks js : List (Option Shape)) (p : Place) → min (length ks) (length js) ≤ i → outs_faults (shapes_seen (drop i ks)) (shapes_seen (drop i js)) p ≡ []
outs_end i ks js p h = by (drop i ks) (drop i js) (let e : min (length (drop i ks)) (length (drop i js)) ≡ 0 = omega (arith, length-drop i ks, length-drop i js) in e)
  where
    by : (ls ms : List (Option Shape)) → min (length ls) (length ms) ≡ 0 → outs_faults (shapes_seen ls) (shapes_seen ms) p ≡ []
    by [] ms e = refl
    by (l ∷ ls) [] e = refl
    by (l ∷ ls) (m ∷ ms) e = absurd (omega (arith, e))
