-- The globals that are reached are those among the reached declarations, in order of declaration.
use Rattle.std.specs.Prelude.{◌≡◌, ℕ, zero, suc, ◌+◌, ◌<◌, ◌==◌, Bool, true, false, not, ◌||◌, ◌&&◌, cond, codes, decimal, List, [], ◌∷◌, ◌++◌, map, length, drop, filter, flat_map, filter_map, slice_get, bytes_eq, Option, Some, None, option_map}
use Rattle.std.specs.List.{AllByRecursion, range_with_len, list_any, cons_option}
use Rattle.std.proofs.Common.{refl, ap, sym, ◌∙◌, subst, arith, inl, inr, ◌⊎◌}
use Rattle.logic_core.specs.Tree.{Tree}
use Rattle.bpl_lex.specs.Shape.{is_identifier}
use Rattle.bpl_ast.specs.Place.{Name, Ty}
use Rattle.bpl_ast.specs.Tree.{Groups, no_groups, group}
use Rattle.bpl_ast.specs.Statement.{DeclBody, constant, function, axiom_of, variables, synonym, procedure, implementation, Decl, name_of, axioms_with}
use Rattle.bpl_model.specs.Module.{Proc, Module, Global, DeclText}
use Rattle.bpl_model.specs.Reach.{among, decl_at, positions, is_named, leads_to, own_positions, reached_by, globals_among, reached_globals}
use Rattle.bpl_scopes.specs.declared.fault.TypeKind.TheVariants.{Twice as twice}
use Rattle.bpl_scopes.specs.declared.part.Part.TheVariants.{ClauseOfGlobal as in_clause_of_global}
use Rattle.bv_base.specs.Text.{is_among}
use Rattle.bpl_scopes.specs.Fault.{again, if_so}
use Rattle.bpl_scopes.specs.Scopes.{Text, Table, table_of, Counts, no_counts, counts_after, declared_names, names_of, only_names, texts_of, entry_of}
use Rattle.bpl_declaration_faults.specs.DeclFaults.{decl_faults, Before, before_with, nothing_before, fault_of}
use Rattle.bpl_declaration_faults.specs.Variables.{scope_of}
use Rattle.canonical_text.specs.WrittenExpression.{IsName, AreNames, SomeNames, AreWrittenGroups}
use Rattle.canonical_text.specs.WrittenStatement.{IsWrittenDecl}
use Rattle.canonical_text.specs.RoundTrip.{AreWrittenDecls}
use Rattle.canonical_text.proofs.Alone.{name_identifier}
use Rattle.bpl_resolve.specs.Elaborate.{clause_terms, globals_with, globals_in, decl_text, module_of}
use Rattle.bpl_resolve.proofs.HasSort.{second_empty}
use Rattle.logic_core.proofs.Booleans.{neither as either_false, or_second, same_test}
use Rattle.bpl_resolve.proofs.Ways.{same_text, text_itself}
use Rattle.bpl_resolve.proofs.EntriesFine.{NoFaults, none_faulty}
use Rattle.bpl_resolve.proofs.Numbered.{length_clauses}
use Rattle.rebuild_laws.proofs.Settled.{itself, same_number, among_passed, reached_within}
use Rattle.rebuild_laws.proofs.ReachClosed.{is_passed, reached_stable}
use Rattle.rebuild_laws.proofs.Located.{found_at}
use Rattle.rebuild_laws.proofs.OwnNames.{decl_again, again_apart}
use Rattle.rebuild_laws.specs.DependencyTexts.{bodies_at, other_positions}
use Rattle.rebuild_laws.proofs.UsedNames.{text_there, is_position}
use Rattle.rebuild_laws.proofs.OrderOfNames.{first_left}
use Rattle.rebuild_laws.proofs.AxiomsReached.{axioms_before, next_before, written_there, any_numbers, in_bounds, slice_there, below_of}

-- the name of a declaration that is an identifier is one that it declares
among_first : (n m : Text) (ms : List Text) → bytes_eq n m ≡ true → is_among (m ∷ ms) n ≡ true
among_first n m ms e = ap (λ b. b || is_among ms n) e

apart_name : (n : Text) (k : ℕ) → is_identifier n ≡ true → bytes_eq n (codes "@" ++ decimal (suc k)) ≡ true → ⊥
apart_name n k i e =
    let q : is_identifier (codes "@" ++ decimal (suc k)) ≡ true = ap is_identifier (sym (same_text n (codes "@" ++ decimal (suc k)) e)) ∙ i in
    let f : is_identifier (codes "@" ++ decimal (suc k)) ≡ false = refl in
    let z = sym q ∙ f in
    cc

apart_implementation : (n m : Text) → is_identifier n ≡ true → bytes_eq n (codes "implementation " ++ m) ≡ true → ⊥
apart_implementation n m i e =
    let q : is_identifier (codes "implementation " ++ m) ≡ true = ap is_identifier (sym (same_text n (codes "implementation " ++ m) e)) ∙ i in
    let f : is_identifier (codes "implementation " ++ m) ≡ false = refl in
    let z = sym q ∙ f in
    cc

declared_first : (d : DeclBody) (k : ℕ) (n : Text) → IsWrittenDecl d → is_identifier n ≡ true → bytes_eq n (name_of k d) ≡ true → is_among (texts_of (declared_names d)) n ≡ true
declared_first (constant u [] t) k n w i e = absurd (w.0)
declared_first (constant u (m ∷ ms) t) k n w i e = among_first n m.text (texts_of ms) e
declared_first (function m ps ins t b) k n w i e = among_first n m.text [] e
declared_first (axiom_of x) k n w i e = absurd (apart_name n k i e)
declared_first (variables no_groups) k n w i e = absurd (let q = w.0 in cc)
declared_first (variables (group [] t c gs)) k n w i e = absurd (w.1.0)
declared_first (variables (group (m ∷ ms) t c gs)) k n w i e = among_first n m.text _ e
declared_first (synonym m t) k n w i e = among_first n m.text [] e
declared_first (procedure m ps s ss b) k n w i e = among_first n m.text [] e
declared_first (implementation m ps s b) k n w i e = absurd (apart_implementation n m.text i e)

-- names
abbrev name_list : List Global → List Text
name_list gs = map (λ (g : Global). g.name) gs

any_false : (f : ℕ → Bool) (ns : List ℕ) → ((d : ℕ) → among ns d ≡ true → f d ≡ false) → list_any f ns ≡ false
any_false f [] h = refl
any_false f (n ∷ ns) h = (λ i. h n (ap (λ b. b || among ns n) (itself n)) i || list_any f ns) ∙ any_false f ns (λ d k. h d (or_second (n == d) (among ns d) k))

module _ (m : Module) (reached : List ℕ) where
  abbrev NoDeclaration : List Global → Type 0
  NoDeclaration gs = AllByRecursion (λ (g : Global). list_any (is_named m g.name) (positions m) ≡ false) gs

  -- globals after which no declaration is named go with the one before
  run : (b : Bool) (gs more : List Global) → NoDeclaration gs → globals_among m reached b (gs ++ more) ≡ cond b (gs ++ globals_among m reached b more) (globals_among m reached b more)
  run true [] more h = refl
  run false [] more h = refl
  run true (g ∷ gs) more h =
      (λ i. let now = cond (h.0 i) (list_any (is_named m g.name) reached) true in cond now (g ∷ globals_among m reached now (gs ++ more)) (globals_among m reached now (gs ++ more)))
      ∙ ap (λ w. g ∷ w) (run true gs more h.1)
  run false (g ∷ gs) more h =
      (λ i. let now = cond (h.0 i) (list_any (is_named m g.name) reached) false in cond now (g ∷ globals_among m reached now (gs ++ more)) (globals_among m reached now (gs ++ more)))
      ∙ run false gs more h.1

  -- and the first one by its declaration
  run_first : (a b : Bool) (g : Global) (gs more : List Global) → list_any (is_named m g.name) (positions m) ≡ true → list_any (is_named m g.name) reached ≡ a → NoDeclaration gs
      → globals_among m reached b ((g ∷ gs) ++ more) ≡ cond a ((g ∷ gs) ++ globals_among m reached a more) (globals_among m reached a more)
  run_first a b g gs more f h k =
      (λ i. let now = cond (f i) (h i) b in cond now (g ∷ globals_among m reached now (gs ++ more)) (globals_among m reached now (gs ++ more)))
      ∙ by a (run a gs more k)
    where
      by : (a : Bool) → globals_among m reached a (gs ++ more) ≡ cond a (gs ++ globals_among m reached a more) (globals_among m reached a more)
          → cond a (g ∷ globals_among m reached a (gs ++ more)) (globals_among m reached a (gs ++ more)) ≡ cond a ((g ∷ gs) ++ globals_among m reached a more) (globals_among m reached a more)
      by true e = ap (λ w. g ∷ w) e
      by false e = e

-- positions of names
module _ (ds : List Decl) (p : Proc) (written : AreWrittenDecls 0 ds) (none : fault_of ds ≡ None) where
  abbrev M : Module
  M = module_of ds

  as_many : (xs : List Decl) → length (map (decl_text (table_of ds) (length ds)) xs) ≡ length xs
  as_many [] = refl
  as_many (x ∷ xs) = ap suc (as_many xs)

  one_place : (n : Text) (i j : ℕ) (x y : Decl) → slice_get ds i ≡ Some x → slice_get ds j ≡ Some y → is_among (texts_of (declared_names x.body)) n ≡ true → is_among (texts_of (declared_names y.body)) n ≡ true → i ≡ j
  one_place n i j x y a b h k =
      let r = found_at (table_of ds) (counts_after no_counts ds) nothing_before no_counts 0 ds i x n (none_faulty ds none) a h in
      let s = found_at (table_of ds) (counts_after no_counts ds) nothing_before no_counts 0 ds j y n (none_faulty ds none) b k in
      let z : r.entry ≡ s.entry = let q = sym r.is ∙ s.is in cc in
      let u = r.decl in
      let v = s.decl in
      let w = ap (λ e. e.decl) z in
      omega (arith, u, v, w)

  -- the declaration that is named so declares the name
  declares_it : (n : Text) (d : ℕ) → is_identifier n ≡ true → among (positions M) d ≡ true → is_named M n d ≡ true → (y : Decl) × (slice_get ds d ≡ Some y) × (is_among (texts_of (declared_names y.body)) n ≡ true)
  declares_it n d i h e =
      let z = in_bounds 0 (length M.texts) d h in
      let l = as_many ds in
      let y = slice_there ds d (omega (arith, z, l)) in
      let w = written_there 0 ds d y.0 written y.1 in
      (y.0, y.1, declared_first y.0.body (axioms_before 0 ds d) n w.1 i (sym (ap (bytes_eq n) (ap (λ (t : DeclText). t.name) (text_there ds p d y.0 y.1) ∙ w.0)) ∙ e))

  -- a declared name that is the declaration's own name
  named_here : (n : Text) (k d : ℕ) (x : Decl) → is_identifier n ≡ true → slice_get ds k ≡ Some x → is_among (texts_of (declared_names x.body)) n ≡ true → n ≡ x.name → among (positions M) d ≡ true → is_named M n d ≡ (d == k)
  named_here n k d x i a h own l =
      same_test (is_named M n d) (d == k)
      (λ e. let r = declares_it n d i l e in subst (λ v. (d == v) ≡ true) (one_place n d k r.0 x r.1 a r.2 h) (itself d))
      (λ e. subst (λ v. is_named M n v ≡ true) (sym (same_number d k e))
      (ap (bytes_eq n) (ap (λ (t : DeclText). t.name) (text_there ds p k x a) ∙ sym own) ∙ text_itself n))

  -- one that isn't is no declaration's name
  named_nowhere : (n : Text) (k d : ℕ) (x : Decl) → is_identifier n ≡ true → slice_get ds k ≡ Some x → is_among (texts_of (declared_names x.body)) n ≡ true → bytes_eq n x.name ≡ false → among (positions M) d ≡ true → is_named M n d ≡ false
  named_nowhere n k d x i a h other l = by (is_named M n d) refl
    where
      by : (b : Bool) → is_named M n d ≡ b → is_named M n d ≡ false
      by false e = e
      by true e =
          let r = declares_it n d i l e in
          let z = one_place n d k r.0 x r.1 a r.2 h in
          let q : is_named M n k ≡ true = subst (λ v. is_named M n v ≡ true) z e in
          let f = sym (ap (bytes_eq n) (ap (λ (t : DeclText). t.name) (text_there ds p k x a))) ∙ q in
          let y = sym f ∙ other in
          absurd (cc)

-- of the names of a declaration's globals behind the first
module _ (t : Table) (c : Counts) (all : List Text) (m : Text) where
  pub record Behind (n : Name) : Type 0 where
    pub identifier : is_identifier n.text ≡ true
    pub declared : is_among all n.text ≡ true
    pub apart : bytes_eq n.text m ≡ false

  behind : (before : List Text) (ps : List (Name × Ty)) → again twice before (only_names ps) ≡ [] → is_among before m ≡ true → AllByRecursion (λ (p : Name × Ty). IsName p.0) ps
      → ((n : Text) → is_among (texts_of (only_names ps)) n ≡ true → is_among all n ≡ true) → AllByRecursion (λ (p : Name × Ty). Behind p.0) ps
  behind before [] a h w i = tt
  behind before (p ∷ ps) a h w i = (
    record { identifier = name_identifier (p.0).text w.0; declared = i (p.0).text (here (texts_of (only_names ps))); apart = apart_from (bytes_eq (p.0).text m) refl },
    behind ((p.0).text ∷ before) ps (second_empty (if_so (is_among before (p.0).text) twice (p.0).at) _ a) (or_second (bytes_eq m (p.0).text) (is_among before m) h) w.1 (λ n k. i n (or_second (bytes_eq n (p.0).text) (is_among (texts_of (only_names ps)) n) k)),
  )
    where
      here : (ns : List Text) → is_among ((p.0).text ∷ ns) (p.0).text ≡ true
      here ns = ap (λ b. b || is_among ns (p.0).text) (text_itself (p.0).text)

      apart_from : (b : Bool) → bytes_eq (p.0).text m ≡ b → bytes_eq (p.0).text m ≡ false
      apart_from false e = e
      apart_from true e =
          let z = again_apart t c before (p.0 ∷ only_names ps) (p.0).text a (here (texts_of (only_names ps))) in
          let q : is_among before (p.0).text ≡ true = subst (λ w. is_among before w ≡ true) (sym (same_text (p.0).text m e)) h in
          let y = sym z ∙ q in
          absurd (cc)

all_joined : (P : Name → Type 0) (ns : List Name) (s : Ty) (ps : List (Name × Ty)) → AllByRecursion P ns → AllByRecursion (λ (p : Name × Ty). P p.0) ps → AllByRecursion (λ (p : Name × Ty). P p.0) (map (λ (n : Name). (n, s)) ns ++ ps)
all_joined P [] s ps h k = k
all_joined P (n ∷ ns) s ps h k = (h.0, all_joined P ns s ps h.1 k)

all_names : (ns : List Name) → AreNames ns → AllByRecursion IsName ns
all_names [] h = tt
all_names (n ∷ ns) h = (h.0, all_names ns h.1)

some_names : (ns : List Name) → SomeNames ns → AllByRecursion IsName ns
some_names [] h = absurd h
some_names (n ∷ ns) h = all_names (n ∷ ns) h

group_names : (gs : Groups) → AreWrittenGroups gs → AllByRecursion (λ (p : Name × Ty). IsName p.0) (names_of gs)
group_names no_groups h = tt
group_names (group ns s c gs) h = all_joined IsName ns s (names_of gs) (some_names ns h.0) (group_names gs h.3)

module _ (ds : List Decl) (p : Proc) (written : AreWrittenDecls 0 ds) (none : fault_of ds ≡ None)
    (own_have_none : (d : ℕ) (x : Decl) → among (own_positions (module_of ds) p) d ≡ true → slice_get ds d ≡ Some x → globals_in (table_of ds) (counts_after no_counts ds) x.body ≡ []) where
  abbrev T : Table
  T = table_of ds

  abbrev C : Counts
  C = counts_after no_counts ds

  abbrev MM : Module
  MM = module_of ds

  abbrev R : List ℕ
  R = reached_by MM p

  abbrev own? : ℕ → Bool
  own? d = among (own_positions MM p) d

  abbrev led? : ℕ → Bool
  led? d = leads_to MM R d

  abbrev others_among : List ℕ → List ℕ
  others_among ks = filter (λ d. not (own? d)) (filter led? ks)

  abbrev globals_at : List ℕ → List Global
  globals_at ks = flat_map (globals_in T C) (bodies_at ds ks)

  with_or_without : (k : ℕ) (rest : List ℕ) → globals_at (others_among (k ∷ rest)) ≡ cond (led? k && not (own? k)) (globals_at (k ∷ others_among rest)) (globals_at (others_among rest))
  with_or_without k rest = by (led? k) refl
    where
      by : (b : Bool) → led? k ≡ b → globals_at (filter (λ d. not (own? d)) (cond (led? k) (k ∷ filter led? rest) (filter led? rest))) ≡ cond (led? k && not (own? k)) (globals_at (k ∷ others_among rest)) (globals_at (others_among rest))
      by true e =
          ap (λ b. globals_at (filter (λ d. not (own? d)) (cond b (k ∷ filter led? rest) (filter led? rest)))) e
          ∙ (owned (not (own? k))
          ∙ ap (λ b. cond (b && not (own? k)) (globals_at (k ∷ others_among rest)) (globals_at (others_among rest))) (sym e))
        where
          owned : (b : Bool) → globals_at (cond b (k ∷ others_among rest) (others_among rest)) ≡ cond b (globals_at (k ∷ others_among rest)) (globals_at (others_among rest))
          owned true = refl
          owned false = refl
      by false e =
          ap (λ b. globals_at (filter (λ d. not (own? d)) (cond b (k ∷ filter led? rest) (filter led? rest)))) e
          ∙ ap (λ b. cond (b && not (own? k)) (globals_at (k ∷ others_among rest)) (globals_at (others_among rest))) (sym e)

  globals_of : (k : ℕ) (x : Decl) (rest : List ℕ) → slice_get ds k ≡ Some x → globals_at (k ∷ rest) ≡ globals_in T C x.body ++ globals_at rest
  globals_of k x rest e = ap (λ (o : Option Decl). flat_map (globals_in T C) (cons_option (option_map (λ (d : Decl). d.body) o) (bodies_at ds rest))) e

  -- one that declares no global adds nothing
  no_global : (k : ℕ) (x : Decl) (rest : List ℕ) → slice_get ds k ≡ Some x → globals_in T C x.body ≡ [] → globals_at (others_among (k ∷ rest)) ≡ globals_at (others_among rest)
  no_global k x rest e h = with_or_without k rest ∙ by (led? k && not (own? k))
    where
      by : (b : Bool) → cond b (globals_at (k ∷ others_among rest)) (globals_at (others_among rest)) ≡ globals_at (others_among rest)
      by true = globals_of k x (others_among rest) e ∙ ap (λ ys. ys ++ globals_at (others_among rest)) h
      by false = refl

  some_globals : (k : ℕ) (x : Decl) (rest : List ℕ) (g : Global) (gs : List Global) → slice_get ds k ≡ Some x → globals_in T C x.body ≡ g ∷ gs
      → globals_at (others_among (k ∷ rest)) ≡ cond (led? k) ((g ∷ gs) ++ globals_at (others_among rest)) (globals_at (others_among rest))
  some_globals k x rest g gs e h = with_or_without k rest ∙ (ap (λ b. cond (led? k && not b) (globals_at (k ∷ others_among rest)) (globals_at (others_among rest))) (not_own (own? k) refl) ∙ by (led? k))
    where
      not_own : (b : Bool) → own? k ≡ b → own? k ≡ false
      not_own true f = let z = sym h ∙ own_have_none k x f e in absurd (cc)
      not_own false f = f

      by : (b : Bool) → cond (b && true) (globals_at (k ∷ others_among rest)) (globals_at (others_among rest)) ≡ cond b ((g ∷ gs) ++ globals_at (others_among rest)) (globals_at (others_among rest))
      by true = globals_of k x (others_among rest) e ∙ ap (λ ys. ys ++ globals_at (others_among rest)) h
      by false = refl

  -- the names behind the first are no declaration's
  nowhere : (k : ℕ) (x : Decl) (m : Text) (ps : List (Name × Ty)) (ks : List (Option Tree)) → slice_get ds k ≡ Some x → m ≡ x.name
      → AllByRecursion (λ (p : Name × Ty). Behind T C (texts_of (declared_names x.body)) m p.0) ps → NoDeclaration MM R (globals_with T C ps ks)
  nowhere k x m [] ks a e h = tt
  nowhere k x m (y ∷ ps) [] a e h = tt
  nowhere k x m (y ∷ ps) (o ∷ ks) a e h = (
    any_false (is_named MM (y.0).text) (positions MM) (λ d l. named_nowhere ds p written none (y.0).text k d x h.0.identifier a h.0.declared (subst (λ w. bytes_eq (y.0).text w ≡ false) e h.0.apart) l),
    nowhere k x m ps ks a e h.1,
  )

  from : (xs : List Decl) (k : ℕ) (b : Bool) (bf : Before) → drop k ds ≡ xs → NoFaults T C bf xs → ((d : ℕ) → among (range_with_len k (length xs)) d ≡ true → among (positions MM) d ≡ true)
      → globals_among MM R b (flat_map (λ (x : Decl). globals_in T C x.body) xs) ≡ globals_at (others_among (range_with_len k (length xs)))
  from [] k b bf e f within = refl
  from (x ∷ xs) k b bf e f within =
      let r = first_left k ds x xs e in
      let one : k + 1 ≡ suc k = omega arith in
      by x.body refl r.0 (written_there 0 ds k x written r.0) f.0 (within k (ap (λ c. c || among (range_with_len (k + 1) (length xs)) k) (itself k)))
      (λ a. from xs (k + 1) a (before_with bf x.body) (ap (λ j. drop j ds) one ∙ r.1) f.1 (λ d h. within d (or_second (k == d) (among (range_with_len (k + 1) (length xs)) d) h)))
    where
      led_here : among (positions MM) k ≡ true → among R k ≡ led? k
      led_here h = same_test (among R k) (led? k)
          (λ e. (among_passed led? (positions MM) k (subst (λ w. among w k ≡ true) (sym (reached_stable MM p)) e)).1)
          (λ e. subst (λ w. among w k ≡ true) (reached_stable MM p) (is_passed led? (positions MM) k h e))

      rest : List ℕ
      rest = range_with_len (k + 1) (length xs)

      other : (d : DeclBody) → x.body ≡ d → globals_in T C d ≡ [] → slice_get ds k ≡ Some x → globals_among MM R b (flat_map (λ (x : Decl). globals_in T C x.body) xs) ≡ globals_at (others_among rest)
          → globals_among MM R b (globals_in T C d ++ flat_map (λ (x : Decl). globals_in T C x.body) xs) ≡ globals_at (others_among (k ∷ rest))
      other d f g a h = ap (λ ys. globals_among MM R b (ys ++ flat_map (λ (x : Decl). globals_in T C x.body) xs)) g ∙ (h ∙ sym (no_global k x rest a (ap (globals_in T C) f ∙ g)))

      by : (d : DeclBody) → x.body ≡ d → slice_get ds k ≡ Some x → (x.name ≡ name_of (axioms_before 0 ds k) x.body) × IsWrittenDecl x.body → decl_faults T C bf x.body ≡ [] → among (positions MM) k ≡ true
          → ((a : Bool) → globals_among MM R a (flat_map (λ (x : Decl). globals_in T C x.body) xs) ≡ globals_at (others_among rest))
          → globals_among MM R b (globals_in T C d ++ flat_map (λ (x : Decl). globals_in T C x.body) xs) ≡ globals_at (others_among (k ∷ rest))
      by (variables no_groups) f a w n i later = let q = subst IsWrittenDecl f w.1 in absurd (let z = q.0 in cc)
      by (variables (group [] s o gs)) f a w n i later = let q = subst IsWrittenDecl f w.1 in absurd (q.1.0)
      by (variables (group (m ∷ ms) s o gs)) f a w n i later =
          let q = subst IsWrittenDecl f w.1 in
          let name : m.text ≡ x.name = sym (w.0 ∙ ap (name_of (axioms_before 0 ds k)) f) in
          let identifier = name_identifier m.text q.1.0.0 in
          let fine = subst (λ d. decl_faults T C bf d ≡ []) f n in
          let ps = map (λ (n : Name). (n, s)) ms ++ names_of gs in
          let names_fine = second_empty (if_so (is_among bf.names m.text) twice m.at) (again twice (m.text ∷ bf.names) (only_names ps)) (decl_again T C bf (variables (group (m ∷ ms) s o gs)) fine) in
          let all : texts_of (declared_names x.body) ≡ m.text ∷ texts_of (only_names ps) = ap (λ d. texts_of (declared_names d)) f in
          let first : is_among (texts_of (declared_names x.body)) m.text ≡ true = ap (λ ns. is_among ns m.text) all ∙ ap (λ c. c || is_among (texts_of (only_names ps)) m.text) (text_itself m.text) in
          let facts = behind T C (texts_of (declared_names x.body)) m.text (m.text ∷ bf.names) ps names_fine (ap (λ c. c || is_among bf.names m.text) (text_itself m.text))
          (all_joined IsName ms s (names_of gs) (all_names ms q.1.0.1) (group_names gs q.1.3))
          (λ n h. ap (λ ns. is_among ns n) all ∙ or_second (bytes_eq n m.text) (is_among (texts_of (only_names ps)) n) h) in
          let no = nowhere k x m.text ps _ a name facts in
          let named : (d : ℕ) → among (positions MM) d ≡ true → is_named MM m.text d ≡ (d == k) = λ d l. named_here ds p written none m.text k d x identifier a first name l in
          run_first MM R (among R k) b _ _ (flat_map (λ (x : Decl). globals_in T C x.body) xs)
          (any_numbers (is_named MM m.text) (λ d. d == k) (positions MM) named ∙ i)
          (any_numbers (is_named MM m.text) (λ d. d == k) R (λ d l. named d (reached_within MM p d l)))
          no
          ∙ ((λ j. cond (led_here i j) (globals_in T C (variables (group (m ∷ ms) s o gs)) ++ later (among R k) j) (later (among R k) j))
          ∙ sym (some_globals k x rest _ _ a (ap (globals_in T C) f)))
      by (axiom_of y) f a w n i later = other _ f refl a (later b)
      by (constant u ns ty) f a w n i later = other _ f refl a (later b)
      by (function g ps ins ty y) f a w n i later = other _ f refl a (later b)
      by (synonym g ty) f a w n i later = other _ f refl a (later b)
      by (procedure g ps sg ss y) f a w n i later = other _ f refl a (later b)
      by (implementation g ps sg y) f a w n i later = other _ f refl a (later b)

  -- the globals of which the clauses hold where the procedure begins
  pub globals_there : reached_globals MM p ≡ globals_at (other_positions MM p)
  globals_there =
      let z : positions MM ≡ range_with_len 0 (length ds) = ap (range_with_len 0) (as_many ds p written none ds) in
      from ds 0 false nothing_before refl (none_faulty ds none) (λ d h. subst (λ w. among w d ≡ true) (sym z) h)
      ∙ (ap (λ ks. globals_at (others_among ks)) (sym z)
      ∙ ap (λ ks. globals_at (filter (λ d. not (own? d)) ks)) (reached_stable MM p))
