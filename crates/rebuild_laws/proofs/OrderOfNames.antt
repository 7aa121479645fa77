-- The constants and globals that are met are those of the reached declarations, in order of declaration; so their names stand in one order in both programs.
use Rattle.std.specs.Prelude.{◌≡◌, ℕ, zero, suc, ◌+◌, ◌==◌, Bool, true, false, not, ◌||◌, cond, List, [], ◌∷◌, ◌++◌, map, length, drop, filter, flat_map, filter_map, slice_get, Option, Some, None, option_map}
use Rattle.std.specs.List.{range_with_len, cons_option}
use Rattle.std.proofs.Common.{refl, ap, sym, ◌∙◌, subst, arith, inl, inr, ◌⊎◌}
use Rattle.std.proofs.lemmas.List.Elements.{filter-append}
use Rattle.logic_core.proofs.Booleans.{or_second}
use Rattle.bpl_ast.specs.Statement.{DeclBody, constant, function, axiom_of, variables, synonym, procedure, implementation, Decl}
use Rattle.bpl_model.specs.Module.{Proc, Module}
use Rattle.bpl_model.specs.Reach.{among, positions, leads_to, own_positions, reached_by}
use Rattle.bv_base.specs.Text.{is_among}
use Rattle.bpl_scopes.specs.Scopes.{Text, Table, table_of, Counts, no_counts, counts_after, declared_names, only_names, names_of, texts_of, entry_of}
use Rattle.bpl_declaration_faults.specs.DeclFaults.{nothing_before, fault_of}
use Rattle.canonical_text.specs.Same.{bare_names, bare_groups}
use Rattle.canonical_text.specs.SameStatement.{bare_decl}
use Rattle.bpl_resolve.specs.Elaborate.{decl_text, module_of}
use Rattle.bpl_resolve.proofs.Ways.{text_itself}
use Rattle.bpl_resolve.proofs.EntriesFine.{none_faulty}
use Rattle.canonical_text.specs.Heads.{head_of, bare_head}
use Rattle.rebuild_laws.proofs.Settled.{itself, among_passed}
use Rattle.rebuild_laws.proofs.ReachClosed.{is_passed, reached_stable}
use Rattle.rebuild_laws.proofs.BareUses.{group_texts, same_texts}
use Rattle.rebuild_laws.proofs.Located.{FoundAt, found_at}
use Rattle.rebuild_laws.specs.DependencyTexts.{bodies_at, other_positions}
use Rattle.rebuild_laws.proofs.NamedNumbers.{constants_in, globals_in, constant_names, global_names}
use Rattle.rebuild_laws.proofs.SameNames.{is_reached, entry_met, is_met}

abbrev AllAmong : List Text → List Text → Type 0
AllAmong ns [] = Unit {0}
AllAmong ns (m ∷ ms) = (is_among ns m ≡ true) × AllAmong ns ms

longer : (n : Text) (ns ms : List Text) → AllAmong ns ms → AllAmong (n ∷ ns) ms
longer n ns [] h = tt
longer n ns (m ∷ ms) h = (or_second _ (is_among ns m) h.0, longer n ns ms h.1)

all_among : (ns : List Text) → AllAmong ns ns
all_among [] = tt
all_among (n ∷ ns) = (ap (λ b. b || is_among ns n) (text_itself n), longer n ns ns (all_among ns))

-- all names pass, or none
all_or_none : (P : Text → Bool) (b : Bool) (all ns : List Text) → ((n : Text) → is_among all n ≡ true → P n ≡ b) → AllAmong all ns → filter P ns ≡ cond b ns []
all_or_none P true all [] h a = refl
all_or_none P false all [] h a = refl
all_or_none P true all (n ∷ ns) h a = ap (λ c. cond c (n ∷ filter P ns) (filter P ns)) (h n a.0) ∙ ap (λ w. n ∷ w) (all_or_none P true all ns h a.1)
all_or_none P false all (n ∷ ns) h a = ap (λ c. cond c (n ∷ filter P ns) (filter P ns)) (h n a.0) ∙ all_or_none P false all ns h a.1

pub first_left : (k : ℕ) (all : List Decl) (x : Decl) (xs : List Decl) → drop k all ≡ x ∷ xs → (slice_get all k ≡ Some x) × (drop (suc k) all ≡ xs)
first_left k [] x xs e = absurd (nothing k e)
  where
    nothing : (k : ℕ) → drop k [] ≡ x ∷ xs → ⊥
    nothing zero e = cc
    nothing (suc k) e = cc
first_left zero (d ∷ ds) x xs e = (cc, cc)
first_left (suc k) (d ∷ ds) x xs e = first_left k ds x xs e

-- names that declarations declare, none of which its own declarations have
module _ (names : DeclBody → List Text) (declares : (x : DeclBody) → AllAmong (texts_of (declared_names x)) (names x)) (ds : List Decl) (p : Proc) (none : fault_of ds ≡ None)
    (own_have_none : (d : ℕ) (x : Decl) → among (own_positions (module_of ds) p) d ≡ true → slice_get ds d ≡ Some x → names x.body ≡ []) where
  abbrev M : Module
  M = module_of ds

  abbrev own? : ℕ → Bool
  own? d = among (own_positions M p) d

  abbrev led? : ℕ → Bool
  led? d = leads_to M (reached_by M p) d

  -- a name is met where its declaration is reached
  met_with : (d : ℕ) (x : Decl) (n : Text) → slice_get ds d ≡ Some x → is_among (texts_of (declared_names x.body)) n ≡ true → is_met ds p n ≡ is_reached ds p d
  met_with d x n a h =
      let r = found_at (table_of ds) (counts_after no_counts ds) nothing_before no_counts 0 ds d x n (none_faulty ds none) a h in
      let z : 0 + d ≡ d = omega arith in
      ap (entry_met ds p) r.is ∙ ap (is_reached ds p) (r.decl ∙ z)

  met_names : (d : ℕ) (x : Decl) → slice_get ds d ≡ Some x → filter (is_met ds p) (names x.body) ≡ cond (is_reached ds p d) (names x.body) []
  met_names d x a = all_or_none (is_met ds p) (is_reached ds p d) (texts_of (declared_names x.body)) (names x.body) (λ n h. met_with d x n a h) (declares x.body)

  -- among positions, what is reached is led to
  led_same : (d : ℕ) → among (positions M) d ≡ true → among (reached_by M p) d ≡ led? d
  led_same d h = both (among (reached_by M p) d) (led? d)
      (λ e. (among_passed led? (positions M) d (subst (λ w. among w d ≡ true) (sym (reached_stable M p)) e)).1)
      (λ e. subst (λ w. among w d ≡ true) (reached_stable M p) (is_passed led? (positions M) d h e))
    where
      both : (a b : Bool) → (a ≡ true → b ≡ true) → (b ≡ true → a ≡ true) → a ≡ b
      both true true f g = refl
      both true false f g = sym (f refl)
      both false true f g = g refl
      both false false f g = refl

  abbrev others_among : List ℕ → List ℕ
  others_among ks = filter (λ d. not (own? d)) (filter led? ks)

  abbrev names_at : List ℕ → List Text
  names_at ks = flat_map names (bodies_at ds ks)

  names_from : (xs : List Decl) (k : ℕ) → drop k ds ≡ xs → ((d : ℕ) → among (range_with_len k (length xs)) d ≡ true → among (positions M) d ≡ true)
      → filter (is_met ds p) (flat_map (λ (x : Decl). names x.body) xs) ≡ names_at (others_among (range_with_len k (length xs)))
  names_from [] k e within = refl
  names_from (x ∷ xs) k e within =
      let r = first_left k ds x xs e in
      let one : k + 1 ≡ suc k = omega arith in
      let later = names_from xs (k + 1) (ap (λ j. drop j ds) one ∙ r.1) (λ d h. within d (or_second (k == d) (among (range_with_len (k + 1) (length xs)) d) h)) in
      filter-append (is_met ds p) (names x.body) (flat_map (λ (x : Decl). names x.body) xs)
      ∙ ((λ i. met_names k x r.0 i ++ later i)
      ∙ by (own? k) (led? k) refl refl r.0 (led_same k (within k (ap (λ b. b || among (range_with_len (k + 1) (length xs)) k) (itself k)))))
    where
      rest : List ℕ
      rest = range_with_len (k + 1) (length xs)

      by : (a b : Bool) → own? k ≡ a → led? k ≡ b → slice_get ds k ≡ Some x → among (reached_by M p) k ≡ led? k
          → cond (is_reached ds p k) (names x.body) [] ++ names_at (others_among rest) ≡ names_at (filter (λ d. not (own? d)) (cond (led? k) (k ∷ filter led? rest) (filter led? rest)))
      by true b f g a s = ap (λ w. cond (is_reached ds p k) w [] ++ names_at (others_among rest)) (own_have_none k x f a) ∙ (empty (is_reached ds p k) ∙ sym (skipped b g))
        where
          empty : (c : Bool) → cond c [] [] ++ names_at (others_among rest) ≡ names_at (others_among rest)
          empty true = refl
          empty false = refl

          skipped : (b : Bool) → led? k ≡ b → names_at (filter (λ d. not (own? d)) (cond (led? k) (k ∷ filter led? rest) (filter led? rest))) ≡ names_at (others_among rest)
          skipped true g = ap (λ c. names_at (filter (λ d. not (own? d)) (cond c (k ∷ filter led? rest) (filter led? rest)))) g ∙ ap (λ c. names_at (cond (not c) (k ∷ others_among rest) (others_among rest))) f
          skipped false g = ap (λ c. names_at (filter (λ d. not (own? d)) (cond c (k ∷ filter led? rest) (filter led? rest)))) g
      by false true f g a s =
          (λ i. cond (f i || (s ∙ g) i) (names x.body) [] ++ names_at (others_among rest))
          ∙ sym (ap (λ c. names_at (filter (λ d. not (own? d)) (cond c (k ∷ filter led? rest) (filter led? rest)))) g
          ∙ (ap (λ c. names_at (cond (not c) (k ∷ others_among rest) (others_among rest))) f ∙ ap (λ (o : Option Decl). flat_map names (cons_option (option_map (λ (d : Decl). d.body) o) (bodies_at ds (others_among rest)))) a))
      by false false f g a s =
          (λ i. cond (f i || (s ∙ g) i) (names x.body) [] ++ names_at (others_among rest))
          ∙ sym (ap (λ c. names_at (filter (λ d. not (own? d)) (cond c (k ∷ filter led? rest) (filter led? rest)))) g)

  map_length : (xs : List Decl) → length (map (decl_text (table_of ds) (length ds)) xs) ≡ length xs
  map_length [] = refl
  map_length (x ∷ xs) = ap suc (map_length xs)

  -- they are the names in the others that are reached
  pub names_met : filter (is_met ds p) (flat_map (λ (x : Decl). names x.body) ds) ≡ names_at (other_positions M p)
  names_met =
      let z : positions M ≡ range_with_len 0 (length ds) = ap (range_with_len 0) (map_length ds) in
      names_from ds 0 refl (λ d h. subst (λ w. among w d ≡ true) (sym z) h)
      ∙ (ap (λ ks. names_at (others_among ks)) (sym z)
      ∙ ap (λ ks. names_at (filter (λ d. not (own? d)) ks)) (reached_stable M p))

constants_among : (x : DeclBody) → AllAmong (texts_of (declared_names x)) (constants_in x)
constants_among (constant u ns s) = all_among (texts_of ns)
constants_among (function m ps ins r x) = tt
constants_among (axiom_of x) = tt
constants_among (variables gs) = tt
constants_among (synonym m s) = tt
constants_among (procedure m ps g ss y) = tt
constants_among (implementation m ps g y) = tt

globals_among : (x : DeclBody) → AllAmong (texts_of (declared_names x)) (globals_in x)
globals_among (variables gs) = all_among (texts_of (only_names (names_of gs)))
globals_among (constant u ns s) = tt
globals_among (function m ps ins r x) = tt
globals_among (axiom_of x) = tt
globals_among (synonym m s) = tt
globals_among (procedure m ps g ss y) = tt
globals_among (implementation m ps g y) = tt

bare_constants : (x : DeclBody) → constants_in (bare_head x) ≡ constants_in x
bare_constants (constant u ns s) = same_texts ns
bare_constants (function m ps ins r x) = refl
bare_constants (axiom_of x) = refl
bare_constants (variables gs) = refl
bare_constants (synonym m s) = refl
bare_constants (procedure m ps g ss y) = refl
bare_constants (implementation m ps g y) = refl

bare_globals : (x : DeclBody) → globals_in (bare_head x) ≡ globals_in x
bare_globals (variables gs) = group_texts gs
bare_globals (constant u ns s) = refl
bare_globals (function m ps ins r x) = refl
bare_globals (axiom_of x) = refl
bare_globals (synonym m s) = refl
bare_globals (procedure m ps g ss y) = refl
bare_globals (implementation m ps g y) = refl

-- names of the same declarations but for places
module _ (names : DeclBody → List Text) (bare : (x : DeclBody) → names (bare_head x) ≡ names x) where
  of_bare : (xs : List DeclBody) → flat_map names (map bare_head xs) ≡ flat_map names xs
  of_bare [] = refl
  of_bare (x ∷ xs) = λ i. bare x i ++ of_bare xs i

  same_names : (xs ys : List DeclBody) → map bare_head xs ≡ map bare_head ys → flat_map names xs ≡ flat_map names ys
  same_names xs ys e = sym (of_bare xs) ∙ (ap (flat_map names) e ∙ of_bare ys)

-- a procedure's own declarations are procedures and implementations
pub record OwnHaveNone (ds : List Decl) (p : Proc) : Type 0 where
  pub constants : (d : ℕ) (x : Decl) → among (own_positions (module_of ds) p) d ≡ true → slice_get ds d ≡ Some x → constants_in x.body ≡ []
  pub globals : (d : ℕ) (x : Decl) → among (own_positions (module_of ds) p) d ≡ true → slice_get ds d ≡ Some x → globals_in x.body ≡ []

module _ (ds : List Decl) (p : Proc) (es : List Decl) (q : Proc) (none : fault_of ds ≡ None) (none_there : fault_of es ≡ None) (own : OwnHaveNone ds p) (own_there : OwnHaveNone es q)
    (others : map bare_head (bodies_at ds (other_positions (module_of ds) p)) ≡ map bare_head (bodies_at es (other_positions (module_of es) q))) where
  pub constants_in_order : filter (is_met ds p) (constant_names ds) ≡ filter (is_met es q) (constant_names es)
  constants_in_order =
      names_met constants_in constants_among ds p none own.constants
      ∙ (same_names constants_in bare_constants _ _ others ∙ sym (names_met constants_in constants_among es q none_there own_there.constants))

  pub globals_in_order : filter (is_met ds p) (global_names ds) ≡ filter (is_met es q) (global_names es)
  globals_in_order =
      names_met globals_in globals_among ds p none own.globals
      ∙ (same_names globals_in bare_globals _ _ others ∙ sym (names_met globals_in globals_among es q none_there own_there.globals))
