-- What is marked in the end is what the procedure's names reach.
use Rattle.std.specs.Prelude.{◌≡◌, refl, ℕ, zero, suc, ◌+◌, ◌<◌, ◌==◌, nat_eq, Bool, true, false, ◌||◌, ◌&&◌, List, [], ◌∷◌, ◌++◌, map, length, filter, codes, bytes_eq}
use Rattle.std.specs.List.{AllByRecursion, list_any, flat_map, range_with_len}
use Rattle.std.proofs.Common.{arith, sym, ap, ◌∙◌, subst}
use Rattle.std.proofs.lemmas.Bool.{or_cases, eqb-true}
use Rattle.std.proofs.lemmas.List.{length-replicate}
use Rattle.std.proofs.lemmas.List.Concat.{flat_map-append}
use Rattle.std.proofs.lemmas.List.Elements.{All-from_recursion, All-get_or}
use Rattle.std.proofs.lemmas.List.Folds.{list_any-append}
use Rattle.logic_core.proofs.Booleans.{both_true}
use mathlib.Core.Logic.{inl, inr}
use lib.ListN.{replicate}
use Rattle.bpl_model.specs.Module.{Name, DeclText, Proc, Module}
use Rattle.bpl_model.specs.Typed.{IsText}
use Rattle.bpl_model.specs.Reach.{among, decl_at, positions, is_const_or_function, is_axiom, axiom_name, mentioned, leads_to, reach_on, own_positions, reached_by, is_named}
use Rattle.bpl_model.specs.Names.{with_names}
use Rattle.bpl_model.specs.Marking.{Marking, is_marked, unmarked, mark_all, settled, follow, follow_on}
use Rattle.bpl_model.specs.Walk.{text_at, is_at, is_free, on, leads_of, own_leads, walk}
use Rattle.bpl_model.specs.Links.{symbols as symbols_of, axioms as axioms_of, mentions, free as free_of}
use Rattle.bpl_model.proofs.Members.{In, none_in, in_either, in_flat, among_filter, range_in, in_range}
use Rattle.bpl_model.proofs.Marks.{marks_length, mark_append}
use Rattle.bpl_model.proofs.NamesPut.{names_among}
use Rattle.bpl_model.proofs.Rows.{row_is}
use Rattle.bpl_model.proofs.MarkedRounds as rounds

follow_on_length : (F : ℕ → List ℕ) (n : ℕ) (s : Marking) → length (follow_on F n s).marks ≡ length s.marks
follow_on_length F zero s = refl
follow_on_length F (suc n) s = follow_on_length F n (follow F s) ∙ marks_length (settled s) (flat_map F s.fresh)

none_marked : (n r : ℕ) → is_marked (replicate n false) r ≡ true → ⊥
none_marked zero r h = let c : false ≡ true = h in absurd cc
none_marked (suc n) zero h = let c : false ≡ true = h in absurd cc
none_marked (suc n) (suc r) h = none_marked n r h

each_in : (P : ℕ → Type 0) (xs : List ℕ) (r : ℕ) → AllByRecursion P xs → In xs r → P r
each_in P [] r a h = absurd (none_in r h)
each_in P (x ∷ xs) r a h = elim (or_cases (x == r) (list_any (λ y. y == r) xs) h) [
  | inl e ↦ subst P (eqb-true x r e) a.0
  | inr i ↦ each_in P xs r a.1 i
]

module _ (m : Module) (typed : AllByRecursion (IsText m) m.texts) where
  abbrev ts : List DeclText
  ts = m.texts

  abbrev count : ℕ
  count = length m.texts

  abbrev symbols : List Name
  symbols = symbols_of m

  abbrev axioms : List Name
  axioms = axioms_of m

  abbrev leads : ℕ → List ℕ
  leads r = (decl_at m r).contract_leads

  abbrev rows : List (List ℕ)
  rows = mentions m

  abbrev free : List ℕ
  free = free_of m

  is_symbol : (d : ℕ) → is_at ts symbols d ≡ is_const_or_function m d
  is_symbol d =
      let k = (text_at ts d).name in
      let cs : List Name = map (λ c. c.name) m.consts in
      let fs : List Name = map (λ f. f.name) m.functions in
      names_among (with_names [] cs) fs k ∙ ap (λ b. b || list_any (bytes_eq k) fs) (names_among [] cs k) ∙ sym (list_any-append (bytes_eq k) cs fs)

  is_one : (d : ℕ) → is_at ts axioms d ≡ is_axiom m d
  is_one d = names_among [] (map axiom_name (range_with_len 1 (length m.axioms))) (text_at ts d).name

  symbols_in : (ls : List ℕ) → filter (is_at ts symbols) ls ≡ filter (is_const_or_function m) ls
  symbols_in ls = λ i. filter (λ d. is_symbol d i) ls

  on_is : (r d : ℕ) → r < count → d < count → among (on ts rows r) d ≡ (among (leads r) d || (is_axiom m d && among (mentioned m d) r))
  on_is r d l k =
      let there : among (positions m) d ≡ true = in_range 0 count d (omega arith) (omega (k, arith)) in
      list_any-append (λ y. y == d) (leads r) _
      ∙ ap (λ b. among (leads r) d || b) (row_is ts symbols axioms (positions m) r d l there ∙ (λ i. is_one d i && among (symbols_in (text_at ts d).leads i) r))

  free_is : (d : ℕ) → d < count → among free d ≡ rounds.begins count leads (mentioned m) (is_axiom m) d
  free_is d l =
      among_filter (is_free ts symbols axioms) (positions m) d
      ∙ ap (λ b. b && is_free ts symbols axioms d) (in_range 0 count d (omega arith) (omega (l, arith)))
      ∙ (λ i. is_one d i && nat_eq (length (symbols_in (text_at ts d).leads i)) 0)

  leads_inside : (n : Name) (r : ℕ) → In (leads_of ts (positions m) n) r → r < count
  leads_inside n r h =
      let o = in_flat (λ d. (text_at ts d).leads) (filter (is_named m n) (positions m)) r h in
      let at : In (positions m) o.0 = (both_true (among (positions m) o.0) (is_named m n o.0) (sym (among_filter (is_named m n) (positions m) o.0) ∙ o.1)).0 in
      let below = (range_in 0 count o.0 at).1 in
      let text : IsText m (decl_at m o.0) = All-get_or (IsText m) m.texts o.0 (record { name = []; text = []; contract = []; leads = []; contract_leads = [] }) (omega (below, arith)) (All-from_recursion (IsText m) m.texts typed) in
      each_in (λ k. k < count) (decl_at m o.0).leads r text.0 o.2

  same_rounds : (n : ℕ) (R : List ℕ) → reach_on m n R ≡ rounds.reach_on count leads (mentioned m) (is_axiom m) n R
  same_rounds zero R = refl
  same_rounds (suc n) R = same_rounds n (filter (leads_to m R) (positions m))

  -- from any declarations
  pub marked_from : (start : List ℕ) → ((r : ℕ) → In start r → r < count) → filter (is_marked (walk ts rows start free).marks) (range_with_len 0 (length (walk ts rows start free).marks)) ≡ reach_on m (count + 1) start
  marked_from start inside =
      let none : Marking = unmarked count in
      let first : Marking = mark_all none start in
      let second : Marking = mark_all (follow (on ts rows) first) free in
      let long : length (walk ts rows start free).marks ≡ count =
      follow_on_length (on ts rows) count second ∙ (marks_length (follow (on ts rows) first) free ∙ (marks_length (settled first) (flat_map (on ts rows) first.fresh) ∙ (marks_length none start ∙ length-replicate count false))) in
      let joined : mark_all (settled first) (flat_map (on ts rows) first.fresh ++ free) ≡ second = mark_append (settled first) (flat_map (on ts rows) first.fresh) free in
      let is = rounds.walk_is count leads (mentioned m) (is_axiom m) (on ts rows) on_is none start free count (length-replicate count false) refl (none_marked count) inside free_is in
      let more : count + 1 ≡ suc count = omega arith in
      ap (λ n. filter (is_marked (walk ts rows start free).marks) (range_with_len 0 n)) long
      ∙ sym (ap (λ s. filter (is_marked (follow_on (on ts rows) count s).marks) (positions m)) joined)
      ∙ sym is
      ∙ sym (same_rounds (suc count) start)
      ∙ sym (ap (λ n. reach_on m n start) more)

  -- the same from any declarations that are there
  pub reached_from_all : (start : List ℕ) → AllByRecursion (λ d. d < count) start → (ms : List Bool) → ms ≡ (walk ts rows start free).marks
      → filter (is_marked ms) (range_with_len 0 (length ms)) ≡ reach_on m (count + 1) start
  reached_from_all start there ms e = ap (λ ns. filter (is_marked ns) (range_with_len 0 (length ns))) e ∙ marked_from start (λ r h. each_in (λ d. d < count) start r there h)

  -- from those of a procedure
  module _ (p : Proc) where
    abbrev own : List ℕ
    own = own_leads ts (positions m) p.name

    own_inside : (r : ℕ) → In own r → r < count
    own_inside r h = elim (in_either (leads_of ts (positions m) p.name) (leads_of ts (positions m) (codes "implementation " ++ p.name)) r h) [
      | inl i ↦ leads_inside p.name r i
      | inr i ↦ leads_inside (codes "implementation " ++ p.name) r i
    ]

    pub marked_is_reached : filter (is_marked (walk ts rows own free).marks) (range_with_len 0 (length (walk ts rows own free).marks)) ≡ reached_by m p
    marked_is_reached =
        let start : flat_map (λ d. (decl_at m d).leads) (own_positions m p) ≡ own = flat_map-append (λ d. (decl_at m d).leads) (filter (is_named m p.name) (positions m)) (filter (is_named m (codes "implementation " ++ p.name)) (positions m)) in
        marked_from own own_inside ∙ sym (ap (reach_on m (count + 1)) start)

    -- the same of marks that are those of the walk
    pub reached_from : (ms : List Bool) → ms ≡ (walk ts rows own free).marks → filter (is_marked ms) (range_with_len 0 (length ms)) ≡ reached_by m p
    reached_from ms e = ap (λ ns. filter (is_marked ns) (range_with_len 0 (length ns))) e ∙ marked_is_reached
