-- The test of a module's type is right: it passes exactly where the type keeps all its facts.
use Rattle.std.proofs.Common.{◌≡◌, ◌∙◌, refl, sym, ap, subst, ℕ, zero, suc, ◌+◌, ◌-◌, ◌<◌, ◌≤◌, nat_lt, nat_le, ◌==◌, eq-eqb, Bool, true, false, ◌&&◌, ◌||◌, not, List, [], ◌∷◌, ◌++◌, map, length, take, Option, Some, None, ◌↔◌, ◌⊎◌, inl, inr, arith}
use Rattle.std.specs.Prelude.{IsTrue, ◌≢◌, AllPairs, Contains, slice_get, slice_index_or}
use Rattle.std.specs.Bool.{Decides}
use Rattle.std.specs.List.{list_any, list_all, AllByRecursion, AllZip, range_with_len}
use Rattle.std.proofs.lemmas.Bool.{both_ways, not-true, not_from_false, false_from_ne_true, and_parts, and_from, or_cases, or_left, or_right, leb-true, le-leb, ltb-true, lt-ltb, eqb-true}
use Rattle.std.proofs.lemmas.List.{append_assoc, length-append, length-map, take_at, take_all}
use Rattle.std.proofs.lemmas.List.Elements.{Contains-get_or}
use Rattle.std.proofs.lemmas.List.FromFn.{get_or-range_with_len}
use Rattle.logic_core.specs.Tree.{Kind, int, boolean, Tree}
use Rattle.logic_core.specs.Same.{same_kind, same_kinds}
use Rattle.logic_core.specs.Sorts.{sort_of, is, are, bodies_sorted}
use Rattle.logic_core.specs.Variables.{variables}
use Rattle.logic_core.specs.View.{trees_of}
use Rattle.logic_core.specs.WellSorted.{IsFormula}
use Rattle.logic_core.proofs.SameTerm.{same_sort, self_sort}
use Rattle.logic_laws.proofs.SortTests.{is_sort, sort_is}
use Rattle.flow_core.specs.State.{sorts_at}
use Rattle.flow_core.specs.Reading.{Mentions}
use Rattle.flow_core.specs.declared.block.Invariant.{Invariant}
use Rattle.bpl_model.specs.declared.variables.Variables.{Variables}
use Rattle.bpl_model.specs.Module.{Name, Guard, Spec, requires, ensures, modifies, Stmt, assert, assume, havoc, assign, call, if_else, while, break, return, goto, labelled, Stmts, no_stmts, stmt, Global, Local, Proc, DeclText, Module}
use Rattle.bpl_model.specs.Numbering.{defs_of, const_sorts, global_sorts, local_sorts, in_sorts, contract_sorts, sorts_of, first_global, first_entry, first_in, first_out, first_local, global_numbers}
use Rattle.bpl_model.specs.VariablesView.{variables_of}
use Rattle.bpl_model.specs.Typed.{HasSort, IsGuard, MayBeSet, AreTargets, Fits, IsCall, IsTyped, AreTyped, IsOnlyLater, IsSpec, IsOld, IsClause, HaveClauses, IsBody, IsTypedProc, IsGlobalClause, IsText, IsTypedModule}
use Rattle.bpl_model.specs.TypedTest.{distinct, between, labels_within, is_formula, is_formula_or_none, fits, may_be_set, are_targets, is_call_of, is_typed, are_typed, is_only_later, is_spec, is_clause, are_declared, is_body, is_typed_proc, is_text, is_typed_module}
use Rattle.bpl_typing.proofs.NamedVariables.{passing, any_passes, none_mentioned}

-- a test of two facts, of three, of one of two, of each item
both : (a b : Bool) (P Q : Type 0) → Decides a P → Decides b Q → Decides (a && b) (P × Q)
both a b P Q p q = ((λ h. let e = and_parts a b h in (p.0 e.0, q.0 e.1)), (λ h. and_from a b (p.1 h.0) (q.1 h.1)))

all_three : (a b c : Bool) (P Q R : Type 0) → Decides a P → Decides b Q → Decides c R → Decides (a && (b && c)) (P × Q × R)
all_three a b c P Q R p q r = (
  (λ h. let e = and_parts a (b && c) h in let f = and_parts b c e.1 in (p.0 e.0, q.0 f.0, r.0 f.1)),
  (λ h. and_from a (b && c) (p.1 h.0) (and_from b c (q.1 h.1) (r.1 h.2))),
)

either : (a b : Bool) (P Q : Type 0) → Decides a P → Decides b Q → Decides (a || b) (P ⊎ Q)
either a b P Q p q = (
  (λ h. elim (or_cases a b h) [ inl x ↦ inl (p.0 x) | inr y ↦ inr (q.0 y) ]),
  (λ h. elim h [ inl x ↦ or_left a b (p.1 x) | inr y ↦ or_right a b (q.1 y) ]),
)

each : {X : Type 0} (f : X → Bool) (P : X → Type 0) → ((x : X) → Decides (f x) (P x)) → (xs : List X) → Decides (list_all f xs) (AllByRecursion P xs)
each f P e [] = ((λ h. tt), (λ h. refl))
each f P e (x ∷ xs) = both (f x) (list_all f xs) (P x) (AllByRecursion P xs) (e x) (each f P e xs)

always : Decides true (Unit {0})
always = ((λ h. tt), (λ h. refl))

formula : (k : Kind) (s : Option Kind) → Decides (is k s) (s ≡ Some k)
formula k s = (is_sort k s, sort_is k s)

same_sorts : (js ks : List Kind) → Decides (same_kinds js ks) (js ≡ ks)
same_sorts [] [] = ((λ h. refl), (λ h. refl))
same_sorts [] (k ∷ ks) = ((λ h. absurd (cc)), (λ h. absurd (cc)))
same_sorts (j ∷ js) [] = ((λ h. absurd (cc)), (λ h. absurd (cc)))
same_sorts (j ∷ js) (k ∷ ks) = (
  (λ h. let e = and_parts (same_kind j k) (same_kinds js ks) h in cc (same_sort j k e.0, (same_sorts js ks).0 e.1)),
  (λ h.
      let e : j ≡ k = cc in
      let r : js ≡ ks = cc in
      and_from (same_kind j k) (same_kinds js ks) (subst (λ i. same_kind j i ≡ true) e (self_sort j)) ((same_sorts js ks).1 r)),
)

in_range : (low high v : ℕ) → Decides (between low high v) ((low ≤ v) × (v < high))
in_range low high v = both (nat_le low v) (nat_lt v high) (low ≤ v) (v < high) (leb-true low v, le-leb low v) (ltb-true v high, lt-ltb v high)

-- a list with a new number before it
new_first : (x : ℕ) (xs : List ℕ) → list_any (λ y. y == x) xs ≡ false → AllPairs (λ a b. a ≢ b) xs → AllPairs (λ a b. a ≢ b) (x ∷ xs)
new_first x xs new h zero zero d low high = absurd (omega (low, arith))
new_first x xs new h zero (suc j) d low high = λ same.
    both_ways (list_any (λ y. y == x) xs) new (any_passes (λ y. y == x) xs (slice_index_or xs j d) (Contains-get_or xs j d (omega (high, arith))) (eq-eqb (slice_index_or xs j d) x (sym same)))
new_first x xs new h (suc i) zero d low high = absurd (omega (low, arith))
new_first x xs new h (suc i) (suc j) d low high = h i j d (omega (low, arith)) (omega (high, arith))

distinct_pairs : (xs : List ℕ) → Decides (distinct xs) (AllPairs (λ a b. a ≢ b) xs)
distinct_pairs [] = ((λ h i j d low high. absurd (omega (high, arith))), (λ h. refl))
distinct_pairs (x ∷ xs) =
    let there = list_any (λ y. y == x) xs in (
      (λ h. let e = and_parts (not there) (distinct xs) h in new_first x xs (not-true there e.0) ((distinct_pairs xs).0 e.1)),
      (λ h. and_from (not there) (distinct xs)
          (not_from_false there (false_from_ne_true there (λ p.
          let e = passing (λ y. y == x) xs p in
          h 0 (suc e.1.0) e.0 (omega arith) (omega (e.1.1, arith)) (sym (eqb-true e.0 x e.2) ∙ sym e.1.2))))
          ((distinct_pairs xs).1 (λ i j d low high. h (suc i) (suc j) d (omega (low, arith)) (omega (high, arith))))),
    )

-- the numbers of a range
numbered : (a n v : ℕ) → Decides (between a (a + n) v) (Contains (range_with_len a n) v)
numbered a n v = (
  (λ h. let e = (in_range a (a + n) v).0 h in there e.0 e.1),
  (λ c. let e = c.2 in let low : (a ≤ v) × (v < a + n) = inside c.0 c.1 e in (in_range a (a + n) v).1 low),
)
  where
    long : (a n : ℕ) → length (range_with_len a n) ≡ n
    long a zero = refl
    long a (suc n) = ap suc (long (a + 1) n)

    there : a ≤ v → v < a + n → Contains (range_with_len a n) v
    there low high =
        let short : v - a < n = omega (low, high, arith) in
        let at : a + (v - a) ≡ v = omega (low, arith) in
        (v - a, subst (λ k. v - a < k) (sym (long a n)) short, get_or-range_with_len a n (v - a) v short ∙ at)

    inside : (k : ℕ) → k < length (range_with_len a n) → slice_index_or (range_with_len a n) k v ≡ v → (a ≤ v) × (v < a + n)
    inside k high e =
        let short : k < n = subst (λ m. k < m) (long a n) high in
        let at : a + k ≡ v = sym (get_or-range_with_len a n k v short) ∙ e in
        (omega (at, arith), omega (at, short, arith))

-- what comes after four lists, after all of them
after_four : (a b c d e : List Kind) → a ++ (b ++ (c ++ (d ++ e))) ≡ (a ++ (b ++ (c ++ d))) ++ e
after_four a b c d e = sym (append_assoc a (b ++ (c ++ d)) e ∙ ap (λ r. a ++ r) (append_assoc b (c ++ d) e ∙ ap (λ r. b ++ r) (append_assoc c d e)))

abbrev NotOwn : Local → Type 0
NotOwn l = IsTrue (not l.own)

all_after : {X : Type 0} (P : X → Type 0) (xs ys : List X) → AllByRecursion P xs → AllByRecursion P ys → AllByRecursion P (xs ++ ys)
all_after P [] ys h k = k
all_after P (x ∷ xs) ys h k = (h.0, all_after P xs ys h.1 k)

all_parts : {X : Type 0} (P : X → Type 0) (xs ys : List X) → AllByRecursion P (xs ++ ys) → AllByRecursion P xs × AllByRecursion P ys
all_parts P [] ys h = (tt, h)
all_parts P (x ∷ xs) ys h = let e = all_parts P xs ys h.1 in ((h.0, e.0), e.1)

-- the variables of a contract, and those up to the in-parameters, come first
module _ (m : Module) (p : Proc) where
  ins_long : length (in_sorts m p) ≡ first_out m p
  ins_long =
      omega (arith, length-append (const_sorts m) (global_sorts m ++ (global_sorts m ++ local_sorts p.ins)), length-append (global_sorts m) (global_sorts m ++ local_sorts p.ins), length-append (global_sorts m) (local_sorts p.ins), length-map m.consts (λ c. c.sort), length-map m.globals (λ g. g.sort), length-map p.ins (λ l. l.sort))

  contract_long : length (contract_sorts m p) ≡ first_local m p
  contract_long =
      omega (arith, length-append (const_sorts m) (global_sorts m ++ (global_sorts m ++ (local_sorts p.ins ++ local_sorts p.outs))), length-append (global_sorts m) (global_sorts m ++ (local_sorts p.ins ++ local_sorts p.outs)), length-append (global_sorts m) (local_sorts p.ins ++ local_sorts p.outs), length-append (local_sorts p.ins) (local_sorts p.outs), length-map m.consts (λ c. c.sort), length-map m.globals (λ g. g.sort), length-map p.ins (λ l. l.sort), length-map p.outs (λ l. l.sort))

  in_first : take (first_out m p) (sorts_of m p) ≡ in_sorts m p
  in_first =
      let rest = local_sorts p.outs ++ local_sorts p.locals in
      ap (take (first_out m p)) (after_four (const_sorts m) (global_sorts m) (global_sorts m) (local_sorts p.ins) rest) ∙ take_at (in_sorts m p) rest (first_out m p) ins_long

  contract_first : take (first_local m p) (sorts_of m p) ≡ contract_sorts m p
  contract_first =
      let back = ap (λ r. const_sorts m ++ (global_sorts m ++ (global_sorts m ++ r))) (sym (append_assoc (local_sorts p.ins) (local_sorts p.outs) (local_sorts p.locals))) in
      ap (take (first_local m p)) (back ∙ after_four (const_sorts m) (global_sorts m) (global_sorts m) (local_sorts p.ins ++ local_sorts p.outs) (local_sorts p.locals))
      ∙ take_at (contract_sorts m p) (local_sorts p.locals) (first_local m p) contract_long

  all_first : take (length (sorts_of m p)) (sorts_of m p) ≡ sorts_of m p
  all_first = take_all (length (sorts_of m p)) (sorts_of m p) (omega arith)

  abbrev v : Variables
  v = variables_of m p

  formula_over : (vars ks : List Kind) → vars ≡ ks → (E : Tree) → Decides (is_formula (defs_of m) vars E) (IsFormula ks (defs_of m) E)
  formula_over vars ks e E = subst (λ k. Decides (is_formula (defs_of m) vars E) (IsFormula k (defs_of m) E)) e (formula boolean (sort_of vars (defs_of m) [] E))

  guarded : (g : Guard) → Decides (is_formula_or_none (defs_of m) v.sorts g) (IsGuard m p g)
  guarded None = always
  guarded (Some E) = formula boolean (sort_of v.sorts (defs_of m) [] E)

  settable : (x : ℕ) → Decides (may_be_set v x) (MayBeSet m p x)
  settable x = either (between v.first_global v.first_entry x) (between v.first_out (length v.sorts) x) ((first_global m ≤ x) × (x < first_entry m)) ((first_out m p ≤ x) × (x < length (sorts_of m p))) (in_range v.first_global v.first_entry x) (in_range v.first_out (length v.sorts) x)

  targeted : (xs : List ℕ) → Decides (are_targets v xs) (AreTargets m p xs)
  targeted xs = both (distinct xs) (list_all (may_be_set v) xs) (AllPairs (λ a b. a ≢ b) xs) (AllByRecursion (MayBeSet m p) xs) (distinct_pairs xs) (each (may_be_set v) (MayBeSet m p) settable xs)

  fitting : (a : ℕ × Tree) → Decides (fits (defs_of m) v.sorts a) (Fits m p a)
  fitting a = formula (slice_index_or v.sorts a.0 int) (sort_of v.sorts (defs_of m) [] a.1)

  passed : (ks : List Kind) (es : List Tree) → Decides (are v.sorts (defs_of m) [] ks (trees_of es)) (AllZip (HasSort (sorts_of m p) (defs_of m)) ks es)
  passed [] [] = always
  passed [] (e ∷ es) = ((λ h. absurd (cc)), (λ h. absurd h))
  passed (k ∷ ks) [] = ((λ h. absurd (cc)), (λ h. absurd h))
  passed (k ∷ ks) (e ∷ es) = both (is k (sort_of v.sorts (defs_of m) [] e)) (are v.sorts (defs_of m) [] ks (trees_of es)) (HasSort (sorts_of m p) (defs_of m) k e) (AllZip (HasSort (sorts_of m p) (defs_of m)) ks es) (formula k (sort_of v.sorts (defs_of m) [] e)) (passed ks es)

  called : (o : Option Proc) (q : ℕ) (es : List Tree) (xs : List ℕ) → slice_get m.procs q ≡ o → Decides (is_call_of (defs_of m) v.sorts o es xs) (IsCall m p q es xs)
  called None q es xs named = ((λ h. absurd (cc)), (λ c. let e : None ≡ Some c.callee = sym named ∙ c.named in absurd (cc)))
  called (Some q') q es xs named =
      let d = both (are v.sorts (defs_of m) [] (local_sorts q'.ins) (trees_of es)) (same_kinds (sorts_at v.sorts xs) (local_sorts q'.outs)) (AllZip (HasSort (sorts_of m p) (defs_of m)) (local_sorts q'.ins) es) (sorts_at (sorts_of m p) xs ≡ local_sorts q'.outs) (passed (local_sorts q'.ins) es) (same_sorts (sorts_at v.sorts xs) (local_sorts q'.outs)) in (
        (λ h. let e = d.0 h in record { callee = q'; named = named; arguments = e.0; results = e.1 }),
        (λ c.
            let e : Some c.callee ≡ Some q' = sym c.named ∙ named in
            let same : c.callee ≡ q' = cc in
            d.1 (subst (λ (r : Proc). AllZip (HasSort (sorts_of m p) (defs_of m)) (local_sorts r.ins) es × (sorts_at (sorts_of m p) xs ≡ local_sorts r.outs)) same (c.arguments, c.results))),
      )

  mutual
    pub typed : (inside : Bool) (ls : List Name) (s : Stmt) → Decides (is_typed (defs_of m) m.procs v inside ls s) (IsTyped m p inside ls s)
    typed inside ls (assert mark E) = formula boolean (sort_of v.sorts (defs_of m) [] E)
    typed inside ls (assume at E) = formula boolean (sort_of v.sorts (defs_of m) [] E)
    typed inside ls (havoc at xs) = targeted xs
    typed inside ls (assign at ps) = both (are_targets v (map (λ a. a.0) ps)) (list_all (fits (defs_of m) v.sorts) ps) (AreTargets m p (map (λ a. a.0) ps)) (AllByRecursion (Fits m p) ps) (targeted (map (λ a. a.0) ps)) (each (fits (defs_of m) v.sorts) (Fits m p) fitting ps)
    typed inside ls (call at q es xs) = both (are_targets v xs) (is_call_of (defs_of m) v.sorts (slice_get m.procs q) es xs) (AreTargets m p xs) (IsCall m p q es xs) (targeted xs) (called (slice_get m.procs q) q es xs refl)
    typed inside ls (if_else at has_else g ss ts) = all_three (is_formula_or_none (defs_of m) v.sorts g) (are_typed (defs_of m) m.procs v inside ls ss) (are_typed (defs_of m) m.procs v inside ls ts) (IsGuard m p g) (AreTyped m p inside ls ss) (AreTyped m p inside ls ts) (guarded g) (all_typed inside ls ss) (all_typed inside ls ts)
    typed inside ls (while at g is ss) = all_three (is_formula_or_none (defs_of m) v.sorts g) (list_all (λ i. is_formula (defs_of m) v.sorts i.formula) is) (are_typed (defs_of m) m.procs v true ls ss) (IsGuard m p g) (AllByRecursion (λ i. IsFormula (sorts_of m p) (defs_of m) i.formula) is) (AreTyped m p true ls ss) (guarded g) (each (λ (i : Invariant). is_formula (defs_of m) v.sorts i.formula) (λ (i : Invariant). IsFormula (sorts_of m p) (defs_of m) i.formula) (λ (i : Invariant). formula boolean (sort_of v.sorts (defs_of m) [] i.formula)) is) (all_typed true ls ss)
    typed inside ls (break at None) = ((λ h. h), (λ h. h))
    typed inside ls (break at (Some l)) = ((λ h. h), (λ h. h))
    typed inside ls (return at) = always
    typed inside ls (goto at to) = always
    typed inside ls (labelled new s) = typed inside (labels_within new ls s) s

    all_typed : (inside : Bool) (ls : List Name) (ss : Stmts) → Decides (are_typed (defs_of m) m.procs v inside ls ss) (AreTyped m p inside ls ss)
    all_typed inside ls no_stmts = always
    all_typed inside ls (stmt s ss) = both (is_typed (defs_of m) m.procs v inside ls s) (are_typed (defs_of m) m.procs v inside ls ss) (IsTyped m p inside ls s) (AreTyped m p inside ls ss) (typed inside ls s) (all_typed inside ls ss)

  later : (x : ℕ) → Decides (is_only_later v x) (IsOnlyLater m p x)
  later x = either (between v.first_entry v.first_in x) (nat_le v.first_out x) ((first_entry m ≤ x) × (x < first_in m)) (first_out m p ≤ x) (in_range v.first_entry v.first_in x) (leb-true v.first_out x, le-leb v.first_out x)

  specified : (s : Spec) → Decides (is_spec (defs_of m) v s) (IsSpec m p s)
  specified (requires free at E) = both (is_formula (defs_of m) (take v.first_local v.sorts) E) (not (list_any (is_only_later v) (variables E))) (IsFormula (contract_sorts m p) (defs_of m) E) ((x : ℕ) → IsOnlyLater m p x → ¬ Mentions E x) (formula_over (take v.first_local v.sorts) (contract_sorts m p) contract_first E) (none_mentioned (is_only_later v) (IsOnlyLater m p) later E)
  specified (ensures free at E) = formula_over (take v.first_local v.sorts) (contract_sorts m p) contract_first E
  specified (modifies xs) = each (between v.first_global v.first_entry) (Contains (global_numbers m)) (λ x. numbered (first_global m) (length m.globals) x) xs

  clause_over : (n : ℕ) (vars : List Kind) → take n v.sorts ≡ vars → (c : Option Tree) → Decides (is_clause (defs_of m) v n c) (IsClause m p vars c)
  clause_over n vars e None = always
  clause_over n vars e (Some E) = both (is_formula (defs_of m) (take n v.sorts) E) (not (list_any (between v.first_entry v.first_in) (variables E))) (IsFormula vars (defs_of m) E) ((x : ℕ) → IsOld m p x → ¬ Mentions E x) (formula_over (take n v.sorts) vars e E) (none_mentioned (between v.first_entry v.first_in) (IsOld m p) (in_range v.first_entry v.first_in) E)

  declared : (n : ℕ) (vars : List Kind) → take n v.sorts ≡ vars → (ls : List Local) → Decides (are_declared (defs_of m) v n ls) (AllByRecursion NotOwn ls × HaveClauses m p vars ls)
  declared n vars e [] = ((λ h. (tt, tt)), (λ h. refl))
  declared n vars e (l ∷ ls) =
      let one = both (not l.own) (is_clause (defs_of m) v n l.clause) (NotOwn l) (IsClause m p vars l.clause) ((λ h. h), (λ h. h)) (clause_over n vars e l.clause) in
      let d = both (not l.own && is_clause (defs_of m) v n l.clause) (are_declared (defs_of m) v n ls) (NotOwn l × IsClause m p vars l.clause) (AllByRecursion NotOwn ls × HaveClauses m p vars ls) one (declared n vars e ls) in
      ((λ h. let f = d.0 h in ((f.0.0, f.1.0), (f.0.1, f.1.1))), (λ h. d.1 ((h.0.0, h.1.0), (h.0.1, h.1.1))))

  body_typed : (b : Option Stmts) → Decides (is_body (defs_of m) m.procs v b) (IsBody m p b)
  body_typed None = always
  body_typed (Some ss) = all_typed false [] ss

  abbrev declares : ℕ → List Local → Bool
  declares n ls = are_declared (defs_of m) v n ls

  abbrev contract : Bool
  contract = list_all (is_spec (defs_of m) v) p.specs

  abbrev body : Bool
  body = is_body (defs_of m) m.procs v p.body

  in_parameters : Decides (declares v.first_out p.ins) (AllByRecursion NotOwn p.ins × HaveClauses m p (in_sorts m p) p.ins)
  in_parameters = declared v.first_out (in_sorts m p) in_first p.ins

  results : Decides (declares v.first_local p.outs) (AllByRecursion NotOwn p.outs × HaveClauses m p (contract_sorts m p) p.outs)
  results = declared v.first_local (contract_sorts m p) contract_first p.outs

  locals : Decides (declares (length v.sorts) p.locals) (AllByRecursion NotOwn p.locals × HaveClauses m p (sorts_of m p) p.locals)
  locals = declared (length v.sorts) (sorts_of m p) all_first p.locals

  of_contract : Decides contract (AllByRecursion (IsSpec m p) p.specs)
  of_contract = each (is_spec (defs_of m) v) (IsSpec m p) specified p.specs

  proc_typed : Decides (is_typed_proc (defs_of m) m.procs v p) (IsTypedProc m p)
  proc_typed = (
    (λ h.
        let a = and_parts (declares v.first_out p.ins) (declares v.first_local p.outs && (declares (length v.sorts) p.locals && (contract && body))) h in
        let b = and_parts (declares v.first_local p.outs) (declares (length v.sorts) p.locals && (contract && body)) a.1 in
        let c = and_parts (declares (length v.sorts) p.locals) (contract && body) b.1 in
        let d = and_parts contract body c.1 in
        let i = in_parameters.0 a.0 in
        let o = results.0 b.0 in
        let l = locals.0 c.0 in
        record {
          specs = of_contract.0 d.0;
          in_clauses = i.1;
          out_clauses = o.1;
          local_clauses = l.1;
          body = (body_typed p.body).0 d.1;
          none_own = all_after NotOwn p.ins (p.outs ++ p.locals) i.0 (all_after NotOwn p.outs p.locals o.0 l.0);
        }),
    (λ t.
        let i = all_parts NotOwn p.ins (p.outs ++ p.locals) t.none_own in
        let o = all_parts NotOwn p.outs p.locals i.1 in
        let d = and_from contract body (of_contract.1 t.specs) ((body_typed p.body).1 t.body) in
        let c = and_from (declares (length v.sorts) p.locals) (contract && body) (locals.1 (o.1, t.local_clauses)) d in
        let b = and_from (declares v.first_local p.outs) (declares (length v.sorts) p.locals && (contract && body)) (results.1 (o.0, t.out_clauses)) c in
        and_from (declares v.first_out p.ins) (declares v.first_local p.outs && (declares (length v.sorts) p.locals && (contract && body))) (in_parameters.1 (i.0, t.in_clauses)) b),
  )

global_typed : (m : Module) (c : Option Tree) → Decides (is_formula_or_none (defs_of m) (const_sorts m ++ global_sorts m) c) (IsGlobalClause m c)
global_typed m None = always
global_typed m (Some E) = formula boolean (sort_of (const_sorts m ++ global_sorts m) (defs_of m) [] E)

module _ (m : Module) where
  abbrev bodies : Bool
  bodies = bodies_sorted (const_sorts m) [] (defs_of m)

  abbrev axioms : Bool
  axioms = list_all (is_formula (defs_of m) (const_sorts m)) m.axioms

  abbrev globals : Bool
  globals = list_all (λ g. is_formula_or_none (defs_of m) (const_sorts m ++ global_sorts m) g.clause) m.globals

  abbrev procs : Bool
  procs = list_all (λ p. is_typed_proc (defs_of m) m.procs (variables_of m p) p) m.procs

  of_axioms : Decides axioms (AllByRecursion (IsFormula (const_sorts m) (defs_of m)) m.axioms)
  of_axioms = each (is_formula (defs_of m) (const_sorts m)) (IsFormula (const_sorts m) (defs_of m)) (λ E. formula boolean (sort_of (const_sorts m) (defs_of m) [] E)) m.axioms

  of_globals : Decides globals (AllByRecursion (λ g. IsGlobalClause m g.clause) m.globals)
  of_globals = each (λ (g : Global). is_formula_or_none (defs_of m) (const_sorts m ++ global_sorts m) g.clause) (λ (g : Global). IsGlobalClause m g.clause) (λ (g : Global). global_typed m g.clause) m.globals

  of_procs : Decides procs (AllByRecursion (IsTypedProc m) m.procs)
  of_procs = each (λ p. is_typed_proc (defs_of m) m.procs (variables_of m p) p) (IsTypedProc m) (λ p. proc_typed m p) m.procs

  abbrev texts : Bool
  texts = list_all (is_text (length m.texts)) m.texts

  positions : (ks : List ℕ) → Decides (list_all (λ k. nat_lt k (length m.texts)) ks) (AllByRecursion (λ k. k < length m.texts) ks)
  positions ks = each (λ k. nat_lt k (length m.texts)) (λ k. k < length m.texts) (λ k. (ltb-true k (length m.texts), lt-ltb k (length m.texts))) ks

  text_typed : (d : DeclText) → Decides (is_text (length m.texts) d) (IsText m d)
  text_typed d = both (list_all (λ k. nat_lt k (length m.texts)) d.leads) (list_all (λ k. nat_lt k (length m.texts)) d.contract_leads) (AllByRecursion (λ k. k < length m.texts) d.leads) (AllByRecursion (λ k. k < length m.texts) d.contract_leads) (positions d.leads) (positions d.contract_leads)

  of_texts : Decides texts (AllByRecursion (IsText m) m.texts)
  of_texts = each (is_text (length m.texts)) (IsText m) text_typed m.texts

  module_typed : Decides (is_typed_module m) (IsTypedModule m)
  module_typed = (
    (λ h.
        let a = and_parts bodies (axioms && (globals && (procs && texts))) h in
        let b = and_parts axioms (globals && (procs && texts)) a.1 in
        let c = and_parts globals (procs && texts) b.1 in
        let d = and_parts procs texts c.1 in
        record { functions = a.0; axioms = of_axioms.0 b.0; clauses = of_globals.0 c.0; procs = of_procs.0 d.0; texts = of_texts.0 d.1 }),
    (λ t.
        let d = and_from procs texts (of_procs.1 t.procs) (of_texts.1 t.texts) in
        let c = and_from globals (procs && texts) (of_globals.1 t.clauses) d in
        and_from bodies (axioms && (globals && (procs && texts))) t.functions (and_from axioms (globals && (procs && texts)) (of_axioms.1 t.axioms) c)),
  )

-- so the answer of the test is
pub answers : (m : Module) (r : Bool) → r ≡ is_typed_module m → IsTrue r ↔ IsTypedModule m
answers m r e = ((λ h. (module_typed m).0 (sym e ∙ h)), (λ t. e ∙ (module_typed m).1 t))
