-- The clauses and sorts of all variables of a procedure, over numbers and new ones.
use Rattle.std.specs.Prelude.{◌≡◌, refl, ◌⊎◌, ℕ, zero, suc, ◌+◌, ◌-◌, ◌<◌, ◌≤◌, ◌==◌, Bool, true, List, [], ◌∷◌, ◌++◌, map, length, filter, filter_map, slice_get, slice_index_or, Option, Some, None}
use Rattle.std.specs.List.{AllByRecursion, list_any, range_with_len}
use Rattle.std.proofs.Common.{ap, sym, subst, arith, ◌∙◌}
use Rattle.std.proofs.lemmas.List.{map-append, length-append, length-map}
use mathlib.Core.Logic.{inl, inr}
use Rattle.logic_core.specs.Tree.{Tree}
use Rattle.bpl_model.specs.Module.{Const, Global, Local, Proc, Module}
use Rattle.bpl_model.specs.Numbering.{const_sorts, global_sorts, local_sorts, sorts_of, first_global, first_entry, first_in}
use Rattle.bpl_model.specs.Clauses.{clauses_of_locals, clause_at, clauses_of}
use Rattle.bpl_model.proofs.NumberLists.{of_any}
use Rattle.rebuild_laws.proofs.InOrder.{in_order}
use Rattle.rebuild_laws.proofs.LocalsAlike.{sorts_alike, locals_both, no_terms_alike, clause_more, clause_at_place, clause_moved}
use Rattle.rebuild_laws.proofs.Ranges.{slice_behind}
use Rattle.rebuild_laws.proofs.NumbersAlike.{below, reads_low, low_reads, high_reads, low_all, passes_all, any_same, low_sort}
use Rattle.rebuild_laws.proofs.EntryAlike.{term_moved}
use Rattle.rebuild_laws.proofs.OrderAlike.{owns, Owns, owns_is, own_read, read_own, own_high, whole_order}
use Rattle.rebuild_laws.specs.Numbers.{new_all, reads_there?, Reads, Low, LowNumbers, GlobalsAlike}
use Rattle.rebuild_laws.specs.Alike.{free_choice, AlikeClause, AlikeLocals, AlikeTerms}

index_before : {A : Type 0} (xs ys : List A) (n : ℕ) (d : A) → n < length xs → slice_index_or (xs ++ ys) n d ≡ slice_index_or xs n d
index_before [] ys n d h = absurd (omega (h, arith))
index_before (x ∷ xs) ys zero d h = refl
index_before (x ∷ xs) ys (suc n) d h = index_before xs ys n d (omega (h, arith))

index_behind : {A : Type 0} (xs ys : List A) (n : ℕ) (d : A) → length xs ≤ n → slice_index_or (xs ++ ys) n d ≡ slice_index_or ys (n - length xs) d
index_behind [] ys n d h = let e : n ≡ n - 0 = omega arith in ap (λ k. slice_index_or ys k d) e
index_behind (x ∷ xs) ys zero d h = absurd (omega (h, arith))
index_behind (x ∷ xs) ys (suc n) d h = index_behind xs ys n d (omega (h, arith)) ∙ (let e : n - length xs ≡ suc n - suc (length xs) = omega arith in ap (λ k. slice_index_or ys k d) e)

abbrev no_clause : {A : Type 0} → A → Option Tree
no_clause x = None

none_each : {A : Type 0} (xs : List A) (n : ℕ) → slice_index_or (map no_clause xs) n None ≡ None
none_each [] n = refl
none_each (x ∷ xs) zero = refl
none_each (x ∷ xs) (suc n) = none_each xs n

index_found : {A B : Type 0} (f : A → Option B) (xs : List A) (n : ℕ) (x : A) → slice_get xs n ≡ Some x → slice_index_or (map f xs) n None ≡ f x
index_found f [] n x h = absurd (cc)
index_found f (y ∷ xs) zero x h = let e : y ≡ x = cc in ap f e
index_found f (y ∷ xs) (suc n) x h = index_found f xs n x h

module _ (m n : Module) (vars? vars_there? : ℕ → Bool) (new_low old_low : ℕ → ℕ) (low : LowNumbers m n vars? vars_there? new_low old_low) (new_def : ℕ → ℕ) (D : ℕ → Type 0)
    (base base_there : ℕ) (base_low : first_in m ≤ base) (base_low_there : first_in n ≤ base_there) (span : base_there + first_in m ≡ base + first_in n)
    (globals : GlobalsAlike m n vars? vars_there? new_low old_low new_def D) where
  abbrev own : ℕ → ℕ
  own = owns m n vars? vars_there? new_low old_low low new_def D base base_there base_low base_low_there span

  abbrev Mine : ℕ → Type 0
  Mine = Owns m n vars? vars_there? new_low old_low low new_def D base base_there base_low base_low_there span

  abbrev Read : ℕ → Type 0
  Read = Reads m n vars? vars_there? new_low old_low

  abbrev Lows : ℕ → Type 0
  Lows = Low m n vars? vars_there? new_low old_low

  low_own : (v : ℕ) → Lows v → own v ≡ new_low v
  low_own v l = owns_is m n vars? vars_there? new_low old_low low new_def D base base_there base_low base_low_there span v ∙ low_all m n vars? vars_there? new_low old_low low v l

  low_mine : (v : ℕ) → Lows v → Mine v
  low_mine v l = read_own m n vars? vars_there? new_low old_low low new_def D base base_there base_low base_low_there span v (low_reads m n vars? vars_there? new_low old_low v l)

  high_is : (v : ℕ) → first_in m ≤ v → own v ≡ first_in n + (v - first_in m)
  high_is v h = own_high m n vars? vars_there? new_low old_low low new_def D base base_there base_low base_low_there span v h

  clause_of_global : (k l : Option Tree) → AlikeClause new_def new_low D Lows k l → AlikeClause new_def own D Mine k l
  clause_of_global = clause_moved new_def new_low own D Lows Mine (term_moved new_def new_low own D Lows Mine low_own low_mine)

  -- two procedures whose parameters and locals go alike
  module _ (r s : Proc) (ins : AlikeLocals new_def own D Mine r.ins s.ins) (outs : AlikeLocals new_def own D Mine r.outs s.outs) (locals : AlikeLocals new_def own D Mine r.locals s.locals) where
    abbrev all_locals : List Local
    all_locals = r.ins ++ (r.outs ++ r.locals)

    abbrev all_there : List Local
    all_there = s.ins ++ (s.outs ++ s.locals)

    all_alike : AlikeLocals new_def own D Mine all_locals all_there
    all_alike = locals_both new_def own D Mine r.ins s.ins (r.outs ++ r.locals) (s.outs ++ s.locals) ins (locals_both new_def own D Mine r.outs s.outs r.locals s.locals outs locals)

    sorts_are : (k : Proc) → local_sorts k.ins ++ (local_sorts k.outs ++ local_sorts k.locals) ≡ map (λ (l : Local). l.sort) (k.ins ++ (k.outs ++ k.locals))
    sorts_are k = sym (map-append (λ (l : Local). l.sort) k.ins (k.outs ++ k.locals) ∙ ap (λ ks. local_sorts k.ins ++ ks) (map-append (λ (l : Local). l.sort) k.outs k.locals))

    rest_same : local_sorts s.ins ++ (local_sorts s.outs ++ local_sorts s.locals) ≡ local_sorts r.ins ++ (local_sorts r.outs ++ local_sorts r.locals)
    rest_same = sorts_are s ∙ sorts_alike new_def own D Mine all_locals all_there all_alike ∙ sym (sorts_are r)

    size_of : (k : Module) (x : Proc) → length (sorts_of k x) ≡ first_in k + length (local_sorts x.ins ++ (local_sorts x.outs ++ local_sorts x.locals))
    size_of k x =
        let rest = local_sorts x.ins ++ (local_sorts x.outs ++ local_sorts x.locals) in
        let a = length-append (const_sorts k) (global_sorts k ++ (global_sorts k ++ rest)) in
        let b = length-append (global_sorts k) (global_sorts k ++ rest) in
        let c = length-append (global_sorts k) rest in
        let d = length-map k.consts (λ (x : Const). x.sort) in
        let e = length-map k.globals (λ (x : Global). x.sort) in
        omega (a, b, c, d, e, arith)

    pub top_low : first_in m ≤ length (sorts_of m r)
    top_low = let e = size_of m r in omega (e, arith)

    pub top_low_there : first_in n ≤ length (sorts_of n s)
    top_low_there = let e = size_of n s in omega (e, arith)

    pub top_span : length (sorts_of n s) + first_in m ≡ length (sorts_of m r) + first_in n
    top_span = let e = size_of m r in let f = size_of n s in let g = ap length rest_same in omega (e, f, g, arith)

    slice_high : (k : Module) (x : Proc) (v : ℕ) → first_in k ≤ v → slice_get (sorts_of k x) v ≡ slice_get (local_sorts x.ins ++ (local_sorts x.outs ++ local_sorts x.locals)) (v - first_in k)
    slice_high k x v h =
        let rest = local_sorts x.ins ++ (local_sorts x.outs ++ local_sorts x.locals) in
        let d = length-map k.consts (λ (x : Const). x.sort) in
        let e = length-map k.globals (λ (x : Global). x.sort) in
        let f : v - length (const_sorts k) - length (global_sorts k) - length (global_sorts k) ≡ v - first_in k = omega (d, e, arith) in
        slice_behind (const_sorts k) (global_sorts k ++ (global_sorts k ++ rest)) v (omega (d, h, arith))
        ∙ slice_behind (global_sorts k) (global_sorts k ++ rest) (v - length (const_sorts k)) (omega (d, e, h, arith))
        ∙ slice_behind (global_sorts k) rest (v - length (const_sorts k) - length (global_sorts k)) (omega (d, e, h, arith))
        ∙ ap (slice_get rest) f

    -- each variable has the sort of its new one
    pub sort_same : (v : ℕ) → Read v → slice_get (sorts_of n s) (own v) ≡ slice_get (sorts_of m r) v
    sort_same v q = by (below v (first_in m))
      where
        by : (v < first_in m) ⊎ (first_in m ≤ v) → slice_get (sorts_of n s) (own v) ≡ slice_get (sorts_of m r) v
        by (inl h) =
            let l : Lows v = (h, reads_low m n vars? vars_there? new_low old_low v h q) in
            ap (slice_get (sorts_of n s)) (low_own v l)
            ∙ low_sort m n vars? vars_there? new_low old_low low new_def D globals (local_sorts r.ins ++ (local_sorts r.outs ++ local_sorts r.locals)) (local_sorts s.ins ++ (local_sorts s.outs ++ local_sorts s.locals)) v l
        by (inr h) =
            let is = high_is v h in
            let e : own v - first_in n ≡ v - first_in m = omega (is, arith) in
            slice_high n s (own v) (omega (is, arith)) ∙ (λ i. slice_get (rest_same i) (e i)) ∙ sym (slice_high m r v h)

    abbrev three : (k : Module) (x : Proc) → List (Option Tree)
    three k x = clauses_of_locals x.ins ++ (clauses_of_locals x.outs ++ clauses_of_locals x.locals)

    clauses_are : (k : Proc) → clauses_of_locals k.ins ++ (clauses_of_locals k.outs ++ clauses_of_locals k.locals) ≡ map (λ (l : Local). l.clause) (k.ins ++ (k.outs ++ k.locals))
    clauses_are k = sym (map-append (λ (l : Local). l.clause) k.ins (k.outs ++ k.locals) ∙ ap (λ ks. clauses_of_locals k.ins ++ ks) (map-append (λ (l : Local). l.clause) k.outs k.locals))

    clause_high : (k : Module) (x : Proc) (v : ℕ) → first_in k ≤ v → clause_at k x v ≡ slice_index_or (map (λ (l : Local). l.clause) (x.ins ++ (x.outs ++ x.locals))) (v - first_in k) None
    clause_high k x v h =
        let d = length-map k.consts (no_clause {A = Const}) in
        let e = length-map k.globals (λ (g : Global). g.clause) in
        let e' = length-map k.globals (no_clause {A = Global}) in
        let f : v - length (map (no_clause {A = Const}) k.consts) - length (map (λ (g : Global). g.clause) k.globals) - length (map (no_clause {A = Global}) k.globals) ≡ v - first_in k = omega (d, e, e', arith) in
        index_behind (map (no_clause {A = Const}) k.consts) (map (λ (g : Global). g.clause) k.globals ++ (map (no_clause {A = Global}) k.globals ++ three k x)) v None (omega (d, h, arith))
        ∙ index_behind (map (λ (g : Global). g.clause) k.globals) (map (no_clause {A = Global}) k.globals ++ three k x) (v - length (map (no_clause {A = Const}) k.consts)) None (omega (d, e, h, arith))
        ∙ index_behind (map (no_clause {A = Global}) k.globals) (three k x) (v - length (map (no_clause {A = Const}) k.consts) - length (map (λ (g : Global). g.clause) k.globals)) None (omega (d, e, e', h, arith))
        ∙ (λ i. slice_index_or (clauses_are x i) (f i) None)

    clause_const : (k : Module) (x : Proc) (v : ℕ) → v < first_global k → clause_at k x v ≡ None
    clause_const k x v h =
        let d = length-map k.consts (no_clause {A = Const}) in
        index_before (map (no_clause {A = Const}) k.consts) _ v None (omega (d, h, arith)) ∙ none_each k.consts v

    clause_global : (k : Module) (x : Proc) (v : ℕ) → first_global k ≤ v → v < first_entry k → clause_at k x v ≡ slice_index_or (map (λ (g : Global). g.clause) k.globals) (v - first_global k) None
    clause_global k x v h l =
        let d = length-map k.consts (no_clause {A = Const}) in
        let e = length-map k.globals (λ (g : Global). g.clause) in
        index_behind (map (no_clause {A = Const}) k.consts) (map (λ (g : Global). g.clause) k.globals ++ (map (no_clause {A = Global}) k.globals ++ three k x)) v None (omega (d, h, arith))
        ∙ index_before (map (λ (g : Global). g.clause) k.globals) (map (no_clause {A = Global}) k.globals ++ three k x) (v - length (map (no_clause {A = Const}) k.consts)) None (omega (d, e, h, l, arith))
        ∙ ap (λ j. slice_index_or (map (λ (g : Global). g.clause) k.globals) (v - j) None) d

    clause_entry : (k : Module) (x : Proc) (v : ℕ) → first_entry k ≤ v → v < first_in k → clause_at k x v ≡ None
    clause_entry k x v h l =
        let d = length-map k.consts (no_clause {A = Const}) in
        let e = length-map k.globals (λ (g : Global). g.clause) in
        let e' = length-map k.globals (no_clause {A = Global}) in
        index_behind (map (no_clause {A = Const}) k.consts) (map (λ (g : Global). g.clause) k.globals ++ (map (no_clause {A = Global}) k.globals ++ three k x)) v None (omega (d, h, arith))
        ∙ index_behind (map (λ (g : Global). g.clause) k.globals) (map (no_clause {A = Global}) k.globals ++ three k x) (v - length (map (no_clause {A = Const}) k.consts)) None (omega (d, e, h, arith))
        ∙ index_before (map (no_clause {A = Global}) k.globals) (three k x) (v - length (map (no_clause {A = Const}) k.consts) - length (map (λ (g : Global). g.clause) k.globals)) None (omega (d, e, e', h, l, arith))
        ∙ none_each k.globals (v - length (map (no_clause {A = Const}) k.consts) - length (map (λ (g : Global). g.clause) k.globals))

    neither : (v : ℕ) → clause_at m r v ≡ None → clause_at n s (own v) ≡ None → AlikeClause new_def own D Mine (clause_at m r v) (clause_at n s (own v))
    neither v e f = subst (λ k. AlikeClause new_def own D Mine k (clause_at n s (own v))) (sym e) (subst (AlikeClause new_def own D Mine None) (sym f) free_choice)

    -- the clause of each variable
    pub clause_same : (v : ℕ) → Read v → AlikeClause new_def own D Mine (clause_at m r v) (clause_at n s (own v))
    clause_same v q = by (below v (first_global m)) (below v (first_entry m)) (below v (first_in m))
      where
        by : (v < first_global m) ⊎ (first_global m ≤ v) → (v < first_entry m) ⊎ (first_entry m ≤ v) → (v < first_in m) ⊎ (first_in m ≤ v) → AlikeClause new_def own D Mine (clause_at m r v) (clause_at n s (own v))
        by (inl h) k l =
            let t = reads_low m n vars? vars_there? new_low old_low v (omega (h, arith)) q in
            let p = (low.constant v h t).0 in
            let is = low_own v (omega (h, arith), t) in
            neither v (clause_const m r v h) (clause_const n s (own v) (omega (is, p, arith)))
        by (inr h) (inl k) l =
            let t = reads_low m n vars? vars_there? new_low old_low v (omega (k, arith)) q in
            let p = low.global v h k t in
            let p0 = p.0 in
            let p1 = p.1 in
            let is = low_own v (omega (k, arith), t) in
            let g = globals v h k t in
            let mine : clause_at m r v ≡ (g.mine).clause = clause_global m r v h k ∙ index_found (λ (x : Global). x.clause) m.globals (v - first_global m) g.mine g.here in
            let theirs : clause_at n s (own v) ≡ (g.theirs).clause
            = clause_global n s (own v) (omega (is, p0, arith)) (omega (is, p1, arith)) ∙ ap (λ w. slice_index_or (map (λ (x : Global). x.clause) n.globals) (w - first_global n) None) is
            ∙ index_found (λ (x : Global). x.clause) n.globals (new_low v - first_global n) g.theirs g.there in
            subst (λ c. AlikeClause new_def own D Mine c (clause_at n s (own v))) (sym mine) (subst (AlikeClause new_def own D Mine (g.mine).clause) (sym theirs) (clause_of_global (g.mine).clause (g.theirs).clause g.clause))
        by (inr h) (inr k) (inl l) =
            let t = reads_low m n vars? vars_there? new_low old_low v l q in
            let w = v - length m.globals in
            let e = low.entry v k l t in
            let e1 = e.1 in
            let p = low.global w (omega (k, arith)) (omega (l, k, arith)) e.0 in
            let p0 = p.0 in
            let p1 = p.1 in
            let is = low_own v (l, t) in
            neither v (clause_entry m r v k l) (clause_entry n s (own v) (omega (is, e1, p0, arith)) (omega (is, e1, p1, arith)))
        by (inr h) (inr k) (inr l) =
            let is = high_is v l in
            let e : own v - first_in n ≡ v - first_in m = omega (is, arith) in
            let theirs : clause_at n s (own v) ≡ slice_index_or (map (λ (x : Local). x.clause) all_there) (v - first_in m) None = clause_high n s (own v) (omega (is, arith)) ∙ ap (λ i. slice_index_or (map (λ (x : Local). x.clause) all_there) i None) e in
            subst (λ c. AlikeClause new_def own D Mine c (clause_at n s (own v))) (sym (clause_high m r v l))
            (subst (AlikeClause new_def own D Mine (slice_index_or (map (λ (x : Local). x.clause) all_locals) (v - first_in m) None)) (sym theirs) (clause_at_place new_def own D Mine all_locals all_there all_alike (v - first_in m)))

    mapped_clauses : (vs : List ℕ) → AllByRecursion Mine vs → AlikeTerms new_def own D Mine (filter_map (clause_at m r) vs) (filter_map (clause_at n s) (map own vs))
    mapped_clauses [] h = no_terms_alike new_def own D Mine
    mapped_clauses (v ∷ vs) h =
        clause_more new_def own D Mine (clause_at m r v) (clause_at n s (own v)) (filter_map (clause_at m r) vs) (filter_map (clause_at n s) (map own vs))
        (clause_same v (own_read m n vars? vars_there? new_low old_low low new_def D base base_there base_low base_low_there span v h.0)) (mapped_clauses vs h.1)

    reads_each : (vs : List ℕ) → AllByRecursion Mine vs → AllByRecursion Read vs
    reads_each [] h = tt
    reads_each (v ∷ vs) h = (own_read m n vars? vars_there? new_low old_low low new_def D base base_there base_low base_low_there span v h.0, reads_each vs h.1)

    maps_new : (vs : List ℕ) → map own vs ≡ map (new_all m n vars? vars_there? new_low old_low) vs
    maps_new [] = refl
    maps_new (v ∷ vs) = λ i. owns_is m n vars? vars_there? new_low old_low low new_def D base base_there base_low base_low_there span v i ∷ maps_new vs i

    pub passes_each : (vs : List ℕ) → AllByRecursion Mine vs → AllByRecursion (λ w. reads_there? m n vars? vars_there? new_low old_low w ≡ true) (map own vs)
    passes_each [] h = tt
    passes_each (v ∷ vs) h =
        let q = own_read m n vars? vars_there? new_low old_low low new_def D base base_there base_low base_low_there span v h.0 in
        (ap (reads_there? m n vars? vars_there? new_low old_low) (owns_is m n vars? vars_there? new_low old_low low new_def D base base_there base_low base_low_there span v) ∙ passes_all m n vars? vars_there? new_low old_low low v q, passes_each vs h.1)

    -- a variable is among some exactly where its new one is among theirs
    pub among_new : (vs : List ℕ) → AllByRecursion Mine vs → (v : ℕ) → Mine v → list_any (λ x. x == own v) (map own vs) ≡ list_any (λ x. x == v) vs
    among_new vs h v k =
        (λ i. list_any (λ x. x == owns_is m n vars? vars_there? new_low old_low low new_def D base base_there base_low base_low_there span v i) (maps_new vs i))
        ∙ any_same m n vars? vars_there? new_low old_low low vs (reads_each vs h) v (own_read m n vars? vars_there? new_low old_low low new_def D base base_there base_low base_low_there span v k)

    -- those among some variables, up to an end behind the parameters
    pub among_in_order : (last last_there : ℕ) → first_in m ≤ last → first_in n ≤ last_there → last_there + first_in m ≡ last + first_in n → (vs : List ℕ) → AllByRecursion Mine vs
        → (filter (λ w. list_any (λ x. x == w) (map own vs)) (range_with_len 0 last_there) ≡ map own (filter (λ v. list_any (λ x. x == v) vs) (range_with_len 0 last)))
        × AllByRecursion Mine (filter (λ v. list_any (λ x. x == v) vs) (range_with_len 0 last))
    among_in_order last last_there a b c vs h =
        in_order own Mine last last_there
        (whole_order m n vars? vars_there? new_low old_low low new_def D base base_there base_low base_low_there span Mine low_mine last last_there a b c (λ v l k. read_own m n vars? vars_there? new_low old_low low new_def D base base_there base_low base_low_there span v (high_reads m n vars? vars_there? new_low old_low v l)))
        (λ v. list_any (λ x. x == v) vs) (λ w. list_any (λ x. x == w) (map own vs))
        (λ v e. own_read m n vars? vars_there? new_low old_low low new_def D base base_there base_low base_low_there span v (of_any Mine vs v e h))
        (λ w e. of_any (λ x. reads_there? m n vars? vars_there? new_low old_low x ≡ true) (map own vs) w e (passes_each vs h))
        (λ v k. among_new vs h v k)

    -- the clauses of some variables
    pub clauses_same : (vs : List ℕ) → AllByRecursion Mine vs → AlikeTerms new_def own D Mine (clauses_of m r vs) (clauses_of n s (map own vs))
    clauses_same vs h =
        let o = among_in_order (length (sorts_of m r)) (length (sorts_of n s)) top_low top_low_there top_span vs h in
        subst (λ ws. AlikeTerms new_def own D Mine (clauses_of m r vs) (filter_map (clause_at n s) ws)) (sym o.0) (mapped_clauses (filter (λ v. list_any (λ x. x == v) vs) (range_with_len 0 (length (sorts_of m r)))) o.1)
