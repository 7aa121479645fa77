-- Bodies that go alike still do once their calls are replaced by contracts that go alike.
use Rattle.std.specs.Prelude.{◌≡◌, refl, ◌⊎◌, ℕ, zero, suc, ◌+◌, ◌-◌, ◌<◌, ◌≤◌, nat_lt, Bool, IsTrue, true, false, cond, List, [], ◌∷◌, ◌++◌, map, length, zip, slice_get, Option, Some, None, option_map}
use Rattle.std.specs.List.{AllByRecursion, range_with_len}
use Rattle.std.proofs.Common.{ap, sym, subst, arith, ◌∙◌}
use Rattle.std.proofs.lemmas.Bool.Decides.{nat_tests}
use Rattle.std.proofs.lemmas.List.{map-append, length-map}
use mathlib.Core.Logic.{inl, inr}
use Rattle.bv_base.specs.declared.place.Place.{Place}
use Rattle.logic_core.specs.Tree.{Tree, free}
use Rattle.logic_core.specs.Variables.{renamed}
use Rattle.logic_core.specs.Renamed.{both_renamed, EachHas}
use Rattle.logic_laws.proofs.RenamedVariables.{renames_nothing}
use Rattle.flow_core.specs.declared.mark.Mark.{Mark}
use Rattle.flow_core.specs.declared.block.Invariant.{Invariant}
use Rattle.bpl_model.specs.Module.{Name, Spec, Stmt, assert, assume, havoc, assign, break, return, goto, Stmts, Global, Local, Proc, Module}
use Rattle.bpl_model.specs.Contract.{postconditions, call_checks, modified}
use Rattle.bpl_model.specs.StmtView.{stmts_of}
use Rattle.bpl_model.specs.Numbering.{first_global}
use Rattle.bpl_model.specs.Cut.{Cut, one, owned, owned_global, result, arguments, old_globals, results, over, own_variables, check, contract_of, cut_call, with_labels, cut_stmt, cut_list}
use Rattle.obligation_text.proofs.RenamedTerms.{renamed_twice, renamed_has}
use Rattle.rebuild_laws.proofs.RemovedAlike.{appended}
use Rattle.rebuild_laws.proofs.LocalsAlike.{locals_long, locals_both}
use Rattle.rebuild_laws.specs.Alike.{Sets, AlikeInvariants, no_invariants, one_invariant, AlikeGuard, free_choice, guarded, AlikeStmt, asserts, assumes, havocs, assigns, branches, loops, breaks, returns, jumps, calls_so, labels, AlikeStmts, none_more, a_stmt, AlikeClause, AlikeLocals, no_locals, a_local, both_require, both_ensure, both_modify, AlikeSpecs, no_specs, a_spec}

-- no call is left
abbrev pub NoCallee : ℕ → ℕ → Type 0
NoCallee k l = ⊥

global_own : (o : Option Global) → (owned_global o).own ≡ true
global_own None = refl
global_own (Some g) = refl

global_clause : (o : Option Global) → (owned_global o).clause ≡ None
global_clause None = refl
global_clause (Some g) = refl

-- over two modules, the variables before those of calls here and there, and their new numbers
module _ (m n : Module) (new_def new_var : ℕ → ℕ) (D V : ℕ → Type 0) (base base_there : ℕ) (low : (v : ℕ) → V v → v < base) where
  abbrev pub new_own : ℕ → ℕ
  new_own v = cond (nat_lt v base) (new_var v) (base_there + (v - base))

  abbrev pub Own : ℕ → Type 0
  Own v = V v ⊎ (base ≤ v)

  own_first : (v : ℕ) → V v → new_own v ≡ new_var v
  own_first v h = let e : nat_lt v base ≡ true = grind (arith, nat_tests, low v h) in ap (λ b. cond b (new_var v) (base_there + (v - base))) e

  own_later : (i : ℕ) → new_own (base + i) ≡ base_there + i
  own_later i =
      let e : nat_lt (base + i) base ≡ false = grind (arith, nat_tests) in
      let f : base_there + ((base + i) - base) ≡ base_there + i = omega arith in
      ap (λ b. cond b (new_var (base + i)) (base_there + ((base + i) - base))) e ∙ f

  -- the variables of a contract have new numbers of their own
  pub record AlikeContract (c d : Proc) : Type 0 where
    -- the variables that it reads
    pub read_by : ℕ → Bool
    pub contract_var : ℕ → ℕ
    pub ins : AlikeLocals new_def contract_var D (λ w. IsTrue (read_by w)) c.ins d.ins
    pub outs : AlikeLocals new_def contract_var D (λ w. IsTrue (read_by w)) c.outs d.outs
    -- modified globals have their sorts
    pub modified_sorts : AllByRecursion (λ g. (owned_global (slice_get n.globals (new_var g - first_global n))).sort ≡ (owned_global (slice_get m.globals (g - first_global m))).sort) (modified m c)
    pub modified_there : modified n d ≡ map new_var (modified m c)
    pub modified_each : AllByRecursion V (modified m c)
    pub specs : AlikeSpecs new_def contract_var D (λ w. IsTrue (read_by w)) c.specs d.specs
    -- a variable of the contract stands for the same
    pub reads : (i w : ℕ) → IsTrue (read_by w) → (over n d (base_there + i) (contract_var w) ≡ new_own (over m c (base + i) w)) × Own (over m c (base + i) w)

  -- no callee is in nothing_found, or both are there and go alike
  pub data AlikeFound : Option Proc → Option Proc → Type 0 where
    nothing_found : AlikeFound None None
    both_found : {c d : Proc} → AlikeContract c d → AlikeFound (Some c) (Some d)

  abbrev pub Callees : ℕ → ℕ → Type 0
  Callees k l = AlikeFound (slice_get m.procs k) (slice_get n.procs l)

  abbrev pub Before : Stmt → Stmt → Type 0
  Before = AlikeStmt new_def new_var D V Callees

  abbrev pub Befores : Stmts → Stmts → Type 0
  Befores = AlikeStmts new_def new_var D V Callees

  abbrev pub After : Stmt → Stmt → Type 0
  After = AlikeStmt new_def new_own D Own NoCallee

  abbrev pub Afters : Stmts → Stmts → Type 0
  Afters = AlikeStmts new_def new_own D Own NoCallee

  abbrev renew : Tree → Tree
  renew t = both_renamed new_def new_own t

  -- a term that reads no variable of a call
  term_first : (t : Tree) → EachHas V D t → both_renamed new_def new_own t ≡ both_renamed new_def new_var t
  term_first t h =
      sym (renamed_twice (λ f. f) (λ v. v) new_def new_own new_def new_own V D (λ v k. refl) (λ f k. refl) t h) ∙ renamed_twice (λ f. f) (λ v. v) new_def new_own new_def new_var V D own_first (λ f k. refl) t h

  own_has : (t : Tree) → EachHas V D t → EachHas Own D t
  own_has t h = subst (EachHas Own D) (renames_nothing t) (renamed_has (λ f. f) (λ v. v) V D Own D (λ v k. inl k) (λ f k. k) t h)

  abbrev OwnLocals : List Local → List Local → Type 0
  OwnLocals = AlikeLocals new_def new_own D Own

  -- a formula of the contract, for the caller
  contract_term : (c d : Proc) (a : AlikeContract c d) (i : ℕ) (E : Tree) → EachHas (λ w. IsTrue (a.read_by w)) D E → renamed (over n d (base_there + i)) (both_renamed new_def a.contract_var E) ≡ renew (renamed (over m c (base + i)) E)
  contract_term c d a i E h =
      renamed_twice new_def a.contract_var (λ f. f) (over n d (base_there + i)) new_def (λ w. new_own (over m c (base + i) w)) (λ w. IsTrue (a.read_by w)) D (λ w k. (a.reads i w k).0) (λ f k. refl) E h
      ∙ sym (renamed_twice (λ f. f) (over m c (base + i)) new_def new_own new_def (λ w. new_own (over m c (base + i) w)) (λ w. IsTrue (a.read_by w)) D (λ w k. refl) (λ f k. refl) E h)

  contract_has : (c d : Proc) (a : AlikeContract c d) (i : ℕ) (E : Tree) → EachHas (λ w. IsTrue (a.read_by w)) D E → EachHas Own D (renamed (over m c (base + i)) E)
  contract_has c d a i E h = renamed_has (λ f. f) (over m c (base + i)) (λ w. IsTrue (a.read_by w)) D Own D (λ w k. (a.reads i w k).1) (λ f k. k) E h

  -- statements one after another
  pub data AlikeList : List Stmt → List Stmt → Type 0 where
    nothing : AlikeList [] []
    then_so : {s t : Stmt} {ss ts : List Stmt} → After s t → AlikeList ss ts → AlikeList (s ∷ ss) (t ∷ ts)

  listed : (ss ts : List Stmt) → AlikeList ss ts → Afters (stmts_of ss) (stmts_of ts)
  listed _ _ nothing = none_more
  listed _ _ (then_so {ss = ss} {ts = ts} a rest) = a_stmt a (listed ss ts rest)

  list_both : (ss ts us ws : List Stmt) → AlikeList ss ts → AlikeList us ws → AlikeList (ss ++ us) (ts ++ ws)
  list_both _ _ us ws nothing h = h
  list_both _ _ us ws (then_so {ss = ss} {ts = ts} a rest) h = then_so a (list_both ss ts us ws rest h)

  asserted_so : (p : Place) (E F : Tree) (k l : Mark) → EachHas Own D E → F ≡ renew E → After (assert k E) (assert l F)
  asserted_so p E F k l h e = subst (λ G. After (assert k E) (assert l G)) (sym e) (asserts h)

  assumed_so : (p q : Place) (E F : Tree) → EachHas Own D E → F ≡ renew E → After (assume p E) (assume q F)
  assumed_so p q E F h e = subst (λ G. After (assume p E) (assume q G)) (sym e) (assumes h)

  -- what is checked at a call
  checks_alike : (c d : Proc) (a : AlikeContract c d) (i : ℕ) (p q : Place) (k : ℕ) (ss ts : List Spec) → AlikeSpecs new_def a.contract_var D (λ w. IsTrue (a.read_by w)) ss ts
      → AlikeList (map (check (over m c (base + i)) p) (call_checks p k ss)) (map (check (over n d (base_there + i)) q) (call_checks q k ts))
  checks_alike c d a i p q k _ _ no_specs = nothing
  checks_alike c d a i p q k _ _ (a_spec {ss = ss} {ts = ts} (both_require {f = true} h) rest) = checks_alike c d a i p q k ss ts rest
  checks_alike c d a i p q k _ _ (a_spec {ss = ss} {ts = ts} (both_require {f = false} {E = E} h) rest) =
      then_so (asserted_so p (renamed (over m c (base + i)) E) (renamed (over n d (base_there + i)) (both_renamed new_def a.contract_var E)) _ _ (contract_has c d a i E h) (contract_term c d a i E h)) (checks_alike c d a i p q (k + 1) ss ts rest)
  checks_alike c d a i p q k _ _ (a_spec {ss = ss} {ts = ts} (both_ensure h) rest) = checks_alike c d a i p q k ss ts rest
  checks_alike c d a i p q k _ _ (a_spec {ss = ss} {ts = ts} (both_modify h) rest) = checks_alike c d a i p q k ss ts rest

  -- what is assumed after one
  posts_alike : (c d : Proc) (a : AlikeContract c d) (i : ℕ) (p q : Place) (ss ts : List Spec) → AlikeSpecs new_def a.contract_var D (λ w. IsTrue (a.read_by w)) ss ts
      → AlikeList (map (λ E. assume p (renamed (over m c (base + i)) E)) (postconditions ss)) (map (λ E. assume q (renamed (over n d (base_there + i)) E)) (postconditions ts))
  posts_alike c d a i p q _ _ no_specs = nothing
  posts_alike c d a i p q _ _ (a_spec {ss = ss} {ts = ts} (both_require h) rest) = posts_alike c d a i p q ss ts rest
  posts_alike c d a i p q _ _ (a_spec {ss = ss} {ts = ts} (both_ensure {E = E} h) rest) =
      then_so (assumed_so p q (renamed (over m c (base + i)) E) (renamed (over n d (base_there + i)) (both_renamed new_def a.contract_var E)) (contract_has c d a i E h) (contract_term c d a i E h)) (posts_alike c d a i p q ss ts rest)
  posts_alike c d a i p q _ _ (a_spec {ss = ss} {ts = ts} (both_modify h) rest) = posts_alike c d a i p q ss ts rest

  -- own variables have the new numbers of own variables
  own_range : (i k : ℕ) → range_with_len (base_there + i) k ≡ map new_own (range_with_len (base + i) k)
  own_range i zero = refl
  own_range i (suc k) =
      let e : base_there + i + 1 ≡ base_there + (i + 1) = omega arith in
      let f : base + (i + 1) ≡ base + i + 1 = omega arith in
      (λ j. sym (own_later i) j ∷ (ap (λ a. range_with_len a k) e ∙ own_range (i + 1) k ∙ ap (λ a. map new_own (range_with_len a k)) f) j)

  own_each : (i k : ℕ) → AllByRecursion Own (range_with_len (base + i) k)
  own_each i zero = tt
  own_each i (suc k) = let f : base + (i + 1) ≡ base + i + 1 = omega arith in (inr (omega arith), subst (λ a. AllByRecursion Own (range_with_len a k)) f (own_each (i + 1) k))

  zipped : (vs : List ℕ) (es : List Tree) → zip (map new_own vs) (map renew es) ≡ map (λ r. (new_own r.0, renew r.1)) (zip vs es)
  zipped [] es = refl
  zipped (v ∷ vs) [] = refl
  zipped (v ∷ vs) (e ∷ es) = ap (λ rs. (new_own v, renew e) ∷ rs) (zipped vs es)

  zipped_each : (vs : List ℕ) (es : List Tree) → AllByRecursion Own vs → AllByRecursion (EachHas Own D) es → AllByRecursion (Sets D Own) (zip vs es)
  zipped_each [] es h k = tt
  zipped_each (v ∷ vs) [] h k = tt
  zipped_each (v ∷ vs) (e ∷ es) h k = ((h.0, k.0), zipped_each vs es h.1 k.1)

  assign_alike : (p q : Place) (vs ws : List ℕ) (es fs : List Tree) → ws ≡ map new_own vs → fs ≡ map renew es → AllByRecursion Own vs → AllByRecursion (EachHas Own D) es → After (assign p (zip vs es)) (assign q (zip ws fs))
  assign_alike p q vs ws es fs e f h k = subst (λ rs. After (assign p (zip vs es)) (assign q rs)) (sym ((λ i. zip (e i) (f i)) ∙ zipped vs es)) (assigns (zipped_each vs es h k))

  frees_new : (vs : List ℕ) → map free (map new_own vs) ≡ map renew (map free vs)
  frees_new [] = refl
  frees_new (v ∷ vs) = ap (λ ts. free (new_own v) ∷ ts) (frees_new vs)

  frees_have : (vs : List ℕ) → AllByRecursion Own vs → AllByRecursion (EachHas Own D) (map free vs)
  frees_have [] h = tt
  frees_have (v ∷ vs) h = (h.0, frees_have vs h.1)

  terms_first : (es : List Tree) → AllByRecursion (EachHas V D) es → map (both_renamed new_def new_var) es ≡ map renew es
  terms_first [] h = refl
  terms_first (e ∷ es) h = λ i. sym (term_first e h.0) i ∷ terms_first es h.1 i

  terms_own : (es : List Tree) → AllByRecursion (EachHas V D) es → AllByRecursion (EachHas Own D) es
  terms_own [] h = tt
  terms_own (e ∷ es) h = (own_has e h.0, terms_own es h.1)

  numbers_first : (vs : List ℕ) → AllByRecursion V vs → map new_var vs ≡ map new_own vs
  numbers_first [] h = refl
  numbers_first (v ∷ vs) h = λ i. sym (own_first v h.0) i ∷ numbers_first vs h.1 i

  numbers_own : (vs : List ℕ) → AllByRecursion V vs → AllByRecursion Own vs
  numbers_own [] h = tt
  numbers_own (v ∷ vs) h = (inl h.0, numbers_own vs h.1)

  own_both : (vs ws : List ℕ) → AllByRecursion Own vs → AllByRecursion Own ws → AllByRecursion Own (vs ++ ws)
  own_both [] ws h k = k
  own_both (v ∷ vs) ws h k = (h.0, own_both vs ws h.1 k)

  module _ (c d : Proc) (a : AlikeContract c d) (i : ℕ) where
    modified_new : modified n d ≡ map new_own (modified m c)
    modified_new = a.modified_there ∙ numbers_first (modified m c) a.modified_each

    long : length (modified n d) ≡ length (modified m c)
    long = ap length a.modified_there ∙ length-map (modified m c) new_var

    ins_long : length d.ins ≡ length c.ins
    ins_long = locals_long new_def a.contract_var D (λ w. IsTrue (a.read_by w)) c.ins d.ins a.ins

    outs_long : length d.outs ≡ length c.outs
    outs_long = locals_long new_def a.contract_var D (λ w. IsTrue (a.read_by w)) c.outs d.outs a.outs

    arguments_new : arguments n d (base_there + i) ≡ map new_own (arguments m c (base + i))
    arguments_new = ap (range_with_len (base_there + i)) ins_long ∙ own_range i (length c.ins)

    old_globals_new : old_globals n d (base_there + i) ≡ map new_own (old_globals m c (base + i))
    old_globals_new =
        let e : base_there + i + length d.ins ≡ base_there + (i + length c.ins) = omega (ins_long, arith) in
        let f : base + (i + length c.ins) ≡ base + i + length c.ins = omega arith in
        (λ j. range_with_len (e j) (long j)) ∙ own_range (i + length c.ins) (length (modified m c)) ∙ ap (λ v. map new_own (range_with_len v (length (modified m c)))) f

    results_new : results n d (base_there + i) ≡ map new_own (results m c (base + i))
    results_new =
        let e : base_there + i + length d.ins + length (modified n d) ≡ base_there + (i + length c.ins + length (modified m c)) = omega (ins_long, long, arith) in
        let f : base + (i + length c.ins + length (modified m c)) ≡ base + i + length c.ins + length (modified m c) = omega arith in
        (λ j. range_with_len (e j) (outs_long j)) ∙ own_range (i + length c.ins + length (modified m c)) (length c.outs) ∙ ap (λ v. map new_own (range_with_len v (length c.outs))) f

    old_globals_each : AllByRecursion Own (old_globals m c (base + i))
    old_globals_each = let f : base + (i + length c.ins) ≡ base + i + length c.ins = omega arith in subst (λ v. AllByRecursion Own (range_with_len v (length (modified m c)))) f (own_each (i + length c.ins) (length (modified m c)))

    results_each : AllByRecursion Own (results m c (base + i))
    results_each =
        let f : base + (i + length c.ins + length (modified m c)) ≡ base + i + length c.ins + length (modified m c) = omega arith in
        subst (λ v. AllByRecursion Own (range_with_len v (length c.outs))) f (own_each (i + length c.ins + length (modified m c)) (length c.outs))

    -- what stands for a call
    call_alike : (p q : Place) (es : List Tree) (vs : List ℕ) → AllByRecursion (EachHas V D) es → AllByRecursion V vs
        → AlikeList (contract_of m (base + i) p c es vs) (contract_of n (base_there + i) q d (map (both_renamed new_def new_var) es) (map new_var vs))
    call_alike p q es vs h k =
        let modified_own = numbers_own (modified m c) a.modified_each in
        let globals = ap (map free) modified_new ∙ frees_new (modified m c) in
        let outs = ap (map free) results_new ∙ frees_new (results m c (base + i)) in
        let havocked : modified n d ++ results n d (base_there + i) ≡ map new_own (modified m c ++ results m c (base + i)) = (λ j. modified_new j ++ results_new j) ∙ sym (map-append new_own (modified m c) (results m c (base + i))) in
        then_so (assign_alike p q (arguments m c (base + i)) (arguments n d (base_there + i)) es (map (both_renamed new_def new_var) es) arguments_new (terms_first es h) (own_each i (length c.ins)) (terms_own es h))
        (list_both (map (check (over m c (base + i)) p) (call_checks p 0 c.specs)) (map (check (over n d (base_there + i)) q) (call_checks q 0 d.specs)) _ _ (checks_alike c d a i p q 0 c.specs d.specs a.specs)
        (then_so (assign_alike p q (old_globals m c (base + i)) (old_globals n d (base_there + i)) (map free (modified m c)) (map free (modified n d)) old_globals_new globals old_globals_each (frees_have (modified m c) modified_own))
        (then_so (subst (λ ws. After (havoc p (modified m c ++ results m c (base + i))) (havoc q ws)) (sym havocked) (havocs (own_both (modified m c) (results m c (base + i)) modified_own results_each)))
        (list_both (map (λ E. assume p (renamed (over m c (base + i)) E)) (postconditions c.specs)) (map (λ E. assume q (renamed (over n d (base_there + i)) E)) (postconditions d.specs)) _ _ (posts_alike c d a i p q c.specs d.specs a.specs)
        (then_so (assign_alike p q vs (map new_var vs) (map free (results m c (base + i))) (map free (results n d (base_there + i))) (numbers_first vs k) outs (numbers_own vs k) (frees_have (results m c (base + i)) results_each)) nothing)))))

    -- the variables that the call owns
    owned_alike : (ks ls : List Local) → AlikeLocals new_def a.contract_var D (λ w. IsTrue (a.read_by w)) ks ls → OwnLocals (map owned ks) (map owned ls)
    owned_alike _ _ no_locals = no_locals
    owned_alike _ _ (a_local {ks = ks} {ls = ls} e o k rest) = a_local e refl free_choice (owned_alike ks ls rest)

    globals_alike : (gs : List ℕ) → AllByRecursion (λ g. (owned_global (slice_get n.globals (new_var g - first_global n))).sort ≡ (owned_global (slice_get m.globals (g - first_global m))).sort) gs
        → OwnLocals (map (λ g. owned_global (slice_get m.globals (g - first_global m))) gs) (map (λ g. owned_global (slice_get n.globals (g - first_global n))) (map new_var gs))
    globals_alike [] h = no_locals
    globals_alike (g ∷ gs) h =
        let mine = slice_get m.globals (g - first_global m) in
        let theirs = slice_get n.globals (new_var g - first_global n) in
        a_local h.0 (global_own theirs ∙ sym (global_own mine))
        (subst (λ k. AlikeClause new_def new_own D Own k (owned_global theirs).clause) (sym (global_clause mine)) (subst (AlikeClause new_def new_own D Own None) (sym (global_clause theirs)) free_choice)) (globals_alike gs h.1)

    result_clause : (k l : Option Tree) → AlikeClause new_def a.contract_var D (λ w. IsTrue (a.read_by w)) k l → AlikeClause new_def new_own D Own (option_map (renamed (over m c (base + i))) k) (option_map (renamed (over n d (base_there + i))) l)
    result_clause _ _ free_choice = free_choice
    result_clause _ _ (guarded {E = E} h) = subst (λ F. AlikeClause new_def new_own D Own (Some (renamed (over m c (base + i)) E)) (Some F)) (sym (contract_term c d a i E h)) (guarded (contract_has c d a i E h))

    results_alike : (ks ls : List Local) → AlikeLocals new_def a.contract_var D (λ w. IsTrue (a.read_by w)) ks ls → OwnLocals (map (result m c (base + i)) ks) (map (result n d (base_there + i)) ls)
    results_alike _ _ no_locals = no_locals
    results_alike _ _ (a_local {k = k} {l = l} {ks = ks} {ls = ls} e o b rest) = a_local e refl (result_clause k.clause l.clause b) (results_alike ks ls rest)

    own_alike : OwnLocals (own_variables m c (base + i)) (own_variables n d (base_there + i))
    own_alike =
        locals_both new_def new_own D Own (map owned c.ins) (map owned d.ins) _ _ (owned_alike c.ins d.ins a.ins)
        (locals_both new_def new_own D Own (map (λ g. owned_global (slice_get m.globals (g - first_global m))) (modified m c)) (map (λ g. owned_global (slice_get n.globals (g - first_global n))) (modified n d)) _ _
        (subst (λ gs. OwnLocals (map (λ g. owned_global (slice_get m.globals (g - first_global m))) (modified m c)) (map (λ g. owned_global (slice_get n.globals (g - first_global n))) gs)) (sym a.modified_there) (globals_alike (modified m c) a.modified_sorts))
        (results_alike c.outs d.outs a.outs))

  pub record AlikeCut (r q : Cut) : Type 0 where
    pub stmts : Afters r.0 q.0
    pub own : OwnLocals r.1 q.1

  cut_long : (r q : Cut) → AlikeCut r q → length q.1 ≡ length r.1
  cut_long r q a = locals_long new_def new_own D Own r.1 q.1 a.own

  found_alike : (o u : Option Proc) → AlikeFound o u → (i : ℕ) (p q : Place) (es : List Tree) (vs : List ℕ) → AllByRecursion (EachHas V D) es → AllByRecursion V vs
      → AlikeCut (cut_call m (base + i) p o es vs) (cut_call n (base_there + i) q u (map (both_renamed new_def new_var) es) (map new_var vs))
  found_alike _ _ nothing_found i p q es vs h k = record { stmts = none_more; own = no_locals }
  found_alike _ _ (both_found {c = c} {d = d} a) i p q es vs h k = record {
    stmts = listed (contract_of m (base + i) p c es vs) (contract_of n (base_there + i) q d (map (both_renamed new_def new_var) es) (map new_var vs)) (call_alike c d a i p q es vs h k);
    own = own_alike c d a i;
  }

  -- labels on a statement that is still one
  labels_alike : (ls : List Name) (ss ts : Stmts) → Afters ss ts → Afters (with_labels ls ss) (with_labels ls ts)
  labels_alike ls _ _ none_more = none_more
  labels_alike ls _ _ (a_stmt a none_more) = a_stmt (labels a) none_more
  labels_alike ls _ _ (a_stmt a (a_stmt b rest)) = a_stmt a (a_stmt b rest)

  guard_after : (g h : Option Tree) → AlikeGuard new_def new_var D V Callees g h → AlikeGuard new_def new_own D Own NoCallee g h
  guard_after _ _ free_choice = free_choice
  guard_after _ _ (guarded {E = E} h) = subst (λ G. AlikeGuard new_def new_own D Own NoCallee (Some E) (Some G)) (term_first E h) (guarded (own_has E h))

  invariants_after : (is js : List Invariant) → AlikeInvariants new_def new_var D V is js → AlikeInvariants new_def new_own D Own is js
  invariants_after _ _ no_invariants = no_invariants
  invariants_after _ _ (one_invariant {i = i} {is = is} {js = js} a rest) = one_invariant (record { free = a.free; covered = own_has i.formula a.covered; formula = a.formula ∙ sym (term_first i.formula a.covered) }) (invariants_after is js rest)

  pairs_after : (ps : List (ℕ × Tree)) → AllByRecursion (Sets D V) ps → (map {B = ℕ × Tree} (λ r. (new_var r.0, both_renamed new_def new_var r.1)) ps ≡ map {B = ℕ × Tree} (λ r. (new_own r.0, renew r.1)) ps) × AllByRecursion (Sets D Own) ps
  pairs_after [] h = (refl, tt)
  pairs_after (p ∷ ps) h =
      let rest = pairs_after ps h.1 in
      ((λ i. (sym (own_first p.0 h.0.0) i, sym (term_first p.1 h.0.1) i) ∷ rest.0 i), ((inl h.0.0, own_has p.1 h.0.1), rest.1))

  lone : (s t : Stmt) → After s t → AlikeCut (one s, []) (one t, [])
  lone s t a = record { stmts = a_stmt a none_more; own = no_locals }

  mutual
    pub cut_alike : (s t : Stmt) → Before s t → (i : ℕ) → AlikeCut (cut_stmt m (base + i) s) (cut_stmt n (base_there + i) t)
    cut_alike _ _ (asserts {m = k} {n = l} {E = E} h) i = lone (assert k E) (assert l (both_renamed new_def new_var E)) (subst (λ G. After (assert k E) (assert l G)) (term_first E h) (asserts (own_has E h)))
    cut_alike _ _ (assumes {p = p} {q = q} {E = E} h) i = lone (assume p E) (assume q (both_renamed new_def new_var E)) (subst (λ G. After (assume p E) (assume q G)) (term_first E h) (assumes (own_has E h)))
    cut_alike _ _ (havocs {p = p} {q = q} {vs = vs} h) i = lone (havoc p vs) (havoc q (map new_var vs)) (subst (λ us. After (havoc p vs) (havoc q us)) (sym (numbers_first vs h)) (havocs (numbers_own vs h)))
    cut_alike _ _ (assigns {p = p} {q = q} {ps = ps} h) i = lone (assign p ps) (assign q (map (λ (r : ℕ × Tree). (new_var r.0, both_renamed new_def new_var r.1)) ps)) (subst (λ rs. After (assign p ps) (assign q rs)) (sym (pairs_after ps h).0) (assigns (pairs_after ps h).1))
    cut_alike _ _ (calls_so {p = p} {q = q} {k = k} {l = l} {es = es} {vs = vs} c e h) i = found_alike (slice_get m.procs k) (slice_get n.procs l) c i p q es vs e h
    cut_alike _ _ (branches {g = g} {h = h} {ss = ss} {ts = ts} {us = us} {ws = ws} c a b) i =
        let r = all_cut_alike ss ts a i in
        let x = cut_list m (base + i) ss in
        let y = cut_list n (base_there + i) ts in
        let k = all_cut_alike us ws b (i + length x.1) in
        let e : base + (i + length x.1) ≡ base + i + length x.1 = omega arith in
        let f : base_there + (i + length x.1) ≡ base_there + i + length y.1 = let long = cut_long x y r in omega (long, arith) in
        let other = subst (λ v. AlikeCut (cut_list m v us) (cut_list n (base_there + (i + length x.1)) ws)) e k in
        let there = subst (λ v. AlikeCut (cut_list m (base + i + length x.1) us) (cut_list n v ws)) f other in
        record {
          stmts = a_stmt (branches (guard_after g h c) r.stmts there.stmts) none_more;
          own = locals_both new_def new_own D Own x.1 y.1 (cut_list m (base + i + length x.1) us).1 (cut_list n (base_there + i + length y.1) ws).1 r.own there.own;
        }
    cut_alike _ _ (loops {g = g} {h = h} {is = is} {js = js} {ss = ss} {ts = ts} c v a) i =
        let r = all_cut_alike ss ts a i in
        record { stmts = a_stmt (loops (guard_after g h c) (invariants_after is js v) r.stmts) none_more; own = r.own }
    cut_alike _ _ (breaks {p = p} {q = q} {l = l}) i = lone (break p l) (break q l) breaks
    cut_alike _ _ (returns {p = p} {q = q}) i = lone (return p) (return q) returns
    cut_alike _ _ (jumps {p = p} {q = q} {ls = ls}) i = lone (goto p ls) (goto q ls) jumps
    cut_alike _ _ (labels {ls = ls} {s = s} {t = t} a) i = let r = cut_alike s t a i in record { stmts = labels_alike ls (cut_stmt m (base + i) s).0 (cut_stmt n (base_there + i) t).0 r.stmts; own = r.own }

    pub all_cut_alike : (ss ts : Stmts) → Befores ss ts → (i : ℕ) → AlikeCut (cut_list m (base + i) ss) (cut_list n (base_there + i) ts)
    all_cut_alike _ _ none_more i = record { stmts = none_more; own = no_locals }
    all_cut_alike _ _ (a_stmt {s = s} {t = t} {ss = ss} {ts = ts} a rest) i =
        let r = cut_alike s t a i in
        let x = cut_stmt m (base + i) s in
        let y = cut_stmt n (base_there + i) t in
        let k = all_cut_alike ss ts rest (i + length x.1) in
        let e : base + (i + length x.1) ≡ base + i + length x.1 = omega arith in
        let f : base_there + (i + length x.1) ≡ base_there + i + length y.1 = let long = cut_long x y r in omega (long, arith) in
        let other = subst (λ v. AlikeCut (cut_list m v ss) (cut_list n (base_there + (i + length x.1)) ts)) e k in
        let there = subst (λ v. AlikeCut (cut_list m (base + i + length x.1) ss) (cut_list n v ts)) f other in
        record {
          stmts = appended new_def new_own D Own NoCallee x.0 y.0 (cut_list m (base + i + length x.1) ss).0 (cut_list n (base_there + i + length y.1) ts).0 r.stmts there.stmts;
          own = locals_both new_def new_own D Own x.1 y.1 (cut_list m (base + i + length x.1) ss).1 (cut_list n (base_there + i + length y.1) ts).1 r.own there.own;
        }
