-- Passive graphs that rename one another, one to one, have the same obligations.
use Rattle.std.specs.Prelude.{◌≡◌, refl, ◌⊎◌, ℕ, zero, suc, ◌+◌, ◌-◌, ◌<◌, ◌≤◌, nat_eq, nat_lt, Bool, true, false, cond, List, [], ◌∷◌, ◌++◌, map, length, take, filter, reverse, position, slice_get, Option, Some, None, option_map, unwrap_or, ◌==◌}
use Rattle.std.specs.List.{AllByRecursion, list_any, position_from}
use Rattle.std.proofs.Common.{ap, sym, subst, arith, ◌∙◌}
use Rattle.std.proofs.lemmas.Bool.Decides.{nat_tests}
use Rattle.std.proofs.lemmas.Iterator.Adapters.{position_from-zero}
use Rattle.std.proofs.lemmas.List.{map-append, take-map}
use Rattle.std.proofs.lemmas.Option.{slice_get-map, slice_get_within}
use mathlib.Core.Logic.{inl, inr}
use Rattle.logic_core.specs.Tree.{Tree, truth, call, negation, all, some, no_trees}
use Rattle.logic_core.specs.View.{trees_of}
use Rattle.logic_core.specs.Def.{Def, Obligation}
use Rattle.logic_core.specs.WellSorted.{IsWellSorted}
use Rattle.logic_core.specs.Variables.{calls}
use Rattle.logic_core.specs.Renamed.{both_renamed, def_renamed, EachHas, EachInTrees}
use Rattle.logic_core.proofs.Mentioned.{as_it_stands}
use Rattle.logic_core.proofs.EachOf.{every_map}
use Rattle.logic_laws.proofs.RenamedVariables.{renames_nothing}
use Rattle.logic_laws.proofs.SortedNumbers.{HasVariable, HasDefinition, mentions_there, there_in_front, body_is_sorted}
use Rattle.flow_core.specs.declared.command.Command.{Command}
use Rattle.passive_form.specs.declared.passive.Passive.{Passive}
use Rattle.passive_form.specs.Passive.{passive_block_at, formula_in, formulas}
use Rattle.block_wp.specs.Equations.{reaching_from, reaching, block_call, conjunction, successors, negations, block_equation, formula_of, assertion_equation, block_definition, body_of}
use Rattle.obligation_text.proofs.Lists.{variables_have, calls_have}
use Rattle.vc_build.specs.Goals.{sequent_at, obligation_at}
use Rattle.obligation_text.specs.Canonical.{canonical}
use Rattle.quantifier_triggers.specs.Choice.{obligation_with_triggers}
use Rattle.obligation_text.proofs.RenamedTerms.{renamed_twice, each_more}
use Rattle.rebuild_laws.proofs.RenamedTriggers.{trees_renamed}
use Rattle.rebuild_laws.proofs.SameAfterTriggers.{RenamesIn, same_after_triggers}

lower_test : (m n : ℕ) → m < n → nat_lt m n ≡ true
lower_test m n h = grind (arith, nat_tests, h)

higher_test : (m n : ℕ) → n ≤ m → nat_lt m n ≡ false
higher_test m n h = grind (arith, nat_tests, h)

slice_left : {A : Type 0} (xs ys : List A) (n : ℕ) → n < length xs → slice_get (xs ++ ys) n ≡ slice_get xs n
slice_left [] ys n h = absurd (omega (h, arith))
slice_left (x ∷ xs) ys zero h = refl
slice_left (x ∷ xs) ys (suc n) h = slice_left xs ys n (omega (h, arith))

slice_right : {A : Type 0} (xs ys : List A) (n : ℕ) → slice_get (xs ++ ys) (length xs + n) ≡ slice_get ys n
slice_right [] ys n = let e : 0 + n ≡ n = omega arith in ap (slice_get ys) e
slice_right (x ∷ xs) ys n = let e : suc (length xs) + n ≡ suc (length xs + n) = omega arith in ap (slice_get (x ∷ xs ++ ys)) e ∙ slice_right xs ys n

there_from : {A : Type 0} (xs : List A) (n : ℕ) → n < length xs → (x : A) × (slice_get xs n ≡ Some x)
there_from [] n h = absurd (omega (h, arith))
there_from (x ∷ xs) zero h = (x, refl)
there_from (x ∷ xs) (suc n) h = there_from xs n (omega (h, arith))

-- a place in a list, or else its first, is within it
place_within : (c i : ℕ) (xs : List ℕ) → 0 < i + length xs → unwrap_or (position_from (nat_eq c) i xs) 0 < i + length xs
place_within c i [] h = h
place_within c i (x ∷ xs) h = by (nat_eq c x) (place_within c (i + 1) xs (omega (h, arith)))
  where
    by : (b : Bool) → unwrap_or (position_from (nat_eq c) (i + 1) xs) 0 < (i + 1) + length xs → unwrap_or (cond b (Some i) (position_from (nat_eq c) (i + 1) xs)) 0 < i + length (x ∷ xs)
    by true k = omega arith
    by false k = omega (k, arith)

found_formula : (o : Option Command) → formula_of o ≡ unwrap_or (option_map formula_in o) (truth true)
found_formula None = refl
found_formula (Some c) = refl

both_lists : (P Q : ℕ → Type 0) (xs : List ℕ) → AllByRecursion P xs → AllByRecursion Q xs → AllByRecursion (λ x. P x × Q x) xs
both_lists P Q [] h k = tt
both_lists P Q (x ∷ xs) h k = ((h.0, k.0), both_lists P Q xs h.1 k.1)

both_have : (V W P Q : ℕ → Type 0) (t : Tree) → EachHas V P t → EachHas W Q t → EachHas V (λ f. P f × Q f) t
both_have V W P Q t h k = as_it_stands V (λ f. P f × Q f) t (variables_have V P t h, both_lists P Q (calls t) (calls_have V P t h) (calls_have W Q t k))

-- terms that are made of others
module _ (new_def new_var : ℕ → ℕ) where
  abbrev renew : Tree → Tree
  renew t = both_renamed new_def new_var t

  negations_renewed : (ts : List Tree) → map renew (negations ts) ≡ negations (map renew ts)
  negations_renewed [] = refl
  negations_renewed (t ∷ ts) = ap (λ us. negation (renew t) ∷ us) (negations_renewed ts)

  pub equation_renewed : (ts : List Tree) (t : Tree) → renew (block_equation ts t) ≡ block_equation (map renew ts) (renew t)
  equation_renewed ts t =
      ap some (sym (trees_renamed new_def new_var (negations ts ++ t ∷ [])))
      ∙ ap (λ us. some (trees_of us)) (map-append renew (negations ts) (t ∷ []) ∙ ap (λ us. us ++ renew t ∷ []) (negations_renewed ts))

  pub conjunction_renewed : (ts : List Tree) → renew (conjunction ts) ≡ conjunction (map renew ts)
  conjunction_renewed [] = refl
  conjunction_renewed (t ∷ []) = refl
  conjunction_renewed (t ∷ u ∷ ts) = ap all (sym (trees_renamed new_def new_var (t ∷ u ∷ ts)))

-- what made terms have
module _ (V C : ℕ → Type 0) where
  list_has : (ts : List Tree) → AllByRecursion (EachHas V C) ts → EachInTrees V C (trees_of ts)
  list_has [] h = tt
  list_has (t ∷ ts) h = (h.0, list_has ts h.1)

  negated_has : (ts : List Tree) (t : Tree) → AllByRecursion (EachHas V C) ts → EachHas V C t → EachInTrees V C (trees_of (negations ts ++ t ∷ []))
  negated_has [] t h k = (k, tt)
  negated_has (u ∷ us) t h k = (h.0, negated_has us t h.1 k)

  conjunction_has : (ts : List Tree) → AllByRecursion (EachHas V C) ts → EachHas V C (conjunction ts)
  conjunction_has [] h = tt
  conjunction_has (t ∷ []) h = h.0
  conjunction_has (t ∷ u ∷ ts) h = list_has (t ∷ u ∷ ts) h

  taken_has : (n : ℕ) (ts : List Tree) → AllByRecursion (EachHas V C) ts → AllByRecursion (EachHas V C) (take n ts)
  taken_has zero ts h = tt
  taken_has (suc n) [] h = tt
  taken_has (suc n) (t ∷ ts) h = (h.0, taken_has n ts h.1)

  found_has : (n : ℕ) (ts : List Tree) → AllByRecursion (EachHas V C) ts → EachHas V C (unwrap_or (slice_get ts n) (truth true))
  found_has n [] h = tt
  found_has zero (t ∷ ts) h = h.0
  found_has (suc n) (t ∷ ts) h = found_has n ts h.1

grown : (g : Passive) (n : ℕ) (bs : List ℕ) → 0 < length bs → 0 < length (reaching_from g n bs)
grown g zero bs h = h
grown g (suc n) bs h = grown g n (cond (list_any (λ x. list_any (λ y. y == x) (passive_block_at g.blocks n).next) bs) (bs ++ n ∷ []) bs) (by (list_any (λ x. list_any (λ y. y == x) (passive_block_at g.blocks n).next) bs) bs h)
  where
    by : (b : Bool) (bs : List ℕ) → 0 < length bs → 0 < length (cond b (bs ++ n ∷ []) bs)
    by true [] k = absurd (omega (k, arith))
    by true (x ∷ xs) k = omega arith
    by false bs k = k

module _ (new_def new_var old_def old_var : ℕ → ℕ) (D V : ℕ → Type 0) (back_def : (f : ℕ) → D f → old_def (new_def f) ≡ f) (back_var : (v : ℕ) → V v → old_var (new_var v) ≡ v)
    (g h : Passive) (ds es : List Def) (xs ys : List Tree)
    (vars : (v : ℕ) → V v → slice_get h.vars (new_var v) ≡ slice_get g.vars v)
    (defs : (f : ℕ) → D f → RenamesIn new_def new_var old_def old_var D V back_def back_var ds es f)
    (axioms_covered : AllByRecursion (EachHas V D) xs)
    (axioms : ys ≡ map (both_renamed new_def new_var) xs)
    (next : (b : ℕ) → (passive_block_at h.blocks b).next ≡ (passive_block_at g.blocks b).next)
    (made : (b : ℕ) → formulas (passive_block_at h.blocks b).commands ≡ map (both_renamed new_def new_var) (formulas (passive_block_at g.blocks b).commands))
    (covered : (b : ℕ) → AllByRecursion (EachHas V D) (formulas (passive_block_at g.blocks b).commands)) where
  reached_same : (n : ℕ) (bs : List ℕ) → reaching_from h n bs ≡ reaching_from g n bs
  reached_same zero bs = refl
  reached_same (suc n) bs =
      ap (λ ns. reaching_from h n (cond (list_any (λ x. list_any (λ y. y == x) ns) bs) (bs ++ n ∷ []) bs)) (next n)
      ∙ reached_same n (cond (list_any (λ x. list_any (λ y. y == x) (passive_block_at g.blocks n).next) bs) (bs ++ n ∷ []) bs)

  module _ (k at : ℕ) (sorted : IsWellSorted (sequent_at g ds xs k at)) where
    abbrev rs : List ℕ
    rs = reaching g k

    abbrev Block : ℕ → Type 0
    Block f = (length ds ≤ f) × (f < length ds + length rs)

    abbrev Each : ℕ → Type 0
    Each f = D f ⊎ Block f

    -- the given definitions have the numbers that they had, and the blocks' come behind
    abbrev new : ℕ → ℕ
    new f = cond (nat_lt f (length ds)) (new_def f) (length es + (f - length ds))

    abbrev old : ℕ → ℕ
    old f = cond (nat_lt f (length es)) (old_def f) (length ds + (f - length es))

    below : (f : ℕ) → D f → f < length ds
    below f d = slice_get_within ds f (defs f d).definition (defs f d).old

    above : (f : ℕ) → D f → new_def f < length es
    above f d = slice_get_within es (new_def f) (def_renamed new_def new_var (defs f d).definition) (defs f d).new

    new_first : (f : ℕ) → D f → new f ≡ new_def f
    new_first f d = ap (λ b. cond b (new_def f) (length es + (f - length ds))) (lower_test f (length ds) (below f d))

    new_later : (f : ℕ) → length ds ≤ f → new f ≡ length es + (f - length ds)
    new_later f p = ap (λ b. cond b (new_def f) (length es + (f - length ds))) (higher_test f (length ds) p)

    back : (f : ℕ) → Each f → old (new f) ≡ f
    back f (inl d) = ap old (new_first f d) ∙ ap (λ b. cond b (old_def (new_def f)) (length ds + (new_def f - length es))) (lower_test (new_def f) (length es) (above f d)) ∙ back_def f d
    back f (inr b) =
        let m = length es + (f - length ds) in
        let e : length ds + (m - length es) ≡ f = omega (b.0, arith) in
        ap old (new_later f b.0) ∙ ap (λ c. cond c (old_def m) (length ds + (m - length es))) (higher_test m (length es) (omega arith)) ∙ e

    each_first : (t : Tree) → EachHas V D t → EachHas V Each t
    each_first t c = each_more V D V Each (λ v q. q) (λ f q. inl q) t c

    term_first : (t : Tree) → EachHas V D t → both_renamed new new_var t ≡ both_renamed new_def new_var t
    term_first t c = ap (both_renamed new new_var) (sym (renames_nothing t)) ∙ renamed_twice (λ f. f) (λ v. v) new new_var new_def new_var V D (λ v q. refl) new_first t c

    terms_first : (ts : List Tree) → AllByRecursion (EachHas V D) ts → map (both_renamed new new_var) ts ≡ map (both_renamed new_def new_var) ts
    terms_first [] c = refl
    terms_first (t ∷ ts) c = λ i. term_first t c.0 i ∷ terms_first ts c.1 i

    abbrev made_of : ℕ → List Tree
    made_of b = formulas (passive_block_at g.blocks b).commands

    made_new : (b : ℕ) → formulas (passive_block_at h.blocks b).commands ≡ map (both_renamed new new_var) (made_of b)
    made_new b = made b ∙ sym (terms_first (made_of b) (covered b))

    call_new : (c : ℕ) → both_renamed new new_var (block_call (length ds) rs c) ≡ block_call (length es) rs c
    call_new c =
        let p = unwrap_or (position (nat_eq c) rs) 0 in
        let e : length es + ((length ds + p) - length ds) ≡ length es + p = omega arith in
        ap (λ f. call f no_trees) (new_later (length ds + p) (omega arith) ∙ e)

    calls_new : (cs : List ℕ) → map (both_renamed new new_var) (map (block_call (length ds) rs) cs) ≡ map (block_call (length es) rs) cs
    calls_new [] = refl
    calls_new (c ∷ cs) = λ i. call_new c i ∷ calls_new cs i

    successors_new : (b : ℕ) → successors (length es) rs (passive_block_at h.blocks b) ≡ both_renamed new new_var (successors (length ds) rs (passive_block_at g.blocks b))
    successors_new b =
        ap (λ ns. conjunction (map (block_call (length es) rs) (filter (λ x. list_any (λ y. y == x) ns) (reverse rs)))) (next b)
        ∙ ap conjunction (sym (calls_new (filter (λ x. list_any (λ y. y == x) (passive_block_at g.blocks b).next) (reverse rs))))
        ∙ sym (conjunction_renewed new new_var (map (block_call (length ds) rs) (filter (λ x. list_any (λ y. y == x) (passive_block_at g.blocks b).next) (reverse rs))))

    assertion_new : (b : ℕ) → assertion_equation (passive_block_at h.blocks b) at ≡ both_renamed new new_var (assertion_equation (passive_block_at g.blocks b) at)
    assertion_new b =
        let mine = (passive_block_at g.blocks b).commands in
        let theirs = (passive_block_at h.blocks b).commands in
        let before : formulas (take at theirs) ≡ map (both_renamed new new_var) (formulas (take at mine))
        = sym (take-map formula_in at theirs) ∙ ap (take at) (made_new b) ∙ take-map (both_renamed new new_var) at (made_of b) ∙ ap (map (both_renamed new new_var)) (take-map formula_in at mine) in
        let there : formula_of (slice_get theirs at) ≡ both_renamed new new_var (formula_of (slice_get mine at))
        = found_formula (slice_get theirs at) ∙ ap (λ o. unwrap_or o (truth true)) (sym (slice_get-map formula_in theirs at) ∙ ap (λ ts. slice_get ts at) (made_new b) ∙ slice_get-map (both_renamed new new_var) (made_of b) at)
        ∙ renewed (slice_get (made_of b) at) ∙ ap (λ o. both_renamed new new_var (unwrap_or o (truth true))) (slice_get-map formula_in mine at) ∙ ap (both_renamed new new_var) (sym (found_formula (slice_get mine at))) in
        (λ i. block_equation (before i) (there i)) ∙ sym (equation_renewed new new_var (formulas (take at mine)) (formula_of (slice_get mine at)))
      where
        renewed : (o : Option Tree) → unwrap_or (option_map (both_renamed new new_var) o) (truth true) ≡ both_renamed new new_var (unwrap_or o (truth true))
        renewed None = refl
        renewed (Some t) = refl

    body_new : (b : ℕ) → body_of h (length es) rs k at b ≡ both_renamed new new_var (body_of g (length ds) rs k at b)
    body_new b =
        let later : block_equation (formulas (passive_block_at h.blocks b).commands) (successors (length es) rs (passive_block_at h.blocks b)) ≡ both_renamed new new_var (block_equation (made_of b) (successors (length ds) rs (passive_block_at g.blocks b)))
        = (λ i. block_equation (made_new b i) (successors_new b i)) ∙ sym (equation_renewed new new_var (made_of b) (successors (length ds) rs (passive_block_at g.blocks b))) in
        (λ i. cond (nat_eq b k) (assertion_new b i) (later i)) ∙ by (nat_eq b k)
      where
        by : (c : Bool) → cond c (both_renamed new new_var (assertion_equation (passive_block_at g.blocks b) at)) (both_renamed new new_var (block_equation (made_of b) (successors (length ds) rs (passive_block_at g.blocks b))))
            ≡ both_renamed new new_var (cond c (assertion_equation (passive_block_at g.blocks b) at) (block_equation (made_of b) (successors (length ds) rs (passive_block_at g.blocks b))))
        by true = refl
        by false = refl

    some_reached : 0 < length rs
    some_reached = grown g k (k ∷ []) (omega arith)

    call_covered : (c : ℕ) → Each (length ds + unwrap_or (position (nat_eq c) rs) 0)
    call_covered c = let p : unwrap_or (position (nat_eq c) rs) 0 < 0 + length rs = subst (λ o. unwrap_or o 0 < 0 + length rs) (sym (position_from-zero (nat_eq c) rs)) (place_within c 0 rs (omega (some_reached, arith))) in inr (omega arith, omega (p, arith))

    calls_covered : (cs : List ℕ) → AllByRecursion (EachHas V Each) (map (block_call (length ds) rs) cs)
    calls_covered [] = tt
    calls_covered (c ∷ cs) = ((call_covered c, tt), calls_covered cs)

    made_covered : (b : ℕ) → AllByRecursion (EachHas V Each) (made_of b)
    made_covered b = every_map (EachHas V D) (EachHas V Each) each_first (made_of b) (covered b)

    assertion_covered : (b : ℕ) → EachHas V Each (assertion_equation (passive_block_at g.blocks b) at)
    assertion_covered b =
        let mine = (passive_block_at g.blocks b).commands in
        let before = subst (AllByRecursion (EachHas V Each)) (take-map formula_in at mine) (taken_has V Each at (made_of b) (made_covered b)) in
        let there = subst (EachHas V Each) (ap (λ o. unwrap_or o (truth true)) (slice_get-map formula_in mine at) ∙ sym (found_formula (slice_get mine at))) (found_has V Each at (made_of b) (made_covered b)) in
        negated_has V Each (formulas (take at mine)) (formula_of (slice_get mine at)) before there

    body_covered : (b : ℕ) → EachHas V Each (body_of g (length ds) rs k at b)
    body_covered b = by (nat_eq b k)
      where
        by : (c : Bool) → EachHas V Each (cond c (assertion_equation (passive_block_at g.blocks b) at) (block_equation (made_of b) (successors (length ds) rs (passive_block_at g.blocks b))))
        by true = assertion_covered b
        by false = negated_has V Each (made_of b) (successors (length ds) rs (passive_block_at g.blocks b)) (made_covered b)
            (conjunction_has V Each (map (block_call (length ds) rs) (filter (λ x. list_any (λ y. y == x) (passive_block_at g.blocks b).next) (reverse rs))) (calls_covered (filter (λ x. list_any (λ y. y == x) (passive_block_at g.blocks b).next) (reverse rs))))

    abbrev mine : ℕ → Def
    mine b = block_definition (body_of g (length ds) rs k at b)

    abbrev theirs : ℕ → Def
    theirs b = block_definition (body_of h (length es) rs k at b)

    abbrev Lower : ℕ → ℕ → Type 0
    Lower f c = Each c × (c < f) × (new c < new f)

    lower_first : (f : ℕ) (d : D f) (c : ℕ) → D c × (c < f) × (new_def c < new_def f) → Lower f c
    lower_first f d c q = (inl q.0, q.1, let a = new_first c q.0 in let b = new_first f d in omega (a, b, q.2, arith))

    lower_later : (f : ℕ) → Block f → (c : ℕ) → Each c × (c < f) → Lower f c
    lower_later f b c q = (q.0, q.1, by q.0)
      where
        by : Each c → new c < new f
        by (inl d) = let a = new_first c d in let e = new_later f b.0 in let under = above c d in omega (a, e, under, arith)
        by (inr n) = let a = new_later c n.0 in let e = new_later f b.0 in omega (a, e, q.1, n.0, b.0, arith)

    renames : (f : ℕ) → Each f → RenamesIn new new_var old old_var Each V back back_var (ds ++ map mine rs) (es ++ map theirs rs) f
    renames f (inl d) =
        let r = defs f d in
        let x = r.definition in
        let again = term_first x.body (each_more V (λ c. D c × (c < f) × (new_def c < new_def f)) V D (λ v q. q) (λ c q. q.0) x.body r.lower) in
        record {
          definition = x;
          old = slice_left ds (map mine rs) f (below f d) ∙ r.old;
          new = ap (slice_get (es ++ map theirs rs)) (new_first f d) ∙ slice_left es (map theirs rs) (new_def f) (above f d) ∙ r.new ∙ (λ i. Some (record { params = x.params; sort = x.sort; logical = x.logical; body = sym again i }));
          lower = each_more V (λ c. D c × (c < f) × (new_def c < new_def f)) V (Lower f) (λ v q. q) (lower_first f d) x.body r.lower;
        }
    renames f (inr b) =
        let i = f - length ds in
        let at_place = there_from rs i (omega (b.0, b.1, arith)) in
        let x = at_place.0 in
        let is : f ≡ length ds + i = omega (b.0, arith) in
        let old_is : slice_get (ds ++ map mine rs) f ≡ Some (mine x) = ap (slice_get (ds ++ map mine rs)) is ∙ slice_right ds (map mine rs) i ∙ slice_get-map mine rs i ∙ ap (option_map mine) at_place.1 in
        let less = each_more (HasVariable g.vars (take f (ds ++ map mine rs))) (HasDefinition g.vars (take f (ds ++ map mine rs))) (λ v. Unit {0}) (λ c. c < f) (λ v q. tt) (λ c q. (there_in_front (ds ++ map mine rs) f c q).0) (mine x).body
        (mentions_there g.vars (take f (ds ++ map mine rs)) (mine x).body (reverse (mine x).params) (body_is_sorted g.vars (ds ++ map mine rs) f (mine x) sorted.definitions old_is)) in
        record {
          definition = mine x;
          old = old_is;
          new = ap (slice_get (es ++ map theirs rs)) (new_later f b.0) ∙ slice_right es (map theirs rs) i ∙ slice_get-map theirs rs i ∙ ap (option_map theirs) at_place.1 ∙ (λ j. Some (block_definition (body_new x j)));
          lower = each_more V (λ c. Each c × (c < f)) V (Lower f) (λ v q. q) (lower_later f b) (mine x).body (both_have V (λ v. Unit {0}) Each (λ c. c < f) (mine x).body (body_covered x) less);
        }

    goal_new : cond (list_any (λ y. y == 0) rs) (block_call (length es) rs 0) (truth true) ≡ both_renamed new new_var (cond (list_any (λ y. y == 0) rs) (block_call (length ds) rs 0) (truth true))
    goal_new = by (list_any (λ y. y == 0) rs)
      where
        by : (b : Bool) → cond b (block_call (length es) rs 0) (truth true) ≡ both_renamed new new_var (cond b (block_call (length ds) rs 0) (truth true))
        by true = sym (call_new 0)
        by false = refl

    goal_covered : EachHas V Each (cond (list_any (λ y. y == 0) rs) (block_call (length ds) rs 0) (truth true))
    goal_covered = by (list_any (λ y. y == 0) rs)
      where
        by : (b : Bool) → EachHas V Each (cond b (block_call (length ds) rs 0) (truth true))
        by true = (call_covered 0, tt)
        by false = tt

    abbrev theirs_over : List ℕ → Obligation
    theirs_over bs = record {
      vars = h.vars;
      defs = es ++ map (λ b. block_definition (body_of h (length es) bs k at b)) bs;
      axioms = ys;
      goal = cond (list_any (λ y. y == 0) bs) (block_call (length es) bs 0) (truth true);
    }

    pub obligation_same : obligation_at h es ys k at ≡ obligation_at g ds xs k at
    obligation_same =
        ap (λ bs. canonical (obligation_with_triggers (theirs_over bs))) (reached_same k (k ∷ []))
        ∙ same_after_triggers new new_var old old_var Each V back back_var (sequent_at g ds xs k at) (theirs_over rs) vars renames
        (every_map (EachHas V D) (EachHas V Each) each_first xs axioms_covered) (axioms ∙ sym (terms_first xs axioms_covered)) goal_covered goal_new
