-- Obligations that rename one another, one to one, are one obligation once they have canonical numbers.
use Rattle.std.specs.Prelude.{◌≡◌, refl, ℕ, zero, suc, ◌+◌, ◌<◌, ◌≤◌, nat_eq, ◌||◌, Bool, true, false, cond, if◌then◌else◌, List, [], ◌∷◌, ◌++◌, map, length, fold, flat_map, slice_get, Some, option_map, unwrap_or}
use Rattle.std.specs.List.{AllByRecursion, list_any, position_from, cons_option}
use Rattle.std.proofs.Common.{ap, sym, subst, arith, ◌∙◌, true≢false}
use Rattle.std.proofs.lemmas.Bool.{eqb-true, eq-eqb}
use Rattle.std.proofs.lemmas.List.{map-append}
use Rattle.std.proofs.lemmas.Option.{slice_get_within}
use Rattle.logic_core.specs.Tree.{Tree, truth}
use Rattle.logic_core.specs.Def.{Def, Obligation}
use Rattle.logic_core.specs.Renamed.{both_renamed, def_renamed, EachHas}
use Rattle.logic_core.specs.Variables.{variables, calls, joined, first_occurrences, place_in}
use Rattle.logic_core.proofs.EachOf.{every_append, every_map}
use Rattle.obligation_text.specs.Numbering.{body, visited, definition_order, numbered_terms, variable_order}
use Rattle.obligation_text.specs.Canonical.{picked, renumbered, canonical}
use Rattle.obligation_text.proofs.RenamedTerms.{renamed_calls, each_renamed_calls, each_renamed_variables, renamed_twice}
use Rattle.obligation_text.proofs.Lists.{variables_have, calls_have}
use Rattle.obligation_text.proofs.Walk.{flat_from}

none_there : (xs : List ℕ) → AllByRecursion (λ n. ⊥) xs → xs ≡ []
none_there [] h = refl
none_there (x ∷ xs) h = absurd h.0

-- numbers with this property have new ones, one to one
module _ (new : ℕ → ℕ) (P : ℕ → Type 0) (one : (m n : ℕ) → P m → P n → new m ≡ new n → m ≡ n) where
  same_test : (m n : ℕ) → P m → P n → nat_eq (new m) (new n) ≡ nat_eq m n
  same_test m n h k = by (nat_eq m n) refl (nat_eq (new m) (new n)) refl
    where
      by : (a : Bool) → nat_eq m n ≡ a → (b : Bool) → nat_eq (new m) (new n) ≡ b → nat_eq (new m) (new n) ≡ nat_eq m n
      by true e true f = f ∙ sym e
      by true e false f = absurd (true≢false (sym (eq-eqb (new m) (new n) (ap new (eqb-true m n e))) ∙ f))
      by false e true f = absurd (true≢false (sym (eq-eqb m n (one m n h k (eqb-true (new m) (new n) f))) ∙ e))
      by false e false f = f ∙ sym e

  among_same : (n : ℕ) (ns : List ℕ) → P n → AllByRecursion P ns → list_any (nat_eq (new n)) (map new ns) ≡ list_any (nat_eq n) ns
  among_same n [] h k = refl
  among_same n (m ∷ ms) h k = λ j. same_test n m h k.0 j || among_same n ms h k.1 j

  pub position_same : (n i : ℕ) (ns : List ℕ) → P n → AllByRecursion P ns → position_from (nat_eq (new n)) i (map new ns) ≡ position_from (nat_eq n) i ns
  position_same n i [] h k = refl
  position_same n i (m ∷ ms) h k = λ j. cond (same_test n m h k.0 j) (Some i) (position_same n (i + 1) ms h k.1 j)

  pub place_same : (n : ℕ) (ns : List ℕ) → P n → AllByRecursion P ns → place_in (map new ns) (new n) ≡ place_in ns n
  place_same n ns h k = ap (λ o. unwrap_or o 0) (position_same n 0 ns h k)

  joined_same : (ns : List ℕ) (n : ℕ) → AllByRecursion P ns → P n → joined (map new ns) (new n) ≡ map new (joined ns n)
  joined_same ns n k h = ap (λ b. if b then map new ns else map new ns ++ new n ∷ []) (among_same n ns h k) ∙ by (list_any (nat_eq n) ns)
    where
      by : (b : Bool) → (if b then map new ns else map new ns ++ new n ∷ []) ≡ map new (if b then ns else ns ++ n ∷ [])
      by true = refl
      by false = sym (map-append new ns (n ∷ []))

  joined_has : (ns : List ℕ) (n : ℕ) → AllByRecursion P ns → P n → AllByRecursion P (joined ns n)
  joined_has ns n k h = by (list_any (nat_eq n) ns)
    where
      by : (b : Bool) → AllByRecursion P (if b then ns else ns ++ n ∷ [])
      by true = k
      by false = every_append P ns (n ∷ []) k (h, tt)

  -- in the order of their first occurrences
  first_same : (before ns : List ℕ) → AllByRecursion P before → AllByRecursion P ns → fold joined (map new before) (map new ns) ≡ map new (fold joined before ns)
  first_same before [] k h = refl
  first_same before (n ∷ ns) k h = ap (λ xs. fold joined xs (map new ns)) (joined_same before n k h.0) ∙ first_same (joined before n) ns (joined_has before n k h.0) h.1

  first_has : (before ns : List ℕ) → AllByRecursion P before → AllByRecursion P ns → AllByRecursion P (fold joined before ns)
  first_has before [] k h = k
  first_has before (n ∷ ns) k h = first_has (joined before n) ns (joined_has before n k h.0) h.1

-- over definitions and variables that are renamed: with these properties
module _ (new_def new_var : ℕ → ℕ) (D V : ℕ → Type 0)
    (one_def : (f g : ℕ) → D f → D g → new_def f ≡ new_def g → f ≡ g) (one_var : (u v : ℕ) → V u → V v → new_var u ≡ new_var v → u ≡ v) where
  -- definition f is there, at its new number it stands renamed, and in both lists it calls only definitions before it
  pub record Renames (ds es : List Def) (f : ℕ) : Type 0 where
    pub definition : Def
    pub old : slice_get ds f ≡ Some definition
    pub new : slice_get es (new_def f) ≡ Some (def_renamed new_def new_var definition)
    pub lower : EachHas V (λ g. D g × (g < f) × (new_def g < new_def f)) definition.body

  -- two walks go alike from an order, and so do their results
  pub record Alike (order next : List ℕ) : Type 0 where
    pub same : next ≡ map new_def order
    pub each : AllByRecursion D order

  module _ (ds es : List Def) (renames : (f : ℕ) → D f → Renames ds es f) where
    calls_old : (f : ℕ) (h : D f) → calls (body ds f) ≡ calls (renames f h).definition.body
    calls_old f h = ap (λ o. calls (unwrap_or (option_map (λ (d : Def). d.body) o) (truth true))) (renames f h).old

    calls_new : (f : ℕ) → D f → calls (body es (new_def f)) ≡ map new_def (calls (body ds f))
    calls_new f h =
        ap (λ o. calls (unwrap_or (option_map (λ (d : Def). d.body) o) (truth true))) (renames f h).new
        ∙ renamed_calls new_def new_var (renames f h).definition.body
        ∙ ap (map new_def) (sym (calls_old f h))

    lower_calls : (f : ℕ) → D f → AllByRecursion (λ g. D g × (g < f) × (new_def g < new_def f)) (calls (body ds f))
    lower_calls f h = subst (AllByRecursion (λ g. D g × (g < f) × (new_def g < new_def f))) (sym (calls_old f h)) (calls_have V (λ g. D g × (g < f) × (new_def g < new_def f)) (renames f h).definition.body (renames f h).lower)

    abbrev Steps : (List ℕ → ℕ → List ℕ) → (List ℕ → ℕ → List ℕ) → (ℕ → Type 0) → Type 0
    Steps step then_step P = (f : ℕ) → P f → (order next : List ℕ) → Alike order next → Alike (step order f) (then_step next (new_def f))

    folds : (step then_step : List ℕ → ℕ → List ℕ) (P : ℕ → Type 0) → Steps step then_step P → (gs : List ℕ) → AllByRecursion P gs → (order next : List ℕ) → Alike order next
        → Alike (fold step order gs) (fold then_step next (map new_def gs))
    folds step then_step P one [] h order next a = a
    folds step then_step P one (g ∷ gs) h order next a = folds step then_step P one gs h.1 (step order g) (then_step next (new_def g)) (one g h.0 order next a)

    joins : (f : ℕ) → D f → (order next : List ℕ) → Alike order next → Alike (joined order f) (joined next (new_def f))
    joins f h order next a = record {
      same = ap (λ ns. joined ns (new_def f)) a.same ∙ joined_same new_def D one_def order f a.each h;
      each = joined_has new_def D one_def order f a.each h;
    }

    -- a definition joins the order after those that are deeper, unless it is there
    chosen : (f : ℕ) → D f → (order next deep deeper : List ℕ) → Alike order next → Alike deep deeper
        → Alike (if list_any (nat_eq f) order then order else joined deep f) (if list_any (nat_eq (new_def f)) next then next else joined deeper (new_def f))
    chosen f h order next deep deeper a b =
        let test : list_any (nat_eq (new_def f)) next ≡ list_any (nat_eq f) order = ap (list_any (nat_eq (new_def f))) a.same ∙ among_same new_def D one_def f order h a.each in
        subst (λ t. Alike (if list_any (nat_eq f) order then order else joined deep f) (if t then next else joined deeper (new_def f))) (sym test) (by (list_any (nat_eq f) order))
      where
        by : (t : Bool) → Alike (if t then order else joined deep f) (if t then next else joined deeper (new_def f))
        by true = a
        by false = joins f h deep deeper b

    -- a number that is there already doesn't join again
    joined_twice : (ns : List ℕ) (n : ℕ) → joined ns n ≡ (if list_any (nat_eq n) ns then ns else joined ns n)
    joined_twice ns n = by (list_any (nat_eq n) ns)
      where
        by : (b : Bool) → (if b then ns else ns ++ n ∷ []) ≡ (if b then ns else (if b then ns else ns ++ n ∷ []))
        by true = refl
        by false = refl

    visits : (depth deeper : ℕ) (f : ℕ) → D f → f ≤ depth → new_def f ≤ deeper → (order next : List ℕ) → Alike order next → Alike (visited ds depth order f) (visited es deeper next (new_def f))
    visits zero zero f h p q order next a = joins f h order next a
    visits zero (suc e) f h p q order next a =
        let none : calls (body ds f) ≡ [] = none_there (calls (body ds f)) (every_map (λ g. D g × (g < f) × (new_def g < new_def f)) (λ g. ⊥) (λ g k. absurd (omega (p, k.1, arith))) (calls (body ds f)) (lower_calls f h)) in
        let there : fold (visited es e) next (calls (body es (new_def f))) ≡ next = ap (fold (visited es e) next) (calls_new f h ∙ ap (map new_def) none) in
        subst (λ xs. Alike (joined order f) (if list_any (nat_eq (new_def f)) next then next else joined xs (new_def f))) (sym there)
        (subst (Alike (joined order f)) (joined_twice next (new_def f)) (joins f h order next a))
    visits (suc d) zero f h p q order next a =
        let none : calls (body ds f) ≡ [] = none_there (calls (body ds f)) (every_map (λ g. D g × (g < f) × (new_def g < new_def f)) (λ g. ⊥) (λ g k. absurd (omega (q, k.2, arith))) (calls (body ds f)) (lower_calls f h)) in
        let here : fold (visited ds d) order (calls (body ds f)) ≡ order = ap (fold (visited ds d) order) none in
        subst (λ xs. Alike (if list_any (nat_eq f) order then order else joined xs f) (joined next (new_def f))) (sym here)
        (subst (λ xs. Alike xs (joined next (new_def f))) (joined_twice order f) (joins f h order next a))
    visits (suc d) (suc e) f h p q order next a =
        let each = every_map (λ g. D g × (g < f) × (new_def g < new_def f)) (λ g. D g × (g ≤ d) × (new_def g ≤ e)) (λ g k. (k.0, omega (p, k.1, arith), omega (q, k.2, arith))) (calls (body ds f)) (lower_calls f h) in
        let deep = folds (visited ds d) (visited es e) (λ g. D g × (g ≤ d) × (new_def g ≤ e)) (λ g k ns ms b. visits d e g k.0 k.1 k.2 ns ms b) (calls (body ds f)) each order next a in
        chosen f h order next (fold (visited ds d) order (calls (body ds f))) (fold (visited es e) next (calls (body es (new_def f)))) a
        (subst (λ gs. Alike (fold (visited ds d) order (calls (body ds f))) (fold (visited es e) next gs)) (sym (calls_new f h)) deep)

  -- an obligation and one that renames it
  module _ (o p : Obligation)
      (vars : (v : ℕ) → V v → slice_get p.vars (new_var v) ≡ slice_get o.vars v)
      (defs : (f : ℕ) → D f → Renames o.defs p.defs f)
      (axioms_covered : AllByRecursion (EachHas V D) o.axioms)
      (axioms : p.axioms ≡ map (both_renamed new_def new_var) o.axioms)
      (goal_covered : EachHas V D o.goal)
      (goal : p.goal ≡ both_renamed new_def new_var o.goal) where
    below_old : (f : ℕ) → D f → f ≤ length o.defs
    below_old f h = let r = defs f h in let k = slice_get_within o.defs f r.definition r.old in omega (k, arith)

    below_new : (f : ℕ) → D f → new_def f ≤ length p.defs
    below_new f h = let r = defs f h in let k = slice_get_within p.defs (new_def f) (def_renamed new_def new_var r.definition) r.new in omega (k, arith)

    pub order_alike : Alike (definition_order o) (definition_order p)
    order_alike =
        let gs = flat_map calls (o.goal ∷ o.axioms) in
        let same : flat_map calls (p.goal ∷ p.axioms) ≡ map new_def gs = (λ i. flat_map calls (goal i ∷ axioms i)) ∙ each_renamed_calls new_def new_var (o.goal ∷ o.axioms) in
        let each : AllByRecursion D gs = flat_from D calls (o.goal ∷ o.axioms) (calls_have V D o.goal goal_covered, every_map (EachHas V D) (λ t. AllByRecursion D (calls t)) (calls_have V D) o.axioms axioms_covered) in
        subst (λ ns. Alike (definition_order o) (fold (visited p.defs (length p.defs)) [] ns)) (sym same)
        (folds o.defs p.defs defs (visited o.defs (length o.defs)) (visited p.defs (length p.defs)) D
        (λ f h ns ms b. visits o.defs p.defs defs (length o.defs) (length p.defs) f h (below_old f h) (below_new f h) ns ms b) gs each [] [] (record { same = refl; each = tt }))

    body_new : (f : ℕ) → D f → body p.defs (new_def f) ≡ both_renamed new_def new_var (body o.defs f)
    body_new f h =
        ap (λ x. unwrap_or (option_map (λ (d : Def). d.body) x) (truth true)) (defs f h).new
        ∙ sym (ap (λ x. both_renamed new_def new_var (unwrap_or (option_map (λ (d : Def). d.body) x) (truth true))) (defs f h).old)

    bodies_new : (fs : List ℕ) → AllByRecursion D fs → map (body p.defs) (map new_def fs) ≡ map (both_renamed new_def new_var) (map (body o.defs) fs)
    bodies_new [] h = refl
    bodies_new (f ∷ fs) h = λ i. body_new f h.0 i ∷ bodies_new fs h.1 i

    terms_same : (fs : List ℕ) → AllByRecursion D fs → numbered_terms p (map new_def fs) ≡ map (both_renamed new_def new_var) (numbered_terms o fs)
    terms_same fs h =
        (λ i. (bodies_new fs h i ++ axioms i) ++ goal i ∷ [])
        ∙ sym (map-append (both_renamed new_def new_var) (map (body o.defs) fs ++ o.axioms) (o.goal ∷ [])
        ∙ ap (λ xs. xs ++ both_renamed new_def new_var o.goal ∷ []) (map-append (both_renamed new_def new_var) (map (body o.defs) fs) o.axioms))

    body_variables : (f : ℕ) → D f → AllByRecursion V (variables (body o.defs f))
    body_variables f h =
        let r = defs f h in
        subst (λ t. AllByRecursion V (variables t)) (sym (ap (λ x. unwrap_or (option_map (λ (d : Def). d.body) x) (truth true)) r.old))
        (variables_have V (λ g. D g × (g < f) × (new_def g < new_def f)) r.definition.body r.lower)

    bodies_variables : (fs : List ℕ) → AllByRecursion D fs → AllByRecursion (λ t. AllByRecursion V (variables t)) (map (body o.defs) fs)
    bodies_variables [] h = tt
    bodies_variables (f ∷ fs) h = (body_variables f h.0, bodies_variables fs h.1)

    terms_variables : (fs : List ℕ) → AllByRecursion D fs → AllByRecursion V (flat_map variables (numbered_terms o fs))
    terms_variables fs h =
        flat_from V variables (numbered_terms o fs)
        (every_append (λ t. AllByRecursion V (variables t)) (map (body o.defs) fs ++ o.axioms) (o.goal ∷ [])
        (every_append (λ t. AllByRecursion V (variables t)) (map (body o.defs) fs) o.axioms (bodies_variables fs h) (every_map (EachHas V D) (λ t. AllByRecursion V (variables t)) (variables_have V D) o.axioms axioms_covered))
        (variables_have V D o.goal goal_covered, tt))

    pub variables_same : (fs : List ℕ) → AllByRecursion D fs → variable_order p (map new_def fs) ≡ map new_var (variable_order o fs)
    variables_same fs h =
        ap (first_occurrences []) (ap (flat_map variables) (terms_same fs h) ∙ each_renamed_variables new_def new_var (numbered_terms o fs))
        ∙ first_same new_var V one_var [] (flat_map variables (numbered_terms o fs)) tt (terms_variables fs h)

    variables_each : (fs : List ℕ) → AllByRecursion D fs → AllByRecursion V (variable_order o fs)
    variables_each fs h = first_has new_var V one_var [] (flat_map variables (numbered_terms o fs)) tt (terms_variables fs h)

    picked_vars : (vs : List ℕ) → AllByRecursion V vs → picked p.vars (map new_var vs) ≡ picked o.vars vs
    picked_vars [] h = refl
    picked_vars (v ∷ vs) h = λ i. cons_option (vars v h.0 i) (picked_vars vs h.1 i)

    module _ (fs : List ℕ) (hfs : AllByRecursion D fs) (vs : List ℕ) (hvs : AllByRecursion V vs) where
      abbrev then_def : ℕ → ℕ
      then_def = place_in (map new_def fs)

      abbrev then_var : ℕ → ℕ
      then_var = place_in (map new_var vs)

      term_again : (C : ℕ → Type 0) → ((f : ℕ) → C f → D f) → (t : Tree) → EachHas V C t → both_renamed then_def then_var (both_renamed new_def new_var t) ≡ both_renamed (place_in fs) (place_in vs) t
      term_again C has t h =
          renamed_twice new_def new_var then_def then_var (place_in fs) (place_in vs) V C
          (λ v k. place_same new_var V one_var v vs k hvs) (λ f k. place_same new_def D one_def f fs (has f k) hfs) t h

      terms_again : (ts : List Tree) → AllByRecursion (EachHas V D) ts → map (both_renamed then_def then_var) (map (both_renamed new_def new_var) ts) ≡ map (both_renamed (place_in fs) (place_in vs)) ts
      terms_again [] h = refl
      terms_again (t ∷ ts) h = λ i. term_again D (λ f k. k) t h.0 i ∷ terms_again ts h.1 i

      defs_again : (gs : List ℕ) → AllByRecursion D gs → map (def_renamed then_def then_var) (picked p.defs (map new_def gs)) ≡ map (def_renamed (place_in fs) (place_in vs)) (picked o.defs gs)
      defs_again [] h = refl
      defs_again (g ∷ gs) h =
          let r = defs g h.0 in
          let d = r.definition in
          let again = term_again (λ f. D f × (f < g) × (new_def f < new_def g)) (λ f k. k.0) d.body r.lower in
          let rest = defs_again gs h.1 in
          ap (λ x. map (def_renamed then_def then_var) (cons_option x (picked p.defs (map new_def gs)))) r.new
          ∙ (λ i. record { params = d.params; sort = d.sort; logical = d.logical; body = again i } ∷ rest i)
          ∙ sym (ap (λ x. map (def_renamed (place_in fs) (place_in vs)) (cons_option x (picked o.defs gs))) r.old)

      again : renumbered then_def then_var (map new_def fs) (map new_var vs) p ≡ renumbered (place_in fs) (place_in vs) fs vs o
      again =
          let all = ap (map (both_renamed then_def then_var)) axioms ∙ terms_again o.axioms axioms_covered in
          let last = ap (both_renamed then_def then_var) goal ∙ term_again D (λ f k. k) o.goal goal_covered in
          λ i. record { vars = picked_vars vs hvs i; defs = defs_again fs hfs i; axioms = all i; goal = last i }

    pub same_canonical : canonical p ≡ canonical o
    same_canonical =
        let a = order_alike in
        let fs = definition_order o in
        let vs = variable_order o fs in
        let vars_same : variable_order p (definition_order p) ≡ map new_var vs = ap (variable_order p) a.same ∙ variables_same fs a.each in
        (λ i. renumbered (place_in (a.same i)) (place_in (vars_same i)) (a.same i) (vars_same i) p)
        ∙ again fs a.each vs (variables_each fs a.each)
