-- Numbers of variables of two modules: constants, globals and entry values that are reached have new ones, and parameters and locals come behind.
use Rattle.std.specs.Prelude.{◌≡◌, refl, ◌⊎◌, ℕ, ◌+◌, ◌-◌, ◌<◌, ◌≤◌, ◌==◌, nat_lt, ◌||◌, Bool, true, false, IsTrue, List, [], ◌∷◌, ◌++◌, map, length, filter, slice_get, Some, option_map}
use Rattle.std.specs.List.{AllByRecursion, list_any, range_with_len}
use Rattle.std.proofs.Common.{ap, sym, subst, arith, ◌∙◌, true≢false}
use Rattle.std.proofs.lemmas.Bool.{eqb-true, eq-eqb}
use Rattle.std.proofs.lemmas.Bool.Decides.{nat_tests}
use Rattle.std.proofs.lemmas.List.{length-map}
use Rattle.std.proofs.lemmas.Option.{slice_get-map}
use mathlib.Core.Logic.{inl, inr}
use Rattle.logic_core.specs.Tree.{Kind}
use Rattle.bpl_model.specs.Module.{Global, Module}
use Rattle.bpl_model.specs.Numbering.{const_sorts, global_sorts, first_global, first_entry, first_in}
use Rattle.rebuild_laws.proofs.InOrder.{InOrder}
use Rattle.rebuild_laws.proofs.Ranges.{lower_so, higher_so, filter_agree, filtered_pass, filter_keeps, range_each, slice_before, slice_behind}
use Rattle.rebuild_laws.specs.Numbers.{new_all, old_all, reads?, reads_there?, Reads, Low, LowNumbers, GlobalsAlike}

pub below : (a b : ℕ) → (a < b) ⊎ (b ≤ a)
below a b = by (nat_lt a b) refl
  where
    by : (t : Bool) → nat_lt a b ≡ t → (a < b) ⊎ (b ≤ a)
    by true e = inl (grind (arith, nat_tests, e))
    by false e = inr (grind (arith, nat_tests, e))

module _ (m n : Module) (vars? vars_there? : ℕ → Bool) (new_low old_low : ℕ → ℕ) where
  abbrev new : ℕ → ℕ
  new = new_all m n vars? vars_there? new_low old_low

  abbrev old : ℕ → ℕ
  old = old_all m n vars? vars_there? new_low old_low

  abbrev here? : ℕ → Bool
  here? = reads? m n vars? vars_there? new_low old_low

  abbrev there? : ℕ → Bool
  there? = reads_there? m n vars? vars_there? new_low old_low

  abbrev Read : ℕ → Type 0
  Read = Reads m n vars? vars_there? new_low old_low

  abbrev Lows : ℕ → Type 0
  Lows = Low m n vars? vars_there? new_low old_low

  all_low : (v : ℕ) → v < first_in m → new v ≡ new_low v
  all_low v h = lower_so v (first_in m) (new_low v) (first_in n + (v - first_in m)) h

  pub all_high : (v : ℕ) → first_in m ≤ v → new v ≡ first_in n + (v - first_in m)
  all_high v h = higher_so v (first_in m) (new_low v) (first_in n + (v - first_in m)) h

  pub reads_low : (v : ℕ) → v < first_in m → Read v → IsTrue (vars? v)
  reads_low v h r = sym (lower_so v (first_in m) (vars? v) true h) ∙ r

  pub low_reads : (v : ℕ) → Lows v → Read v
  low_reads v h = lower_so v (first_in m) (vars? v) true h.0 ∙ h.1

  pub high_reads : (v : ℕ) → first_in m ≤ v → Read v
  high_reads v h = higher_so v (first_in m) (vars? v) true h

  module _ (low : LowNumbers m n vars? vars_there? new_low old_low) where
    pub low_all : (v : ℕ) → Lows v → new v ≡ new_low v
    low_all v h = all_low v h.0

    pub back_all : (v : ℕ) → Read v → old (new v) ≡ v
    back_all v r = by (below v (first_in m))
      where
        by : (v < first_in m) ⊎ (first_in m ≤ v) → old (new v) ≡ v
        by (inl h) =
            let k = reads_low v h r in
            ap old (all_low v h) ∙ lower_so (new_low v) (first_in n) (old_low (new_low v)) (first_in m + (new_low v - first_in n)) (low.passes v (h, k)).0 ∙ low.back v (h, k)
        by (inr h) =
            let w = first_in n + (v - first_in m) in
            let e : first_in m + (w - first_in n) ≡ v = omega (h, arith) in
            ap old (all_high v h) ∙ higher_so w (first_in n) (old_low w) (first_in m + (w - first_in n)) (omega arith) ∙ e

    pub one_all : (u v : ℕ) → Read u → Read v → new u ≡ new v → u ≡ v
    one_all u v h k e = sym (back_all u h) ∙ ap old e ∙ back_all v k

    pub passes_all : (v : ℕ) → Read v → there? (new v) ≡ true
    passes_all v r = by (below v (first_in m))
      where
        by : (v < first_in m) ⊎ (first_in m ≤ v) → there? (new v) ≡ true
        by (inl h) = let p = low.passes v (h, reads_low v h r) in ap there? (all_low v h) ∙ lower_so (new_low v) (first_in n) (vars_there? (new_low v)) true p.0 ∙ p.1
        by (inr h) = ap there? (all_high v h) ∙ higher_so (first_in n + (v - first_in m)) (first_in n) (vars_there? (first_in n + (v - first_in m))) true (omega arith)

    pub each_low : AllByRecursion Lows low.reached
    each_low = subst (AllByRecursion Lows) low.here (both (filter vars? (range_with_len 0 (first_in m))) (filter_keeps (λ v. (0 ≤ v) × (v < 0 + first_in m)) vars? (range_with_len 0 (first_in m)) (range_each 0 (first_in m))) (filtered_pass vars? (range_with_len 0 (first_in m))))
      where
        both : (vs : List ℕ) → AllByRecursion (λ v. (0 ≤ v) × (v < 0 + first_in m)) vs → AllByRecursion (λ v. IsTrue (vars? v)) vs → AllByRecursion Lows vs
        both [] h k = tt
        both (v ∷ vs) h k = ((let under = h.0.1 in omega (under, arith), k.0), both vs h.1 k.1)

    maps_low : (vs : List ℕ) → AllByRecursion Lows vs → map new_low vs ≡ map new vs
    maps_low [] h = refl
    maps_low (v ∷ vs) h = λ i. sym (low_all v h.0) i ∷ maps_low vs h.1 i

    pub low_here : (v : ℕ) → here? v ≡ false → v < first_in m
    low_here v e = by (below v (first_in m))
      where
        by : (v < first_in m) ⊎ (first_in m ≤ v) → v < first_in m
        by (inl h) = h
        by (inr h) = absurd (true≢false (sym (high_reads v h) ∙ e))

    pub low_there : (w : ℕ) → there? w ≡ false → w < first_in n
    low_there w e = by (below w (first_in n))
      where
        by : (w < first_in n) ⊎ (first_in n ≤ w) → w < first_in n
        by (inl h) = h
        by (inr h) = absurd (true≢false (sym (higher_so w (first_in n) (vars_there? w) true h) ∙ e))

    pub read_here : filter here? (range_with_len 0 (first_in m)) ≡ low.reached
    read_here = filter_agree here? vars? 0 (first_in m) (λ v l h. lower_so v (first_in m) (vars? v) true (omega (h, arith))) ∙ low.here

    pub read_there : filter there? (range_with_len 0 (first_in n)) ≡ map new low.reached
    read_there = filter_agree there? vars_there? 0 (first_in n) (λ v l h. lower_so v (first_in n) (vars_there? v) true (omega (h, arith))) ∙ low.there ∙ maps_low low.reached each_low

    -- the constants, globals and entry values in their order
    abbrev pub low_order : InOrder new Lows (first_in m) (first_in n)
    low_order = record { reached = low.reached; each = each_low; in_here = here?; in_there = there?; low_here = low_here; low_there = low_there; here = read_here; there = read_there }

    test_same : (u v : ℕ) → Read u → Read v → (new u == new v) ≡ (u == v)
    test_same u v h k = by (u == v) refl (new u == new v) refl
      where
        by : (a : Bool) → (u == v) ≡ a → (b : Bool) → (new u == new v) ≡ b → (new u == new v) ≡ (u == v)
        by true e true f = f ∙ sym e
        by true e false f = absurd (true≢false (sym (eq-eqb (new u) (new v) (ap new (eqb-true u v e))) ∙ f))
        by false e true f = absurd (true≢false (sym (eq-eqb u v (one_all u v h k (eqb-true (new u) (new v) f))) ∙ e))
        by false e false f = f ∙ sym e

    pub any_same : (us : List ℕ) → AllByRecursion Read us → (v : ℕ) → Read v → list_any (λ x. x == new v) (map new us) ≡ list_any (λ x. x == v) us
    any_same [] h v k = refl
    any_same (u ∷ us) h v k = λ i. test_same u v h.0 k i || any_same us h.1 v k i

    -- the sorts of low variables
    module _ (new_def : ℕ → ℕ) (D : ℕ → Type 0) where
      module _ (globals : GlobalsAlike m n vars? vars_there? new_low old_low new_def D) (rest rest_there : List Kind) where
        abbrev all_sorts : List Kind
        all_sorts = const_sorts m ++ (global_sorts m ++ (global_sorts m ++ rest))

        abbrev all_there : List Kind
        all_there = const_sorts n ++ (global_sorts n ++ (global_sorts n ++ rest_there))

        consts_long : length (const_sorts m) ≡ first_global m
        consts_long = length-map m.consts (λ c. c.sort)

        consts_there : length (const_sorts n) ≡ first_global n
        consts_there = length-map n.consts (λ c. c.sort)

        globals_long : length (global_sorts m) ≡ length m.globals
        globals_long = length-map m.globals (λ g. g.sort)

        globals_there : length (global_sorts n) ≡ length n.globals
        globals_there = length-map n.globals (λ g. g.sort)

        global_sort : (v : ℕ) → first_global m ≤ v → v < first_entry m → IsTrue (vars? v) → slice_get (global_sorts n) (new_low v - first_global n) ≡ slice_get (global_sorts m) (v - first_global m)
        global_sort v h k t =
            let g = globals v h k t in
            slice_get-map (λ (x : Global). x.sort) n.globals (new_low v - first_global n) ∙ ap (option_map (λ (x : Global). x.sort)) g.there ∙ ap Some g.sort
            ∙ sym (slice_get-map (λ (x : Global). x.sort) m.globals (v - first_global m) ∙ ap (option_map (λ (x : Global). x.sort)) g.here)

        pub low_sort : (v : ℕ) → Lows v → slice_get all_there (new_low v) ≡ slice_get all_sorts v
        low_sort v (h, t) = by (below v (first_global m)) (below v (first_entry m))
          where
            by : (v < first_global m) ⊎ (first_global m ≤ v) → (v < first_entry m) ⊎ (first_entry m ≤ v) → slice_get all_there (new_low v) ≡ slice_get all_sorts v
            by (inl c) k =
                let p = low.constant v c t in
                let p0 = p.0 in
                slice_before (const_sorts n) (global_sorts n ++ (global_sorts n ++ rest_there)) (new_low v) (omega (p0, consts_there, arith)) ∙ p.1
                ∙ sym (slice_before (const_sorts m) (global_sorts m ++ (global_sorts m ++ rest)) v (omega (c, consts_long, arith)))
            by (inr c) (inl k) =
                let p = low.global v c k t in
                let p0 = p.0 in
                let p1 = p.1 in
                let here_is : v - length (const_sorts m) ≡ v - first_global m = ap (λ z. v - z) consts_long in
                let there_is : new_low v - length (const_sorts n) ≡ new_low v - first_global n = ap (λ z. new_low v - z) consts_there in
                slice_behind (const_sorts n) (global_sorts n ++ (global_sorts n ++ rest_there)) (new_low v) (omega (p0, consts_there, arith))
                ∙ ap (slice_get (global_sorts n ++ (global_sorts n ++ rest_there))) there_is
                ∙ slice_before (global_sorts n) (global_sorts n ++ rest_there) (new_low v - first_global n) (omega (p0, p1, globals_there, arith))
                ∙ global_sort v c k t
                ∙ sym (slice_behind (const_sorts m) (global_sorts m ++ (global_sorts m ++ rest)) v (omega (c, consts_long, arith))
                ∙ ap (slice_get (global_sorts m ++ (global_sorts m ++ rest))) here_is
                ∙ slice_before (global_sorts m) (global_sorts m ++ rest) (v - first_global m) (omega (c, k, globals_long, arith)))
            by (inr c) (inr k) =
                let q = low.entry v k h t in
                let g = v - length m.globals in
                let q1 = q.1 in
                let first : first_global m ≤ g = omega (k, arith) in
                let last : g < first_entry m = omega (h, k, arith) in
                let p = low.global g first last q.0 in
                let p0 = p.0 in
                let p1 = p.1 in
                let here_is : v - length (const_sorts m) - length (global_sorts m) ≡ g - first_global m = omega (consts_long, globals_long, arith) in
                let there_is : new_low v - length (const_sorts n) - length (global_sorts n) ≡ new_low g - first_global n = omega (consts_there, globals_there, q1, arith) in
                slice_behind (const_sorts n) (global_sorts n ++ (global_sorts n ++ rest_there)) (new_low v) (omega (p0, q1, consts_there, arith))
                ∙ slice_behind (global_sorts n) (global_sorts n ++ rest_there) (new_low v - length (const_sorts n)) (omega (p0, q1, consts_there, globals_there, arith))
                ∙ ap (slice_get (global_sorts n ++ rest_there)) there_is
                ∙ slice_before (global_sorts n) rest_there (new_low g - first_global n) (omega (p0, p1, globals_there, arith))
                ∙ global_sort g first last q.0
                ∙ sym (slice_behind (const_sorts m) (global_sorts m ++ (global_sorts m ++ rest)) v (omega (k, consts_long, arith))
                ∙ slice_behind (global_sorts m) (global_sorts m ++ rest) (v - length (const_sorts m)) (omega (k, consts_long, globals_long, arith))
                ∙ ap (slice_get (global_sorts m ++ rest)) here_is
                ∙ slice_before (global_sorts m) rest (g - first_global m) (omega (first, last, globals_long, arith)))
