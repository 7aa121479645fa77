-- The variables of a procedure in their order, and where each begins.
use Rattle.std.specs.Prelude.{◌≡◌, refl, ◌⊎◌, ℕ, zero, suc, ◌+◌, ◌-◌, ◌<◌, ◌≤◌, nat_eq, Bool, true, false, cond, List, [], ◌∷◌, ◌++◌, map, length, filter, find, unwrap_or, Some, option_map}
use Rattle.std.specs.List.{AllByRecursion, range_with_len}
use Rattle.std.proofs.Common.{ap, sym, subst, arith, ◌∙◌, true≢false}
use Rattle.std.proofs.lemmas.Bool.{eqb-true, eq-eqb}
use Rattle.std.proofs.lemmas.List.{map-append}
use Rattle.std.proofs.lemmas.List.Elements.{filter-append}
use mathlib.Core.Logic.{inl, inr}
use Rattle.logic_core.proofs.EachOf.{every_append}
use Rattle.bpl_model.specs.Module.{Module}
use Rattle.bpl_model.specs.Numbering.{first_global, first_entry, first_in, olds_of}
use Rattle.rebuild_laws.proofs.InOrder.{InOrder}
use Rattle.rebuild_laws.proofs.Ranges.{lower_so, higher_so, range_plus, filter_all, range_each, range_moved}
use Rattle.rebuild_laws.proofs.NumbersAlike.{below, all_high, reads_low, low_reads, high_reads, low_all, each_low, low_here, low_there, read_here, read_there}
use Rattle.rebuild_laws.proofs.CallsAlike.{new_own, Own}
use Rattle.rebuild_laws.specs.Numbers.{new_all, reads?, reads_there?, Reads, Low, LowNumbers}

-- where a variable begins, by pairs of globals and their entry values
abbrev first_by : List (ℕ × ℕ) → ℕ → ℕ
first_by olds v = unwrap_or (option_map (λ (p : ℕ × ℕ). p.0) (find (λ (p : ℕ × ℕ). nat_eq v p.1) olds)) v

abbrev pairs : ℕ → ℕ → ℕ → List (ℕ × ℕ)
pairs G a k = map {B = ℕ × ℕ} (λ g. (g, g + G)) (range_with_len a k)

entry_begins : (G a k v : ℕ) → a + G ≤ v → v < a + G + k → first_by (pairs G a k) v ≡ v - G
entry_begins G a zero v h l = absurd (omega (h, l, arith))
entry_begins G a (suc k) v h l = by (nat_eq v (a + G)) refl (λ other. entry_begins G (a + 1) k v (omega (h, other, arith)) (omega (l, arith)))
  where
    by : (t : Bool) → nat_eq v (a + G) ≡ t → (¬ (v ≡ a + G) → first_by (pairs G (a + 1) k) v ≡ v - G) → unwrap_or (option_map (λ (p : ℕ × ℕ). p.0) (cond (nat_eq v (a + G)) (Some (a, a + G)) (find (λ (p : ℕ × ℕ). nat_eq v p.1) (pairs G (a + 1) k)))) v ≡ v - G
    by true e rest = let is = eqb-true v (a + G) e in let r : a ≡ v - G = omega (is, arith) in (λ i. unwrap_or (option_map (λ (p : ℕ × ℕ). p.0) (cond (e i) (Some (a, a + G)) (find (λ (p : ℕ × ℕ). nat_eq v p.1) (pairs G (a + 1) k)))) v) ∙ r
    by false e rest =
        let other : ¬ (v ≡ a + G) = λ is. true≢false (sym (eq-eqb v (a + G) is) ∙ e) in
        (λ i. unwrap_or (option_map (λ (p : ℕ × ℕ). p.0) (cond (e i) (Some (a, a + G)) (find (λ (p : ℕ × ℕ). nat_eq v p.1) (pairs G (a + 1) k)))) v)
        ∙ rest other

other_begins : (G a k v : ℕ) → (v < a + G) ⊎ (a + G + k ≤ v) → first_by (pairs G a k) v ≡ v
other_begins G a zero v h = refl
other_begins G a (suc k) v h =
    let differs : ¬ (v ≡ a + G) = λ is. elim h [ inl l ↦ absurd (omega (l, is, arith)) | inr l ↦ absurd (omega (l, is, arith)) ] in
    let rest : (v < a + 1 + G) ⊎ (a + 1 + G + k ≤ v) = elim h [ inl l ↦ inl (omega (l, arith)) | inr l ↦ inr (omega (l, arith)) ] in
    by (nat_eq v (a + G)) refl differs (other_begins G (a + 1) k v rest)
  where
    by : (t : Bool) → nat_eq v (a + G) ≡ t → ¬ (v ≡ a + G) → first_by (pairs G (a + 1) k) v ≡ v → unwrap_or (option_map (λ (p : ℕ × ℕ). p.0) (cond (nat_eq v (a + G)) (Some (a, a + G)) (find (λ (p : ℕ × ℕ). nat_eq v p.1) (pairs G (a + 1) k)))) v ≡ v
    by true e d r = absurd (d (eqb-true v (a + G) e))
    by false e d r = (λ i. unwrap_or (option_map (λ (p : ℕ × ℕ). p.0) (cond (e i) (Some (a, a + G)) (find (λ (p : ℕ × ℕ). nat_eq v p.1) (pairs G (a + 1) k)))) v) ∙ r

module _ (m n : Module) (vars? vars_there? : ℕ → Bool) (new_low old_low : ℕ → ℕ) (low : LowNumbers m n vars? vars_there? new_low old_low) (new_def : ℕ → ℕ) (D : ℕ → Type 0)
    (base base_there : ℕ) (base_low : first_in m ≤ base) (base_low_there : first_in n ≤ base_there) (span : base_there + first_in m ≡ base + first_in n) where
  abbrev new : ℕ → ℕ
  new = new_all m n vars? vars_there? new_low old_low

  abbrev Read : ℕ → Type 0
  Read = Reads m n vars? vars_there? new_low old_low

  abbrev Lows : ℕ → Type 0
  Lows = Low m n vars? vars_there? new_low old_low

  -- what is renamed before the variables of calls
  abbrev pub Before : ℕ → Type 0
  Before v = Read v × (v < base)

  pub before_base : (v : ℕ) → Before v → v < base
  before_base v h = h.1

  pub low_before : (v : ℕ) → Lows v → Before v
  low_before v l = (low_reads m n vars? vars_there? new_low old_low v l, let under = l.0 in omega (under, base_low, arith))

  abbrev pub owns : ℕ → ℕ
  owns = new_own m n new_def new D Before base base_there before_base

  abbrev pub Owns : ℕ → Type 0
  Owns = Own m n new_def new D Before base base_there before_base

  pub owns_is : (v : ℕ) → owns v ≡ new v
  owns_is v = by (below v base)
    where
      by : (v < base) ⊎ (base ≤ v) → owns v ≡ new v
      by (inl h) = lower_so v base (new v) (base_there + (v - base)) h
      by (inr h) =
          let e : base_there + (v - base) ≡ first_in n + (v - first_in m) = omega (h, base_low, base_low_there, span, arith) in
          higher_so v base (new v) (base_there + (v - base)) h ∙ e ∙ sym (all_high m n vars? vars_there? new_low old_low v (omega (h, base_low, arith)))

  pub own_read : (v : ℕ) → Owns v → Read v
  own_read v (inl h) = h.0
  own_read v (inr h) = high_reads m n vars? vars_there? new_low old_low v (omega (h, base_low, arith))

  pub read_own : (v : ℕ) → Read v → Owns v
  read_own v r = by (below v base)
    where
      by : (v < base) ⊎ (base ≤ v) → Owns v
      by (inl h) = inl (r, h)
      by (inr h) = inr h

  pub own_high : (v : ℕ) → first_in m ≤ v → owns v ≡ first_in n + (v - first_in m)
  own_high v h = owns_is v ∙ all_high m n vars? vars_there? new_low old_low v h

  -- up to any end behind the parameters
  module _ (P : ℕ → Type 0) (from_low : (v : ℕ) → Lows v → P v) (last last_there : ℕ) (last_low : first_in m ≤ last) (last_low_there : first_in n ≤ last_there) (same : last_there + first_in m ≡ last + first_in n) (from_high : (v : ℕ) → first_in m ≤ v → v < last → P v) where
    abbrev behind : List ℕ
    behind = range_with_len (first_in m) (last - first_in m)

    abbrev behind_there : List ℕ
    behind_there = range_with_len (first_in n) (last_there - first_in n)

    low_each : (vs : List ℕ) → AllByRecursion Lows vs → AllByRecursion P vs
    low_each [] h = tt
    low_each (v ∷ vs) h = (from_low v h.0, low_each vs h.1)

    high_each : (vs : List ℕ) → AllByRecursion (λ v. (first_in m ≤ v) × (v < first_in m + (last - first_in m))) vs → AllByRecursion P vs
    high_each [] h = tt
    high_each (v ∷ vs) h = (from_high v h.0.0 (let under = h.0.1 in omega (under, last_low, arith)), high_each vs h.1)

    pub ordered_each : AllByRecursion P (low.reached ++ behind)
    ordered_each = every_append P low.reached behind (low_each low.reached (each_low m n vars? vars_there? new_low old_low low)) (high_each behind (range_each (first_in m) (last - first_in m)))

    split : (a b : ℕ) → a ≤ b → range_with_len 0 b ≡ range_with_len 0 a ++ range_with_len a (b - a)
    split a b h =
        let e : b ≡ a + (b - a) = omega (h, arith) in
        let f : 0 + a ≡ a = omega arith in
        ap (range_with_len 0) e ∙ range_plus 0 a (b - a) ∙ ap (λ c. range_with_len 0 a ++ range_with_len c (b - a)) f

    pub ordered_here : filter (reads? m n vars? vars_there? new_low old_low) (range_with_len 0 last) ≡ low.reached ++ behind
    ordered_here =
        ap (filter (reads? m n vars? vars_there? new_low old_low)) (split (first_in m) last last_low)
        ∙ filter-append (reads? m n vars? vars_there? new_low old_low) (range_with_len 0 (first_in m)) behind
        ∙ (λ i. read_here m n vars? vars_there? new_low old_low low i ++ filter_all (reads? m n vars? vars_there? new_low old_low) (first_in m) (last - first_in m) (λ v l h. high_reads m n vars? vars_there? new_low old_low v l) i)

    lows_own : (vs : List ℕ) → map owns vs ≡ map new vs
    lows_own [] = refl
    lows_own (v ∷ vs) = λ i. owns_is v i ∷ lows_own vs i

    behind_moved : map owns behind ≡ behind_there
    behind_moved =
        let e : last - first_in m ≡ last_there - first_in n = omega (last_low, last_low_there, same, arith) in
        range_moved owns (first_in m) (first_in n) (last - first_in m) (λ v l h. own_high v l) ∙ ap (range_with_len (first_in n)) e

    pub ordered_there : filter (reads_there? m n vars? vars_there? new_low old_low) (range_with_len 0 last_there) ≡ map owns (low.reached ++ behind)
    ordered_there =
        ap (filter (reads_there? m n vars? vars_there? new_low old_low)) (split (first_in n) last_there last_low_there)
        ∙ filter-append (reads_there? m n vars? vars_there? new_low old_low) (range_with_len 0 (first_in n)) behind_there
        ∙ (λ i. read_there m n vars? vars_there? new_low old_low low i ++ filter_all (reads_there? m n vars? vars_there? new_low old_low) (first_in n) (last_there - first_in n) (λ v l h. higher_so v (first_in n) (vars_there? v) true l) i)
        ∙ sym (map-append owns low.reached behind ∙ (λ i. lows_own low.reached i ++ behind_moved i))

    abbrev pub whole_order : InOrder owns P last last_there
    whole_order = record {
      reached = low.reached ++ behind;
      each = ordered_each;
      in_here = reads? m n vars? vars_there? new_low old_low;
      in_there = reads_there? m n vars? vars_there? new_low old_low;
      low_here = λ v e. let under = low_here m n vars? vars_there? new_low old_low low v e in omega (under, last_low, arith);
      low_there = λ w e. let under = low_there m n vars? vars_there? new_low old_low low w e in omega (under, last_low_there, arith);
      here = ordered_here;
      there = ordered_there;
    }

  -- where a variable begins, and its new one
  pub begins_alike : (v : ℕ) → Read v → (first_by (olds_of n) (owns v) ≡ owns (first_by (olds_of m) v)) × Read (first_by (olds_of m) v) × (first_by (olds_of m) v ≤ v)
  begins_alike v r = by (below v (first_entry m)) (below v (first_in m))
    where
      itself : (v < first_entry m) ⊎ (first_in m ≤ v) → (owns v < first_entry n) ⊎ (first_in n ≤ owns v) → (first_by (olds_of n) (owns v) ≡ owns (first_by (olds_of m) v)) × Read (first_by (olds_of m) v) × (first_by (olds_of m) v ≤ v)
      itself h k =
          let mine : first_by (olds_of m) v ≡ v = other_begins (length m.globals) (first_global m) (length m.globals) v h in
          let theirs : first_by (olds_of n) (owns v) ≡ owns v = other_begins (length n.globals) (first_global n) (length n.globals) (owns v) k in
          (theirs ∙ sym (ap owns mine), subst Read (sym mine) r, omega (mine, arith))

      by : (v < first_entry m) ⊎ (first_entry m ≤ v) → (v < first_in m) ⊎ (first_in m ≤ v) → (first_by (olds_of n) (owns v) ≡ owns (first_by (olds_of m) v)) × Read (first_by (olds_of m) v) × (first_by (olds_of m) v ≤ v)
      by (inl h) k =
          let t = reads_low m n vars? vars_there? new_low old_low v (omega (h, arith)) r in
          let is : owns v ≡ new_low v = owns_is v ∙ low_all m n vars? vars_there? new_low old_low low v (omega (h, arith), t) in
          let under : new_low v < first_entry n = elim (below v (first_global m)) [ inl c ↦ (let p = (low.constant v c t).0 in omega (p, arith)) | inr c ↦ (low.global v c h t).1 ] in
          itself (inl h) (inl (omega (is, under, arith)))
      by (inr h) (inr k) = let is = own_high v k in itself (inr k) (inr (omega (is, arith)))
      by (inr h) (inl k) =
          let t = reads_low m n vars? vars_there? new_low old_low v k r in
          let is : owns v ≡ new_low v = owns_is v ∙ low_all m n vars? vars_there? new_low old_low low v (k, t) in
          let q = low.entry v h k t in
          let q1 = q.1 in
          let g = v - length m.globals in
          let first : first_global m ≤ g = omega (h, arith) in
          let last : g < first_entry m = omega (h, k, arith) in
          let p = low.global g first last q.0 in
          let p0 = p.0 in
          let p1 = p.1 in
          let lg : Lows g = (omega (last, arith), q.0) in
          let g_is : owns g ≡ new_low g = owns_is g ∙ low_all m n vars? vars_there? new_low old_low low g lg in
          let mine : first_by (olds_of m) v ≡ g = entry_begins (length m.globals) (first_global m) (length m.globals) v (omega (h, arith)) (omega (k, arith)) in
          let theirs : first_by (olds_of n) (owns v) ≡ owns v - length n.globals = entry_begins (length n.globals) (first_global n) (length n.globals) (owns v) (omega (is, q1, p0, arith)) (omega (is, q1, p1, arith)) in
          let e : owns v - length n.globals ≡ owns g = omega (is, q1, g_is, arith) in
          (theirs ∙ e ∙ sym (ap owns mine), subst Read (sym mine) (low_reads m n vars? vars_there? new_low old_low g lg), omega (mine, arith))
