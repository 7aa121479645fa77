-- The table of the caller's variables: at a call, and between calls.
use Rattle.std.specs.Prelude.{◌≡◌, ◌≢◌, ℕ, ◌+◌, ◌-◌, ◌<◌, ◌≤◌, nat_eq, nat_lt, cond, List, ◌++◌, map, length, take, Some, None, position, unwrap_or, option_map}
use Rattle.std.specs.List.{range_with_len, position_or_len}
use Rattle.std.specs.List.Sorted.{IsStrictlyIncreasing}
use Rattle.std.proofs.Common.{arith, get_or, ap, sym, ◌∙◌, inl, inr}
use Rattle.std.proofs.lemmas.Bool.{eq-eqb, ne_eqb, eqb-true, eqb-false, lt-ltb, le-ltb, cases_lt}
use Rattle.std.proofs.lemmas.List.{get_or_append_left, get_or-append_right, ext_get_or, length-append, length-take, get_or-take}
use Rattle.std.proofs.lemmas.List.FromFn.{length-range_with_len, get_or-range_with_len, fill_by_all, length-map-range_with_len, get_or-map-range_with_len}
use Rattle.std.proofs.lemmas.List.Sums.{position_or_len_is, fails_before_first, passes_at_first}
use Rattle.call_cut.proofs.RisingPlaces.{greater}

module _ (consts globals ins outs n : ℕ) (changed : List ℕ) (up : IsStrictlyIncreasing changed) (inside : (k : ℕ) → k < length changed → (consts ≤ get_or changed k 0) × (get_or changed k 0 < consts + globals)) where
  abbrev pub old : ℕ → ℕ
  old g = unwrap_or (option_map (λ i. n + ins + i) (position (nat_eq g) changed)) g

  abbrev pub over : ℕ → ℕ
  over v =
      cond (nat_lt v (consts + globals)) v
      (cond (nat_lt v (consts + globals + globals)) (old (v - globals))
      (cond (nat_lt v (consts + globals + globals + ins)) (n + (v - (consts + globals + globals))) (n + ins + length changed + (v - (consts + globals + globals + ins)))))

  abbrev pub plain : List ℕ
  plain = range_with_len 0 (consts + globals) ++ range_with_len consts globals

  pub long_plain : length plain ≡ consts + globals + globals
  long_plain = let a = length-append (range_with_len 0 (consts + globals)) (range_with_len consts globals) in let b = length-range_with_len 0 (consts + globals) in let c = length-range_with_len consts globals in omega (arith, a, b, c)

  plain_now : (v : ℕ) → v < consts + globals → get_or plain v 0 ≡ v
  plain_now v h =
      let b = length-range_with_len 0 (consts + globals) in
      let at = get_or_append_left (range_with_len 0 (consts + globals)) (range_with_len consts globals) 0 v (omega (arith, b, h)) in
      let is = get_or-range_with_len 0 (consts + globals) v 0 h in omega (arith, at, is)

  plain_old : (v : ℕ) → consts + globals ≤ v → v < consts + globals + globals → get_or plain v 0 ≡ v - globals
  plain_old v h l =
      let at = get_or-append_right (range_with_len 0 (consts + globals)) (range_with_len consts globals) (consts + globals) v 0 (length-range_with_len 0 (consts + globals)) h in
      let is = get_or-range_with_len consts globals (v - (consts + globals)) 0 (omega (arith, h, l)) in omega (arith, at, is, h)

  -- where a global stands among those that change, and where it doesn't
  old_kept : (g k : ℕ) → k < length changed → get_or changed k 0 ≡ g → old g ≡ n + ins + k
  old_kept g k there is =
      let at = position_or_len_is (nat_eq g) changed k 0 (omega (arith, there)) (λ j l. let before = greater changed up j k l there in ne_eqb g (get_or changed j 0) (λ e. omega (arith, e, before, is))) (λ _. eq-eqb g (get_or changed k 0) (sym is)) in
      (λ i. unwrap_or (option_map (λ j. n + ins + j) (cond (nat_lt (at i) (length changed)) (Some (at i)) None)) g)
      ∙ ap (λ b. unwrap_or (option_map (λ j. n + ins + j) (cond b (Some k) None)) g) (lt-ltb k (length changed) there)

  old_same : (g : ℕ) → ((k : ℕ) → k < length changed → get_or changed k 0 ≢ g) → old g ≡ g
  old_same g none =
      let at = position_or_len_is (nat_eq g) changed (length changed) 0 (omega arith) (λ j l. ne_eqb g (get_or changed j 0) (λ e. none j l (sym e))) (λ l. absurd (omega (arith, l))) in
      (λ i. unwrap_or (option_map (λ j. n + ins + j) (cond (nat_lt (at i) (length changed)) (Some (at i)) None)) g)
      ∙ ap (λ b. unwrap_or (option_map (λ j. n + ins + j) (cond b (Some (length changed)) None)) g) (le-ltb (length changed) (length changed) (omega arith))

  over_now : (v : ℕ) → v < consts + globals → over v ≡ v
  over_now v h = ap (λ b. cond b v (cond (nat_lt v (consts + globals + globals)) (old (v - globals)) (cond (nat_lt v (consts + globals + globals + ins)) (n + (v - (consts + globals + globals))) (n + ins + length changed + (v - (consts + globals + globals + ins)))))) (lt-ltb v (consts + globals) h)

  over_old : (v : ℕ) → consts + globals ≤ v → v < consts + globals + globals → over v ≡ old (v - globals)
  over_old v h l =
      (λ i. cond (le-ltb v (consts + globals) h i) v (cond (lt-ltb v (consts + globals + globals) l i) (old (v - globals)) (cond (nat_lt v (consts + globals + globals + ins)) (n + (v - (consts + globals + globals))) (n + ins + length changed + (v - (consts + globals + globals + ins))))))

  over_in : (v : ℕ) → consts + globals + globals ≤ v → v < consts + globals + globals + ins → over v ≡ n + (v - (consts + globals + globals))
  over_in v h l =
      (λ i. cond (le-ltb v (consts + globals) (omega (arith, h)) i) v (cond (le-ltb v (consts + globals + globals) h i) (old (v - globals)) (cond (lt-ltb v (consts + globals + globals + ins) l i) (n + (v - (consts + globals + globals))) (n + ins + length changed + (v - (consts + globals + globals + ins))))))

  over_out : (v : ℕ) → consts + globals + globals + ins ≤ v → over v ≡ n + ins + length changed + (v - (consts + globals + globals + ins))
  over_out v h =
      (λ i. cond (le-ltb v (consts + globals) (omega (arith, h)) i) v (cond (le-ltb v (consts + globals + globals) (omega (arith, h)) i) (old (v - globals)) (cond (le-ltb v (consts + globals + globals + ins) h i) (n + (v - (consts + globals + globals))) (n + ins + length changed + (v - (consts + globals + globals + ins))))))

  -- the variables that keep globals written at the entry values
  module _ (new : List ℕ) (long : length new ≡ length plain)
      (written : (k : ℕ) → k < length changed → get_or new (get_or changed k 0 + globals) 0 ≡ get_or (range_with_len (n + ins) (length changed)) k 0)
      (others : (v : ℕ) → ((k : ℕ) → k < length changed → v ≢ get_or changed k 0 + globals) → get_or new v 0 ≡ get_or plain v 0) where
    new_old : (v : ℕ) → consts + globals ≤ v → v < consts + globals + globals → get_or new v 0 ≡ old (v - globals)
    new_old v h l = elim (cases_lt (position_or_len (nat_eq (v - globals)) changed) (length changed)) [
      | inl there ↦
          let k = position_or_len (nat_eq (v - globals)) changed in
          let is = eqb-true (v - globals) (get_or changed k 0) (passes_at_first (nat_eq (v - globals)) changed 0 there) in
          let at : v ≡ get_or changed k 0 + globals = omega (arith, is, h) in
          ap (λ w. get_or new w 0) at ∙ (written k there ∙ (get_or-range_with_len (n + ins) (length changed) k 0 there ∙ sym (old_kept (v - globals) k there (sym is))))
      | inr far ↦
          let none : (k : ℕ) → k < length changed → get_or changed k 0 ≢ v - globals = λ k l e. eqb-false (v - globals) (get_or changed k 0) (fails_before_first (nat_eq (v - globals)) changed k 0 (omega (arith, l, far))) (sym e) in
          others v (λ k t e. none k t (omega (arith, e))) ∙ (plain_old v h l ∙ sym (old_same (v - globals) none))
    ]

    new_at : (v : ℕ) → v < consts + globals + globals → get_or new v 0 ≡ over v
    new_at v l = elim (cases_lt v (consts + globals)) [
      | inl h ↦ others v (λ k t e. let b = inside k t in let c = b.0 in omega (arith, e, c, h)) ∙ (plain_now v h ∙ sym (over_now v h))
      | inr h ↦ new_old v h l ∙ sym (over_old v h l)
    ]

    abbrev pub entered_list : List ℕ
    entered_list = (new ++ range_with_len n ins) ++ range_with_len (n + ins + length changed) outs

    long_new : length new ≡ consts + globals + globals
    long_new = long ∙ long_plain

    long_front : length (new ++ range_with_len n ins) ≡ consts + globals + globals + ins
    long_front = let a = length-append new (range_with_len n ins) in let b = length-range_with_len n ins in let c = long_new in omega (arith, a, b, c)

    front_at : (v : ℕ) → v < consts + globals + globals + ins → get_or (new ++ range_with_len n ins) v 0 ≡ over v
    front_at v l = elim (cases_lt v (consts + globals + globals)) [
      | inl h ↦ let c = long_new in get_or_append_left new (range_with_len n ins) 0 v (omega (arith, c, h)) ∙ new_at v h
      | inr h ↦ get_or-append_right new (range_with_len n ins) (consts + globals + globals) v 0 long_new h ∙ (get_or-range_with_len n ins (v - (consts + globals + globals)) 0 (omega (arith, h, l)) ∙ sym (over_in v h l))
    ]

    entered_at : (v : ℕ) → v < consts + globals + globals + ins + outs → get_or entered_list v 0 ≡ over v
    entered_at v l = elim (cases_lt v (consts + globals + globals + ins)) [
      | inl h ↦ let c = long_front in get_or_append_left (new ++ range_with_len n ins) (range_with_len (n + ins + length changed) outs) 0 v (omega (arith, c, h)) ∙ front_at v h
      | inr h ↦ get_or-append_right (new ++ range_with_len n ins) (range_with_len (n + ins + length changed) outs) (consts + globals + globals + ins) v 0 long_front h ∙ (get_or-range_with_len (n + ins + length changed) outs (v - (consts + globals + globals + ins)) 0 (omega (arith, h, l)) ∙ sym (over_out v h))
    ]

    pub entered : entered_list ≡ map over (range_with_len 0 (consts + globals + globals + ins + outs))
    entered =
        let a = length-append (new ++ range_with_len n ins) (range_with_len (n + ins + length changed) outs) in let b = length-range_with_len (n + ins + length changed) outs in let c = long_front in
        fill_by_all over entered_list (consts + globals + globals + ins + outs) 0 (omega (arith, a, b, c)) entered_at

  pub long_called : (table : List ℕ) → table ≡ map over (range_with_len 0 (consts + globals + globals + ins + outs)) → length table ≡ consts + globals + globals + ins + outs
  long_called table called = ap length called ∙ length-map-range_with_len over 0 (consts + globals + globals + ins + outs)

  -- the globals written at the entry values again, and the variables of the call taken off
  module _ (table new : List ℕ) (called : table ≡ map over (range_with_len 0 (consts + globals + globals + ins + outs))) (long : length new ≡ length table)
      (written : (k : ℕ) → k < length changed → get_or new (get_or changed k 0 + globals) 0 ≡ get_or changed k 0)
      (others : (v : ℕ) → ((k : ℕ) → k < length changed → v ≢ get_or changed k 0 + globals) → get_or new v 0 ≡ get_or table v 0) where
    table_at : (v : ℕ) → v < consts + globals + globals → get_or table v 0 ≡ over v
    table_at v h = ap (λ t. get_or t v 0) called ∙ get_or-map-range_with_len over 0 (consts + globals + globals + ins + outs) v v 0 (omega (arith, h)) (omega arith)

    again_old : (v : ℕ) → consts + globals ≤ v → v < consts + globals + globals → get_or new v 0 ≡ v - globals
    again_old v h l = elim (cases_lt (position_or_len (nat_eq (v - globals)) changed) (length changed)) [
      | inl there ↦
          let k = position_or_len (nat_eq (v - globals)) changed in
          let is = eqb-true (v - globals) (get_or changed k 0) (passes_at_first (nat_eq (v - globals)) changed 0 there) in
          let at : v ≡ get_or changed k 0 + globals = omega (arith, is, h) in
          ap (λ w. get_or new w 0) at ∙ (written k there ∙ sym is)
      | inr far ↦
          let none : (k : ℕ) → k < length changed → get_or changed k 0 ≢ v - globals = λ k l e. eqb-false (v - globals) (get_or changed k 0) (fails_before_first (nat_eq (v - globals)) changed k 0 (omega (arith, l, far))) (sym e) in
          others v (λ k t e. none k t (omega (arith, e))) ∙ (table_at v l ∙ (over_old v h l ∙ old_same (v - globals) none))
    ]

    again_at : (v : ℕ) → v < consts + globals + globals → get_or new v 0 ≡ get_or plain v 0
    again_at v l = elim (cases_lt v (consts + globals)) [
      | inl h ↦ others v (λ k t e. let b = inside k t in let c = b.0 in omega (arith, e, c, h)) ∙ (table_at v l ∙ (over_now v h ∙ sym (plain_now v h)))
      | inr h ↦ again_old v h l ∙ sym (plain_old v h l)
    ]

    pub left : (few : ℕ) → few ≡ length new - ins - outs → take few new ≡ plain
    left few e =
        let a = long_called table called in let b = length-take few new in let p = long_plain in
        ext_get_or 0 (take few new) plain (omega (arith, a, b, p, long, e)) (λ v h. get_or-take few new v 0 (omega (arith, h, b)) ∙ again_at v (omega (arith, h, a, b, long, e)))
