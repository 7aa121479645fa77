-- Contracts of two modules that go alike over new numbers: the globals that they modify, and what their variables stand for at a call.
use Rattle.std.specs.Prelude.{◌≡◌, refl, ◌⊎◌, ℕ, ◌+◌, ◌-◌, ◌<◌, ◌≤◌, ◌==◌, nat_eq, Bool, true, false, IsTrue, List, [], ◌∷◌, ◌++◌, map, length, filter, position, slice_get, unwrap_or, Option, Some, None, option_map}
use Rattle.std.specs.List.{AllByRecursion, list_any, position_from, range_with_len}
use Rattle.std.proofs.Common.{ap, sym, subst, arith, ◌∙◌}
use Rattle.std.proofs.lemmas.Iterator.Adapters.{position_from-zero}
use Rattle.std.proofs.lemmas.List.{map-append, length-map, append-nil}
use Rattle.std.proofs.lemmas.List.Elements.{filter-append}
use mathlib.Core.Logic.{inl, inr}
use Rattle.logic_core.proofs.EachOf.{every_append}
use Rattle.bpl_model.specs.Module.{Spec, Proc, Module}
use Rattle.bpl_model.specs.Contract.{named_in_modifies, modified}
use Rattle.bpl_model.specs.Numbering.{first_global, first_entry, first_in, first_out, global_numbers}
use Rattle.bpl_model.specs.Cut.{owned_global, old_global, over}
use Rattle.bpl_model.proofs.NumberLists.{of_any}
use Rattle.obligation_text.proofs.SameCanonical.{position_same}
use Rattle.rebuild_laws.proofs.InOrder.{in_order}
use Rattle.rebuild_laws.proofs.LocalsAlike.{locals_long}
use Rattle.rebuild_laws.proofs.Ranges.{lower_so, higher_so, range_plus, filter_none, filter_keeps, range_each}
use Rattle.rebuild_laws.proofs.NumbersAlike.{below, all_high, reads_low, low_reads, low_all, one_all, passes_all, low_order, any_same}
use Rattle.rebuild_laws.proofs.CallsAlike.{AlikeContract, new_own, Own}
use Rattle.rebuild_laws.specs.Numbers.{new_all, reads?, reads_there?, Reads, Low, LowNumbers, GlobalsAlike}
use Rattle.rebuild_laws.specs.Alike.{both_require, both_ensure, both_modify, AlikeSpecs, no_specs, a_spec}
use Rattle.rebuild_laws.specs.Procedures.{AlikeSignature}

abbrev IsGlobal : Module → ℕ → Type 0
IsGlobal m g = (first_global m ≤ g) × (g < first_entry m)

-- of the numbers up to the parameters a test of globals passes globals alone
globals_pass : (m : Module) (p : ℕ → Bool) → ((v : ℕ) → p v ≡ true → IsGlobal m v) → filter p (range_with_len 0 (first_in m)) ≡ filter p (global_numbers m)
globals_pass m p only =
    let G = length m.globals in
    let all : range_with_len 0 (first_in m) ≡ (range_with_len 0 (first_global m) ++ range_with_len (first_global m) G) ++ range_with_len (first_entry m) G
    = range_plus 0 (first_entry m) G ∙ (λ i. (range_plus 0 (first_global m) G ∙ (let e : 0 + first_global m ≡ first_global m = omega arith in ap (λ a. range_with_len 0 (first_global m) ++ range_with_len a G) e)) i ++ range_with_len ((let e : 0 + first_entry m ≡ first_entry m = omega arith in e) i) G) in
    let before : filter p (range_with_len 0 (first_global m)) ≡ [] = filter_none p 0 (first_global m) (λ v l h. out v (inl (omega (h, arith)))) in
    let after : filter p (range_with_len (first_entry m) G) ≡ [] = filter_none p (first_entry m) G (λ v l h. out v (inr l)) in
    ap (filter p) all
    ∙ filter-append p (range_with_len 0 (first_global m) ++ range_with_len (first_global m) G) (range_with_len (first_entry m) G)
    ∙ (λ i. (filter-append p (range_with_len 0 (first_global m)) (range_with_len (first_global m) G) ∙ (λ j. before j ++ filter p (range_with_len (first_global m) G))) i ++ after i)
    ∙ append-nil (filter p (range_with_len (first_global m) G))
  where
    out : (v : ℕ) → (v < first_global m) ⊎ (first_entry m ≤ v) → p v ≡ false
    out v k = by (p v) refl
      where
        by : (b : Bool) → p v ≡ b → p v ≡ false
        by true e = let g = only v e in let g0 = g.0 in let g1 = g.1 in elim k [ inl low ↦ absurd (omega (g0, low, arith)) | inr high ↦ absurd (omega (g1, high, arith)) ]
        by false e = e

module _ (m n : Module) (vars? vars_there? : ℕ → Bool) (new_low old_low : ℕ → ℕ) (low : LowNumbers m n vars? vars_there? new_low old_low) (new_def : ℕ → ℕ) (D : ℕ → Type 0) where
  abbrev new : ℕ → ℕ
  new = new_all m n vars? vars_there? new_low old_low

  abbrev Read : ℕ → Type 0
  Read = Reads m n vars? vars_there? new_low old_low

  abbrev Lows : ℕ → Type 0
  Lows = Low m n vars? vars_there? new_low old_low

  named_alike : (ss ts : List Spec) → AlikeSpecs new_def new D Read ss ts → (named_in_modifies ts ≡ map new (named_in_modifies ss)) × AllByRecursion Read (named_in_modifies ss)
  named_alike _ _ no_specs = (refl, tt)
  named_alike _ _ (a_spec {ss = ss} {ts = ts} (both_require h) rest) = named_alike ss ts rest
  named_alike _ _ (a_spec {ss = ss} {ts = ts} (both_ensure h) rest) = named_alike ss ts rest
  named_alike _ _ (a_spec {ss = ss} {ts = ts} (both_modify {vs = vs} h) rest) =
      let r = named_alike ss ts rest in ((λ i. map new vs ++ r.0 i) ∙ sym (map-append new vs (named_in_modifies ss)), every_append Read vs (named_in_modifies ss) h r.1)

  module _ (globals : GlobalsAlike m n vars? vars_there? new_low old_low new_def D) (c d : Proc) (a : AlikeSignature m n vars? vars_there? new_low old_low new_def D c d) (named_globals : AllByRecursion (IsGlobal m) (named_in_modifies c.specs)) where
    abbrev named : List ℕ
    named = named_in_modifies c.specs

    abbrev mine? : ℕ → Bool
    mine? g = list_any (λ x. x == g) named

    abbrev theirs? : ℕ → Bool
    theirs? g = list_any (λ x. x == g) (named_in_modifies d.specs)

    abbrev is_named : (named_in_modifies d.specs ≡ map new named) × AllByRecursion Read named
    is_named = named_alike c.specs d.specs a.specs

    in_region : (g : ℕ) → IsGlobal m g → g < first_in m
    in_region g h = let last = h.1 in omega (last, arith)

    -- a modified global here and there
    record Named (g : ℕ) : Type 0 where
      pub region : IsGlobal m g
      pub reached : IsTrue (vars? g)
      pub region_there : IsGlobal n (new g)

    named_so : (g : ℕ) → IsGlobal m g → Read g → Named g
    named_so g h r =
        let t = reads_low m n vars? vars_there? new_low old_low g (in_region g h) r in
        record { region = h; reached = t; region_there = subst (IsGlobal n) (sym (low_all m n vars? vars_there? new_low old_low low g (in_region g h, t))) (low.global g h.0 h.1 t) }

    all_named : (gs : List ℕ) → AllByRecursion (IsGlobal m) gs → AllByRecursion Read gs → AllByRecursion Named gs
    all_named [] h k = tt
    all_named (g ∷ gs) h k = (named_so g h.0 k.0, all_named gs h.1 k.1)

    there_named : (gs : List ℕ) → AllByRecursion Named gs → AllByRecursion (IsGlobal n) (map new gs)
    there_named [] h = tt
    there_named (g ∷ gs) h = (h.0.region_there, there_named gs h.1)

    there_passes : (gs : List ℕ) → AllByRecursion Read gs → AllByRecursion (λ w. reads_there? m n vars? vars_there? new_low old_low w ≡ true) (map new gs)
    there_passes [] h = tt
    there_passes (g ∷ gs) h = (passes_all m n vars? vars_there? new_low old_low low g h.0, there_passes gs h.1)

    theirs_is : (w : ℕ) → theirs? w ≡ list_any (λ x. x == w) (map new named)
    theirs_is w = ap (list_any (λ x. x == w)) is_named.0

    mine_global : (v : ℕ) → mine? v ≡ true → IsGlobal m v
    mine_global v e = of_any (IsGlobal m) named v e named_globals

    theirs_global : (w : ℕ) → theirs? w ≡ true → IsGlobal n w
    theirs_global w e = of_any (IsGlobal n) (map new named) w (sym (theirs_is w) ∙ e) (there_named named (all_named named named_globals is_named.1))

    abbrev ordered : (filter theirs? (range_with_len 0 (first_in n)) ≡ map new (filter mine? (range_with_len 0 (first_in m)))) × AllByRecursion Lows (filter mine? (range_with_len 0 (first_in m)))
    ordered =
        in_order new Lows (first_in m) (first_in n) (low_order m n vars? vars_there? new_low old_low low) mine? theirs?
        (λ v e. of_any Read named v e is_named.1)
        (λ w e. of_any (λ x. reads_there? m n vars? vars_there? new_low old_low x ≡ true) (map new named) w (sym (theirs_is w) ∙ e) (there_passes named is_named.1))
        (λ v h. theirs_is (new v) ∙ any_same m n vars? vars_there? new_low old_low low named is_named.1 v (low_reads m n vars? vars_there? new_low old_low v h))

    pub modified_new : modified n d ≡ map new (modified m c)
    modified_new = sym (globals_pass n theirs? theirs_global) ∙ ordered.0 ∙ ap (map new) (globals_pass m mine? mine_global)

    pub modified_low : AllByRecursion Lows (modified m c)
    modified_low = subst (AllByRecursion Lows) (globals_pass m mine? mine_global) ordered.1

    modified_region : AllByRecursion (IsGlobal m) (modified m c)
    modified_region = region (global_numbers m) (range_each (first_global m) (length m.globals))
      where
        region : (vs : List ℕ) → AllByRecursion (λ v. (first_global m ≤ v) × (v < first_global m + length m.globals)) vs → AllByRecursion (IsGlobal m) (filter mine? vs)
        region vs h = filter_keeps (IsGlobal m) mine? vs h

    sort_same : (gs : List ℕ) → AllByRecursion (IsGlobal m) gs → AllByRecursion Lows gs
        → AllByRecursion (λ g. (owned_global (slice_get n.globals (new g - first_global n))).sort ≡ (owned_global (slice_get m.globals (g - first_global m))).sort) gs
    sort_same [] h k = tt
    sort_same (g ∷ gs) h k =
        let one = globals g h.0.0 h.0.1 k.0.1 in
        let moved : new g - first_global n ≡ new_low g - first_global n = ap (λ w. w - first_global n) (low_all m n vars? vars_there? new_low old_low low g k.0) in
        (ap (λ i. (owned_global (slice_get n.globals i)).sort) moved ∙ ap (λ o. (owned_global o).sort) one.there ∙ one.sort ∙ sym (ap (λ o. (owned_global o).sort) one.here), sort_same gs h.1 k.1)

    pub modified_sorts : AllByRecursion (λ g. (owned_global (slice_get n.globals (new g - first_global n))).sort ≡ (owned_global (slice_get m.globals (g - first_global m))).sort) (modified m c)
    modified_sorts = sort_same (modified m c) modified_region modified_low

    -- over a caller whose own variables stand behind all others
    module _ (V : ℕ → Type 0) (base base_there : ℕ) (under : (v : ℕ) → V v → v < base) (from_low : (v : ℕ) → Lows v → V v) (base_low : first_in m ≤ base) (base_low_there : first_in n ≤ base_there) where
      abbrev owns : ℕ → ℕ
      owns = new_own m n new_def new D V base base_there under

      abbrev Owns : ℕ → Type 0
      Owns = Own m n new_def new D V base base_there under

      own_low : (v : ℕ) → Lows v → owns v ≡ new_low v
      own_low v h = lower_so v base (new v) (base_there + (v - base)) (under v (from_low v h)) ∙ low_all m n vars? vars_there? new_low old_low low v h

      own_high : (v : ℕ) → base ≤ v → owns v ≡ base_there + (v - base)
      own_high v h = higher_so v base (new v) (base_there + (v - base)) h

      ins_long : length d.ins ≡ length c.ins
      ins_long = locals_long new_def new D Read c.ins d.ins a.ins

      modified_long : length (modified n d) ≡ length (modified m c)
      modified_long = ap length modified_new ∙ length-map (modified m c) new

      pub record Stands (i w : ℕ) : Type 0 where
        pub same : over n d (base_there + i) (new w) ≡ owns (over m c (base + i) w)
        pub owned : Owns (over m c (base + i) w)

      -- a variable that stands for itself
      itself : (i w : ℕ) → Read w → w < first_entry m → Stands i w
      itself i w r h =
          let t = reads_low m n vars? vars_there? new_low old_low w (omega (h, arith)) r in
          let l : Lows w = (omega (h, arith), t) in
          let mine : over m c (base + i) w ≡ w = lower_so w (first_entry m) w _ h in
          let high : new_low w < first_entry n = elim (below w (first_global m)) [ inl k ↦ (let p = (low.constant w k t).0 in omega (p, arith)) | inr k ↦ (low.global w k h t).1 ] in
          let theirs : over n d (base_there + i) (new w) ≡ new_low w = ap (over n d (base_there + i)) (low_all m n vars? vars_there? new_low old_low low w l) ∙ lower_so (new_low w) (first_entry n) (new_low w) _ high in
          record { same = theirs ∙ sym (own_low w l) ∙ ap owns (sym mine); owned = subst Owns (sym mine) (inl (from_low w l)) }

      -- an entry value
      kept : (i w : ℕ) → Read w → first_entry m ≤ w → w < first_in m → Stands i w
      kept i w r h k =
          let t = reads_low m n vars? vars_there? new_low old_low w k r in
          let l : Lows w = (k, t) in
          let g = w - length m.globals in
          let q = low.entry w h k t in
          let q1 = q.1 in
          let first : first_global m ≤ g = omega (h, arith) in
          let last : g < first_entry m = omega (h, k, arith) in
          let lg : Lows g = (omega (last, arith), q.0) in
          let p = low.global g first last q.0 in
          let p0 = p.0 in
          let p1 = p.1 in
          let mine : over m c (base + i) w ≡ old_global m c (base + i) g = higher_so w (first_entry m) w _ h ∙ lower_so w (first_in m) (old_global m c (base + i) (w - length m.globals)) _ k in
          let back : new_low w - length n.globals ≡ new_low g = omega (q1, arith) in
          let theirs : over n d (base_there + i) (new w) ≡ old_global n d (base_there + i) (new_low g)
          = ap (over n d (base_there + i)) (low_all m n vars? vars_there? new_low old_low low w l) ∙ higher_so (new_low w) (first_entry n) (new_low w) _ (omega (q1, p0, arith))
          ∙ lower_so (new_low w) (first_in n) (old_global n d (base_there + i) (new_low w - length n.globals)) _ (omega (q1, p1, arith)) ∙ ap (old_global n d (base_there + i)) back in
          let place : position (nat_eq (new_low g)) (modified n d) ≡ position (nat_eq g) (modified m c)
          = position_from-zero (nat_eq (new_low g)) (modified n d)
          ∙ (λ j. position_from (nat_eq (sym (low_all m n vars? vars_there? new_low old_low low g lg) j)) 0 (modified_new j))
          ∙ position_same new Lows (λ u v x y. one_all m n vars? vars_there? new_low old_low low u v (low_reads m n vars? vars_there? new_low old_low u x) (low_reads m n vars? vars_there? new_low old_low v y)) g 0 (modified m c) lg modified_low
          ∙ sym (position_from-zero (nat_eq g) (modified m c)) in
          let all = by g lg (position (nat_eq g) (modified m c)) in
          record {
            same = theirs ∙ (λ j. unwrap_or (option_map (λ x. base_there + i + length d.ins + x) (place j)) (new_low g)) ∙ all.0 ∙ ap owns (sym mine);
            owned = subst Owns (sym mine) all.1;
          }
        where
          by : (g : ℕ) → Lows g → (o : Option ℕ) → (unwrap_or (option_map (λ x. base_there + i + length d.ins + x) o) (new_low g) ≡ owns (unwrap_or (option_map (λ x. base + i + length c.ins + x) o) g)) × Owns (unwrap_or (option_map (λ x. base + i + length c.ins + x) o) g)
          by g lg None = (sym (own_low g lg), inl (from_low g lg))
          by g lg (Some x) =
              let e : base_there + i + length d.ins + x ≡ base_there + ((base + i + length c.ins + x) - base) = omega (ins_long, arith) in
              (e ∙ sym (own_high (base + i + length c.ins + x) (omega arith)), inr (omega arith))

      -- a parameter
      given : (i w : ℕ) → first_in m ≤ w → Stands i w
      given i w h =
          let new_is = all_high m n vars? vars_there? new_low old_low w h in
          let u = first_in n + (w - first_in m) in
          elim (below w (first_out m c)) [
            | inl k ↦
                let mine : over m c (base + i) w ≡ base + i + (w - first_in m)
                = higher_so w (first_entry m) w _ (omega (h, arith)) ∙ higher_so w (first_in m) (old_global m c (base + i) (w - length m.globals)) _ h ∙ lower_so w (first_out m c) (base + i + (w - first_in m)) _ k in
                let theirs : over n d (base_there + i) (new w) ≡ base_there + i + (u - first_in n)
                = ap (over n d (base_there + i)) new_is ∙ higher_so u (first_entry n) u _ (omega arith) ∙ higher_so u (first_in n) (old_global n d (base_there + i) (u - length n.globals)) _ (omega arith) ∙ lower_so u (first_out n d) (base_there + i + (u - first_in n)) _ (omega (k, h, ins_long, arith)) in
                let e : base_there + i + (u - first_in n) ≡ base_there + ((base + i + (w - first_in m)) - base) = omega arith in
                record { same = theirs ∙ e ∙ sym (own_high (base + i + (w - first_in m)) (omega arith)) ∙ ap owns (sym mine); owned = subst Owns (sym mine) (inr (omega arith)) }
            | inr k ↦
                let x = base + i + length c.ins + length (modified m c) + (w - first_out m c) in
                let y = base_there + i + length d.ins + length (modified n d) + (u - first_out n d) in
                let mine : over m c (base + i) w ≡ x
                = higher_so w (first_entry m) w _ (omega (h, arith)) ∙ higher_so w (first_in m) (old_global m c (base + i) (w - length m.globals)) _ h ∙ higher_so w (first_out m c) (base + i + (w - first_in m)) _ k in
                let theirs : over n d (base_there + i) (new w) ≡ y
                = ap (over n d (base_there + i)) new_is ∙ higher_so u (first_entry n) u _ (omega arith) ∙ higher_so u (first_in n) (old_global n d (base_there + i) (u - length n.globals)) _ (omega arith) ∙ higher_so u (first_out n d) (base_there + i + (u - first_in n)) _ (omega (k, h, ins_long, arith)) in
                let e : y ≡ base_there + (x - base) = omega (ins_long, modified_long, h, k, arith) in
                record { same = theirs ∙ e ∙ sym (own_high x (omega arith)) ∙ ap owns (sym mine); owned = subst Owns (sym mine) (inr (omega arith)) }
          ]

      stands : (i w : ℕ) → Read w → Stands i w
      stands i w r = by (below w (first_entry m)) (below w (first_in m))
        where
          by : (w < first_entry m) ⊎ (first_entry m ≤ w) → (w < first_in m) ⊎ (first_in m ≤ w) → Stands i w
          by (inl h) k = itself i w r h
          by (inr h) (inl k) = kept i w r h k
          by (inr h) (inr k) = given i w k

      each_modified : (gs : List ℕ) → AllByRecursion Lows gs → AllByRecursion V gs
      each_modified [] h = tt
      each_modified (g ∷ gs) h = (from_low g h.0, each_modified gs h.1)

      pub contract_alike : AlikeContract m n new_def new D V base base_there under c d
      contract_alike = record {
        read_by = reads? m n vars? vars_there? new_low old_low;
        contract_var = new;
        ins = a.ins;
        outs = a.outs;
        modified_sorts = modified_sorts;
        modified_there = modified_new;
        modified_each = each_modified (modified m c) modified_low;
        specs = a.specs;
        reads = λ i w r. let s = stands i w r in (s.same, s.owned);
      }
