-- Marks by rounds are what is reached by rounds.
use Rattle.std.specs.Prelude.{◌≡◌, refl, ◌⊎◌, ℕ, zero, suc, ◌<◌, ◌==◌, nat_eq, Bool, true, false, ◌||◌, ◌&&◌, List, [], ◌++◌, length, filter}
use Rattle.std.specs.List.{list_any, flat_map, range_with_len}
use Rattle.std.proofs.Common.{arith, sym, ap, ◌∙◌, subst}
use Rattle.std.proofs.lemmas.Bool.{or_cases, or_left, or_right, and_parts, and_from, false_from_ne_true}
use Rattle.std.proofs.lemmas.List.{append-nil}
use Rattle.logic_core.proofs.Booleans.{same_test as agree}
use mathlib.Core.Logic.{inl, inr}
use Rattle.bpl_model.specs.Marking.{Marking, is_marked, mark_all, settled, follow, follow_on}
use Rattle.bpl_model.proofs.Members.{In, none_in, in_either, in_left, in_right, one_passes, passes_one, in_flat, flat_in, among_filter, range_in, in_range, filter_alike}
use Rattle.bpl_model.proofs.Marks.{within_marks, marks_length, marks_after, marks_kept, marks_given, fresh_marked, marked_before}

abbrev among : List ℕ → ℕ → Bool
among xs x = list_any (λ y. y == x) xs

-- over so many positions, what each leads to outright, what each mentions, and which are reached by what they mention
module _ (count : ℕ) (leads mentioned : ℕ → List ℕ) (is_axiom : ℕ → Bool) where
  abbrev numbers : List ℕ
  numbers = range_with_len 0 count

  abbrev pub leads_to : List ℕ → ℕ → Bool
  leads_to reached d = among reached d || (among (flat_map leads reached) d || (is_axiom d && (list_any (among reached) (mentioned d) || nat_eq (length (mentioned d)) 0)))

  abbrev pub reach_on : ℕ → List ℕ → List ℕ
  reach_on zero reached = reached
  reach_on (suc n) reached = reach_on n (filter (leads_to reached) numbers)

  abbrev pub begins : ℕ → Bool
  begins d = is_axiom d && nat_eq (length (mentioned d)) 0

  -- on: what a position leads to, with what is reached by it as one that it mentions
  module _ (on : ℕ → List ℕ) (on_is : (r d : ℕ) → r < count → d < count → among (on r) d ≡ (among (leads r) d || (is_axiom d && among (mentioned d) r))) where
    -- all that has a mark is followed, but for what is new
    pub record Walked (s : Marking) : Type 0 where
      pub long : length s.marks ≡ count
      pub fresh : (r : ℕ) → In s.fresh r → is_marked s.marks r ≡ true
      pub followed : (r d : ℕ) → d < count → is_marked s.marks r ≡ true → In (on r) d → In s.fresh r ⊎ (is_marked s.marks d ≡ true)

    abbrev pub Covers : Marking → List ℕ → Type 0
    Covers s E = (d : ℕ) → d < count → begins d ≡ true → (is_marked s.marks d ≡ true) ⊎ In E d

    abbrev pub with_more : Marking → List ℕ → Marking
    with_more s E = mark_all (settled s) (flat_map on s.fresh ++ E)

    pub starts : (s : Marking) (ds : List ℕ) → length s.marks ≡ count → s.fresh ≡ [] → ((r : ℕ) → is_marked s.marks r ≡ true → ⊥) → Walked (mark_all s ds)
    starts s ds l n m = record {
      long = marks_length s ds ∙ l;
      fresh = λ r h. elim (fresh_marked s ds r h) [ inl i ↦ absurd (none_in r (subst (λ xs. In xs r) n i)) | inr k ↦ k ];
      followed = λ r d lt h i. elim (marked_before s ds r h) [ inl k ↦ absurd (m r k) | inr k ↦ inl k ];
    }

    pub walks_on : (s : Marking) (E : List ℕ) → Walked s → Walked (with_more s E)
    walks_on s E w = record {
      long = marks_length (settled s) (flat_map on s.fresh ++ E) ∙ w.long;
      fresh = λ r h. elim (fresh_marked (settled s) (flat_map on s.fresh ++ E) r h) [ inl i ↦ absurd (none_in r i) | inr k ↦ k ];
      followed = λ r d lt h i. elim (marked_before (settled s) (flat_map on s.fresh ++ E) r h) [
        | inl k ↦ elim (w.followed r d lt k i) [
          | inl f ↦ inr (marks_given (settled s) (flat_map on s.fresh ++ E) d (subst (λ n. d < n) (sym w.long) lt) (in_left (flat_map on s.fresh) E d (flat_in on s.fresh r d f i)))
          | inr f ↦ inr (marks_kept (settled s) (flat_map on s.fresh ++ E) d f)
        ]
        | inr k ↦ inl k
      ];
    }

    module _ (s : Marking) (E R : List ℕ) (w : Walked s) (same : (d : ℕ) → d < count → among R d ≡ is_marked s.marks d) (inside : (r : ℕ) → In R r → r < count)
        (covers : Covers s E) (sound : (d : ℕ) → d < count → In E d → begins d ≡ true) where
      abbrev more : List ℕ
      more = flat_map on s.fresh ++ E

      short : (d : ℕ) → d < count → d < length s.marks
      short d l = subst (λ n. d < n) (sym w.long) l

      kept : (d : ℕ) → is_marked s.marks d ≡ true → is_marked (with_more s E).marks d ≡ true
      kept d h = marks_kept (settled s) more d h

      given : (d : ℕ) → d < count → In more d → is_marked (with_more s E).marks d ≡ true
      given d l h = marks_given (settled s) more d (short d l) h

      -- from one that is reached
      by_one : (r d : ℕ) → d < count → In R r → In (on r) d → is_marked (with_more s E).marks d ≡ true
      by_one r d l h i = elim (w.followed r d l (sym (same r (inside r h)) ∙ h) i) [
        | inl f ↦ given d l (in_left (flat_map on s.fresh) E d (flat_in on s.fresh r d f i))
        | inr k ↦ kept d k
      ]

      reached_marked : (d : ℕ) → d < count → leads_to R d ≡ true → is_marked (with_more s E).marks d ≡ true
      reached_marked d l h = elim (or_cases (among R d) (among (flat_map leads R) d || (is_axiom d && (list_any (among R) (mentioned d) || nat_eq (length (mentioned d)) 0))) h) [
        | inl k ↦ kept d (sym (same d l) ∙ k)
        | inr k ↦ elim (or_cases (among (flat_map leads R) d) (is_axiom d && (list_any (among R) (mentioned d) || nat_eq (length (mentioned d)) 0)) k) [
          | inl f ↦ let o = in_flat leads R d f in by_one o.0 d l o.1 (on_is o.0 d (inside o.0 o.1) l ∙ or_left (among (leads o.0) d) (is_axiom d && among (mentioned d) o.0) o.2)
          | inr a ↦ let p = and_parts (is_axiom d) (list_any (among R) (mentioned d) || nat_eq (length (mentioned d)) 0) a in
              elim (or_cases (list_any (among R) (mentioned d)) (nat_eq (length (mentioned d)) 0) p.1) [
                | inl f ↦ let o = one_passes (among R) (mentioned d) f in
                    by_one o.0 d l o.2 (on_is o.0 d (inside o.0 o.2) l ∙ or_right (among (leads o.0) d) (is_axiom d && among (mentioned d) o.0) (and_from (is_axiom d) (among (mentioned d) o.0) p.0 o.1))
                | inr z ↦ elim (covers d l (and_from (is_axiom d) (nat_eq (length (mentioned d)) 0) p.0 z)) [
                  | inl m ↦ kept d m
                  | inr e ↦ given d l (in_right (flat_map on s.fresh) E d e)
                ]
              ]
        ]
      ]

      axiom_reached : (d : ℕ) → is_axiom d ≡ true → (list_any (among R) (mentioned d) || nat_eq (length (mentioned d)) 0) ≡ true → leads_to R d ≡ true
      axiom_reached d a h = or_right (among R d) (among (flat_map leads R) d || (is_axiom d && (list_any (among R) (mentioned d) || nat_eq (length (mentioned d)) 0)))
          (or_right (among (flat_map leads R) d) (is_axiom d && (list_any (among R) (mentioned d) || nat_eq (length (mentioned d)) 0))
          (and_from (is_axiom d) (list_any (among R) (mentioned d) || nat_eq (length (mentioned d)) 0) a h))

      marked_reached : (d : ℕ) → d < count → is_marked (with_more s E).marks d ≡ true → leads_to R d ≡ true
      marked_reached d l h = elim (or_cases (is_marked s.marks d) (among more d) (sym (marks_after (settled s) more d (short d l)) ∙ h)) [
        | inl m ↦ or_left (among R d) (among (flat_map leads R) d || (is_axiom d && (list_any (among R) (mentioned d) || nat_eq (length (mentioned d)) 0))) (same d l ∙ m)
        | inr i ↦ elim (in_either (flat_map on s.fresh) E d i) [
          | inl f ↦ let o = in_flat on s.fresh d f in
              let m : is_marked s.marks o.0 ≡ true = w.fresh o.0 o.1 in
              let b : o.0 < count = subst (λ n. o.0 < n) w.long (within_marks s.marks o.0 m) in
              let r : In R o.0 = same o.0 b ∙ m in
              elim (or_cases (among (leads o.0) d) (is_axiom d && among (mentioned d) o.0) (sym (on_is o.0 d b l) ∙ o.2)) [
                | inl k ↦ or_right (among R d) (among (flat_map leads R) d || (is_axiom d && (list_any (among R) (mentioned d) || nat_eq (length (mentioned d)) 0)))
                    (or_left (among (flat_map leads R) d) (is_axiom d && (list_any (among R) (mentioned d) || nat_eq (length (mentioned d)) 0)) (flat_in leads R o.0 d r k))
                | inr k ↦ let p = and_parts (is_axiom d) (among (mentioned d) o.0) k in
                    axiom_reached d p.0 (or_left (list_any (among R) (mentioned d)) (nat_eq (length (mentioned d)) 0) (passes_one (among R) (mentioned d) o.0 p.1 r))
              ]
          | inr e ↦ let p = and_parts (is_axiom d) (nat_eq (length (mentioned d)) 0) (sound d l e) in
              axiom_reached d p.0 (or_right (list_any (among R) (mentioned d)) (nat_eq (length (mentioned d)) 0) p.1)
        ]
      ]

      pub round_is : filter (leads_to R) numbers ≡ filter (is_marked (with_more s E).marks) numbers
      round_is = filter_alike (leads_to R) (is_marked (with_more s E).marks) numbers (λ d h. let u = (range_in 0 count d h).1 in let l : d < count = omega (u, arith) in agree (leads_to R d) (is_marked (with_more s E).marks d) (reached_marked d l) (marked_reached d l))

    -- the positions with marks
    abbrev pub marked : Marking → List ℕ
    marked s = filter (is_marked s.marks) numbers

    marked_same : (s : Marking) (d : ℕ) → d < count → among (marked s) d ≡ is_marked s.marks d
    marked_same s d l = among_filter (is_marked s.marks) numbers d ∙ ap (λ b. b && is_marked s.marks d) (in_range 0 count d (omega arith) (omega (l, arith)))

    marked_inside : (s : Marking) (d : ℕ) → In (marked s) d → d < count
    marked_inside s d h = let p = and_parts (among numbers d) (is_marked s.marks d) (sym (among_filter (is_marked s.marks) numbers d) ∙ h) in let r = (range_in 0 count d p.0).1 in omega (r, arith)

    pub rounds_are : (n : ℕ) (s : Marking) → Walked s → Covers s [] → reach_on n (marked s) ≡ marked (follow_on on n s)
    rounds_are zero s w c = refl
    rounds_are (suc n) s w c =
        let step : filter (leads_to (marked s)) numbers ≡ marked (with_more s []) = round_is s [] (marked s) w (marked_same s) (marked_inside s) c (λ d l h. absurd (none_in d h)) in
        let flat : follow on s ≡ with_more s [] = sym (ap (mark_all (settled s)) (append-nil (flat_map on s.fresh))) in
        let next : Walked (follow on s) = subst Walked (sym flat) (walks_on s [] w) in
        let covered : Covers (follow on s) [] = λ d l b. elim (c d l b) [ inl m ↦ inl (marks_kept (settled s) (flat_map on s.fresh) d m) | inr h ↦ absurd (none_in d h) ] in
        ap (reach_on n) (step ∙ ap marked (sym flat)) ∙ rounds_are n (follow on s) next covered

    -- from a start: a first round, in which those that mention none are reached, and then the others
    pub walk_is : (s : Marking) (start E : List ℕ) (n : ℕ) → length s.marks ≡ count → s.fresh ≡ [] → ((r : ℕ) → is_marked s.marks r ≡ true → ⊥) → ((r : ℕ) → In start r → r < count)
        → ((d : ℕ) → d < count → among E d ≡ begins d) → reach_on (suc n) start ≡ marked (follow_on on n (with_more (mark_all s start) E))
    walk_is s start E n l f m inside ends =
        let first : Walked (mark_all s start) = starts s start l f m in
        let none : (d : ℕ) → d < count → among start d ≡ is_marked (mark_all s start).marks d = λ d lt. sym (marks_after s start d (subst (λ k. d < k) (sym l) lt) ∙ ap (λ b. b || among start d) (unmarked d)) in
        let step : filter (leads_to start) numbers ≡ marked (with_more (mark_all s start) E) =
        round_is (mark_all s start) E start first none inside (λ d lt b. inr (ends d lt ∙ b)) (λ d lt h. sym (ends d lt) ∙ h) in
        let covered : Covers (with_more (mark_all s start) E) [] = λ d lt b.
        inl (marks_given (settled (mark_all s start)) (flat_map on (mark_all s start).fresh ++ E) d (subst (λ k. d < k) (sym first.long) lt) (in_right (flat_map on (mark_all s start).fresh) E d (ends d lt ∙ b))) in
        ap (reach_on n) step ∙ rounds_are n (with_more (mark_all s start) E) (walks_on (mark_all s start) E first) covered
      where
        unmarked : (d : ℕ) → is_marked s.marks d ≡ false
        unmarked d = false_from_ne_true (is_marked s.marks d) (m d)
