-- The marks of positions, by those that have one.
use Rattle.std.specs.Prelude.{◌≡◌, refl, ℕ, zero, suc, ◌+◌, ◌<◌, ◌≤◌, ◌==◌, Bool, true, false, not, cond, ◌||◌, if◌then◌else◌, List, [], ◌∷◌, ◌++◌, map, length, filter, slice_index_or, slice_set}
use Rattle.std.specs.List.{list_any, range_with_len}
use Rattle.std.proofs.Common.{arith, sym, ap, ◌∙◌, length-set}
use Rattle.std.proofs.lemmas.Bool.{eqb-true, eq-eqb}
use Rattle.std.proofs.lemmas.List.{get_or-map, get_or_past, ext_get_or}
use Rattle.std.proofs.lemmas.List.Folds.{list_any-append}
use Rattle.std.proofs.lemmas.List.FromFn.{get_or-range_with_len, length-range_with_len, length-map-range_with_len}
use Rattle.logic_core.proofs.Booleans.{same_test as agree, or_false}
use lib.ListN.{replicate}
use Rattle.bpl_model.specs.Rising.{inside}
use Rattle.bpl_model.specs.Marking.{Marking, marks_of, is_marked, mark}
use Rattle.bpl_model.proofs.Members.{filter_alike, range_in}
use Rattle.bpl_model.proofs.Marks.{set_at}

abbrev has : List ℕ → ℕ → Bool
has ks d = list_any (λ k. d == k) ks

none_from : (a n : ℕ) → map (has []) (range_with_len a n) ≡ replicate n false
none_from a zero = refl
none_from a (suc n) = ap (λ ms. false ∷ ms) (none_from (a + 1) n)

pub none_are : (n : ℕ) → marks_of n [] ≡ replicate n false
none_are n = none_from 0 n

long : (n : ℕ) (ks : List ℕ) → length (marks_of n ks) ≡ n
long n ks = length-map-range_with_len (has ks) 0 n

mark_is : (n : ℕ) (ks : List ℕ) (d : ℕ) (b : Bool) → d < n → slice_index_or (marks_of n ks) d b ≡ has ks d
mark_is n ks d b l =
    let there : d < length (range_with_len 0 n) = omega (l, arith, length-range_with_len 0 n) in
    let same : 0 + d ≡ d = omega arith in
    get_or-map (has ks) (range_with_len 0 n) d 0 b there ∙ ap (has ks) (get_or-range_with_len 0 n d 0 l ∙ same)

either_way : (a b : ℕ) → (a == b) ≡ (b == a)
either_way a b = agree (a == b) (b == a) (λ h. eq-eqb b a (sym (eqb-true a b h))) (λ h. eq-eqb a b (sym (eqb-true b a h)))

turned : (v : ℕ) (ks : List ℕ) → has ks v ≡ list_any (λ x. x == v) ks
turned v [] = refl
turned v (k ∷ ks) = λ i. either_way v k i || turned v ks i

-- one more
more_are : (n : ℕ) (ks : List ℕ) (d : ℕ) → marks_of n (ks ++ d ∷ []) ≡ slice_set (marks_of n ks) d true
more_are n ks d =
    let same : length (marks_of n (ks ++ d ∷ [])) ≡ length (slice_set (marks_of n ks) d true) = long n (ks ++ d ∷ []) ∙ sym (length-set (marks_of n ks) d true ∙ long n ks) in
    ext_get_or false (marks_of n (ks ++ d ∷ [])) (slice_set (marks_of n ks) d true) same (λ e h.
    let l : e < n = omega (h, arith, long n (ks ++ d ∷ [])) in
    let m : e < length (marks_of n ks) = omega (l, arith, long n ks) in
    mark_is n (ks ++ d ∷ []) e false l
    ∙ (list_any-append (λ k. e == k) ks (d ∷ []) ∙ ap (λ b. has ks e || b) (or_false (e == d) ∙ either_way e d))
    ∙ sym (set_at (marks_of n ks) d e m ∙ ap (λ b. b || (d == e)) (mark_is n ks e false l)))

abbrev marking : ℕ → List ℕ → List ℕ → Marking
marking n ks fs = record { marks = marks_of n ks; fresh = fs }

abbrev marked_if : ℕ → List ℕ → List ℕ → ℕ → Bool → Marking
marked_if n ks fs d b = cond b (marking n ks fs) (record { marks = slice_set (marks_of n ks) d true; fresh = fs ++ d ∷ [] })

-- a position without a mark
mark_new : (n : ℕ) (ks fs : List ℕ) (d : ℕ) → d < n → list_any (λ k. d == k) ks ≡ false → marking n (ks ++ d ∷ []) (fs ++ d ∷ []) ≡ mark (marking n ks fs) d
mark_new n ks fs d l h =
    (λ i. record { marks = more_are n ks d i; fresh = fs ++ d ∷ [] }) ∙ sym (ap (marked_if n ks fs d) (mark_is n ks d true l ∙ h))

-- one that has a mark
mark_again : (n : ℕ) (ks fs : List ℕ) (d : ℕ) → d < n → list_any (λ k. d == k) ks ≡ true → marking n ks fs ≡ mark (marking n ks fs) d
mark_again n ks fs d l h = sym (ap (marked_if n ks fs d) (mark_is n ks d true l ∙ h))

-- one that isn't there
pub mark_past : (n : ℕ) (ks fs : List ℕ) (d : ℕ) → n ≤ d → marking n ks fs ≡ mark (marking n ks fs) d
mark_past n ks fs d h = sym (ap (marked_if n ks fs d) (get_or_past (marks_of n ks) d true (omega (h, arith, long n ks))))

-- a position that is put in, which had a mark or not
pub mark_put : (n : ℕ) (ks ls fs gs : List ℕ) (d : ℕ) (r : Bool) → d < n → r ≡ not (list_any (λ k. d == k) ks) → ls ≡ (if list_any (λ k. d == k) ks then ks else ks ++ d ∷ [])
    → r ≡ true → gs ≡ fs ++ d ∷ [] → marking n ls gs ≡ mark (marking n ks fs) d
mark_put n ks ls fs gs d r l e p t g = by (has ks d) refl
  where
    by : (b : Bool) → has ks d ≡ b → marking n ls gs ≡ mark (marking n ks fs) d
    by true h = let w : true ≡ false = sym t ∙ (e ∙ ap not h) in absurd cc
    by false h =
        let put : ls ≡ ks ++ d ∷ [] = p ∙ ap (λ b. if b then ks else ks ++ d ∷ []) h in
        (λ i. marking n (put i) (g i)) ∙ mark_new n ks fs d l h

pub mark_kept : (n : ℕ) (ks ls fs : List ℕ) (d : ℕ) (r : Bool) → d < n → r ≡ not (list_any (λ k. d == k) ks) → ls ≡ (if list_any (λ k. d == k) ks then ks else ks ++ d ∷ [])
    → r ≡ false → marking n ls fs ≡ mark (marking n ks fs) d
mark_kept n ks ls fs d r l e p t = by (has ks d) refl
  where
    by : (b : Bool) → has ks d ≡ b → marking n ls fs ≡ mark (marking n ks fs) d
    by true h =
        let kept : ls ≡ ks = p ∙ ap (λ b. if b then ks else ks ++ d ∷ []) h in
        (λ i. marking n (kept i) fs) ∙ mark_again n ks fs d l h
    by false h = let w : true ≡ false = sym (e ∙ ap not h) ∙ t in absurd cc

-- the positions with marks, in rising order
pub kept_are : (n : ℕ) (ks : List ℕ) → filter (is_marked (marks_of n ks)) (range_with_len 0 (length (marks_of n ks))) ≡ inside 0 n ks
kept_are n ks =
    ap (λ l. filter (is_marked (marks_of n ks)) (range_with_len 0 l)) (long n ks)
    ∙ filter_alike (is_marked (marks_of n ks)) (λ v. list_any (λ x. x == v) ks) (range_with_len 0 n)
    (λ v h. let u = (range_in 0 n v h).1 in mark_is n ks v false (omega (u, arith)) ∙ turned v ks)
