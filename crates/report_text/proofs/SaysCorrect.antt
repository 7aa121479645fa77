-- The line that a procedure is correct stands in a report only where each of its goals is proved.
use Rattle.std.proofs.Common.{◌≡◌, ◌∙◌, ◌⊎◌, inl, inr, ℕ, zero, suc, ◌+◌, ◌<◌, arith, Bool, true, false, cond, List, [], ◌∷◌, ◌++◌, All, Contains, length, slice_get, slice_index_or, Some, codes, decimal, refl, sym, ap}
use Rattle.std.specs.List.{list_all}
use Rattle.std.proofs.lemmas.List.{append_cancel_right}
use Rattle.flow_core.specs.declared.mark.GoalKind.{GoalKind}
use Rattle.flow_core.specs.declared.mark.GoalKind.TheVariants.{Assert, InvariantEntry, InvariantKept, Requires, Ensures, Point}
use Rattle.flow_core.specs.declared.mark.Mark.{Mark}
use Rattle.tableau.specs.Search.{Verdict, proved, «open», turns, wide, is_proved}
use Rattle.report_text.specs.Report.{kind_text, head, verdict_text, goal_line, goal_lines, last_words, last_line, proc_lines, report}
use Rattle.bv_base.specs.Text.{line_feed, count, IsWithout, text_of, HasLine}
use Rattle.report_text.specs.Called.{correct_line, colon, IsName}
use Rattle.report_text.specs.Correct.{IsProvedAmong, CorrectIsProved}
use Rattle.report_text.proofs.Counts.{count_append, decimal_has_none}
use Rattle.report_text.proofs.LinesIn.{line_is_among}

-- no line has a line feed

kind_has_none : (kind : GoalKind) → count line_feed (kind_text kind) ≡ 0
kind_has_none Assert = refl
kind_has_none InvariantEntry = refl
kind_has_none InvariantKept = refl
kind_has_none (Requires k) =
    let d = decimal_has_none k in
    let c1 = count_append line_feed (codes "requires(" ++ decimal k) (codes ")") in
    let c2 = count_append line_feed (codes "requires(") (decimal k) in
    omega (arith, d, c1, c2)
kind_has_none Ensures = refl
kind_has_none (Point k) =
    let d = decimal_has_none k in
    let c1 = count_append line_feed (codes "point(" ++ decimal k) (codes ")") in
    let c2 = count_append line_feed (codes "point(") (decimal k) in
    omega (arith, d, c1, c2)

verdict_has_none : (v : Verdict) → count line_feed (verdict_text v) ≡ 0
verdict_has_none proved = refl
verdict_has_none «open» = refl
verdict_has_none turns = refl
verdict_has_none wide = refl

-- a byte stands in a goal's line as often as in its parts
parts_of_goal : (c : ℕ) (name : List ℕ) (m : Mark) (v : Verdict) → count c (goal_line name m v)
    ≡ count c name + count c (codes " ") + count c (decimal m.place.line) + count c (codes ":") + count c (decimal m.place.col) + count c (codes " ") + count c (kind_text m.kind) + count c (codes " ") + count c (verdict_text v)
parts_of_goal c name m v =
    let named = name ++ codes " " in
    let lined = named ++ decimal m.place.line in
    let parted = lined ++ codes ":" in
    let placed = parted ++ decimal m.place.col in
    let spaced = placed ++ codes " " in
    let headed = spaced ++ kind_text m.kind in
    let open_end = headed ++ codes " " in
    let c1 = count_append c name (codes " ") in
    let c2 = count_append c named (decimal m.place.line) in
    let c3 = count_append c lined (codes ":") in
    let c4 = count_append c parted (decimal m.place.col) in
    let c5 = count_append c placed (codes " ") in
    let c6 = count_append c spaced (kind_text m.kind) in
    let c7 = count_append c headed (codes " ") in
    let c8 = count_append c open_end (verdict_text v) in
    omega (arith, c1, c2, c3, c4, c5, c6, c7, c8)

goal_has_none : (name : List ℕ) (m : Mark) (v : Verdict) → IsWithout line_feed name → IsWithout line_feed (goal_line name m v)
goal_has_none name m v h =
    let parts = parts_of_goal line_feed name m v in
    let d1 = decimal_has_none m.place.line in
    let d2 = decimal_has_none m.place.col in
    let k = kind_has_none m.kind in
    let w = verdict_has_none v in
    omega (arith, h, parts, d1, d2, k, w)

words_have_none : (b : Bool) → count line_feed (cond b (codes " correct") (codes " not proved")) ≡ 0
words_have_none true = refl
words_have_none false = refl

last_has_none : (name : List ℕ) (vs : List Verdict) → IsWithout line_feed name → IsWithout line_feed (last_line name vs)
last_has_none name vs h = let c = count_append line_feed name (last_words vs) in let w = words_have_none (list_all is_proved vs) in omega (arith, h, c, w)

-- what holds of all of two lists holds of all of both
all_append : {A : Type 0} (P : A → Type 0) (xs ys : List A) → All P xs → All P ys → All P (xs ++ ys)
all_append P [] ys hx hy k d lt = hy k d lt
all_append P (x ∷ xs) ys hx hy zero d lt = hx 0 d (omega arith)
all_append P (x ∷ xs) ys hx hy (suc k) d lt = all_append P xs ys (λ j e l. hx (suc j) e (omega (arith, l))) hy k d (omega (arith, lt))

all_one : {A : Type 0} (P : A → Type 0) (x : A) → P x → All P (x ∷ [])
all_one P x h zero d lt = h
all_one P x h (suc k) d lt = absurd (omega (arith, lt))

goals_have_none : (name : List ℕ) (ms : List Mark) (vs : List Verdict) → IsWithout line_feed name → All (IsWithout line_feed) (goal_lines name ms vs)
goals_have_none name [] vs h k d lt = absurd (omega (arith, lt))
goals_have_none name (m ∷ ms) [] h k d lt = absurd (omega (arith, lt))
goals_have_none name (m ∷ ms) (v ∷ vs) h zero d lt = goal_has_none name m v h
goals_have_none name (m ∷ ms) (v ∷ vs) h (suc k) d lt = goals_have_none name ms vs h k d (omega (arith, lt))

lines_have_none : (names : List (List ℕ)) (mss : List (List Mark)) (vss : List (List Verdict)) → All IsName names → All (IsWithout line_feed) (report names mss vss)
lines_have_none [] mss vss h k d lt = absurd (omega (arith, lt))
lines_have_none (n ∷ ns) [] vss h k d lt = absurd (omega (arith, lt))
lines_have_none (n ∷ ns) (ms ∷ mss) [] h k d lt = absurd (omega (arith, lt))
lines_have_none (n ∷ ns) (ms ∷ mss) (vs ∷ vss) h k d lt =
    let named : IsName n = h 0 [] (omega arith) in
    all_append (IsWithout line_feed) (proc_lines n ms vs) (report ns mss vss)
    (all_append (IsWithout line_feed) (goal_lines n ms vs) (last_line n vs ∷ []) (goals_have_none n ms vs named.no_feed) (all_one (IsWithout line_feed) (last_line n vs) (last_has_none n vs named.no_feed)))
    (lines_have_none ns mss vss (λ k d lt. h (suc k) d (omega (arith, lt)))) k d lt

-- which line says that a procedure is correct

-- a goal's line has a colon
goal_says_other : (name other : List ℕ) (m : Mark) (v : Verdict) → IsWithout colon name → goal_line other m v ≡ correct_line name → ⊥
goal_says_other name other m v h e =
    let parts = parts_of_goal colon other m v in
    let none : count colon (correct_line name) ≡ count colon name + 0 = count_append colon name (codes " correct") in
    let same : count colon (goal_line other m v) ≡ count colon (correct_line name) = ap (count colon) e in
    omega (arith, h, parts, none, same)

goals_say_other : (name other : List ℕ) (ms : List Mark) (vs : List Verdict) → IsWithout colon name → Contains (goal_lines other ms vs) (correct_line name) → ⊥
goals_say_other name other [] vs h (k, lt, e) = omega (arith, lt)
goals_say_other name other (m ∷ ms) [] h (k, lt, e) = omega (arith, lt)
goals_say_other name other (m ∷ ms) (v ∷ vs) h (zero, lt, e) = goal_says_other name other m v h e
goals_say_other name other (m ∷ ms) (v ∷ vs) h (suc k, lt, e) = goals_say_other name other ms vs h (k, omega (arith, lt), e)

-- the last byte of a text, or this one where there is none
abbrev final : ℕ → List ℕ → ℕ
final c [] = c
final c (b ∷ bs) = final b bs

final_behind : (c : ℕ) (xs : List ℕ) (b : ℕ) (bs : List ℕ) → final c (xs ++ b ∷ bs) ≡ final b bs
final_behind c [] b bs = refl
final_behind c (x ∷ xs) b bs = final_behind x xs b bs

-- the line of a procedure that isn't proved ends otherwise
last_says : (name other : List ℕ) (b : Bool) → other ++ cond b (codes " correct") (codes " not proved") ≡ correct_line name → (other ≡ name) × (b ≡ true)
last_says name other true e = (append_cancel_right other name (codes " correct") e, refl)
last_says name other false e = absurd (
    let f1 : final 0 (other ++ codes " not proved") ≡ 100 = final_behind 0 other 32 (codes "not proved") in
    let f2 : final 0 (name ++ codes " correct") ≡ 116 = final_behind 0 name 32 (codes "correct") in
    let same : final 0 (other ++ codes " not proved") ≡ final 0 (name ++ codes " correct") = ap (final 0) e in
    omega (arith, f1, f2, same))

in_either : {A : Type 0} (xs ys : List A) (z : A) → Contains (xs ++ ys) z → Contains xs z ⊎ Contains ys z
in_either [] ys z c = inr c
in_either (x ∷ xs) ys z (zero, lt, e) = inl (0, omega arith, e)
in_either (x ∷ xs) ys z (suc k, lt, e) = one_more (in_either xs ys z (k, omega (arith, lt), e))
  where
    one_more : Contains xs z ⊎ Contains ys z → Contains (x ∷ xs) z ⊎ Contains ys z
    one_more (inl (j, l, e')) = inl (suc j, omega (arith, l), e')
    one_more (inr c) = inr c

in_one : {A : Type 0} (x z : A) → Contains (x ∷ []) z → x ≡ z
in_one x z (zero, lt, e) = e
in_one x z (suc k, lt, e) = absurd (omega (arith, lt))

further : (n : List ℕ) (ns : List (List ℕ)) (vs : List Verdict) (vss : List (List Verdict)) (name : List ℕ) → IsProvedAmong ns vss name → IsProvedAmong (n ∷ ns) (vs ∷ vss) name
further n ns vs vss name p = record { place = suc p.place; verdicts = p.verdicts; named = p.named; given = p.given; proved = p.proved }

correct_among : (names : List (List ℕ)) (mss : List (List Mark)) (vss : List (List Verdict)) (name : List ℕ) → IsWithout colon name → Contains (report names mss vss) (correct_line name) → IsProvedAmong names vss name
correct_among [] mss vss name h (k, lt, e) = absurd (omega (arith, lt))
correct_among (n ∷ ns) [] vss name h (k, lt, e) = absurd (omega (arith, lt))
correct_among (n ∷ ns) (ms ∷ mss) [] name h (k, lt, e) = absurd (omega (arith, lt))
correct_among (n ∷ ns) (ms ∷ mss) (vs ∷ vss) name h c = by_part (correct_among ns mss vss name h) (in_either (proc_lines n ms vs) (report ns mss vss) (correct_line name) c)
  where
    here : (n ≡ name) × (list_all is_proved vs ≡ true) → IsProvedAmong (n ∷ ns) (vs ∷ vss) name
    here (e, all) = record { place = 0; verdicts = vs; named = ap Some e; given = refl; proved = all }

    by_line : Contains (goal_lines n ms vs) (correct_line name) ⊎ Contains (last_line n vs ∷ []) (correct_line name) → IsProvedAmong (n ∷ ns) (vs ∷ vss) name
    by_line (inl g) = absurd (goals_say_other name n ms vs h g)
    by_line (inr l) = here (last_says name n (list_all is_proved vs) (in_one (last_line n vs) (correct_line name) l))

    by_part : (Contains (report ns mss vss) (correct_line name) → IsProvedAmong ns vss name) → Contains (proc_lines n ms vs) (correct_line name) ⊎ Contains (report ns mss vss) (correct_line name) → IsProvedAmong (n ∷ ns) (vs ∷ vss) name
    by_part more (inl p) = by_line (in_either (goal_lines n ms vs) (last_line n vs ∷ []) (correct_line name) p)
    by_part more (inr r) = further n ns vs vss name (more r)

pub correct_is_proved : CorrectIsProved
correct_is_proved names mss vss name hs h has =
    let none : IsWithout line_feed (correct_line name) = let c = count_append line_feed name (codes " correct") in let f = h.no_feed in omega (arith, c, f) in
    correct_among names mss vss name h.no_colon (line_is_among (report names mss vss) (correct_line name) (lines_have_none names mss vss hs) none has)
