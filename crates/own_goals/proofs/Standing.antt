-- Answers that stand: at first none, after goals are settled all, and after others are opened those of what stayed.
use Rattle.std.proofs.Common.{◌≡◌, ◌∙◌, ◌++◌, ◌+◌, ◌-◌, ◌≤◌, ℕ, refl, sym, ap, subst, arith, List, [], ◌∷◌, map, take, drop, length, length-drop, min}
use Rattle.std.proofs.lemmas.List.{take-take, take-map, drop-map, drop-drop, take_all, length-map, take-append-drop, map-append}
use Rattle.obligation_text.specs.Asked.{Asked, key_of, KeysTellApart}
use Rattle.tableau.specs.Settled.{Settled, settled_by}
use Rattle.board_core.specs.Kept.{Key}
use Rattle.board_core.specs.Difference.{IsDifference, with_middle}
use Rattle.board_core.proofs.Middle.{middle_differs, middle_keys}
use Rattle.own_goals.specs.Standing.{StillStand}

-- lists of questions with equal keys are equal
pub same_questions : KeysTellApart → (ps qs : List Asked) → map key_of ps ≡ map key_of qs → ps ≡ qs
same_questions apart [] [] e = refl
same_questions apart [] (q ∷ qs) e = absurd (cc)
same_questions apart (p ∷ ps) [] e = absurd (cc)
same_questions apart (p ∷ ps) (q ∷ qs) e =
    let here : key_of p ≡ key_of q = cc in
    let behind : map key_of ps ≡ map key_of qs = cc in
    λ i. apart p q here i ∷ same_questions apart ps qs behind i

pub none_stand : StillStand [] [] 0 0
none_stand = record { questions = []; asked = refl; first_asked = omega arith; first_told = omega arith; last_asked = omega arith; last_told = omega arith; starts = refl; ends = refl }

pub all_stand : (keys : List Key) (qs : List Asked) (told : List Settled) (n : ℕ) → keys ≡ map key_of qs → told ≡ map settled_by qs → n ≡ length told → StillStand keys told n n
all_stand keys qs told n asked are counted =
    let as_many : length told ≡ length qs = ap length are ∙ length-map qs settled_by in
    let told_from : length told - n ≡ 0 = omega (arith, counted) in
    let asked_from : length qs - n ≡ 0 = omega (arith, counted, as_many) in
    record {
      questions = qs;
      asked = asked;
      first_asked = omega (arith, counted, as_many);
      first_told = omega (arith, counted);
      last_asked = omega (arith, counted, as_many);
      last_told = omega (arith, counted);
      starts = take_all n told (omega (arith, counted)) ∙ are ∙ ap (map settled_by) (sym (take_all n qs (omega (arith, counted, as_many))));
      ends = ap (λ k. drop k told) told_from ∙ are ∙ ap (map settled_by) (sym (ap (λ k. drop k qs) asked_from));
    }

-- what stands of the first ones where goals are opened that begin alike
starts_after : KeysTellApart → (old new : List Key) (told : List Settled) (qs rs : List Asked) (first start f : ℕ) → old ≡ map key_of qs → new ≡ map key_of rs → take first told ≡ map settled_by (take first qs)
    → take start old ≡ take start new → f ≤ first → f ≤ start → take f told ≡ map settled_by (take f rs)
starts_after apart old new told qs rs first start f asked again stood before few below =
    let keys : take f old ≡ take f new = sym (take-take f start old below) ∙ ap (take f) before ∙ take-take f start new below in
    let same : take f qs ≡ take f rs = same_questions apart (take f qs) (take f rs) (sym (take-map key_of f qs) ∙ ap (take f) (sym asked) ∙ keys ∙ ap (take f) again ∙ take-map key_of f rs) in
    sym (take-take f first told few) ∙ ap (take f) stood ∙ take-map settled_by f (take first qs) ∙ ap (map settled_by) (take-take f first qs few ∙ same)

-- and of the last ones where they end alike
ends_after : KeysTellApart → (old new : List Key) (told : List Settled) (qs rs : List Asked) (last old_end new_end l : ℕ) → old ≡ map key_of qs → new ≡ map key_of rs
    → drop (length told - last) told ≡ map settled_by (drop (length qs - last) qs) → drop old_end old ≡ drop new_end new → old_end ≤ length old → new_end ≤ length new
    → last ≤ length qs → last ≤ length told → l ≤ last → l ≤ length old - old_end → drop (length told - l) told ≡ map settled_by (drop (length rs - l) rs)
ends_after apart old new told qs rs last old_end new_end l asked again stood after old_ends new_ends few_asked few_told few below =
    let as_many : length old ≡ length qs = ap length asked ∙ length-map qs key_of in
    let as_many_again : length new ≡ length rs = ap length again ∙ length-map rs key_of in
    let left : length old - old_end ≡ length new - new_end = sym (length-drop old_end old) ∙ ap length after ∙ length-drop new_end new in
    let m = (length old - old_end) - l in
    let old_at : length qs - l ≡ old_end + m = omega (arith, as_many, old_ends, below) in
    let new_at : new_end + m ≡ length rs - l = omega (arith, as_many_again, new_ends, left, below) in
    let keys : drop (length qs - l) old ≡ drop (length rs - l) new = ap (λ k. drop k old) old_at ∙ sym (drop-drop m old_end old) ∙ ap (drop m) after ∙ drop-drop m new_end new ∙ ap (λ k. drop k new) new_at in
    let same : drop (length qs - l) qs ≡ drop (length rs - l) rs =
    same_questions apart (drop (length qs - l) qs) (drop (length rs - l) rs) (sym (drop-map key_of (length qs - l) qs) ∙ ap (drop (length qs - l)) (sym asked) ∙ keys ∙ ap (drop (length rs - l)) again ∙ drop-map key_of (length rs - l) rs) in
    let told_at : length told - l ≡ (length told - last) + (last - l) = omega (arith, few_told, few) in
    let asked_at : (length qs - last) + (last - l) ≡ length qs - l = omega (arith, few_asked, few) in
    ap (λ k. drop k told) told_at ∙ sym (drop-drop (last - l) (length told - last) told) ∙ ap (drop (last - l)) stood ∙ drop-map settled_by (last - l) (drop (length qs - last) qs)
    ∙ ap (map settled_by) (drop-drop (last - l) (length qs - last) qs ∙ ap (λ k. drop k qs) asked_at ∙ same)

pub stand_after : KeysTellApart → (old new : List Key) (told : List Settled) (rs : List Asked) (first last start old_end new_end f l : ℕ) → StillStand old told first last → IsDifference old new start old_end new_end → new ≡ map key_of rs
    → f ≤ first → f ≤ start → l ≤ last → l ≤ length old - old_end → StillStand new told f l
stand_after apart old new told rs first last start old_end new_end f l h d again few below few_last below_last =
    let as_many : length new ≡ length rs = ap length again ∙ length-map rs key_of in
    let left : length old - old_end ≡ length new - new_end = sym (length-drop old_end old) ∙ ap length d.after ∙ length-drop new_end new in
    record {
      questions = rs;
      asked = again;
      first_asked = omega (arith, as_many, below, d.new_starts, d.new_ends);
      first_told = omega (arith, few, h.first_told);
      last_asked = omega (arith, as_many, left, below_last);
      last_told = omega (arith, few_last, h.last_told);
      starts = starts_after apart old new told h.questions rs first start f h.asked again h.starts d.before few below;
      ends = ends_after apart old new told h.questions rs last old_end new_end l h.asked again h.ends d.after d.old_ends d.new_ends h.last_asked h.last_told few_last below_last;
    }

-- what stands where the first and the last goals stay, and others come between them
pub stand_around : KeysTellApart → (old new : List Key) (told : List Settled) (mid : List Asked) (first last start end f l : ℕ) → StillStand old told first last → start + end ≤ length old → new ≡ with_middle start end (map key_of mid) old
    → f ≤ first → f ≤ start → l ≤ last → l ≤ end → StillStand new told f l
stand_around apart old new told mid first last start end f l h fits put few below few_last below_last =
    let qs = h.questions in
    let as_many : length old ≡ length qs = ap length h.asked ∙ length-map qs key_of in
    let again : new ≡ map key_of (take start qs ++ mid ++ drop (length qs - end) qs) =
    put ∙ ap (with_middle start end (map key_of mid)) h.asked ∙ sym (middle_keys key_of start end (length qs - end) qs mid refl) in
    let differs : IsDifference old new start (length old - end) (length new - end) =
    subst (λ ks. IsDifference old ks start (length old - end) (length ks - end)) (sym put) (middle_differs start end (map key_of mid) old fits _ refl) in
    stand_after apart old new told (take start qs ++ mid ++ drop (length qs - end) qs) first last start (length old - end) (length new - end) f l h differs again few below few_last (omega (arith, below_last, fits))

pub key_count : {X : Type 0} (asks : X → Asked) (xs : List X) → length (map (λ x. key_of (asks x)) xs) ≡ length xs
key_count asks xs = length-map xs (λ x. key_of (asks x))

-- the answers that stand, where questions and answers are shared
module _ {X Y : Type 0} (asks : X → Asked) (answers : Y → Settled) where
  pub first_recalled : KeysTellApart → (xs : List X) (ys : List Y) (first last : ℕ) → StillStand (map key_of (map asks xs)) (map answers ys) first last
      → map answers (take first ys) ≡ map settled_by (map asks (take first xs))
  first_recalled apart xs ys first last h =
      let same : h.questions ≡ map asks xs = same_questions apart h.questions (map asks xs) (sym h.asked) in
      sym (take-map answers first ys) ∙ h.starts ∙ ap (λ qs. map settled_by (take first qs)) same ∙ ap (map settled_by) (take-map asks first xs)

  pub last_within : (xs : List X) (ys : List Y) (first last to : ℕ) → StillStand (map key_of (map asks xs)) (map answers ys) first last → length xs - to ≤ last → length xs - to ≤ length ys
  last_within xs ys first last to h few = omega (arith, few, h.last_told, length-map ys answers)

  pub last_recalled : KeysTellApart → (xs : List X) (ys : List Y) (first last to : ℕ) (before after own : List Y) → StillStand (map key_of (map asks xs)) (map answers ys) first last → to ≤ length xs → length xs - to ≤ last
      → map answers before ≡ map settled_by (map asks (take to xs)) → own ≡ drop (length ys - (length xs - to)) ys → map answers after ≡ map answers before ++ map answers own
      → map answers after ≡ map settled_by (map asks xs)
  last_recalled apart xs ys first last to before after own h within few so_far ones pushed =
      let keys = map key_of (map asks xs) in
      let l = length xs - to in
      let keyed : length keys ≡ length xs = length-map (map asks xs) key_of ∙ length-map xs asks in
      let asked_to : length (map asks xs) - l ≡ to = omega (arith, within, length-map xs asks) in
      let told_to : length (map answers ys) - l ≡ length ys - l = omega (arith, length-map ys answers) in
      let lasts : drop (length (map answers ys) - l) (map answers ys) ≡ map settled_by (drop (length (map asks xs) - l) (map asks xs)) =
      ends_after apart keys keys (map answers ys) h.questions (map asks xs) last (length keys - l) (length keys - l) l h.asked refl h.ends refl (omega arith) (omega arith) h.last_asked h.last_told few (omega (arith, keyed)) in
      let ending : map answers own ≡ map settled_by (map asks (drop to xs)) =
      ap (map answers) ones ∙ sym (drop-map answers (length ys - l) ys) ∙ ap (λ k. drop k (map answers ys)) (sym told_to) ∙ lasts ∙ ap (λ k. map settled_by (drop k (map asks xs))) asked_to ∙ ap (map settled_by) (drop-map asks to xs) in
      pushed ∙ (λ i. so_far i ++ ending i) ∙ sym (map-append settled_by (map asks (take to xs)) (map asks (drop to xs)))
      ∙ ap (map settled_by) (sym (map-append asks (take to xs) (drop to xs)) ∙ ap (map asks) (take-append-drop to xs))

pub first_within : {X : Type 0} (answers : X → Settled) (keys : List Key) (ys : List X) (first last : ℕ) → StillStand keys (map answers ys) first last → first ≤ length ys
first_within answers keys ys first last h = omega (arith, h.first_told, length-map ys answers)

module _ {X : Type 0} (asks : X → Asked) where
  count_asked : (xs : List X) (told : List Settled) (first last : ℕ) (h : StillStand (map key_of (map asks xs)) told first last) → length h.questions ≡ length xs
  count_asked xs told first last h = sym (length-map h.questions key_of) ∙ sym (ap length h.asked) ∙ length-map (map asks xs) key_of ∙ length-map xs asks

  pub between_starts : (xs : List X) (told : List Settled) (first last to : ℕ) → StillStand (map key_of (map asks xs)) told first last → to ≡ length xs - min last (length xs - first) → first ≤ to
  between_starts xs told first last to h is = omega (arith, is, h.first_asked, count_asked xs told first last h)

  pub last_few : (xs : List X) (told : List Settled) (first last to : ℕ) → StillStand (map key_of (map asks xs)) told first last → to ≡ length xs - min last (length xs - first) → length xs - to ≤ last
  last_few xs told first last to h is = omega (arith, is)
