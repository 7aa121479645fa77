-- The goals of procedures of which the first and the last have the dependency texts of those before.
use Rattle.std.proofs.Common.{◌≡◌, ◌∙◌, refl, sym, ap, subst, arith, append_assoc, ℕ, ◌+◌, ◌-◌, ◌≤◌, List, [], ◌∷◌, ◌++◌, map, length, take, drop, sum, slice_range, length-append}
use Rattle.std.specs.Prelude.{flat_map, Contains}
use Rattle.std.proofs.lemmas.List.{length-map, take-map, drop-map, take-append-drop, drop-drop, take_at, drop_at}
use Rattle.std.proofs.lemmas.List.Elements.{Contains-append_left, Contains-append_right}
use Rattle.std.proofs.lemmas.Grind.{flat_map-append}
use Rattle.obligation_text.specs.Asked.{Asked, key_of}
use Rattle.bpl_model.specs.Module.{Module}
use Rattle.vc_build.specs.Large.{count_limit, program_goals}
use Rattle.vc_build.specs.Rebuild.{BuiltProc}
use Rattle.vc_rebuild.specs.Inside.{TextsFix}
use Rattle.board_core.specs.Difference.{IsDifference, with_middle}
use Rattle.board_core.proofs.Middle.{middle_keys}
use Rattle.program_opening.specs.ProcGoals.{goals_by_proc}
use Rattle.edit_session.specs.Program.{question, questions}
use Rattle.edit_session.specs.Built.{proc_goals, goal_counts, questions_of}
use Rattle.edit_session.proofs.Parts.{many_questions}
use Rattle.edit_session.proofs.Programs.{questions_by}
use Rattle.edit_session.proofs.SharedGoals.{asked_the_same}

-- procedures of the same dependency texts ask the same questions
same_questions : (turns : ℕ) (us vs : List BuiltProc) → TextsFix us vs → map (λ (b : BuiltProc). b.depends) us ≡ map (λ (b : BuiltProc). b.depends) vs → questions_of turns us ≡ questions_of turns vs
same_questions turns [] [] fix e = refl
same_questions turns [] (v ∷ vs) fix e = absurd (cc)
same_questions turns (u ∷ us) [] fix e = absurd (cc)
same_questions turns (u ∷ us) (v ∷ vs) fix e =
    let here : u.depends ≡ v.depends = cc in
    let behind : map (λ (b : BuiltProc). b.depends) us ≡ map (λ (b : BuiltProc). b.depends) vs = cc in
    let own = asked_the_same turns u.goals v.goals (fix u v (0, omega arith, refl) (0, omega arith, refl) here) in
    λ i. own i ++ same_questions turns us vs (λ b c old new t. fix b c (Contains-append_right (u ∷ []) us b old) (Contains-append_right (v ∷ []) vs c new) t) behind i

in_first : (n : ℕ) (bs : List BuiltProc) (b : BuiltProc) → Contains (take n bs) b → Contains bs b
in_first n bs b h = subst (λ xs. Contains xs b) (take-append-drop n bs) (Contains-append_left (take n bs) (drop n bs) b h)

in_last : (n : ℕ) (bs : List BuiltProc) (b : BuiltProc) → Contains (drop n bs) b → Contains bs b
in_last n bs b h = subst (λ xs. Contains xs b) (take-append-drop n bs) (Contains-append_right (take n bs) (drop n bs) b h)

-- the questions of procedures in three parts
in_parts_of : (turns : ℕ) (bs : List BuiltProc) (a b : ℕ) → a ≤ b → questions_of turns bs ≡ questions_of turns (take a bs) ++ questions_of turns (slice_range bs a b) ++ questions_of turns (drop b bs)
in_parts_of turns bs a b le =
    let asked = λ (x : BuiltProc). map (question turns) x.goals in
    let far : a + (b - a) ≡ b = omega (arith, le) in
    let rest : drop a bs ≡ slice_range bs a b ++ drop b bs = sym (take-append-drop (b - a) (drop a bs)) ∙ ap (λ l. slice_range bs a b ++ l) (drop-drop (b - a) a bs ∙ ap (λ n. drop n bs) far) in
    let whole : bs ≡ take a bs ++ slice_range bs a b ++ drop b bs = sym (take-append-drop a bs) ∙ ap (λ l. take a bs ++ l) rest ∙ sym (append_assoc (take a bs) (slice_range bs a b) (drop b bs)) in
    ap (questions_of turns) whole ∙ flat_map-append asked (take a bs ++ slice_range bs a b) (drop b bs) ∙ ap (λ l. l ++ questions_of turns (drop b bs)) (flat_map-append asked (take a bs) (slice_range bs a b))

-- how many they are
parts_count : (turns : ℕ) (bs : List BuiltProc) (a b : ℕ) → a ≤ b → length (questions_of turns bs) ≡ length (questions_of turns (take a bs)) + length (questions_of turns (slice_range bs a b)) + length (questions_of turns (drop b bs))
parts_count turns bs a b le = omega (
  arith,
  ap length (in_parts_of turns bs a b le),
  length-append (questions_of turns (take a bs) ++ questions_of turns (slice_range bs a b)) (questions_of turns (drop b bs)),
  length-append (questions_of turns (take a bs)) (questions_of turns (slice_range bs a b)),
)

-- there are no more goals in a part
pub first_few : (turns : ℕ) (bs : List BuiltProc) (a b : ℕ) → a ≤ b → sum (goal_counts bs) ≤ count_limit → sum (goal_counts (take a bs)) ≤ count_limit
first_few turns bs a b le few = omega (arith, few, many_questions turns bs, many_questions turns (take a bs), parts_count turns bs a b le)

pub last_few : (turns : ℕ) (bs : List BuiltProc) (a b : ℕ) → a ≤ b → sum (goal_counts bs) ≤ count_limit → sum (goal_counts (drop b bs)) ≤ count_limit
last_few turns bs a b le few = omega (arith, few, many_questions turns bs, many_questions turns (drop b bs), parts_count turns bs a b le)

pub few_built : (m : Module) (bs : List BuiltProc) → map proc_goals bs ≡ goals_by_proc m → length (program_goals m) ≤ count_limit → sum (goal_counts bs) ≤ count_limit
few_built m bs procs few = omega (arith, few, many_questions 0 bs, ap length (questions_by 0 m bs procs), length-map (program_goals m) (question 0))

module _ (turns : ℕ) (old new : List BuiltProc) (start old_end new_end first last : ℕ) (fix : TextsFix old new)
    (d : IsDifference (map (λ (b : BuiltProc). b.depends) old) (map (λ (b : BuiltProc). b.depends) new) start old_end new_end)
    (starts : first ≡ sum (goal_counts (take start new))) (ends : last ≡ sum (goal_counts (drop new_end new))) where
  first_same : questions_of turns (take start old) ≡ questions_of turns (take start new)
  first_same = same_questions turns (take start old) (take start new) (λ b c before after t. fix b c (in_first start old b before) (in_first start new c after) t)
      (sym (take-map (λ (b : BuiltProc). b.depends) start old) ∙ d.before ∙ take-map (λ (b : BuiltProc). b.depends) start new)

  last_same : questions_of turns (drop old_end old) ≡ questions_of turns (drop new_end new)
  last_same = same_questions turns (drop old_end old) (drop new_end new) (λ b c before after t. fix b c (in_last old_end old b before) (in_last new_end new c after) t)
      (sym (drop-map (λ (b : BuiltProc). b.depends) old_end old) ∙ d.after ∙ drop-map (λ (b : BuiltProc). b.depends) new_end new)

  first_count : length (questions_of turns (take start old)) ≡ first
  first_count = omega (arith, starts, many_questions turns (take start new), ap length first_same)

  last_count : length (questions_of turns (drop old_end old)) ≡ last
  last_count = omega (arith, ends, many_questions turns (drop new_end new), ap length last_same)

  old_count : length (questions_of turns old) ≡ first + length (questions_of turns (slice_range old start old_end)) + last
  old_count = omega (arith, parts_count turns old start old_end d.old_starts, first_count, last_count)

  pub changed_fits : first + last ≤ length (map key_of (questions_of turns old))
  changed_fits = omega (arith, old_count, length-map (questions_of turns old) key_of)

  -- the keys of the new ones are those of the old ones with others between the first and the last
  pub changed_keys : with_middle first last (map key_of (questions_of turns (slice_range new start new_end))) (map key_of (questions_of turns old)) ≡ map key_of (questions_of turns new)
  changed_keys =
      let qs = questions_of turns old in
      let front = questions_of turns (take start old) in
      let gone = questions_of turns (slice_range old start old_end) in
      let back = questions_of turns (drop old_end old) in
      let come = questions_of turns (slice_range new start new_end) in
      let to : length (front ++ gone) ≡ length qs - last = omega (arith, old_count, first_count, length-append front gone) in
      let kept : take first qs ≡ front = ap (take first) (in_parts_of turns old start old_end d.old_starts ∙ append_assoc front gone back) ∙ take_at front (gone ++ back) first first_count in
      let left : drop (length qs - last) qs ≡ back = ap (drop (length qs - last)) (in_parts_of turns old start old_end d.old_starts) ∙ drop_at (front ++ gone) back (length qs - last) to in
      sym (middle_keys key_of first last (length qs - last) qs come refl)
      ∙ ap (map key_of) ((λ i. (kept ∙ first_same) i ++ come ++ (left ∙ last_same) i) ∙ sym (in_parts_of turns new start new_end d.new_starts))
