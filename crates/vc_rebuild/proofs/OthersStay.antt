-- Where one procedure has another body, what is built of the others stays.
use Rattle.std.specs.Prelude.{◌≡◌, refl, ℕ, zero, suc, ◌+◌, ◌<◌, nat_eq, Bool, true, false, not, cond, List, [], ◌∷◌, ◌++◌, map, length, filter, take, drop, get_or, is_some, Option, Some, None, option_map, slice_get, slice_set, Contains}
use Rattle.std.specs.List.{AllByRecursion}
use Rattle.std.proofs.Common.{ap, sym, subst, arith, ◌∙◌}
use Rattle.std.proofs.lemmas.Bool.{eqb-true}
use Rattle.std.proofs.lemmas.List.{length-map, map-set, take-set}
use Rattle.std.proofs.lemmas.Option.{slice_get-map}
use Rattle.bv_base.specs.declared.place.Place.{Place}
use Rattle.passive_form.proofs.Lists.{contains_map, filter_has}
use Rattle.bpl_model.specs.Module.{Proc, Module}
use Rattle.bpl_goto.specs.Removed.{removed, remove_gotos}
use Rattle.vc_build.specs.Depends.{depends}
use Rattle.vc_build.specs.Marks.{contract_marks, call_marks}
use Rattle.vc_build.specs.MarkLaws.{GoalsHaveTheirMarks}
use Rattle.vc_build.specs.Rebuild.{BuiltProc, with_body}
use Rattle.vc_rebuild.specs.Kept.{having_body, kept_of, is_new, new_in}
use Rattle.vc_rebuild.specs.Inside.{TextsDecide}
use Rattle.vc_rebuild.specs.Change.{DiffersAt, IsPutAt, IsChangedBody, IsChangedAt, IsPlainBody, IsPlainAt, IsOwnAlone}
use Rattle.vc_rebuild.specs.declared.change.ChangedBody.{ChangedBody}
use Rattle.vc_rebuild.proofs.CallsAlike.{called_there, marks_stay, counted_on}
use Rattle.vc_rebuild.proofs.KeptGoals.{contained, same_whole}
use Rattle.vc_rebuild.proofs.OneBody.{depends_kept, stands_found}
use Rattle.vc_rebuild.proofs.Programs.{is_left, kept_built}

-- ---- a list with another element in a place

get_same : {A : Type 0} (xs : List A) (k : ℕ) (x y : A) → slice_get xs k ≡ Some x → slice_get (slice_set xs k y) k ≡ Some y
get_same [] k x y was = absurd (cc)
get_same (z ∷ xs) zero x y was = refl
get_same (z ∷ xs) (suc k) x y was = get_same xs k x y was

-- places that are apart
first_apart : (k : ℕ) → zero ≡ suc k → ⊥
first_apart k e = absurd (omega (e, arith))

later_apart : (i : ℕ) → suc i ≡ zero → ⊥
later_apart i e = absurd (omega (e, arith))

next_apart : (i k : ℕ) → (i ≡ k → ⊥) → suc i ≡ suc k → ⊥
next_apart i k other e = other (omega (e, arith))

not_equal : (i k : ℕ) → (i ≡ k → ⊥) → nat_eq i k ≡ false
not_equal i k other = by (nat_eq i k) refl
  where
    by : (b : Bool) → nat_eq i k ≡ b → b ≡ false
    by true e = absurd (other (eqb-true i k e))
    by false e = refl

get_other : {A : Type 0} (xs : List A) (k i : ℕ) (y : A) → (i ≡ k → ⊥) → slice_get (slice_set xs k y) i ≡ slice_get xs i
get_other [] k i y other = refl
get_other (z ∷ xs) zero zero y other = absurd (other refl)
get_other (z ∷ xs) zero (suc i) y other = refl
get_other (z ∷ xs) (suc k) zero y other = refl
get_other (z ∷ xs) (suc k) (suc i) y other = get_other xs k i y (λ e. other (ap suc e))

set_here : {A : Type 0} (xs : List A) (i : ℕ) (y : A) → i < length xs → take i xs ++ y ∷ drop (suc i) xs ≡ slice_set xs i y
set_here [] i y below = absurd (omega (below, arith))
set_here (x ∷ xs) zero y below = refl
set_here (x ∷ xs) (suc i) y below = ap (λ zs. x ∷ zs) (set_here xs i y (omega (below, arith)))

-- what stands before the place, the new one, and what stands behind
pub in_parts : {A : Type 0} (xs : List A) (i : ℕ) (y : A) (none first more all : List A) → i < length xs → none ≡ [] → first ≡ none ++ take i xs → more ≡ first ++ y ∷ [] → all ≡ more ++ drop (i + 1) xs → all ≡ slice_set xs i y
in_parts xs i y none first more all below empty a b c =
    let next : i + 1 ≡ suc i = omega arith in
    c ∙ (λ j. ((b ∙ ap (λ zs. zs ++ y ∷ []) (a ∙ ap (λ zs. zs ++ take i xs) empty)) j) ++ drop (next j) xs) ∙ append_one (take i xs) y (drop (suc i) xs) ∙ set_here xs i y below
  where
    append_one : {A : Type 0} (us : List A) (u : A) (vs : List A) → (us ++ u ∷ []) ++ vs ≡ us ++ u ∷ vs
    append_one [] u vs = refl
    append_one (w ∷ us) u vs = ap (λ zs. w ∷ zs) (append_one us u vs)

pub got_of : (P : Proc → Type 0) (ps : List Proc) (k : ℕ) (p : Proc) → AllByRecursion P ps → Some p ≡ slice_get ps k → P p
got_of P [] k p all e = absurd (cc)
got_of P (q ∷ ps) zero p all e = let same : q ≡ p = cc in subst P same all.0
got_of P (q ∷ ps) (suc k) p all e = got_of P ps k p all.1 e

-- ---- procedures with a body, in the place of one of which another one comes

pub body_next : (p : Proc) (ps : List Proc) → length (having_body (p ∷ ps)) ≡ cond (is_some p.body) 1 0 + length (having_body ps)
body_next p ps = by (is_some p.body)
  where
    by : (b : Bool) → length (cond b (p ∷ having_body ps) (having_body ps)) ≡ cond b 1 0 + length (having_body ps)
    by true = omega arith
    by false = omega arith

pub bodies_on : (ps : List Proc) (i : ℕ) (p : Proc) (count n all : ℕ) → i < length ps → p ≡ get_or ps i p → count + length (having_body (drop i ps)) ≡ all → n ≡ cond (is_some p.body) 1 0 → (count + n) + length (having_body (drop (i + 1) ps)) ≡ all
bodies_on ps i p count n all below is so_far told = counted_on (λ xs. length (having_body xs)) (λ (x : Proc). cond (is_some x.body) 1 0) body_next ps i p count n all below is so_far told

-- all of a list, or all but the one in a place
abbrev AllOf : (Proc → Type 0) → List Proc → Type 0
AllOf P ps = (i : ℕ) (q : Proc) → slice_get ps i ≡ Some q → is_some q.body ≡ true → P q

abbrev Others : (Proc → Type 0) → ℕ → List Proc → Type 0
Others P k ps = (i : ℕ) (q : Proc) → (i ≡ k → ⊥) → slice_get ps i ≡ Some q → is_some q.body ≡ true → P q

below_all : (ps : List Proc) (k : ℕ) (old : Proc) → slice_get ps k ≡ Some old → is_some old.body ≡ true → length (having_body (take k ps)) < length (having_body ps)
below_all [] k old was had = absurd (cc)
below_all (p ∷ ps) zero old was had =
    let same : p ≡ old = cc in
    let first : 0 < suc (length (having_body ps)) = omega arith in
    subst (λ b. 0 < length (cond b (p ∷ having_body ps) (having_body ps))) (sym (ap (λ (x : Proc). is_some x.body) same ∙ had)) first
below_all (p ∷ ps) (suc k) old was had = by (is_some p.body) (below_all ps k old was had)
  where
    by : (b : Bool) → length (having_body (take k ps)) < length (having_body ps) → length (cond b (p ∷ having_body (take k ps)) (having_body (take k ps))) < length (cond b (p ∷ having_body ps) (having_body ps))
    by true r = omega (r, arith)
    by false r = r

module _ (f g : Proc → BuiltProc) where
  all_stay : (ps : List Proc) → AllOf (λ q. f q ≡ g q) ps → map g (having_body ps) ≡ map f (having_body ps)
  all_stay [] h = refl
  all_stay (p ∷ ps) h = by (is_some p.body) refl (all_stay ps (λ i q. h (suc i) q))
    where
      by : (b : Bool) → is_some p.body ≡ b → map g (having_body ps) ≡ map f (having_body ps) → map g (cond b (p ∷ having_body ps) (having_body ps)) ≡ map f (cond b (p ∷ having_body ps) (having_body ps))
      by true e r = λ i. sym (h 0 p refl e) i ∷ r i
      by false e r = r

  one_put : (ps : List Proc) (k : ℕ) (old new : Proc) → slice_get ps k ≡ Some old → is_some old.body ≡ true → is_some new.body ≡ true → Others (λ q. f q ≡ g q) k ps
      → map g (having_body (slice_set ps k new)) ≡ slice_set (map f (having_body ps)) (length (having_body (take k ps))) (g new)
  one_put [] k old new was had has h = absurd (cc)
  one_put (p ∷ ps) zero old new was had has h =
      let same : p ≡ old = cc in
      let had_it : is_some p.body ≡ true = ap (λ (x : Proc). is_some x.body) same ∙ had in
      ap (λ b. map g (cond b (new ∷ having_body ps) (having_body ps))) has
      ∙ ap (λ bs. g new ∷ bs) (all_stay ps (λ i q. h (suc i) q (later_apart i)))
      ∙ sym (ap (λ b. slice_set (map f (cond b (p ∷ having_body ps) (having_body ps))) 0 (g new)) had_it)
  one_put (p ∷ ps) (suc k) old new was had has h = by (is_some p.body) refl (one_put ps k old new was had has (λ i q other. h (suc i) q (next_apart i k other)))
    where
      by : (b : Bool) → is_some p.body ≡ b → map g (having_body (slice_set ps k new)) ≡ slice_set (map f (having_body ps)) (length (having_body (take k ps))) (g new)
          → map g (cond b (p ∷ having_body (slice_set ps k new)) (having_body (slice_set ps k new))) ≡ slice_set (map f (cond b (p ∷ having_body ps) (having_body ps))) (length (cond b (p ∷ having_body (take k ps)) (having_body (take k ps)))) (g new)
      by true e r = λ i. sym (h 0 p (first_apart k) refl e) i ∷ r i
      by false e r = r

module _ (t : Proc → Bool) where
  none_pass : (ps : List Proc) → AllOf (λ q. t q ≡ false) ps → length (filter t (having_body ps)) ≡ 0
  none_pass [] h = refl
  none_pass (p ∷ ps) h = by (is_some p.body) refl (none_pass ps (λ i q. h (suc i) q))
    where
      by : (b : Bool) → is_some p.body ≡ b → length (filter t (having_body ps)) ≡ 0 → length (filter t (cond b (p ∷ having_body ps) (having_body ps))) ≡ 0
      by true e r = ap (λ s. length (cond s (p ∷ filter t (having_body ps)) (filter t (having_body ps)))) (h 0 p refl e) ∙ r
      by false e r = r

  one_passes : (ps : List Proc) (k : ℕ) (old new : Proc) → slice_get ps k ≡ Some old → is_some new.body ≡ true → Others (λ q. t q ≡ false) k ps → length (filter t (having_body (slice_set ps k new))) ≡ cond (t new) 1 0
  one_passes [] k old new was has h = absurd (cc)
  one_passes (p ∷ ps) zero old new was has h = ap (λ b. length (filter t (cond b (new ∷ having_body ps) (having_body ps)))) has ∙ by (t new) (none_pass ps (λ i q. h (suc i) q (later_apart i)))
    where
      by : (s : Bool) → length (filter t (having_body ps)) ≡ 0 → length (cond s (new ∷ filter t (having_body ps)) (filter t (having_body ps))) ≡ cond s 1 0
      by true r = ap suc r
      by false r = r
  one_passes (p ∷ ps) (suc k) old new was has h = by (is_some p.body) refl (one_passes ps k old new was has (λ i q other. h (suc i) q (next_apart i k other)))
    where
      by : (b : Bool) → is_some p.body ≡ b → length (filter t (having_body (slice_set ps k new))) ≡ cond (t new) 1 0
          → length (filter t (cond b (p ∷ having_body (slice_set ps k new)) (having_body (slice_set ps k new)))) ≡ cond (t new) 1 0
      by true e r = ap (λ s. length (cond s (p ∷ filter t (having_body (slice_set ps k new))) (filter t (having_body (slice_set ps k new))))) (h 0 p (first_apart k) refl e) ∙ r
      by false e r = r

-- ---- the law

module _ (c : ChangedBody) (old : List BuiltProc) (n : Module) (changed : IsPlainBody c old n) (p : Proc) (there : Some p ≡ slice_get n.procs c.proc_at) where
  new_is : p ≡ changed.put.new
  new_is = let e : Some p ≡ Some changed.put.new = there ∙ ap (λ ps. slice_get ps c.proc_at) changed.put.put ∙ get_same changed.before.procs c.proc_at changed.put.old changed.put.new changed.put.was in cc

  pub new_body : is_some p.body ≡ true
  new_body = ap (λ (x : Proc). is_some x.body) new_is ∙ changed.put.alike.second_body

  place_same : (place : ℕ) → place ≡ length (having_body (take c.proc_at n.procs)) → place ≡ length (having_body (take c.proc_at changed.before.procs))
  place_same place e = e ∙ ap (λ ps. length (having_body ps)) (ap (take c.proc_at) changed.put.put ∙ take-set changed.before.procs c.proc_at changed.put.new)

  pub place_there : (place : ℕ) → place ≡ length (having_body (take c.proc_at n.procs)) → place < length old
  place_there place e = omega (
    arith,
    place_same place e,
    below_all changed.before.procs c.proc_at changed.put.old changed.put.was changed.put.alike.first_body,
    ap length changed.are,
    length-map (with_body changed.before) (kept_of changed.before),
  )

  module _ (law : GoalsHaveTheirMarks) (decided : TextsDecide old n) (alone : IsOwnAlone n c n.procs) where
    before_there : (q : Proc) (i : ℕ) → slice_get changed.before.procs i ≡ Some q → is_some q.body ≡ true → Contains old (kept_of changed.before q)
    before_there q i at body =
        subst (λ bs. Contains bs (kept_of changed.before q)) (sym changed.are)
        (contains_map (kept_of changed.before) (with_body changed.before) q (filter_has (λ (x : Proc). is_some x.body) changed.before.procs q (contained changed.before.procs i q at) body))

    still_there : (i : ℕ) (q : Proc) → (i ≡ c.proc_at → ⊥) → slice_get changed.before.procs i ≡ Some q → slice_get n.procs i ≡ Some q
    still_there i q other at = ap (λ ps. slice_get ps i) changed.put.put ∙ get_other changed.before.procs c.proc_at i changed.put.new other ∙ at

    text_stays : (i : ℕ) (q : Proc) → (i ≡ c.proc_at → ⊥) → slice_get changed.before.procs i ≡ Some q → depends n q ≡ depends changed.before q
    text_stays i q other at = depends_kept c.decl_at changed.before n changed.differs q (alone i q (not_equal i c.proc_at other) (still_there i q other at))

    called_same : (at : Place) (q : ℕ) → call_marks n at q ≡ call_marks changed.before at q
    called_same at q = ap (λ ps. contract_marks at (slice_get ps q)) changed.put.put ∙ called_there changed.before.procs c.proc_at changed.put.old changed.put.new changed.put.was changed.put.alike at q

    others_stay : Others (λ q. kept_of changed.before q ≡ kept_of n q) c.proc_at changed.before.procs
    others_stay i q other at body =
        let text = text_stays i q other at in
        let same = decided q (contained n.procs i q (still_there i q other at)) body (kept_of changed.before q) (before_there q i at body) text in
        same_whole n q (kept_of changed.before q) refl (sym text) (marks_stay changed.before n called_same law q) same

    pub all_put : (place : ℕ) (x : BuiltProc) → place ≡ length (having_body (take c.proc_at n.procs)) → x ≡ kept_of n p → slice_set old place x ≡ map (kept_of n) (with_body n)
    all_put place x at is =
        let m = changed.before in
        (λ i. slice_set (changed.are i) (place_same place at i) ((is ∙ ap (kept_of n) new_is) i))
        ∙ sym (one_put (kept_of m) (kept_of n) m.procs c.proc_at changed.put.old changed.put.new changed.put.was changed.put.alike.first_body changed.put.alike.second_body others_stay)
        ∙ ap (λ ps. map (kept_of n) (having_body ps)) (sym changed.put.put)

    stays_known : Others (λ q. is_new old (kept_of n q) ≡ false) c.proc_at changed.before.procs
    stays_known i q other at body = ap not (stands_found old (depends n q) (kept_of changed.before q) (before_there q i at body) (text_stays i q other at))

    pub one_new : cond (is_new old (kept_of n p)) 1 0 ≡ new_in old n n.procs
    one_new =
        let m = changed.before in
        ap (λ (x : Proc). cond (is_new old (kept_of n x)) 1 0) new_is
        ∙ sym (one_passes (λ q. is_new old (kept_of n q)) m.procs c.proc_at changed.put.old changed.put.new changed.put.was changed.put.alike.second_body stays_known)
        ∙ ap (λ ps. length (filter (λ q. is_new old (kept_of n q)) (having_body ps))) (sym changed.put.put)

-- ---- without gotos

plain_put : (k : ℕ) (ps qs : List Proc) → IsPutAt k ps qs → IsPutAt k (map removed ps) (map removed qs)
plain_put k ps qs put = record {
  old = removed put.old;
  new = removed put.new;
  was = slice_get-map removed ps k ∙ ap (option_map removed) put.was;
  put = ap (map removed) put.put ∙ map-set removed ps k put.new;
  alike = record { first_body = is_left put.old.body ∙ put.alike.first_body; second_body = is_left put.new.body ∙ put.alike.second_body; called = put.alike.called };
}

plain_body : (c : ChangedBody) (old : List BuiltProc) (n : Module) → IsChangedBody c old n → IsPlainBody c old (remove_gotos n)
plain_body c old n changed = record {
  before = remove_gotos changed.before;
  are = changed.are ∙ sym (kept_built changed.before);
  differs = record { consts = changed.differs.consts; functions = changed.differs.functions; axioms = changed.differs.axioms; texts = changed.differs.texts; heads = changed.differs.heads; others = changed.differs.others };
  put = plain_put c.proc_at changed.before.procs n.procs changed.put;
}

pub plain_at : (but : Option ChangedBody) (old : List BuiltProc) (n : Module) → IsChangedAt but old n → IsPlainAt but old (remove_gotos n)
plain_at None old n changed = tt
plain_at (Some c) old n changed = plain_body c old n changed
