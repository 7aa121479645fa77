-- The obligations of a procedure before with a procedure's dependency text are the procedure's.
use Rattle.std.specs.Prelude.{◌≡◌, refl, ℕ, zero, suc, Bool, true, false, cond, List, [], ◌∷◌, map, is_some, Option, Some, None, slice_get, Contains, bytes_eq}
use Rattle.std.proofs.Common.{ap, sym, subst, ◌∙◌, inl, inr}
use Rattle.std.proofs.lemmas.Slice.Eq.{bytes_eq-Decides}
use Rattle.passive_form.proofs.Lists.{contains_none, contains_first, contains_later, from_map, filter_has}
use Rattle.bpl_model.specs.Module.{Proc, Module}
use Rattle.bpl_goto.specs.Removed.{removed, remove_gotos}
use Rattle.rebuild_laws.specs.Resolved.{IsResolved, EqualDependencyTextsHaveEqualObligations}
use Rattle.vc_build.specs.Depends.{depends}
use Rattle.vc_build.specs.declared.goal.Goal.{Goal}
use Rattle.vc_build.specs.Goals.{goals_by_passes, goals}
use Rattle.vc_build.specs.Rebuild.{BuiltProc, with_body, built}
use Rattle.vc_rebuild.specs.Kept.{kept_of, with_text}
use Rattle.vc_rebuild.specs.Inside.{AreOfProgram, AreBuilt, each_obligation, SameObligations, TextsDecide, TextsFix, having_text}
use Rattle.vc_rebuild.proofs.MarksInOrder.{same_goals}
use Rattle.vc_rebuild.proofs.Programs.{is_left, depends_same}

-- a procedure that is found is one of those, and has the text
pub record IsFound (bs : List BuiltProc) (text : List ℕ) (b : BuiltProc) : Type 0 where
  pub there : Contains bs b
  pub text_is : text ≡ b.depends

module _ (text : List ℕ) (c : BuiltProc) where
  pub found_is : (bs : List BuiltProc) → with_text bs text ≡ Some c → IsFound bs text c
  found_is [] e = absurd (cc)
  found_is (b ∷ bs) e = by (bytes_eq text b.depends) refl e (λ f. later (found_is bs f))
    where
      later : IsFound bs text c → IsFound (b ∷ bs) text c
      later f = record { there = contains_later b bs c f.there; text_is = f.text_is }

      by : (s : Bool) → bytes_eq text b.depends ≡ s → cond s (Some b) (with_text bs text) ≡ Some c → (with_text bs text ≡ Some c → IsFound (b ∷ bs) text c) → IsFound (b ∷ bs) text c
      by true q f g = let same : b ≡ c = cc in record { there = contains_first b bs c same; text_is = (bytes_eq-Decides text b.depends).0 q ∙ ap (λ (x : BuiltProc). x.depends) same }
      by false q f g = g f

module _ (law : EqualDependencyTextsHaveEqualObligations) (m : Module) (resolved : IsResolved m) where
  -- of a procedure with a body, and one that was kept of a program without faults
  same_as_before : (q : Proc) → Contains (with_body m) q → (n : Module) → IsResolved n → (b : BuiltProc) → Contains (built n) b → depends m q ≡ b.depends → SameObligations b.goals (goals m q)
  same_as_before q inside n before b there text =
      let f = from_map (λ (x : Proc). record { name = x.name; depends = depends n x; goals = goals n x }) (with_body n) b there in
      let same : depends m q ≡ depends n f.0 = text ∙ ap (λ (x : BuiltProc). x.depends) (sym f.2) in
      ap (λ (x : BuiltProc). each_obligation x.goals) (sym f.2) ∙ sym (law m n q f.0 resolved before inside f.1 same)

  pub texts_decide : (bs : List BuiltProc) → AreBuilt bs → TextsDecide bs (remove_gotos m)
  texts_decide bs (inl none) p there body b old e = absurd (contains_none b (subst (λ xs. Contains xs b) none old))
  texts_decide bs (inr before) p there body b old e =
      let r = from_map removed m.procs p there in
      let has : is_some r.0.body ≡ true = sym (is_left r.0.body) ∙ ap (λ (x : Proc). is_some x.body) r.2 ∙ body in
      let inside : Contains (with_body m) r.0 = filter_has (λ (x : Proc). is_some x.body) m.procs r.0 r.1 has in
      let text : depends m r.0 ≡ b.depends = sym (depends_same m r.0) ∙ ap (depends (remove_gotos m)) r.2 ∙ e in
      same_as_before r.0 inside before.typed before.resolved b (subst (λ xs. Contains xs b) before.are old) text ∙ ap (λ (x : Proc). each_obligation (goals_by_passes (remove_gotos m) x)) r.2

-- a candidate has the obligations of the procedure whose dependency text this is
pub same_as_candidate : (old : List BuiltProc) (m : Module) → TextsDecide old m → (p : Proc) → Contains m.procs p → is_some p.body ≡ true → (text : List ℕ) → text ≡ depends m p
    → (b : BuiltProc) → Some b ≡ with_text old text → SameObligations b.goals (goals_by_passes m p)
same_as_candidate old m decided p there body text is b found = let f = found_is text b old (sym found) in decided p there body b f.there (sym is ∙ f.text_is)

pub contained : {A : Type 0} (bs : List A) (at : ℕ) (b : A) → slice_get bs at ≡ Some b → Contains bs b
contained [] at b e = absurd (cc)
contained (x ∷ bs) zero b e = contains_first x bs b (let same : x ≡ b = cc in same)
contained (x ∷ bs) (suc at) b e = contains_later x bs b (contained bs at b e)

-- a procedure at a place that has the text is one of those, and has the text
pub found_there : (bs : List BuiltProc) (at : ℕ) (text : List ℕ) (b : BuiltProc) → Some b ≡ having_text (slice_get bs at) text → IsFound bs text b
found_there bs at text b = by (slice_get bs at) refl
  where
    at_test : (c : BuiltProc) (s : Bool) → bytes_eq text c.depends ≡ s → slice_get bs at ≡ Some c → Some b ≡ cond s (Some c) None → IsFound bs text b
    at_test c true q p f = let same : c ≡ b = cc in record { there = contained bs at b (p ∙ ap Some same); text_is = (bytes_eq-Decides text c.depends).0 q ∙ ap (λ (x : BuiltProc). x.depends) same }
    at_test c false q p f = absurd (cc)

    by : (o : Option BuiltProc) → slice_get bs at ≡ o → Some b ≡ having_text o text → IsFound bs text b
    by None p f = absurd (cc)
    by (Some c) p f = at_test c (bytes_eq text c.depends) refl p f

-- it has the obligations of the procedure whose dependency text this is, and that text
pub same_as_there : (old : List BuiltProc) (m : Module) → TextsDecide old m → (p : Proc) → Contains m.procs p → is_some p.body ≡ true → (text : List ℕ) → text ≡ depends m p
    → (at : ℕ) (b : BuiltProc) → Some b ≡ having_text (slice_get old at) text → SameObligations b.goals (goals_by_passes m p)
same_as_there old m decided p there body text is at b found = let f = found_there old at text b found in decided p there body b f.there (sym is ∙ f.text_is)

pub text_there : (old : List BuiltProc) (text own : List ℕ) → text ≡ own → (at : ℕ) (b : BuiltProc) → Some b ≡ having_text (slice_get old at) text → b.depends ≡ own
text_there old text own is at b found = sym (found_there old at text b found).text_is ∙ is

-- a procedure before with the name, the dependency text, the marks and the obligations of a procedure is that procedure
pub same_whole : (m : Module) (p : Proc) (b : BuiltProc) → b.name ≡ p.name → b.depends ≡ depends m p → map (λ (g : Goal). g.mark) b.goals ≡ map (λ (g : Goal). g.mark) (goals_by_passes m p)
    → SameObligations b.goals (goals_by_passes m p) → b ≡ kept_of m p
same_whole m p b name text marks same = λ i. record { name = name i; depends = text i; goals = same_goals b.goals (goals_by_passes m p) marks same i }

-- procedures of two programs that have equal dependency texts have equal obligations
pub texts_fix : EqualDependencyTextsHaveEqualObligations → (bs cs : List BuiltProc) → AreBuilt bs → AreBuilt cs → TextsFix bs cs
texts_fix law bs cs (inl none) k b c inside there e = absurd (contains_none b (subst (λ xs. Contains xs b) none inside))
texts_fix law bs cs (inr f) (inl none) b c inside there e = absurd (contains_none c (subst (λ xs. Contains xs c) none there))
texts_fix law bs cs (inr f) (inr s) b c inside there e =
    let r = from_map (λ (x : Proc). record { name = x.name; depends = depends s.typed x; goals = goals s.typed x }) (with_body s.typed) c (subst (λ xs. Contains xs c) s.are there) in
    same_as_before law s.typed s.resolved r.0 r.1 f.typed f.resolved b (subst (λ xs. Contains xs b) f.are inside) (ap (λ (x : BuiltProc). x.depends) r.2 ∙ sym e) ∙ ap (λ (x : BuiltProc). each_obligation x.goals) r.2
