-- Incarnations of variables that have new numbers: states of the passive form that go alike.
use Rattle.std.specs.Prelude.{◌≡◌, refl, ◌⊎◌, ℕ, zero, suc, ◌+◌, ◌-◌, ◌<◌, ◌≤◌, nat_lt, true, false, cond, List, [], ◌∷◌, ◌++◌, map, length, set, slice_get, slice_index_or, Some, None}
use Rattle.std.specs.List.{AllByRecursion}
use Rattle.std.proofs.Common.{ap, sym, subst, arith, ◌∙◌}
use Rattle.std.proofs.lemmas.Bool.{cases_eq}
use Rattle.std.proofs.lemmas.Bool.Decides.{nat_tests}
use Rattle.std.proofs.lemmas.List.{map-append, length-append, length-set, get_or-set_same, get_or-set_other}
use mathlib.Core.Logic.{inl, inr}
use Rattle.logic_core.specs.Tree.{Kind, int, Tree, free, equal}
use Rattle.logic_core.specs.Renamed.{both_renamed, EachHas}
use Rattle.flow_core.specs.declared.command.Command.{Command}
use Rattle.flow_core.specs.declared.command.Command.TheVariants.{Assert, Assume}
use Rattle.passive_form.specs.Passive.{formula_in, formulas}
use Rattle.passive_form.specs.declared.made.Made.{Made}
use Rattle.passive_form.specs.Incarnations.{incarnation, read, anew, also, assigned, havocked, perform, perform_all}
use Rattle.rebuild_laws.proofs.Commands.{AlikeCommand, asserted, assumed_so, set_all, any_values, AlikeCommands, no_more, one_more}
use Rattle.obligation_text.proofs.RenamedTerms.{renamed_twice, renamed_has}
use Rattle.rebuild_laws.specs.Alike.{Sets}

-- over the sorts of the variables here and there, the new number of each variable and definition, and those that are renamed
module _ (xs ys : List Kind) (new_def new_var : ℕ → ℕ) (D V : ℕ → Type 0)
    (here : (v : ℕ) → V v → v < length xs) (there : (v : ℕ) → V v → new_var v < length ys)
    (sorts : (v : ℕ) → V v → slice_get ys (new_var v) ≡ slice_get xs v)
    (one_var : (u v : ℕ) → V u → V v → new_var u ≡ new_var v → u ≡ v) where
  -- an incarnation: the first ones have the variables' numbers, and the others come behind
  abbrev pub Later : ℕ → Type 0
  Later i = V i ⊎ (length xs ≤ i)

  abbrev pub new_later : ℕ → ℕ
  new_later i = cond (nat_lt i (length xs)) (new_var i) (length ys + (i - length xs))

  pub later_first : (v : ℕ) → V v → new_later v ≡ new_var v
  later_first v h = let e : nat_lt v (length xs) ≡ true = grind (arith, nat_tests, here v h) in ap (λ b. cond b (new_var v) (length ys + (v - length xs))) e

  pub later_made : (i : ℕ) → length xs ≤ i → new_later i ≡ length ys + (i - length xs)
  later_made i h = let e : nat_lt i (length xs) ≡ false = grind (arith, nat_tests, h) in ap (λ b. cond b (new_var i) (length ys + (i - length xs))) e

  abbrev renew : Tree → Tree
  renew t = both_renamed new_def new_later t

  -- one to one
  pub newer_one : (a b : ℕ) → Later a → Later b → new_later a ≡ new_later b → a ≡ b
  newer_one a b (inl h) (inl k) e = one_var a b h k (sym (later_first a h) ∙ e ∙ later_first b k)
  newer_one a b (inl h) (inr k) e = let first = later_first a h in let made = later_made b k in let low = there a h in absurd (omega (first, made, low, e, arith))
  newer_one a b (inr h) (inl k) e = let first = later_first b k in let made = later_made a h in let low = there b k in absurd (omega (first, made, low, e, arith))
  newer_one a b (inr h) (inr k) e = let made = later_made a h in let other = later_made b k in omega (made, other, h, k, e, arith)

  -- two states go alike: as many incarnations were made, each has its sort, each variable has its own, and the formulas are the same
  pub record AlikeMade (s t : Made) : Type 0 where
    pub count : ℕ
    pub long : length s.sorts ≡ length xs + count
    pub longer : length t.sorts ≡ length ys + count
    pub sorted : (i : ℕ) → Later i → i < length s.sorts → slice_get t.sorts (new_later i) ≡ slice_get s.sorts i
    pub wide : length s.present ≡ length xs
    pub wider : length t.present ≡ length ys
    pub present : (v : ℕ) → V v → incarnation t.present (new_var v) ≡ new_later (incarnation s.present v)
    pub known : (v : ℕ) → V v → Later (incarnation s.present v) × (incarnation s.present v < length s.sorts)
    pub same : formulas t.commands ≡ map renew (formulas s.commands)
    pub covered : AllByRecursion (EachHas Later D) (formulas s.commands)

  get_made : {A : Type 0} (zs : List A) (z : A) (n : ℕ) → n ≡ length zs → slice_get (zs ++ z ∷ []) n ≡ Some z
  get_made [] z zero e = refl
  get_made [] z (suc n) e = absurd (omega (e, arith))
  get_made (x ∷ zs) z zero e = absurd (omega (e, arith))
  get_made (x ∷ zs) z (suc n) e = get_made zs z n (omega (e, arith))

  get_before : {A : Type 0} (zs : List A) (z : A) (n : ℕ) → n < length zs → slice_get (zs ++ z ∷ []) n ≡ slice_get zs n
  get_before [] z n h = absurd (omega (h, arith))
  get_before (x ∷ zs) z zero h = refl
  get_before (x ∷ zs) z (suc n) h = get_before zs z n (omega (h, arith))

  got : {A : Type 0} (zs : List A) (n : ℕ) (d : A) → slice_index_or zs n d ≡ elim (slice_get zs n) [ Some z ↦ z | None ↦ d ]
  got [] n d = refl
  got (z ∷ zs) zero d = refl
  got (z ∷ zs) (suc n) d = got zs n d

  -- the sort of the variable is that of its new one
  sort_alike : (s t : Made) → AlikeMade s t → (v : ℕ) → V v → slice_index_or t.sorts (new_var v) int ≡ slice_index_or s.sorts v int
  sort_alike s t a v h =
      let long = a.long in
      let low = here v h in
      let same : slice_get t.sorts (new_var v) ≡ slice_get s.sorts v = ap (slice_get t.sorts) (sym (later_first v h)) ∙ a.sorted v (inl h) (omega (low, long, arith)) in
      got t.sorts (new_var v) int ∙ ap (λ o. elim o [ Some z ↦ z | None ↦ int ]) same ∙ sym (got s.sorts v int)

  -- the sorts after one more
  sorted_more : (s t : Made) → AlikeMade s t → (k l : Kind) → l ≡ k → (i : ℕ) → Later i → i < length s.sorts + 1 → (i < length s.sorts) ⊎ (i ≡ length s.sorts) → slice_get (t.sorts ++ l ∷ []) (new_later i) ≡ slice_get (s.sorts ++ k ∷ []) i
  sorted_more s t a k l e i (inl h) less (inl before) =
      let first = later_first i h in
      let low = there i h in
      let longer = a.longer in
      let under : new_later i < length t.sorts = omega (first, low, longer, arith) in
      get_before t.sorts l (new_later i) under ∙ a.sorted i (inl h) before ∙ sym (get_before s.sorts k i before)
  sorted_more s t a k l e i (inr h) less (inl before) =
      let made = later_made i h in
      let long = a.long in
      let longer = a.longer in
      let under : new_later i < length t.sorts = omega (made, before, h, long, longer, arith) in
      get_before t.sorts l (new_later i) under ∙ a.sorted i (inr h) before ∙ sym (get_before s.sorts k i before)
  sorted_more s t a k l e i q less (inr is) =
      let long = a.long in
      let longer = a.longer in
      let made = later_made i (omega (is, long, arith)) in
      let at_end : new_later i ≡ length t.sorts = omega (made, is, long, longer, arith) in
      get_made t.sorts l (new_later i) at_end ∙ ap Some e ∙ sym (get_made s.sorts k i is)

  either : (i n : ℕ) → i < n + 1 → (i < n) ⊎ (i ≡ n)
  either i n h = elim (cases_eq i n) [ inl e ↦ inr e | inr d ↦ inl (omega (h, d, arith)) ]

  -- the present incarnations after a new one
  present_anew : (s t : Made) → AlikeMade s t → (v : ℕ) → V v → (u : ℕ) → V u → incarnation (set t.present (new_var v) (length t.sorts)) (new_var u) ≡ new_later (incarnation (set s.present v (length s.sorts)) u)
  present_anew s t a v h u q = elim (cases_eq u v) [
    | inl e ↦
        let wide = a.wide in
        let wider = a.wider in
        let low = here u q in
        let low_there = there u q in
        let mine : incarnation (set s.present v (length s.sorts)) u ≡ length s.sorts = ap (λ w. slice_index_or (set s.present w (length s.sorts)) u u) (sym e) ∙ get_or-set_same s.present u (length s.sorts) u (omega (wide, low, arith)) in
        let theirs : incarnation (set t.present (new_var v) (length t.sorts)) (new_var u) ≡ length t.sorts
        = ap (λ w. slice_index_or (set t.present (new_var w) (length t.sorts)) (new_var u) (new_var u)) (sym e) ∙ get_or-set_same t.present (new_var u) (length t.sorts) (new_var u) (omega (wider, low_there, arith)) in
        let long = a.long in
        let longer = a.longer in
        let made = later_made (length s.sorts) (omega (long, arith)) in
        let number : new_later (length s.sorts) ≡ length t.sorts = omega (made, long, longer, arith) in
        theirs ∙ sym number ∙ ap new_later (sym mine)
    | inr n ↦
        get_or-set_other t.present (new_var v) (new_var u) (length t.sorts) (new_var u) (λ e. n (one_var u v q h e))
        ∙ a.present u q
        ∙ ap new_later (sym (get_or-set_other s.present v u (length s.sorts) u n))
  ]

  known_anew : (s t : Made) → AlikeMade s t → (v : ℕ) → V v → (u : ℕ) → V u → Later (incarnation (set s.present v (length s.sorts)) u) × (incarnation (set s.present v (length s.sorts)) u < length s.sorts + 1)
  known_anew s t a v h u q = elim (cases_eq u v) [
    | inl e ↦
        let wide = a.wide in
        let low = here u q in
        let long = a.long in
        let mine : incarnation (set s.present v (length s.sorts)) u ≡ length s.sorts = ap (λ w. slice_index_or (set s.present w (length s.sorts)) u u) (sym e) ∙ get_or-set_same s.present u (length s.sorts) u (omega (wide, low, arith)) in
        (subst Later (sym mine) (inr (omega (long, arith))), omega (mine, arith))
    | inr n ↦
        let old : incarnation (set s.present v (length s.sorts)) u ≡ incarnation s.present u = get_or-set_other s.present v u (length s.sorts) u n in
        let known = a.known u q in
        (subst Later (sym old) known.0, let less = known.1 in omega (old, less, arith))
  ]

  -- a new incarnation of a variable
  pub anew_alike : (s t : Made) → AlikeMade s t → (v : ℕ) → V v → AlikeMade (anew s v) (anew t (new_var v))
  anew_alike s t a v h =
      let k = slice_index_or s.sorts v int in
      let l = slice_index_or t.sorts (new_var v) int in
      let long = a.long in
      let longer = a.longer in
      let more : length (s.sorts ++ k ∷ []) ≡ length s.sorts + 1 = length-append s.sorts (k ∷ []) in
      let more_there : length (t.sorts ++ l ∷ []) ≡ length t.sorts + 1 = length-append t.sorts (l ∷ []) in
      record {
        count = a.count + 1;
        long = omega (long, more, arith);
        longer = omega (longer, more_there, arith);
        sorted = λ i q less. let less_one : i < length s.sorts + 1 = omega (less, more, arith) in sorted_more s t a k l (sort_alike s t a v h) i q less_one (either i (length s.sorts) less_one);
        wide = length-set s.present v (length s.sorts) ∙ a.wide;
        wider = length-set t.present (new_var v) (length t.sorts) ∙ a.wider;
        present = present_anew s t a v h;
        known = λ u q. let known = known_anew s t a v h u q in (known.0, let less = known.1 in omega (less, more, arith));
        same = a.same;
        covered = a.covered;
      }

  -- a term as it is read now
  read_has : (s t : Made) → AlikeMade s t → (E : Tree) → EachHas V D E → EachHas Later D (read s.present E)
  read_has s t a E h = renamed_has (λ f. f) (incarnation s.present) V D Later D (λ v q. (a.known v q).0) (λ f q. q) E h

  read_alike : (s t : Made) → AlikeMade s t → (E : Tree) → EachHas V D E → read t.present (both_renamed new_def new_var E) ≡ renew (read s.present E)
  read_alike s t a E h =
      renamed_twice new_def new_var (λ f. f) (incarnation t.present) new_def (λ v. new_later (incarnation s.present v)) V D a.present (λ f q. refl) E h
      ∙ sym (renamed_twice (λ f. f) (incarnation s.present) new_def new_later new_def (λ v. new_later (incarnation s.present v)) V D (λ v q. refl) (λ f q. refl) E h)

  every_both : {A : Type 0} (P : A → Type 0) (zs ws : List A) → AllByRecursion P zs → AllByRecursion P ws → AllByRecursion P (zs ++ ws)
  every_both P [] ws h k = k
  every_both P (z ∷ zs) ws h k = (h.0, every_both P zs ws h.1 k)

  -- one formula more
  pub also_alike : (s t : Made) → AlikeMade s t → (c d : Command) → EachHas Later D (formula_in c) → formula_in d ≡ renew (formula_in c) → AlikeMade (also s c) (also t d)
  also_alike s t a c d h e = record {
    count = a.count;
    long = a.long;
    longer = a.longer;
    sorted = a.sorted;
    wide = a.wide;
    wider = a.wider;
    present = a.present;
    known = a.known;
    same = map-append formula_in t.commands (d ∷ []) ∙ (λ i. a.same i ++ e i ∷ []) ∙ sym (ap (map renew) (map-append formula_in s.commands (c ∷ [])) ∙ map-append renew (formulas s.commands) (formula_in c ∷ []));
    covered = subst (AllByRecursion (EachHas Later D)) (sym (map-append formula_in s.commands (c ∷ []))) (every_both (EachHas Later D) (formulas s.commands) (formula_in c ∷ []) a.covered (h, tt));
  }

  pub havocked_alike : (vs : List ℕ) → AllByRecursion V vs → (s t : Made) → AlikeMade s t → AlikeMade (havocked s vs) (havocked t (map new_var vs))
  havocked_alike [] h s t a = a
  havocked_alike (v ∷ vs) h s t a = havocked_alike vs h.1 (anew s v) (anew t (new_var v)) (anew_alike s t a v h.0)

  -- the right sides of an assignment, which were read before
  abbrev Read : ℕ × Tree → Type 0
  Read p = V p.0 × EachHas Later D p.1

  assigned_alike : (ps : List (ℕ × Tree)) → AllByRecursion Read ps → (s t : Made) → AlikeMade s t → AlikeMade (assigned s ps) (assigned t (map (λ (p : ℕ × Tree). (new_var p.0, renew p.1)) ps))
  assigned_alike [] h s t a = a
  assigned_alike (p ∷ ps) h s t a =
      let long = a.long in
      let longer = a.longer in
      let made = later_made (length s.sorts) (omega (long, arith)) in
      let number : length t.sorts ≡ new_later (length s.sorts) = omega (made, long, longer, arith) in
      assigned_alike ps h.1 (also (anew s p.0) (Assume (equal (free (length s.sorts)) p.1))) (also (anew t (new_var p.0)) (Assume (equal (free (length t.sorts)) (renew p.1))))
      (also_alike (anew s p.0) (anew t (new_var p.0)) (anew_alike s t a p.0 h.0.0) (Assume (equal (free (length s.sorts)) p.1)) (Assume (equal (free (length t.sorts)) (renew p.1)))
      (inr (omega (long, arith)), h.0.1) (ap (λ n. equal (free n) (renew p.1)) number))

  abbrev Sets' : ℕ × Tree → Type 0
  Sets' = Sets D V

  pairs_read : (s t : Made) → AlikeMade s t → (ps : List (ℕ × Tree)) → AllByRecursion Sets' ps → AllByRecursion Read (map {B = ℕ × Tree} (λ p. (p.0, read s.present p.1)) ps)
  pairs_read s t a [] h = tt
  pairs_read s t a (p ∷ ps) h = ((h.0.0, read_has s t a p.1 h.0.1), pairs_read s t a ps h.1)

  pairs_alike : (s t : Made) → AlikeMade s t → (ps : List (ℕ × Tree)) → AllByRecursion Sets' ps
      → map {B = ℕ × Tree} (λ p. (p.0, read t.present p.1)) (map {B = ℕ × Tree} (λ p. (new_var p.0, both_renamed new_def new_var p.1)) ps) ≡ map {B = ℕ × Tree} (λ p. (new_var p.0, renew p.1)) (map {B = ℕ × Tree} (λ p. (p.0, read s.present p.1)) ps)
  pairs_alike s t a [] h = refl
  pairs_alike s t a (p ∷ ps) h = λ i. (new_var p.0, read_alike s t a p.1 h.0.1 i) ∷ pairs_alike s t a ps h.1 i

  pub perform_alike : (c d : Command) → AlikeCommand new_def new_var D V c d → (s t : Made) → AlikeMade s t → AlikeMade (perform s c) (perform t d)
  perform_alike _ _ (asserted {m = m} {n = n} {E = E} h) s t a = also_alike s t a (Assert m (read s.present E)) (Assert n (read t.present (both_renamed new_def new_var E))) (read_has s t a E h) (read_alike s t a E h)
  perform_alike _ _ (assumed_so {E = E} h) s t a = also_alike s t a (Assume (read s.present E)) (Assume (read t.present (both_renamed new_def new_var E))) (read_has s t a E h) (read_alike s t a E h)
  perform_alike _ _ (set_all {ps = ps} h) s t a =
      subst (λ rs. AlikeMade (assigned s (map (λ (p : ℕ × Tree). (p.0, read s.present p.1)) ps)) (assigned t rs)) (sym (pairs_alike s t a ps h))
      (assigned_alike (map (λ (p : ℕ × Tree). (p.0, read s.present p.1)) ps) (pairs_read s t a ps h) s t a)
  perform_alike _ _ (any_values {vs = vs} h) s t a = havocked_alike vs h s t a

  pub all_alike : (cs ds : List Command) → AlikeCommands new_def new_var D V cs ds → (s t : Made) → AlikeMade s t → AlikeMade (perform_all s cs) (perform_all t ds)
  all_alike _ _ no_more s t a = a
  all_alike _ _ (one_more {c = c} {d = d} {cs = cs} {ds = ds} h k) s t a = all_alike cs ds k (perform s c) (perform t d) (perform_alike c d h s t a)
