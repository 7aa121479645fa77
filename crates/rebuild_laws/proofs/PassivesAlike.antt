-- Graphs over variables with new numbers have passive forms that go alike, block by block.
use Rattle.std.specs.Prelude.{◌≡◌, refl, ℕ, zero, suc, ◌+◌, ◌<◌, ◌≤◌, nat_eq, nat_lt, Bool, true, false, not, ◌&&◌, cond, List, [], ◌∷◌, ◌++◌, map, length, flat_map, slice_get, slice_index_or}
use Rattle.std.specs.List.{AllByRecursion, list_all, range_with_len}
use Rattle.std.proofs.Common.{ap, sym, subst, arith, ◌∙◌, true≢false}
use Rattle.std.proofs.lemmas.Bool.Decides.{nat_tests}
use Rattle.std.proofs.lemmas.Bool.{eqb-true, eq-eqb}
use Rattle.std.proofs.lemmas.List.{map-append, length-map, get_or-set_other}
use Rattle.std.proofs.lemmas.List.FromFn.{get_or-map-range_with_len}
use mathlib.Core.Logic.{inl, inr}
use Rattle.logic_core.specs.Tree.{Kind, Tree, free, equal}
use Rattle.logic_core.specs.Renamed.{both_renamed, EachHas}
use Rattle.logic_core.proofs.EachOf.{every_append}
use Rattle.flow_core.specs.declared.command.Command.{Command}
use Rattle.flow_core.specs.declared.command.Command.TheVariants.{Assume}
use Rattle.passive_form.specs.Passive.{formula_in, formulas}
use Rattle.passive_form.specs.declared.made.Made.{Made}
use Rattle.passive_form.specs.declared.done.Done.{Done}
use Rattle.passive_form.specs.Incarnations.{Incarnations, incarnation, read, anew, also, assigned, havocked, perform, perform_all, nothing_done, disagree, arriving, new_at_join, lasts, equations_for}
use Rattle.rebuild_laws.proofs.InOrder.{range_long, InOrder, in_order}
use Rattle.rebuild_laws.proofs.Commands.{AlikeCommand, asserted, assumed_so, set_all, any_values, AlikeCommands, no_more, one_more}
use Rattle.rebuild_laws.proofs.Presents.{Later, new_later, later_first, later_made, newer_one, AlikeMade, anew_alike, havocked_alike, all_alike}
use Rattle.rebuild_laws.specs.Alike.{Sets}

-- over what Presents is over, and numbers below the first of replaced calls
module _ (xs ys : List Kind) (new_def new_var : ℕ → ℕ) (D V : ℕ → Type 0)
    (here : (v : ℕ) → V v → v < length xs) (there : (v : ℕ) → V v → new_var v < length ys)
    (sorts : (v : ℕ) → V v → slice_get ys (new_var v) ≡ slice_get xs v)
    (one_var : (u v : ℕ) → V u → V v → new_var u ≡ new_var v → u ≡ v)
    (own own_there : ℕ) (order : InOrder new_var V own own_there)
    (own_same : (v : ℕ) → V v → nat_lt (new_var v) own_there ≡ nat_lt v own)
    (first first_there : Incarnations) where
  abbrev newer : ℕ → ℕ
  newer = new_later xs ys new_def new_var D V here there sorts one_var

  abbrev Made' : Made → Made → Type 0
  Made' = AlikeMade xs ys new_def new_var D V here there sorts one_var

  abbrev LaterV : ℕ → Type 0
  LaterV = Later xs ys new_def new_var D V here there sorts one_var

  -- incarnations at the end of a block: those of renamed variables have new numbers, and all others are the first ones
  pub record AlikeLast (count : ℕ) (i j : Incarnations) : Type 0 where
    pub present : (v : ℕ) → V v → incarnation j (new_var v) ≡ newer (incarnation i v)
    pub known : (v : ℕ) → V v → LaterV (incarnation i v) × (incarnation i v < length xs + count)
    pub idle : (v : ℕ) → order.in_here v ≡ false → incarnation i v ≡ incarnation first v
    pub idle_there : (w : ℕ) → order.in_there w ≡ false → incarnation j w ≡ incarnation first_there w

  pub data AlikeLasts (count : ℕ) : List Incarnations → List Incarnations → Type 0 where
    none_left : AlikeLasts count [] []
    one_left : {i j : Incarnations} {is js : List Incarnations} → AlikeLast count i j → AlikeLasts count is js → AlikeLasts count (i ∷ is) (j ∷ js)

  -- two predecessors agree here exactly where they agree there
  newer_test : (c : ℕ) (a b : ℕ) → LaterV a → LaterV b → nat_eq (newer a) (newer b) ≡ nat_eq a b
  newer_test c a b h k = by (nat_eq a b) refl (nat_eq (newer a) (newer b)) refl
    where
      one : newer a ≡ newer b → a ≡ b
      one e = newer_one xs ys new_def new_var D V here there sorts one_var a b h k e

      by : (s : Bool) → nat_eq a b ≡ s → (t : Bool) → nat_eq (newer a) (newer b) ≡ t → nat_eq (newer a) (newer b) ≡ nat_eq a b
      by true e true f = f ∙ sym e
      by true e false f = absurd (true≢false (sym (eq-eqb (newer a) (newer b) (ap newer (eqb-true a b e))) ∙ f))
      by false e true f = absurd (true≢false (sym (eq-eqb a b (one (eqb-true (newer a) (newer b) f))) ∙ e))
      by false e false f = f ∙ sym e

  agree_same : (count : ℕ) (i j : Incarnations) → AlikeLast count i j → (is js : List Incarnations) → AlikeLasts count is js → (v : ℕ) → V v
      → list_all (λ k. nat_eq (incarnation j (new_var v)) (incarnation k (new_var v))) js ≡ list_all (λ k. nat_eq (incarnation i v) (incarnation k v)) is
  agree_same count i j a _ _ none_left v h = refl
  agree_same count i j a _ _ (one_left {i = k} {is = is} {js = js} b rest) v h =
      λ c. ((λ d. nat_eq (a.present v h d) (b.present v h d)) ∙ newer_test count (incarnation i v) (incarnation k v) (a.known v h).0 (b.known v h).0) c && agree_same count i j a is js rest v h c

  idle_agree : (count : ℕ) (i j : Incarnations) → AlikeLast count i j → (is js : List Incarnations) → AlikeLasts count is js → (v : ℕ) → order.in_here v ≡ false → list_all (λ k. nat_eq (incarnation i v) (incarnation k v)) is ≡ true
  idle_agree count i j a _ _ none_left v h = refl
  idle_agree count i j a _ _ (one_left {i = k} {is = is} {js = js} b rest) v h =
      let one = eq-eqb (incarnation i v) (incarnation k v) (a.idle v h ∙ sym (b.idle v h)) in
      λ c. one c && idle_agree count i j a is js rest v h c

  idle_agree_there : (count : ℕ) (i j : Incarnations) → AlikeLast count i j → (is js : List Incarnations) → AlikeLasts count is js → (w : ℕ) → order.in_there w ≡ false → list_all (λ k. nat_eq (incarnation j w) (incarnation k w)) js ≡ true
  idle_agree_there count i j a _ _ none_left w h = refl
  idle_agree_there count i j a _ _ (one_left {j = l} {is = is} {js = js} b rest) w h =
      let one = eq-eqb (incarnation j w) (incarnation l w) (a.idle_there w h ∙ sym (b.idle_there w h)) in
      λ c. one c && idle_agree_there count i j a is js rest w h c

  only_reached : (test : ℕ → Bool) (p : ℕ → Bool) → ((v : ℕ) → test v ≡ false → p v ≡ true) → (v : ℕ) → not (p v) ≡ true → test v ≡ true
  only_reached test p f v h = by (test v) refl
    where
      by : (b : Bool) → test v ≡ b → test v ≡ true
      by true e = e
      by false e = let c : false ≡ true = sym (ap not (f v e)) ∙ h in absurd (true≢false (sym c))

  -- the variables on which predecessors disagree have new numbers in their order
  pub disagree_alike : (count : ℕ) (is js : List Incarnations) → AlikeLasts count is js → (disagree own_there js ≡ map new_var (disagree own is)) × AllByRecursion V (disagree own is)
  disagree_alike count _ _ none_left = (refl, tt)
  disagree_alike count _ _ (one_left {i = i} {j = j} {is = is} {js = js} a rest) =
      in_order new_var V own own_there order
      (λ v. not (list_all (λ k. nat_eq (incarnation i v) (incarnation k v)) is)) (λ w. not (list_all (λ k. nat_eq (incarnation j w) (incarnation k w)) js))
      (only_reached order.in_here (λ v. list_all (λ k. nat_eq (incarnation i v) (incarnation k v)) is) (idle_agree count i j a is js rest))
      (only_reached order.in_there (λ w. list_all (λ k. nat_eq (incarnation j w) (incarnation k w)) js) (idle_agree_there count i j a is js rest))
      (λ v h. ap not (agree_same count i j a is js rest v h))

  -- what a block begins with
  abbrev pub FirstKnown : Type 0
  FirstKnown = (v : ℕ) → V v → (incarnation first_there (new_var v) ≡ newer (incarnation first v)) × V (incarnation first v)

  -- blocks that are done go alike: what is joined, the formulas, and the incarnations at the end
  pub record AlikeDone (count : ℕ) (d e : Done) : Type 0 where
    pub joined : e.joined ≡ map (λ (p : ℕ × ℕ). (new_var p.0, newer p.1)) d.joined
    pub joined_known : AllByRecursion (λ p. V p.0 × LaterV p.1) d.joined
    pub same : formulas e.commands ≡ map (both_renamed new_def newer) (formulas d.commands)
    pub covered : AllByRecursion (EachHas LaterV D) (formulas d.commands)
    pub last : AlikeLast count d.last e.last

  -- with more incarnations they still do
  last_more : (n m : ℕ) → n ≤ m → (i j : Incarnations) → AlikeLast n i j → AlikeLast m i j
  last_more n m le i j a = record {
    present = a.present;
    known = λ v h. let k = a.known v h in (k.0, let low = k.1 in omega (low, le, arith));
    idle = a.idle;
    idle_there = a.idle_there;
  }

  done_more : (n m : ℕ) → n ≤ m → (d e : Done) → AlikeDone n d e → AlikeDone m d e
  done_more n m le d e a = record { joined = a.joined; joined_known = a.joined_known; same = a.same; covered = a.covered; last = last_more n m le d.last e.last a.last }

  -- the equations that a predecessor makes for a join
  equations_alike : (count : ℕ) (d e : Done) → AlikeLast count d.last e.last → (ps : List (ℕ × ℕ)) → AllByRecursion (λ p. V p.0 × LaterV p.1) ps
      → formulas (map (λ (p : ℕ × ℕ). Assume (equal (free p.1) (free (incarnation e.last p.0)))) (map (λ (p : ℕ × ℕ). (new_var p.0, newer p.1)) ps))
      ≡ map (both_renamed new_def newer) (formulas (map (λ (p : ℕ × ℕ). Assume (equal (free p.1) (free (incarnation d.last p.0)))) ps))
  equations_alike count d e a [] h = refl
  equations_alike count d e a (p ∷ ps) h = λ i. equal (free (newer p.1)) (free (a.present p.0 h.0.0 i)) ∷ equations_alike count d e a ps h.1 i

  equations_covered : (count : ℕ) (d e : Done) → AlikeLast count d.last e.last → (ps : List (ℕ × ℕ)) → AllByRecursion (λ p. V p.0 × LaterV p.1) ps
      → AllByRecursion (EachHas LaterV D) (formulas (map (λ (p : ℕ × ℕ). Assume (equal (free p.1) (free (incarnation d.last p.0)))) ps))
  equations_covered count d e a [] h = tt
  equations_covered count d e a (p ∷ ps) h = ((h.0.1, (a.known p.0 h.0.0).0), equations_covered count d e a ps h.1)

  -- the new incarnations of a join
  joins_alike : (s t : Made) → Made' s t → (vs : List ℕ) → AllByRecursion V vs
      → (new_at_join t (map new_var vs) ≡ map (λ (p : ℕ × ℕ). (new_var p.0, newer p.1)) (new_at_join s vs)) × AllByRecursion (λ p. V p.0 × LaterV p.1) (new_at_join s vs)
  joins_alike s t a [] h = (refl, tt)
  joins_alike s t a (v ∷ vs) h =
      let long = a.long in
      let longer = a.longer in
      let made = later_made xs ys new_def new_var D V here there sorts one_var (length s.sorts) (omega (long, arith)) in
      let number : length t.sorts ≡ newer (length s.sorts) = omega (made, long, longer, arith) in
      let rest = joins_alike (anew s v) (anew t (new_var v)) (anew_alike xs ys new_def new_var D V here there sorts one_var s t a v h.0) vs h.1 in
      ((λ i. (new_var v, number i) ∷ rest.0 i), ((h.0, inr (omega (long, arith))), rest.1))

  -- states whose unrenamed variables have their first incarnations
  pub record Idle (s t : Made) : Type 0 where
    pub idle : (v : ℕ) → order.in_here v ≡ false → incarnation s.present v ≡ incarnation first v
    pub idle_there : (w : ℕ) → order.in_there w ≡ false → incarnation t.present w ≡ incarnation first_there w

  anew_idle : (s t : Made) → Idle s t → (v : ℕ) → V v → order.in_here v ≡ true → order.in_there (new_var v) ≡ true → Idle (anew s v) (anew t (new_var v))
  anew_idle s t a v h in_here in_there = record {
    idle = λ u e. get_or-set_other s.present v u (length s.sorts) u (λ q. true≢false (sym in_here ∙ ap order.in_here (sym q) ∙ e)) ∙ a.idle u e;
    idle_there = λ w e. get_or-set_other t.present (new_var v) w (length t.sorts) w (λ q. true≢false (sym in_there ∙ ap order.in_there (sym q) ∙ e)) ∙ a.idle_there w e;
  }

  -- renamed variables pass the tests of what is reached
  module _ (in_here : (v : ℕ) → V v → order.in_here v ≡ true) (in_there : (v : ℕ) → V v → order.in_there (new_var v) ≡ true) where
    havocked_idle : (vs : List ℕ) → AllByRecursion V vs → (s t : Made) → Idle s t → Idle (havocked s vs) (havocked t (map new_var vs))
    havocked_idle [] h s t a = a
    havocked_idle (v ∷ vs) h s t a = havocked_idle vs h.1 (anew s v) (anew t (new_var v)) (anew_idle s t a v h.0 (in_here v h.0) (in_there v h.0))

    assigned_idle : (ps qs : List (ℕ × Tree)) → map (λ p. p.0) qs ≡ map (λ p. new_var p.0) ps → AllByRecursion (λ p. V p.0) ps → (s t : Made) → Idle s t → Idle (assigned s ps) (assigned t qs)
    assigned_idle [] [] e h s t a = a
    assigned_idle [] (q ∷ qs) e h s t a = absurd (cc)
    assigned_idle (p ∷ ps) [] e h s t a = absurd (cc)
    assigned_idle (p ∷ ps) (q ∷ qs) e h s t a =
        let first_is : q.0 ≡ new_var p.0 = cc in
        let rest_are : map (λ r. r.0) qs ≡ map (λ r. new_var r.0) ps = cc in
        let one : Idle (anew s p.0) (anew t q.0) = subst (λ w. Idle (anew s p.0) (anew t w)) (sym first_is) (anew_idle s t a p.0 h.0 (in_here p.0 h.0) (in_there p.0 h.0)) in
        assigned_idle ps qs rest_are h.1 (also (anew s p.0) (Assume (equal (free (length s.sorts)) p.1))) (also (anew t q.0) (Assume (equal (free (length t.sorts)) q.1))) (record { idle = one.idle; idle_there = one.idle_there })

    -- the first incarnations have as many places as there are variables, and variables of calls begin with themselves
    module _ (wide : length first ≡ length xs) (wider : length first_there ≡ length ys) (begins : FirstKnown) (own_low : own ≤ length xs) (own_low_there : own_there ≤ length ys) where
      at_range : (f : ℕ → ℕ) (n v d : ℕ) → v < n → slice_index_or (map f (range_with_len 0 n)) v d ≡ f v
      at_range f n v d h = get_or-map-range_with_len f 0 n v v d h (omega arith)

      abbrev arrive : Incarnations → ℕ → ℕ
      arrive i v = cond (nat_lt v own) (incarnation i v) v

      abbrev arrive_there : Incarnations → ℕ → ℕ
      arrive_there j w = cond (nat_lt w own_there) (incarnation j w) w

      -- what arrives at a block
      arrives : (count : ℕ) (is js : List Incarnations) → AlikeLasts count is js → (v : ℕ) → V v → incarnation (arriving own_there first_there js) (new_var v) ≡ newer (incarnation (arriving own first is) v)
      arrives count _ _ none_left v h = (begins v h).0
      arrives count _ _ (one_left {i = i} {j = j} a rest) v h =
          let low = here v h in
          let low_there = there v h in
          at_range (arrive_there j) (length first_there) (new_var v) (new_var v) (omega (low_there, wider, arith))
          ∙ (let itself = sym (later_first xs ys new_def new_var D V here there sorts one_var v h) in λ c. cond (own_same v h c) (a.present v h c) (itself c))
          ∙ by (nat_lt v own)
          ∙ ap newer (sym (at_range (arrive i) (length first) v v (omega (low, wide, arith))))
        where
          by : (b : Bool) → cond b (newer (incarnation i v)) (newer v) ≡ newer (cond b (incarnation i v) v)
          by true = refl
          by false = refl

      arrives_known : (count : ℕ) (is js : List Incarnations) → AlikeLasts count is js → (v : ℕ) → V v → LaterV (incarnation (arriving own first is) v) × (incarnation (arriving own first is) v < length xs + count)
      arrives_known count _ _ none_left v h = let known = (begins v h).1 in let low = here (incarnation first v) known in (inl known, omega (low, arith))
      arrives_known count _ _ (one_left {i = i} a rest) v h =
          let low = here v h in
          let there_is = at_range (arrive i) (length first) v v (omega (low, wide, arith)) in
          subst (λ n. LaterV n × (n < length xs + count)) (sym there_is) (by (nat_lt v own))
        where
          by : (b : Bool) → LaterV (cond b (incarnation i v) v) × (cond b (incarnation i v) v < length xs + count)
          by true = a.known v h
          by false = (inl h, let low = here v h in omega (low, arith))

      arrives_idle : (count : ℕ) (is js : List Incarnations) → AlikeLasts count is js → (v : ℕ) → order.in_here v ≡ false → incarnation (arriving own first is) v ≡ incarnation first v
      arrives_idle count _ _ none_left v e = refl
      arrives_idle count _ _ (one_left {i = i} a rest) v e =
          let low = order.low_here v e in
          let test : nat_lt v own ≡ true = grind (arith, nat_tests, low) in
          at_range (arrive i) (length first) v v (omega (low, own_low, wide, arith)) ∙ ap (λ b. cond b (incarnation i v) v) test ∙ a.idle v e

      arrives_idle_there : (count : ℕ) (is js : List Incarnations) → AlikeLasts count is js → (w : ℕ) → order.in_there w ≡ false → incarnation (arriving own_there first_there js) w ≡ incarnation first_there w
      arrives_idle_there count _ _ none_left w e = refl
      arrives_idle_there count _ _ (one_left {j = j} a rest) w e =
          let low = order.low_there w e in
          let test : nat_lt w own_there ≡ true = grind (arith, nat_tests, low) in
          at_range (arrive_there j) (length first_there) w w (omega (low, own_low_there, wider, arith)) ∙ ap (λ b. cond b (incarnation j w) w) test ∙ a.idle_there w e

      -- as many places as variables
      arrives_wide : (count : ℕ) (is js : List Incarnations) → AlikeLasts count is js → (length (arriving own first is) ≡ length xs) × (length (arriving own_there first_there js) ≡ length ys)
      arrives_wide count _ _ none_left = (wide, wider)
      arrives_wide count _ _ (one_left {i = i} {j = j} a rest) =
          (length-map (range_with_len 0 (length first)) (arrive i) ∙ length-range (length first) ∙ wide, length-map (range_with_len 0 (length first_there)) (arrive_there j) ∙ length-range (length first_there) ∙ wider)
        where
          length-range : (n : ℕ) → length (range_with_len 0 n) ≡ n
          length-range n = range_long 0 n

      -- the state with which a block begins
      pub begun : (count : ℕ) (ss ts : List Kind) (long : length ss ≡ length xs + count) (longer : length ts ≡ length ys + count)
          (sorted : (i : ℕ) → LaterV i → i < length ss → slice_get ts (newer i) ≡ slice_get ss i) (is js : List Incarnations) → AlikeLasts count is js
          → Made' (record { sorts = ss; present = arriving own first is; commands = [] }) (record { sorts = ts; present = arriving own_there first_there js; commands = [] })
      begun count ss ts long longer sorted is js a = record {
        count = count;
        long = long;
        longer = longer;
        sorted = sorted;
        wide = (arrives_wide count is js a).0;
        wider = (arrives_wide count is js a).1;
        present = arrives count is js a;
        known = λ v h. let k = arrives_known count is js a v h in (k.0, let low = k.1 in omega (low, long, arith));
        same = refl;
        covered = tt;
      }

      -- a block after the blocks before it
      pub block_done : (count : ℕ) (ss ts : List Kind) (long : length ss ≡ length xs + count) (longer : length ts ≡ length ys + count)
          (sorted : (i : ℕ) → LaterV i → i < length ss → slice_get ts (newer i) ≡ slice_get ss i) (is js : List Incarnations) (a : AlikeLasts count is js)
          (cs ds : List Command) → AlikeCommands new_def new_var D V cs ds
          → Made' (perform_all (havocked (record { sorts = ss; present = arriving own first is; commands = [] }) (disagree own is)) cs)
          (perform_all (havocked (record { sorts = ts; present = arriving own_there first_there js; commands = [] }) (disagree own_there js)) ds)
      block_done count ss ts long longer sorted is js a cs ds c =
          let vs = disagree_alike count is js a in
          let start = begun count ss ts long longer sorted is js a in
          let joined = havocked_alike xs ys new_def new_var D V here there sorts one_var (disagree own is) vs.1 (record { sorts = ss; present = arriving own first is; commands = [] }) (record { sorts = ts; present = arriving own_there first_there js; commands = [] }) start in
          all_alike xs ys new_def new_var D V here there sorts one_var cs ds c
          (havocked (record { sorts = ss; present = arriving own first is; commands = [] }) (disagree own is)) (havocked (record { sorts = ts; present = arriving own_there first_there js; commands = [] }) (disagree own_there js))
          (subst (λ ws. Made' (havocked (record { sorts = ss; present = arriving own first is; commands = [] }) (disagree own is)) (havocked (record { sorts = ts; present = arriving own_there first_there js; commands = [] }) ws)) (sym vs.0) joined)

      -- blocks that are done, one after another
      pub data AlikeDones (count : ℕ) : List Done → List Done → Type 0 where
        none_done : AlikeDones count [] []
        one_done : {d e : Done} {ds es : List Done} → AlikeDone count d e → AlikeDones count ds es → AlikeDones count (d ∷ ds) (e ∷ es)

      pub dones_more : (n m : ℕ) → n ≤ m → (ds es : List Done) → AlikeDones n ds es → AlikeDones m ds es
      dones_more n m le _ _ none_done = none_done
      dones_more n m le _ _ (one_done {d = d} {e = e} {ds = ds} {es = es} a rest) = one_done (done_more n m le d e a) (dones_more n m le ds es rest)

      pub dones_push : (count : ℕ) (ds es : List Done) → AlikeDones count ds es → (d e : Done) → AlikeDone count d e → AlikeDones count (ds ++ d ∷ []) (es ++ e ∷ [])
      dones_push count _ _ none_done d e a = one_done a none_done
      dones_push count _ _ (one_done {ds = ds} {es = es} b rest) d e a = one_done b (dones_push count ds es rest d e a)

      pub done_at : (count : ℕ) (ds es : List Done) → AlikeDones count ds es → (p : ℕ) → p < length ds → AlikeDone count (slice_index_or ds p nothing_done) (slice_index_or es p nothing_done)
      done_at count _ _ none_done p h = absurd (omega (h, arith))
      done_at count _ _ (one_done a rest) zero h = a
      done_at count _ _ (one_done {ds = ds} {es = es} a rest) (suc p) h = done_at count ds es rest p (omega (h, arith))

      -- what is joined at a block, which may not be there
      pub joined_at : (count : ℕ) (ds es : List Done) → AlikeDones count ds es → (p : ℕ)
          → ((slice_index_or es p nothing_done).joined ≡ map (λ (q : ℕ × ℕ). (new_var q.0, newer q.1)) (slice_index_or ds p nothing_done).joined) × AllByRecursion (λ q. V q.0 × LaterV q.1) (slice_index_or ds p nothing_done).joined
      joined_at count _ _ none_done p = (refl, tt)
      joined_at count _ _ (one_done a rest) zero = (a.joined, a.joined_known)
      joined_at count _ _ (one_done {ds = ds} {es = es} a rest) (suc p) = joined_at count ds es rest p

      pub lasts_alike : (count : ℕ) (ds es : List Done) → AlikeDones count ds es → (ps : List ℕ) → AllByRecursion (λ p. p < length ds) ps → AlikeLasts count (lasts ds ps) (lasts es ps)
      lasts_alike count ds es a [] h = none_left
      lasts_alike count ds es a (p ∷ ps) h = one_left (done_at count ds es a p h.0).last (lasts_alike count ds es a ps h.1)

      -- the equations of a block for the joins to which its edges go
      pub all_equations : (count : ℕ) (ds es : List Done) → AlikeDones count ds es → (d e : Done) → AlikeLast count d.last e.last → (next : List ℕ)
          → (formulas (flat_map (λ c. equations_for e (slice_index_or es c nothing_done)) next) ≡ map (both_renamed new_def newer) (formulas (flat_map (λ c. equations_for d (slice_index_or ds c nothing_done)) next)))
          × AllByRecursion (EachHas LaterV D) (formulas (flat_map (λ c. equations_for d (slice_index_or ds c nothing_done)) next))
      all_equations count ds es a d e l [] = (refl, tt)
      all_equations count ds es a d e l (c ∷ next) =
          let j = joined_at count ds es a c in
          let mine = equations_for d (slice_index_or ds c nothing_done) in
          let theirs = equations_for e (slice_index_or es c nothing_done) in
          let rest = all_equations count ds es a d e l next in
          let here_same : formulas theirs ≡ map (both_renamed new_def newer) (formulas mine)
          = ap (λ ps. formulas (map (λ (p : ℕ × ℕ). Assume (equal (free p.1) (free (incarnation e.last p.0)))) ps)) j.0 ∙ equations_alike count d e l (slice_index_or ds c nothing_done).joined j.1 in
          let rest_mine = flat_map (λ b. equations_for d (slice_index_or ds b nothing_done)) next in
          let rest_theirs = flat_map (λ b. equations_for e (slice_index_or es b nothing_done)) next in (
            map-append formula_in theirs rest_theirs ∙ (λ i. here_same i ++ rest.0 i) ∙ sym (ap (map (both_renamed new_def newer)) (map-append formula_in mine rest_mine) ∙ map-append (both_renamed new_def newer) (formulas mine) (formulas rest_mine)),
            subst (AllByRecursion (EachHas LaterV D)) (sym (map-append formula_in mine rest_mine)) (every_append (EachHas LaterV D) (formulas mine) (formulas rest_mine) (equations_covered count d e l (slice_index_or ds c nothing_done).joined j.1) rest.1),
          )

      -- a block's commands leave what isn't renamed alone
      firsts : (s t : Made) (ps : List (ℕ × Tree))
          → map (λ (p : ℕ × Tree). p.0) (map {B = ℕ × Tree} (λ p. (p.0, read t.present p.1)) (map {B = ℕ × Tree} (λ p. (new_var p.0, both_renamed new_def new_var p.1)) ps)) ≡ map (λ (p : ℕ × Tree). new_var p.0) (map {B = ℕ × Tree} (λ p. (p.0, read s.present p.1)) ps)
      firsts s t [] = refl
      firsts s t (p ∷ ps) = ap (λ ws. new_var p.0 ∷ ws) (firsts s t ps)

      firsts_known : (s : Made) (ps : List (ℕ × Tree)) → AllByRecursion (Sets D V) ps → AllByRecursion (λ (p : ℕ × Tree). V p.0) (map {B = ℕ × Tree} (λ p. (p.0, read s.present p.1)) ps)
      firsts_known s [] h = tt
      firsts_known s (p ∷ ps) h = (h.0.0, firsts_known s ps h.1)

      perform_idle : (c d : Command) → AlikeCommand new_def new_var D V c d → (s t : Made) → Idle s t → Idle (perform s c) (perform t d)
      perform_idle _ _ (asserted h) s t a = record { idle = a.idle; idle_there = a.idle_there }
      perform_idle _ _ (assumed_so h) s t a = record { idle = a.idle; idle_there = a.idle_there }
      perform_idle _ _ (set_all {ps = ps} h) s t a =
          assigned_idle (map {B = ℕ × Tree} (λ p. (p.0, read s.present p.1)) ps) (map {B = ℕ × Tree} (λ p. (p.0, read t.present p.1)) (map {B = ℕ × Tree} (λ p. (new_var p.0, both_renamed new_def new_var p.1)) ps))
          (firsts s t ps) (firsts_known s ps h) s t a
      perform_idle _ _ (any_values {vs = vs} h) s t a = havocked_idle vs h s t a

      all_idle : (cs ds : List Command) → AlikeCommands new_def new_var D V cs ds → (s t : Made) → Idle s t → Idle (perform_all s cs) (perform_all t ds)
      all_idle _ _ no_more s t a = a
      all_idle _ _ (one_more {c = c} {d = d} {cs = cs} {ds = ds} b rest) s t a = all_idle cs ds rest (perform s c) (perform t d) (perform_idle c d b s t a)

      begun_idle : (count : ℕ) (ss ts : List Kind) (is js : List Incarnations) → AlikeLasts count is js
          → Idle (record { sorts = ss; present = arriving own first is; commands = [] }) (record { sorts = ts; present = arriving own_there first_there js; commands = [] })
      begun_idle count ss ts is js a = record { idle = arrives_idle count is js a; idle_there = arrives_idle_there count is js a }

      pub block_idle : (count : ℕ) (ss ts : List Kind) (is js : List Incarnations) (a : AlikeLasts count is js) (cs ds : List Command) → AlikeCommands new_def new_var D V cs ds
          → Idle (perform_all (havocked (record { sorts = ss; present = arriving own first is; commands = [] }) (disagree own is)) cs)
          (perform_all (havocked (record { sorts = ts; present = arriving own_there first_there js; commands = [] }) (disagree own_there js)) ds)
      block_idle count ss ts is js a cs ds c =
          let start : Made = record { sorts = ss; present = arriving own first is; commands = [] } in
          let start_there : Made = record { sorts = ts; present = arriving own_there first_there js; commands = [] } in
          let vs = disagree_alike count is js a in
          all_idle cs ds c (havocked start (disagree own is)) (havocked start_there (disagree own_there js))
          (subst (λ ws. Idle (havocked start (disagree own is)) (havocked start_there ws)) (sym vs.0) (havocked_idle (disagree own is) vs.1 start start_there (begun_idle count ss ts is js a)))

      pub block_joins : (count : ℕ) (ss ts : List Kind) (long : length ss ≡ length xs + count) (longer : length ts ≡ length ys + count)
          (sorted : (i : ℕ) → LaterV i → i < length ss → slice_get ts (newer i) ≡ slice_get ss i) (is js : List Incarnations) (a : AlikeLasts count is js)
          → (new_at_join (record { sorts = ts; present = arriving own_there first_there js; commands = [] }) (disagree own_there js)
          ≡ map (λ (p : ℕ × ℕ). (new_var p.0, newer p.1)) (new_at_join (record { sorts = ss; present = arriving own first is; commands = [] }) (disagree own is)))
          × AllByRecursion (λ p. V p.0 × LaterV p.1) (new_at_join (record { sorts = ss; present = arriving own first is; commands = [] }) (disagree own is))
      block_joins count ss ts long longer sorted is js a =
          let start : Made = record { sorts = ss; present = arriving own first is; commands = [] } in
          let start_there : Made = record { sorts = ts; present = arriving own_there first_there js; commands = [] } in
          let vs = disagree_alike count is js a in
          let j = joins_alike start start_there (begun count ss ts long longer sorted is js a) (disagree own is) vs.1 in
          (ap (new_at_join start_there) vs.0 ∙ j.0, j.1)
