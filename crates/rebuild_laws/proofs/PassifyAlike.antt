-- Rising graphs over variables with new numbers have passive forms with equal obligations.
use Rattle.std.specs.Prelude.{◌≡◌, refl, ◌⊎◌, ℕ, zero, suc, ◌+◌, ◌<◌, ◌≤◌, nat_lt, ◌==◌, Bool, true, false, cond, List, [], ◌∷◌, ◌++◌, map, length, filter, flat_map, slice_get, slice_index_or, None}
use Rattle.std.specs.List.{AllByRecursion, list_any, range_with_len}
use Rattle.std.proofs.Common.{ap, sym, subst, arith, ◌∙◌}
use Rattle.std.proofs.lemmas.Bool.Decides.{nat_tests}
use Rattle.std.proofs.lemmas.List.{map-append, length-map, length-append}
use Rattle.std.proofs.lemmas.List.FromFn.{get_or-map-range_with_len}
use mathlib.Core.Logic.{inl, inr}
use Rattle.logic_core.specs.Tree.{Kind, int, Tree}
use Rattle.logic_core.specs.Renamed.{both_renamed, EachHas}
use Rattle.flow_core.specs.declared.command.Command.{Command}
use Rattle.flow_core.specs.Graph.{Graph, block_at}
use Rattle.passive_form.specs.Passive.{passive_block_at, formula_in, formulas}
use Rattle.passive_form.specs.declared.made.Made.{Made}
use Rattle.passive_form.specs.declared.done.Done.{Done}
use Rattle.passive_form.specs.declared.passive.PassiveBlock.{PassiveBlock}
use Rattle.passive_form.specs.Incarnations.{Incarnations, first_incarnation, first_incarnations, read, anew, also, assigned, havocked, perform, perform_all, nothing_done, has_edge, predecessors, disagree, arriving, new_at_join, lasts, do_block, do_blocks, equations_for, passive_block, numbers}
use Rattle.flow_core.specs.declared.command.Command.TheVariants.{Assert, Assume, Assign, Havoc}
use Rattle.logic_core.specs.Tree.{free, equal}
use Rattle.logic_core.proofs.EachOf.{every_append}
use Rattle.rebuild_laws.proofs.InOrder.{range_long, InOrder}
use Rattle.rebuild_laws.proofs.CutsAlike.{AlikeBlocks, block_alike}
use Rattle.rebuild_laws.proofs.BlocksAlike.{blocks_long}
use Rattle.rebuild_laws.proofs.Presents.{Later, new_later, later_first, later_made}
use Rattle.rebuild_laws.proofs.PassivesAlike.{AlikeLasts, AlikeDone, FirstKnown, AlikeDones, none_done, dones_more, dones_push, done_at, lasts_alike, all_equations, joined_at, block_done, block_idle, block_joins}
use Rattle.rebuild_laws.proofs.WhichAssert.{kinds, block_kinds, equations_kinds, asserts_so}

-- states only grow
grows_anew : (s : Made) (v : ℕ) → length (anew s v).sorts ≡ length s.sorts + 1
grows_anew s v = length-append s.sorts (slice_index_or s.sorts v int ∷ [])

grows_havocked : (vs : List ℕ) (s : Made) → length s.sorts ≤ length (havocked s vs).sorts
grows_havocked [] s = omega arith
grows_havocked (v ∷ vs) s = let one = grows_anew s v in let rest = grows_havocked vs (anew s v) in omega (one, rest, arith)

grows_assigned : (ps : List (ℕ × Tree)) (s : Made) → length s.sorts ≤ length (assigned s ps).sorts
grows_assigned [] s = omega arith
grows_assigned (p ∷ ps) s =
    let one = grows_anew s p.0 in
    let rest : length (anew s p.0).sorts ≤ length (assigned (also (anew s p.0) (Assume (equal (free (length s.sorts)) p.1))) ps).sorts = grows_assigned ps (also (anew s p.0) (Assume (equal (free (length s.sorts)) p.1))) in
    omega (one, rest, arith)

grows_command : (c : Command) (s : Made) → length s.sorts ≤ length (perform s c).sorts
grows_command (Assert m E) s = omega arith
grows_command (Assume E) s = omega arith
grows_command (Assign ps) s = grows_assigned (map {B = ℕ × Tree} (λ p. (p.0, read s.present p.1)) ps) s
grows_command (Havoc xs) s = grows_havocked xs s

grows : (cs : List Command) (s : Made) → length s.sorts ≤ length (perform_all s cs).sorts
grows [] s = omega arith
grows (c ∷ cs) s = let one = grows_command c s in let rest = grows cs (perform s c) in omega (one, rest, arith)

beyond : {A : Type 0} (xs : List A) (n : ℕ) (d : A) → length xs ≤ n → slice_index_or xs n d ≡ d
beyond [] n d h = refl
beyond (x ∷ xs) zero d h = absurd (omega (h, arith))
beyond (x ∷ xs) (suc n) d h = beyond xs n d (omega (h, arith))

none_beyond : {A : Type 0} (xs : List A) (n : ℕ) → length xs ≤ n → slice_get xs n ≡ None
none_beyond [] n h = refl
none_beyond (x ∷ xs) zero h = absurd (omega (h, arith))
none_beyond (x ∷ xs) (suc n) h = none_beyond xs n (omega (h, arith))

got_map : {A B : Type 0} (f : A → B) (xs : List A) (n : ℕ) (d : A) → f (slice_index_or xs n d) ≡ slice_index_or (map f xs) n (f d)
got_map f [] n d = refl
got_map f (x ∷ xs) zero d = refl
got_map f (x ∷ xs) (suc n) d = got_map f xs n d

below_or_not : (a b : ℕ) → (a < b) ⊎ (b ≤ a)
below_or_not a b = by (nat_lt a b) refl
  where
    by : (t : Bool) → nat_lt a b ≡ t → (a < b) ⊎ (b ≤ a)
    by true e = inl (grind (arith, nat_tests, e))
    by false e = inr (grind (arith, nat_tests, e))

-- a block with these predecessors
abbrev done_with : (k : Graph) (f : Incarnations) (sorts : List Kind) (before : List Done) (b : ℕ) (ps : List ℕ) → Made × Done
done_with k f sorts before b ps =
    let is = lasts before ps in
    let start : Made = record { sorts = sorts; present = arriving k.own f is; commands = [] } in
    let vs = disagree k.own is in
    let s = perform_all (havocked start vs) (block_at k.blocks b).commands in
    (s, record { joined = new_at_join start vs; commands = s.commands; last = s.present })

abbrev kinds_done : Done → List Bool
kinds_done d = kinds d.commands

module _ (xs ys : List Kind) (new_def new_var : ℕ → ℕ) (D V : ℕ → Type 0)
    (here : (v : ℕ) → V v → v < length xs) (there : (v : ℕ) → V v → new_var v < length ys)
    (sorts : (v : ℕ) → V v → slice_get ys (new_var v) ≡ slice_get xs v)
    (one_var : (u v : ℕ) → V u → V v → new_var u ≡ new_var v → u ≡ v)
    (g h : Graph) (order : InOrder new_var V g.own h.own)
    (own_same : (v : ℕ) → V v → nat_lt (new_var v) h.own ≡ nat_lt v g.own)
    (in_here : (v : ℕ) → V v → order.in_here v ≡ true) (in_there : (v : ℕ) → V v → order.in_there (new_var v) ≡ true)
    (begins : FirstKnown xs ys new_def new_var D V here there sorts one_var g.own h.own order own_same (first_incarnations g xs) (first_incarnations h ys))
    (own_low : g.own ≤ length xs) (own_low_there : h.own ≤ length ys)
    (blocks : AlikeBlocks new_def new_var D V g.blocks h.blocks)
    (rises : (p c : ℕ) → has_edge g.blocks p c ≡ true → p < c) where
  abbrev first : Incarnations
  first = first_incarnations g xs

  abbrev first_there : Incarnations
  first_there = first_incarnations h ys

  abbrev newer : ℕ → ℕ
  newer = new_later xs ys new_def new_var D V here there sorts one_var

  abbrev LaterV : ℕ → Type 0
  LaterV = Later xs ys new_def new_var D V here there sorts one_var

  pub wide : length first ≡ length xs
  wide = length-map (range_with_len 0 (length xs)) (first_incarnation g) ∙ range_long 0 (length xs)

  pub wider : length first_there ≡ length ys
  wider = length-map (range_with_len 0 (length ys)) (first_incarnation h) ∙ range_long 0 (length ys)

  abbrev Dones : ℕ → List Done → List Done → Type 0
  Dones = AlikeDones xs ys new_def new_var D V here there sorts one_var g.own h.own order own_same first first_there in_here in_there wide wider begins own_low own_low_there

  abbrev Lasts : ℕ → List Incarnations → List Incarnations → Type 0
  Lasts = AlikeLasts xs ys new_def new_var D V here there sorts one_var g.own h.own order own_same first first_there

  same_next : (b : ℕ) → (block_at h.blocks b).next ≡ (block_at g.blocks b).next
  same_next b = (block_alike new_def new_var D V g.blocks h.blocks blocks b).next

  pub same_long : length h.blocks ≡ length g.blocks
  same_long = blocks_long new_def new_var D V (λ k l. ⊥) g.blocks h.blocks blocks

  predecessors_same : (b : ℕ) → predecessors h.blocks b ≡ predecessors g.blocks b
  predecessors_same b = λ i. filter (λ p. list_any (λ c. c == b) (same_next p i)) (range_with_len 0 (same_long i))

  predecessors_low : (b : ℕ) (ps : List ℕ) → AllByRecursion (λ p. p < b) (filter (λ p. has_edge g.blocks p b) ps)
  predecessors_low b [] = tt
  predecessors_low b (p ∷ ps) = by (has_edge g.blocks p b) refl (predecessors_low b ps)
    where
      by : (t : Bool) → has_edge g.blocks p b ≡ t → AllByRecursion (λ q. q < b) (filter (λ q. has_edge g.blocks q b) ps)
          → AllByRecursion (λ q. q < b) (cond t (p ∷ filter (λ q. has_edge g.blocks q b) ps) (filter (λ q. has_edge g.blocks q b) ps))
      by true e k = (rises p b e, k)
      by false e k = k

  -- the sorts so far, and the blocks that are done
  pub record AlikeState (n : ℕ) (ss ts : List Kind) (ds es : List Done) : Type 0 where
    pub count : ℕ
    pub number : length ds ≡ n
    pub long : length ss ≡ length xs + count
    pub longer : length ts ≡ length ys + count
    pub sorted : (i : ℕ) → LaterV i → i < length ss → slice_get ts (newer i) ≡ slice_get ss i
    pub dones : Dones count ds es
    pub kinds_same : map kinds_done es ≡ map kinds_done ds

  low_all : (n : ℕ) (ps : List ℕ) (m : ℕ) → n ≡ m → AllByRecursion (λ p. p < m) ps → AllByRecursion (λ p. p < n) ps
  low_all n [] m e a = tt
  low_all n (p ∷ ps) m e a = (let low = a.0 in omega (low, e, arith), low_all n ps m e a.1)

  step_with : (b : ℕ) (ss ts : List Kind) (ds es : List Done) → AlikeState b ss ts ds es → (ps : List ℕ) → AllByRecursion (λ p. p < b) ps
      → AlikeState (b + 1) (done_with g first ss ds b ps).0.sorts (done_with h first_there ts es b ps).0.sorts (ds ++ (done_with g first ss ds b ps).1 ∷ []) (es ++ (done_with h first_there ts es b ps).1 ∷ [])
  step_with b ss ts ds es a ps low =
      let is = lasts ds ps in
      let js = lasts es ps in
      let cs = (block_at g.blocks b).commands in
      let bs = (block_at h.blocks b).commands in
      let l : Lasts a.count is js = lasts_alike xs ys new_def new_var D V here there sorts one_var g.own h.own order own_same first first_there in_here in_there wide wider begins own_low own_low_there a.count ds es a.dones ps (low_all (length ds) ps b a.number low) in
      let c = (block_alike new_def new_var D V g.blocks h.blocks blocks b).commands in
      let m = block_done xs ys new_def new_var D V here there sorts one_var g.own h.own order own_same first first_there in_here in_there wide wider begins own_low own_low_there a.count ss ts a.long a.longer a.sorted is js l cs bs c in
      let q = block_idle xs ys new_def new_var D V here there sorts one_var g.own h.own order own_same first first_there in_here in_there wide wider begins own_low own_low_there a.count ss ts is js l cs bs c in
      let j = block_joins xs ys new_def new_var D V here there sorts one_var g.own h.own order own_same first first_there in_here in_there wide wider begins own_low own_low_there a.count ss ts a.long a.longer a.sorted is js l in
      let start : Made = record { sorts = ss; present = arriving g.own first is; commands = [] } in
      let start_there : Made = record { sorts = ts; present = arriving h.own first_there js; commands = [] } in
      let more = grows_havocked (disagree g.own is) start in
      let most = grows cs (havocked start (disagree g.own is)) in
      let up : a.count ≤ m.count = let x = a.long in let y = m.long in omega (x, y, more, most, arith) in
      let d = (done_with g first ss ds b ps).1 in
      let e = (done_with h first_there ts es b ps).1 in
      let done : AlikeDone xs ys new_def new_var D V here there sorts one_var g.own h.own order own_same first first_there m.count d e = record {
        joined = j.0;
        joined_known = j.1;
        same = m.same;
        covered = m.covered;
        last = record {
          present = m.present;
          known = λ v k. let r = m.known v k in (r.0, let under = r.1 in let size = m.long in omega (under, size, arith));
          idle = q.idle;
          idle_there = q.idle_there;
        };
      } in
      record {
        count = m.count;
        number = length-append ds (d ∷ []) ∙ (λ i. a.number i + 1);
        long = m.long;
        longer = m.longer;
        sorted = m.sorted;
        dones = dones_push xs ys new_def new_var D V here there sorts one_var g.own h.own order own_same first first_there in_here in_there wide wider begins own_low own_low_there m.count ds es
            (dones_more xs ys new_def new_var D V here there sorts one_var g.own h.own order own_same first first_there in_here in_there wide wider begins own_low own_low_there a.count m.count up ds es a.dones) d e done;
        kinds_same = map-append kinds_done es (e ∷ []) ∙ (λ i. a.kinds_same i ++ block_kinds new_def new_var D V (disagree g.own is) (disagree h.own js) cs bs c start start_there refl i ∷ []) ∙ sym (map-append kinds_done ds (d ∷ []));
      }

  step : (b : ℕ) (ss ts : List Kind) (ds es : List Done) → AlikeState b ss ts ds es
      → AlikeState (b + 1) (do_block g first ss ds b).0.sorts (do_block h first_there ts es b).0.sorts (ds ++ (do_block g first ss ds b).1 ∷ []) (es ++ (do_block h first_there ts es b).1 ∷ [])
  step b ss ts ds es a =
      subst (λ qs. AlikeState (b + 1) (do_block g first ss ds b).0.sorts (done_with h first_there ts es b qs).0.sorts (ds ++ (do_block g first ss ds b).1 ∷ []) (es ++ (done_with h first_there ts es b qs).1 ∷ []))
      (sym (predecessors_same b)) (step_with b ss ts ds es a (predecessors g.blocks b) (predecessors_low b (numbers g.blocks)))

  steps : (n b : ℕ) (ss ts : List Kind) (ds es : List Done) → AlikeState b ss ts ds es
      → AlikeState (b + n) (do_blocks g first ss ds (range_with_len b n)).0 (do_blocks h first_there ts es (range_with_len b n)).0 (do_blocks g first ss ds (range_with_len b n)).1 (do_blocks h first_there ts es (range_with_len b n)).1
  steps zero b ss ts ds es a = let e : b ≡ b + zero = omega arith in subst (λ k. AlikeState k ss ts ds es) e a
  steps (suc n) b ss ts ds es a =
      let r = do_block g first ss ds b in
      let q = do_block h first_there ts es b in
      let e : b + 1 + n ≡ b + suc n = omega arith in
      subst (λ k. AlikeState k (do_blocks g first ss ds (range_with_len b (suc n))).0 (do_blocks h first_there ts es (range_with_len b (suc n))).0 (do_blocks g first ss ds (range_with_len b (suc n))).1 (do_blocks h first_there ts es (range_with_len b (suc n))).1) e
      (steps n (b + 1) r.0.sorts q.0.sorts (ds ++ r.1 ∷ []) (es ++ q.1 ∷ []) (step b ss ts ds es a))

  begin : AlikeState 0 xs ys [] []
  begin = record { count = 0; number = refl; long = omega arith; longer = omega arith; sorted = at_first; dones = none_done; kinds_same = refl }
    where
      at_first : (i : ℕ) → LaterV i → i < length xs → slice_get ys (newer i) ≡ slice_get xs i
      at_first i (inl k) low = ap (slice_get ys) (later_first xs ys new_def new_var D V here there sorts one_var i k) ∙ sorts i k
      at_first i (inr k) low = absurd (omega (k, low, arith))

  abbrev done_here : List Kind × List Done
  done_here = do_blocks g first xs [] (numbers g.blocks)

  abbrev done_there : List Kind × List Done
  done_there = do_blocks h first_there ys [] (numbers h.blocks)

  pub finished : AlikeState (0 + length g.blocks) done_here.0 done_there.0 done_here.1 done_there.1
  finished =
      subst (λ n. AlikeState (0 + length g.blocks) done_here.0 (do_blocks h first_there ys [] (range_with_len 0 n)).0 done_here.1 (do_blocks h first_there ys [] (range_with_len 0 n)).1) (sym same_long)
      (steps (length g.blocks) 0 xs ys [] [] begin)

  -- the sorts of incarnations, those that are there and all others
  pub sorts_same : (v : ℕ) → LaterV v → slice_get done_there.0 (newer v) ≡ slice_get done_here.0 v
  sorts_same v k = by k (below_or_not v (length done_here.0))
    where
      by : LaterV v → (v < length done_here.0) ⊎ (length done_here.0 ≤ v) → slice_get done_there.0 (newer v) ≡ slice_get done_here.0 v
      by q (inl low) = finished.sorted v q low
      by (inl q) (inr high) = let low = here v q in let size = finished.long in absurd (omega (low, high, size, arith))
      by (inr q) (inr high) =
          let made = later_made xs ys new_def new_var D V here there sorts one_var v q in
          let size = finished.long in
          let size_there = finished.longer in
          none_beyond done_there.0 (newer v) (omega (made, size, size_there, high, arith)) ∙ sym (none_beyond done_here.0 v high)

  abbrev blocks_here : List PassiveBlock
  blocks_here = map (passive_block g done_here.1) (numbers g.blocks)

  abbrev blocks_there : List PassiveBlock
  blocks_there = map (passive_block h done_there.1) (numbers h.blocks)

  abbrev no_block : PassiveBlock
  no_block = record { commands = []; next = [] }

  at_here : (b : ℕ) → b < length g.blocks → passive_block_at blocks_here b ≡ passive_block g done_here.1 b
  at_here b low = get_or-map-range_with_len (passive_block g done_here.1) 0 (length g.blocks) b b no_block low (omega arith)

  at_there : (b : ℕ) → b < length g.blocks → passive_block_at blocks_there b ≡ passive_block h done_there.1 b
  at_there b low = get_or-map-range_with_len (passive_block h done_there.1) 0 (length h.blocks) b b no_block (omega (low, same_long, arith)) (omega arith)

  none_here : (b : ℕ) → length g.blocks ≤ b → passive_block_at blocks_here b ≡ no_block
  none_here b high = beyond blocks_here b no_block (let size = length-map (numbers g.blocks) (passive_block g done_here.1) in let long = range_long 0 (length g.blocks) in omega (size, long, high, arith))

  none_there : (b : ℕ) → length g.blocks ≤ b → passive_block_at blocks_there b ≡ no_block
  none_there b high = beyond blocks_there b no_block (let size = length-map (numbers h.blocks) (passive_block h done_there.1) in let long = range_long 0 (length h.blocks) in omega (size, long, high, same_long, arith))

  -- two passive blocks go alike
  pub record AlikePassive (b c : PassiveBlock) : Type 0 where
    pub next : c.next ≡ b.next
    pub made : formulas c.commands ≡ map (both_renamed new_def newer) (formulas b.commands)
    pub covered : AllByRecursion (EachHas LaterV D) (formulas b.commands)
    pub kinds_same : kinds c.commands ≡ kinds b.commands

  equations_kinds_all : (d e : Done) (next : List ℕ) → kinds (flat_map (λ c. equations_for e (slice_index_or done_there.1 c nothing_done)) next) ≡ kinds (flat_map (λ c. equations_for d (slice_index_or done_here.1 c nothing_done)) next)
  equations_kinds_all d e [] = refl
  equations_kinds_all d e (c ∷ next) =
      let mine = slice_index_or done_here.1 c nothing_done in
      let theirs = slice_index_or done_there.1 c nothing_done in
      let j = joined_at xs ys new_def new_var D V here there sorts one_var g.own h.own order own_same first first_there in_here in_there wide wider begins own_low own_low_there finished.count done_here.1 done_there.1 finished.dones c in
      let long : length theirs.joined ≡ length mine.joined = ap length j.0 ∙ length-map mine.joined (λ (p : ℕ × ℕ). (new_var p.0, newer p.1)) in
      map-append asserts_so (equations_for e theirs) (flat_map (λ k. equations_for e (slice_index_or done_there.1 k nothing_done)) next)
      ∙ (λ i. equations_kinds d e mine theirs long i ++ equations_kinds_all d e next i)
      ∙ sym (map-append asserts_so (equations_for d mine) (flat_map (λ k. equations_for d (slice_index_or done_here.1 k nothing_done)) next))

  block_passive : (b : ℕ) → b < length g.blocks → AlikePassive (passive_block g done_here.1 b) (passive_block h done_there.1 b)
  block_passive b low =
      let d = slice_index_or done_here.1 b nothing_done in
      let e = slice_index_or done_there.1 b nothing_done in
      let next = (block_at g.blocks b).next in
      let under : b < length done_here.1 = let size = finished.number in omega (size, low, arith) in
      let one = done_at xs ys new_def new_var D V here there sorts one_var g.own h.own order own_same first first_there in_here in_there wide wider begins own_low own_low_there finished.count done_here.1 done_there.1 finished.dones b under in
      let all = all_equations xs ys new_def new_var D V here there sorts one_var g.own h.own order own_same first first_there in_here in_there wide wider begins own_low own_low_there finished.count done_here.1 done_there.1 finished.dones d e one.last next in
      let mine = flat_map (λ c. equations_for d (slice_index_or done_here.1 c nothing_done)) next in
      let theirs = flat_map (λ c. equations_for e (slice_index_or done_there.1 c nothing_done)) next in
      let kinds_of_done : kinds e.commands ≡ kinds d.commands = got_map kinds_done done_there.1 b nothing_done ∙ (λ i. slice_index_or (finished.kinds_same i) b []) ∙ sym (got_map kinds_done done_here.1 b nothing_done) in
      subst (λ ns. AlikePassive (passive_block g done_here.1 b) (record { commands = e.commands ++ flat_map (λ c. equations_for e (slice_index_or done_there.1 c nothing_done)) ns; next = ns })) (sym (same_next b)) (record {
        next = refl;
        made = map-append formula_in e.commands theirs ∙ (λ i. one.same i ++ all.0 i) ∙ sym (ap (map (both_renamed new_def newer)) (map-append formula_in d.commands mine) ∙ map-append (both_renamed new_def newer) (formulas d.commands) (formulas mine));
        covered = subst (AllByRecursion (EachHas LaterV D)) (sym (map-append formula_in d.commands mine)) (every_append (EachHas LaterV D) (formulas d.commands) (formulas mine) one.covered all.1);
        kinds_same = map-append asserts_so e.commands theirs ∙ (λ i. kinds_of_done i ++ equations_kinds_all d e next i) ∙ sym (map-append asserts_so d.commands mine);
      })

  pub passive_alike : (b : ℕ) → AlikePassive (passive_block_at blocks_here b) (passive_block_at blocks_there b)
  passive_alike b = by (below_or_not b (length g.blocks))
    where
      by : (b < length g.blocks) ⊎ (length g.blocks ≤ b) → AlikePassive (passive_block_at blocks_here b) (passive_block_at blocks_there b)
      by (inl low) = subst (λ c. AlikePassive c (passive_block_at blocks_there b)) (sym (at_here b low)) (subst (AlikePassive (passive_block g done_here.1 b)) (sym (at_there b low)) (block_passive b low))
      by (inr high) = subst (λ c. AlikePassive c (passive_block_at blocks_there b)) (sym (none_here b high)) (subst (AlikePassive no_block) (sym (none_there b high)) (record { next = refl; made = refl; covered = tt; kinds_same = refl }))
