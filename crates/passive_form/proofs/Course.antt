-- Step by step along a failing run: from what holds where it stands, an assignment that breaks the failed assertion along what is left of its path.
use Rattle.std.specs.Prelude.{◌≡◌, refl, ℕ, ◌+◌, ◌-◌, ◌<◌, ◌≤◌, true, List, [], ◌∷◌, ◌++◌, map, take, flat_map, length, slice_get, slice_index_or, Contains, All}
use Rattle.std.specs.List.{AllByRecursion}
use Rattle.std.proofs.Common.{arith, ap, ◌∙◌, sym, subst}
use Rattle.std.proofs.lemmas.Bool.{cases_lt}
use Rattle.std.proofs.lemmas.List.{append_assoc, append-nil, map-append, get_or_at}
use Rattle.std.proofs.lemmas.List.FromFn.{get_or-map-range_with_len}
use mathlib.Core.Logic.{inl, inr}
use Rattle.logic_core.specs.Tree.{Kind, Tree}
use Rattle.logic_core.specs.Def.{Def}
use Rattle.logic_core.specs.Value.{Value, are_of, at}
use Rattle.logic_core.proofs.EachOf.{every_append}
use Rattle.flow_core.specs.declared.mark.Mark.{Mark}
use Rattle.flow_core.specs.declared.command.Command.{Command}
use Rattle.flow_core.specs.declared.command.Command.TheVariants.{Assert, Assume, Assign, Havoc}
use Rattle.flow_core.specs.State.{State, HoldsIn, AllHold, EvaluateTo, FitSorts, update}
use Rattle.flow_core.specs.Graph.{Graph, block_at, Edge}
use Rattle.flow_core.specs.Run.{IsUntouched}
use Rattle.passive_form.specs.declared.passive.PassiveBlock.{PassiveBlock}
use Rattle.passive_form.specs.Passive.{passive_block_at, formula_in, formulas, BreaksAlong}
use Rattle.passive_form.specs.declared.made.Made.{Made}
use Rattle.passive_form.specs.declared.done.Done.{Done}
use Rattle.passive_form.specs.Incarnations.{Incarnations, incarnation, nothing_done, predecessors, disagree, read, also, perform, perform_all, new_at_join, equations_for, passive_block, passify}
use Rattle.passive_form.specs.Kept.{MayBePassified}
use Rattle.passive_form.proofs.Lists.{Prefix, prefix_next, prefix_length, prefix_get, contains_cases, contains_none, contains_first, contains_later, from_map, get_after, take_before}
use Rattle.passive_form.proofs.Values.{at_kept, are_length}
use Rattle.passive_form.proofs.Growing.{Grows, grows_all}
use Rattle.passive_form.proofs.Commands.{Fits, Going, assert_goes, assert_breaks_there, assume_goes, assign_goes, havoc_goes}
use Rattle.passive_form.proofs.Meeting.{alone_agrees, IsJoined, equations_hold}
use Rattle.passive_form.proofs.DoneBlocks.{filled, all_done, lasts_of, start_of, begun, doing, Before, at_first, after_block, sorts_begin, done_is, passed}
use Rattle.passive_form.proofs.Begins.{FromBlock, Arrives, before_edge, block_begun, values_begun, new_ones_say}

-- of at most one
one_alone : (xs : List ℕ) (v w : ℕ) → length xs ≤ 1 → Contains xs v → Contains xs w → v ≡ w
one_alone [] v w h c d = absurd (contains_none v c)
one_alone (x ∷ []) v w h c d = elim (contains_cases x [] v c) [
  | inl e ↦ elim (contains_cases x [] w d) [ inl f ↦ sym e ∙ f | inr n ↦ absurd (contains_none w n) ]
  | inr n ↦ absurd (contains_none v n)
]
one_alone (x ∷ y ∷ ys) v w h c d = absurd (omega arith)

module _ (defs : List Def) (vars : List Kind) (g : Graph) (may : MayBePassified defs vars g) (σ₀ : State) (are₀ : are_of vars σ₀ ≡ true) (untouched : All (IsUntouched g) defs) (olds : All (λ p. at σ₀ p.1 ≡ at σ₀ p.0) g.olds) (m : Mark) where
  abbrev Ends : List Done
  Ends = (all_done g vars).1

  abbrev IsFit : State → Type 0
  IsFit σ = Fits defs vars g may σ₀ are₀ untouched σ

  abbrev Moves : List Command → Made → List Value → State → Type 0
  Moves before s vals σ = Going defs vars g may σ₀ are₀ untouched before s vals σ

  -- an assignment that begins with the values and breaks the assertion along the path
  pub record Out (vals : List Value) (ps : List ℕ) : Type 0 where
    pub frees : State
    pub are : are_of (all_done g vars).0 frees ≡ true
    pub begins : Prefix vals frees
    pub block : ℕ
    pub place : ℕ
    pub breaks : BreaksAlong defs (passify g vars) frees ps block place m

  -- at an arrival: the new incarnations there have their variables' values
  pub record OutAt (c : ℕ) (σ : State) (vals : List Value) (ps : List ℕ) : Type 0 where
    pub out : Out vals ps
    pub rest : List ℕ
    pub enters : ps ≡ c ∷ rest
    pub joined : AllByRecursion (IsJoined g.own vars out.frees σ) (slice_index_or Ends c nothing_done).joined

  abbrev pub FromArrival : ℕ → State → List ℕ → Type 0
  FromArrival c σ ps = (k : ℕ) (sorts : List Kind) (before : List Done) (vals : List Value) → Before g vars k sorts before → k ≤ c → c < length g.blocks → are_of sorts vals ≡ true → Prefix σ₀ vals → IsFit σ
      → Arrives defs vars g may σ₀ are₀ untouched olds c σ before vals → OutAt c σ vals ps

  abbrev pub FromWithin : ℕ → List Command → State → List ℕ → Type 0
  FromWithin b cs σ ps = (sorts : List Kind) (dones : List Done) → Before g vars b sorts dones → b < length g.blocks → (before : List Command) → before ++ cs ≡ (block_at g.blocks b).commands
      → (s : Made) → perform_all s cs ≡ (doing g vars sorts dones b).0 → (vals : List Value) → Moves before s vals σ → Out vals (b ∷ ps)

  abbrev pub out_less : (vals more : List Value) (ps : List ℕ) → Prefix vals more → Out more ps → Out vals ps
  out_less vals more ps p o = record { frees = o.frees; are = o.are; begins = prefix_next vals more o.frees p o.begins; block = o.block; place = o.place; breaks = o.breaks }

  pub enters : (c : ℕ) (σ : State) (ps : List ℕ) → FromWithin c (block_at g.blocks c).commands σ ps → FromArrival c σ (c ∷ ps)
  enters c σ ps within k sorts before vals b low here are begins fits a =
      let l = passed g vars (c - k) k c sorts before vals (omega arith) (omega arith) b are in
      let start : Prefix σ₀ l.values = prefix_next σ₀ vals l.values begins l.longer in
      let moved : Arrives defs vars g may σ₀ are₀ untouched olds c σ l.dones l.values = elim a [
        | inl z ↦ inl z
        | inr f ↦
            let same : slice_index_or l.dones f.from nothing_done ≡ slice_index_or before f.from nothing_done = prefix_get before l.dones f.from nothing_done l.more f.done in
            inr (record {
              from = f.from;
              edge = f.edge;
              done = (let q : length before ≤ length l.dones = prefix_length before l.dones l.more in let r : f.from < length before = f.done in omega arith);
              says = λ v h w.
                  let r = f.says v h w in
                  subst (λ (d : Done). (incarnation d.last v < length l.values) × (at l.values (incarnation d.last v) ≡ at σ v)) (sym same) (
                    (let q : length vals ≤ length l.values = prefix_length vals l.values l.longer in let x : incarnation (slice_index_or before f.from nothing_done).last v < length vals = r.0 in omega arith),
                    at_kept vals l.values (incarnation (slice_index_or before f.from nothing_done).last v) l.longer r.0 ∙ r.1,
                  );
            })
      ] in
      let vals' : List Value = values_begun defs vars g may σ₀ are₀ untouched olds c here l.sorts l.dones l.there l.values l.are start σ fits in
      let o = within l.sorts l.dones l.there here [] refl (begun g vars l.sorts l.dones c) refl vals' (block_begun defs vars g may σ₀ are₀ untouched olds c here l.sorts l.dones l.there l.values l.are start σ fits moved) in
      let longer : Prefix l.values vals' = (map (at σ) (disagree g.own (lasts_of g vars l.dones c)), refl) in
      record {
        out = out_less vals vals' (c ∷ ps) (prefix_next vals l.values vals' l.longer longer) o;
        rest = ps;
        enters = refl;
        joined = subst (λ (d : Done). AllByRecursion (IsJoined g.own vars o.frees σ) d.joined) (sym (done_is g vars c l.sorts l.dones l.there here))
            (new_ones_say defs vars g may σ₀ are₀ untouched olds c here l.sorts l.dones l.there l.values l.are start σ fits o.frees o.begins);
      }

  -- the passive block of a block that is there
  passive_at : (b : ℕ) → b < length g.blocks → passive_block_at (passify g vars).blocks b ≡ passive_block g Ends b
  passive_at b h = get_or-map-range_with_len (passive_block g Ends) 0 (length g.blocks) b b (record { commands = []; next = [] }) h (omega arith)

  abbrev equations_of : Done → List ℕ → List Command
  equations_of d next = flat_map (λ c. equations_for d (slice_index_or Ends c nothing_done)) next

  passive_commands : (b : ℕ) → b < length g.blocks → (sorts : List Kind) (dones : List Done) → Before g vars b sorts dones
      → (passive_block_at (passify g vars).blocks b).commands ≡ (doing g vars sorts dones b).0.commands ++ equations_of (doing g vars sorts dones b).1 (block_at g.blocks b).next
  passive_commands b h sorts dones before = ap (λ (k : PassiveBlock). k.commands) (passive_at b h) ∙ ap (λ (d : Done). d.commands ++ equations_of d (block_at g.blocks b).next) (done_is g vars b sorts dones before h)

  pub fails : (b : ℕ) (E : Tree) (cs : List Command) (σ : State) → ¬ HoldsIn defs σ E → FromWithin b (Assert m E ∷ cs) σ []
  fails b E cs σ never sorts dones before here done is s e vals go =
      let c : Command = Assert m (read s.present E) in
      let end : Made = (doing g vars sorts dones b).0 in
      let grown : Grows (also s c) end = subst (Grows (also s c)) e (grows_all (also s c) cs) in
      let next = after_block g vars b sorts dones before here in
      let all : Prefix s.sorts (all_done g vars).0 = prefix_next s.sorts end.sorts (all_done g vars).0 grown.sorts (sorts_begin g vars (b + 1) end.sorts (dones ++ (doing g vars sorts dones b).1 ∷ []) next) in
      let f = filled s.sorts (all_done g vars).0 vals all go.present.are in
      let more : List Command = grown.commands.0 ++ equations_of (doing g vars sorts dones b).1 (block_at g.blocks b).next in
      let K : List Command = (passive_block_at (passify g vars).blocks b).commands in
      let eqs : List Command = equations_of (doing g vars sorts dones b).1 (block_at g.blocks b).next in
      let split : K ≡ s.commands ++ c ∷ more =
      passive_commands b here sorts dones before ∙ ap (λ l. l ++ eqs) (sym grown.commands.1) ∙ append_assoc (s.commands ++ c ∷ []) grown.commands.0 eqs ∙ append_assoc s.commands (c ∷ []) more in
      record {
        frees = f.0;
        are = f.2;
        begins = f.1;
        block = b;
        place = length s.commands;
        breaks = (
          refl,
          record {
            formula = read s.present E;
            asserted = ap (λ l. slice_get l (length s.commands)) split ∙ get_after s.commands c more;
            before = subst (λ l. AllHold defs f.0 (formulas l)) (sym (ap (take (length s.commands)) split ∙ take_before s.commands (c ∷ more))) (go.so_far f.0 f.1);
            breaks = λ h. never (assert_breaks_there defs vars g may σ₀ are₀ untouched b here done cs s vals σ go m E is f.0 f.1 h);
          },
        );
      }

  pub asserts : (b : ℕ) (n : Mark) (E : Tree) (cs : List Command) (σ : State) (ps : List ℕ) → HoldsIn defs σ E → FromWithin b cs σ ps → FromWithin b (Assert n E ∷ cs) σ ps
  asserts b n E cs σ ps h w sorts dones before here done is s e vals go =
      w sorts dones before here (done ++ Assert n E ∷ []) (append_assoc done (Assert n E ∷ []) cs ∙ is) (perform s (Assert n E)) e vals (assert_goes defs vars g may σ₀ are₀ untouched b here done cs s vals σ go n E is h)

  pub assumes : (b : ℕ) (E : Tree) (cs : List Command) (σ : State) (ps : List ℕ) → HoldsIn defs σ E → FromWithin b cs σ ps → FromWithin b (Assume E ∷ cs) σ ps
  assumes b E cs σ ps h w sorts dones before here done is s e vals go =
      w sorts dones before here (done ++ Assume E ∷ []) (append_assoc done (Assume E ∷ []) cs ∙ is) (perform s (Assume E)) e vals (assume_goes defs vars g may σ₀ are₀ untouched b here done cs s vals σ go E is h)

  pub assigns : (b : ℕ) (qs : List (ℕ × Tree)) (cs : List Command) (σ : State) (ps : List ℕ) (ws : List Value) → EvaluateTo defs σ (map (λ p. p.1) qs) ws → FitSorts vars (map (λ p. p.0) qs) ws
      → FromWithin b cs (update σ (map (λ p. p.0) qs) ws) ps → FromWithin b (Assign qs ∷ cs) σ ps
  assigns b qs cs σ ps ws h f w sorts dones before here done is s e vals go =
      let r = assign_goes defs vars g may σ₀ are₀ untouched b here done cs s vals σ go qs ws is h f in
      out_less vals r.0 (b ∷ ps) r.1 (w sorts dones before here (done ++ Assign qs ∷ []) (append_assoc done (Assign qs ∷ []) cs ∙ is) (perform s (Assign qs)) e r.0 r.2)

  pub havocs : (b : ℕ) (xs : List ℕ) (cs : List Command) (σ : State) (ps : List ℕ) (ws : List Value) → FitSorts vars xs ws → FromWithin b cs (update σ xs ws) ps → FromWithin b (Havoc xs ∷ cs) σ ps
  havocs b xs cs σ ps ws f w sorts dones before here done is s e vals go =
      let r = havoc_goes defs vars g may σ₀ are₀ untouched b here done cs s vals σ go xs ws is f in
      out_less vals r.0 (b ∷ ps) r.1 (w sorts dones before here (done ++ Havoc xs ∷ []) (append_assoc done (Havoc xs ∷ []) cs ∙ is) (perform s (Havoc xs)) e r.0 r.2)

  -- where a block's predecessors are one block, it has no new incarnations
  none_joined : (b c : ℕ) → c < length g.blocks → ((p : ℕ) → Edge g.blocks p c → p ≡ b) → (slice_index_or Ends c nothing_done).joined ≡ []
  none_joined b c h only =
      let l = passed g vars c 0 c vars [] σ₀ (omega arith) (omega arith) (at_first g vars) are₀ in
      let last : Incarnations = (slice_index_or l.dones b nothing_done).last in
      let none : disagree g.own (lasts_of g vars l.dones c) ≡ [] = alone_agrees g.own (lasts_of g vars l.dones c) last
      (λ j k. let r = from_map (λ p. (slice_index_or l.dones p nothing_done).last) (predecessors g.blocks c) j k in
      sym r.2 ∙ ap (λ p. (slice_index_or l.dones p nothing_done).last) (only r.0 (before_edge defs vars g may σ₀ are₀ untouched olds c r.0 r.1))) in
      ap (λ (d : Done). d.joined) (done_is g vars c l.sorts l.dones l.there h) ∙ ap (new_at_join (start_of g vars l.sorts l.dones c)) none

  equations_each : (frees : State) (d : Done) (next : List ℕ) → ((c : ℕ) → Contains next c → AllHold defs frees (formulas (equations_for d (slice_index_or Ends c nothing_done)))) → AllHold defs frees (formulas (equations_of d next))
  equations_each frees d [] f = tt
  equations_each frees d (c ∷ cs) f =
      let here : List Command = equations_for d (slice_index_or Ends c nothing_done) in
      subst (AllHold defs frees) (sym (map-append formula_in here (equations_of d cs)))
      (every_append (HoldsIn defs frees) (formulas here) (formulas (equations_of d cs)) (f c (contains_first c cs c refl)) (equations_each frees d cs (λ e k. f e (contains_later c cs e k))))

  -- at its end a block's equations hold along the edge that the run takes, and no other edge has any
  ending : (b c : ℕ) → b < length g.blocks → Edge g.blocks b c → (sorts : List Kind) (dones : List Done) → (vals : List Value) (σ : State) (frees : State) → Moves (block_at g.blocks b).commands (doing g vars sorts dones b).0 vals σ → Prefix vals frees
      → AllByRecursion (IsJoined g.own vars frees σ) (slice_index_or Ends c nothing_done).joined
      → (e : ℕ) → Contains (block_at g.blocks b).next e → AllHold defs frees (formulas (equations_for (doing g vars sorts dones b).1 (slice_index_or Ends e nothing_done)))
  ending b c here edge sorts dones vals σ frees go p joined e m =
      let d : Done = (doing g vars sorts dones b).1 in
      let Holding : ℕ → Type 0 = λ e. AllHold defs frees (formulas (equations_for d (slice_index_or Ends e nothing_done))) in
      elim (cases_lt 1 (length (block_at g.blocks b).next)) [
        | inl branches ↦
            let none : (slice_index_or Ends e nothing_done).joined ≡ [] = none_joined b e (may.edges b e m) (may.plain.branches b e branches m).alone in
            equations_hold g.own defs frees d.last (slice_index_or Ends e nothing_done).joined (subst (AllByRecursion (λ q. at frees q.1 ≡ at frees (incarnation d.last q.0))) (sym none) tt)
        | inr one ↦ subst Holding (one_alone (block_at g.blocks b).next c e one edge m)
            (equations_hold g.own defs frees d.last (slice_index_or Ends c nothing_done).joined (each_equal (slice_index_or Ends c nothing_done).joined joined))
      ]
    where
      each_equal : (qs : List (ℕ × ℕ)) → AllByRecursion (IsJoined g.own vars frees σ) qs → AllByRecursion (λ q. at frees q.1 ≡ at frees (incarnation (doing g vars sorts dones b).1.last q.0)) qs
      each_equal [] h = tt
      each_equal (q ∷ qs) h =
          let r = go.present.says q.0 h.0.1 (inl h.0.0) in
          let low : incarnation (doing g vars sorts dones b).1.last q.0 < length vals = subst (λ n. incarnation (doing g vars sorts dones b).1.last q.0 < n) (are_length (doing g vars sorts dones b).0.sorts vals go.present.are) r.0 in
          (h.0.2 ∙ sym (at_kept vals frees (incarnation (doing g vars sorts dones b).1.last q.0) p low ∙ r.1), each_equal qs h.1)

  pub follows : (b c : ℕ) (σ : State) (ps : List ℕ) → Edge g.blocks b c → FromArrival c σ ps → FromWithin b [] σ ps
  follows b c σ ps edge arrive sorts dones before here done is s e vals go =
      let r : Made × Done = doing g vars sorts dones b in
      let after = after_block g vars b sorts dones before here in
      let all : done ≡ (block_at g.blocks b).commands = sym (append-nil done) ∙ is in
      let end : Moves (block_at g.blocks b).commands r.0 vals σ = subst (λ t. Moves (block_at g.blocks b).commands t vals σ) e (subst (λ l. Moves l s vals σ) all go) in
      let long : length r.0.sorts ≡ length vals = are_length r.0.sorts vals end.present.are in
      let last : slice_index_or (dones ++ r.1 ∷ []) b nothing_done ≡ r.1 = get_or_at dones r.1 [] nothing_done b before.long in
      let low : b < c = may.rising b c edge in
      let came : FromBlock defs vars g may σ₀ are₀ untouched olds c σ (dones ++ r.1 ∷ []) vals = record {
        from = b;
        edge = edge;
        done = (let q : length (dones ++ r.1 ∷ []) ≡ b + 1 = after.long in omega arith);
        says = λ v h l.
            let k = end.present.says v l (inl h) in
            subst (λ (d : Done). (incarnation d.last v < length vals) × (at vals (incarnation d.last v) ≡ at σ v)) (sym last) (subst (λ n. incarnation r.0.present v < n) long k.0, k.1);
      } in
      let o = arrive (b + 1) r.0.sorts (dones ++ r.1 ∷ []) vals after (omega arith) (may.edges b c edge) end.present.are end.begins end.fits (inr came) in
      let frees : State = o.out.frees in
      let eqs : List Command = equations_of r.1 (block_at g.blocks b).next in
      let holding : AllHold defs frees (formulas (passive_block_at (passify g vars).blocks b).commands) =
      subst (λ l. AllHold defs frees (formulas l)) (sym (passive_commands b here sorts dones before))
      (subst (AllHold defs frees) (sym (map-append formula_in r.0.commands eqs))
      (every_append (HoldsIn defs frees) (formulas r.0.commands) (formulas eqs) (end.so_far frees o.out.begins)
      (equations_each frees r.1 (block_at g.blocks b).next (ending b c here edge sorts dones vals σ frees end o.out.begins o.joined)))) in
      let next : Contains (passive_block_at (passify g vars).blocks b).next c = subst (λ (k : PassiveBlock). Contains k.next c) (sym (passive_at b here)) edge in
      record {
        frees = frees;
        are = o.out.are;
        begins = o.out.begins;
        block = o.out.block;
        place = o.out.place;
        breaks = subst (λ l. BreaksAlong defs (passify g vars) frees (b ∷ l) o.out.block o.out.place m) (sym o.enters)
            (holding, next, subst (λ l. BreaksAlong defs (passify g vars) frees l o.out.block o.out.place m) o.enters o.out.breaks);
      }
