-- An assignment that breaks an assertion along a path from block 0 makes the goal of its equations false.
use Rattle.std.specs.Prelude.{◌≡◌, ℕ, ◌+◌, ◌<◌, ◌≤◌, nat_eq, Bool, true, false, cond, is_some, IsTrue, List, [], ◌∷◌, ◌++◌, map, length, take, reverse, filter, slice_get, unwrap_or, position, ◌==◌}
use Rattle.std.specs.List.{AllByRecursion, position_or_len, list_any}
use Rattle.std.proofs.Common.{arith, ap, ◌∙◌}
use Rattle.std.proofs.lemmas.Bool.{eq-eqb, ne_eqb}
use Rattle.std.proofs.lemmas.List.{map-append, length-map, length-append, reverse-append}
use mathlib.Core.Path.{subst, sym, transport, transport⁻¹}
use mathlib.Core.Logic.{inl, inr}
use Rattle.logic_core.specs.Tree.{Tree, truth}
use Rattle.logic_core.specs.Value.{Value, holds}
use Rattle.logic_core.specs.Def.{Def}
use Rattle.logic_core.specs.WellSorted.{IsFormula}
use Rattle.logic_core.specs.Meaning.{With, Holds}
use Rattle.logic_core.specs.Valid.{Calls, calls_from, calls_of}
use Rattle.logic_core.proofs.Defined.{has_defined}
use Rattle.logic_core.proofs.Values.{HasOne}
use Rattle.flow_core.specs.declared.mark.Mark.{Mark}
use Rattle.flow_core.specs.declared.command.Command.{Command}
use Rattle.flow_core.specs.declared.command.Command.TheVariants.{Assert}
use Rattle.flow_core.specs.State.{State, HoldsIn, AllHold}
use Rattle.passive_form.specs.declared.passive.Passive.{Passive}
use Rattle.passive_form.specs.Passive.{passive_block_at, formula_in, formulas, BreaksIn, BreaksAlong}
use Rattle.block_wp.specs.Equations.{reaching, block_call, successors, block_equation, assertion_equation, block_definition, formula_of, body_of, equations}
use Rattle.block_wp.specs.Broken.{EdgesRise, FormulasAreSorted, EquationsBreak}
use Rattle.block_wp.proofs.SortedBlocks.{sorted_block, sorted_take, sorted_at}
use Rattle.block_wp.proofs.Frame.{frame}
use Rattle.block_wp.proofs.Junctions.{In, equation_fails, conjunction_fails}
use Rattle.block_wp.proofs.Reaching.{in_left, in_right, contained, is_among, stays, leads_there}
use Rattle.block_wp.specs.Numbers.{Falling}
use Rattle.block_wp.proofs.Falling.{reaching_falls, reaching_below, Split, split, in_front, place_of, before_it}
use Rattle.block_wp.proofs.Calls.{earlier_stay, call_is_body, call_is_earlier, all_calls, is_there}

pub in_reverse : (x : ℕ) (xs : List ℕ) → In x xs → In x (reverse xs)
in_reverse x [] h = absurd h
in_reverse x (y ∷ xs) h = subst (In x) (sym (reverse-append (y ∷ []) xs)) (at_end (in_reverse x xs) h)
  where
    at_end : (In x xs → In x (reverse xs)) → In x (y ∷ xs) → In x (reverse xs ++ y ∷ [])
    at_end rest (inl e) = in_right x (reverse xs) (y ∷ []) (inl e)
    at_end rest (inr there) = in_left x (reverse xs) (y ∷ []) (rest there)

pub in_filter : (p : ℕ → Bool) (x : ℕ) → p x ≡ true → (xs : List ℕ) → In x xs → In x (filter p xs)
in_filter p x e [] h = absurd h
in_filter p x e (y ∷ xs) (inl same) = subst (λ t. In x (cond t (y ∷ filter p xs) (filter p xs))) (sym (ap p same ∙ e)) (inl same)
in_filter p x e (y ∷ xs) (inr h) = by_test (p y) (in_filter p x e xs h)
  where
    by_test : (t : Bool) → In x (filter p xs) → In x (cond t (y ∷ filter p xs) (filter p xs))
    by_test true k = inr k
    by_test false k = k

module _ (g : Passive) (defs : List Def) (rises : EdgesRise g.blocks) (sorted : FormulasAreSorted defs g) (frees : State) (k at : ℕ) (m : Mark) where
  -- along such a path each block is among those from which k is reached
  pub on_path : (b : ℕ) (path : List ℕ) → BreaksAlong defs g frees (b ∷ path) k at m → In b (reaching g k)
  on_path b [] h = stays g k (k ∷ []) b (inl (sym h.0))
  on_path b (c ∷ path) h =
      let there = on_path c path h.2 in
      let above : b < c = rises b c h.1 in
      let low : c ≤ k = reaching_below g k c there in
      leads_there g k (k ∷ []) b c (omega (above, low, arith)) above (contained (passive_block_at g.blocks b).next c h.1.0 h.1.1 h.1.2) there

  abbrev given : ℕ
  given = length defs

  abbrev blocks : List ℕ
  blocks = reaching g k

  abbrev definition : ℕ → Def
  definition b = block_definition (body_of g given blocks k at b)

  -- the calls, with the definitions of these blocks added
  abbrev calls_after : List ℕ → Calls
  calls_after bs = calls_from frees given (map definition bs) (calls_of frees defs)

  abbrev place : ℕ → ℕ
  place b = unwrap_or (position (nat_eq b) blocks) 0

  abbrev Fails : List ℕ → Tree → Type 0
  Fails bs t = ¬ Holds frees (calls_after bs) t []

  -- over a front of the blocks
  same_truth : (bs : List ℕ) (E : Tree) → IsFormula g.vars defs E → HoldsIn defs frees E ≡ Holds frees (calls_after bs) E []
  same_truth bs E s = λ j. frame g.vars defs frees (calls_of frees defs) (calls_after bs) (λ f there. sym (earlier_stay frees (map definition bs) given (calls_of frees defs) f (is_there defs f there))) E [] (ap is_some s) j [] (λ v. IsTrue (holds v))

  has_call : (bs : List ℕ) (f : ℕ) (vs : List Value) → HasOne (calls_after bs f vs)
  has_call bs = subst (λ (c : Calls). (f : ℕ) (vs : List Value) → HasOne (c f vs)) (all_calls frees defs (map definition bs)) (has_defined frees (defs ++ map definition bs))

  all_hold : (bs : List ℕ) (cs : List Command) → AllByRecursion (λ c. IsFormula g.vars defs (formula_in c)) cs → AllHold defs frees (formulas cs) → AllByRecursion (λ E. Holds frees (calls_after bs) E []) (formulas cs)
  all_hold bs [] s h = tt
  all_hold bs (c ∷ cs) s h = (transport (same_truth bs (formula_in c) s.0) h.0, all_hold bs cs s.1 h.1)

  -- the assertion's own block
  last_fails : (bs : List ℕ) → BreaksIn defs g frees k at m → Fails bs (assertion_equation (passive_block_at g.blocks k) at)
  last_fails bs r =
      let cs = (passive_block_at g.blocks k).commands in
      let s = sorted_block defs g sorted k in
      let fails : Fails bs r.formula = λ h. r.breaks (transport⁻¹ (same_truth bs r.formula (sorted_at g.vars defs at cs (Assert m r.formula) r.asserted s)) h) in
      equation_fails frees (calls_after bs) (has_call bs) (formulas (take at cs)) (formula_of (slice_get cs at)) (all_hold bs (take at cs) (sorted_take g.vars defs at cs s) r.before)
      (subst (λ c. Fails bs (formula_of c)) (sym r.asserted) fails)

  -- a block before it on the path
  earlier_fails : (bs : List ℕ) (b c : ℕ) → AllHold defs frees (formulas (passive_block_at g.blocks b).commands) → In c (passive_block_at g.blocks b).next → In c blocks → Fails bs (block_call given blocks c)
      → Fails bs (block_equation (formulas (passive_block_at g.blocks b).commands) (successors given blocks (passive_block_at g.blocks b)))
  earlier_fails bs b c held edge there fails =
      let cs = (passive_block_at g.blocks b).commands in
      let next = (passive_block_at g.blocks b).next in
      equation_fails frees (calls_after bs) (has_call bs) (formulas cs) (successors given blocks (passive_block_at g.blocks b)) (all_hold bs cs (sorted_block defs g sorted b) held)
      (conjunction_fails frees (calls_after bs) (has_call bs) (block_call given blocks) c fails (filter (λ x. list_any (λ y. y == x) next) (reverse blocks))
      (in_filter (λ x. list_any (λ y. y == x) next) c (is_among next c edge) (reverse blocks) (in_reverse c blocks there)))

  module _ (b : ℕ) (s : Split b blocks) where
    front_calls : calls_after blocks ≡ calls_from frees given (map definition s.front ++ definition b ∷ map definition s.rest) (calls_of frees defs)
    front_calls = ap calls_after s.joined ∙ ap (λ ds. calls_from frees given ds (calls_of frees defs)) (map-append definition s.front (b ∷ s.rest))

    front_is_shorter : length s.front < length blocks
    front_is_shorter = let e : length blocks ≡ length (s.front ++ b ∷ s.rest) = ap length s.joined in omega (e, length-append s.front (b ∷ s.rest), arith)

    its_place : given + place b ≡ given + length (map definition s.front)
    its_place =
        let shorter = front_is_shorter in
        let p : place b ≡ position_or_len (nat_eq b) blocks = place_of b blocks (omega (s.place, shorter, arith)) in
        omega (p, s.place, length-map s.front definition, arith)

    its_call : calls_after blocks (given + place b) ≡ (λ vs P. With frees (calls_after s.front) (definition b).body (reverse vs) P)
    its_call = ap (λ (c : Calls). c (given + place b)) front_calls ∙ call_is_body frees (map definition s.front) (definition b) (map definition s.rest) given (given + place b) (calls_of frees defs) its_place

    pub call_fails : Fails s.front (body_of g given blocks k at b) → Fails blocks (block_call given blocks b)
    call_fails fails h = fails (transport (λ j. its_call j [] (λ v. IsTrue (holds v))) h)

    pub stays_failing : (c : ℕ) → b < c → In c blocks → Fails blocks (block_call given blocks c) → Fails s.front (block_call given blocks c)
    stays_failing c above there fails h =
        let in_all : In c (s.front ++ b ∷ s.rest) = subst (In c) s.joined there in
        let falls : Falling (s.front ++ b ∷ s.rest) = subst Falling s.joined (reaching_falls g k) in
        let before : position_or_len (nat_eq c) (s.front ++ b ∷ s.rest) < length s.front = in_front c s.front (b ∷ s.rest) (before_it b c s.front s.rest falls above in_all) in
        let there_before : position_or_len (nat_eq c) blocks < length s.front = subst (λ xs. position_or_len (nat_eq c) xs < length s.front) (sym s.joined) before in
        let shorter = front_is_shorter in
        let p : place c ≡ position_or_len (nat_eq c) blocks = place_of c blocks (omega (there_before, shorter, arith)) in
        let below : given + place c < given + length (map definition s.front) = omega (p, there_before, length-map s.front definition, arith) in
        let same : calls_after blocks (given + place c) ≡ calls_after s.front (given + place c)
        = ap (λ (q : Calls). q (given + place c)) front_calls ∙ call_is_earlier frees (map definition s.front) (definition b ∷ map definition s.rest) given (given + place c) (calls_of frees defs) below in
        fails (transport⁻¹ (λ j. same j [] (λ v. IsTrue (holds v))) h)

  -- from the path's end: the call of each block on it doesn't hold
  path_fails : (b : ℕ) (path : List ℕ) → BreaksAlong defs g frees (b ∷ path) k at m → Fails blocks (block_call given blocks b)
  path_fails b [] h =
      let s = split b blocks (on_path b [] h) in
      let fails : Fails s.front (assertion_equation (passive_block_at g.blocks b) at) = subst (λ x. Fails s.front (assertion_equation (passive_block_at g.blocks x) at)) (sym h.0) (last_fails s.front h.1) in
      call_fails b s (subst (λ t. Fails s.front (cond t (assertion_equation (passive_block_at g.blocks b) at) (block_equation (formulas (passive_block_at g.blocks b).commands) (successors given blocks (passive_block_at g.blocks b))))) (sym (eq-eqb b k h.0)) fails)
  path_fails b (c ∷ path) h =
      let s = split b blocks (on_path b (c ∷ path) h) in
      let there = on_path c path h.2 in
      let above : b < c = rises b c h.1 in
      let low : c ≤ k = reaching_below g k c there in
      let fails : Fails s.front (block_equation (formulas (passive_block_at g.blocks b).commands) (successors given blocks (passive_block_at g.blocks b)))
      = earlier_fails s.front b c h.0 (contained (passive_block_at g.blocks b).next c h.1.0 h.1.1 h.1.2) there (stays_failing b s c above there (path_fails c path h.2)) in
      call_fails b s (subst (λ t. Fails s.front (cond t (assertion_equation (passive_block_at g.blocks b) at) (block_equation (formulas (passive_block_at g.blocks b).commands) (successors given blocks (passive_block_at g.blocks b))))) (sym (ne_eqb b k (λ e. omega (e, above, low, arith)))) fails)

  pub goal_fails : (path : List ℕ) → BreaksAlong defs g frees (0 ∷ path) k at m → ¬ HoldsIn (equations g defs k at).defs frees (equations g defs k at).goal
  goal_fails path h held =
      let by_calls : Holds frees (calls_after blocks) (equations g defs k at).goal [] = subst (λ (c : Calls). Holds frees c (equations g defs k at).goal []) (all_calls frees defs (map definition blocks)) held in
      path_fails 0 path h (subst (λ t. Holds frees (calls_after blocks) (cond t (block_call given blocks 0) (truth true)) []) (is_among blocks 0 (on_path 0 path h)) by_calls)

  -- what holds over the given definitions holds over those of the blocks too
  pub still_holds : (E : Tree) → IsFormula g.vars defs E → HoldsIn defs frees E → HoldsIn (equations g defs k at).defs frees E
  still_holds E s h = subst (λ (c : Calls). Holds frees c E []) (sym (all_calls frees defs (map definition blocks))) (transport (same_truth blocks E s) h)

pub equations_break : EquationsBreak
equations_break g defs rises sorted frees path k at m h = goal_fails g defs rises sorted frees k at m path h
