-- Rising graphs over variables and definitions with new numbers have equal obligations, whatever their marks.
use Rattle.std.specs.Prelude.{◌≡◌, refl, ℕ, ◌+◌, ◌-◌, ◌<◌, ◌≤◌, nat_lt, true, false, cond, List, [], ◌∷◌, ◌++◌, map, length, flat_map, slice_get, Some}
use Rattle.std.specs.List.{AllByRecursion, range_with_len}
use Rattle.std.proofs.Common.{ap, sym, arith, ◌∙◌}
use Rattle.std.proofs.lemmas.Bool.Decides.{nat_tests}
use Rattle.std.proofs.lemmas.List.{map-append, length-map}
use mathlib.Core.Logic.{inl, inr}
use Rattle.logic_core.specs.Tree.{Kind, Tree}
use Rattle.logic_core.specs.Def.{Def, Obligation}
use Rattle.logic_core.specs.WellSorted.{IsWellSorted}
use Rattle.logic_core.specs.Renamed.{both_renamed, EachHas}
use Rattle.logic_core.proofs.EachOf.{every_map}
use Rattle.logic_laws.proofs.RenamedVariables.{renames_nothing}
use Rattle.flow_core.specs.Graph.{Graph}
use Rattle.passive_form.specs.declared.done.Done.{Done}
use Rattle.passive_form.specs.Passive.{passive_block_at}
use Rattle.passive_form.specs.Incarnations.{first_incarnations, has_edge, do_blocks, passive_block, passify, numbers}
use Rattle.vc_build.specs.declared.goal.Goal.{Goal}
use Rattle.vc_build.specs.Goals.{sequent_at, obligation_at, goals_in, goals_of_graph}
use Rattle.obligation_text.proofs.RenamedTerms.{renamed_twice, each_more}
use Rattle.rebuild_laws.proofs.SameAfterTriggers.{one_var, RenamesIn}
use Rattle.rebuild_laws.proofs.PassiveSame.{obligation_same}
use Rattle.rebuild_laws.proofs.InOrder.{range_long, InOrder}
use Rattle.rebuild_laws.proofs.CutsAlike.{AlikeBlocks}
use Rattle.rebuild_laws.proofs.Presents.{Later, new_later, later_first, later_made}
use Rattle.rebuild_laws.proofs.PassivesAlike.{FirstKnown}
use Rattle.rebuild_laws.proofs.PassifyAlike.{same_long, sorts_same, AlikePassive, passive_alike}
use Rattle.rebuild_laws.proofs.WhichAssert.{obligations_alike}

higher : (m n : ℕ) → n ≤ m → nat_lt m n ≡ false
higher m n h = grind (arith, nat_tests, h)

lower : (m n : ℕ) → m < n → nat_lt m n ≡ true
lower m n h = grind (arith, nat_tests, h)

abbrev obligation_in : Goal → Obligation
obligation_in o = o.obligation

flat_same : (F G : ℕ → List Goal) → ((k : ℕ) → map obligation_in (F k) ≡ map obligation_in (G k)) → (ns : List ℕ) → map obligation_in (flat_map F ns) ≡ map obligation_in (flat_map G ns)
flat_same F G same [] = refl
flat_same F G same (n ∷ ns) = map-append obligation_in (F n) (flat_map F ns) ∙ (λ i. same n i ++ flat_same F G same ns i) ∙ sym (map-append obligation_in (G n) (flat_map G ns))

module _ (xs ys : List Kind) (new_def new_var old_def old_var : ℕ → ℕ) (D V : ℕ → Type 0)
    (back_def : (f : ℕ) → D f → old_def (new_def f) ≡ f) (back_var : (v : ℕ) → V v → old_var (new_var v) ≡ v)
    (here : (v : ℕ) → V v → v < length xs) (there : (v : ℕ) → V v → new_var v < length ys)
    (sorts : (v : ℕ) → V v → slice_get ys (new_var v) ≡ slice_get xs v) where
  abbrev one : (u v : ℕ) → V u → V v → new_var u ≡ new_var v → u ≡ v
  one = one_var new_def new_var old_def old_var D V back_def back_var

  module _ (g h : Graph) (order : InOrder new_var V g.own h.own)
      (own_same : (v : ℕ) → V v → nat_lt (new_var v) h.own ≡ nat_lt v g.own)
      (in_here : (v : ℕ) → V v → order.in_here v ≡ true) (in_there : (v : ℕ) → V v → order.in_there (new_var v) ≡ true)
      (begins : FirstKnown xs ys new_def new_var D V here there sorts one g.own h.own order own_same (first_incarnations g xs) (first_incarnations h ys))
      (own_low : g.own ≤ length xs) (own_low_there : h.own ≤ length ys)
      (blocks : AlikeBlocks new_def new_var D V g.blocks h.blocks)
      (rises : (p c : ℕ) → has_edge g.blocks p c ≡ true → p < c)
      (ds es : List Def) (as' bs : List Tree)
      (defs : (f : ℕ) → D f → RenamesIn new_def new_var old_def old_var D V back_def back_var ds es f)
      (axioms_covered : AllByRecursion (EachHas V D) as')
      (axioms : bs ≡ map (both_renamed new_def new_var) as')
      (sorted : (k at : ℕ) → IsWellSorted (sequent_at (passify g xs) ds as' k at)) where
    abbrev newer : ℕ → ℕ
    newer = new_later xs ys new_def new_var D V here there sorts one

    abbrev LaterV : ℕ → Type 0
    LaterV = Later xs ys new_def new_var D V here there sorts one

    abbrev older : ℕ → ℕ
    older j = cond (nat_lt j (length ys)) (old_var j) (length xs + (j - length ys))

    back : (v : ℕ) → LaterV v → older (newer v) ≡ v
    back v (inl k) =
        ap older (later_first xs ys new_def new_var D V here there sorts one v k)
        ∙ ap (λ b. cond b (old_var (new_var v)) (length xs + (new_var v - length ys))) (lower (new_var v) (length ys) (there v k)) ∙ back_var v k
    back v (inr k) =
        let m = length ys + (v - length xs) in
        let e : length xs + (m - length ys) ≡ v = omega (k, arith) in
        ap older (later_made xs ys new_def new_var D V here there sorts one v k)
        ∙ ap (λ b. cond b (old_var m) (length xs + (m - length ys))) (higher m (length ys) (omega arith)) ∙ e

    first_term : (C : ℕ → Type 0) (t : Tree) → EachHas V C t → both_renamed new_def newer t ≡ both_renamed new_def new_var t
    first_term C t c =
        ap (both_renamed new_def newer) (sym (renames_nothing t))
        ∙ renamed_twice (λ f. f) (λ v. v) new_def newer new_def new_var V C (later_first xs ys new_def new_var D V here there sorts one) (λ f q. refl) t c

    first_terms : (ts : List Tree) → AllByRecursion (EachHas V D) ts → map (both_renamed new_def newer) ts ≡ map (both_renamed new_def new_var) ts
    first_terms [] c = refl
    first_terms (t ∷ ts) c = λ i. first_term D t c.0 i ∷ first_terms ts c.1 i

    later_has : (C : ℕ → Type 0) (t : Tree) → EachHas V C t → EachHas LaterV C t
    later_has C t c = each_more V C LaterV C (λ v q. inl q) (λ f q. q) t c

    later_defs : (f : ℕ) → D f → RenamesIn new_def newer old_def older D LaterV back_def back ds es f
    later_defs f d =
        let r = defs f d in
        let x = r.definition in
        let again = first_term (λ c. D c × (c < f) × (new_def c < new_def f)) x.body r.lower in
        record {
          definition = x;
          old = r.old;
          new = r.new ∙ (λ i. Some (record { params = x.params; sort = x.sort; logical = x.logical; body = sym again i }));
          lower = later_has (λ c. D c × (c < f) × (new_def c < new_def f)) x.body r.lower;
        }

    abbrev alike : (b : ℕ) → AlikePassive xs ys new_def new_var D V here there sorts one g h order own_same in_here in_there begins own_low own_low_there blocks rises (passive_block_at (passify g xs).blocks b) (passive_block_at (passify h ys).blocks b)
    alike b = passive_alike xs ys new_def new_var D V here there sorts one g h order own_same in_here in_there begins own_low own_low_there blocks rises b

    obligations : (k at : ℕ) → obligation_at (passify h ys) es bs k at ≡ obligation_at (passify g xs) ds as' k at
    obligations k at =
        obligation_same new_def newer old_def older D LaterV back_def back (passify g xs) (passify h ys) ds es as' bs
        (sorts_same xs ys new_def new_var D V here there sorts one g h order own_same in_here in_there begins own_low own_low_there blocks rises)
        later_defs (every_map (EachHas V D) (EachHas LaterV D) (later_has D) as' axioms_covered) (axioms ∙ sym (first_terms as' axioms_covered))
        (λ b. (alike b).next) (λ b. (alike b).made) (λ b. (alike b).covered) k at (sorted k at)

    abbrev done_here : List Done
    done_here = (do_blocks g (first_incarnations g xs) xs [] (numbers g.blocks)).1

    abbrev done_there : List Done
    done_there = (do_blocks h (first_incarnations h ys) ys [] (numbers h.blocks)).1

    as_long : length (passify h ys).blocks ≡ length (passify g xs).blocks
    as_long = length-map (numbers h.blocks) (passive_block h done_there) ∙ range_long 0 (length h.blocks) ∙ same_long xs ys new_def new_var D V here there sorts one g h order own_same in_here in_there begins own_low own_low_there blocks rises
        ∙ sym (length-map (numbers g.blocks) (passive_block g done_here) ∙ range_long 0 (length g.blocks))

    pub goals_same : map (λ (o : Goal). o.obligation) (goals_of_graph (passify h ys) es bs) ≡ map (λ (o : Goal). o.obligation) (goals_of_graph (passify g xs) ds as')
    goals_same =
        (λ i. map obligation_in (flat_map (λ k. goals_in (passify h ys) es bs k 0 (passive_block_at (passify h ys).blocks k).commands) (range_with_len 0 (as_long i))))
        ∙ flat_same (λ k. goals_in (passify h ys) es bs k 0 (passive_block_at (passify h ys).blocks k).commands) (λ k. goals_in (passify g xs) ds as' k 0 (passive_block_at (passify g xs).blocks k).commands)
        (λ k. obligations_alike (passify g xs) (passify h ys) ds es as' bs k (obligations k) (passive_block_at (passify g xs).blocks k).commands (passive_block_at (passify h ys).blocks k).commands (alike k).kinds_same)
        (range_with_len 0 (length (passify g xs).blocks))
