-- The passive form of a graph that may be passified rises, and with axioms over its variables the equations of its assertions are well-sorted obligations.
use Rattle.std.specs.Prelude.{◌≡◌, refl, ℕ, ◌+◌, ◌<◌, true, List, [], ◌∷◌, ◌++◌, map, reverse, length, slice_index_or, Option, Some, None, All, Contains}
use Rattle.std.proofs.Common.{arith, ap, ◌∙◌}
use Rattle.std.proofs.lemmas.Bool.{and_from, and_parts, cases_lt}
use Rattle.std.proofs.lemmas.List.{get_or_past, get_or-map, length-map}
use Rattle.std.proofs.lemmas.List.FromFn.{length-range_with_len, get_or-range_with_len}
use mathlib.Core.Path.{subst, sym}
use mathlib.Core.Logic.{inl, inr}
use Rattle.logic_core.specs.Tree.{Kind, boolean, Tree}
use Rattle.logic_core.specs.Def.{Def}
use Rattle.logic_core.specs.Sorts.{is, sort_of, bodies_sorted}
use Rattle.logic_core.specs.WellSorted.{IsFormula, IsWellSorted}
use Rattle.logic_laws.proofs.SortFrame.{Within, within_more, within_itself, sort_over}
use Rattle.flow_core.specs.declared.block.Block.{Block}
use Rattle.flow_core.specs.Graph.{Graph, block_at}
use Rattle.passive_form.specs.declared.passive.PassiveBlock.{PassiveBlock}
use Rattle.passive_form.specs.Passive.{passive_block_at}
use Rattle.passive_form.specs.Kept.{MayBePassified}
use Rattle.passive_form.specs.declared.done.Done.{Done}
use Rattle.passive_form.specs.Incarnations.{numbers, do_blocks, first_incarnations, passive_block, passify}
use Rattle.passive_form.proofs.Lists.{Prefix, prefix_itself}
use Rattle.block_wp.specs.Equations.{equations}
use Rattle.block_wp.specs.Broken.{EdgesRise}
use Rattle.block_wp.proofs.PassiveMade.{sort_more}
use Rattle.block_wp.proofs.PassiveSorted.{blocks_sound, passive_is_sorted}
use Rattle.block_wp.proofs.EquationsSorted.{obligation_sorted}

-- a passive block has the edges of the block
same_next : (g : Graph) (ds : List Done) (b : ℕ) → (passive_block_at (map (passive_block g ds) (numbers g.blocks)) b).next ≡ (block_at g.blocks b).next
same_next g ds b =
    let none : PassiveBlock = record { commands = []; next = [] } in
    let no_block : Block = record { commands = []; next = []; head = None } in
    elim (cases_lt b (length g.blocks)) [
      | inl below ↦ let inside : b < length (numbers g.blocks) = omega (below, length-range_with_len 0 (length g.blocks), arith) in
          let there : slice_index_or (numbers g.blocks) b b ≡ b = get_or-range_with_len 0 (length g.blocks) b b below ∙ (let q : 0 + b ≡ b = omega arith in q) in
          ap (λ (k : PassiveBlock). k.next) (get_or-map (passive_block g ds) (numbers g.blocks) b b none inside ∙ ap (passive_block g ds) there)
      | inr past ↦ ap (λ (k : PassiveBlock). k.next) (get_or_past (map (passive_block g ds) (numbers g.blocks)) b none (omega (past, length-map (numbers g.blocks) (passive_block g ds), length-range_with_len 0 (length g.blocks), arith)))
          ∙ sym (ap (λ (k : Block). k.next) (get_or_past g.blocks b no_block past))
    ]

-- bodies that are well sorted are so over more variables
is_kept : (k : Kind) (o o' : Option Kind) → ((j : Kind) → o ≡ Some j → o' ≡ Some j) → is k o ≡ true → is k o' ≡ true
is_kept k None o' f h = absurd cc
is_kept k (Some j) o' f h = ap (is k) (f j refl) ∙ h

pub bodies_more : (vars vars' : List Kind) → Within vars vars' → (ds below : List Def) → bodies_sorted vars below ds ≡ true → bodies_sorted vars' below ds ≡ true
bodies_more vars vars' w [] below h = refl
bodies_more vars vars' w (d ∷ ds) below h =
    let p = and_parts (is d.sort (sort_of vars below (reverse d.params) d.body)) (bodies_sorted vars (below ++ d ∷ []) ds) h in
    and_from (is d.sort (sort_of vars' below (reverse d.params) d.body)) (bodies_sorted vars' (below ++ d ∷ []) ds)
    (is_kept d.sort (sort_of vars below (reverse d.params) d.body) (sort_of vars' below (reverse d.params) d.body)
    (λ j e. sort_over vars below vars' below w (within_itself below) d.body (reverse d.params) (reverse d.params) (within_itself (reverse d.params)) j e) p.0)
    (bodies_more vars vars' w ds (below ++ d ∷ []) p.1)

module _ (defs : List Def) (vars : List Kind) (g : Graph) (may : MayBePassified defs vars g) where
  pub passive_rises : EdgesRise (passify g vars).blocks
  passive_rises b c edge = may.rising b c (subst (λ next. Contains next c) (same_next g (do_blocks g (first_incarnations g vars) vars [] (numbers g.blocks)).1 b) edge)

  -- the sorts of the variables stand first among those of the incarnations
  pub sorts_first : Prefix vars (passify g vars).vars
  sorts_first = (blocks_sound defs vars g may (numbers g.blocks) vars (prefix_itself vars) [] tt).0

  pub passive_definitions : bodies_sorted (passify g vars).vars [] defs ≡ true
  passive_definitions = bodies_more vars (passify g vars).vars (subst (Within vars) sorts_first.1 (within_more vars sorts_first.0)) defs [] may.definitions

  pub passive_obligation : (axioms : List Tree) → All (IsFormula vars defs) axioms → (k at : ℕ)
      → IsWellSorted (record { vars = (passify g vars).vars; defs = (equations (passify g vars) defs k at).defs; axioms = axioms; goal = (equations (passify g vars) defs k at).goal })
  passive_obligation axioms a k at = obligation_sorted (passify g vars) defs passive_rises (passive_is_sorted defs vars g may) k at passive_definitions axioms
      (λ i d below. sort_more vars defs vars (passify g vars).vars sorts_first (slice_index_or axioms i d) boolean (a i d below))
