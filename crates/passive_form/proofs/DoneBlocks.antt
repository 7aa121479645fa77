-- What is done before a block, and that it stands at the beginning of all that is done in the end.
use Rattle.std.specs.Prelude.{◌≡◌, refl, ℕ, zero, suc, ◌+◌, ◌<◌, ◌≤◌, true, List, [], ◌∷◌, ◌++◌, map, length, slice_index_or}
use Rattle.std.specs.List.{range_with_len}
use Rattle.std.proofs.Common.{arith, ap, ◌∙◌, sym, subst}
use Rattle.std.proofs.lemmas.Bool.{cases_lt}
use Rattle.std.proofs.lemmas.List.{length_push, get_or_at, get_or_append_left}
use Rattle.std.proofs.lemmas.List.FromFn.{length-map-range_with_len}
use mathlib.Core.Logic.{inl, inr}
use Rattle.logic_core.specs.Tree.{Kind}
use Rattle.logic_core.specs.Value.{Value, are_of}
use Rattle.flow_core.specs.Graph.{Graph, block_at}
use Rattle.passive_form.specs.declared.made.Made.{Made}
use Rattle.passive_form.specs.declared.done.Done.{Done}
use Rattle.passive_form.specs.Incarnations.{Incarnations, nothing_done, numbers, predecessors, disagree, arriving, havocked, do_block, do_blocks, first_incarnation, first_incarnations}
use Rattle.passive_form.proofs.Lists.{Prefix, prefix_itself, prefix_next, prefix_get}
use Rattle.passive_form.proofs.Values.{are_append, some_values, some_are}
use Rattle.passive_form.proofs.Growing.{Grows, grows_next, grows_havocked, grows_all}
use Rattle.passive_form.proofs.Meeting.{arriving_wide}

-- values for further sorts
pub filled : (ks js : List Kind) (vals : List Value) → Prefix ks js → are_of ks vals ≡ true → (more : List Value) × Prefix vals more × (are_of js more ≡ true)
filled ks js vals p h = (vals ++ some_values p.0, (some_values p.0, refl), subst (λ l. are_of l (vals ++ some_values p.0) ≡ true) p.1 (are_append ks p.0 vals (some_values p.0) h (some_are p.0)))

module _ (g : Graph) (vars : List Kind) where
  abbrev pub first_ones : Incarnations
  first_ones = first_incarnations g vars

  abbrev pub all_done : List Kind × List Done
  all_done = do_blocks g first_ones vars [] (numbers g.blocks)

  pub first_wide : length first_ones ≡ length vars
  first_wide = length-map-range_with_len (first_incarnation g) 0 (length vars)

  -- of the blocks before block k
  abbrev pub lasts_of : List Done → ℕ → List Incarnations
  lasts_of before k = map (λ p. (slice_index_or before p nothing_done).last) (predecessors g.blocks k)

  abbrev pub start_of : List Kind → List Done → ℕ → Made
  start_of sorts before k = record { sorts = sorts; present = arriving g.own first_ones (lasts_of before k); commands = [] }

  abbrev pub begun : List Kind → List Done → ℕ → Made
  begun sorts before k = havocked (start_of sorts before k) (disagree g.own (lasts_of before k))

  abbrev pub doing : List Kind → List Done → ℕ → Made × Done
  doing sorts before k = do_block g first_ones sorts before k

  pub block_grows : (sorts : List Kind) (before : List Done) (k : ℕ) → Grows (start_of sorts before k) (doing sorts before k).0
  block_grows sorts before k =
      let vs : List ℕ = disagree g.own (lasts_of before k) in
      grows_next (start_of sorts before k) (begun sorts before k) (doing sorts before k).0 (grows_havocked (start_of sorts before k) vs) (grows_all (begun sorts before k) (block_at g.blocks k).commands)

  blocks_grow : (bs : List ℕ) (sorts : List Kind) (before : List Done) → Prefix sorts (do_blocks g first_ones sorts before bs).0 × Prefix before (do_blocks g first_ones sorts before bs).1
  blocks_grow [] sorts before = (prefix_itself sorts, prefix_itself before)
  blocks_grow (b ∷ bs) sorts before =
      let r : Made × Done = doing sorts before b in
      let rest = blocks_grow bs r.0.sorts (before ++ r.1 ∷ []) in (
        prefix_next sorts r.0.sorts (do_blocks g first_ones r.0.sorts (before ++ r.1 ∷ []) bs).0 (block_grows sorts before b).sorts rest.0,
        prefix_next before (before ++ r.1 ∷ []) (do_blocks g first_ones r.0.sorts (before ++ r.1 ∷ []) bs).1 (r.1 ∷ [], refl) rest.1,
      )

  -- before block k
  pub record Before (k : ℕ) (sorts : List Kind) (before : List Done) : Type 0 where
    pub left : ℕ
    pub number : k + left ≡ length g.blocks
    pub rest : do_blocks g first_ones sorts before (range_with_len k left) ≡ all_done
    pub long : length before ≡ k
    pub first : Prefix vars sorts
    pub wide : (p : ℕ) → p < k → length (slice_index_or before p nothing_done).last ≡ length vars

  pub at_first : Before 0 vars []
  at_first = record { left = length g.blocks; number = omega arith; rest = refl; long = refl; first = prefix_itself vars; wide = λ p h. absurd (omega arith) }

  pub after_block : (k : ℕ) (sorts : List Kind) (before : List Done) → Before k sorts before → k < length g.blocks → Before (k + 1) (doing sorts before k).0.sorts (before ++ (doing sorts before k).1 ∷ [])
  after_block k sorts before b h = at_left b.left b.number b.rest
    where
      wider : (p : ℕ) → p < k + 1 → length (slice_index_or (before ++ (doing sorts before k).1 ∷ []) p nothing_done).last ≡ length vars
      wider p l = elim (cases_lt p k) [
        | inl low ↦ ap (λ (d : Done). length d.last) (get_or_append_left before ((doing sorts before k).1 ∷ []) nothing_done p (let e : length before ≡ k = b.long in omega arith)) ∙ b.wide p low
        | inr high ↦
            let here : p ≡ length before = let e : length before ≡ k = b.long in omega arith in
            ap (λ (d : Done). length d.last) (get_or_at before (doing sorts before k).1 [] nothing_done p (sym here)) ∙ (block_grows sorts before k).wide ∙ arriving_wide g.own first_ones (lasts_of before k) ∙ first_wide
      ]

      at_left : (n : ℕ) → k + n ≡ length g.blocks → do_blocks g first_ones sorts before (range_with_len k n) ≡ all_done → Before (k + 1) (doing sorts before k).0.sorts (before ++ (doing sorts before k).1 ∷ [])
      at_left zero e r = absurd (omega arith)
      at_left (suc n) e r = record {
        left = n;
        number = omega arith;
        rest = r;
        long = length_push before (doing sorts before k).1 ∙ ap (λ n. n + 1) b.long;
        first = prefix_next vars sorts (doing sorts before k).0.sorts b.first (block_grows sorts before k).sorts;
        wide = wider;
      }

  pub sorts_begin : (k : ℕ) (sorts : List Kind) (before : List Done) → Before k sorts before → Prefix sorts all_done.0
  sorts_begin k sorts before b = subst (λ (r : List Kind × List Done). Prefix sorts r.0) b.rest (blocks_grow (range_with_len k b.left) sorts before).0

  pub dones_begin : (k : ℕ) (sorts : List Kind) (before : List Done) → Before k sorts before → Prefix before all_done.1
  dones_begin k sorts before b = subst (λ (r : List Kind × List Done). Prefix before r.1) b.rest (blocks_grow (range_with_len k b.left) sorts before).1

  -- what is done of block k stays
  pub done_is : (k : ℕ) (sorts : List Kind) (before : List Done) → Before k sorts before → k < length g.blocks → slice_index_or all_done.1 k nothing_done ≡ (doing sorts before k).1
  done_is k sorts before b h =
      let next = after_block k sorts before b h in
      let low : k < length (before ++ (doing sorts before k).1 ∷ []) = let e : length (before ++ (doing sorts before k).1 ∷ []) ≡ k + 1 = next.long in omega arith in
      prefix_get (before ++ (doing sorts before k).1 ∷ []) all_done.1 k nothing_done (dones_begin (k + 1) (doing sorts before k).0.sorts (before ++ (doing sorts before k).1 ∷ []) next) low
      ∙ get_or_at before (doing sorts before k).1 [] nothing_done k b.long

  -- over the blocks from k on that the run passes over, with values of their incarnations' sorts
  pub record Later (c : ℕ) (before : List Done) (vals : List Value) : Type 0 where
    pub sorts : List Kind
    pub dones : List Done
    pub values : List Value
    pub there : Before c sorts dones
    pub more : Prefix before dones
    pub longer : Prefix vals values
    pub are : are_of sorts values ≡ true

  pub passed : (d k : ℕ) (c : ℕ) (sorts : List Kind) (before : List Done) (vals : List Value) → k + d ≡ c → c ≤ length g.blocks → Before k sorts before → are_of sorts vals ≡ true → Later c before vals
  passed zero k c sorts before vals e h b a = let q : k ≡ c = omega arith in
      record { sorts = sorts; dones = before; values = vals; there = subst (λ n. Before n sorts before) q b; more = prefix_itself before; longer = prefix_itself vals; are = a }
  passed (suc d) k c sorts before vals e h b a =
      let r : Made × Done = doing sorts before k in
      let f = filled sorts r.0.sorts vals (block_grows sorts before k).sorts a in
      let l = passed d (k + 1) c r.0.sorts (before ++ r.1 ∷ []) f.0 (omega arith) h (after_block k sorts before b (omega arith)) f.2 in
      record {
        sorts = l.sorts;
        dones = l.dones;
        values = l.values;
        there = l.there;
        more = prefix_next before (before ++ r.1 ∷ []) l.dones (r.1 ∷ [], refl) l.more;
        longer = prefix_next vals f.0 l.values f.1 l.longer;
        are = l.are;
      }
