-- The marks of a graph's assertions: of its goals, and before its variables get incarnations and its loops are cut.
use Rattle.std.specs.Prelude.{◌≡◌, refl, ℕ, ◌+◌, List, [], ◌∷◌, ◌++◌, map, length, flat_map, slice_index_or, Option, Some, None}
use Rattle.std.specs.List.{range_with_len}
use Rattle.std.proofs.Common.{ap, sym, ◌∙◌, arith}
use Rattle.std.proofs.lemmas.List.{append-nil, append_assoc, length-map, map-append}
use Rattle.std.proofs.lemmas.List.FromFn.{length-range_with_len}
use Rattle.logic_core.specs.Tree.{Kind, Tree, free, equal}
use Rattle.logic_core.specs.Def.{Def}
use Rattle.flow_core.specs.declared.mark.GoalKind.{GoalKind}
use Rattle.flow_core.specs.declared.mark.Mark.{Mark}
use Rattle.flow_core.specs.declared.command.Command.{Command}
use Rattle.flow_core.specs.declared.command.Command.TheVariants.{Assert, Assume, Assign, Havoc}
use Rattle.flow_core.specs.declared.block.Invariant.{Invariant}
use Rattle.flow_core.specs.declared.block.LoopHead.{LoopHead}
use Rattle.flow_core.specs.declared.block.Block.{Block}
use Rattle.flow_core.specs.Clause.{Clause, checked, assumed, read_invariant}
use Rattle.flow_core.specs.Reader.{command_of}
use Rattle.flow_core.specs.Graph.{Graph, block_at}
use Rattle.flow_core.specs.Run.{arrival_kind, clauses_at}
use Rattle.loop_cut.specs.Cut.{at_head, before_edges, cut_from}
use Rattle.passive_form.specs.declared.made.Made.{Made}
use Rattle.passive_form.specs.declared.done.Done.{Done}
use Rattle.passive_form.specs.declared.passive.PassiveBlock.{PassiveBlock}
use Rattle.passive_form.specs.declared.passive.Passive.{Passive}
use Rattle.passive_form.specs.Passive.{passive_block_at}
use Rattle.passive_form.specs.Incarnations.{Incarnations, incarnation, read, anew, also, assigned, havocked, perform, perform_all, nothing_done, numbers, predecessors, lasts, disagree, arriving, do_block, do_blocks, equations_for, passive_block, passify, first_incarnations}
use Rattle.vc_build.specs.declared.goal.Goal.{Goal}
use Rattle.vc_build.specs.Goals.{goals_in, goals_of_graph}
use Rattle.vc_build.specs.Marks.{marks_read, invariant_marks}

abbrev pub marks_in : List Command → List Mark
marks_in [] = []
marks_in (Assert m E ∷ cs) = m ∷ marks_in cs
marks_in (Assume E ∷ cs) = marks_in cs
marks_in (Assign ps ∷ cs) = marks_in cs
marks_in (Havoc xs ∷ cs) = marks_in cs

pub marks_both : (cs ds : List Command) → marks_in (cs ++ ds) ≡ marks_in cs ++ marks_in ds
marks_both [] ds = refl
marks_both (Assert m E ∷ cs) ds = ap (λ ms. m ∷ ms) (marks_both cs ds)
marks_both (Assume E ∷ cs) ds = marks_both cs ds
marks_both (Assign ps ∷ cs) ds = marks_both cs ds
marks_both (Havoc xs ∷ cs) ds = marks_both cs ds

-- ---- items at all places of a list

module _ {A B : Type 0} (h : A → List B) (d : A) where
  places_from : (before xs : List A) → flat_map (λ b. h (slice_index_or (before ++ xs) b d)) (range_with_len (length before) (length xs)) ≡ flat_map h xs
  places_from before [] = refl
  places_from before (x ∷ xs) =
      let here : slice_index_or (before ++ x ∷ xs) (length before) d ≡ x = at_length before x xs in
      let rest : flat_map (λ b. h (slice_index_or (before ++ x ∷ xs) b d)) (range_with_len (length before + 1) (length xs)) ≡ flat_map h xs
      = ap (λ n. flat_map (λ b. h (slice_index_or (before ++ x ∷ xs) b d)) (range_with_len n (length xs))) (one_more before x)
      ∙ ap (λ all. flat_map (λ b. h (slice_index_or all b d)) (range_with_len (length (before ++ x ∷ [])) (length xs))) (one_further before x xs)
      ∙ places_from (before ++ x ∷ []) xs in
      λ i. h (here i) ++ rest i
    where
      at_length : (ys : List A) (y : A) (zs : List A) → slice_index_or (ys ++ y ∷ zs) (length ys) d ≡ y
      at_length [] y zs = refl
      at_length (x ∷ ys) y zs = at_length ys y zs

      one_more : (ys : List A) (y : A) → length ys + 1 ≡ length (ys ++ y ∷ [])
      one_more [] y = refl
      one_more (x ∷ ys) y = let h = one_more ys y in omega (h, arith)

      one_further : (ys : List A) (y : A) (zs : List A) → ys ++ y ∷ zs ≡ (ys ++ y ∷ []) ++ zs
      one_further [] y zs = refl
      one_further (x ∷ ys) y zs = ap (λ us. x ∷ us) (one_further ys y zs)

  all_places : (xs : List A) → flat_map (λ b. h (slice_index_or xs b d)) (range_with_len 0 (length xs)) ≡ flat_map h xs
  all_places xs = places_from [] xs

flat_same : {A B : Type 0} (f g : A → List B) → ((x : A) → f x ≡ g x) → (xs : List A) → flat_map f xs ≡ flat_map g xs
flat_same f g same [] = refl
flat_same f g same (x ∷ xs) = λ i. same x i ++ flat_same f g same xs i

flat_mapped : {A B C : Type 0} (h : B → List C) (f : A → B) (xs : List A) → flat_map h (map f xs) ≡ flat_map (λ x. h (f x)) xs
flat_mapped h f [] = refl
flat_mapped h f (x ∷ xs) = ap (λ ys. h (f x) ++ ys) (flat_mapped h f xs)

mapped_flat : {A B C : Type 0} (g : B → C) (f : A → List B) (xs : List A) → map g (flat_map f xs) ≡ flat_map (λ x. map g (f x)) xs
mapped_flat g f [] = refl
mapped_flat g f (x ∷ xs) = map-append g (f x) (flat_map f xs) ∙ ap (λ ys. map g (f x) ++ ys) (mapped_flat g f xs)

-- ---- goals

module _ (g : Passive) (defs : List Def) (axioms : List Tree) where
  command_marks : (k at : ℕ) (cs : List Command) → map (λ (x : Goal). x.mark) (goals_in g defs axioms k at cs) ≡ marks_in cs
  command_marks k at [] = refl
  command_marks k at (Assert m E ∷ cs) = ap (λ ms. m ∷ ms) (command_marks k (at + 1) cs)
  command_marks k at (Assume E ∷ cs) = command_marks k (at + 1) cs
  command_marks k at (Assign ps ∷ cs) = command_marks k (at + 1) cs
  command_marks k at (Havoc xs ∷ cs) = command_marks k (at + 1) cs

  pub goals_marked : map (λ (x : Goal). x.mark) (goals_of_graph g defs axioms) ≡ flat_map (λ (b : PassiveBlock). marks_in b.commands) g.blocks
  goals_marked =
      mapped_flat (λ (x : Goal). x.mark) (λ k. goals_in g defs axioms k 0 (passive_block_at g.blocks k).commands) (range_with_len 0 (length g.blocks))
      ∙ flat_same (λ k. map (λ (x : Goal). x.mark) (goals_in g defs axioms k 0 (passive_block_at g.blocks k).commands)) (λ k. marks_in (passive_block_at g.blocks k).commands) (λ k. command_marks k 0 (passive_block_at g.blocks k).commands) (range_with_len 0 (length g.blocks))
      ∙ all_places (λ (b : PassiveBlock). marks_in b.commands) (record { commands = []; next = [] }) g.blocks

-- ---- incarnations

havocked_commands : (xs : List ℕ) (s : Made) → (havocked s xs).commands ≡ s.commands
havocked_commands [] s = refl
havocked_commands (x ∷ xs) s = havocked_commands xs (anew s x)

assumed_more : (cs : List Command) (E : Tree) → marks_in (cs ++ Assume E ∷ []) ≡ marks_in cs
assumed_more cs E = marks_both cs (Assume E ∷ []) ∙ append-nil (marks_in cs)

assigned_marks : (ps : List (ℕ × Tree)) (s : Made) → marks_in (assigned s ps).commands ≡ marks_in s.commands
assigned_marks [] s = refl
assigned_marks (p ∷ ps) s = assigned_marks ps (also (anew s p.0) (Assume (equal (free (length s.sorts)) p.1))) ∙ assumed_more s.commands (equal (free (length s.sorts)) p.1)

performed_marks : (cs : List Command) (s : Made) → marks_in (perform_all s cs).commands ≡ marks_in s.commands ++ marks_in cs
performed_marks [] s = sym (append-nil (marks_in s.commands))
performed_marks (Assert m E ∷ cs) s =
    performed_marks cs (also s (Assert m (read s.present E)))
    ∙ ap (λ ms. ms ++ marks_in cs) (marks_both s.commands (Assert m (read s.present E) ∷ []))
    ∙ append_assoc (marks_in s.commands) (m ∷ []) (marks_in cs)
performed_marks (Assume E ∷ cs) s = performed_marks cs (also s (Assume (read s.present E))) ∙ ap (λ ms. ms ++ marks_in cs) (assumed_more s.commands (read s.present E))
performed_marks (Assign ps ∷ cs) s =
    performed_marks cs (assigned s (map (λ p. (p.0, read s.present p.1)) ps))
    ∙ ap (λ ms. ms ++ marks_in cs) (assigned_marks (map (λ p. (p.0, read s.present p.1)) ps) s)
performed_marks (Havoc xs ∷ cs) s = performed_marks cs (havocked s xs) ∙ ap (λ ds. marks_in ds ++ marks_in cs) (havocked_commands xs s)

abbrev done_marks : Done → List Mark
done_marks d = marks_in d.commands

abbrev block_marks : Block → List Mark
block_marks k = marks_in k.commands

equations_unmarked : (d : Done) (ps : List (ℕ × ℕ)) → marks_in (map (λ p. Assume (equal (free p.1) (free (incarnation d.last p.0)))) ps) ≡ []
equations_unmarked d [] = refl
equations_unmarked d (p ∷ ps) = equations_unmarked d ps

all_unmarked : (d : Done) (ds : List Done) (cs : List ℕ) → marks_in (flat_map (λ c. equations_for d (slice_index_or ds c nothing_done)) cs) ≡ []
all_unmarked d ds [] = refl
all_unmarked d ds (c ∷ cs) =
    marks_both (equations_for d (slice_index_or ds c nothing_done)) (flat_map (λ x. equations_for d (slice_index_or ds x nothing_done)) cs)
    ∙ (λ i. equations_unmarked d (slice_index_or ds c nothing_done).joined i ++ all_unmarked d ds cs i)

module _ (g : Graph) (first : Incarnations) where
  -- what is done of a block has the block's marks
  one_done : (sorts : List Kind) (before : List Done) (b : ℕ) → done_marks (do_block g first sorts before b).1 ≡ block_marks (block_at g.blocks b)
  one_done sorts before b =
      let is = lasts before (predecessors g.blocks b) in
      let start : Made = record { sorts = sorts; present = arriving g.own first is; commands = [] } in
      let vs = disagree g.own is in
      performed_marks (block_at g.blocks b).commands (havocked start vs) ∙ ap (λ ds. marks_in ds ++ marks_in (block_at g.blocks b).commands) (havocked_commands vs start)

  all_done : (bs : List ℕ) (sorts : List Kind) (before : List Done) → map done_marks (do_blocks g first sorts before bs).1 ≡ map done_marks before ++ map (λ b. block_marks (block_at g.blocks b)) bs
  all_done [] sorts before = sym (append-nil (map done_marks before))
  all_done (b ∷ bs) sorts before =
      let r = do_block g first sorts before b in
      let rest = map (λ x. block_marks (block_at g.blocks x)) bs in
      all_done bs r.0.sorts (before ++ r.1 ∷ [])
      ∙ ap (λ ms. ms ++ rest) (map-append done_marks before (r.1 ∷ []))
      ∙ append_assoc (map done_marks before) (done_marks r.1 ∷ []) rest
      ∙ ap (λ ms. map done_marks before ++ ms ∷ rest) (one_done sorts before b)

pub passive_marked : (g : Graph) (vars : List Kind) → flat_map (λ (b : PassiveBlock). marks_in b.commands) (passify g vars).blocks ≡ flat_map (λ (k : Block). marks_in k.commands) g.blocks
passive_marked g vars =
    let ns = numbers g.blocks in
    let ds = (do_blocks g (first_incarnations g vars) vars [] ns).1 in
    let done : map done_marks ds ≡ map (λ b. block_marks (block_at g.blocks b)) ns = all_done g (first_incarnations g vars) ns vars [] in
    let many : length g.blocks ≡ length ds
    = sym (length-range_with_len 0 (length g.blocks)) ∙ sym (length-map ns (λ b. block_marks (block_at g.blocks b))) ∙ sym (ap length done) ∙ length-map ds done_marks in
    flat_mapped (λ (b : PassiveBlock). marks_in b.commands) (passive_block g ds) ns
    ∙ flat_same (λ b. marks_in (passive_block g ds b).commands) (λ b. done_marks (slice_index_or ds b nothing_done)) (λ b. without_equations ds b) ns
    ∙ ap (λ n. flat_map (λ b. done_marks (slice_index_or ds b nothing_done)) (range_with_len 0 n)) many
    ∙ all_places done_marks nothing_done ds
    ∙ sym (flat_mapped (λ (ms : List Mark). ms) done_marks ds)
    ∙ ap (flat_map (λ (ms : List Mark). ms)) done
    ∙ flat_mapped (λ (ms : List Mark). ms) (λ b. block_marks (block_at g.blocks b)) ns
    ∙ all_places block_marks (record { commands = []; next = []; head = None }) g.blocks
  where
    without_equations : (ds : List Done) (b : ℕ) → marks_in (passive_block g ds b).commands ≡ done_marks (slice_index_or ds b nothing_done)
    without_equations ds b =
        let d = slice_index_or ds b nothing_done in
        marks_both d.commands (flat_map (λ c. equations_for d (slice_index_or ds c nothing_done)) (block_at g.blocks b).next)
        ∙ ap (λ ms. marks_in d.commands ++ ms) (all_unmarked d ds (block_at g.blocks b).next)
        ∙ append-nil (marks_in d.commands)

-- ---- loops

pub read_marks : (cs : List Clause) → marks_in (map command_of cs) ≡ marks_read cs
read_marks [] = refl
read_marks (checked m E ∷ cs) = ap (λ ms. m ∷ ms) (read_marks cs)
read_marks (assumed E ∷ cs) = read_marks cs

abbrev pub head_marks : GoalKind → Option LoopHead → List Mark
head_marks kind None = []
head_marks kind (Some h) = invariant_marks kind h.invariants

arrival_marks : (kind : GoalKind) (o : Option LoopHead) → marks_in (map command_of (clauses_at kind o)) ≡ head_marks kind o
arrival_marks kind None = refl
arrival_marks kind (Some h) = read_marks (map (read_invariant kind) h.invariants)

head_unmarked : (o : Option LoopHead) → marks_in (at_head o) ≡ []
head_unmarked None = refl
head_unmarked (Some h) = all_assumed h.invariants
  where
    all_assumed : (is : List Invariant) → marks_in (map (λ (i : Invariant). Assume i.formula) is) ≡ []
    all_assumed [] = refl
    all_assumed (i ∷ is) = all_assumed is

module _ (blocks : List Block) where
  -- of the invariants of the heads to which the edges of block b go
  abbrev pub edge_marks : ℕ → List ℕ → List Mark
  edge_marks b next = flat_map (λ c. head_marks (arrival_kind b c) (block_at blocks c).head) next

  -- of these blocks, of which the first is number b
  abbrev pub graph_marks : ℕ → List Block → List Mark
  graph_marks b [] = []
  graph_marks b (k ∷ ks) = (marks_in k.commands ++ edge_marks b k.next) ++ graph_marks (b + 1) ks

  edges_marked : (b : ℕ) (next : List ℕ) → marks_in (before_edges blocks b next) ≡ edge_marks b next
  edges_marked b [] = refl
  edges_marked b (c ∷ cs) =
      marks_both (map command_of (clauses_at (arrival_kind b c) (block_at blocks c).head)) (before_edges blocks b cs)
      ∙ (λ i. arrival_marks (arrival_kind b c) (block_at blocks c).head i ++ edges_marked b cs i)

  one_cut : (b : ℕ) (k : Block) → marks_in (at_head k.head ++ (k.commands ++ before_edges blocks b k.next)) ≡ marks_in k.commands ++ edge_marks b k.next
  one_cut b k =
      marks_both (at_head k.head) (k.commands ++ before_edges blocks b k.next)
      ∙ (λ i. head_unmarked k.head i ++ (marks_both k.commands (before_edges blocks b k.next) ∙ ap (λ ms. marks_in k.commands ++ ms) (edges_marked b k.next)) i)

  pub cut_marked : (b : ℕ) (ks : List Block) → flat_map (λ (k : Block). marks_in k.commands) (cut_from blocks b ks) ≡ graph_marks b ks
  cut_marked b [] = refl
  cut_marked b (k ∷ ks) = λ i. one_cut b k i ++ cut_marked (b + 1) ks i

  -- two runs of blocks, one behind the other
  pub graph_both : (b : ℕ) (xs ys : List Block) → graph_marks b (xs ++ ys) ≡ graph_marks b xs ++ graph_marks (b + length xs) ys
  graph_both b [] ys = let same : b ≡ b + 0 = omega arith in ap (λ n. graph_marks n ys) same
  graph_both b (x ∷ xs) ys =
      let same : b + 1 + length xs ≡ b + length (x ∷ xs) = omega arith in
      ap (λ ms. (marks_in x.commands ++ edge_marks b x.next) ++ ms) (graph_both (b + 1) xs ys ∙ ap (λ n. graph_marks (b + 1) xs ++ graph_marks n ys) same)
      ∙ sym (append_assoc (marks_in x.commands ++ edge_marks b x.next) (graph_marks (b + 1) xs) (graph_marks (b + length (x ∷ xs)) ys))
