-- The passive form of a rising graph: each assignment and havoc makes new incarnations, and so does a join of unequal ones.
use Rattle.std.specs.Prelude.{ℕ, Bool, nat_eq, ◌==◌, nat_lt, not, cond, List, [], ◌∷◌, ◌++◌, map, length, slice_index_or, set, filter, find, flat_map, unwrap_or, option_map}
use Rattle.std.specs.List.{list_any, list_all, range_with_len}
use Rattle.logic_core.specs.Tree.{Kind, int, Tree, free, equal}
use Rattle.logic_core.specs.Variables.{renamed}
use Rattle.logic_core.specs.Renamed.{new_number}
use Rattle.flow_core.specs.declared.command.Command.{Command}
use Rattle.flow_core.specs.declared.block.Block.{Block}
use Rattle.flow_core.specs.declared.command.Command.TheVariants.{Assert, Assume, Assign, Havoc}
use Rattle.flow_core.specs.Graph.{Graph, block_at}
use Rattle.passive_form.specs.declared.made.Made.{Made}
use Rattle.passive_form.specs.declared.done.Done.{Done}
use Rattle.passive_form.specs.declared.passive.PassiveBlock.{PassiveBlock}
use Rattle.passive_form.specs.declared.passive.Passive.{Passive}

-- the incarnation of each variable, by the variable's number
abbrev pub Incarnations : Type 0
Incarnations = List ℕ

abbrev pub incarnation : Incarnations → ℕ → ℕ
incarnation now v = new_number now v

-- a variable begins with its own number, and an entry value with its global's
abbrev pub first_incarnation : Graph → ℕ → ℕ
first_incarnation g v = unwrap_or (option_map (λ p. p.0) (find (λ p. nat_eq v p.1) g.olds)) v

abbrev pub first_incarnations : Graph → List Kind → Incarnations
first_incarnations g vars = map (first_incarnation g) (range_with_len 0 (length vars))

abbrev pub read : Incarnations → Tree → Tree
read now t = renamed (incarnation now) t

-- a new incarnation of a variable
abbrev pub anew : Made → ℕ → Made
anew s v = record s { sorts = s.sorts ++ slice_index_or s.sorts v int ∷ []; present = set s.present v (length s.sorts) }

abbrev pub also : Made → Command → Made
also s c = record s { commands = s.commands ++ c ∷ [] }

-- each target in order is equal to its right side, which was read before
abbrev pub assigned : Made → List (ℕ × Tree) → Made
assigned s [] = s
assigned s (p ∷ ps) = assigned (also (anew s p.0) (Assume (equal (free (length s.sorts)) p.1))) ps

abbrev pub havocked : Made → List ℕ → Made
havocked s [] = s
havocked s (x ∷ xs) = havocked (anew s x) xs

abbrev pub perform : Made → Command → Made
perform s (Assert m E) = also s (Assert m (read s.present E))
perform s (Assume E) = also s (Assume (read s.present E))
perform s (Assign ps) = assigned s (map (λ p. (p.0, read s.present p.1)) ps)
perform s (Havoc xs) = havocked s xs

abbrev pub perform_all : Made → List Command → Made
perform_all s [] = s
perform_all s (c ∷ cs) = perform_all (perform s c) cs

-- a block that isn't there
abbrev pub nothing_done : Done
nothing_done = record { joined = []; commands = []; last = [] }

abbrev pub numbers : List Block → List ℕ
numbers blocks = range_with_len 0 (length blocks)

abbrev pub has_edge : List Block → ℕ → ℕ → Bool
has_edge blocks p b = list_any (λ c. c == b) (block_at blocks p).next

-- the blocks below n with an edge to block b
abbrev pub predecessors_below : List Block → ℕ → ℕ → List ℕ
predecessors_below blocks n b = filter (λ p. has_edge blocks p b) (range_with_len 0 n)

abbrev pub predecessors : List Block → ℕ → List ℕ
predecessors blocks b = predecessors_below blocks (length blocks) b

-- the variables on which two predecessors disagree, those of calls apart
abbrev pub disagree : ℕ → List Incarnations → List ℕ
disagree own [] = []
disagree own (i ∷ is) = filter (λ v. not (list_all (λ j. nat_eq (incarnation i v) (incarnation j v)) is)) (range_with_len 0 own)

-- where no predecessor is, the first incarnations; else the first predecessor's, those of calls apart
abbrev pub arriving : ℕ → Incarnations → List Incarnations → Incarnations
arriving own first [] = first
arriving own first (i ∷ is) = map (λ v. cond (nat_lt v own) (incarnation i v) v) (range_with_len 0 (length first))

abbrev pub new_at_join : Made → List ℕ → List (ℕ × ℕ)
new_at_join s [] = []
new_at_join s (v ∷ vs) = (v, length s.sorts) ∷ new_at_join (anew s v) vs

-- the incarnations at the end of each of these blocks
abbrev pub lasts : List Done → List ℕ → List Incarnations
lasts before ps = map (λ p. (slice_index_or before p nothing_done).last) ps

-- block b, after the blocks before it
abbrev pub do_block : Graph → Incarnations → List Kind → List Done → ℕ → Made × Done
do_block g first sorts before b =
    let is = lasts before (predecessors g.blocks b) in
    let start : Made = record { sorts = sorts; present = arriving g.own first is; commands = [] } in
    let vs = disagree g.own is in
    let s = perform_all (havocked start vs) (block_at g.blocks b).commands in
    (s, record { joined = new_at_join start vs; commands = s.commands; last = s.present })

abbrev pub do_blocks : Graph → Incarnations → List Kind → List Done → List ℕ → List Kind × List Done
do_blocks g first sorts before [] = (sorts, before)
do_blocks g first sorts before (b ∷ bs) =
    let r = do_block g first sorts before b in
    do_blocks g first r.0.sorts (before ++ r.1 ∷ []) bs

-- at its end a predecessor makes each new incarnation of a join equal to its own
abbrev pub equations_for : Done → Done → List Command
equations_for d join = map (λ p. Assume (equal (free p.1) (free (incarnation d.last p.0)))) join.joined

abbrev pub passive_block : Graph → List Done → ℕ → PassiveBlock
passive_block g ds b =
    let d = slice_index_or ds b nothing_done in
    record {
      commands = d.commands ++ flat_map (λ c. equations_for d (slice_index_or ds c nothing_done)) (block_at g.blocks b).next;
      next = (block_at g.blocks b).next;
    }

abbrev pub passify : Graph → List Kind → Passive
passify g vars =
    let r = do_blocks g (first_incarnations g vars) vars [] (numbers g.blocks) in
    record { blocks = map (passive_block g r.1) (numbers g.blocks); vars = r.0 }
