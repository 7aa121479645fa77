-- Cut graphs rise, and graphs whose terms are well sorted go alike over the variables that are there.
use Rattle.std.specs.Prelude.{◌≡◌, refl, ℕ, zero, suc, ◌+◌, ◌<◌, ◌==◌, nat_lt, true, false, IsTrue, List, [], ◌∷◌, length, filter, slice_get, Option, Some, None, is_some, All}
use Rattle.std.specs.List.{AllByRecursion, list_any}
use Rattle.std.proofs.Common.{ap, arith}
use Rattle.std.proofs.lemmas.Bool.Decides.{nat_tests}
use Rattle.std.proofs.lemmas.List.Elements.{recursion_from_All}
use Rattle.logic_core.specs.Tree.{Kind, boolean, Tree}
use Rattle.logic_core.specs.Def.{Def}
use Rattle.logic_core.specs.Sorts.{sort_of}
use Rattle.logic_core.specs.Variables.{variables}
use Rattle.logic_core.specs.Renamed.{EachHas}
use Rattle.logic_core.proofs.Mentioned.{as_it_stands}
use Rattle.logic_laws.proofs.SortedNumbers.{HasVariable, HasDefinition, mentions_there}
use Rattle.flow_core.specs.declared.command.Command.{Command}
use Rattle.flow_core.specs.declared.block.LoopHead.{LoopHead}
use Rattle.flow_core.specs.declared.block.Block.{Block}
use Rattle.flow_core.specs.Graph.{Graph, block_at}
use Rattle.bpl_model.proofs.NumberLists.{of_any}
use Rattle.loop_cut.specs.Cut.{cut_from, cut}
use Rattle.passive_form.specs.Sorted.{IsSortedCommand, IsSortedPair, IsSortedBlock}
use Rattle.passive_form.specs.Incarnations.{has_edge}
use Rattle.obligation_text.proofs.Lists.{variables_have, calls_have}
use Rattle.rebuild_laws.proofs.Commands.{AlikeCommand, asserted, assumed_so, set_all, any_values, AlikeCommands, no_more, one_more}
use Rattle.rebuild_laws.proofs.CutsAlike.{AlikeHeads, no_head, a_head, AlikeBlocks, no_blocks, one_block}
use Rattle.rebuild_laws.proofs.Ranges.{filtered_pass}
use Rattle.rebuild_laws.specs.Alike.{Sets}

lower_all : (b : ℕ) (ns : List ℕ) → AllByRecursion (λ d. IsTrue (nat_lt b d)) ns → AllByRecursion (λ d. b < d) ns
lower_all b [] h = tt
lower_all b (d ∷ ns) h = (let e : nat_lt b d ≡ true = h.0 in grind (arith, nat_tests, e), lower_all b ns h.1)

rises_from : (blocks : List Block) (b : ℕ) (ks : List Block) (p c : ℕ) → list_any (λ d. d == c) (block_at (cut_from blocks b ks) p).next ≡ true → b + p < c
rises_from blocks b [] p c h = let e : false ≡ true = h in absurd cc
rises_from blocks b (k ∷ ks) zero c h = let r = of_any (λ d. b < d) (filter (nat_lt b) k.next) c h (lower_all b (filter (nat_lt b) k.next) (filtered_pass (nat_lt b) k.next)) in omega (r, arith)
rises_from blocks b (k ∷ ks) (suc p) c h = let r = rises_from blocks (b + 1) ks p c h in omega (r, arith)

pub cut_rises : (g : Graph) (p c : ℕ) → has_edge (cut g).blocks p c ≡ true → p < c
cut_rises g p c h = let r = rises_from g.blocks 0 g.blocks p c h in omega (r, arith)

heads_cut : (blocks : List Block) (b : ℕ) (ks : List Block) → AllByRecursion (λ (k : Block). k.head ≡ None) (cut_from blocks b ks)
heads_cut blocks b [] = tt
heads_cut blocks b (k ∷ ks) = (refl, heads_cut blocks (b + 1) ks)

there_below : (xs : List Kind) (v : ℕ) → is_some (slice_get xs v) ≡ true → v < length xs
there_below [] v h = let e : false ≡ true = h in absurd cc
there_below (x ∷ xs) zero h = omega arith
there_below (x ∷ xs) (suc v) h = let r = there_below xs v h in omega (r, arith)

-- over the sorts of all variables
module _ (new_def new_var : ℕ → ℕ) (D V : ℕ → Type 0) (defs : List Def) (vars : List Kind) where
  abbrev pub Within : ℕ → Type 0
  Within v = V v × (v < length vars)

  with_both : (vs : List ℕ) → AllByRecursion V vs → AllByRecursion (HasVariable vars defs) vs → AllByRecursion Within vs
  with_both [] h k = tt
  with_both (v ∷ vs) h k = ((h.0, there_below vars v k.0), with_both vs h.1 k.1)

  term_within : (k : Kind) (E : Tree) → sort_of vars defs [] E ≡ Some k → EachHas V D E → EachHas Within D E
  term_within k E e h = as_it_stands Within D E (with_both (variables E) (variables_have V D E h) (variables_have (HasVariable vars defs) (HasDefinition vars defs) E (mentions_there vars defs E [] (ap is_some e))), calls_have V D E h)

  pairs_within : (ps : List (ℕ × Tree)) → AllByRecursion (IsSortedPair defs vars) ps → AllByRecursion (Sets D V) ps → AllByRecursion (Sets D Within) ps
  pairs_within [] s h = tt
  pairs_within (p ∷ ps) s h = (((h.0.0, s.0.0), term_within _ p.1 s.0.1 h.0.1), pairs_within ps s.1 h.1)

  numbers_within : (vs : List ℕ) → AllByRecursion (λ v. v < length vars) vs → AllByRecursion V vs → AllByRecursion Within vs
  numbers_within [] s h = tt
  numbers_within (v ∷ vs) s h = ((h.0, s.0), numbers_within vs s.1 h.1)

  command_within : (c d : Command) → AlikeCommand new_def new_var D V c d → IsSortedCommand defs vars c → AlikeCommand new_def new_var D Within c d
  command_within _ _ (asserted {E = E} h) s = asserted (term_within boolean E s h)
  command_within _ _ (assumed_so {E = E} h) s = assumed_so (term_within boolean E s h)
  command_within _ _ (set_all {ps = ps} h) s = set_all (pairs_within ps (recursion_from_All (IsSortedPair defs vars) ps s) h)
  command_within _ _ (any_values {vs = vs} h) s = any_values (numbers_within vs (recursion_from_All (λ v. v < length vars) vs s) h)

  commands_within : (cs ds : List Command) → AlikeCommands new_def new_var D V cs ds → AllByRecursion (IsSortedCommand defs vars) cs → AlikeCommands new_def new_var D Within cs ds
  commands_within _ _ no_more s = no_more
  commands_within _ _ (one_more {c = c} {d = d} {cs = cs} {ds = ds} a rest) s = one_more (command_within c d a s.0) (commands_within cs ds rest s.1)

  head_within : (h k : Option LoopHead) → AlikeHeads new_def new_var D V h k → h ≡ None → AlikeHeads new_def new_var D Within h k
  head_within _ _ no_head e = no_head
  head_within _ _ (a_head a) e = absurd (cc)

  blocks_within : (bs cs : List Block) → AlikeBlocks new_def new_var D V bs cs → AllByRecursion (λ (k : Block). k.head ≡ None) bs → AllByRecursion (IsSortedBlock defs vars) bs → AlikeBlocks new_def new_var D Within bs cs
  blocks_within _ _ no_blocks none s = no_blocks
  blocks_within _ _ (one_block {b = b} {c = c} {bs = bs} {cs = cs} a rest) none s =
      one_block (record { commands = commands_within b.commands c.commands a.commands (recursion_from_All (IsSortedCommand defs vars) b.commands (s.0).commands); next = a.next; head = head_within b.head c.head a.head none.0 })
      (blocks_within bs cs rest none.1 s.1)

  pub cut_within : (g h : Graph) → AlikeBlocks new_def new_var D V (cut g).blocks (cut h).blocks → All (IsSortedBlock defs vars) (cut g).blocks → AlikeBlocks new_def new_var D Within (cut g).blocks (cut h).blocks
  cut_within g h a s = blocks_within (cut g).blocks (cut h).blocks a (heads_cut g.blocks 0 g.blocks) (recursion_from_All (IsSortedBlock defs vars) (cut g).blocks s)
