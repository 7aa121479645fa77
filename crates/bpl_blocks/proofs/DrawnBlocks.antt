-- What is drawn piece by piece is what the statement's blocks are.
use Rattle.std.specs.Prelude.{◌≡◌, refl, ℕ, ◌+◌, Bool, true, false, List, [], ◌∷◌, ◌++◌, length, Some, None, option_map}
use Rattle.std.proofs.Common.{arith, ap, sym, ◌∙◌, append_assoc}
use Rattle.std.proofs.lemmas.List.{length-append, append-nil}
use Rattle.bv_base.specs.declared.place.Place.{Place}
use Rattle.logic_core.specs.Tree.{negation}
use Rattle.flow_core.specs.declared.command.Command.{Command}
use Rattle.flow_core.specs.declared.block.Block.{Block}
use Rattle.flow_core.specs.declared.block.Invariant.{Invariant}
use Rattle.bpl_model.specs.Module.{Name, Guard, Stmt, if_else, while, Stmts, no_stmts, stmt}
use Rattle.bpl_blocks.specs.Targets.{list_size, loop_targets}
use Rattle.bpl_blocks.specs.Blocks.{Scope, block, enter, pass_by, Made, stmt_blocks, list_blocks}
use Rattle.bpl_blocks.specs.Drawn.{clauses_in, Drawn, ended, and_made, Setting, with_stmt, with_list}
use Rattle.bpl_blocks.proofs.RunSizes.{list_length}

-- a guard that is denied is passed by
pub pass_is : (g : Guard) → enter (option_map negation g) ≡ pass_by g
pass_is None = refl
pass_is (Some E) = refl

two_blocks : (R Q : List Block) (b c : Block) → ((R ++ b ∷ []) ++ Q) ++ c ∷ [] ≡ R ++ b ∷ (Q ++ c ∷ [])
two_blocks [] Q b c = refl
two_blocks (r ∷ R) Q b c = λ i. r ∷ two_blocks R Q b c i

branches_behind : (B R Q : List Block) (a b c : Block) → ((((B ++ a ∷ []) ++ R) ++ b ∷ []) ++ Q) ++ c ∷ [] ≡ B ++ (a ∷ (R ++ b ∷ (Q ++ c ∷ [])))
branches_behind [] R Q a b c = λ i. a ∷ two_blocks R Q b c i
branches_behind (k ∷ B) R Q a b c = λ i. k ∷ branches_behind B R Q a b c i

pub two_last : (R : List Block) (b c : Block) → (R ++ b ∷ []) ++ c ∷ [] ≡ R ++ b ∷ c ∷ []
two_last [] b c = refl
two_last (r ∷ R) b c = λ i. r ∷ two_last R b c i

loop_behind : (B R : List Block) (a h b c : Block) → ((((B ++ a ∷ []) ++ h ∷ []) ++ R) ++ b ∷ []) ++ c ∷ [] ≡ B ++ (a ∷ h ∷ (R ++ b ∷ c ∷ []))
loop_behind [] R a h b c = λ i. a ∷ h ∷ two_last R b c i
loop_behind (k ∷ B) R a h b c = λ i. k ∷ loop_behind B R a h b c i

-- commands alone are drawn
pub only_commands : (d : Drawn) (cs : List Command) → record d { commands = cs } ≡ and_made d ([], cs)
only_commands d cs = ap (λ bs. record { blocks = bs; commands = cs }) (sym (append-nil d.blocks))

-- a havoc, and what is assumed behind it
pub havoc_drawn : (d : Drawn) (c : Command) (cs : List Command) → record d { commands = (d.commands ++ c ∷ []) ++ cs } ≡ and_made d ([], d.commands ++ c ∷ cs)
havoc_drawn d c cs = (λ i. record d { commands = append_assoc d.commands (c ∷ []) cs i }) ∙ only_commands d (d.commands ++ c ∷ cs)

module _ (setting : Setting) where
  abbrev stmt_made : List Name → List Scope → ℕ → List Command → Stmt → Made
  stmt_made = stmt_blocks (clauses_in setting.clauses) setting.own setting.last

  abbrev list_made : List Scope → ℕ → List Command → Stmts → Made
  list_made = list_blocks (clauses_in setting.clauses) setting.own setting.last

  -- the blocks of a list are those of its first statement, and then those of the others
  pub list_step : (scopes : List Scope) (d : Drawn) (s : Stmt) (ss : Stmts) → with_list setting scopes (with_stmt setting scopes d [] s) ss ≡ with_list setting scopes d (stmt s ss)
  list_step scopes d s ss =
      let r = stmt_made [] scopes (length d.blocks) d.commands s in
      let q : ℕ → Made = λ k. list_made scopes k r.1 ss in
      let k : length (d.blocks ++ r.0) ≡ length d.blocks + length r.0 = length-append d.blocks r.0 in
      (λ i. record { blocks = (d.blocks ++ r.0) ++ (q (k i)).0; commands = (q (k i)).1 })
      ∙ (λ i. record { blocks = append_assoc d.blocks r.0 (q (length d.blocks + length r.0)).0 i; commands = (q (length d.blocks + length r.0)).1 })

  -- nothing more is drawn
  pub with_none : (scopes : List Scope) (d : Drawn) → with_list setting scopes d no_stmts ≡ d
  with_none scopes d = λ i. record { blocks = append-nil d.blocks i; commands = d.commands }

  -- what is assumed, in the current block
  abbrev pub assumed : Drawn → Guard → Drawn
  assumed e h = record e { commands = e.commands ++ enter h }

  -- what is assumed, a list, and an edge at its end
  abbrev pub branch : List Scope → Drawn → Guard → Stmts → ℕ → Drawn
  branch sc e h ss next = ended (with_list setting sc (assumed e h) ss) (next ∷ [])

  module _ (scopes : List Scope) (d : Drawn) (labels : List Name) (at : Place) (g : Guard) where
    abbrev if_scopes : ℕ → List Scope
    if_scopes join = record { labels = labels; is_loop = false; behind = join } ∷ scopes

    abbrev both_branches : Stmts → Stmts → ℕ → ℕ → ℕ → Drawn
    both_branches ss ts first other join = branch (if_scopes join) (branch (if_scopes join) (ended d (first ∷ other ∷ [])) g ss join) (option_map negation g) ts join

    if_made : (has_else : Bool) (ss ts : Stmts) → (let first = length d.blocks + 1 in let other = first + list_size ss + 1 in both_branches ss ts first other (other + list_size ts + 1)) ≡ with_stmt setting scopes d labels (if_else at has_else g ss ts)
    if_made has_else ss ts =
        let first = length d.blocks + 1 in
        let other = first + list_size ss + 1 in
        let join = other + list_size ts + 1 in
        let sc = if_scopes join in
        let a = block d.commands (first ∷ other ∷ []) in
        let r : ℕ → Made = λ k. list_made sc k (enter g) ss in
        let q : ℕ → List Command → Made = λ k cs. list_made sc k cs ts in
        let before : ℕ → List Block = λ k. ((d.blocks ++ a ∷ []) ++ (r k).0) ++ block (r k).1 (join ∷ []) ∷ [] in
        let whole : ℕ → ℕ → List Command → Drawn = λ k j cs. record { blocks = (before k ++ (q j cs).0) ++ block (q j cs).1 (join ∷ []) ∷ []; commands = [] } in
        let start = length (d.blocks ++ a ∷ []) in
        let k : start ≡ first = length-append d.blocks (a ∷ []) in
        let size : length (r start).0 ≡ list_size ss = list_length (clauses_in setting.clauses) setting.own setting.last ss sc start (enter g) in
        let l1 = length-append ((d.blocks ++ a ∷ []) ++ (r start).0) (block (r start).1 (join ∷ []) ∷ []) in
        let l2 = length-append (d.blocks ++ a ∷ []) (r start).0 in
        let j : length (before start) ≡ other = omega (arith, k, size, l1, l2) in
        (λ i. whole (k i) (j i) (pass_is g i))
        ∙ (λ i. record { blocks = branches_behind d.blocks (r first).0 (q other (pass_by g)).0 a (block (r first).1 (join ∷ [])) (block (q other (pass_by g)).1 (join ∷ [])) i; commands = [] })

    -- an if, where the numbers of its blocks are these
    pub if_drawn : (has_else : Bool) (ss ts : Stmts) (first other join : ℕ) → first ≡ length d.blocks + 1 → other ≡ first + list_size ss + 1 → join ≡ other + list_size ts + 1
        → both_branches ss ts first other join ≡ with_stmt setting scopes d labels (if_else at has_else g ss ts)
    if_drawn has_else ss ts first other join e f h =
        let f' : other ≡ length d.blocks + 1 + list_size ss + 1 = f ∙ ap (λ k. k + list_size ss + 1) e in
        let h' : join ≡ length d.blocks + 1 + list_size ss + 1 + list_size ts + 1 = h ∙ ap (λ k. k + list_size ts + 1) f' in
        (λ i. both_branches ss ts (e i) (f' i) (h' i)) ∙ if_made has_else ss ts

    abbrev loop_scopes : ℕ → List Scope
    loop_scopes behind = record { labels = labels; is_loop = true; behind = behind } ∷ scopes

    abbrev headed : Drawn → List Invariant → Stmts → ℕ → ℕ → Drawn
    headed e is ss inside exit = record e { blocks = e.blocks ++ record { commands = []; next = inside ∷ exit ∷ []; head = Some (record { invariants = is; targets = loop_targets setting.own ss }) } ∷ [] }

    abbrev whole_loop : List Invariant → Stmts → ℕ → ℕ → ℕ → ℕ → Drawn
    whole_loop is ss head inside exit behind =
        ended (assumed (branch (loop_scopes behind) (headed (ended d (head ∷ [])) is ss inside exit) g ss head) (option_map negation g)) (behind ∷ [])

    loop_made : (is : List Invariant) (ss : Stmts) → (let head = length d.blocks + 1 in let exit = head + 1 + list_size ss + 1 in whole_loop is ss head (head + 1) exit (exit + 1)) ≡ with_stmt setting scopes d labels (while at g is ss)
    loop_made is ss =
        let head = length d.blocks + 1 in
        let exit = head + 1 + list_size ss + 1 in
        let sc = loop_scopes (exit + 1) in
        let a = block d.commands (head ∷ []) in
        let h : Block = record { commands = []; next = (head + 1) ∷ exit ∷ []; head = Some (record { invariants = is; targets = loop_targets setting.own ss }) } in
        let r : ℕ → Made = λ k. list_made sc k (enter g) ss in
        let whole : ℕ → List Command → Drawn = λ k cs. record { blocks = ((((d.blocks ++ a ∷ []) ++ h ∷ []) ++ (r k).0) ++ block (r k).1 (head ∷ []) ∷ []) ++ block cs ((exit + 1) ∷ []) ∷ []; commands = [] } in
        let start = length ((d.blocks ++ a ∷ []) ++ h ∷ []) in
        let l1 = length-append (d.blocks ++ a ∷ []) (h ∷ []) in
        let l2 = length-append d.blocks (a ∷ []) in
        let k : start ≡ head + 1 = omega (arith, l1, l2) in
        (λ i. whole (k i) (pass_is g i))
        ∙ (λ i. record { blocks = loop_behind d.blocks (r (head + 1)).0 a h (block (r (head + 1)).1 (head ∷ [])) (block (pass_by g) ((exit + 1) ∷ [])) i; commands = [] })

    -- a loop, where the numbers of its blocks are these
    pub loop_drawn : (is : List Invariant) (ss : Stmts) (head inside exit behind : ℕ) → head ≡ length d.blocks + 1 → inside ≡ head + 1 → exit ≡ inside + list_size ss + 1 → behind ≡ exit + 1
        → whole_loop is ss head inside exit behind ≡ with_stmt setting scopes d labels (while at g is ss)
    loop_drawn is ss head inside exit behind e f h j =
        let f' : inside ≡ length d.blocks + 1 + 1 = f ∙ ap (λ k. k + 1) e in
        let h' : exit ≡ length d.blocks + 1 + 1 + list_size ss + 1 = h ∙ ap (λ k. k + list_size ss + 1) f' in
        let j' : behind ≡ length d.blocks + 1 + 1 + list_size ss + 1 + 1 = j ∙ ap (λ k. k + 1) h' in
        (λ i. whole_loop is ss (e i) (f' i) (h' i) (j' i)) ∙ loop_made is ss

    -- an if, drawn one after another
    pub if_made_of : (has_else : Bool) (ss ts : Stmts) (first other join : ℕ) (next : List ℕ) (ls : List Name) (h k : Guard) (s1 s2 : List Scope) (d1 d2 d3 : Drawn)
        → first ≡ length d.blocks + 1 → other ≡ first + list_size ss + 1 → join ≡ other + list_size ts + 1
        → ls ≡ labels → h ≡ g → k ≡ option_map negation g → next ≡ first ∷ other ∷ []
        → s1 ≡ record { labels = ls; is_loop = false; behind = join } ∷ scopes → s2 ≡ s1
        → d1 ≡ ended d next → d2 ≡ branch s1 d1 h ss join → d3 ≡ branch s2 d2 k ts join
        → d3 ≡ with_stmt setting scopes d labels (if_else at has_else g ss ts)
    if_made_of has_else ss ts first other join next ls h k s1 s2 d1 d2 d3 e f j l hg kg n p q a b r =
        let inner : s1 ≡ if_scopes join = p ∙ (λ i. record { labels = l i; is_loop = false; behind = join } ∷ scopes) in
        let one : d1 ≡ ended d (first ∷ other ∷ []) = a ∙ ap (ended d) n in
        let two : d2 ≡ branch (if_scopes join) (ended d (first ∷ other ∷ [])) g ss join = b ∙ (λ i. branch (inner i) (one i) (hg i) ss join) in
        r ∙ ((λ i. branch ((q ∙ inner) i) (two i) (kg i) ts join) ∙ if_drawn has_else ss ts first other join e f j)

    -- a loop, drawn one after another
    pub loop_made_of : (is : List Invariant) (ss : Stmts) (head inside exit behind : ℕ) (ls : List Name) (h k : Guard) (s1 : List Scope) (d1 d2 d3 d4 : Drawn)
        → head ≡ length d.blocks + 1 → inside ≡ head + 1 → exit ≡ inside + list_size ss + 1 → behind ≡ exit + 1
        → ls ≡ labels → h ≡ g → k ≡ option_map negation g
        → s1 ≡ record { labels = ls; is_loop = true; behind = behind } ∷ scopes
        → d1 ≡ ended d (head ∷ []) → d2 ≡ headed d1 is ss inside exit → d3 ≡ branch s1 d2 h ss head → d4 ≡ ended (assumed d3 k) (behind ∷ [])
        → d4 ≡ with_stmt setting scopes d labels (while at g is ss)
    loop_made_of is ss head inside exit behind ls h k s1 d1 d2 d3 d4 e f j b l hg kg p a o q r =
        let inner : s1 ≡ loop_scopes behind = p ∙ (λ i. record { labels = l i; is_loop = true; behind = behind } ∷ scopes) in
        let three : d3 ≡ branch (loop_scopes behind) (headed (ended d (head ∷ [])) is ss inside exit) g ss head =
        q ∙ (λ i. branch (inner i) ((o ∙ ap (λ u. headed u is ss inside exit) a) i) (hg i) ss head) in
        r ∙ ((λ i. ended (assumed (three i) (kg i)) (behind ∷ [])) ∙ loop_drawn is ss head inside exit behind e f j b)
