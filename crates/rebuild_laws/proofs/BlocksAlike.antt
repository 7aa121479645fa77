-- Bodies that go alike, whatever their places, have blocks that do.
use Rattle.std.specs.Prelude.{◌≡◌, refl, ℕ, suc, ◌+◌, true, false, List, [], ◌∷◌, ◌++◌, map, length, Some}
use Rattle.std.specs.List.{AllByRecursion}
use Rattle.std.proofs.Common.{ap, sym, subst, ◌∙◌}
use Rattle.std.proofs.lemmas.List.{map-append}
use Rattle.logic_core.specs.Tree.{Tree}
use Rattle.logic_core.specs.Renamed.{both_renamed}
use Rattle.flow_core.specs.declared.command.Command.{Command}
use Rattle.flow_core.specs.declared.command.Command.TheVariants.{Assert, Assume, Assign, Havoc}
use Rattle.flow_core.specs.declared.block.Invariant.{Invariant}
use Rattle.flow_core.specs.declared.block.Block.{Block}
use Rattle.bpl_model.specs.Module.{Name, Guard, Stmt, if_else, while, Stmts}
use Rattle.bpl_blocks.specs.Targets.{sets, list_sets, loop_targets, size, list_size}
use Rattle.bpl_blocks.specs.Blocks.{Scope, behind_break, block, enter, pass_by, Made, assume_all, stmt_blocks, list_blocks}
use Rattle.rebuild_laws.proofs.Commands.{AlikeCommand, asserted, assumed_so, set_all, any_values, AlikeCommands, no_more, one_more, alike_both}
use Rattle.rebuild_laws.proofs.CutsAlike.{no_head, a_head, AlikeBlock, AlikeBlocks, no_blocks, one_block}
use Rattle.rebuild_laws.specs.Alike.{Sets, AlikeGuard, free_choice, guarded, AlikeStmt, asserts, assumes, havocs, assigns, branches, loops, breaks, returns, jumps, calls_so, labels, AlikeStmts, none_more, a_stmt}

-- over what is renamed, and the callees that go alike
module _ (new_def new_var : ℕ → ℕ) (D V : ℕ → Type 0) (C : ℕ → ℕ → Type 0) where
  set_both : (xs ys zs ws : List ℕ) → xs ≡ map new_var zs → ys ≡ map new_var ws → xs ++ ys ≡ map new_var (zs ++ ws)
  set_both xs ys zs ws e f = (λ i. e i ++ f i) ∙ sym (map-append new_var zs ws)

  both_each : (xs ys : List ℕ) → AllByRecursion V xs → AllByRecursion V ys → AllByRecursion V (xs ++ ys)
  both_each [] ys h k = k
  both_each (x ∷ xs) ys h k = (h.0, both_each xs ys h.1 k)

  firsts : (ps : List (ℕ × Tree)) → map (λ (p : ℕ × Tree). p.0) (map (λ (r : ℕ × Tree). (new_var r.0, both_renamed new_def new_var r.1)) ps) ≡ map new_var (map (λ (p : ℕ × Tree). p.0) ps)
  firsts [] = refl
  firsts (p ∷ ps) = ap (λ vs. new_var p.0 ∷ vs) (firsts ps)

  firsts_each : (ps : List (ℕ × Tree)) → AllByRecursion (Sets D V) ps → AllByRecursion V (map (λ (p : ℕ × Tree). p.0) ps)
  firsts_each [] h = tt
  firsts_each (p ∷ ps) h = (h.0.0, firsts_each ps h.1)

  mutual
    sets_alike : (s t : Stmt) → AlikeStmt new_def new_var D V C s t → (sets t ≡ map new_var (sets s)) × AllByRecursion V (sets s)
    sets_alike _ _ (asserts h) = (refl, tt)
    sets_alike _ _ (assumes h) = (refl, tt)
    sets_alike _ _ (havocs h) = (refl, h)
    sets_alike _ _ (assigns {ps = ps} h) = (firsts ps, firsts_each ps h)
    sets_alike _ _ (branches {ss = ss} {ts = ts} {us = us} {ws = ws} c a b) =
        let x = all_sets_alike ss ts a in
        let y = all_sets_alike us ws b in
        (set_both (list_sets ts) (list_sets ws) (list_sets ss) (list_sets us) x.0 y.0, both_each (list_sets ss) (list_sets us) x.1 y.1)
    sets_alike _ _ (loops {ss = ss} {ts = ts} c i a) = all_sets_alike ss ts a
    sets_alike _ _ breaks = (refl, tt)
    sets_alike _ _ returns = (refl, tt)
    sets_alike _ _ jumps = (refl, tt)
    sets_alike _ _ (calls_so c e h) = (refl, h)
    sets_alike _ _ (labels {s = s} {t = t} a) = sets_alike s t a

    pub all_sets_alike : (ss ts : Stmts) → AlikeStmts new_def new_var D V C ss ts → (list_sets ts ≡ map new_var (list_sets ss)) × AllByRecursion V (list_sets ss)
    all_sets_alike _ _ none_more = (refl, tt)
    all_sets_alike _ _ (a_stmt {s = s} {t = t} {ss = ss} {ts = ts} a rest) =
        let x = sets_alike s t a in
        let y = all_sets_alike ss ts rest in
        (set_both (sets t) (list_sets ts) (sets s) (list_sets ss) x.0 y.0, both_each (sets s) (list_sets ss) x.1 y.1)

  mutual
    size_alike : (s t : Stmt) → AlikeStmt new_def new_var D V C s t → size t ≡ size s
    size_alike _ _ (asserts h) = refl
    size_alike _ _ (assumes h) = refl
    size_alike _ _ (havocs h) = refl
    size_alike _ _ (assigns h) = refl
    size_alike _ _ (branches {ss = ss} {ts = ts} {us = us} {ws = ws} c a b) = λ i. sizes_alike ss ts a i + sizes_alike us ws b i + 3
    size_alike _ _ (loops {ss = ss} {ts = ts} c i a) = λ j. sizes_alike ss ts a j + 4
    size_alike _ _ breaks = refl
    size_alike _ _ returns = refl
    size_alike _ _ jumps = refl
    size_alike _ _ (calls_so c e h) = refl
    size_alike _ _ (labels {s = s} {t = t} a) = size_alike s t a

    pub sizes_alike : (ss ts : Stmts) → AlikeStmts new_def new_var D V C ss ts → list_size ts ≡ list_size ss
    sizes_alike _ _ none_more = refl
    sizes_alike _ _ (a_stmt {s = s} {t = t} {ss = ss} {ts = ts} a rest) = λ i. size_alike s t a i + sizes_alike ss ts rest i

  guard_enters : (g h : Guard) → AlikeGuard new_def new_var D V C g h → AlikeCommands new_def new_var D V (enter g) (enter h)
  guard_enters _ _ free_choice = no_more
  guard_enters _ _ (guarded h) = one_more (assumed_so h) no_more

  guard_passes : (g h : Guard) → AlikeGuard new_def new_var D V C g h → AlikeCommands new_def new_var D V (pass_by g) (pass_by h)
  guard_passes _ _ free_choice = no_more
  guard_passes _ _ (guarded h) = one_more (assumed_so h) no_more

  more : (cs ds : List Command) (c d : Command) → AlikeCommands new_def new_var D V cs ds → AlikeCommand new_def new_var D V c d → AlikeCommands new_def new_var D V (cs ++ c ∷ []) (ds ++ d ∷ [])
  more cs ds c d a b = alike_both new_def new_var D V cs ds (c ∷ []) (d ∷ []) a (one_more b no_more)

  -- blocks, and then others
  pub blocks_both : (xs ys zs ws : List Block) → AlikeBlocks new_def new_var D V xs ys → AlikeBlocks new_def new_var D V zs ws → AlikeBlocks new_def new_var D V (xs ++ zs) (ys ++ ws)
  blocks_both _ _ zs ws no_blocks h = h
  blocks_both _ _ zs ws (one_block {bs = xs} {cs = ys} a rest) h = one_block a (blocks_both xs ys zs ws rest h)

  pub blocks_long : (xs ys : List Block) → AlikeBlocks new_def new_var D V xs ys → length ys ≡ length xs
  blocks_long _ _ no_blocks = refl
  blocks_long _ _ (one_block {bs = xs} {cs = ys} a rest) = λ i. suc (blocks_long xs ys rest i)

  plain_block : (cs ds : List Command) (next : List ℕ) → AlikeCommands new_def new_var D V cs ds → AlikeBlock new_def new_var D V (block cs next) (block ds next)
  plain_block cs ds next a = record { commands = a; next = refl; head = no_head }

  pub record AlikeDrawn (r q : Made) : Type 0 where
    pub blocks : AlikeBlocks new_def new_var D V r.0 q.0
    pub commands : AlikeCommands new_def new_var D V r.1 q.1

  -- over the clauses of what is havocked, and the variables below the first of replaced calls
  module _ (clauses clauses_there : List ℕ → List Tree) (own own_there last : ℕ)
      (clauses_alike : (vs : List ℕ) → AllByRecursion V vs → AlikeCommands new_def new_var D V (assume_all (clauses vs)) (assume_all (clauses_there (map new_var vs))))
      (targets_alike : (ss ts : Stmts) → AlikeStmts new_def new_var D V C ss ts → (loop_targets own_there ts ≡ map new_var (loop_targets own ss)) × AllByRecursion V (loop_targets own ss)) where
    -- an if whose branches have so many blocks, and a loop whose body has
    abbrev if_drawn : Guard → Stmts → Stmts → List Name → List Scope → ℕ → List Command → ℕ → ℕ → Made
    if_drawn h ts ws ls sc n ds first second =
        let other = n + 1 + first + 1 in
        let join = other + second + 1 in
        let scopes = record { labels = ls; is_loop = false; behind = join } ∷ sc in
        let r = list_blocks clauses_there own_there last scopes (n + 1) (enter h) ts in
        let q = list_blocks clauses_there own_there last scopes other (pass_by h) ws in
        (block ds ((n + 1) ∷ other ∷ []) ∷ (r.0 ++ block r.1 (join ∷ []) ∷ (q.0 ++ block q.1 (join ∷ []) ∷ [])), [])

    abbrev while_drawn : Guard → List Invariant → Stmts → List Name → List Scope → ℕ → List Command → ℕ → Made
    while_drawn h js ts ls sc n ds long =
        let head = n + 1 in
        let exit = head + 1 + long + 1 in
        let scopes = record { labels = ls; is_loop = true; behind = exit + 1 } ∷ sc in
        let r = list_blocks clauses_there own_there last scopes (head + 1) (enter h) ts in (
          block ds (head ∷ [])
              ∷ record { commands = []; next = (head + 1) ∷ exit ∷ []; head = Some (record { invariants = js; targets = loop_targets own_there ts }) }
              ∷ (r.0 ++ block r.1 (head ∷ []) ∷ block (pass_by h) ((exit + 1) ∷ []) ∷ []),
          [],
        )

    mutual
      stmt_alike : (s t : Stmt) → AlikeStmt new_def new_var D V C s t → (ls : List Name) (sc : List Scope) (n : ℕ) (cs ds : List Command) → AlikeCommands new_def new_var D V cs ds
          → AlikeDrawn (stmt_blocks clauses own last ls sc n cs s) (stmt_blocks clauses_there own_there last ls sc n ds t)
      stmt_alike _ _ (asserts {m = m} {n = k} {E = E} h) ls sc n cs ds a = record { blocks = no_blocks; commands = more cs ds (Assert m E) (Assert k (both_renamed new_def new_var E)) a (asserted h) }
      stmt_alike _ _ (assumes {E = E} h) ls sc n cs ds a = record { blocks = no_blocks; commands = more cs ds (Assume E) (Assume (both_renamed new_def new_var E)) a (assumed_so h) }
      stmt_alike _ _ (havocs {vs = vs} h) ls sc n cs ds a = record {
        blocks = no_blocks;
        commands = alike_both new_def new_var D V cs ds (Havoc vs ∷ assume_all (clauses vs)) (Havoc (map new_var vs) ∷ assume_all (clauses_there (map new_var vs))) a (one_more (any_values h) (clauses_alike vs h));
      }
      stmt_alike _ _ (assigns {ps = ps} h) ls sc n cs ds a = record { blocks = no_blocks; commands = more cs ds (Assign ps) (Assign (map (λ (r : ℕ × Tree). (new_var r.0, both_renamed new_def new_var r.1)) ps)) a (set_all h) }
      stmt_alike _ _ (branches {p = p} {e = has_else} {g = g} {h = h} {ss = ss} {ts = ts} {us = us} {ws = ws} c b e) ls sc n cs ds a =
          subst (λ m. AlikeDrawn (stmt_blocks clauses own last ls sc n cs (if_else p has_else g ss us)) (if_drawn h ts ws ls sc n ds m (list_size ws))) (sym (sizes_alike ss ts b))
          (subst (λ m. AlikeDrawn (stmt_blocks clauses own last ls sc n cs (if_else p has_else g ss us)) (if_drawn h ts ws ls sc n ds (list_size ss) m)) (sym (sizes_alike us ws e))
          (let other = n + 1 + list_size ss + 1 in
          let join = other + list_size us + 1 in
          let scopes = record { labels = ls; is_loop = false; behind = join } ∷ sc in
          let r = list_alike ss ts b scopes (n + 1) (enter g) (enter h) (guard_enters g h c) in
          let k = list_alike us ws e scopes other (pass_by g) (pass_by h) (guard_passes g h c) in
          let mine = list_blocks clauses own last scopes (n + 1) (enter g) ss in
          let theirs = list_blocks clauses_there own_there last scopes (n + 1) (enter h) ts in
          let mine_other = list_blocks clauses own last scopes other (pass_by g) us in
          let theirs_other = list_blocks clauses_there own_there last scopes other (pass_by h) ws in
          record {
            blocks = one_block (plain_block cs ds ((n + 1) ∷ other ∷ []) a) (blocks_both mine.0 theirs.0 (block mine.1 (join ∷ []) ∷ (mine_other.0 ++ block mine_other.1 (join ∷ []) ∷ [])) (block theirs.1 (join ∷ []) ∷ (theirs_other.0 ++ block theirs_other.1 (join ∷ []) ∷ [])) r.blocks
                (one_block (plain_block mine.1 theirs.1 (join ∷ []) r.commands) (blocks_both mine_other.0 theirs_other.0 (block mine_other.1 (join ∷ []) ∷ []) (block theirs_other.1 (join ∷ []) ∷ []) k.blocks (one_block (plain_block mine_other.1 theirs_other.1 (join ∷ []) k.commands) no_blocks))));
            commands = no_more;
          }))
      stmt_alike _ _ (loops {p = p} {g = g} {h = h} {is = is} {js = js} {ss = ss} {ts = ts} c i b) ls sc n cs ds a =
          subst (λ m. AlikeDrawn (stmt_blocks clauses own last ls sc n cs (while p g is ss)) (while_drawn h js ts ls sc n ds m)) (sym (sizes_alike ss ts b))
          (let head = n + 1 in
          let exit = head + 1 + list_size ss + 1 in
          let scopes = record { labels = ls; is_loop = true; behind = exit + 1 } ∷ sc in
          let r = list_alike ss ts b scopes (head + 1) (enter g) (enter h) (guard_enters g h c) in
          let mine = list_blocks clauses own last scopes (head + 1) (enter g) ss in
          let theirs = list_blocks clauses_there own_there last scopes (head + 1) (enter h) ts in
          let targets = targets_alike ss ts b in
          record {
            blocks = one_block (plain_block cs ds (head ∷ []) a)
                (one_block (record { commands = no_more; next = refl; head = a_head (record { invariants = i; each = targets.1; targets = targets.0 }) })
                (blocks_both mine.0 theirs.0 (block mine.1 (head ∷ []) ∷ block (pass_by g) ((exit + 1) ∷ []) ∷ []) (block theirs.1 (head ∷ []) ∷ block (pass_by h) ((exit + 1) ∷ []) ∷ []) r.blocks
                (one_block (plain_block mine.1 theirs.1 (head ∷ []) r.commands) (one_block (plain_block (pass_by g) (pass_by h) ((exit + 1) ∷ []) (guard_passes g h c)) no_blocks))));
            commands = no_more;
          })
      stmt_alike _ _ (breaks {l = l}) ls sc n cs ds a = record { blocks = one_block (plain_block cs ds (behind_break sc l ∷ []) a) no_blocks; commands = no_more }
      stmt_alike _ _ returns ls sc n cs ds a = record { blocks = one_block (plain_block cs ds (last ∷ []) a) no_blocks; commands = no_more }
      stmt_alike _ _ jumps ls sc n cs ds a = record { blocks = no_blocks; commands = a }
      stmt_alike _ _ (calls_so c e h) ls sc n cs ds a = record { blocks = no_blocks; commands = a }
      stmt_alike _ _ (labels {ls = new} {s = s} {t = t} b) ls sc n cs ds a = stmt_alike s t b (new ++ ls) sc n cs ds a

      pub list_alike : (ss ts : Stmts) → AlikeStmts new_def new_var D V C ss ts → (sc : List Scope) (n : ℕ) (cs ds : List Command) → AlikeCommands new_def new_var D V cs ds
          → AlikeDrawn (list_blocks clauses own last sc n cs ss) (list_blocks clauses_there own_there last sc n ds ts)
      list_alike _ _ none_more sc n cs ds a = record { blocks = no_blocks; commands = a }
      list_alike _ _ (a_stmt {s = s} {t = t} {ss = ss} {ts = ts} b rest) sc n cs ds a =
          let r = stmt_alike s t b [] sc n cs ds a in
          let mine = stmt_blocks clauses own last [] sc n cs s in
          let theirs = stmt_blocks clauses_there own_there last [] sc n ds t in
          let k = list_alike ss ts rest sc (n + length mine.0) mine.1 theirs.1 r.commands in
          let long : length theirs.0 ≡ length mine.0 = blocks_long mine.0 theirs.0 r.blocks in
          let after = list_blocks clauses own last sc (n + length mine.0) mine.1 ss in
          let after_there = list_blocks clauses_there own_there last sc (n + length mine.0) theirs.1 ts in
          subst (λ m. AlikeDrawn (mine.0 ++ after.0, after.1) (theirs.0 ++ (list_blocks clauses_there own_there last sc (n + m) theirs.1 ts).0, (list_blocks clauses_there own_there last sc (n + m) theirs.1 ts).1)) (sym long)
          (record { blocks = blocks_both mine.0 theirs.0 after.0 after_there.0 r.blocks k.blocks; commands = k.commands })
