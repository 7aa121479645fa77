-- Blocks and branches that are read are the trees that the lexemes spell.
use Rattle.std.specs.Prelude.{◌≡◌, ℕ, ◌+◌, Bool, ◌&&◌, List, [], ◌∷◌, drop, codes, Ok}
use Rattle.bpl_grammar.proofs.Booleans.{and_first}
use Rattle.bv_base.specs.declared.place.Place.{Place}
use Rattle.bpl_ast.specs.Statement.{Guard, Stmt, Action, Branches, branch, otherwise, no_branch, Stmts}
use Rattle.bpl_ast.specs.StmtView.{stmts_of, branches_from}
use Rattle.bpl_grammar.specs.Lexeme.{Lexeme}
use Rattle.bpl_grammar.specs.Terminal.{fixed, sees}
use Rattle.bpl_grammar.specs.Reading.{Read, place_of, read_fixed}
use Rattle.bpl_grammar.specs.ReadStatements.{guarded_with, block_with, branch_with, branches_with, last_with, if_with}
use Rattle.bpl_grammar.specs.Types.{Is}
use Rattle.bpl_grammar.specs.Statements as s
use Rattle.bpl_grammar.proofs.Found.{same_found, followed_ok, read_as_ok, token_ok, seen_ok}
use Rattle.bpl_grammar.proofs.TypeTrees.{placed}
use Rattle.bpl_grammar.proofs.Items.{by_cond, Items, none, next, items_ok}
use Rattle.bpl_grammar.proofs.StatementTrees.{closed_ok}
use Rattle.bpl_grammar.proofs.GuardTrees.{guarded_ok}

shown_block : (t u : Lexeme) (ls mid us : List Lexeme) (ss : Stmts) → Is "{" t → ls ≡ t ∷ mid → s.List' placed mid (u ∷ us) ss → Is "}" u → s.Block placed ls us ss
shown_block t u ls mid us ss i e d j = rw e (s.Block.block i d j)

data BranchAt : List Lexeme → List Lexeme → Place × (Guard × List Stmt) → Type 0 where
  one : {t : Lexeme} {ls mid us : List Lexeme} {g : Guard} {ss : List Stmt} → Is "if" t → s.Guard' placed ls mid g → s.Block placed mid us (stmts_of ss) → BranchAt (t ∷ ls) us (t.place, (g, ss))

shown_branch : (t : Lexeme) (ls rest mid us : List Lexeme) (g : Guard) (ss : List Stmt) → Is "if" t → ls ≡ t ∷ rest → s.Guard' placed rest mid g → s.Block placed mid us (stmts_of ss) → BranchAt ls us (place_of ls, (g, ss))
shown_branch t ls rest mid us g ss i e d b = rw e (one i d b)

data LastAt : List Lexeme → List Lexeme → Branches → Type 0 where
  no_last : {ls : List Lexeme} → LastAt ls ls no_branch
  last : {t : Lexeme} {ls us : List Lexeme} {ss : Stmts} → Is "else" t → s.Block placed ls us ss → LastAt (t ∷ ls) us (otherwise ss)

shown_last : (t : Lexeme) (ls rest us : List Lexeme) (ss : Stmts) → Is "else" t → ls ≡ t ∷ rest → s.Block placed rest us ss → LastAt ls us (otherwise ss)
shown_last t ls rest us ss i e b = rw e (last i b)

only_branch : (ls mid us : List Lexeme) (b : Place × (Guard × List Stmt)) (l : Branches) → BranchAt ls mid b → LastAt mid us l → s.If placed ls us (branch b.0 b.1.0 (stmts_of b.1.1) l)
only_branch ls mid us b l (one i g k) no_last = s.If.alone i g k
only_branch ls mid us b l (one i g k) (last j r) = s.If.else_block i g k j r

more_branches : (u : Lexeme) (ls mid rest us : List Lexeme) (b : Place × (Guard × List Stmt)) (bs : Branches) → BranchAt ls mid b → Is "else" u → mid ≡ u ∷ rest → s.If placed rest us bs → s.If placed ls us (branch b.0 b.1.0 (stmts_of b.1.1) bs)
more_branches u ls mid rest us b bs (one i g k) j e r =
    let k' = rw e at k in
    s.If.else_if i g k' j r

abbrev begins_else : List Lexeme → Bool
begins_else ls = sees (fixed (codes "else")) ls && sees (fixed (codes "if")) (drop 1 ls)

module _ (room n : ℕ) (total : n + room ≡ 200) (inner : List Lexeme → Read (List Stmt)) (law : (ls us : List Lexeme) (ss : List Stmt) → inner ls ≡ Ok (ss, us) → s.List' placed ls us (stmts_of ss)) where
  -- Block = "{" {Stmt} "}"
  pub block_ok : (ls us : List Lexeme) (ss : List Stmt) → block_with room inner ls ≡ Ok (ss, us) → s.Block placed ls us (stmts_of ss)
  unfolding block_with
  block_ok ls us ss h =
      let f = followed_ok (read_fixed (codes "{") ls) _ (ss, us) h in
      let o = token_ok (fixed (codes "{")) ls f.rest f.reads in
      let g = followed_ok (inner f.rest) _ (ss, us) f.then in
      let c = closed_ok (fixed (codes "}")) g.first g.rest us ss g.then in
      let d = rw c.there at (law f.rest g.rest g.first g.reads) in
      rw (← c.same) (shown_block o.token c.token ls f.rest us (stmts_of g.first) o.is o.there d c.is)

  branch_ok : (ls us : List Lexeme) (b : Place × (Guard × List Stmt)) → branch_with room inner ls ≡ Ok (b, us) → BranchAt ls us b
  unfolding branch_with
  branch_ok ls us b h =
      let f = followed_ok (read_fixed (codes "if") ls) _ (b, us) h in
      let o = token_ok (fixed (codes "if")) ls f.rest f.reads in
      let g = followed_ok (guarded_with room f.rest) _ (b, us) f.then in
      let r = read_as_ok _ (block_with room inner g.rest) b us g.then in
      rw (← r.is) (shown_branch o.token ls f.rest g.rest us g.first r.value o.is o.there (guarded_ok room n total f.rest g.rest g.first g.reads) (block_ok g.rest us r.value r.reads))

  last_ok : (ls us : List Lexeme) (l : Branches) → last_with room inner ls ≡ Ok (l, us) → LastAt ls us l
  unfolding last_with
  last_ok ls us l h = by_cond (sees (fixed (codes "else")) ls) _ _ (l, us) h
      (λ i q. let o = seen_ok (fixed (codes "else")) ls i in
      let r = read_as_ok _ (block_with room inner (drop 1 ls)) l us q in
      rw (← r.is) (shown_last o.token ls (drop 1 ls) us (stmts_of r.value) o.is o.there (block_ok (drop 1 ls) us r.value r.reads)))
      (λ i q. let e = same_found no_branch l ls us q in
      rw (← e.0, ← e.1) no_last)

  ifs_from : (ls rest mid us : List Lexeme) (b : Place × (Guard × List Stmt)) (bs : List (Place × (Guard × List Stmt))) (l : Branches) → BranchAt ls rest b → Items begins_else (λ vs. branch_with room inner (drop 1 vs)) rest mid bs → LastAt mid us l
      → s.If placed ls us (branches_from (b ∷ bs) l)
  ifs_from ls rest mid us b [] l d none k = only_branch ls rest us b l d k
  ifs_from ls rest mid us b (c ∷ bs) l d (next {rest = after} i h r) k =
      let o = seen_ok (fixed (codes "else")) rest (and_first (sees (fixed (codes "else")) rest) (sees (fixed (codes "if")) (drop 1 rest)) i) in
      more_branches o.token ls rest (drop 1 rest) us b (branches_from (c ∷ bs) l) d o.is o.there (ifs_from (drop 1 rest) after mid us c bs l (branch_ok (drop 1 rest) after c h) r k)

  all_branches : (ls rest mid us : List Lexeme) (b : Place × (Guard × List Stmt)) (bs all : List (Place × (Guard × List Stmt))) (l : Branches) → BranchAt ls rest b → Items begins_else (λ vs. branch_with room inner (drop 1 vs)) rest mid bs → LastAt mid us l
      → b ∷ bs ≡ all → s.If placed ls us (branches_from all l)
  all_branches ls rest mid us b bs all l d r k q = rw (← q) (ifs_from ls rest mid us b bs l d r k)

  record IsBranches (ls us : List Lexeme) (bs : List (Place × (Guard × List Stmt))) : Type 0 where
    first : Place × (Guard × List Stmt)
    rest : List Lexeme
    others : List (Place × (Guard × List Stmt))
    reads : BranchAt ls rest first
    behind : Items begins_else (λ vs. branch_with room inner (drop 1 vs)) rest us others
    is : first ∷ others ≡ bs

  branches_ok : (ls us : List Lexeme) (bs : List (Place × (Guard × List Stmt))) → branches_with room inner ls ≡ Ok (bs, us) → IsBranches ls us bs
  unfolding branches_with
  branches_ok ls us bs h =
      let f = followed_ok (branch_with room inner ls) _ (bs, us) h in
      let r = read_as_ok _ _ bs us f.then in
      record { first = f.first; rest = f.rest; others = r.value; reads = branch_ok ls f.rest f.first f.reads; behind = items_ok begins_else (λ vs. branch_with room inner (drop 1 vs)) f.rest us r.value r.reads; is = r.is }

  pub if_ok : (ls : List Lexeme) (a : Action) (us : List Lexeme) → if_with room inner ls ≡ Ok (a, us) → s.Action' placed ls us a
  unfolding if_with
  if_ok ls a us h =
      let f = followed_ok (branches_with room inner ls) _ (a, us) h in
      let b = branches_ok ls f.rest f.first f.reads in
      let r = read_as_ok _ (last_with room inner f.rest) a us f.then in
      let d = all_branches ls b.rest f.rest us b.first b.others f.first r.value b.reads b.behind (last_ok f.rest us r.value r.reads) b.is in
      rw (← r.is) (s.Action'.of_if d)
