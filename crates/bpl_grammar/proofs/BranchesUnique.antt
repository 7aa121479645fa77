-- Blocks, `if` and `while` that lexemes spell are those that are read.
use Rattle.std.specs.Prelude.{◌≡◌, ℕ, ◌+◌, Bool, false, ◌&&◌, cond, List, [], ◌∷◌, drop, codes, IsTrue, Ok}
use Rattle.std.proofs.Common.{refl, ap, sym, ◌∙◌}
use Rattle.bpl_grammar.proofs.Booleans.{none_of as neither_two, no_and_first as and_none, no_and_second as and_false, and_both}
use Rattle.bv_base.specs.declared.place.Place.{Place}
use Rattle.bpl_ast.specs.Statement.{Guard, Invariant, Stmt, Action, branches, loop, Branches, branch, otherwise, no_branch, Stmts}
use Rattle.bpl_ast.specs.StmtView.{stmts_of, branches_from}
use Rattle.bpl_grammar.specs.Lexeme.{Lexeme}
use Rattle.bpl_grammar.specs.Judge.{Narrow}
use Rattle.bpl_grammar.specs.Terminal.{Terminal, fixed, is, sees, sees_any, apart}
use Rattle.bpl_grammar.specs.Reading.{Read, read_as, read_fixed, repeated}
use Rattle.bpl_grammar.specs.ReadStatements.{stmt_firsts, guarded_with, invs_with, block_with, branch_with, branches_with, last_with, if_with, while_with}
use Rattle.bpl_grammar.specs.Statements as s
use Rattle.bpl_grammar.proofs.AgreeStatements as agree
use Rattle.bpl_grammar.proofs.Found.{same_found, followed_ok, read_as_ok}
use Rattle.bpl_grammar.proofs.TypeTrees.{placed}
use Rattle.bpl_grammar.proofs.Items.{Items, none, next, items_ok}
use Rattle.bpl_grammar.proofs.GuardsUnique.{guard_sure, invs_sure}
use Rattle.bpl_grammar.proofs.Suffixes.{takes_suffix, narrow_suffix}
use Rattle.bpl_grammar.proofs.Spelled.{chosen, passed, other, token_rest}
use Rattle.bpl_grammar.proofs.Unique.{quiet_behind, repeated_ends}
use Rattle.bpl_grammar.proofs.Sure.{closed_rest}

abbrev pub else_word : Terminal
else_word = fixed (codes "else")

abbrev else_if : List Lexeme → Bool
else_if us = sees else_word us && sees (fixed (codes "if")) (drop 1 us)

pub block_open : {ls us : List Lexeme} {ss : Stmts} → s.Block placed ls us ss → IsTrue (sees (fixed (codes "{")) ls)
block_open (s.Block.block i d j) = i

pub if_open : {ls us : List Lexeme} {bs : Branches} → s.If placed ls us bs → IsTrue (sees (fixed (codes "if")) ls)
if_open (s.If.alone i g d) = i
if_open (s.If.else_if i g d j r) = i
if_open (s.If.else_block i g d j r) = i

pub seen_apart : (c d : Terminal) (ls : List Lexeme) → IsTrue (apart c d) → IsTrue (sees c ls) → sees d ls ≡ false
seen_apart c d [] a h = refl
seen_apart c d (t ∷ ts) a h = other c d t h a

module _ (room n : ℕ) (total : n + room ≡ 200) (inner : List Lexeme → Read (List Stmt))
    (inner_sure : (ls us vs : List Lexeme) (ss : Stmts) (ys : List Stmt) → Narrow ls → s.List' placed ls us ss → inner ls ≡ Ok (ys, vs) → sees_any stmt_firsts us ≡ false → sees else_word us ≡ false → (us ≡ vs) × (ss ≡ stmts_of ys)) where
  -- Block = "{" {Stmt} "}"
  pub block_sure : (ls us vs : List Lexeme) (ss : Stmts) (ys : List Stmt) → Narrow ls → s.Block placed ls us ss → block_with room inner ls ≡ Ok (ys, vs) → (us ≡ vs) × (ss ≡ stmts_of ys)
  unfolding block_with
  block_sure [] us vs ss ys w d h = elim d [ ]
  block_sure (t ∷ ts) us vs ss ys w (s.Block.block {u = u} i d j) h =
      let f = followed_ok (read_fixed (codes "{") (t ∷ ts)) _ (ys, vs) h in
      let b = token_rest (fixed (codes "{")) t ts (t ∷ ts) f.rest f.first refl f.reads in
      let g = followed_ok (inner f.rest) _ (ys, vs) f.then in
      let o = inner_sure ts (u ∷ us) g.rest ss g.first w.1 d (ap inner b ∙ g.reads) (quiet_behind (fixed (codes "}")) stmt_firsts (u ∷ us) refl j) (other (fixed (codes "}")) else_word u j refl) in
      let k = closed_rest (fixed (codes "}")) u us g.rest vs g.first ys o.0 g.then in
      (k.0, o.1 ∙ ap stmts_of k.1)

  narrow_block : {ls us : List Lexeme} {ss : Stmts} → Narrow ls → s.Block placed ls us ss → Narrow us
  narrow_block w d = narrow_suffix (takes_suffix (agree.takes_block placed d)) w

  narrow_guard : {ls us : List Lexeme} {g : Guard} → Narrow ls → s.Guard' placed ls us g → Narrow us
  narrow_guard w d = narrow_suffix (takes_suffix (agree.takes_guard placed d)) w

  -- "if" "(" Guard ")" Block
  branch_sure : (t : Lexeme) (ts mid us vs : List Lexeme) (g : Guard) (ss : Stmts) (b : Place × (Guard × List Stmt)) → Narrow ts → s.Guard' placed ts mid g → s.Block placed mid us ss → branch_with room inner (t ∷ ts) ≡ Ok (b, vs)
      → (us ≡ vs) × (b.0 ≡ t.place) × (g ≡ b.1.0) × (ss ≡ stmts_of b.1.1)
  unfolding branch_with
  branch_sure t ts mid us vs g ss b w d e h =
      let f = followed_ok (read_fixed (codes "if") (t ∷ ts)) _ (b, vs) h in
      let a = token_rest (fixed (codes "if")) t ts (t ∷ ts) f.rest f.first refl f.reads in
      let k = followed_ok (guarded_with room f.rest) _ (b, vs) f.then in
      let o = guard_sure room n total ts mid k.rest g k.first w d (ap (guarded_with room) a ∙ k.reads) in
      let r = read_as_ok _ (block_with room inner k.rest) b vs k.then in
      let z = block_sure mid us vs ss r.value (narrow_guard w d) e (ap (block_with room inner) o.0 ∙ r.reads) in
      (z.0, ap (λ p. p.0) (sym r.is), o.1 ∙ ap (λ p. p.1.0) r.is, z.1 ∙ ap (λ p. stmts_of p.1.1) r.is)

  built : (p : Place) (b : Place × (Guard × List Stmt)) (g : Guard) (ss : Stmts) (l m : Branches) → b.0 ≡ p → g ≡ b.1.0 → ss ≡ stmts_of b.1.1 → l ≡ m → branch p g ss l ≡ branch b.0 b.1.0 (stmts_of b.1.1) m
  built p b g ss l m x y z q = cc (x, y, z, q)

  abbrev behind_else : List Lexeme → Read (Place × (Guard × List Stmt))
  behind_else us = branch_with room inner (drop 1 us)

  -- what follows the first branch
  if_from : (ls us rest after vs : List Lexeme) (bs l : Branches) (b : Place × (Guard × List Stmt)) (cs : List (Place × (Guard × List Stmt))) → Narrow ls → s.If placed ls us bs → branch_with room inner ls ≡ Ok (b, rest) → Items else_if behind_else rest after cs → else_if after ≡ false
      → last_with room inner after ≡ Ok (l, vs) → sees else_word us ≡ false → (us ≡ vs) × (bs ≡ branches_from (b ∷ cs) l)
  unfolding last_with
  if_from [] us rest after vs bs l b cs w d h r q k z = elim d [ ]
  if_from (t ∷ ts) us rest after vs bs l b cs w (s.If.alone {us = mid} {g = g} {ss = ss} i d e) h r q k z =
      let o = branch_sure t ts mid us rest g ss b w.1 d e h in
      let r' = rw (← o.0) at r in
      ended us cs r' k (λ x. built t.place b g ss no_branch l o.1 o.2 o.3 x) z
    where
      ended : (us : List Lexeme) (cs : List (Place × (Guard × List Stmt))) → Items else_if behind_else us after cs → cond (sees else_word after) (read_as (λ ss. otherwise (stmts_of ss)) (block_with room inner (drop 1 after))) (Ok (no_branch, after)) ≡ Ok (l, vs)
          → (no_branch ≡ l → branch t.place g ss no_branch ≡ branch b.0 b.1.0 (stmts_of b.1.1) l) → sees else_word us ≡ false → (us ≡ vs) × (branch t.place g ss no_branch ≡ branches_from (b ∷ cs) l)
      ended us [] none k x z =
          let e = same_found no_branch l after vs (passed (sees else_word after) _ _ (l, vs) z k) in
          (e.1, x e.0)
      ended us (c ∷ cs) (next j y r) k x z = absurd (cc (j, and_none (sees else_word us) (sees (fixed (codes "if")) (drop 1 us)) z))
  if_from (t ∷ ts) us rest after vs bs l b cs w (s.If.else_if {u = u} {us = mid} {vs = other_if} {g = g} {ss = ss} {bs = more} i d e j r) h x q k z =
      let o = branch_sure t ts mid (u ∷ other_if) rest g ss b w.1 d e h in
      let x' = rw (← o.0) at x in
      further after (if_open r) cs x' q (narrow_block (narrow_guard w.1 d) e).1 (λ m y. built t.place b g ss more m o.1 o.2 o.3 y) (λ again c cs v a y. if_from other_if us again after vs more l c cs v r a y q k z)
    where
      further : (after : List Lexeme) → IsTrue (sees (fixed (codes "if")) other_if) → (cs : List (Place × (Guard × List Stmt))) → Items else_if behind_else (u ∷ other_if) after cs → else_if after ≡ false → Narrow other_if → ((m : Branches) → more ≡ m → branch t.place g ss more ≡ branch b.0 b.1.0 (stmts_of b.1.1) m)
          → ((again : List Lexeme) (c : Place × (Guard × List Stmt)) (cs : List (Place × (Guard × List Stmt))) → Narrow other_if → branch_with room inner other_if ≡ Ok (c, again) → Items else_if behind_else again after cs → (us ≡ vs) × (more ≡ branches_from (c ∷ cs) l))
          → (us ≡ vs) × (branch t.place g ss more ≡ branches_from (b ∷ cs) l)
      further after f [] none q v y ih = absurd (cc (and_both (sees else_word (u ∷ other_if)) (sees (fixed (codes "if")) other_if) j f, q))
      further after f (c ∷ cs) (next {rest = again} p a y') q v y ih =
          let o = ih again c cs v a y' in
          (o.0, y (branches_from (c ∷ cs) l) o.1)
  if_from (t ∷ ts) us rest after vs bs l b cs w (s.If.else_block {u = u} {us = mid} {vs = last} {g = g} {ss = ss} {rs = rs} i d e j r) h x q k z =
      let o = branch_sure t ts mid (u ∷ last) rest g ss b w.1 d e h in
      let x' = rw (← o.0) at x in
      ended after cs x' k (narrow_block (narrow_guard w.1 d) e).1 (λ m y. built t.place b g ss (otherwise rs) m o.1 o.2 o.3 y)
    where
      ended : (after : List Lexeme) (cs : List (Place × (Guard × List Stmt))) → Items else_if behind_else (u ∷ last) after cs → cond (sees else_word after) (read_as (λ ss. otherwise (stmts_of ss)) (block_with room inner (drop 1 after))) (Ok (no_branch, after)) ≡ Ok (l, vs) → Narrow last
          → ((m : Branches) → otherwise rs ≡ m → branch t.place g ss (otherwise rs) ≡ branch b.0 b.1.0 (stmts_of b.1.1) m) → (us ≡ vs) × (branch t.place g ss (otherwise rs) ≡ branches_from (b ∷ cs) l)
      ended after [] none k v y =
          let c = read_as_ok _ (block_with room inner last) l vs (chosen (sees else_word (u ∷ last)) _ _ (l, vs) j k) in
          let o = block_sure last us vs rs c.value v r c.reads in
          (o.0, y l (ap otherwise o.1 ∙ c.is))
      ended after (c ∷ cs) (next p a y') k v y = absurd (cc (p, and_false (sees else_word (u ∷ last)) (sees (fixed (codes "if")) last) (seen_apart (fixed (codes "{")) (fixed (codes "if")) last refl (block_open r))))

  pub if_sure : (ls us vs : List Lexeme) (bs : Branches) (a : Action) → Narrow ls → s.If placed ls us bs → if_with room inner ls ≡ Ok (a, vs) → sees else_word us ≡ false → (us ≡ vs) × (branches bs ≡ a)
  unfolding if_with branches_with
  if_sure ls us vs bs a w d h z =
      let f = followed_ok (branches_with room inner ls) _ (a, vs) h in
      let r = read_as_ok _ (last_with room inner f.rest) a vs f.then in
      let g = followed_ok (branch_with room inner ls) _ (f.first, f.rest) f.reads in
      let m = read_as_ok _ (repeated else_if behind_else g.rest) f.first f.rest g.then in
      let o = if_from ls us g.rest f.rest vs bs r.value g.first m.value w d g.reads (items_ok else_if behind_else g.rest f.rest m.value m.reads) (repeated_ends else_if behind_else g.rest f.rest m.value m.reads) r.reads z in
      (o.0, ap branches (o.1 ∙ ap (λ cs. branches_from cs r.value) m.is) ∙ r.is)

  -- "while" "(" Guard ")" {Inv} Block
  pub while_sure : (t : Lexeme) (ts us vs ws xs : List Lexeme) (g : Guard) (is : List Invariant) (ss : Stmts) (a : Action) → Narrow ts → s.Guard' placed ts us g → s.Invs placed us vs is → s.Block placed vs ws ss → while_with room inner (t ∷ ts) ≡ Ok (a, xs) → (ws ≡ xs) × (loop g is ss ≡ a)
  unfolding while_with
  while_sure t ts us vs ws xs g is ss a w d e b h =
      let f = followed_ok (read_fixed (codes "while") (t ∷ ts)) _ (a, xs) h in
      let c = token_rest (fixed (codes "while")) t ts (t ∷ ts) f.rest f.first refl f.reads in
      let k = followed_ok (guarded_with room f.rest) _ (a, xs) f.then in
      let o = guard_sure room n total ts us k.rest g k.first w d (ap (guarded_with room) c ∙ k.reads) in
      let l = followed_ok (invs_with room k.rest) _ (a, xs) k.then in
      let no_inv = neither_two (sees (fixed (codes "free")) vs) (sees (fixed (codes "invariant")) vs) (seen_apart (fixed (codes "{")) (fixed (codes "free")) vs refl (block_open b)) (seen_apart (fixed (codes "{")) (fixed (codes "invariant")) vs refl (block_open b)) in
      let p = invs_sure room n total us vs l.rest is l.first (narrow_guard w d) e (ap (invs_with room) o.0 ∙ l.reads) no_inv in
      let r = read_as_ok _ (block_with room inner l.rest) a xs l.then in
      let z = block_sure vs ws xs ss r.value (narrow_suffix (takes_suffix (agree.invs_run placed e)) (narrow_guard w d)) b (ap (block_with room inner) p.0 ∙ r.reads) in
      (z.0, three g k.first is l.first ss (stmts_of r.value) o.1 p.1 z.1 ∙ r.is)
    where
      three : (a b : Guard) (c d : List Invariant) (e f : Stmts) → a ≡ b → c ≡ d → e ≡ f → loop a c e ≡ loop b d f
      three a b c d e f x y z = cc (x, y, z)
