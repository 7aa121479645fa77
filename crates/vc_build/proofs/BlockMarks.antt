-- The marks of a body's graph are those of its text.
use Rattle.std.specs.Prelude.{◌≡◌, refl, ⊤, ℕ, ◌+◌, ◌≤◌, nat_lt, Bool, true, false, cond, List, [], ◌∷◌, ◌++◌, map, length, Option, Some, None}
use Rattle.std.specs.List.{AllByRecursion}
use Rattle.std.proofs.Common.{ap, sym, subst, ◌∙◌, arith}
use Rattle.std.proofs.lemmas.Bool.Decides.{nat_tests}
use Rattle.std.proofs.lemmas.List.{append-nil, append_assoc}
use Rattle.logic_core.specs.Tree.{Tree}
use Rattle.flow_core.specs.declared.mark.GoalKind.{GoalKind}
use Rattle.flow_core.specs.declared.mark.GoalKind.TheVariants.{InvariantEntry, InvariantKept}
use Rattle.flow_core.specs.declared.mark.Mark.{Mark}
use Rattle.flow_core.specs.declared.command.Command.{Command}
use Rattle.flow_core.specs.declared.command.Command.TheVariants.{Assert, Assume, Assign, Havoc}
use Rattle.flow_core.specs.declared.block.Block.{Block}
use Rattle.flow_core.specs.declared.block.Invariant.{Invariant}
use Rattle.flow_core.specs.Reader.{command_of}
use Rattle.flow_core.specs.Graph.{block_at}
use Rattle.flow_core.specs.Run.{arrival_kind}
use Rattle.bv_base.specs.declared.place.Place.{Place}
use Rattle.bpl_model.specs.Module.{Name, Guard, Stmt, assert, assume, havoc, assign, call, if_else, while, break, return, goto, labelled, Stmts, no_stmts, stmt, Proc, Module}
use Rattle.bpl_model.specs.Numbering.{first_own}
use Rattle.bpl_model.specs.Clauses.{clauses_of}
use Rattle.bpl_model.specs.Contract.{end_checks}
use Rattle.bpl_blocks.specs.Targets.{size, list_size}
use Rattle.bpl_blocks.specs.Blocks.{Scope, leaves, behind_break, block, enter, pass_by, assume_all, stmt_blocks, list_blocks, at_entry, body_blocks}
use Rattle.bpl_blocks.proofs.PlainSits.{Sits, sits_left, sits_right, sits_itself, sized, list_sized}
use Rattle.bpl_blocks.proofs.PlainEdges.{then_made, else_made, body_made, if_parts, head_block, while_parts}
use Rattle.vc_build.specs.Marks.{marks_read, invariant_marks, stmt_marks, list_marks}
use Rattle.vc_build.proofs.GraphMarks.{marks_in, marks_both, read_marks, head_marks, edge_marks, graph_marks, graph_both}

-- calls are replaced before
abbrev pub none_called : Place → ℕ → List Mark
none_called at q = []

abbrev pub own_marks : Stmt → List Mark
own_marks s = stmt_marks none_called s

abbrev pub own_list : Stmts → List Mark
own_list ss = list_marks none_called ss

assumed_unmarked : (Es : List Tree) → marks_in (assume_all Es) ≡ []
assumed_unmarked [] = refl
assumed_unmarked (E ∷ Es) = assumed_unmarked Es

enter_unmarked : (g : Guard) → marks_in (enter g) ≡ []
enter_unmarked None = refl
enter_unmarked (Some E) = refl

pass_unmarked : (g : Guard) → marks_in (pass_by g) ≡ []
pass_unmarked None = refl
pass_unmarked (Some E) = refl

-- ---- the first block that a statement makes is no head

abbrev Starts : List Block → Type 0
Starts [] = ⊤
Starts (k ∷ ks) = k.head ≡ None

starts_both : (xs ys : List Block) → Starts xs → Starts ys → Starts (xs ++ ys)
starts_both [] ys s t = t
starts_both (x ∷ xs) ys s t = s

module _ (clauses : List ℕ → List Tree) (own last : ℕ) where
  stmt_starts : (s : Stmt) (ls : List Name) (sc : List Scope) (n : ℕ) (cs : List Command) → Starts (stmt_blocks clauses own last ls sc n cs s).0
  stmt_starts (assert mark E) ls sc n cs = tt
  stmt_starts (assume at E) ls sc n cs = tt
  stmt_starts (havoc at xs) ls sc n cs = tt
  stmt_starts (assign at ps) ls sc n cs = tt
  stmt_starts (call at q es xs) ls sc n cs = tt
  stmt_starts (if_else at has_else g ss ts) ls sc n cs = refl
  stmt_starts (while at g is ss) ls sc n cs = refl
  stmt_starts (break at l) ls sc n cs = refl
  stmt_starts (return at) ls sc n cs = refl
  stmt_starts (goto at to) ls sc n cs = tt
  stmt_starts (labelled new s) ls sc n cs = stmt_starts s (new ++ ls) sc n cs

  list_starts : (ss : Stmts) (sc : List Scope) (n : ℕ) (cs : List Command) → Starts (list_blocks clauses own last sc n cs ss).0
  list_starts no_stmts sc n cs = tt
  list_starts (stmt s ss) sc n cs =
      let r = stmt_blocks clauses own last [] sc n cs s in
      let q = list_blocks clauses own last sc (n + length r.0) r.1 ss in
      starts_both r.0 q.0 (stmt_starts s [] sc n cs) (list_starts ss sc (n + length r.0) r.1)

-- ---- marks one after another

if_joined : (ms us vs xs : List Mark) → xs ≡ (us ++ []) ++ ((vs ++ []) ++ []) → ((ms ++ []) ++ xs) ++ [] ≡ ms ++ (us ++ vs)
if_joined ms us vs xs e = append-nil ((ms ++ []) ++ xs) ∙ (λ i. append-nil ms i ++ (e ∙ (λ j. append-nil us j ++ (append-nil (vs ++ []) ∙ append-nil vs) j)) i)

while_joined : (ms es us ks : List Mark) → ((ms ++ (es ++ [])) ++ ((us ++ (ks ++ [])) ++ [])) ++ [] ≡ ms ++ (es ++ (us ++ ks))
while_joined ms es us ks =
    append-nil ((ms ++ (es ++ [])) ++ ((us ++ (ks ++ [])) ++ []))
    ∙ (λ i. (ms ++ append-nil es i) ++ (append-nil (us ++ (ks ++ [])) ∙ ap (λ xs. us ++ xs) (append-nil ks)) i)
    ∙ append_assoc ms es (us ++ ks)

module _ (clauses : List ℕ → List Tree) (own last : ℕ) (blocks : List Block) where
  abbrev NoHead : ℕ → Type 0
  NoHead b = (block_at blocks b).head ≡ None

  abbrev LeadOut : List Scope → Type 0
  LeadOut sc = AllByRecursion (λ (s : Scope). NoHead s.behind) sc

  no_head : (b : ℕ) (k : Block) → block_at blocks b ≡ k → k.head ≡ None → NoHead b
  no_head b k e h = ap (λ (x : Block). x.head) e ∙ h

  -- blocks sit from this number on, so many, and none behind them is a head
  sits_start : (n a : ℕ) (ks : List Block) → length ks ≡ a → Sits blocks n ks → Starts ks → NoHead (n + a) → NoHead n
  sits_start n a [] e s t h = let same : n + a ≡ n = omega (e, arith) in subst NoHead same h
  sits_start n a (k ∷ ks) e s t h = no_head n k s.0 t

  to_none : (b c : ℕ) → NoHead c → edge_marks blocks b (c ∷ []) ≡ []
  to_none b c h = ap (λ o. head_marks (arrival_kind b c) o ++ []) h

  to_neither : (b c d : ℕ) → NoHead c → NoHead d → edge_marks blocks b (c ∷ d ∷ []) ≡ []
  to_neither b c d h k = λ i. head_marks (arrival_kind b c) (h i) ++ (head_marks (arrival_kind b d) (k i) ++ [])

  -- a run of blocks, one more, and then others
  piece : (b : ℕ) (xs : List Block) (cs : List Command) (next : List ℕ) (rest : List Block)
      → graph_marks blocks b (xs ++ block cs next ∷ rest) ≡ ((graph_marks blocks b xs ++ marks_in cs) ++ edge_marks blocks (b + length xs) next) ++ graph_marks blocks (b + length xs + 1) rest
  piece b xs cs next rest =
      let front = graph_marks blocks b xs in
      let edges = edge_marks blocks (b + length xs) next in
      let back = graph_marks blocks (b + length xs + 1) rest in
      graph_both blocks b xs (block cs next ∷ rest)
      ∙ sym (append_assoc front (marks_in cs ++ edges) back)
      ∙ ap (λ ms. ms ++ back) (sym (append_assoc front (marks_in cs) edges))

  module _ (first : NoHead 0) (end : NoHead last) where
    behind : (sc : List Scope) (l : Option Name) → LeadOut sc → NoHead (behind_break sc l)
    behind [] l h = first
    behind (s ∷ sc) l h = by (leaves l s) (behind sc l h.1)
      where
        by : (b : Bool) → NoHead (behind_break sc l) → NoHead (cond b s.behind (behind_break sc l))
        by true k = h.0
        by false k = k

    ends_there : (b c : ℕ) (cs : List Command) → NoHead c → graph_marks blocks b (block cs (c ∷ []) ∷ []) ++ [] ≡ marks_in cs ++ []
    ends_there b c cs h = append-nil ((marks_in cs ++ edge_marks blocks b (c ∷ [])) ++ []) ∙ append-nil (marks_in cs ++ edge_marks blocks b (c ∷ [])) ∙ ap (λ ms. marks_in cs ++ ms) (to_none b c h)

    below_next : (n : ℕ) → nat_lt n (n + 1) ≡ true
    below_next n = grind (arith, nat_tests)

    not_below : (a b : ℕ) → b ≤ a → nat_lt a b ≡ false
    not_below a b h = grind (arith, nat_tests, h)

    -- to the head of a loop, from before it and from its body
    to_head : (b h : ℕ) (t : Bool) (n : ℕ) (is : List Invariant) (ss : Stmts) → nat_lt b h ≡ t → block_at blocks h ≡ head_block clauses own last blocks n is ss → edge_marks blocks b (h ∷ []) ≡ invariant_marks (cond t InvariantEntry InvariantKept) is ++ []
    to_head b h t n is ss e at = λ i. head_marks (cond (e i) InvariantEntry InvariantKept) (at i).head ++ []

    mutual
      stmt_marked : (s : Stmt) (ls : List Name) (sc : List Scope) (n : ℕ) (cs : List Command) → Sits blocks n (stmt_blocks clauses own last ls sc n cs s).0 → NoHead (n + size s) → LeadOut sc
          → graph_marks blocks n (stmt_blocks clauses own last ls sc n cs s).0 ++ marks_in (stmt_blocks clauses own last ls sc n cs s).1 ≡ marks_in cs ++ own_marks s
      stmt_marked (assert mark E) ls sc n cs h e o = marks_both cs (Assert mark E ∷ [])
      stmt_marked (assume at E) ls sc n cs h e o = marks_both cs (Assume E ∷ [])
      stmt_marked (havoc at xs) ls sc n cs h e o = marks_both cs (Havoc xs ∷ assume_all (clauses xs)) ∙ ap (λ ms. marks_in cs ++ ms) (assumed_unmarked (clauses xs))
      stmt_marked (assign at ps) ls sc n cs h e o = marks_both cs (Assign ps ∷ [])
      stmt_marked (call at q es xs) ls sc n cs h e o = sym (append-nil (marks_in cs))
      stmt_marked (if_else at has_else g ss ts) ls sc n cs h e o =
          let x = n + 1 + list_size ss + 1 in
          let j = x + list_size ts + 1 in
          let scopes : List Scope = record { labels = ls; is_loop = false; behind = j } ∷ sc in
          let r = then_made clauses own last blocks ls sc n g ss ts in
          let q = else_made clauses own last blocks ls sc n g ss ts in
          let p = if_parts clauses own last blocks ls sc n cs at has_else g ss ts h in
          let join : NoHead j = let same : n + size (if_else at has_else g ss ts) ≡ j = omega arith in subst NoHead same e in
          let left_end = no_head (n + 1 + list_size ss) (block r.1 (j ∷ [])) p.left_end refl in
          let right_end = no_head (x + list_size ts) (block q.1 (j ∷ [])) p.right_end refl in
          let left = sits_start (n + 1) (list_size ss) r.0 (list_sized clauses own last scopes (n + 1) (enter g) ss) p.left (list_starts clauses own last ss scopes (n + 1) (enter g)) left_end in
          let right = sits_start x (list_size ts) q.0 (list_sized clauses own last scopes x (pass_by g) ts) p.right (list_starts clauses own last ts scopes x (pass_by g)) right_end in
          let first_list = list_marked ss scopes (n + 1) (enter g) p.left left_end (join, o) ∙ ap (λ ms. ms ++ own_list ss) (enter_unmarked g) in
          let second_list = list_marked ts scopes x (pass_by g) p.right right_end (join, o) ∙ ap (λ ms. ms ++ own_list ts) (pass_unmarked g) in
          let second : graph_marks blocks x (q.0 ++ block q.1 (j ∷ []) ∷ []) ≡ (own_list ts ++ []) ++ []
          = piece x q.0 q.1 (j ∷ []) [] ∙ (λ i. (second_list i ++ to_none (x + length q.0) j join i) ++ []) in
          let both : graph_marks blocks (n + 1) (r.0 ++ block r.1 (j ∷ []) ∷ (q.0 ++ block q.1 (j ∷ []) ∷ [])) ≡ (own_list ss ++ []) ++ ((own_list ts ++ []) ++ [])
          = piece (n + 1) r.0 r.1 (j ∷ []) (q.0 ++ block q.1 (j ∷ []) ∷ [])
          ∙ (λ i. (first_list i ++ to_none (n + 1 + length r.0) j join i) ++ graph_marks blocks (n + 1 + list_sized clauses own last scopes (n + 1) (enter g) ss i + 1) (q.0 ++ block q.1 (j ∷ []) ∷ []))
          ∙ ap (λ ms. (own_list ss ++ []) ++ ms) second in
          (λ i. ((marks_in cs ++ to_neither n (n + 1) x left right i) ++ graph_marks blocks (n + 1) (r.0 ++ block r.1 (j ∷ []) ∷ (q.0 ++ block q.1 (j ∷ []) ∷ []))) ++ [])
          ∙ if_joined (marks_in cs) (own_list ss) (own_list ts) (graph_marks blocks (n + 1) (r.0 ++ block r.1 (j ∷ []) ∷ (q.0 ++ block q.1 (j ∷ []) ∷ []))) both
      stmt_marked (while at g is ss) ls sc n cs h e o =
          let x = n + 1 + 1 + list_size ss + 1 in
          let scopes : List Scope = record { labels = ls; is_loop = true; behind = x + 1 } ∷ sc in
          let r = body_made clauses own last blocks ls sc n g ss in
          let p = while_parts clauses own last blocks ls sc n cs at g is ss h in
          let after : NoHead (x + 1) = let same : n + size (while at g is ss) ≡ x + 1 = omega arith in subst NoHead same e in
          let exit : NoHead x = let same : n + 1 + 1 + list_size ss + 1 + 0 ≡ x = omega arith in subst NoHead same (no_head (n + 1 + 1 + list_size ss + 1 + 0) (block (pass_by g) ((x + 1) ∷ [])) p.right_end refl) in
          let body_end = no_head (n + 1 + 1 + list_size ss) (block r.1 ((n + 1) ∷ [])) p.left_end refl in
          let long = list_sized clauses own last scopes (n + 1 + 1) (enter g) ss in
          let body = sits_start (n + 1 + 1) (list_size ss) r.0 long p.left (list_starts clauses own last ss scopes (n + 1 + 1) (enter g)) body_end in
          let inside = list_marked ss scopes (n + 1 + 1) (enter g) p.left body_end (after, o) ∙ ap (λ ms. ms ++ own_list ss) (enter_unmarked g) in
          let entered : edge_marks blocks n ((n + 1) ∷ []) ≡ invariant_marks InvariantEntry is ++ [] = to_head n (n + 1) true n is ss (below_next n) p.first in
          let again : edge_marks blocks (n + 1 + 1 + length r.0) ((n + 1) ∷ []) ≡ invariant_marks InvariantKept is ++ []
          = to_head (n + 1 + 1 + length r.0) (n + 1) false n is ss (not_below (n + 1 + 1 + length r.0) (n + 1) (omega arith)) p.first in
          let last_one : graph_marks blocks (n + 1 + 1 + length r.0 + 1) (block (pass_by g) ((x + 1) ∷ []) ∷ []) ≡ []
          = (λ i. (pass_unmarked g i ++ to_none (n + 1 + 1 + length r.0 + 1) (x + 1) after i) ++ []) in
          let whole : graph_marks blocks (n + 1 + 1) (r.0 ++ block r.1 ((n + 1) ∷ []) ∷ block (pass_by g) ((x + 1) ∷ []) ∷ []) ≡ (own_list ss ++ (invariant_marks InvariantKept is ++ [])) ++ []
          = piece (n + 1 + 1) r.0 r.1 ((n + 1) ∷ []) (block (pass_by g) ((x + 1) ∷ []) ∷ []) ∙ (λ i. (inside i ++ again i) ++ last_one i) in
          (λ i. ((marks_in cs ++ entered i) ++ (to_neither (n + 1) (n + 1 + 1) x body exit i ++ whole i)) ++ [])
          ∙ while_joined (marks_in cs) (invariant_marks InvariantEntry is) (own_list ss) (invariant_marks InvariantKept is)
      stmt_marked (break at l) ls sc n cs h e o = ends_there n (behind_break sc l) cs (behind sc l o)
      stmt_marked (return at) ls sc n cs h e o = ends_there n last cs end
      stmt_marked (goto at to) ls sc n cs h e o = sym (append-nil (marks_in cs))
      stmt_marked (labelled new s) ls sc n cs h e o = stmt_marked s (new ++ ls) sc n cs h e o

      list_marked : (ss : Stmts) (sc : List Scope) (n : ℕ) (cs : List Command) → Sits blocks n (list_blocks clauses own last sc n cs ss).0 → NoHead (n + list_size ss) → LeadOut sc
          → graph_marks blocks n (list_blocks clauses own last sc n cs ss).0 ++ marks_in (list_blocks clauses own last sc n cs ss).1 ≡ marks_in cs ++ own_list ss
      list_marked no_stmts sc n cs h e o = sym (append-nil (marks_in cs))
      list_marked (stmt s ss) sc n cs h e o =
          let r = stmt_blocks clauses own last [] sc n cs s in
          let k = n + length r.0 in
          let q = list_blocks clauses own last sc k r.1 ss in
          let one : length r.0 ≡ size s = sized clauses own last [] sc n cs s in
          let rest = sits_right blocks n r.0 q.0 h in
          let later : NoHead (k + list_size ss) = let same : n + (size s + list_size ss) ≡ k + list_size ss = omega (one, arith) in subst NoHead same e in
          let here : NoHead k = sits_start k (list_size ss) q.0 (list_sized clauses own last sc k r.1 ss) rest (list_starts clauses own last ss sc k r.1) later in
          let this = stmt_marked s [] sc n cs (sits_left blocks n r.0 q.0 h) (ap (λ a. (block_at blocks (n + a)).head) (sym one) ∙ here) o in
          let others = list_marked ss sc k r.1 rest later o in
          ap (λ ms. ms ++ marks_in q.1) (graph_both blocks n r.0 q.0)
          ∙ append_assoc (graph_marks blocks n r.0) (graph_marks blocks k q.0) (marks_in q.1)
          ∙ ap (λ ms. graph_marks blocks n r.0 ++ ms) others
          ∙ sym (append_assoc (graph_marks blocks n r.0) (marks_in r.1) (own_list ss))
          ∙ ap (λ ms. ms ++ own_list ss) this
          ∙ append_assoc (marks_in cs) (own_marks s) (own_list ss)

-- of a whole body
pub body_marked : (m : Module) (p : Proc) (ss : Stmts) → graph_marks (body_blocks m p ss) 0 (body_blocks m p ss) ≡ own_list ss ++ marks_read (end_checks p.specs)
body_marked m p ss =
    let last = list_size ss + 1 in
    let cs = assume_all (at_entry m p) in
    let ends = map command_of (end_checks p.specs) in
    let r = list_blocks (clauses_of m p) (first_own m p) last [] 0 cs ss in
    let rest = block r.1 (last ∷ []) ∷ block ends [] ∷ [] in
    let all = body_blocks m p ss in
    let long = list_sized (clauses_of m p) (first_own m p) last [] 0 cs ss in
    let sits = sits_itself all in
    let left = sits_left all 0 r.0 rest sits in
    let right = sits_right all 0 r.0 rest sits in
    let ending : (block_at all (0 + list_size ss)).head ≡ None = ap (λ a. (block_at all (0 + a)).head) (sym long) ∙ ap (λ (k : Block). k.head) right.0 in
    let final : (block_at all last).head ≡ None = let same : last ≡ 0 + length r.0 + 1 = omega (long, arith) in ap (λ a. (block_at all a).head) same ∙ ap (λ (k : Block). k.head) right.1.0 in
    let first = sits_start (clauses_of m p) (first_own m p) last all 0 (list_size ss) r.0 long left (list_starts (clauses_of m p) (first_own m p) last ss [] 0 cs) ending in
    let inside = list_marked (clauses_of m p) (first_own m p) last all first final ss [] 0 cs left ending tt ∙ ap (λ ms. ms ++ own_list ss) (assumed_unmarked (at_entry m p)) in
    piece (clauses_of m p) (first_own m p) last all 0 r.0 r.1 (last ∷ []) (block ends [] ∷ [])
    ∙ (λ i. (inside i ++ to_none (clauses_of m p) (first_own m p) last all (0 + length r.0) last final i) ++ ((read_marks (end_checks p.specs) i ++ []) ++ []))
    ∙ (λ i. append-nil (own_list ss) i ++ (append-nil (marks_read (end_checks p.specs) ++ []) ∙ append-nil (marks_read (end_checks p.specs))) i)
