-- Labels, blocks, `if` and `while` are read back.
use Rattle.std.specs.Prelude.{◌≡◌, ℕ, zero, suc, ◌<◌, ◌≤◌, Bool, true, false, ◌&&◌, List, [], ◌∷◌, ◌++◌, drop, length, IsTrue, Ok, option_map}
use Rattle.std.proofs.Common.{refl, arith}
use Rattle.bv_base.specs.declared.place.Place.{Place}
use Rattle.bpl_ast.specs.Place.{Name}
use Rattle.bpl_ast.specs.Statement.{Guard, Invariant, Stmt, stmt, Action, branches, loop, Branches, branch, otherwise, no_branch, Stmts, no_stmts, next as next_stmt}
use Rattle.bpl_ast.specs.StmtView.{stmts_of, branches_from}
use Rattle.canonical_text.specs.Glyph.{plain, word, closing}
use Rattle.canonical_text.specs.Lines.{guard, labels}
use Rattle.bpl_grammar.specs.Lexeme.{Lexeme}
use Rattle.bpl_grammar.specs.Reading.{place_of, repeated, sees_one}
use Rattle.bpl_grammar.specs.ReadStatements.{stmt_firsts, read_label, read_labels, guarded_with, invs_with, block_with, branch_with, branches_with, last_with, if_with, while_with, action_with, stmt_with, stmts_with, read_stmts}
use Rattle.canonical_text.specs.Same.{start, bare, bare_name, bare_names}
use Rattle.canonical_text.specs.SameStatement.{bare_stmt, bare_stmts, bare_branches}
use Rattle.canonical_text.specs.WrittenExpression.{IsName, AreNames}
use Rattle.canonical_text.specs.WrittenStatement.{IsGuard, AreInvariants, is_branch}
use Rattle.canonical_text.specs.StatementNestings.{guard_depth, stmt_depth, stmts_depth, block_depth, branches_depth}
use Rattle.canonical_text.specs.Tokens.{action_tokens, stmt_tokens, stmts_tokens, block_tokens, others_tokens, invariants_tokens}
use Rattle.canonical_text.specs.Spelled.{token, Spelled, done, next}
use Rattle.canonical_text.specs.Ahead.{sees_text}
use Rattle.canonical_text.proofs.Parts.{split, spelled_length, Items, stop, step, items_repeated}
use Rattle.canonical_text.proofs.TypeReads.{name_seen, name_read}
use Rattle.canonical_text.proofs.SimpleReads.{guard_reads, invs_read, begins_inv}
use Rattle.canonical_text.proofs.ActionReads.{is_label, Begins, begins_name, ActionReads}

-- labels

record LabelItems (ls us : List Lexeme) (ns : List Name) : Type 0 where
  pub values : List Name
  pub reads : Items is_label read_label ls us values
  pub same : bare_names values ≡ bare_names ns
  pub front : Begins ls
  pub shorter : length us ≤ length ls

label_seen : (p q : Place) (n : Name) (us : List Lexeme) → IsName n → is_label (token p (plain n.text) ∷ token q (closing ":") ∷ us) ≡ true
label_seen p q n us h = rw (name_seen p n (token q (closing ":") ∷ us) h) refl

label_read : (p q : Place) (n : Name) (us : List Lexeme) → IsName n → read_label (token p (plain n.text) ∷ token q (closing ":") ∷ us) ≡ Ok (record { text = n.text; at = p }, us)
unfolding read_label
label_read p q n us h = rw (name_read p n (token q (closing ":") ∷ us) h) refl

label_items : (ns : List Name) (ls us : List Lexeme) → AreNames ns → is_label us ≡ false → Begins us → Spelled (labels ns) ls us → LabelItems ls us ns
label_items [] ls us w z b done = record { values = []; reads = stop z; same = refl; front = b; shorter = omega arith }
label_items (n ∷ ns) ls us w z b (next p (next {ls = rest} q g)) =
    let a = label_items ns rest us w.1 z b g in
    record {
      values = record { text = n.text; at = p } ∷ a.values;
      reads = step {x = record { text = n.text; at = p }} {xs = a.values} (label_seen p q n rest w.0) (label_read p q n rest w.0) (omega arith) a.reads;
      same = λ i. bare_name n ∷ a.same i;
      front = begins_name p n (token q (closing ":") ∷ rest) w.0;
      shorter = omega (arith, a.shorter);
    }

pub record StmtRead (room : ℕ) (ls us : List Lexeme) (s : Stmt) : Type 0 where
  pub value : Stmt
  pub reads : stmt_with room (read_stmts room) ls ≡ Ok (value, us)
  pub same : bare_stmt value ≡ bare_stmt s
  pub front : Begins ls
  pub shorter : length us < length ls

abbrev pub StmtReads : Stmt → Type 0
StmtReads s = (room : ℕ) (ls us : List Lexeme) → stmt_depth s ≤ room → sees_text "else" us ≡ false → Spelled (stmt_tokens s) ls us → StmtRead room ls us s

stmt_read : (room : ℕ) (ls ms us : List Lexeme) (ns : List Name) (a : Action) → repeated is_label read_label ls ≡ Ok (ns, ms) → action_with room (read_stmts room) ms ≡ Ok (a, us) → stmt_with room (read_stmts room) ls ≡ Ok (stmt ns (place_of ms) a, us)
unfolding stmt_with read_labels
stmt_read room ls ms us ns a h k = rw (h, k) refl

pub stmt_from : (ns : List Name) (p : Place) (a : Action) → AreNames ns → ActionReads a → StmtReads (stmt ns p a)
stmt_from ns p a w r room ls us d e g =
    let q = split (labels ns) (action_tokens a) g in
    let b = r room q.middle us d e q.second in
    let c = label_items ns ls q.middle w b.plain b.front q.first in
    record {
      value = stmt c.values (place_of q.middle) b.value;
      reads = stmt_read room ls q.middle us c.values b.value (items_repeated _ _ ls q.middle c.values c.reads) b.reads;
      same = λ i. stmt (c.same i) start (b.same i);
      front = c.front;
      shorter = omega (arith, c.shorter, b.shorter);
    }

-- statements one after another

abbrev pub EachStmt : Stmts → Type 0
EachStmt no_stmts = Unit {0}
EachStmt (next_stmt s ss) = StmtReads s × EachStmt ss

pub record StmtItems (room : ℕ) (ls us : List Lexeme) (ss : Stmts) : Type 0 where
  pub values : List Stmt
  pub reads : Items (sees_one stmt_firsts) (stmt_with room (read_stmts room)) ls us values
  pub same : bare_stmts (stmts_of values) ≡ bare_stmts ss
  pub other : sees_text "else" ls ≡ false
  pub local : sees_text "var" ls ≡ false

pub stmt_items : (ss : Stmts) (room : ℕ) (ls us : List Lexeme) → EachStmt ss → stmts_depth ss ≤ room → sees_one stmt_firsts us ≡ false → sees_text "else" us ≡ false → sees_text "var" us ≡ false → Spelled (stmts_tokens ss) ls us → StmtItems room ls us ss
stmt_items no_stmts room ls us e d z o v done = record { values = []; reads = stop z; same = refl; other = o; local = v }
stmt_items (next_stmt s ss) room ls us e d z o v g =
    let q = split (stmt_tokens s) (stmts_tokens ss) g in
    let b = stmt_items ss room q.middle us e.1 (omega (arith, d)) z o v q.second in
    let a = e.0 room ls q.middle (omega (arith, d)) b.other q.first in
    record {
      values = a.value ∷ b.values;
      reads = step {x = a.value} {xs = b.values} a.front.begins a.reads a.shorter b.reads;
      same = λ i. next_stmt (a.same i) (b.same i);
      other = a.front.other;
      local = a.front.local;
    }

-- blocks

pub record BlockRead (room : ℕ) (ls us : List Lexeme) (ss : Stmts) : Type 0 where
  pub values : List Stmt
  pub reads : block_with room (read_stmts room) ls ≡ Ok (values, us)
  pub same : bare_stmts (stmts_of values) ≡ bare_stmts ss

block_read : (room : ℕ) (p q : Place) (ls us : List Lexeme) (ss : List Stmt) → read_stmts room ls ≡ Ok (ss, token q (word "}") ∷ us) → block_with room (read_stmts room) (token p (word "{") ∷ ls) ≡ Ok (ss, us)
unfolding block_with
block_read room p q ls us ss h = rw h refl

pub stmts_ok : (room : ℕ) (ls us : List Lexeme) (ss : List Stmt) → Items (sees_one stmt_firsts) (stmt_with room (read_stmts room)) ls us ss → read_stmts (suc room) ls ≡ Ok (ss, us)
unfolding stmts_with
stmts_ok room ls us ss i = items_repeated _ _ ls us ss i

no_stmts_read : (room : ℕ) (q : Place) (us : List Lexeme) → read_stmts room (token q (word "}") ∷ us) ≡ Ok ([], token q (word "}") ∷ us)
no_stmts_read zero q us = refl
no_stmts_read (suc room) q us = stmts_ok room (token q (word "}") ∷ us) (token q (word "}") ∷ us) [] (stop refl)

pub block_reads : (ss : Stmts) (room : ℕ) (ls us : List Lexeme) → EachStmt ss → block_depth ss ≤ room → Spelled (block_tokens ss) ls us → BlockRead room ls us ss
block_reads no_stmts room ls us e d (next p (next q done)) = record { values = []; reads = block_read room p q _ us [] (no_stmts_read room q us); same = refl }
block_reads (next_stmt s ss) zero ls us e d g = absurd (omega arith)
block_reads (next_stmt s ss) (suc room) ls us e d (next {ls = rest} p g) =
    let f = split (stmt_tokens s ++ stmts_tokens ss) (word "}" ∷ []) g in
    closed p rest f.middle f.first f.second
  where
    closed : (p : Place) (ls ms : List Lexeme) → Spelled (stmt_tokens s ++ stmts_tokens ss) ls ms → Spelled (word "}" ∷ []) ms us → BlockRead (suc room) (token p (word "{") ∷ ls) us (next_stmt s ss)
    closed p ls ms f (next q done) =
        let a = stmt_items (next_stmt s ss) room ls (token q (word "}") ∷ us) e (omega (arith, d)) refl refl refl f in
        record { values = a.values; reads = block_read (suc room) p q ls us a.values (stmts_ok room ls (token q (word "}") ∷ us) a.values a.reads); same = a.same }

-- branches

abbrev Arm : Type 0
Arm = Place × (Guard × List Stmt)

record ArmRead (room : ℕ) (ls us : List Lexeme) (g : Guard) (ss : Stmts) : Type 0 where
  pub at : Place
  pub guard : Guard
  pub body : List Stmt
  pub reads : branch_with room (read_stmts room) ls ≡ Ok ((at, (guard, body)), us)
  pub same_guard : option_map bare guard ≡ option_map bare g
  pub same_body : bare_stmts (stmts_of body) ≡ bare_stmts ss

arm_read : (room : ℕ) (p : Place) (ls ms us : List Lexeme) (g : Guard) (ss : List Stmt) → guarded_with room ls ≡ Ok (g, ms) → block_with room (read_stmts room) ms ≡ Ok (ss, us) → branch_with room (read_stmts room) (token p (word "if") ∷ ls) ≡ Ok ((p, (g, ss)), us)
unfolding branch_with
arm_read room p ls ms us g ss h k = rw (h, k) refl

arm_reads : (g : Guard) (ss : Stmts) (room : ℕ) (p : Place) (ls ms us : List Lexeme) → IsGuard g → EachStmt ss → guard_depth g ≤ room → block_depth ss ≤ room → Spelled (guard g) ls ms → Spelled (block_tokens ss) ms us → ArmRead room (token p (word "if") ∷ ls) us g ss
arm_reads g ss room p ls ms us w e d b f h =
    let a = guard_reads g room ls ms w d f in
    let c = block_reads ss room ms us e b h in
    record { at = p; guard = a.value; body = c.values; reads = arm_read room p ls ms us a.value c.values a.reads c.reads; same_guard = a.same; same_body = c.same }

abbrev begins_else : List Lexeme → Bool
begins_else us = sees_text "else" us && sees_text "if" (drop 1 us)

record OthersRead (room : ℕ) (ls us : List Lexeme) (bs : Branches) : Type 0 where
  pub values : List Arm
  pub last : Branches
  pub middle : List Lexeme
  pub reads : Items begins_else (λ vs. branch_with room (read_stmts room) (drop 1 vs)) ls middle values
  pub reads_last : last_with room (read_stmts room) middle ≡ Ok (last, us)
  pub same : bare_branches (branches_from values last) ≡ bare_branches bs

abbrev pub EachBranch : Branches → Type 0
EachBranch (branch p g ss bs) = IsGuard g × EachStmt ss × EachBranch bs
EachBranch (otherwise ss) = EachStmt ss
EachBranch no_branch = Unit {0}

no_last : (room : ℕ) (us : List Lexeme) → sees_text "else" us ≡ false → last_with room (read_stmts room) us ≡ Ok (no_branch, us)
unfolding last_with
no_last room us h = rw h refl

else_last : (room : ℕ) (p : Place) (ls us : List Lexeme) (ss : List Stmt) → block_with room (read_stmts room) ls ≡ Ok (ss, us) → last_with room (read_stmts room) (token p (word "else") ∷ ls) ≡ Ok (otherwise (stmts_of ss), us)
unfolding last_with
else_last room p ls us ss h = rw h refl

no_else : (us : List Lexeme) → sees_text "else" us ≡ false → begins_else us ≡ false
no_else us h = rw h refl

block_first : (ss : Stmts) (p : Place) (ls us : List Lexeme) → Spelled (block_tokens ss) ls us → begins_else (token p (word "else") ∷ ls) ≡ false
block_first no_stmts p ls us (next q g) = refl
block_first (next_stmt s ss) p ls us (next q g) = refl

others_read : (bs : Branches) (room : ℕ) (ls us : List Lexeme) → EachBranch bs → branches_depth bs ≤ room → sees_text "else" us ≡ false → Spelled (others_tokens bs) ls us → OthersRead room ls us bs
others_read no_branch room ls us e d z done = record { values = []; last = no_branch; middle = us; reads = stop (no_else us z); reads_last = no_last room us z; same = refl }
others_read (otherwise ss) room ls us e d z (next {ls = rest} p g) =
    let a = block_reads ss room rest us e d g in
    record { values = []; last = otherwise (stmts_of a.values); middle = token p (word "else") ∷ rest; reads = stop (block_first ss p rest us g); reads_last = else_last room p rest us a.values a.reads; same = λ i. otherwise (a.same i) }
others_read (branch o g ss bs) room ls us e d z (next p (next {ls = rest} q h)) =
    let f = split (guard g) (block_tokens ss ++ others_tokens bs) h in
    let k = split (block_tokens ss) (others_tokens bs) f.second in
    let a = arm_reads g ss room q rest f.middle k.middle e.0 e.1 (omega (arith, d)) (omega (arith, d)) f.first k.first in
    let b = others_read bs room k.middle us e.2 (omega (arith, d)) z k.second in
    record {
      values = (a.at, (a.guard, a.body)) ∷ b.values;
      last = b.last;
      middle = b.middle;
      reads = step {ms = k.middle} {us = b.middle} {x = (a.at, (a.guard, a.body))} {xs = b.values} refl a.reads (omega (arith, spelled_length f.first, spelled_length k.first)) b.reads;
      reads_last = b.reads_last;
      same = λ i. branch start (a.same_guard i) (a.same_body i) (b.same i);
    }

if_read : (room : ℕ) (p : Place) (ls ms mid us : List Lexeme) (a : Arm) (bs : List Arm) (last : Branches) → branch_with room (read_stmts room) (token p (word "if") ∷ ls) ≡ Ok (a, ms) → repeated begins_else (λ vs. branch_with room (read_stmts room) (drop 1 vs)) ms ≡ Ok (bs, mid)
    → last_with room (read_stmts room) mid ≡ Ok (last, us) → action_with room (read_stmts room) (token p (word "if") ∷ ls) ≡ Ok (branches (branches_from (a ∷ bs) last), us)
unfolding action_with if_with branches_with
if_read room p ls ms mid us a bs last h k l = rw (h, k, l) refl

pub if_reads : (bs : Branches) → IsTrue (is_branch bs) → EachBranch bs → ActionReads (branches bs)
if_reads no_branch b e room ls us d z g = absurd (cc)
if_reads (otherwise ss) b e room ls us d z g = absurd (cc)
if_reads (branch o g ss bs) t e room ls us d z (next {ls = rest} p h) =
    let f = split (guard g) (block_tokens ss ++ others_tokens bs) h in
    let k = split (block_tokens ss) (others_tokens bs) f.second in
    let a = arm_reads g ss room p rest f.middle k.middle e.0 e.1 (omega (arith, d)) (omega (arith, d)) f.first k.first in
    let b = others_read bs room k.middle us e.2 (omega (arith, d)) z k.second in
    record {
      value = branches (branches_from ((a.at, (a.guard, a.body)) ∷ b.values) b.last);
      reads = if_read room p rest k.middle b.middle us (a.at, (a.guard, a.body)) b.values b.last a.reads (items_repeated _ _ k.middle b.middle b.values b.reads) b.reads_last;
      same = λ i. branches (branch start (a.same_guard i) (a.same_body i) (b.same i));
      plain = refl;
      front = record { begins = refl; other = refl; local = refl };
      shorter = omega (arith, spelled_length h);
    }

-- loops

while_read : (room : ℕ) (p : Place) (ls ms mid us : List Lexeme) (g : Guard) (is : List Invariant) (ss : List Stmt) → guarded_with room ls ≡ Ok (g, ms) → invs_with room ms ≡ Ok (is, mid) → block_with room (read_stmts room) mid ≡ Ok (ss, us)
    → action_with room (read_stmts room) (token p (word "while") ∷ ls) ≡ Ok (loop g is (stmts_of ss), us)
unfolding action_with while_with
while_read room p ls ms mid us g is ss h k l = rw (h, k, l) refl

block_no_inv : (ss : Stmts) (ls us : List Lexeme) → Spelled (block_tokens ss) ls us → begins_inv ls ≡ false
block_no_inv no_stmts ls us (next q g) = refl
block_no_inv (next_stmt s ss) ls us (next q g) = refl

pub while_reads : (g : Guard) (is : List Invariant) (ss : Stmts) → IsGuard g → AreInvariants is → EachStmt ss → ActionReads (loop g is ss)
while_reads g is ss w v e room ls us d z (next {ls = rest} p h) =
    let f = split (guard g) (invariants_tokens is ++ block_tokens ss) h in
    let k = split (invariants_tokens is) (block_tokens ss) f.second in
    let a = guard_reads g room rest f.middle w (omega (arith, d)) f.first in
    let b = invs_read is room f.middle k.middle v (omega (arith, d)) (block_no_inv ss k.middle us k.second) k.first in
    let c = block_reads ss room k.middle us e (omega (arith, d)) k.second in
    record {
      value = loop a.value b.values (stmts_of c.values);
      reads = while_read room p rest f.middle k.middle us a.value b.values c.values a.reads b.reads c.reads;
      same = λ i. loop (a.same i) (b.same i) (c.same i);
      plain = refl;
      front = record { begins = refl; other = refl; local = refl };
      shorter = omega (arith, spelled_length h);
    }
