-- Statements without blocks are read back.
use Rattle.std.specs.Prelude.{◌≡◌, ℕ, ◌<◌, ◌≤◌, Bool, true, false, ◌&&◌, codes, List, [], ◌∷◌, ◌++◌, drop, length, IsTrue, Ok, Option, Some, None}
use Rattle.std.proofs.Common.{refl, ◌∙◌, arith}
use Rattle.bpl_grammar.proofs.Booleans.{no_and_second as and_no}
use Rattle.bv_base.specs.declared.place.Place.{Place}
use Rattle.bpl_lex.specs.Token.{id}
use Rattle.bpl_ast.specs.Place.{Name}
use Rattle.bpl_ast.specs.Tree.{Expr, Exprs, no_exprs, item}
use Rattle.bpl_ast.specs.ExprView.{exprs_of}
use Rattle.bpl_ast.specs.Statement.{Target, Action, assert, assume, havoc, assign, call, «break», «return», goto}
use Rattle.canonical_text.specs.Glyph.{plain, word, opening, closing, prefix}
use Rattle.canonical_text.specs.Expression.{more_names, names, listed as listed_tokens}
use Rattle.canonical_text.specs.Lines.{semicolon, targets, more_targets, entries}
use Rattle.bpl_grammar.specs.Lexeme.{Lexeme}
use Rattle.bpl_grammar.specs.Terminal.{kind, fixed, sees}
use Rattle.bpl_grammar.specs.Reading.{read_ids, sees_one}
use Rattle.bpl_grammar.specs.ReadExpressions.{read_inner, args_with}
use Rattle.bpl_grammar.specs.ReadStatements.{stmt_firsts, read_havoc, read_aim, read_break, read_return, read_goto, read_outs, read_attrs, formula_with, targets_with, values_with, assign_with, call_with, action_with, read_stmts}
use Rattle.canonical_text.specs.Same.{bare_name, bare_exprs}
use Rattle.canonical_text.specs.SameStatement.{bare_action}
use Rattle.canonical_text.specs.WrittenExpression.{IsName, AreNames, SomeNames, some_exprs, IsWritten, AreWritten}
use Rattle.canonical_text.specs.WrittenStatement.{SomeTargets, IsWrittenAction}
use Rattle.canonical_text.specs.Nestings.{enclosed_depth}
use Rattle.canonical_text.specs.StatementNestings.{values_depth, action_depth}
use Rattle.canonical_text.specs.Tokens.{action_tokens}
use Rattle.canonical_text.specs.Spelled.{token, Spelled, done, next}
use Rattle.canonical_text.specs.Ahead.{sees_text}
use Rattle.canonical_text.proofs.Parts.{split, spelled_length}
use Rattle.canonical_text.proofs.Levels.{is_unbarred}
use Rattle.canonical_text.proofs.TypeReads.{no_word, name_seen, name_read, names_read}
use Rattle.canonical_text.proofs.AtomReads.{list_reads, no_args, some_args}
use Rattle.canonical_text.proofs.ExpressionReads.{each_reads}
use Rattle.canonical_text.proofs.SimpleReads.{no_attrs, formula_reads, TargetsRead, targets_read, values_read}

abbrev pub is_label : List Lexeme → Bool
is_label us = sees (kind id) us && sees (fixed (codes ":")) (drop 1 us)

-- what a statement begins with
pub record Begins (ls : List Lexeme) : Type 0 where
  pub begins : sees_one stmt_firsts ls ≡ true
  pub other : sees_text "else" ls ≡ false
  pub local : sees_text "var" ls ≡ false

pub record ActionRead (room : ℕ) (ls us : List Lexeme) (a : Action) : Type 0 where
  pub value : Action
  pub reads : action_with room (read_stmts room) ls ≡ Ok (value, us)
  pub same : bare_action value ≡ bare_action a
  pub plain : is_label ls ≡ false
  pub front : Begins ls
  pub shorter : length us < length ls

abbrev pub ActionReads : Action → Type 0
ActionReads a = (room : ℕ) (ls us : List Lexeme) → action_depth a ≤ room → sees_text "else" us ≡ false → Spelled (action_tokens a) ls us → ActionRead room ls us a

name_begins : (p : Place) (n : Name) (us : List Lexeme) → IsName n → sees_one stmt_firsts (token p (plain n.text) ∷ us) ≡ true
name_begins p n us h = rw (name_seen p n us h) refl

pub begins_name : (p : Place) (n : Name) (us : List Lexeme) → IsName n → Begins (token p (plain n.text) ∷ us)
begins_name p n us h = record { begins = name_begins p n us h; other = no_word p n us (codes "else") h; local = no_word p n us (codes "var") h }

-- assert and assume

assert_read : (room : ℕ) (p : Place) (ls us : List Lexeme) (x : Expr) → formula_with room ls ≡ Ok (x, us) → action_with room (read_stmts room) (token p (word "assert") ∷ ls) ≡ Ok (assert x, us)
unfolding action_with
assert_read room p ls us x h = rw h refl

assume_read : (room : ℕ) (p : Place) (ls us : List Lexeme) (x : Expr) → formula_with room ls ≡ Ok (x, us) → action_with room (read_stmts room) (token p (word "assume") ∷ ls) ≡ Ok (assume x, us)
unfolding action_with
assume_read room p ls us x h = rw h refl

pub assert_reads : (x : Expr) → IsWritten x → ActionReads (assert x)
assert_reads x w room ls us d e (next {ls = rest} p g) =
    let a = formula_reads x room rest us w d g in
    record { value = assert a.value; reads = assert_read room p rest us a.value a.reads; same = λ i. assert (a.same i); plain = refl; front = record { begins = refl; other = refl; local = refl }; shorter = omega (arith, spelled_length g) }

pub assume_reads : (x : Expr) → IsWritten x → ActionReads (assume x)
assume_reads x w room ls us d e (next {ls = rest} p g) =
    let a = formula_reads x room rest us w d g in
    record { value = assume a.value; reads = assume_read room p rest us a.value a.reads; same = λ i. assume (a.same i); plain = refl; front = record { begins = refl; other = refl; local = refl }; shorter = omega (arith, spelled_length g) }

-- havoc and goto

havoc_read : (room : ℕ) (p q : Place) (ls us : List Lexeme) (ns : List Name) → read_ids ls ≡ Ok (ns, token q (closing ";") ∷ us) → action_with room (read_stmts room) (token p (word "havoc") ∷ ls) ≡ Ok (havoc ns, us)
unfolding action_with read_havoc
havoc_read room p q ls us ns h = rw h refl

goto_read : (room : ℕ) (p q : Place) (ls us : List Lexeme) (ns : List Name) → read_ids ls ≡ Ok (ns, token q (closing ";") ∷ us) → action_with room (read_stmts room) (token p (word "goto") ∷ ls) ≡ Ok (goto ns, us)
unfolding action_with read_goto
goto_read room p q ls us ns h = rw h refl

pub havoc_reads : (ns : List Name) → SomeNames ns → ActionReads (havoc ns)
havoc_reads ns w room ls us d e (next {ls = rest} p g) =
    let f = split (names ns) semicolon g in
    closed p rest f.middle f.first f.second
  where
    closed : (p : Place) (ls ms : List Lexeme) → Spelled (names ns) ls ms → Spelled semicolon ms us → ActionRead room (token p (word "havoc") ∷ ls) us (havoc ns)
    closed p ls ms f (next q done) =
        let a = names_read ns ls (token q (closing ";") ∷ us) w refl f in
        record { value = havoc a.values; reads = havoc_read room p q ls us a.values a.reads; same = λ i. havoc (a.same i); plain = refl; front = record { begins = refl; other = refl; local = refl }; shorter = omega (arith, spelled_length f) }

pub goto_reads : (ns : List Name) → SomeNames ns → ActionReads (goto ns)
goto_reads ns w room ls us d e (next {ls = rest} p g) =
    let f = split (names ns) semicolon g in
    closed p rest f.middle f.first f.second
  where
    closed : (p : Place) (ls ms : List Lexeme) → Spelled (names ns) ls ms → Spelled semicolon ms us → ActionRead room (token p (word "goto") ∷ ls) us (goto ns)
    closed p ls ms f (next q done) =
        let a = names_read ns ls (token q (closing ";") ∷ us) w refl f in
        record { value = goto a.values; reads = goto_read room p q ls us a.values a.reads; same = λ i. goto (a.same i); plain = refl; front = record { begins = refl; other = refl; local = refl }; shorter = omega (arith, spelled_length f) }

-- break and return

break_read : (room : ℕ) (p q : Place) (us : List Lexeme) → action_with room (read_stmts room) (token p (word "break") ∷ token q (closing ";") ∷ us) ≡ Ok («break» None, us)
unfolding action_with read_break read_aim
break_read room p q us = refl

break_to_read : (room : ℕ) (p q z : Place) (n : Name) (us : List Lexeme) → IsName n → action_with room (read_stmts room) (token p (word "break") ∷ token q (plain n.text) ∷ token z (closing ";") ∷ us) ≡ Ok («break» (Some (record { text = n.text; at = q })), us)
unfolding action_with read_break read_aim
break_to_read room p q z n us h = rw (name_seen q n (token z (closing ";") ∷ us) h, name_read q n (token z (closing ";") ∷ us) h) refl

return_read : (room : ℕ) (p q : Place) (us : List Lexeme) → action_with room (read_stmts room) (token p (word "return") ∷ token q (closing ";") ∷ us) ≡ Ok («return», us)
unfolding action_with read_return
return_read room p q us = refl

pub break_reads : (l : Option Name) → IsWrittenAction («break» l) → ActionReads («break» l)
break_reads None w room ls us d e (next p (next q done)) = record { value = «break» None; reads = break_read room p q us; same = refl; plain = refl; front = record { begins = refl; other = refl; local = refl }; shorter = omega arith }
break_reads (Some n) w room ls us d e (next p (next q (next z done))) =
    record { value = «break» (Some (record { text = n.text; at = q })); reads = break_to_read room p q z n us w; same = refl; plain = refl; front = record { begins = refl; other = refl; local = refl }; shorter = omega arith }

pub return_reads : ActionReads «return»
return_reads room ls us d e (next p (next q done)) = record { value = «return»; reads = return_read room p q us; same = refl; plain = refl; front = record { begins = refl; other = refl; local = refl }; shorter = omega arith }

-- assignments

action_assign : (room : ℕ) (p : Place) (n : Name) (us : List Lexeme) → IsName n → action_with room (read_stmts room) (token p (plain n.text) ∷ us) ≡ assign_with room (token p (plain n.text) ∷ us)
unfolding action_with
action_assign room p n us h =
    rw (
      no_word p n us (codes "assert") h,
      no_word p n us (codes "assume") h,
      no_word p n us (codes "havoc") h,
      no_word p n us (codes "call") h,
      no_word p n us (codes "if") h,
      no_word p n us (codes "while") h,
      no_word p n us (codes "break") h,
      no_word p n us (codes "return") h,
      no_word p n us (codes "goto") h,
    ) refl

assign_read : (room : ℕ) (p q : Place) (ls ms us : List Lexeme) (ts : List Target) (xs : List Expr) → targets_with room ls ≡ Ok (ts, token p (word ":=") ∷ ms) → values_with room ms ≡ Ok (xs, token q (closing ";") ∷ us) → assign_with room ls ≡ Ok (assign ts (exprs_of xs), us)
unfolding assign_with
assign_read room p q ls ms us ts xs h k = rw (h, k) refl

behind_name : (xs : Exprs) (ts : List Target) (ls us : List Lexeme) (p : Place) → Spelled (entries xs ++ more_targets ts) ls (token p (word ":=") ∷ us) → sees_text ":" ls ≡ false
behind_name no_exprs [] ls us p done = refl
behind_name no_exprs (t ∷ ts) ls us p (next q g) = refl
behind_name (item x xs) ts ls us p (next q g) = refl

assigned : (t : Target) (ts : List Target) (xs : Exprs) (room : ℕ) (p q : Place) (ls ms us : List Lexeme) → IsName t.name → TargetsRead room (token p (plain t.name.text) ∷ ls) (token q (word ":=") ∷ ms) (t ∷ ts) → sees_text ":" ls ≡ false → length ms ≤ length ls → IsTrue (some_exprs xs) → AreWritten xs → values_depth xs ≤ room
    → Spelled (listed_tokens xs ++ semicolon) ms us → ActionRead room (token p (plain t.name.text) ∷ ls) us (assign (t ∷ ts) xs)
assigned t ts xs room p q ls ms us n a y l s w d g =
    let f = split (listed_tokens xs) semicolon g in
    closed f.middle f.first f.second
  where
    closed : (end : List Lexeme) → Spelled (listed_tokens xs) ms end → Spelled semicolon end us → ActionRead room (token p (plain t.name.text) ∷ ls) us (assign (t ∷ ts) xs)
    closed end f (next z done) =
        let b = values_read xs room ms (token z (closing ";") ∷ us) s w d refl refl f in
        record {
          value = assign a.values (exprs_of b.values);
          reads = action_assign room p t.name ls n ∙ assign_read room q z _ ms us a.values b.values a.reads b.reads;
          same = λ i. assign (a.same i) (b.same i);
          plain = and_no _ _ y;
          front = begins_name p t.name ls n;
          shorter = omega (arith, l, spelled_length f);
        }

pub assign_reads : (ts : List Target) (xs : Exprs) → SomeTargets ts → IsTrue (some_exprs xs) → AreWritten xs → ActionReads (assign ts xs)
assign_reads [] xs t s w room ls us d e g = absurd t
assign_reads (t ∷ ts) xs a s w room ls us d e g =
    let f = split (targets (t ∷ ts)) (word ":=" ∷ (listed_tokens xs ++ semicolon)) g in
    closed ls f.middle f.first f.second
  where
    closed : (ls ms : List Lexeme) → Spelled (targets (t ∷ ts)) ls ms → Spelled (word ":=" ∷ (listed_tokens xs ++ semicolon)) ms us → ActionRead room ls us (assign (t ∷ ts) xs)
    closed ls ms (next {ls = after} p f) (next {ls = rest} q g) =
        assigned t ts xs room p q after rest us a.0 (targets_read (t ∷ ts) room (token p (plain t.name.text) ∷ after) (token q (word ":=") ∷ rest) a (omega (arith, d)) refl refl (next p f)) (behind_name t.indices ts after rest q f) (omega (arith, spelled_length f)) s w (omega (arith, d)) g

-- calls

call_read : (room : ℕ) (p q z : Place) (f : Name) (ls ms rest us : List Lexeme) (ns : List Name) (xs : List Expr) → IsName f → read_attrs room ls ≡ Ok (tt, ls) → read_outs ls ≡ Ok (ns, token q (prefix f.text) ∷ rest) → args_with room (read_inner room) rest ≡ Ok (xs, token z (closing ";") ∷ us)
    → action_with room (read_stmts room) (token p (word "call") ∷ ls) ≡ Ok (call ns (record { text = f.text; at = q }) (exprs_of xs), us)
unfolding action_with call_with
call_read room p q z f ls ms rest us ns xs w h k l = rw (h, k, name_read q f rest w, l) refl

no_outs : (p q : Place) (f : Name) (ls : List Lexeme) → read_outs (token p (prefix f.text) ∷ token q (opening "(") ∷ ls) ≡ Ok ([], token p (prefix f.text) ∷ token q (opening "(") ∷ ls)
unfolding read_outs
no_outs p q f ls = refl

some_outs : (ls ms : List Lexeme) (p : Place) (ns : List Name) → sees_text "(" (drop 1 ls) ≡ false → read_ids ls ≡ Ok (ns, token p (word ":=") ∷ ms) → read_outs ls ≡ Ok (ns, ms)
unfolding read_outs
some_outs ls ms p ns h k = rw (h, k) refl

record ArgsRead (room : ℕ) (ls us : List Lexeme) (xs : Exprs) : Type 0 where
  pub values : List Expr
  pub reads : args_with room (read_inner room) ls ≡ Ok (values, us)
  pub same : bare_exprs (exprs_of values) ≡ bare_exprs xs

args_read : (xs : Exprs) (room : ℕ) (p : Place) (ls us : List Lexeme) → AreWritten xs → enclosed_depth xs ≤ room → Spelled (listed_tokens xs ++ closing ")" ∷ semicolon) ls us → (z : Place) × ArgsRead room (token p (opening "(") ∷ ls) (token z (closing ";") ∷ us) xs
args_read no_exprs room p ls us w d (next q (next z done)) = (z, record { values = []; reads = no_args room p q (token z (closing ";") ∷ us); same = refl })
args_read (item x xs) room p ls us w d g =
    let f = split (listed_tokens (item x xs)) (closing ")" ∷ semicolon) g in
    closed f.middle f.first f.second
  where
    closed : (ms : List Lexeme) → Spelled (listed_tokens (item x xs)) ls ms → Spelled (closing ")" ∷ semicolon) ms us → (z : Place) × ArgsRead room (token p (opening "(") ∷ ls) (token z (closing ";") ∷ us) (item x xs)
    closed ms f (next q (next z done)) =
        let a = list_reads x xs room ls (token q (closing ")") ∷ token z (closing ";") ∷ us) (each_reads (item x xs) w) d refl refl f in
        (z, record { values = a.values; reads = some_args room p q ls (token z (closing ";") ∷ us) a.values (is_unbarred ls a.unbarred).closed a.reads; same = a.same })

not_brace : (p : Place) (n : Name) (us : List Lexeme) → IsName n → sees_text "{" (token p (plain n.text) ∷ us) ≡ false
not_brace p n us h = no_word p n us (codes "{") h

behind_first : (ns : List Name) (ls us : List Lexeme) (p : Place) → Spelled (more_names ns) ls (token p (word ":=") ∷ us) → sees_text "(" ls ≡ false
behind_first [] ls us p done = refl
behind_first (n ∷ ns) ls us p (next q g) = refl

pub call_reads : (ns : List Name) (f : Name) (xs : Exprs) → AreNames ns → IsName f → AreWritten xs → ActionReads (call ns f xs)
call_reads [] f xs n w wx room ls us d e (next p (next q (next {ls = rest} o g))) =
    let a = args_read xs room o rest us wx d g in
    record {
      value = call [] (record { text = f.text; at = q }) (exprs_of a.1.values);
      reads = call_read room p q a.0 f (token q (prefix f.text) ∷ token o (opening "(") ∷ rest) [] (token o (opening "(") ∷ rest) us [] a.1.values w (no_attrs room _ (not_brace q f (token o (opening "(") ∷ rest) w)) (no_outs q o f rest) a.1.reads;
      same = λ i. call [] (bare_name f) (a.1.same i);
      plain = refl;
      front = record { begins = refl; other = refl; local = refl };
      shorter = omega (arith, spelled_length g);
    }
call_reads (m ∷ ns) f xs n w wx room ls us d e (next {ls = rest} p g) =
    let q = split (names (m ∷ ns) ++ word ":=" ∷ []) (prefix f.text ∷ opening "(" ∷ (listed_tokens xs ++ closing ")" ∷ semicolon)) g in
    let r = split (names (m ∷ ns)) (word ":=" ∷ []) q.first in
    closed p rest r.middle q.middle r.first r.second q.second
  where
    closed : (p : Place) (ls ms mid : List Lexeme) → Spelled (names (m ∷ ns)) ls ms → Spelled (word ":=" ∷ []) ms mid → Spelled (prefix f.text ∷ opening "(" ∷ (listed_tokens xs ++ closing ")" ∷ semicolon)) mid us → ActionRead room (token p (word "call") ∷ ls) us (call (m ∷ ns) f xs)
    closed p ls ms mid (next {ls = after} r h) (next o done) (next q (next {ls = rest} z g)) =
        let a = args_read xs room z rest us wx d g in
        let b = names_read (m ∷ ns) (token r (plain m.text) ∷ after) (token o (word ":=") ∷ token q (prefix f.text) ∷ token z (opening "(") ∷ rest) n refl (next r h) in
        record {
          value = call b.values (record { text = f.text; at = q }) (exprs_of a.1.values);
          reads = call_read room p q a.0 f (token r (plain m.text) ∷ after) [] (token z (opening "(") ∷ rest) us b.values a.1.values w (no_attrs room (token r (plain m.text) ∷ after) (not_brace r m after n.0))
              (some_outs (token r (plain m.text) ∷ after) (token q (prefix f.text) ∷ token z (opening "(") ∷ rest) o b.values (behind_first ns after (token q (prefix f.text) ∷ token z (opening "(") ∷ rest) o h) b.reads) a.1.reads;
          same = λ i. call (b.same i) (bare_name f) (a.1.same i);
          plain = refl;
          front = record { begins = refl; other = refl; local = refl };
          shorter = omega (arith, spelled_length g, spelled_length h);
        }
