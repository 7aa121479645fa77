-- The lines of statements are lines of their tokens, which stand apart.
use Rattle.std.specs.Prelude.{ℕ, ◌+◌, Bool, true, false, List, [], ◌∷◌, ◌++◌, map, IsTrue, Option, Some, None}
use Rattle.std.proofs.Common.{refl, sym, subst, append_assoc, append-nil}
use Rattle.bpl_ast.specs.Place.{Name}
use Rattle.bpl_ast.specs.Tree.{Expr, Exprs, no_exprs, item}
use Rattle.bpl_ast.specs.Statement.{Target, Guard, Invariant, Stmt, stmt, Action, assert, assume, havoc, assign, call, branches, loop, «break», «return», goto, Branches, branch, otherwise, no_branch, Stmts, no_stmts, next}
use Rattle.canonical_text.specs.declared.level.Level.TheVariants.{Equivalence}
use Rattle.canonical_text.specs.Glyph.{Glyph, plain, word, opening, closing, prefix, index, line}
use Rattle.canonical_text.specs.Expression.{names, expression, listed}
use Rattle.canonical_text.specs.Lines.{Lines, semicolon, free_word, entries, more_targets, targets, guard, outs, labels, label, invariant_line, braced, statement, action, chain, others, statements}
use Rattle.canonical_text.specs.WrittenExpression.{IsName, AreNames, IsWritten, AreWritten}
use Rattle.canonical_text.specs.WrittenStatement.{AreTargets, SomeTargets, IsGuard, AreInvariants, is_branch, IsWrittenStmt, IsWrittenAction, AreWrittenBranches, AreWrittenStmts}
use Rattle.canonical_text.specs.Tokens.{formula_tokens, invariants_tokens, stmt_tokens, action_tokens, chain_tokens, others_tokens, block_tokens, stmts_tokens}
use Rattle.canonical_text.specs.Lexed.{AreApart, AreLines, none, more}
use Rattle.canonical_text.proofs.Alone.{IsLoose, loose_name, loose_word}
use Rattle.canonical_text.proofs.Signs.{IsFirst, set_loose, star_loose, open_brace_loose, close_brace_loose, round_loose, square_loose, comma_loose, semicolon_loose, colon_spaced, round_open, index_open, first_name, first_word}
use Rattle.canonical_text.proofs.Apart.{Rest, Good, rest_nil, rest_append, good_append, rest_loose, good_loose, rest_spaced, rest_open, rest_called}
use Rattle.canonical_text.proofs.ApartExprs.{good_names, good_operand, rest_listed, in_round}
use Prim.Native.String.{String}

-- lines put together

apart_of : (gs : List Glyph) → Rest gs → AreApart gs
apart_of gs r = subst AreApart (append-nil gs) (r [] tt)

pub line_then : (n : ℕ) (gs : List Glyph) (ls : Lines) (hs : List Glyph) → Rest gs → AreLines ls hs → AreLines (line n gs ∷ ls) (gs ++ hs)
line_then n gs ls hs r l = more n gs (apart_of gs r) l

pub one_line : (n : ℕ) (gs : List Glyph) → Rest gs → AreLines (line n gs ∷ []) gs
one_line n gs r = subst (AreLines (line n gs ∷ [])) (append-nil gs) (line_then n gs [] [] r none)

pub lines_append : {ks : Lines} {gs : List Glyph} → AreLines ks gs → (ls : Lines) (hs : List Glyph) → AreLines ls hs → AreLines (ks ++ ls) (gs ++ hs)
lines_append none ls hs b = b
lines_append (more {ls = ks} {hs = fs} n gs a l) ls hs b = subst (AreLines (line n gs ∷ (ks ++ ls))) (sym (append_assoc gs fs hs)) (more n gs a (lines_append l ls hs b))

-- parts of lines

good_word : (w : String) (gs : List Glyph) → IsLoose (word w) → IsFirst (word w) → Rest gs → Good (word w ∷ gs)
good_word w gs l f r = good_loose (word w) gs l f r

pub rest_semicolon : Rest semicolon
rest_semicolon = rest_loose (closing ";") [] semicolon_loose rest_nil

pub rest_formula : (x : Expr) → IsWritten x → Rest (formula_tokens x)
rest_formula x w = rest_append (expression x) semicolon (good_operand x w Equivalence None).rest rest_semicolon

pub good_labels : (ns : List Name) (gs : List Glyph) → AreNames ns → Good gs → Good (labels ns ++ gs)
good_labels [] gs w g = g
good_labels (n ∷ ns) gs w g = good_loose (plain n.text) (closing ":" ∷ (labels ns ++ gs)) (loose_name n.text w.0) (first_name n.text false w.0) (rest_spaced (closing ":") (labels ns ++ gs) colon_spaced (good_labels ns gs w.1 g))

rest_entries : (xs : Exprs) → AreWritten xs → Rest (entries xs)
rest_entries no_exprs w = rest_nil
rest_entries (item x xs) w = rest_open index (expression x ++ closing "]" ∷ entries xs) index_open (rest_append (expression x) (closing "]" ∷ entries xs) (good_operand x w.0 Equivalence None).rest (rest_loose (closing "]") (entries xs) square_loose (rest_entries xs w.1)))

rest_more_targets : (ts : List Target) → AreTargets ts → Rest (more_targets ts)
rest_more_targets [] w = rest_nil
rest_more_targets (t ∷ ts) w =
    rest_loose (closing ",") (plain t.name.text ∷ (entries t.indices ++ more_targets ts)) comma_loose
    (rest_loose (plain t.name.text) (entries t.indices ++ more_targets ts) (loose_name t.name.text w.0) (rest_append (entries t.indices) (more_targets ts) (rest_entries t.indices w.1) (rest_more_targets ts w.2)))

good_targets : (ts : List Target) → SomeTargets ts → Good (targets ts)
good_targets [] w = absurd w
good_targets (t ∷ ts) w = good_loose (plain t.name.text) (entries t.indices ++ more_targets ts) (loose_name t.name.text w.0) (first_name t.name.text false w.0) (rest_append (entries t.indices) (more_targets ts) (rest_entries t.indices w.1) (rest_more_targets ts w.2))

rest_guard : (g : Guard) → IsGuard g → Rest (guard g)
rest_guard None w = rest_open (opening "(") (word "*" ∷ closing ")" ∷ []) round_open (rest_loose (word "*") (closing ")" ∷ []) star_loose (rest_loose (closing ")") [] round_loose rest_nil))
rest_guard (Some x) w = in_round (expression x) [] (good_operand x w Equivalence None).rest rest_nil

rest_outs : (ns : List Name) → AreNames ns → Rest (outs ns)
rest_outs [] w = rest_nil
rest_outs (n ∷ ns) w = rest_append (names (n ∷ ns)) (word ":=" ∷ []) (good_names (n ∷ ns) w).rest (rest_loose (word ":=") [] set_loose rest_nil)

rest_label : (l : Option Name) → IsWrittenAction («break» l) → Rest (label l)
rest_label None w = rest_nil
rest_label (Some n) w = rest_loose (plain n.text) [] (loose_name n.text w) rest_nil

pub rest_free : (b : Bool) (gs : List Glyph) → Rest gs → Rest (free_word b ++ gs)
rest_free true gs r = rest_loose (word "free") gs (loose_word "free" refl refl) r
rest_free false gs r = r

invariant_lines : (n : ℕ) (is : List Invariant) → AreInvariants is → AreLines (map (invariant_line n) is) (invariants_tokens is)
invariant_lines n [] w = none
invariant_lines n (i ∷ is) w =
    line_then n (free_word i.free ++ word "invariant" ∷ formula_tokens i.formula) (map (invariant_line n) is) (invariants_tokens is)
    (rest_free i.free (word "invariant" ∷ formula_tokens i.formula) (rest_loose (word "invariant") (formula_tokens i.formula) (loose_word "invariant" refl refl) (rest_formula i.formula w.0))) (invariant_lines n is w.1)

-- statements

pub brace : (n : ℕ) → AreLines (line n (word "}" ∷ []) ∷ []) (word "}" ∷ [])
brace n = one_line n (word "}" ∷ []) (rest_loose (word "}") [] close_brace_loose rest_nil)

block_lines : (n : ℕ) (ss : Stmts) (ls : Lines) → AreLines ls (stmts_tokens ss) → AreLines (braced n ls) (block_tokens ss)
block_lines n no_stmts ls l = line_then n (word "{" ∷ []) (ls ++ line n (word "}" ∷ []) ∷ []) (word "}" ∷ []) (rest_loose (word "{") [] open_brace_loose rest_nil) (lines_append l (line n (word "}" ∷ []) ∷ []) (word "}" ∷ []) (brace n))
block_lines n (next s ss) ls l = line_then n (word "{" ∷ []) (ls ++ line n (word "}" ∷ []) ∷ []) (stmts_tokens (next s ss) ++ word "}" ∷ []) (rest_loose (word "{") [] open_brace_loose rest_nil) (lines_append l (line n (word "}" ∷ []) ∷ []) (word "}" ∷ []) (brace n))

-- a statement of one line
single : (n : ℕ) (ns : List Name) (gs : List Glyph) → AreNames ns → Good gs → AreLines (line n (labels ns ++ gs) ∷ []) (labels ns ++ gs)
single n ns gs w g = one_line n (labels ns ++ gs) (good_labels ns gs w g).rest

-- a statement whose first line is followed by others
headed : (n : ℕ) (ns : List Name) (gs : List Glyph) (ls : Lines) (hs : List Glyph) → AreNames ns → Good gs → AreLines ls hs → AreLines (line n (labels ns ++ gs) ∷ ls) (labels ns ++ (gs ++ hs))
headed n ns gs ls hs w g l = subst (AreLines (line n (labels ns ++ gs) ∷ ls)) (append_assoc (labels ns) gs hs) (line_then n (labels ns ++ gs) ls hs (good_labels ns gs w g).rest l)

good_if : (g : Guard) → IsGuard g → Good (word "if" ∷ guard g)
good_if g w = good_word "if" (guard g) (loose_word "if" refl refl) (first_word "if" refl) (rest_guard g w)

good_call : (ns : List Name) (f : Name) (xs : Exprs) → AreNames ns → IsName f → AreWritten xs → Good (action_tokens (call ns f xs))
good_call ns f xs w v u =
    good_word "call" (outs ns ++ prefix f.text ∷ opening "(" ∷ (listed xs ++ closing ")" ∷ semicolon)) (loose_word "call" refl refl) (first_word "call" refl)
    (rest_append (outs ns) (prefix f.text ∷ opening "(" ∷ (listed xs ++ closing ")" ∷ semicolon)) (rest_outs ns w) (rest_called f.text (opening "(") 40 (listed xs ++ closing ")" ∷ semicolon) v refl refl (in_round (listed xs) semicolon (rest_listed xs u) rest_semicolon)))

mutual
  stmt_lines : (s : Stmt) → IsWrittenStmt s → (n : ℕ) → AreLines (statement n s) (stmt_tokens s)
  stmt_lines (stmt ls p a) h n = action_lines a h.1 n ls h.0

  action_lines : (a : Action) → IsWrittenAction a → (n : ℕ) (ns : List Name) → AreNames ns → AreLines (action n (labels ns) a) (labels ns ++ action_tokens a)
  action_lines (assert x) h n ns w = single n ns (word "assert" ∷ formula_tokens x) w (good_word "assert" (formula_tokens x) (loose_word "assert" refl refl) (first_word "assert" refl) (rest_formula x h))
  action_lines (assume x) h n ns w = single n ns (word "assume" ∷ formula_tokens x) w (good_word "assume" (formula_tokens x) (loose_word "assume" refl refl) (first_word "assume" refl) (rest_formula x h))
  action_lines (havoc ms) h n ns w =
      single n ns (word "havoc" ∷ (names ms ++ semicolon)) w (good_word "havoc" (names ms ++ semicolon) (loose_word "havoc" refl refl) (first_word "havoc" refl) (rest_append (names ms) semicolon (good_names ms h).rest rest_semicolon))
  action_lines (assign ts xs) h n ns w =
      single n ns (targets ts ++ word ":=" ∷ (listed xs ++ semicolon)) w (good_append (targets ts) (word ":=" ∷ (listed xs ++ semicolon)) (good_targets ts h.0) (rest_loose (word ":=") (listed xs ++ semicolon) set_loose (rest_append (listed xs) semicolon (rest_listed xs h.2) rest_semicolon)))
  action_lines (call ms f xs) h n ns w = single n ns (action_tokens (call ms f xs)) w (good_call ms f xs h.0 h.1 h.2)
  action_lines (branches bs) h n ns w = chain_lines bs h.0 h.1 n ns w
  action_lines (loop g is ss) h n ns w =
      headed n ns (word "while" ∷ guard g) (map (invariant_line (n + 2)) is ++ braced n (statements (n + 2) ss)) (invariants_tokens is ++ block_tokens ss) w (good_word "while" (guard g) (loose_word "while" refl refl) (first_word "while" refl) (rest_guard g h.0))
      (lines_append (invariant_lines (n + 2) is h.1) (braced n (statements (n + 2) ss)) (block_tokens ss) (block_lines n ss (statements (n + 2) ss) (stmts_lines ss h.2 (n + 2))))
  action_lines («break» l) h n ns w = single n ns (word "break" ∷ (label l ++ semicolon)) w (good_word "break" (label l ++ semicolon) (loose_word "break" refl refl) (first_word "break" refl) (rest_append (label l) semicolon (rest_label l h) rest_semicolon))
  action_lines «return» h n ns w = single n ns (word "return" ∷ semicolon) w (good_word "return" semicolon (loose_word "return" refl refl) (first_word "return" refl) rest_semicolon)
  action_lines (goto ms) h n ns w =
      single n ns (word "goto" ∷ (names ms ++ semicolon)) w (good_word "goto" (names ms ++ semicolon) (loose_word "goto" refl refl) (first_word "goto" refl) (rest_append (names ms) semicolon (good_names ms h).rest rest_semicolon))

  chain_lines : (bs : Branches) → IsTrue (is_branch bs) → AreWrittenBranches bs → (n : ℕ) (ns : List Name) → AreNames ns → AreLines (chain n (labels ns) bs) (labels ns ++ chain_tokens bs)
  chain_lines (branch p g ss bs) t h n ns w =
      headed n ns (word "if" ∷ guard g) (braced n (statements (n + 2) ss) ++ others n bs) (block_tokens ss ++ others_tokens bs) w (good_if g h.0)
      (lines_append (block_lines n ss (statements (n + 2) ss) (stmts_lines ss h.1 (n + 2))) (others n bs) (others_tokens bs) (others_lines bs h.2 n))
  chain_lines (otherwise ss) t h n ns w = absurd (cc)
  chain_lines no_branch t h n ns w = absurd (cc)

  others_lines : (bs : Branches) → AreWrittenBranches bs → (n : ℕ) → AreLines (others n bs) (others_tokens bs)
  others_lines (branch p g ss bs) h n =
      line_then n (word "else" ∷ []) (line n (word "if" ∷ guard g) ∷ (braced n (statements (n + 2) ss) ++ others n bs)) (word "if" ∷ (guard g ++ (block_tokens ss ++ others_tokens bs))) (rest_loose (word "else") [] (loose_word "else" refl refl) rest_nil)
      (line_then n (word "if" ∷ guard g) (braced n (statements (n + 2) ss) ++ others n bs) (block_tokens ss ++ others_tokens bs) (good_if g h.0).rest
      (lines_append (block_lines n ss (statements (n + 2) ss) (stmts_lines ss h.1 (n + 2))) (others n bs) (others_tokens bs) (others_lines bs h.2 n)))
  others_lines (otherwise ss) h n =
      line_then n (word "else" ∷ []) (braced n (statements (n + 2) ss)) (block_tokens ss) (rest_loose (word "else") [] (loose_word "else" refl refl) rest_nil) (block_lines n ss (statements (n + 2) ss) (stmts_lines ss h (n + 2)))
  others_lines no_branch h n = none

  pub stmts_lines : (ss : Stmts) → AreWrittenStmts ss → (n : ℕ) → AreLines (statements n ss) (stmts_tokens ss)
  stmts_lines no_stmts h n = none
  stmts_lines (next s ss) h n = lines_append (stmt_lines s h.0 n) (statements n ss) (stmts_tokens ss) (stmts_lines ss h.1 n)
