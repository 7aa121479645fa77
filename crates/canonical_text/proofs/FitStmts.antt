-- Statements fit the grammar.
use Rattle.std.specs.Prelude.{ℕ, max, Bool, true, false, List, [], ◌∷◌, ◌++◌, IsTrue, Option, Some, None, codes}
use Rattle.std.proofs.Common.{refl, subst, arith, append_assoc}
use Rattle.bpl_lex.specs.Token.{id}
use Rattle.bpl_ast.specs.Place.{Name}
use Rattle.bpl_ast.specs.Tree.{Expr, Exprs, no_exprs, item}
use Rattle.bpl_ast.specs.Statement.{Target, Guard, Invariant, Stmt, stmt as stmt_of, Action, assert, assume, havoc, assign, call, branches, loop, «break», «return», goto, Branches, branch, otherwise, no_branch, Stmts, no_stmts, next}
use Rattle.canonical_text.specs.Glyph.{Glyph, plain, word, closing, index}
use Rattle.canonical_text.specs.Expression.{names, expression, listed as listed_tokens, more_listed}
use Rattle.canonical_text.specs.Lines.{semicolon, free_word, entries, targets, more_targets, guard as guard_tokens, outs, labels, label}
use Rattle.bpl_grammar.specs.Part.{Part, some, ◌⨟◌, ◌∣◌, maybe, many, rule, ids, attr, e, es, lhs, guard, if_stmt, inv, block, stmt}
use Rattle.bpl_grammar.specs.Grammar.{the, listed, round, square, attrs}
use Rattle.canonical_text.specs.WrittenExpression.{IsName, AreNames, SomeNames, some_exprs, IsWritten, AreWritten}
use Rattle.canonical_text.specs.WrittenStatement.{AreTargets, SomeTargets, IsGuard, AreInvariants, is_branch, IsWrittenStmt, IsWrittenAction, AreWrittenBranches, AreWrittenStmts}
use Rattle.canonical_text.specs.Nestings.{expression_depth, enclosed_depth}
use Rattle.canonical_text.specs.StatementNestings.{values_depth, targets_depth, guard_depth, invariants_depth, stmt_depth, action_depth, branches_depth, block_depth, stmts_depth}
use Rattle.canonical_text.specs.Tokens.{formula_tokens, invariants_tokens, stmt_tokens, action_tokens, chain_tokens, others_tokens, block_tokens, stmts_tokens}
use Rattle.canonical_text.proofs.Fitting.{Fit, Slack, slack_none, slack_absent, slack_empty_inside, fit_less, fit_left, fit_right, fit_present, fit_by, fit_text, seq, seq_fits, slack_fits, once_more, many_fits, loosely}
use Rattle.canonical_text.proofs.FitTypes.{fit_name, fit_called, fit_names, fit_bracketed, fit_round}
use Rattle.canonical_text.proofs.FitExprs.{behind_sign, args_then}
use Rattle.canonical_text.proofs.FitBound.{fit_expression, each_fits}

pub fit_semicolon : Fit (the ";") semicolon 0
fit_semicolon = fit_text (closing ";") (codes ";") (λ p. refl)

pub no_attrs : Slack attrs [] 0
no_attrs = slack_none (rule attr)

-- without attributes
pub fit_plainly : (p : Part) (gs : List Glyph) (d : ℕ) → Fit p gs d → Fit (attrs ⨟ p) gs d
fit_plainly p gs d f = fit_less (attrs ⨟ p) gs (max 0 d) d (omega arith) (slack_fits no_attrs f)

-- behind a part that lies in no brackets
pub fit_ended : (p : Part) (gs : List Glyph) (d : ℕ) → Fit p gs d → Fit (p ⨟ the ";") (gs ++ semicolon) d
fit_ended p gs d f = fit_less (p ⨟ the ";") (gs ++ semicolon) (max d 0) d (omega arith) (seq_fits f fit_semicolon)

pub fit_formula : (x : Expr) → IsWritten x → Fit (attrs ⨟ rule e ⨟ the ";") (formula_tokens x) (expression_depth x)
fit_formula x w = fit_plainly (rule e ⨟ the ";") (formula_tokens x) (expression_depth x) (fit_ended (rule e) (expression x) (expression_depth x) (fit_expression x w))

-- targets and values

slack_entries : (xs : Exprs) → AreWritten xs → Slack (many (square (rule e))) (entries xs) (enclosed_depth xs)
slack_entries no_exprs w = slack_none (square (rule e))
slack_entries (item x xs) w =
    subst (λ y. Slack (many (square (rule e))) (index ∷ y) (enclosed_depth (item x xs))) (append_assoc (expression x) (closing "]" ∷ []) (entries xs))
    (once_more (fit_bracketed index (closing "]") (codes "[") (codes "]") (λ q. refl) (λ q. refl) (rule e) (expression x) (expression_depth x) (fit_expression x w.0)) (slack_entries xs w.1))

fit_target : (t : Target) → IsName t.name → AreWritten t.indices → Fit (rule lhs) (plain t.name.text ∷ entries t.indices) (enclosed_depth t.indices)
fit_target t n w = fit_by lhs _ _ (fit_less (some id ⨟ many (square (rule e))) (plain t.name.text ∷ entries t.indices) (max 0 (enclosed_depth t.indices)) (enclosed_depth t.indices) (omega arith) (seq (fit_name t.name n) (slack_entries t.indices w)))

slack_more_targets : (ts : List Target) → AreTargets ts → Slack (many (the "," ⨟ rule lhs)) (more_targets ts) (targets_depth ts)
slack_more_targets [] w = slack_none (the "," ⨟ rule lhs)
slack_more_targets (t ∷ ts) w = once_more (behind_sign (closing ",") (codes ",") (λ p. refl) (rule lhs) (plain t.name.text ∷ entries t.indices) (enclosed_depth t.indices) (fit_target t w.0 w.1)) (slack_more_targets ts w.2)

fit_targets : (ts : List Target) → SomeTargets ts → Fit (listed (rule lhs)) (targets ts) (targets_depth ts)
fit_targets [] w = absurd w
fit_targets (t ∷ ts) w = seq (fit_target t w.0 w.1) (slack_more_targets ts w.2)

slack_more_values : (xs : Exprs) → AreWritten xs → Slack (many (the "," ⨟ rule e)) (more_listed xs) (values_depth xs)
slack_more_values no_exprs w = slack_none (the "," ⨟ rule e)
slack_more_values (item x xs) w = once_more (behind_sign (closing ",") (codes ",") (λ p. refl) (rule e) (expression x) (expression_depth x) (fit_expression x w.0)) (slack_more_values xs w.1)

fit_values : (xs : Exprs) → IsTrue (some_exprs xs) → AreWritten xs → Fit (listed (rule e)) (listed_tokens xs) (values_depth xs)
fit_values no_exprs s w = absurd (cc)
fit_values (item x xs) s w = seq (fit_expression x w.0) (slack_more_values xs w.1)

-- guards and invariants

fit_guard : (g : Guard) → IsGuard g → Fit (round (rule guard)) (guard_tokens g) (guard_depth g)
fit_guard None w = fit_round (rule guard) (word "*" ∷ []) 0 (fit_by guard _ _ (fit_left (the "*") (rule e) _ _ (fit_text (word "*") (codes "*") (λ p. refl))))
fit_guard (Some x) w = fit_round (rule guard) (expression x) (expression_depth x) (fit_by guard _ _ (fit_right (the "*") (rule e) _ _ (fit_expression x w)))

pub slack_free : (b : Bool) → Slack (maybe (the "free")) (free_word b) 0
slack_free true = loosely (fit_present (the "free") _ _ (fit_text (word "free") (codes "free") (λ p. refl)))
slack_free false = slack_absent (the "free")

fit_invariant : (b : Bool) (x : Expr) → IsWritten x → Fit (rule inv) (free_word b ++ word "invariant" ∷ formula_tokens x) (expression_depth x)
fit_invariant b x w =
    fit_by inv _ _ (fit_less (maybe (the "free") ⨟ the "invariant" ⨟ attrs ⨟ rule e ⨟ the ";") (free_word b ++ word "invariant" ∷ formula_tokens x) (max 0 (expression_depth x)) (expression_depth x) (omega arith)
    (slack_fits (slack_free b) (behind_sign (word "invariant") (codes "invariant") (λ p. refl) (attrs ⨟ rule e ⨟ the ";") (formula_tokens x) (expression_depth x) (fit_formula x w))))

slack_invariants : (is : List Invariant) → AreInvariants is → Slack (many (rule inv)) (invariants_tokens is) (invariants_depth is)
slack_invariants [] w = slack_none (rule inv)
slack_invariants (i ∷ is) w = once_more (fit_invariant i.free i.formula w.0) (slack_invariants is w.1)

-- statements, by their place among the alternatives

abbrev label_part : Part
label_part = some id ⨟ the ":" ⨟ rule stmt

abbrev formula_part : Part
formula_part = (the "assert" ∣ the "assume") ⨟ attrs ⨟ rule e ⨟ the ";"

abbrev havoc_part : Part
havoc_part = the "havoc" ⨟ rule ids ⨟ the ";"

abbrev assign_part : Part
assign_part = listed (rule lhs) ⨟ the ":=" ⨟ listed (rule e) ⨟ the ";"

abbrev call_part : Part
call_part = the "call" ⨟ attrs ⨟ maybe (rule ids ⨟ the ":=") ⨟ some id ⨟ round (maybe (rule es)) ⨟ the ";"

abbrev while_part : Part
while_part = the "while" ⨟ round (rule guard) ⨟ many (rule inv) ⨟ rule block

abbrev break_part : Part
break_part = the "break" ⨟ maybe (some id) ⨟ the ";"

abbrev return_part : Part
return_part = the "return" ⨟ the ";"

abbrev goto_part : Part
goto_part = the "goto" ⨟ rule ids ⨟ the ";"

fit_labelled : (ns : List Name) (gs : List Glyph) (d : ℕ) → AreNames ns → Fit (rule stmt) gs d → Fit (rule stmt) (labels ns ++ gs) d
fit_labelled [] gs d w f = f
fit_labelled (n ∷ ns) gs d w f =
    fit_by stmt _ _ (fit_left label_part _ _ _ (fit_less label_part (labels (n ∷ ns) ++ gs) (max 0 d) d (omega arith)
    (seq_fits (fit_name n w.0) (behind_sign (closing ":") (codes ":") (λ p. refl) (rule stmt) (labels ns ++ gs) d (fit_labelled ns gs d w.1 f)))))

second : (gs : List Glyph) (d : ℕ) → Fit formula_part gs d → Fit (rule stmt) gs d
second gs d f = fit_by stmt _ _ (fit_right label_part _ _ _ (fit_left formula_part _ _ _ f))

fit_assert : (x : Expr) → IsWritten x → Fit (rule stmt) (action_tokens (assert x)) (expression_depth x)
fit_assert x w = second _ _ (fit_less formula_part (action_tokens (assert x)) (max 0 (expression_depth x)) (expression_depth x) (omega arith) (seq_fits (fit_left (the "assert") (the "assume") _ _ (fit_text (word "assert") (codes "assert") (λ p. refl))) (fit_formula x w)))

fit_assume : (x : Expr) → IsWritten x → Fit (rule stmt) (action_tokens (assume x)) (expression_depth x)
fit_assume x w = second _ _ (fit_less formula_part (action_tokens (assume x)) (max 0 (expression_depth x)) (expression_depth x) (omega arith) (seq_fits (fit_right (the "assert") (the "assume") _ _ (fit_text (word "assume") (codes "assume") (λ p. refl))) (fit_formula x w)))

fit_havoc : (ns : List Name) → SomeNames ns → Fit (rule stmt) (action_tokens (havoc ns)) 0
fit_havoc ns w = fit_by stmt _ _ (fit_right label_part _ _ _ (fit_right formula_part _ _ _ (fit_left havoc_part _ _ _ (behind_sign (word "havoc") (codes "havoc") (λ p. refl) (rule ids ⨟ the ";") (names ns ++ semicolon) 0 (fit_ended (rule ids) (names ns) 0 (fit_names ns w))))))

fit_assign : (ts : List Target) (xs : Exprs) → SomeTargets ts → IsTrue (some_exprs xs) → AreWritten xs → Fit (rule stmt) (action_tokens (assign ts xs)) (action_depth (assign ts xs))
fit_assign ts xs w s v =
    fit_by stmt _ _ (fit_right label_part _ _ _ (fit_right formula_part _ _ _ (fit_right havoc_part _ _ _ (fit_left assign_part _ _ _
    (seq_fits (fit_targets ts w) (behind_sign (word ":=") (codes ":=") (λ p. refl) (listed (rule e) ⨟ the ";") (listed_tokens xs ++ semicolon) (values_depth xs) (fit_ended (listed (rule e)) (listed_tokens xs) (values_depth xs) (fit_values xs s v))))))))

slack_outs : (ns : List Name) → AreNames ns → Slack (maybe (rule ids ⨟ the ":=")) (outs ns) 0
slack_outs [] w = slack_absent (rule ids ⨟ the ":=")
slack_outs (n ∷ ns) w = loosely (fit_present (rule ids ⨟ the ":=") _ _ (seq_fits (fit_names (n ∷ ns) w) (fit_text (word ":=") (codes ":=") (λ p. refl))))

fit_call : (ns : List Name) (f : Name) (xs : Exprs) → AreNames ns → IsName f → AreWritten xs → Fit (rule stmt) (action_tokens (call ns f xs)) (enclosed_depth xs)
fit_call ns f xs w v u =
    fit_by stmt _ _ (fit_right label_part _ _ _ (fit_right formula_part _ _ _ (fit_right havoc_part _ _ _ (fit_right assign_part _ _ _ (fit_left call_part _ _ _
    (fit_less call_part (action_tokens (call ns f xs)) (max 0 (max 0 (max 0 (max 0 (max (enclosed_depth xs) 0))))) (enclosed_depth xs) (omega arith)
    (seq_fits (fit_text (word "call") (codes "call") (λ p. refl)) (slack_fits no_attrs (slack_fits (slack_outs ns w) (seq_fits (fit_called f v) (args_then (the ";") semicolon 0 xs (each_fits xs u) (loosely fit_semicolon))))))))))))

fit_break : (l : Option Name) → IsWrittenAction («break» l) → Fit (rule stmt) (action_tokens («break» l)) 0
fit_break l w =
    fit_by stmt _ _ (fit_right label_part _ _ _ (fit_right formula_part _ _ _ (fit_right havoc_part _ _ _ (fit_right assign_part _ _ _ (fit_right call_part _ _ _ (fit_right (rule if_stmt) _ _ _ (fit_right while_part _ _ _ (fit_left break_part _ _ _
    (seq_fits (fit_text (word "break") (codes "break") (λ p. refl)) (slack_fits (aim l w) fit_semicolon))))))))))
  where
    aim : (l : Option Name) → IsWrittenAction («break» l) → Slack (maybe (some id)) (label l) 0
    aim None w = slack_absent (some id)
    aim (Some n) w = loosely (fit_present (some id) _ _ (fit_name n w))

fit_return : Fit (rule stmt) (action_tokens «return») 0
fit_return =
    fit_by stmt _ _ (fit_right label_part _ _ _ (fit_right formula_part _ _ _ (fit_right havoc_part _ _ _ (fit_right assign_part _ _ _ (fit_right call_part _ _ _ (fit_right (rule if_stmt) _ _ _ (fit_right while_part _ _ _ (fit_right break_part _ _ _ (fit_left return_part _ _ _
    (seq_fits (fit_text (word "return") (codes "return") (λ p. refl)) fit_semicolon))))))))))

fit_goto : (ns : List Name) → SomeNames ns → Fit (rule stmt) (action_tokens (goto ns)) 0
fit_goto ns w =
    fit_by stmt _ _ (fit_right label_part _ _ _ (fit_right formula_part _ _ _ (fit_right havoc_part _ _ _ (fit_right assign_part _ _ _ (fit_right call_part _ _ _ (fit_right (rule if_stmt) _ _ _ (fit_right while_part _ _ _ (fit_right break_part _ _ _ (fit_right return_part _ _ _
    (behind_sign (word "goto") (codes "goto") (λ p. refl) (rule ids ⨟ the ";") (names ns ++ semicolon) 0 (fit_ended (rule ids) (names ns) 0 (fit_names ns w))))))))))))

-- blocks

abbrev pub StmtFits : Stmt → Type 0
StmtFits s = Fit (rule stmt) (stmt_tokens s) (stmt_depth s)

abbrev pub EachStmt : Stmts → Type 0
EachStmt no_stmts = Unit {0}
EachStmt (next s ss) = StmtFits s × EachStmt ss

pub slack_stmts : (ss : Stmts) → EachStmt ss → Slack (many (rule stmt)) (stmts_tokens ss) (stmts_depth ss)
slack_stmts no_stmts f = slack_none (rule stmt)
slack_stmts (next s ss) f = once_more f.0 (slack_stmts ss f.1)

fit_block : (ss : Stmts) → EachStmt ss → Fit (rule block) (block_tokens ss) (block_depth ss)
fit_block no_stmts f =
    fit_by block _ _ (seq_fits (fit_text (word "{") (codes "{") (λ p. refl)) (slack_fits (slack_empty_inside (many (rule stmt)) (slack_none (rule stmt))) (fit_text (word "}") (codes "}") (λ p. refl))))
fit_block (next s ss) f =
    fit_by block _ _ (fit_bracketed (word "{") (word "}") (codes "{") (codes "}") (λ q. refl) (λ q. refl) (many (rule stmt)) (stmts_tokens (next s ss)) (max (stmt_depth s) (stmts_depth ss)) (many_fits f.0 (slack_stmts ss f.1)))

abbrev pub EachBranch : Branches → Type 0
EachBranch (branch p g ss bs) = IsGuard g × EachStmt ss × EachBranch bs
EachBranch (otherwise ss) = EachStmt ss
EachBranch no_branch = Unit {0}

abbrev else_part : Part
else_part = the "else" ⨟ (rule if_stmt ∣ rule block)

mutual
  fit_if : (bs : Branches) → IsTrue (is_branch bs) → EachBranch bs → Fit (rule if_stmt) (chain_tokens bs) (branches_depth bs)
  fit_if (branch p g ss bs) t f =
      fit_by if_stmt _ _ (behind_sign (word "if") (codes "if") (λ q. refl) (round (rule guard) ⨟ rule block ⨟ maybe else_part) (guard_tokens g ++ (block_tokens ss ++ others_tokens bs)) (branches_depth (branch p g ss bs))
      (seq_fits (fit_guard g f.0) (seq (fit_block ss f.1) (slack_others bs f.2))))
  fit_if (otherwise ss) t f = absurd (cc)
  fit_if no_branch t f = absurd (cc)

  slack_others : (bs : Branches) → EachBranch bs → Slack (maybe else_part) (others_tokens bs) (branches_depth bs)
  slack_others (branch p g ss bs) f =
      loosely (fit_present else_part _ _ (behind_sign (word "else") (codes "else") (λ q. refl) (rule if_stmt ∣ rule block) (chain_tokens (branch p g ss bs)) (branches_depth (branch p g ss bs)) (fit_left (rule if_stmt) (rule block) _ _
      (fit_by if_stmt _ _ (behind_sign (word "if") (codes "if") (λ q. refl) (round (rule guard) ⨟ rule block ⨟ maybe else_part) (guard_tokens g ++ (block_tokens ss ++ others_tokens bs)) (branches_depth (branch p g ss bs))
      (seq_fits (fit_guard g f.0) (seq (fit_block ss f.1) (slack_others bs f.2))))))))
  slack_others (otherwise ss) f = loosely (fit_present else_part _ _ (behind_sign (word "else") (codes "else") (λ q. refl) (rule if_stmt ∣ rule block) (block_tokens ss) (block_depth ss) (fit_right (rule if_stmt) (rule block) _ _ (fit_block ss f))))
  slack_others no_branch f = slack_absent else_part

fit_branches : (bs : Branches) → IsTrue (is_branch bs) → EachBranch bs → Fit (rule stmt) (chain_tokens bs) (branches_depth bs)
fit_branches bs t f = fit_by stmt _ _ (fit_right label_part _ _ _ (fit_right formula_part _ _ _ (fit_right havoc_part _ _ _ (fit_right assign_part _ _ _ (fit_right call_part _ _ _ (fit_left (rule if_stmt) _ _ _ (fit_if bs t f)))))))

fit_while : (g : Guard) (is : List Invariant) (ss : Stmts) → IsGuard g → AreInvariants is → EachStmt ss → Fit (rule stmt) (action_tokens (loop g is ss)) (action_depth (loop g is ss))
fit_while g is ss w v f =
    fit_by stmt _ _ (fit_right label_part _ _ _ (fit_right formula_part _ _ _ (fit_right havoc_part _ _ _ (fit_right assign_part _ _ _ (fit_right call_part _ _ _ (fit_right (rule if_stmt) _ _ _ (fit_left while_part _ _ _
    (behind_sign (word "while") (codes "while") (λ q. refl) (round (rule guard) ⨟ many (rule inv) ⨟ rule block) (guard_tokens g ++ (invariants_tokens is ++ block_tokens ss)) (action_depth (loop g is ss))
    (seq_fits (fit_guard g w) (slack_fits (slack_invariants is v) (fit_block ss f)))))))))))

mutual
  fit_stmt : (s : Stmt) → IsWrittenStmt s → StmtFits s
  fit_stmt (stmt_of ls p a) h = fit_labelled ls (action_tokens a) (action_depth a) h.0 (fit_action a h.1)

  fit_action : (a : Action) → IsWrittenAction a → Fit (rule stmt) (action_tokens a) (action_depth a)
  fit_action (assert x) h = fit_assert x h
  fit_action (assume x) h = fit_assume x h
  fit_action (havoc ns) h = fit_havoc ns h
  fit_action (assign ts xs) h = fit_assign ts xs h.0 h.1 h.2
  fit_action (call ns f xs) h = fit_call ns f xs h.0 h.1 h.2
  fit_action (branches bs) h = fit_branches bs h.0 (each_branch bs h.1)
  fit_action (loop g is ss) h = fit_while g is ss h.0 h.1 (each_stmt ss h.2)
  fit_action («break» l) h = fit_break l h
  fit_action «return» h = fit_return
  fit_action (goto ns) h = fit_goto ns h

  each_branch : (bs : Branches) → AreWrittenBranches bs → EachBranch bs
  each_branch (branch p g ss bs) h = (h.0, each_stmt ss h.1, each_branch bs h.2)
  each_branch (otherwise ss) h = each_stmt ss h
  each_branch no_branch h = tt

  pub each_stmt : (ss : Stmts) → AreWrittenStmts ss → EachStmt ss
  each_stmt no_stmts h = tt
  each_stmt (next s ss) h = (fit_stmt s h.0, each_stmt ss h.1)
