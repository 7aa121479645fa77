-- What becomes of the parts of statements that are read.
use Rattle.std.specs.Prelude.{◌≡◌, ℕ, zero, suc, ◌+◌, ◌≤◌, Bool, true, false, ◌||◌, List, [], ◌∷◌, drop, codes, IsTrue}
use Rattle.std.proofs.Common.{refl, ap, sym, ◌∙◌, arith}
use Rattle.bpl_lex.specs.Token.{id}
use Rattle.bpl_ast.specs.Statement.{Guard}
use Rattle.bpl_grammar.specs.Lexeme.{Lexeme}
use Rattle.bpl_grammar.specs.Part.{Part, some, ◌⨟◌, ◌∣◌, maybe, many, inside, rule, ids, es, groups, var, lhs, guard, inv, e as expression}
use Rattle.bpl_grammar.specs.Grammar.{the, round, square, attrs, listed as listed_part}
use Rattle.bpl_grammar.specs.Judge.{judge}
use Rattle.bpl_grammar.specs.Reads.{sunk}
use Rattle.bpl_grammar.specs.Terminal.{kind, fixed, is, sees}
use Rattle.bpl_grammar.specs.Follows.{Bars, After, Ends}
use Rattle.bpl_grammar.specs.Reading.{read_name, read_ids}
use Rattle.bpl_grammar.specs.ReadExpressions.{whole, args_with, e_with, groups_with, read_inner}
use Rattle.bpl_grammar.specs.ReadStatements.{guard_firsts, read_havoc, read_aim, read_break, read_return, read_goto, read_outs, guard_with, read_guard, read_expr, read_attrs, formula_with, entry_with, entries_with, lhs_with, targets_with, values_with, assign_with, call_with, guarded_with, inv_as, inv_with, invs_with, var_with, vars_with}
use Rattle.bpl_grammar.specs.Law.{fate}
use Rattle.bpl_grammar.proofs.Firsts.{shut}
use Rattle.bpl_grammar.proofs.Sunk.{judge_rule, judge_order, alike}
use Rattle.bpl_grammar.proofs.Choices.{opens_sunk}
use Rattle.bpl_grammar.proofs.Decisions.{absent_at, present_at, left_at, right_at}
use Rattle.bpl_grammar.proofs.Tails.{bars_then, bars_over}
use Rattle.bpl_grammar.proofs.Fates.{AreFirsts, fate_as, chain, branch, opens_token, seen_there, token_then, token_last, refused_fate}
use Rattle.bpl_grammar.proofs.TypeTrees.{comma}
use Rattle.bpl_grammar.proofs.TypeLaws.{name_fate, listed_fate, ids_fate}
use Rattle.bpl_grammar.proofs.ExprParts.{after_then}
use Rattle.bpl_grammar.proofs.ExprLaws.{firsts_inner, whole_fate, exprs_fate, args_law, groups_law, attrs_law}
use Rattle.bpl_grammar.proofs.StatementParts.{assigned, targets_part, goto_part, return_part, break_part, havoc_part, args_part, call_part, outs_rest, outs_first, alike_called}
use Rattle.bpl_grammar.proofs.StmtShrinks.{entry_shrinks, lhs_shrinks, inv_shrinks, var_shrinks}
use Rattle.bpl_grammar.proofs.Turns.{many_fate, any_one, any_two, opens_sees, behind_name, ends_then, closes_then}

abbrev pub formula_part : Part
formula_part = attrs ⨟ rule expression ⨟ the ";"

-- statements of names

module _ (n : ℕ) (fits : n ≤ 200) where
  -- names, behind which ";" closes
  ids_closed : (k : Part) (ls : List Lexeme) → judge (sunk n (rule ids ⨟ the ";") ⨟ k) ls ≡ fate (sunk n (the ";") ⨟ k) (read_ids ls)
  ids_closed k ls = judge_order n (rule ids) (the ";") k ls ∙ ids_fate n (sunk n (the ";") ⨟ k) ls fits (bars_then (comma ∷ []) n (the ";") k refl refl)

  -- "havoc" Ids ";"
  pub havoc_fate : (k : Part) (ls : List Lexeme) → judge (sunk n havoc_part ⨟ k) ls ≡ fate k (read_havoc ls)
  unfolding read_havoc
  havoc_fate k ls = token_then n (fixed (codes "havoc")) (rule ids ⨟ the ";") k k _ ls fits refl (λ rest.
      ids_closed k rest ∙ chain (read_ids rest) _ (sunk n (the ";") ⨟ k) k (λ ns closed. token_last n (fixed (codes ";")) k _ closed fits refl))

  -- "goto" Ids ";"
  pub goto_fate : (k : Part) (ls : List Lexeme) → judge (sunk n goto_part ⨟ k) ls ≡ fate k (read_goto ls)
  unfolding read_goto
  goto_fate k ls = token_then n (fixed (codes "goto")) (rule ids ⨟ the ";") k k _ ls fits refl (λ rest.
      ids_closed k rest ∙ chain (read_ids rest) _ (sunk n (the ";") ⨟ k) k (λ ns closed. token_last n (fixed (codes ";")) k _ closed fits refl))

  -- "return" ";"
  pub return_fate : (k : Part) (ls : List Lexeme) → judge (sunk n return_part ⨟ k) ls ≡ fate k (read_return ls)
  unfolding read_return
  return_fate k ls = token_then n (fixed (codes "return")) (the ";") k k _ ls fits refl (λ closed. token_last n (fixed (codes ";")) k _ closed fits refl)

  -- [Id], before ";"
  aim_fate : (k : Part) (ls : List Lexeme) → judge (sunk n (maybe (some id)) ⨟ (sunk n (the ";") ⨟ k)) ls ≡ fate (sunk n (the ";") ⨟ k) (read_aim ls)
  unfolding read_aim
  aim_fate k ls = branch (sees (kind id) ls) (judge (sunk n (maybe (some id)) ⨟ (sunk n (the ";") ⨟ k)) ls) _ _ (sunk n (the ";") ⨟ k)
      (λ h. present_at n (some id) (sunk n (the ";") ⨟ k) ls refl (opens_token (kind id) ls ∙ h) (opens_sunk n ls (the ";") k refl ∙ shut (kind id) (the ";") ls h refl)
      ∙ (name_fate n (sunk n (the ";") ⨟ k) ls fits ∙ fate_as _ (read_name ls) (sunk n (the ";") ⨟ k)))
      (λ no. absent_at n (some id) (sunk n (the ";") ⨟ k) ls refl (opens_token (kind id) ls ∙ no))

  -- "break" [Id] ";"
  pub break_fate : (k : Part) (ls : List Lexeme) → judge (sunk n break_part ⨟ k) ls ≡ fate k (read_break ls)
  unfolding read_break
  break_fate k ls = token_then n (fixed (codes "break")) (maybe (some id) ⨟ the ";") k k _ ls fits refl (λ rest. judge_order n (maybe (some id)) (the ";") k rest
      ∙ (aim_fate k rest ∙ chain (read_aim rest) _ (sunk n (the ";") ⨟ k) k (λ l closed. token_last n (fixed (codes ";")) k _ closed fits refl)))

  -- [Ids ":="], before what is called
  abbrev called : Part → Part
  called k = sunk n (some id ⨟ args_part) ⨟ k

  outs_absent : (k : Part) (ls : List Lexeme) → IsTrue (sees (fixed (codes "(")) (drop 1 ls)) → judge (sunk n (maybe (rule ids ⨟ the ":=")) ⨟ called k) ls ≡ judge (called k) ls
  outs_absent k ls h = sym (judge_order n (maybe (rule ids ⨟ the ":=")) (some id ⨟ args_part) k ls) ∙ (alike n _ _ k alike_called ls
      ∙ behind_name n (outs_rest ∣ args_part) args_part k ls fits (right_at n outs_rest args_part k (drop 1 ls) refl (shut (fixed (codes "(")) outs_rest (drop 1 ls) h refl)))

  outs_present : (k : Part) (ls : List Lexeme) → sees (fixed (codes "(")) (drop 1 ls) ≡ false → judge (sunk n (maybe (rule ids ⨟ the ":=")) ⨟ called k) ls ≡ judge (sunk n (rule ids) ⨟ (sunk n (the ":=") ⨟ called k)) ls
  outs_present k ls h = sym (judge_order n (maybe (rule ids ⨟ the ":=")) (some id ⨟ args_part) k ls) ∙ (alike n _ _ k alike_called ls
      ∙ (behind_name n (outs_rest ∣ args_part) outs_rest k ls fits (left_at n outs_rest args_part k (drop 1 ls) refl (opens_sees (fixed (codes "(")) args_part (drop 1 ls) (λ t. refl) ∙ h))
      ∙ (sym (alike n _ _ k outs_first ls) ∙ (judge_order n (rule ids ⨟ the ":=") (some id ⨟ args_part) k ls ∙ judge_order n (rule ids) (the ":=") (called k) ls))))

  outs_fate : (k : Part) (ls : List Lexeme) → judge (sunk n (maybe (rule ids ⨟ the ":=")) ⨟ called k) ls ≡ fate (called k) (read_outs ls)
  unfolding read_outs
  outs_fate k ls = branch (sees (fixed (codes "(")) (drop 1 ls)) (judge (sunk n (maybe (rule ids ⨟ the ":=")) ⨟ called k) ls) _ _ (called k) (outs_absent k ls)
      (λ h. outs_present k ls h ∙ (ids_fate n (sunk n (the ":=") ⨟ called k) ls fits (bars_then (comma ∷ []) n (the ":=") (called k) refl refl)
      ∙ chain (read_ids ls) _ (sunk n (the ":=") ⨟ called k) (called k) (λ ns rest. token_last n (fixed (codes ":=")) (called k) _ rest fits refl)))

-- a guard

firsts_guard : AreFirsts guard_firsts (rule guard)
firsts_guard t = ap (λ b. is (fixed (codes "*")) t || b) (firsts_inner whole t)

pub guard_fate : (room n : ℕ) → n + room ≡ 201 → (k : Part) → After n k → (ls : List Lexeme) → judge (sunk n (rule guard) ⨟ k) ls ≡ fate k (read_guard room ls)
unfolding guard_with
guard_fate zero n q k f ls = refused_fate Guard n guard_firsts (rule guard) k ls firsts_guard refl (omega (arith, q))
guard_fate (suc room) n q k f ls = judge_rule n guard k ls ∙ branch (sees (fixed (codes "*")) ls) (judge (sunk n (the "*" ∣ rule expression) ⨟ k) ls) _ _ k
    (λ h. left_at n (the "*") (rule expression) k ls refl (shut (fixed (codes "*")) (rule expression) ls h refl) ∙ seen_there n (fixed (codes "*")) k ls (omega (arith, q)) refl h)
    (λ no. right_at n (the "*") (rule expression) k ls refl (opens_token (fixed (codes "*")) ls ∙ no) ∙ (whole_fate (suc room) n q k f ls ∙ fate_as _ (e_with room (read_inner room) ls) k))

module _ (room n : ℕ) (total : n + room ≡ 200) where
  fits : n ≤ 200
  fits = omega (arith, total)

  pub expr_fate : (k : Part) → After n k → (ls : List Lexeme) → judge (sunk n (rule expression) ⨟ k) ls ≡ fate k (read_expr room ls)
  expr_fate k f ls = whole_fate (suc room) n (omega (arith, total)) k f ls

  -- an expression, behind which a sign closes
  expr_closed : (k : Part) (ls : List Lexeme) → judge (sunk n (rule expression ⨟ the ";") ⨟ k) ls ≡ fate (sunk n (the ";") ⨟ k) (read_expr room ls)
  expr_closed k ls = judge_order n (rule expression) (the ";") k ls ∙ expr_fate (sunk n (the ";") ⨟ k) (after_then n n (the ";") k refl refl refl) ls

  -- {Attr} E ";"
  pub formula_fate : (k : Part) (ls : List Lexeme) → judge (sunk n formula_part ⨟ k) ls ≡ fate k (formula_with room ls)
  unfolding formula_with
  formula_fate k ls = judge_order n attrs (rule expression ⨟ the ";") k ls
      ∙ (attrs_law room n total (sunk n (rule expression ⨟ the ";") ⨟ k) (bars_then (fixed (codes "{") ∷ []) n (rule expression ⨟ the ";") k refl refl) ls
      ∙ chain (read_attrs room ls) _ (sunk n (rule expression ⨟ the ";") ⨟ k) k (λ u rest. expr_closed k rest
      ∙ chain (read_expr room rest) _ (sunk n (the ";") ⨟ k) k (λ x closed. token_last n (fixed (codes ";")) k _ closed fits refl)))

  -- "[" E "]"
  entry_fate : (k : Part) (ls : List Lexeme) → judge (sunk n (square (rule expression)) ⨟ k) ls ≡ fate k (entry_with room ls)
  unfolding entry_with
  entry_fate k ls = token_then n (fixed (codes "[")) (inside (rule expression) ⨟ the "]") k k _ ls fits refl (λ rest. judge_order n (inside (rule expression)) (the "]") k rest
      ∙ (whole_fate room (suc n) (omega (arith, total)) (sunk n (the "]") ⨟ k) (after_then (suc n) n (the "]") k refl refl refl) rest
      ∙ chain (read_inner room whole rest) _ (sunk n (the "]") ⨟ k) k (λ x closed. token_last n (fixed (codes "]")) k _ closed fits refl)))

  entries_fate : (k : Part) → Bars (fixed (codes "[") ∷ []) k → (ls : List Lexeme) → judge (sunk n (many (square (rule expression))) ⨟ k) ls ≡ fate k (entries_with room ls)
  unfolding entries_with
  entries_fate k b ls = many_fate n (fixed (codes "[") ∷ []) (square (rule expression)) k (sees (fixed (codes "["))) (entry_with room) (entry_shrinks room) refl (λ t. refl) b (any_one (fixed (codes "[")))
      (λ us. entry_fate (sunk n (many (square (rule expression))) ⨟ k) us) ls

  -- Lhs = Id {"[" E "]"}
  lhs_fate : (k : Part) → Bars (fixed (codes "[") ∷ []) k → (ls : List Lexeme) → judge (sunk n (rule lhs) ⨟ k) ls ≡ fate k (lhs_with room ls)
  unfolding lhs_with
  lhs_fate k b ls = judge_rule n lhs k ls ∙ (judge_order n (some id) (many (square (rule expression))) k ls ∙ (name_fate n (sunk n (many (square (rule expression))) ⨟ k) ls fits
      ∙ chain (read_name ls) _ (sunk n (many (square (rule expression))) ⨟ k) k (λ m rest. entries_fate k b rest ∙ fate_as _ (entries_with room rest) k)))

  -- Lhs {"," Lhs}
  targets_fate : (k : Part) → Bars (fixed (codes "[") ∷ []) k → Bars (comma ∷ []) k → (ls : List Lexeme) → judge (sunk n (listed_part (rule lhs)) ⨟ k) ls ≡ fate k (targets_with room ls)
  unfolding targets_with
  targets_fate k b c ls = listed_fate n (rule lhs) k (lhs_with room) (lhs_shrinks room) c
      (λ us. lhs_fate (sunk n (many (the "," ⨟ rule lhs)) ⨟ k) (bars_over (fixed (codes "[") ∷ []) n (many (the "," ⨟ rule lhs)) k refl b) us) (λ us x rest h. fits) ls

  -- E {"," E}
  values_fate : (k : Part) → Ends k → (ls : List Lexeme) → judge (sunk n (listed_part (rule expression)) ⨟ k) ls ≡ fate k (values_with room ls)
  unfolding values_with
  values_fate k d ls = exprs_fate (suc room) n (omega (arith, total)) k d ls

  -- Lhs {"," Lhs} ":=" E {"," E} ";"
  pub assign_fate : (k : Part) (ls : List Lexeme) → judge (sunk n targets_part ⨟ k) ls ≡ fate k (assign_with room ls)
  unfolding assign_with
  assign_fate k ls = judge_order n (listed_part (rule lhs)) assigned k ls
      ∙ (targets_fate (sunk n assigned ⨟ k) (bars_then (fixed (codes "[") ∷ []) n assigned k refl refl) (bars_then (comma ∷ []) n assigned k refl refl) ls
      ∙ chain (targets_with room ls) _ (sunk n assigned ⨟ k) k (λ ts rest. token_then n (fixed (codes ":=")) (listed_part (rule expression) ⨟ the ";") k k _ rest fits refl (λ after.
      judge_order n (listed_part (rule expression)) (the ";") k after ∙ (values_fate (sunk n (the ";") ⨟ k) (ends_then n (the ";") k refl refl refl refl) after
      ∙ chain (values_with room after) _ (sunk n (the ";") ⨟ k) k (λ xs closed. token_last n (fixed (codes ";")) k _ closed fits refl)))))

  -- "call" {Attr} [Ids ":="] Id "(" [Es] ")" ";"
  pub call_fate : (k : Part) (ls : List Lexeme) → judge (sunk n call_part ⨟ k) ls ≡ fate k (call_with room ls)
  unfolding call_with
  call_fate k ls = token_then n (fixed (codes "call")) (attrs ⨟ outs_part) k k _ ls fits refl (λ rest. judge_order n attrs outs_part k rest
      ∙ (attrs_law room n total (sunk n outs_part ⨟ k) (bars_then (fixed (codes "{") ∷ []) n outs_part k refl refl) rest
      ∙ chain (read_attrs room rest) _ (sunk n outs_part ⨟ k) k (λ u outs. judge_order n (maybe (rule ids ⨟ the ":=")) (some id ⨟ args_part) k outs
      ∙ (outs_fate n fits k outs ∙ chain (read_outs outs) _ (sunk n (some id ⨟ args_part) ⨟ k) k (λ ns named. judge_order n (some id) args_part k named
      ∙ (name_fate n (sunk n args_part ⨟ k) named fits ∙ chain (read_name named) _ (sunk n args_part ⨟ k) k (λ f opened. judge_order n (round (maybe (rule es))) (the ";") k opened
      ∙ (args_law room n total (sunk n (the ";") ⨟ k) opened
      ∙ chain (args_with room (read_inner room) opened) _ (sunk n (the ";") ⨟ k) k (λ xs closed. token_last n (fixed (codes ";")) k _ closed fits refl)))))))))
    where
      outs_part : Part
      outs_part = maybe (rule ids ⨟ the ":=") ⨟ some id ⨟ args_part

  -- "(" Guard ")"
  pub guarded_fate : (k : Part) (ls : List Lexeme) → judge (sunk n (round (rule guard)) ⨟ k) ls ≡ fate k (guarded_with room ls)
  unfolding guarded_with
  guarded_fate k ls = token_then n (fixed (codes "(")) (inside (rule guard) ⨟ the ")") k k _ ls fits refl (λ rest. judge_order n (inside (rule guard)) (the ")") k rest
      ∙ (guard_fate room (suc n) (omega (arith, total)) (sunk n (the ")") ⨟ k) (after_then (suc n) n (the ")") k refl refl refl) rest
      ∙ chain (read_guard room rest) _ (sunk n (the ")") ⨟ k) k (λ g closed. token_last n (fixed (codes ")")) k _ closed fits refl)))

  -- Inv = ["free"] "invariant" {Attr} E ";"
  inv_as_fate : (free : Bool) (k : Part) (ls : List Lexeme) → judge (sunk n (the "invariant" ⨟ formula_part) ⨟ k) ls ≡ fate k (inv_as room free ls)
  unfolding inv_as
  inv_as_fate free k ls = token_then n (fixed (codes "invariant")) formula_part k k _ ls fits refl (λ rest. formula_fate k rest ∙ fate_as _ (formula_with room rest) k)

  inv_fate : (k : Part) (ls : List Lexeme) → judge (sunk n (rule inv) ⨟ k) ls ≡ fate k (inv_with room ls)
  unfolding inv_with
  inv_fate k ls = judge_rule n inv k ls ∙ (judge_order n (maybe (the "free")) (the "invariant" ⨟ formula_part) k ls
      ∙ branch (sees (fixed (codes "free")) ls) (judge (sunk n (maybe (the "free")) ⨟ (sunk n (the "invariant" ⨟ formula_part) ⨟ k)) ls) _ _ k
      (λ h. present_at n (the "free") (sunk n (the "invariant" ⨟ formula_part) ⨟ k) ls refl (opens_token (fixed (codes "free")) ls ∙ h) (opens_sunk n ls (the "invariant" ⨟ formula_part) k refl ∙ shut (fixed (codes "free")) (the "invariant" ⨟ formula_part) ls h refl)
      ∙ (seen_there n (fixed (codes "free")) (sunk n (the "invariant" ⨟ formula_part) ⨟ k) ls fits refl h ∙ inv_as_fate true k (drop 1 ls)))
      (λ no. absent_at n (the "free") (sunk n (the "invariant" ⨟ formula_part) ⨟ k) ls refl (opens_token (fixed (codes "free")) ls ∙ no) ∙ inv_as_fate false k ls))

  pub invs_fate : (k : Part) → Bars (fixed (codes "free") ∷ fixed (codes "invariant") ∷ []) k → (ls : List Lexeme) → judge (sunk n (many (rule inv)) ⨟ k) ls ≡ fate k (invs_with room ls)
  unfolding invs_with
  invs_fate k b ls = many_fate n (fixed (codes "free") ∷ fixed (codes "invariant") ∷ []) (rule inv) k (λ us. sees (fixed (codes "free")) us || sees (fixed (codes "invariant")) us) (inv_with room) (inv_shrinks room) refl (λ t. refl) b
      (any_two (fixed (codes "free")) (fixed (codes "invariant"))) (λ us. inv_fate (sunk n (many (rule inv)) ⨟ k) us) ls

  -- Var = "var" {Attr} Groups ";"
  pub var_fate : (k : Part) (ls : List Lexeme) → judge (sunk n (rule var) ⨟ k) ls ≡ fate k (var_with room ls)
  unfolding var_with
  var_fate k ls = judge_rule n var k ls ∙ token_then n (fixed (codes "var")) (attrs ⨟ rule groups ⨟ the ";") k k _ ls fits refl (λ rest. judge_order n attrs (rule groups ⨟ the ";") k rest
      ∙ (attrs_law room n total (sunk n (rule groups ⨟ the ";") ⨟ k) (bars_then (fixed (codes "{") ∷ []) n (rule groups ⨟ the ";") k refl refl) rest
      ∙ chain (read_attrs room rest) _ (sunk n (rule groups ⨟ the ";") ⨟ k) k (λ u named. judge_order n (rule groups) (the ";") k named
      ∙ (groups_law room n total (sunk n (the ";") ⨟ k) (closes_then n (the ";") k refl refl refl refl refl) named
      ∙ chain (groups_with room (read_inner room) named) _ (sunk n (the ";") ⨟ k) k (λ gs closed. token_last n (fixed (codes ";")) k _ closed fits refl)))))

  pub vars_fate : (k : Part) → Bars (fixed (codes "var") ∷ []) k → (ls : List Lexeme) → judge (sunk n (many (rule var)) ⨟ k) ls ≡ fate k (vars_with room ls)
  unfolding vars_with
  vars_fate k b ls = many_fate n (fixed (codes "var") ∷ []) (rule var) k (sees (fixed (codes "var"))) (var_with room) (var_shrinks room) refl (λ t. refl) b (any_one (fixed (codes "var")))
      (λ us. var_fate (sunk n (many (rule var)) ⨟ k) us) ls
