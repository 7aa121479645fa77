-- What becomes of statements and bodies that are read.
use Rattle.std.specs.Prelude.{◌≡◌, ℕ, zero, suc, ◌+◌, ◌≤◌, Bool, true, false, ◌&&◌, ◌||◌, List, [], ◌∷◌, drop, length, codes, IsTrue, Ok, Err}
use Rattle.std.proofs.Common.{refl, sym, ◌∙◌, arith}
use Rattle.bpl_grammar.proofs.Booleans.{and_first, and_second, none_of as neither_two}
use Rattle.bpl_lex.specs.Token.{id}
use Rattle.bpl_ast.specs.Statement.{Stmt}
use Rattle.bpl_grammar.specs.Lexeme.{Lexeme}
use Rattle.bpl_grammar.specs.Part.{Part, some, ◌⨟◌, ◌∣◌, maybe, many, inside, rule, stmt, body, block, var, guard, if_stmt, inv}
use Rattle.bpl_grammar.specs.Grammar.{grammar, the, round}
use Rattle.bpl_grammar.specs.Judge.{deep, judge}
use Rattle.bpl_grammar.specs.Reads.{sunk, opens}
use Rattle.bpl_grammar.specs.Terminal.{Terminal, kind, fixed, is, is_any, sees}
use Rattle.bpl_grammar.specs.Follows.{Bars}
use Rattle.bpl_grammar.specs.Reading.{Read, sees_one, read_name, repeated}
use Rattle.bpl_grammar.specs.ReadStatements.{stmt_firsts, read_label, read_labels, formula_with, guarded_with, invs_with, vars_with, block_with, branch_with, branches_with, last_with, if_with, while_with, action_with, stmt_with, stmts_with, read_stmts, body_with}
use Rattle.bpl_grammar.specs.Law.{fate}
use Rattle.bpl_grammar.proofs.Firsts.{shut}
use Rattle.bpl_grammar.proofs.Sunk.{judge_rule, judge_order, alike}
use Rattle.bpl_grammar.proofs.Decisions.{sinks, absent_at, present_at, done_at, more_at, left_at, right_at}
use Rattle.bpl_grammar.proofs.Tails.{bars_then, bars_over}
use Rattle.bpl_grammar.proofs.Fates.{AreFirsts, fate_as, chain, branch, opens_behind, seen_there, token_then, token_last}
use Rattle.bpl_grammar.proofs.TypeLaws.{name_fate}
use Rattle.bpl_grammar.proofs.ExprFates.{opens_two}
use Rattle.bpl_grammar.proofs.Lengths.{Most, less_behind}
use Rattle.bpl_grammar.proofs.StatementParts.{target_rest, label_rest, named_stmt, from_check, plain_part, plain_havoc, plain_call, plain_if, plain_while, plain_break, plain_return, plain_goto, targets_part, check_part, havoc_part, call_part, while_part, break_part, return_part, goto_part, alike_stmt, alike_plain}
use Rattle.bpl_grammar.proofs.StmtShrinks.{label_shrinks, branch_less, stmt_less, stmts_most}
use Rattle.bpl_grammar.proofs.StatementFates.{formula_part, formula_fate, havoc_fate, goto_fate, return_fate, break_fate, assign_fate, call_fate, guarded_fate, invs_fate, vars_fate}
use Rattle.bpl_grammar.proofs.Turns.{and_other, loop_fate, many_fate, barred, bar, seen_any, opens_any, opens_sees, behind_name}

-- what may follow a statement
abbrev pub else_word : List Terminal
else_word = fixed (codes "else") ∷ []

-- every first token of a statement; a name begins two of the alternatives

again : (i a b h r : Bool) → (i || (a || (b || (h || (i || r))))) ≡ (i || (a || (b || (h || r))))
again true a b h r = refl
again false a b h r = refl

pub firsts_stmt : AreFirsts stmt_firsts (rule stmt)
firsts_stmt t = again (is (kind id) t) (is (fixed (codes "assert")) t) (is (fixed (codes "assume")) t) (is (fixed (codes "havoc")) t)
    (is_any (fixed (codes "call") ∷ fixed (codes "if") ∷ fixed (codes "while") ∷ fixed (codes "break") ∷ fixed (codes "return") ∷ fixed (codes "goto") ∷ []) t)

-- labels

abbrev begins_label : List Lexeme → Bool
begins_label ls = sees (kind id) ls && sees (fixed (codes ":")) (drop 1 ls)

module _ (n : ℕ) (fits : n ≤ 200) (k : Part) where
  -- Id ":" Stmt
  label_fate : (ls : List Lexeme) → IsTrue (begins_label ls) → judge (sunk n (rule stmt) ⨟ k) ls ≡ fate (sunk n (rule stmt) ⨟ k) (read_label ls)
  unfolding read_label
  label_fate ls h = judge_rule n stmt k ls ∙ (alike n (grammar stmt) (named_stmt ∣ from_check) k alike_stmt ls
      ∙ (left_at n named_stmt from_check k ls refl (shut (kind id) from_check ls (and_first (sees (kind id) ls) (sees (fixed (codes ":")) (drop 1 ls)) h) refl)
      ∙ (behind_name n (label_rest ∣ target_rest) label_rest k ls fits (left_at n label_rest target_rest k (drop 1 ls) refl (shut (fixed (codes ":")) target_rest (drop 1 ls) (and_second (sees (kind id) ls) (sees (fixed (codes ":")) (drop 1 ls)) h) refl))
      ∙ (judge_order n (some id) label_rest k ls ∙ (name_fate n (sunk n label_rest ⨟ k) ls fits
      ∙ chain (read_name ls) _ (sunk n label_rest ⨟ k) (sunk n (rule stmt) ⨟ k) (λ m rest. judge_order n (the ":") (rule stmt) k rest ∙ token_last n (fixed (codes ":")) (sunk n (rule stmt) ⨟ k) _ rest fits refl))))))

  -- a statement that isn't labelled
  no_label : (ls : List Lexeme) → begins_label ls ≡ false → judge (sunk n (rule stmt) ⨟ k) ls ≡ judge (sunk n plain_part ⨟ k) ls
  no_label ls h = judge_rule n stmt k ls ∙ (alike n (grammar stmt) (named_stmt ∣ from_check) k alike_stmt ls ∙ (sides (sees (kind id) ls) refl ∙ alike n _ _ k alike_plain ls))
    where
      sides : (s : Bool) → sees (kind id) ls ≡ s → judge (sunk n (named_stmt ∣ from_check) ⨟ k) ls ≡ judge (sunk n ((some id ⨟ target_rest) ∣ from_check) ⨟ k) ls
      sides true e = left_at n named_stmt from_check k ls refl (shut (kind id) from_check ls e refl)
          ∙ (behind_name n (label_rest ∣ target_rest) target_rest k ls fits (right_at n label_rest target_rest k (drop 1 ls) refl (opens_behind (fixed (codes ":")) (rule stmt) (drop 1 ls) ∙ and_other (sees (kind id) ls) (sees (fixed (codes ":")) (drop 1 ls)) h e))
          ∙ sym (left_at n (some id ⨟ target_rest) from_check k ls refl (shut (kind id) from_check ls e refl)))
      sides false e = right_at n named_stmt from_check k ls refl (opens_behind (kind id) (label_rest ∣ target_rest) ls ∙ e)
          ∙ sym (right_at n (some id ⨟ target_rest) from_check k ls refl (opens_behind (kind id) target_rest ls ∙ e))

  labels_fate : (ls : List Lexeme) → judge (sunk n (rule stmt) ⨟ k) ls ≡ fate (sunk n plain_part ⨟ k) (read_labels ls)
  unfolding read_labels
  labels_fate ls = loop_fate (sunk n (rule stmt) ⨟ k) (sunk n plain_part ⨟ k) begins_label read_label label_shrinks label_fate no_label ls

module _ (room n : ℕ) (total : n + room ≡ 200) (inner : List Lexeme → Read (List Stmt)) (s : (ls : List Lexeme) → Most (length ls) (inner ls))
    (law : (j : Part) → Bars stmt_firsts j → Bars else_word j → (ls : List Lexeme) → judge (sunk (suc n) (many (rule stmt)) ⨟ j) ls ≡ fate j (inner ls)) where
  fits : n ≤ 200
  fits = omega (arith, total)

  -- Block = "{" {Stmt} "}"
  block_fate : (k : Part) (ls : List Lexeme) → judge (sunk n (rule block) ⨟ k) ls ≡ fate k (block_with room inner ls)
  unfolding block_with
  block_fate k ls = judge_rule n block k ls ∙ token_then n (fixed (codes "{")) (inside (many (rule stmt)) ⨟ the "}") k k _ ls fits refl (λ rest. judge_order n (inside (many (rule stmt))) (the "}") k rest
      ∙ (law (sunk n (the "}") ⨟ k) (bars_then stmt_firsts n (the "}") k refl refl) (bars_then else_word n (the "}") k refl refl) rest
      ∙ chain (inner rest) _ (sunk n (the "}") ⨟ k) k (λ ss closed. token_last n (fixed (codes "}")) k _ closed fits refl)))

  -- If = "if" "(" Guard ")" Block ["else" (If | Block)]

  abbrev else_part : Part
  else_part = maybe (the "else" ⨟ (rule if_stmt ∣ rule block))

  abbrev last_part : Part
  last_part = maybe (the "else" ⨟ rule block)

  branch_fate : (k : Part) (ls : List Lexeme) → judge (sunk n (rule if_stmt) ⨟ k) ls ≡ fate (sunk n else_part ⨟ k) (branch_with room inner ls)
  unfolding branch_with
  branch_fate k ls = judge_rule n if_stmt k ls ∙ token_then n (fixed (codes "if")) (round (rule guard) ⨟ rule block ⨟ else_part) k (sunk n else_part ⨟ k) _ ls fits refl (λ rest.
      judge_order n (round (rule guard)) (rule block ⨟ else_part) k rest ∙ (guarded_fate room n total (sunk n (rule block ⨟ else_part) ⨟ k) rest
      ∙ chain (guarded_with room rest) _ (sunk n (rule block ⨟ else_part) ⨟ k) (sunk n else_part ⨟ k) (λ g opened. judge_order n (rule block) else_part k opened
      ∙ (block_fate (sunk n else_part ⨟ k) opened ∙ fate_as _ (block_with room inner opened) (sunk n else_part ⨟ k)))))

  abbrev begins_else : List Lexeme → Bool
  begins_else ls = sees (fixed (codes "else")) ls && sees (fixed (codes "if")) (drop 1 ls)

  module _ (k : Part) (b : Bars else_word k) where
    -- "else", and what is behind it
    else_there : (p : Part) (ls : List Lexeme) → IsTrue (sees (fixed (codes "else")) ls) → judge (sunk n (maybe (the "else" ⨟ p)) ⨟ k) ls ≡ judge (sunk n p ⨟ k) (drop 1 ls)
    else_there p ls h = present_at n (the "else" ⨟ p) k ls refl (opens_behind (fixed (codes "else")) p ls ∙ h) (bar (fixed (codes "else")) k ls b h)
        ∙ (judge_order n (the "else") p k ls ∙ seen_there n (fixed (codes "else")) (sunk n p ⨟ k) ls fits refl h)

    else_absent : (p : Part) (ls : List Lexeme) → sees (fixed (codes "else")) ls ≡ false → judge (sunk n (maybe (the "else" ⨟ p)) ⨟ k) ls ≡ judge k ls
    else_absent p ls h = absent_at n (the "else" ⨟ p) k ls refl (opens_behind (fixed (codes "else")) p ls ∙ h)

    else_if : (ls : List Lexeme) → IsTrue (begins_else ls) → judge (sunk n else_part ⨟ k) ls ≡ fate (sunk n else_part ⨟ k) (branch_with room inner (drop 1 ls))
    else_if ls h = else_there (rule if_stmt ∣ rule block) ls (and_first (sees (fixed (codes "else")) ls) (sees (fixed (codes "if")) (drop 1 ls)) h)
        ∙ (left_at n (rule if_stmt) (rule block) k (drop 1 ls) refl (shut (fixed (codes "if")) (rule block) (drop 1 ls) (and_second (sees (fixed (codes "else")) ls) (sees (fixed (codes "if")) (drop 1 ls)) h) refl)
        ∙ branch_fate k (drop 1 ls))

    no_else_if : (ls : List Lexeme) → begins_else ls ≡ false → judge (sunk n else_part ⨟ k) ls ≡ judge (sunk n last_part ⨟ k) ls
    no_else_if ls h = sides (sees (fixed (codes "else")) ls) refl
      where
        sides : (e : Bool) → sees (fixed (codes "else")) ls ≡ e → judge (sunk n else_part ⨟ k) ls ≡ judge (sunk n last_part ⨟ k) ls
        sides true e = else_there (rule if_stmt ∣ rule block) ls e
            ∙ (right_at n (rule if_stmt) (rule block) k (drop 1 ls) refl (opens_sees (fixed (codes "if")) (rule if_stmt) (drop 1 ls) (λ t. refl) ∙ and_other (sees (fixed (codes "else")) ls) (sees (fixed (codes "if")) (drop 1 ls)) h e)
            ∙ sym (else_there (rule block) ls e))
        sides false e = else_absent (rule if_stmt ∣ rule block) ls e ∙ sym (else_absent (rule block) ls e)

    elses_fate : (ls : List Lexeme) → judge (sunk n else_part ⨟ k) ls ≡ fate (sunk n last_part ⨟ k) (repeated begins_else (λ us. branch_with room inner (drop 1 us)) ls)
    elses_fate ls = loop_fate (sunk n else_part ⨟ k) (sunk n last_part ⨟ k) begins_else (λ us. branch_with room inner (drop 1 us)) (λ us. less_behind us (branch_with room inner (drop 1 us)) (branch_less room inner s (drop 1 us))) else_if no_else_if ls

    branches_fate : (ls : List Lexeme) → judge (sunk n (rule if_stmt) ⨟ k) ls ≡ fate (sunk n last_part ⨟ k) (branches_with room inner ls)
    unfolding branches_with
    branches_fate ls = branch_fate k ls ∙ chain (branch_with room inner ls) _ (sunk n else_part ⨟ k) (sunk n last_part ⨟ k)
        (λ x rest. elses_fate rest ∙ fate_as _ (repeated begins_else (λ us. branch_with room inner (drop 1 us)) rest) (sunk n last_part ⨟ k))

    last_fate : (ls : List Lexeme) → judge (sunk n last_part ⨟ k) ls ≡ fate k (last_with room inner ls)
    unfolding last_with
    last_fate ls = branch (sees (fixed (codes "else")) ls) (judge (sunk n last_part ⨟ k) ls) _ _ k
        (λ h. else_there (rule block) ls h ∙ (block_fate k (drop 1 ls) ∙ fate_as _ (block_with room inner (drop 1 ls)) k))
        (λ h. else_absent (rule block) ls h)

    if_fate : (ls : List Lexeme) → judge (sunk n (rule if_stmt) ⨟ k) ls ≡ fate k (if_with room inner ls)
    unfolding if_with
    if_fate ls = branches_fate ls ∙ chain (branches_with room inner ls) _ (sunk n last_part ⨟ k) k (λ bs rest. last_fate rest ∙ fate_as _ (last_with room inner rest) k)

  -- "while" "(" Guard ")" {Inv} Block
  while_fate : (k : Part) (ls : List Lexeme) → judge (sunk n while_part ⨟ k) ls ≡ fate k (while_with room inner ls)
  unfolding while_with
  while_fate k ls = token_then n (fixed (codes "while")) (round (rule guard) ⨟ many (rule inv) ⨟ rule block) k k _ ls fits refl (λ rest.
      judge_order n (round (rule guard)) (many (rule inv) ⨟ rule block) k rest ∙ (guarded_fate room n total (sunk n (many (rule inv) ⨟ rule block) ⨟ k) rest
      ∙ chain (guarded_with room rest) _ (sunk n (many (rule inv) ⨟ rule block) ⨟ k) k (λ g kept. judge_order n (many (rule inv)) (rule block) k kept
      ∙ (invs_fate room n total (sunk n (rule block) ⨟ k) (bars_then (fixed (codes "free") ∷ fixed (codes "invariant") ∷ []) n (rule block) k refl refl) kept
      ∙ chain (invs_with room kept) _ (sunk n (rule block) ⨟ k) k (λ is opened. block_fate k opened ∙ fate_as _ (block_with room inner opened) k)))))

  -- a statement without labels

  module _ (k : Part) (b : Bars else_word k) where
    asserted : (ls : List Lexeme) → IsTrue (sees (fixed (codes "assert")) ls) → judge (sunk n plain_part ⨟ k) ls ≡ fate k (formula_with room (drop 1 ls))
    asserted ls h = left_at n check_part plain_havoc k ls refl (shut (fixed (codes "assert")) plain_havoc ls h refl) ∙ (judge_order n (the "assert" ∣ the "assume") formula_part k ls
        ∙ (left_at n (the "assert") (the "assume") (sunk n formula_part ⨟ k) ls refl (shut (fixed (codes "assert")) (the "assume") ls h refl)
        ∙ (seen_there n (fixed (codes "assert")) (sunk n formula_part ⨟ k) ls fits refl h ∙ formula_fate room n total k (drop 1 ls))))

    assumed : (ls : List Lexeme) → IsTrue (sees (fixed (codes "assume")) ls) → judge (sunk n plain_part ⨟ k) ls ≡ fate k (formula_with room (drop 1 ls))
    assumed ls h = left_at n check_part plain_havoc k ls refl (shut (fixed (codes "assume")) plain_havoc ls h refl) ∙ (judge_order n (the "assert" ∣ the "assume") formula_part k ls
        ∙ (right_at n (the "assert") (the "assume") (sunk n formula_part ⨟ k) ls refl (shut (fixed (codes "assume")) (the "assert") ls h refl)
        ∙ (seen_there n (fixed (codes "assume")) (sunk n formula_part ⨟ k) ls fits refl h ∙ formula_fate room n total k (drop 1 ls))))

    action_fate : (ls : List Lexeme) → judge (sunk n plain_part ⨟ k) ls ≡ fate k (action_with room inner ls)
    unfolding action_with
    action_fate ls = branch (sees (fixed (codes "assert")) ls) (judge (sunk n plain_part ⨟ k) ls) _ _ k (λ h. asserted ls h ∙ fate_as _ (formula_with room (drop 1 ls)) k)
        (λ no_assert. branch (sees (fixed (codes "assume")) ls) (judge (sunk n plain_part ⨟ k) ls) _ _ k (λ h. assumed ls h ∙ fate_as _ (formula_with room (drop 1 ls)) k)
        (λ no_assume. right_at n check_part plain_havoc k ls refl (opens_two (fixed (codes "assert")) (fixed (codes "assume")) formula_part ls refl ∙ neither_two (sees (fixed (codes "assert")) ls) (sees (fixed (codes "assume")) ls) no_assert no_assume)
        ∙ branch (sees (fixed (codes "havoc")) ls) (judge (sunk n plain_havoc ⨟ k) ls) _ _ k
        (λ h. left_at n havoc_part plain_call k ls refl (shut (fixed (codes "havoc")) plain_call ls h refl) ∙ havoc_fate n fits k ls)
        (λ h. right_at n havoc_part plain_call k ls refl (opens_behind (fixed (codes "havoc")) _ ls ∙ h) ∙ branch (sees (fixed (codes "call")) ls) (judge (sunk n plain_call ⨟ k) ls) _ _ k
        (λ h. left_at n call_part plain_if k ls refl (shut (fixed (codes "call")) plain_if ls h refl) ∙ call_fate room n total k ls)
        (λ h. right_at n call_part plain_if k ls refl (opens_behind (fixed (codes "call")) _ ls ∙ h) ∙ branch (sees (fixed (codes "if")) ls) (judge (sunk n plain_if ⨟ k) ls) _ _ k
        (λ h. left_at n (rule if_stmt) plain_while k ls refl (shut (fixed (codes "if")) plain_while ls h refl) ∙ if_fate k b ls)
        (λ h. right_at n (rule if_stmt) plain_while k ls refl (opens_sees (fixed (codes "if")) (rule if_stmt) ls (λ t. refl) ∙ h) ∙ branch (sees (fixed (codes "while")) ls) (judge (sunk n plain_while ⨟ k) ls) _ _ k
        (λ h. left_at n while_part plain_break k ls refl (shut (fixed (codes "while")) plain_break ls h refl) ∙ while_fate k ls)
        (λ h. right_at n while_part plain_break k ls refl (opens_behind (fixed (codes "while")) _ ls ∙ h) ∙ branch (sees (fixed (codes "break")) ls) (judge (sunk n plain_break ⨟ k) ls) _ _ k
        (λ h. left_at n break_part plain_return k ls refl (shut (fixed (codes "break")) plain_return ls h refl) ∙ break_fate n fits k ls)
        (λ h. right_at n break_part plain_return k ls refl (opens_behind (fixed (codes "break")) _ ls ∙ h) ∙ branch (sees (fixed (codes "return")) ls) (judge (sunk n plain_return ⨟ k) ls) _ _ k
        (λ h. left_at n return_part plain_goto k ls refl (shut (fixed (codes "return")) plain_goto ls h refl) ∙ return_fate n fits k ls)
        (λ h. right_at n return_part plain_goto k ls refl (opens_behind (fixed (codes "return")) _ ls ∙ h) ∙ branch (sees (fixed (codes "goto")) ls) (judge (sunk n plain_goto ⨟ k) ls) _ _ k
        (λ h. left_at n goto_part targets_part k ls refl (shut (fixed (codes "goto")) targets_part ls h refl) ∙ goto_fate n fits k ls)
        (λ h. right_at n goto_part targets_part k ls refl (opens_behind (fixed (codes "goto")) _ ls ∙ h) ∙ assign_fate room n total k ls)))))))))

    stmt_fate : (ls : List Lexeme) → judge (sunk n (rule stmt) ⨟ k) ls ≡ fate k (stmt_with room inner ls)
    unfolding stmt_with
    stmt_fate ls = labels_fate n fits k ls ∙ chain (read_labels ls) _ (sunk n plain_part ⨟ k) k (λ ns rest. action_fate rest ∙ fate_as _ (action_with room inner rest) k)

  roomy_fate : (k : Part) → Bars stmt_firsts k → Bars else_word k → (ls : List Lexeme) → judge (sunk n (many (rule stmt)) ⨟ k) ls ≡ fate k (stmts_with room inner ls)
  unfolding stmts_with
  roomy_fate k c b ls = many_fate n stmt_firsts (rule stmt) k (sees_one stmt_firsts) (stmt_with room inner) (stmt_less room inner s) refl firsts_stmt c (seen_any stmt_firsts)
      (λ us. stmt_fate (sunk n (many (rule stmt)) ⨟ k) (bars_over else_word n (many (rule stmt)) k refl b) us) ls

-- statements, where there is room for so many nestings

pub stmts_fate : (room n : ℕ) → n + room ≡ 201 → (k : Part) → Bars stmt_firsts k → Bars else_word k → (ls : List Lexeme) → judge (sunk n (many (rule stmt)) ⨟ k) ls ≡ fate k (read_stmts room ls)
stmts_fate zero n q k c b ls = branch (sees_one stmt_firsts ls) (judge (sunk n (many (rule stmt)) ⨟ k) ls) (Err (deep, ls)) (Ok ([], ls)) k
    (λ h. more_at n (rule stmt) k ls refl (opened ∙ h) (barred stmt_firsts k ls c (sym (seen_any stmt_firsts ls) ∙ h)) ∙ sinks n (rule stmt) (sunk n (many (rule stmt)) ⨟ k) ls refl (opened ∙ h) (omega (arith, q)))
    (λ h. done_at n (rule stmt) k ls refl (opened ∙ h))
  where
    opened : opens (rule stmt) ls ≡ sees_one stmt_firsts ls
    opened = opens_any stmt_firsts (rule stmt) ls firsts_stmt ∙ sym (seen_any stmt_firsts ls)
stmts_fate (suc room) n q k c b ls = roomy_fate room n (omega (arith, q)) (read_stmts room) (stmts_most room) (stmts_fate room (suc n) (omega (arith, q))) k c b ls

-- Body = "{" {Var} {Stmt} "}"
pub body_fate : (room n : ℕ) → suc n + room ≡ 200 → (k : Part) (ls : List Lexeme) → judge (sunk n (rule body) ⨟ k) ls ≡ fate k (body_with room ls)
unfolding body_with
body_fate room n total k ls = judge_rule n body k ls ∙ token_then n (fixed (codes "{")) (inside (many (rule var) ⨟ many (rule stmt)) ⨟ the "}") k k _ ls (omega (arith, total)) refl (λ rest.
    judge_order n (inside (many (rule var) ⨟ many (rule stmt))) (the "}") k rest ∙ (judge_order (suc n) (many (rule var)) (many (rule stmt)) (sunk n (the "}") ⨟ k) rest
    ∙ (vars_fate room (suc n) total (sunk (suc n) (many (rule stmt)) ⨟ (sunk n (the "}") ⨟ k)) (bars_over (fixed (codes "var") ∷ []) (suc n) (many (rule stmt)) (sunk n (the "}") ⨟ k) refl (bars_then (fixed (codes "var") ∷ []) n (the "}") k refl refl)) rest
    ∙ chain (vars_with room rest) _ (sunk (suc n) (many (rule stmt)) ⨟ (sunk n (the "}") ⨟ k)) k (λ vs after.
    stmts_fate (suc room) (suc n) (omega (arith, total)) (sunk n (the "}") ⨟ k) (bars_then stmt_firsts n (the "}") k refl refl) (bars_then else_word n (the "}") k refl refl) after
    ∙ chain (read_stmts (suc room) after) _ (sunk n (the "}") ⨟ k) k (λ ss closed. token_last n (fixed (codes "}")) k _ closed (omega (arith, total)) refl)))))
