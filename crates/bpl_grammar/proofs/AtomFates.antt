-- What becomes of atoms and indices that are read.
use Rattle.std.specs.Prelude.{◌≡◌, ℕ, suc, ◌^◌, ◌≤◌, nat_lt, Bool, true, false, not, ◌&&◌, ◌||◌, cond, List, [], ◌∷◌, drop, codes, IsTrue, Ok, Err}
use Rattle.std.proofs.Common.{refl, ap, ◌∙◌}
use Rattle.bv_base.specs.declared.place.Place.{Place}
use Rattle.bpl_lex.specs.Token.{id, number as number_kind}
use Rattle.bpl_ast.specs.Tree.{Expr}
use Rattle.bpl_grammar.specs.Lexeme.{Lexeme, is_kind}
use Rattle.bpl_grammar.specs.Nesting.{value}
use Rattle.bpl_grammar.specs.Part.{Part, some, ◌⨟◌, ◌∣◌, maybe, many, inside, longest, rule, e as expression, es, atom}
use Rattle.bpl_grammar.specs.Grammar.{grammar, the, round, listed as listed_part}
use Rattle.bpl_grammar.specs.Judge.{wide, judge}
use Rattle.bpl_grammar.specs.Reads.{sunk, opens}
use Rattle.bpl_grammar.specs.Terminal.{kind, fixed, sees, firsts}
use Rattle.bpl_grammar.specs.Follows.{index, operation, any_operation, Bars, all_apart, opening, After}
use Rattle.bpl_grammar.specs.Reading.{Read, read_name, listed, text_at, place_of}
use Rattle.bpl_grammar.specs.ReadExpressions.{Inner, whole, enclosed, read_number, args_with, named_with, old_with, choose_with, enclosed_with, atom_with, index_with}
use Prim.Native.String.{String}
use Rattle.bpl_grammar.proofs.Firsts.{shut}
use Rattle.bpl_grammar.proofs.Sunk.{judge_rule, judge_order, judge_longest, alike}
use Rattle.bpl_grammar.proofs.Choices.{opens_sunk, empties_then}
use Rattle.bpl_grammar.proofs.Decisions.{absent_at, present_at, present_else, left_at, right_at, took, took_wide}
use Rattle.bpl_grammar.proofs.Tails.{bars_then}
use Rattle.bpl_grammar.proofs.Loops.{Shrinks}
use Rattle.bpl_grammar.specs.Law.{fate}
use Rattle.bpl_grammar.proofs.Fates.{fate_as, chain, chain_by, branch, opens_token, opens_behind, seen_there, unseen, token_then, token_last}
use Rattle.bpl_grammar.proofs.TypeTrees.{comma}
use Rattle.bpl_grammar.proofs.TypeLaws.{name_fate, listed_fate}
use Rattle.bpl_grammar.proofs.ExprParts.{bound_part, named_part, old_part, if_part, paren_part, from_if, from_old, from_name, from_false, from_true, atom_part, alike_atom, after_then, after_over, after_deeper}

-- numbers

number_there : (n : ℕ) (k : Part) (ls : List Lexeme) (b : n ≤ 200) → IsTrue (sees (kind number_kind) ls) → (v : Bool) → nat_lt (value (text_at ls)) (2 ^ 127) ≡ v
    → judge (sunk n (some number_kind) ⨟ k) ls ≡ fate {A = ℕ} k (cond v (Ok (value (text_at ls), drop 1 ls)) (Err (wide, ls)))
number_there n k [] b h v e = absurd (cc)
number_there n k (t ∷ ts) b h true e = took n (kind number_kind) k t ts b h (narrow (is_kind number_kind t) (nat_lt (value t.spelling) (2 ^ 127)) e)
  where
    narrow : (a c : Bool) → c ≡ true → (a && not c) ≡ false
    narrow true c e = rw e refl
    narrow false c e = refl
number_there n k (t ∷ ts) b h false e = took_wide n (kind number_kind) k t ts b h (broad (is_kind number_kind t) (nat_lt (value t.spelling) (2 ^ 127)) h e)
  where
    broad : (a c : Bool) → IsTrue a → c ≡ false → (a && not c) ≡ true
    broad a c h e = rw (h, e) refl

pub number_fate : (n : ℕ) (k : Part) (ls : List Lexeme) → n ≤ 200 → judge (sunk n (some number_kind) ⨟ k) ls ≡ fate k (read_number ls)
unfolding read_number
number_fate n k ls b = branch (sees (kind number_kind) ls) (judge (sunk n (some number_kind) ⨟ k) ls) _ _ k (λ h. number_there n k ls b h (nat_lt (value (text_at ls)) (2 ^ 127)) refl) (unseen n (kind number_kind) k ls)

module _ (n room : ℕ) (inner : Inner → List Lexeme → Read Expr) (b : n ≤ 200) (within : (ls : List Lexeme) (x : Expr) (rest : List Lexeme) → inner whole ls ≡ Ok (x, rest) → suc n ≤ 200) (shrinks : Shrinks (inner whole))
    (law_whole : (k : Part) → After (suc n) k → (ls : List Lexeme) → judge (sunk (suc n) (rule expression) ⨟ k) ls ≡ fate k (inner whole ls))
    (law_enclosed : (p : Place) (k : Part) → After (suc n) k → (ls : List Lexeme) → judge (sunk (suc n) (rule expression ∣ bound_part) ⨟ k) ls ≡ fate k (inner (enclosed p) ls)) where
  -- Es, behind which a sign closes
  pub es_fate : (w : String) (k : Part) → IsTrue (all_apart (firsts any_operation) (fixed (codes w) ∷ [])) → IsTrue (all_apart opening (fixed (codes w) ∷ [])) → IsTrue (all_apart (comma ∷ []) (fixed (codes w) ∷ []))
      → (ls : List Lexeme) → judge (sunk (suc n) (listed_part (rule expression)) ⨟ (sunk n (the w) ⨟ k)) ls ≡ fate (sunk n (the w) ⨟ k) (listed (inner whole) ls)
  es_fate w k x y z ls = listed_fate (suc n) (rule expression) (sunk n (the w) ⨟ k) (inner whole) shrinks (bars_then (comma ∷ []) n (the w) k refl z)
      (λ us. law_whole (sunk (suc n) (many (the "," ⨟ rule expression)) ⨟ (sunk n (the w) ⨟ k)) (after_over (suc n) (suc n) n (many (the "," ⨟ rule expression)) (the w) k refl refl refl x y) us) within ls

  -- "(" [Es] ")"
  pub args_fate : (k : Part) (ls : List Lexeme) → judge (sunk n (round (maybe (rule es))) ⨟ k) ls ≡ fate k (args_with room inner ls)
  unfolding args_with
  args_fate k ls = token_then n (fixed (codes "(")) (inside (maybe (rule es)) ⨟ the ")") k k _ ls b refl (λ rest.
      judge_order n (inside (maybe (rule es))) (the ")") k rest ∙ branch (sees (fixed (codes ")")) rest) (judge (sunk (suc n) (maybe (rule es)) ⨟ (sunk n (the ")") ⨟ k)) rest) _ _ k
      (λ h. absent_at (suc n) (rule es) (sunk n (the ")") ⨟ k) rest refl (shut (fixed (codes ")")) (rule es) rest h refl) ∙ seen_there n (fixed (codes ")")) k rest b refl h)
      (λ no. present_else (suc n) (rule es) (sunk n (the ")") ⨟ k) rest (empties_then n (the ")") k refl) (opens_sunk n rest (the ")") k refl ∙ (opens_token (fixed (codes ")")) rest ∙ no))
      ∙ (judge_rule (suc n) es (sunk n (the ")") ⨟ k) rest ∙ (es_fate ")" k refl refl refl rest
      ∙ chain (listed (inner whole) rest) _ (sunk n (the ")") ⨟ k) k (λ xs closed. token_last n (fixed (codes ")")) k _ closed b refl)))))

  -- Id | Id "(" [Es] ")"
  named_fate : (k : Part) → Bars opening k → (ls : List Lexeme) → judge (sunk n named_part ⨟ k) ls ≡ fate k (named_with room inner ls)
  unfolding named_with
  named_fate k bars ls = judge_order n (some id) (maybe (round (maybe (rule es)))) k ls ∙ (name_fate n (sunk n (maybe (round (maybe (rule es)))) ⨟ k) ls b
      ∙ chain (read_name ls) _ (sunk n (maybe (round (maybe (rule es)))) ⨟ k) k (λ f rest. branch (sees (fixed (codes "(")) rest) (judge (sunk n (maybe (round (maybe (rule es)))) ⨟ k) rest) _ _ k
      (λ h. present_at n (round (maybe (rule es))) k rest refl (opens_behind (fixed (codes "(")) (inside (maybe (rule es)) ⨟ the ")") rest ∙ h) (barred rest h) ∙ (args_fate k rest ∙ fate_as _ (args_with room inner rest) k))
      (λ no. absent_at n (round (maybe (rule es))) k rest refl (opens_behind (fixed (codes "(")) (inside (maybe (rule es)) ⨟ the ")") rest ∙ no))))
    where
      barred : (us : List Lexeme) → IsTrue (sees (fixed (codes "(")) us) → opens k us ≡ false
      barred [] h = refl
      barred (t ∷ ts) h = bars t (ap (λ x. x || false) h)

  -- E, behind which a sign closes
  closed_fate : (w : String) (k : Part) → IsTrue (all_apart (firsts any_operation) (fixed (codes w) ∷ [])) → IsTrue (all_apart opening (fixed (codes w) ∷ []))
      → (ls : List Lexeme) → judge (sunk n (inside (rule expression) ⨟ the w) ⨟ k) ls ≡ fate (sunk n (the w) ⨟ k) (inner whole ls)
  closed_fate w k x y ls = judge_order n (inside (rule expression)) (the w) k ls ∙ law_whole (sunk n (the w) ⨟ k) (after_then (suc n) n (the w) k refl x y) ls

  -- "old" "(" E ")"
  old_fate : (k : Part) (ls : List Lexeme) → judge (sunk n old_part ⨟ k) ls ≡ fate k (old_with room inner ls)
  unfolding old_with
  old_fate k ls = token_then n (fixed (codes "old")) (round (rule expression)) k k _ ls b refl (λ opened.
      token_then n (fixed (codes "(")) (inside (rule expression) ⨟ the ")") k k _ opened b refl (λ rest.
      closed_fate ")" k refl refl rest ∙ chain (inner whole rest) _ (sunk n (the ")") ⨟ k) k (λ x closed. token_last n (fixed (codes ")")) k _ closed b refl)))

  -- "if" E "then" E "else" E
  choose_fate : (k : Part) → After n k → (ls : List Lexeme) → judge (sunk n if_part ⨟ k) ls ≡ fate k (choose_with room inner ls)
  unfolding choose_with
  choose_fate k f ls = token_then n (fixed (codes "if")) (inside (rule expression ⨟ then_part)) k k _ ls b refl (λ condition.
      judge_order (suc n) (rule expression) then_part k condition ∙ (law_whole (sunk (suc n) then_part ⨟ k) (after_then (suc n) (suc n) then_part k refl refl refl) condition
      ∙ chain_by (inner whole condition) _ (sunk (suc n) then_part ⨟ k) k (λ c chosen h.
      token_then (suc n) (fixed (codes "then")) (rule expression ⨟ else_part) k k _ chosen (within condition c chosen h) refl (λ first.
      judge_order (suc n) (rule expression) else_part k first ∙ (law_whole (sunk (suc n) else_part ⨟ k) (after_then (suc n) (suc n) else_part k refl refl refl) first
      ∙ chain (inner whole first) _ (sunk (suc n) else_part ⨟ k) k (λ x other.
      token_then (suc n) (fixed (codes "else")) (longest (rule expression)) k k _ other (within condition c chosen h) refl (λ second.
      judge_longest (suc n) (rule expression) k second ∙ (law_whole k (after_deeper n k f) second ∙ fate_as _ (inner whole second) k))))))))
    where
      else_part : Part
      else_part = the "else" ⨟ longest (rule expression)

      then_part : Part
      then_part = the "then" ⨟ rule expression ⨟ else_part

  -- "(" E ")", or a quantifier
  enclosed_fate : (k : Part) (ls : List Lexeme) → judge (sunk n paren_part ⨟ k) ls ≡ fate k (enclosed_with room inner ls)
  unfolding enclosed_with
  enclosed_fate k ls = token_then n (fixed (codes "(")) (inside (rule expression ∣ bound_part) ⨟ the ")") k k _ ls b refl (λ rest.
      judge_order n (inside (rule expression ∣ bound_part)) (the ")") k rest ∙ (law_enclosed (place_of ls) (sunk n (the ")") ⨟ k) (after_then (suc n) n (the ")") k refl refl refl) rest
      ∙ chain (inner (enclosed (place_of ls)) rest) _ (sunk n (the ")") ⨟ k) k (λ x closed. token_last n (fixed (codes ")")) k _ closed b refl)))

  pub atom_fate : (k : Part) → After n k → (ls : List Lexeme) → judge (sunk n (rule atom) ⨟ k) ls ≡ fate k (atom_with room inner ls)
  unfolding atom_with
  atom_fate k f ls = judge_rule n atom k ls ∙ (alike n (grammar atom) atom_part k alike_atom ls ∙ branch (sees (kind number_kind) ls) (judge (sunk n atom_part ⨟ k) ls) _ _ k
      (λ h. left_at n (some number_kind) from_true k ls refl (shut (kind number_kind) from_true ls h refl) ∙ (number_fate n k ls b ∙ fate_as _ (read_number ls) k))
      (λ no. right_at n (some number_kind) from_true k ls refl (opens_token (kind number_kind) ls ∙ no) ∙ branch (sees (fixed (codes "true")) ls) (judge (sunk n from_true ⨟ k) ls) _ _ k
      (λ h. left_at n (the "true") from_false k ls refl (shut (fixed (codes "true")) from_false ls h refl) ∙ seen_there n (fixed (codes "true")) k ls b refl h)
      (λ no. right_at n (the "true") from_false k ls refl (opens_token (fixed (codes "true")) ls ∙ no) ∙ branch (sees (fixed (codes "false")) ls) (judge (sunk n from_false ⨟ k) ls) _ _ k
      (λ h. left_at n (the "false") from_name k ls refl (shut (fixed (codes "false")) from_name ls h refl) ∙ seen_there n (fixed (codes "false")) k ls b refl h)
      (λ no. right_at n (the "false") from_name k ls refl (opens_token (fixed (codes "false")) ls ∙ no) ∙ branch (sees (kind id) ls) (judge (sunk n from_name ⨟ k) ls) _ _ k
      (λ h. left_at n named_part from_old k ls refl (shut (kind id) from_old ls h refl) ∙ named_fate k f.no_call ls)
      (λ no. right_at n named_part from_old k ls refl (opens_behind (kind id) (maybe (round (maybe (rule es)))) ls ∙ no) ∙ branch (sees (fixed (codes "old")) ls) (judge (sunk n from_old ⨟ k) ls) _ _ k
      (λ h. left_at n old_part from_if k ls refl (shut (fixed (codes "old")) from_if ls h refl) ∙ old_fate k ls)
      (λ no. right_at n old_part from_if k ls refl (opens_behind (fixed (codes "old")) (round (rule expression)) ls ∙ no) ∙ branch (sees (fixed (codes "if")) ls) (judge (sunk n from_if ⨟ k) ls) _ _ k
      (λ h. left_at n if_part paren_part k ls refl (shut (fixed (codes "if")) paren_part ls h refl) ∙ choose_fate k f ls)
      (λ no. right_at n if_part paren_part k ls refl (opens_behind (fixed (codes "if")) _ ls ∙ no) ∙ enclosed_fate k ls)))))))

  -- "[" E [":=" E] "]"
  pub index_fate : (k : Part) (ls : List Lexeme) → judge (sunk n (operation index) ⨟ k) ls ≡ fate k (index_with room inner ls)
  unfolding index_with
  index_fate k ls = token_then n (fixed (codes "[")) (inside (rule expression ⨟ maybe (the ":=" ⨟ rule expression)) ⨟ the "]") k k _ ls b refl (λ rest.
      judge_order n (inside (rule expression ⨟ maybe (the ":=" ⨟ rule expression))) (the "]") k rest
      ∙ (judge_order (suc n) (rule expression) (maybe (the ":=" ⨟ rule expression)) (sunk n (the "]") ⨟ k) rest
      ∙ (law_whole (sunk (suc n) (maybe (the ":=" ⨟ rule expression)) ⨟ (sunk n (the "]") ⨟ k)) (after_over (suc n) (suc n) n (maybe (the ":=" ⨟ rule expression)) (the "]") k refl refl refl refl refl) rest
      ∙ chain_by (inner whole rest) _ (sunk (suc n) (maybe (the ":=" ⨟ rule expression)) ⨟ (sunk n (the "]") ⨟ k)) k (λ x after h.
      branch (sees (fixed (codes ":=")) after) (judge (sunk (suc n) (maybe (the ":=" ⨟ rule expression)) ⨟ (sunk n (the "]") ⨟ k)) after) _ _ k
      (λ s. present_at (suc n) (the ":=" ⨟ rule expression) (sunk n (the "]") ⨟ k) after refl (opens_behind (fixed (codes ":=")) (rule expression) after ∙ s) (opens_sunk n after (the "]") k refl ∙ shut (fixed (codes ":=")) (the "]") after s refl)
      ∙ (judge_order (suc n) (the ":=") (rule expression) (sunk n (the "]") ⨟ k) after ∙ (seen_there (suc n) (fixed (codes ":=")) (sunk (suc n) (rule expression) ⨟ (sunk n (the "]") ⨟ k)) after (within rest x after h) refl s
      ∙ (law_whole (sunk n (the "]") ⨟ k) (after_then (suc n) n (the "]") k refl refl refl) (drop 1 after)
      ∙ chain (inner whole (drop 1 after)) _ (sunk n (the "]") ⨟ k) k (λ y closed. token_last n (fixed (codes "]")) k _ closed b refl)))))
      (λ no. absent_at (suc n) (the ":=" ⨟ rule expression) (sunk n (the "]") ⨟ k) after refl (opens_behind (fixed (codes ":=")) (rule expression) after ∙ no) ∙ token_last n (fixed (codes "]")) k _ after b refl)))))
