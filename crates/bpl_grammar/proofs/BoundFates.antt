-- What becomes of attributes, triggers, groups of names and quantifiers that are read.
use Rattle.std.specs.Prelude.{◌≡◌, ℕ, zero, suc, ◌+◌, ◌≤◌, false, ◌||◌, List, [], ◌∷◌, drop, length, codes, IsTrue, Ok}
use Rattle.std.proofs.Common.{refl, ap, sym, ◌∙◌, arith}
use Rattle.bpl_grammar.proofs.Booleans.{none_of as neither_two}
use Rattle.bv_base.specs.declared.place.Place.{Place}
use Rattle.bpl_lex.specs.Token.{id, text}
use Rattle.bpl_ast.specs.Tree.{Quantifier, for_all, exists, Expr}
use Rattle.bpl_grammar.specs.Lexeme.{Lexeme}
use Rattle.bpl_grammar.specs.Part.{Part, some, ◌⨟◌, ◌∣◌, maybe, many, inside, rule, tpar, type, ids, group, groups, attr, arg, trig, e as expression, es}
use Rattle.bpl_grammar.specs.Grammar.{the, listed as listed_part}
use Rattle.bpl_grammar.specs.Judge.{judge}
use Rattle.bpl_grammar.specs.Reads.{sunk, opens}
use Rattle.bpl_grammar.specs.Terminal.{Terminal, kind, fixed, sees, firsts}
use Rattle.bpl_grammar.specs.Follows.{any_operation, Bars, opening, After, Closes}
use Rattle.bpl_grammar.specs.Reading.{Read, followed, read_as, place_of, repeated, read_fixed, read_name, listed, read_ids}
use Rattle.bpl_grammar.specs.ReadTypes.{read_params, read_type}
use Rattle.bpl_grammar.specs.ReadExpressions.{Inner, whole, arg_with, attr_args, attr_inside, attr_with, attrs_with, trig_with, mark_with, marks_with, group_with, groups_with, bound_with, inside_with, e_with}
use Rattle.bpl_grammar.proofs.Firsts.{shut}
use Rattle.bpl_grammar.proofs.Sunk.{judge_rule, judge_order, alike}
use Rattle.bpl_grammar.proofs.Choices.{opens_sunk, empties_then}
use Rattle.bpl_grammar.proofs.Decisions.{absent_at, present_at, present_else, done_at, more_at, left_at, right_at}
use Rattle.bpl_grammar.proofs.Tails.{bars_follows, bars_then, bars_over}
use Rattle.bpl_grammar.proofs.Loops.{Shrinks}
use Rattle.bpl_grammar.proofs.Found.{token_ok}
use Rattle.bpl_grammar.specs.Law.{fate}
use Rattle.bpl_grammar.proofs.Fates.{fate_as, chain, chain_by, branch, opens_token, opens_behind, seen_there, token_fate, token_then, token_last, refused_fate}
use Rattle.bpl_grammar.proofs.TypeTrees.{comma}
use Rattle.bpl_grammar.proofs.TypeLaws.{name_fate, listed_fate, ids_fate, params_fate, type_fate}
use Rattle.bpl_grammar.proofs.ExprParts.{bound_part, after_over}
use Rattle.bpl_grammar.proofs.ExprFates.{repeated_fate, opens_two}
use Rattle.bpl_grammar.proofs.MarkParts.{attr_body, mark_part, alike_marks}

brace : Terminal
brace = fixed (codes "{")

opened_rest : (ls rest : List Lexeme) → read_fixed (codes "{") ls ≡ Ok (tt, rest) → rest ≡ drop 1 ls
opened_rest ls rest h = sym (ap (λ us. drop 1 us) (token_ok (fixed (codes "{")) ls rest h).there)

module _ (n room : ℕ) (inner : Inner → List Lexeme → Read Expr) (total : n + room ≡ 200) (within : (ls : List Lexeme) (x : Expr) (rest : List Lexeme) → inner whole ls ≡ Ok (x, rest) → suc n ≤ 200) (shrinks : Shrinks (inner whole)) (arg_shrinks : Shrinks (arg_with inner))
    (law_whole : (k : Part) → After (suc n) k → (ls : List Lexeme) → judge (sunk (suc n) (rule expression) ⨟ k) ls ≡ fate k (inner whole ls)) where
  fits : n ≤ 200
  fits = omega (arith, total)

  -- Arg = string | E
  arg_fate : suc n ≤ 200 → (k : Part) → After (suc n) k → (ls : List Lexeme) → judge (sunk (suc n) (rule arg) ⨟ k) ls ≡ fate k (arg_with inner ls)
  unfolding arg_with
  arg_fate b k f ls = judge_rule (suc n) arg k ls ∙ branch (sees (kind text) ls) (judge (sunk (suc n) (some text ∣ rule expression) ⨟ k) ls) _ _ k
      (λ h. left_at (suc n) (some text) (rule expression) k ls refl (shut (kind text) (rule expression) ls h refl) ∙ seen_there (suc n) (kind text) k ls b refl h)
      (λ no. right_at (suc n) (some text) (rule expression) k ls refl (opens_token (kind text) ls ∙ no) ∙ (law_whole k f ls ∙ fate_as _ (inner whole ls) k))

  -- ":" Id [Arg {"," Arg}], behind which a brace closes
  args_fate : suc n ≤ 200 → (k : Part) (ls : List Lexeme) → judge (sunk (suc n) attr_body ⨟ (sunk n (the "}") ⨟ k)) ls ≡ fate (sunk n (the "}") ⨟ k) (attr_args inner ls)
  unfolding attr_args
  args_fate b k ls = token_then (suc n) (fixed (codes ":")) (some id ⨟ maybe (listed_part (rule arg))) (sunk n (the "}") ⨟ k) (sunk n (the "}") ⨟ k) _ ls b refl (λ rest.
      judge_order (suc n) (some id) (maybe (listed_part (rule arg))) (sunk n (the "}") ⨟ k) rest ∙ (name_fate (suc n) (sunk (suc n) (maybe (listed_part (rule arg))) ⨟ (sunk n (the "}") ⨟ k)) rest b
      ∙ chain (read_name rest) _ (sunk (suc n) (maybe (listed_part (rule arg))) ⨟ (sunk n (the "}") ⨟ k)) (sunk n (the "}") ⨟ k) (λ m after.
      branch (sees (fixed (codes "}")) after) (judge (sunk (suc n) (maybe (listed_part (rule arg))) ⨟ (sunk n (the "}") ⨟ k)) after) _ _ (sunk n (the "}") ⨟ k)
      (λ h. absent_at (suc n) (listed_part (rule arg)) (sunk n (the "}") ⨟ k) after refl (shut (fixed (codes "}")) (listed_part (rule arg)) after h refl))
      (λ no. present_else (suc n) (listed_part (rule arg)) (sunk n (the "}") ⨟ k) after (empties_then n (the "}") k refl) (opens_sunk n after (the "}") k refl ∙ (opens_token (fixed (codes "}")) after ∙ no))
      ∙ (listed_fate (suc n) (rule arg) (sunk n (the "}") ⨟ k) (arg_with inner) arg_shrinks (bars_then (comma ∷ []) n (the "}") k refl refl)
      (λ us. arg_fate b (sunk (suc n) (many (the "," ⨟ rule arg)) ⨟ (sunk n (the "}") ⨟ k)) (after_over (suc n) (suc n) n (many (the "," ⨟ rule arg)) (the "}") k refl refl refl refl refl) us) (λ us x r q. b) after
      ∙ fate_as _ (listed (arg_with inner) after) (sunk n (the "}") ⨟ k))))))

  body_fate : (k : Part) (ls : List Lexeme) → judge (sunk (suc n) attr_body ⨟ (sunk n (the "}") ⨟ k)) ls ≡ fate (sunk n (the "}") ⨟ k) (attr_inside room inner ls)
  body_fate k ls = by_room room total
    where
      by_room : (r : ℕ) → n + r ≡ 200 → judge (sunk (suc n) attr_body ⨟ (sunk n (the "}") ⨟ k)) ls ≡ fate (sunk n (the "}") ⨟ k) (attr_inside r inner ls)
      by_room zero q = refused_fate (Unit {0}) (suc n) (fixed (codes ":") ∷ []) attr_body (sunk n (the "}") ⨟ k) ls (λ t. refl) refl (omega (arith, q))
      by_room (suc r) q = args_fate (omega (arith, q)) k ls

  -- Attr = "{" ":" Id [Arg {"," Arg}] "}"
  pub attr_fate : (k : Part) (ls : List Lexeme) → judge (sunk n (rule attr) ⨟ k) ls ≡ fate k (attr_with room inner ls)
  unfolding attr_with
  attr_fate k ls = judge_rule n attr k ls ∙ token_then n (fixed (codes "{")) (inside attr_body ⨟ the "}") k k _ ls fits refl (λ rest.
      judge_order n (inside attr_body) (the "}") k rest ∙ (body_fate k rest ∙ chain (attr_inside room inner rest) _ (sunk n (the "}") ⨟ k) k (λ u closed. token_fate n (fixed (codes "}")) k closed fits refl)))

  -- {Attr}, where what follows can't begin with a brace
  pub attrs_fate : Shrinks (attr_with room inner) → (k : Part) → Bars (fixed (codes "{") ∷ []) k → (ls : List Lexeme) → judge (sunk n (many (rule attr)) ⨟ k) ls ≡ fate k (attrs_with room inner ls)
  unfolding attrs_with repeated
  attrs_fate s k bars ls = repeated_fate n (rule attr) k (sees (fixed (codes "{"))) (attr_with room inner) s
      (λ us h. more_at n (rule attr) k us refl (opens_attr us ∙ h) (barred us h))
      (λ us h. done_at n (rule attr) k us refl (opens_attr us ∙ h))
      (λ us h. attr_fate (sunk n (many (rule attr)) ⨟ k) us) (suc (length ls)) ls (omega arith) ∙ fate_as _ (repeated (sees (fixed (codes "{"))) (attr_with room inner) ls) k
    where
      opens_attr : (us : List Lexeme) → opens (rule attr) us ≡ sees (fixed (codes "{")) us
      opens_attr us = opens_behind (fixed (codes "{")) (inside attr_body ⨟ the "}") us

      barred : (us : List Lexeme) → IsTrue (sees (fixed (codes "{")) us) → opens k us ≡ false
      barred [] h = refl
      barred (t ∷ ts) h = bars t (ap (λ x. x || false) h)

  -- Attr | Trig
  listed_es : (k : Part) (ls : List Lexeme) → judge (sunk (suc n) (rule es) ⨟ (sunk n (the "}") ⨟ k)) ls ≡ fate (sunk n (the "}") ⨟ k) (listed (inner whole) ls)
  listed_es k ls = judge_rule (suc n) es (sunk n (the "}") ⨟ k) ls ∙ listed_fate (suc n) (rule expression) (sunk n (the "}") ⨟ k) (inner whole) shrinks (bars_then (comma ∷ []) n (the "}") k refl refl)
      (λ us. law_whole (sunk (suc n) (many (the "," ⨟ rule expression)) ⨟ (sunk n (the "}") ⨟ k)) (after_over (suc n) (suc n) n (many (the "," ⨟ rule expression)) (the "}") k refl refl refl refl refl) us) within ls

  open_mark : (k : Part) (ls : List Lexeme) → judge (sunk n mark_part ⨟ k) ls ≡ fate (sunk n (inside (attr_body ∣ rule es) ⨟ the "}") ⨟ k) (read_fixed (codes "{") ls)
  open_mark k ls = judge_order n (the "{") (inside (attr_body ∣ rule es) ⨟ the "}") k ls ∙ token_fate n (fixed (codes "{")) (sunk n (inside (attr_body ∣ rule es) ⨟ the "}") ⨟ k) ls fits refl

  mark_fate : (k : Part) (ls : List Lexeme) → judge (sunk n mark_part ⨟ k) ls ≡ fate k (mark_with room inner ls)
  unfolding mark_with attr_with trig_with
  mark_fate k ls = open_mark k ls ∙ branch (sees (fixed (codes ":")) (drop 1 ls)) (fate (sunk n (inside (attr_body ∣ rule es) ⨟ the "}") ⨟ k) (read_fixed (codes "{") ls)) _ _ k
      (λ h. chain_by (read_fixed (codes "{") ls) _ (sunk n (inside (attr_body ∣ rule es) ⨟ the "}") ⨟ k) k (λ u rest q.
      judge_order n (inside (attr_body ∣ rule es)) (the "}") k rest
      ∙ (left_at (suc n) attr_body (rule es) (sunk n (the "}") ⨟ k) rest refl (shut (fixed (codes ":")) (rule es) rest (ap (sees (fixed (codes ":"))) (opened_rest ls rest q) ∙ h) refl)
      ∙ (body_fate k rest ∙ chain (attr_inside room inner rest) (λ u closed. read_fixed (codes "}") closed) (sunk n (the "}") ⨟ k) k (λ u closed. token_fate n (fixed (codes "}")) k closed fits refl))))
      ∙ fate_as _ (followed (read_fixed (codes "{") ls) (λ u rest. followed (attr_inside room inner rest) (λ u closed. read_fixed (codes "}") closed))) k)
      (λ no. chain_by (read_fixed (codes "{") ls) _ (sunk n (inside (attr_body ∣ rule es) ⨟ the "}") ⨟ k) k (λ u rest q.
      judge_order n (inside (attr_body ∣ rule es)) (the "}") k rest
      ∙ (right_at (suc n) attr_body (rule es) (sunk n (the "}") ⨟ k) rest refl (opens_behind (fixed (codes ":")) (some id ⨟ maybe (listed_part (rule arg))) rest ∙ (ap (sees (fixed (codes ":"))) (opened_rest ls rest q) ∙ no))
      ∙ (listed_es k rest ∙ chain (listed (inner whole) rest) (λ xs closed. read_as (λ u. record { at = place_of ls; patterns = xs }) (read_fixed (codes "}") closed)) (sunk n (the "}") ⨟ k) k (λ xs closed. token_last n (fixed (codes "}")) k _ closed fits refl))))
      ∙ fate_as _ (followed (read_fixed (codes "{") ls) (λ u rest. followed (listed (inner whole) rest) (λ xs closed. read_as (λ u. record { at = place_of ls; patterns = xs }) (read_fixed (codes "}") closed)))) k)

  pub marks_fate : Shrinks (mark_with room inner) → (k : Part) → Bars (fixed (codes "{") ∷ []) k → (ls : List Lexeme) → judge (sunk n (many (rule attr ∣ rule trig)) ⨟ k) ls ≡ fate k (marks_with room inner ls)
  unfolding marks_with repeated
  marks_fate s k bars ls = alike n (many (rule attr ∣ rule trig)) (many mark_part) k alike_marks ls ∙ (repeated_fate n mark_part k (sees (fixed (codes "{"))) (mark_with room inner) s
      (λ us h. more_at n mark_part k us refl (opens_behind (fixed (codes "{")) _ us ∙ h) (barred us h))
      (λ us h. done_at n mark_part k us refl (opens_behind (fixed (codes "{")) _ us ∙ h))
      (λ us h. mark_fate (sunk n (many mark_part) ⨟ k) us) (suc (length ls)) ls (omega arith) ∙ fate_as _ (repeated (sees (fixed (codes "{"))) (mark_with room inner) ls) k)
    where
      barred : (us : List Lexeme) → IsTrue (sees (fixed (codes "{")) us) → opens k us ≡ false
      barred [] h = refl
      barred (t ∷ ts) h = bars t (ap (λ x. x || false) h)

-- groups of names

module _ (n room : ℕ) (inner : Inner → List Lexeme → Read Expr) (total : n + room ≡ 200) (group_shrinks : Shrinks (group_with room inner))
    (e_fate : (k : Part) → After n k → (ls : List Lexeme) → judge (sunk n (rule expression) ⨟ k) ls ≡ fate k (e_with room inner ls)) where
  -- Group = Ids ":" Type ["where" E]
  pub group_fate : (k : Part) → After n k → Bars (fixed (codes "where") ∷ []) k → (ls : List Lexeme) → judge (sunk n (rule group) ⨟ k) ls ≡ fate k (group_with room inner ls)
  unfolding group_with
  group_fate k f bars ls = judge_rule n group k ls ∙ (judge_order n (rule ids) typed_part k ls ∙ (ids_fate n (sunk n typed_part ⨟ k) ls (omega (arith, total)) (bars_then (comma ∷ []) n typed_part k refl refl)
      ∙ chain (read_ids ls) _ (sunk n typed_part ⨟ k) k (λ ns typed. token_then n (fixed (codes ":")) (rule type ⨟ where_part) k k _ typed (omega (arith, total)) refl (λ rest.
      judge_order n (rule type) where_part k rest ∙ (type_fate (suc room) n (omega (arith, total)) (sunk n where_part ⨟ k) rest
      ∙ chain (read_type (suc room) rest) _ (sunk n where_part ⨟ k) k (λ t after. branch (sees (fixed (codes "where")) after) (judge (sunk n where_part ⨟ k) after) _ _ k
      (λ h. present_at n (the "where" ⨟ rule expression) k after refl (opens_behind (fixed (codes "where")) (rule expression) after ∙ h) (barred after h)
      ∙ (judge_order n (the "where") (rule expression) k after ∙ (seen_there n (fixed (codes "where")) (sunk n (rule expression) ⨟ k) after (omega (arith, total)) refl h
      ∙ (e_fate k f (drop 1 after) ∙ fate_as _ (e_with room inner (drop 1 after)) k))))
      (λ no. absent_at n (the "where" ⨟ rule expression) k after refl (opens_behind (fixed (codes "where")) (rule expression) after ∙ no))))))))
    where
      where_part : Part
      where_part = maybe (the "where" ⨟ rule expression)

      typed_part : Part
      typed_part = the ":" ⨟ rule type ⨟ where_part

      barred : (us : List Lexeme) → IsTrue (sees (fixed (codes "where")) us) → opens k us ≡ false
      barred [] h = refl
      barred (t ∷ ts) h = bars t (ap (λ x. x || false) h)

  -- Groups = Group {"," Group}
  pub groups_fate : (k : Part) → Closes k → (ls : List Lexeme) → judge (sunk n (rule groups) ⨟ k) ls ≡ fate k (groups_with room inner ls)
  unfolding groups_with
  groups_fate k c ls = judge_rule n groups k ls ∙ listed_fate n (rule group) k (group_with room inner) group_shrinks c.no_comma
      (λ us. group_fate (sunk n (many (the "," ⨟ rule group)) ⨟ k) (record {
        follows = bars_follows n (sunk n (many (the "," ⨟ rule group)) ⨟ k) (bars_over (firsts any_operation) n (many (the "," ⨟ rule group)) k refl c.no_operation);
        no_call = bars_over opening n (many (the "," ⨟ rule group)) k refl c.no_call;
      }) (bars_over (fixed (codes "where") ∷ []) n (many (the "," ⨟ rule group)) k refl c.no_where) us) (λ us x r q. omega (arith, total)) ls

  -- [TPar] Groups "::" {Attr | Trig} E
  module _ (marks_fate : (k : Part) → Bars (fixed (codes "{") ∷ []) k → (ls : List Lexeme) → judge (sunk n (many (rule attr ∣ rule trig)) ⨟ k) ls ≡ fate k (marks_with room inner ls)) where
    bound_fate : (q : Quantifier) (p : Place) (k : Part) → After n k → (ls : List Lexeme)
        → judge (sunk n (maybe (rule tpar) ⨟ rule groups ⨟ the "::" ⨟ many (rule attr ∣ rule trig) ⨟ rule expression) ⨟ k) ls ≡ fate k (bound_with room inner q p ls)
    unfolding bound_with
    bound_fate q p k f ls = judge_order n (maybe (rule tpar)) (rule groups ⨟ colons) k ls
        ∙ (params_fate n (sunk n (rule groups ⨟ colons) ⨟ k) ls (omega (arith, total)) (λ h. opens_sunk n ls (rule groups ⨟ colons) k refl ∙ shut (fixed (codes "<")) (rule groups ⨟ colons) ls h refl)
        ∙ chain (read_params ls) _ (sunk n (rule groups ⨟ colons) ⨟ k) k (λ ps rest.
        judge_order n (rule groups) colons k rest ∙ (groups_fate (sunk n colons ⨟ k) (record {
          no_operation = bars_then (firsts any_operation) n colons k refl refl;
          no_call = bars_then opening n colons k refl refl;
          no_where = bars_then (fixed (codes "where") ∷ []) n colons k refl refl;
          no_comma = bars_then (comma ∷ []) n colons k refl refl;
        }) rest
        ∙ chain (groups_with room inner rest) _ (sunk n colons ⨟ k) k (λ gs after. token_then n (fixed (codes "::")) (many (rule attr ∣ rule trig) ⨟ rule expression) k k _ after (omega (arith, total)) refl (λ marked.
        judge_order n (many (rule attr ∣ rule trig)) (rule expression) k marked ∙ (marks_fate (sunk n (rule expression) ⨟ k) (bars_then (fixed (codes "{") ∷ []) n (rule expression) k refl refl) marked
        ∙ chain (marks_with room inner marked) _ (sunk n (rule expression) ⨟ k) k (λ ts body. e_fate k f body ∙ fate_as _ (e_with room inner body) k)))))))
      where
        colons : Part
        colons = the "::" ⨟ many (rule attr ∣ rule trig) ⨟ rule expression

    -- what stands in parentheses
    pub inside_fate : (p : Place) (k : Part) → After n k → (ls : List Lexeme) → judge (sunk n (rule expression ∣ bound_part) ⨟ k) ls ≡ fate k (inside_with room inner p ls)
    unfolding inside_with
    inside_fate p k f ls = branch (sees (fixed (codes "forall")) ls) (judge (sunk n (rule expression ∣ bound_part) ⨟ k) ls) _ _ k
        (λ h. right_at n (rule expression) bound_part k ls refl (shut (fixed (codes "forall")) (rule expression) ls h refl) ∙ (judge_order n (the "forall" ∣ the "exists") bound k ls
        ∙ (left_at n (the "forall") (the "exists") (sunk n bound ⨟ k) ls refl (shut (fixed (codes "forall")) (the "exists") ls h refl)
        ∙ (seen_there n (fixed (codes "forall")) (sunk n bound ⨟ k) ls (omega (arith, total)) refl h ∙ bound_fate for_all p k f (drop 1 ls)))))
        (λ no. branch (sees (fixed (codes "exists")) ls) (judge (sunk n (rule expression ∣ bound_part) ⨟ k) ls) _ _ k
        (λ h. right_at n (rule expression) bound_part k ls refl (shut (fixed (codes "exists")) (rule expression) ls h refl) ∙ (judge_order n (the "forall" ∣ the "exists") bound k ls
        ∙ (right_at n (the "forall") (the "exists") (sunk n bound ⨟ k) ls refl (opens_token (fixed (codes "forall")) ls ∙ no)
        ∙ (seen_there n (fixed (codes "exists")) (sunk n bound ⨟ k) ls (omega (arith, total)) refl h ∙ bound_fate exists p k f (drop 1 ls)))))
        (λ neither. left_at n (rule expression) bound_part k ls refl (opens_two (fixed (codes "forall")) (fixed (codes "exists")) bound ls refl ∙ neither_two (sees (fixed (codes "forall")) ls) (sees (fixed (codes "exists")) ls) no neither) ∙ e_fate k f ls))
      where
        bound : Part
        bound = maybe (rule tpar) ⨟ rule groups ⨟ the "::" ⨟ many (rule attr ∣ rule trig) ⨟ rule expression
