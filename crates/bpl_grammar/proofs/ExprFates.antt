-- What becomes of expressions that are read, production by production.
use Rattle.std.specs.Prelude.{◌≡◌, ℕ, zero, suc, ◌<◌, ◌≤◌, Bool, true, false, ◌||◌, cond, List, [], ◌∷◌, drop, length, codes, IsTrue, Some, None, Option}
use Rattle.std.proofs.Common.{refl, ap, ◌∙◌, arith}
use Rattle.bpl_grammar.proofs.Booleans.{none_of as neither_two}
use Rattle.bpl_lex.specs.Token.{number as number_kind}
use Rattle.bpl_ast.specs.Tree.{Relation, eq, ne, lt, le, gt, ge, Expr}
use Rattle.bpl_grammar.specs.Lexeme.{Lexeme}
use Rattle.bpl_grammar.specs.Part.{Part, ◌⨟◌, ◌∣◌, maybe, many, inside, rule, e as expression, imp, log, rel, sum, prod, un, post, atom}
use Rattle.bpl_grammar.specs.Grammar.{grammar, the}
use Rattle.bpl_grammar.specs.Derivative.{empties}
use Rattle.bpl_grammar.specs.Judge.{judge}
use Rattle.bpl_grammar.specs.Reads.{sunk, opens}
use Rattle.bpl_grammar.specs.Terminal.{Terminal, kind, fixed, is, sees, sees_any, firsts, apart, apart_from}
use Rattle.bpl_grammar.specs.Follows.{Operation, index, factor, term, relation, conjunct, disjunct, consequent, equivalent, operation, relation_sign, After}
use Rattle.bpl_grammar.specs.Reading.{Read, read_as, turn, repeated_within, repeated, read_behind, read_run}
use Rattle.bpl_grammar.specs.ReadExpressions.{Inner, operand, relation_at, compared, index_with, indices_with, post_with, atom_with, un_with, factors_with, prod_with, term_with, terms_with, sum_with, rel_with, rels_with, log_with, imp_with, e_with}
use Prim.Native.String.{String}
use Rattle.bpl_grammar.proofs.Firsts.{shut, opens_firsts, starts_firsts}
use Rattle.bpl_grammar.proofs.Sunk.{judge_rule, judge_order, alike}
use Rattle.bpl_grammar.proofs.Decisions.{token, absent_at, done_at, left_at, right_at}
use Rattle.bpl_grammar.proofs.Loops.{Shrinks}
use Rattle.bpl_grammar.specs.Law.{fate}
use Rattle.bpl_grammar.proofs.Fates.{fate_as, chain, chain_by, branch, opens_token, opens_behind, seen_there, behind_within}
use Rattle.bpl_grammar.proofs.ExprParts.{more_follows, present_follows, run_first, run_second, alike_imp, after_many, after_maybe, after_runs, after_deeper}

-- a run of an operation with one sign

module _ {A : Type 0} (n : ℕ) (o : Operation) (c : Terminal) (p k : Part) (is : operation o ≡ token c ⨟ p) (item : List Lexeme → Read A) (b : n ≤ 200) (a : IsTrue (apart c (kind number_kind))) (s : Shrinks item) (f : After n k)
    (law : (j : Part) → After n j → (ls : List Lexeme) → judge (sunk n p ⨟ j) ls ≡ fate j (item ls)) where
  follows : After n (sunk n (many (token c ⨟ p)) ⨟ k)
  follows = rw (← is) (after_many n o k f)

  more : (ls : List Lexeme) → IsTrue (sees c ls) → judge (sunk n (many (token c ⨟ p)) ⨟ k) ls ≡ judge (sunk n (token c ⨟ p) ⨟ (sunk n (many (token c ⨟ p)) ⨟ k)) ls
  more ls h = rw (← is) (more_follows n o k ls f.follows (rw is (opens_behind c p ls ∙ h)))

  done : (ls : List Lexeme) → sees c ls ≡ false → judge (sunk n (many (token c ⨟ p)) ⨟ k) ls ≡ judge k ls
  done ls h = done_at n (token c ⨟ p) k ls (not_empty_token c p) (opens_behind c p ls ∙ h)
    where
      not_empty_token : (c : Terminal) (p : Part) → empties 12 (token c ⨟ p) ≡ false
      not_empty_token (kind l) p = refl
      not_empty_token (fixed w) p = refl

  pub behind_fate : (ls : List Lexeme) → judge (sunk n (many (token c ⨟ p)) ⨟ k) ls ≡ fate k (read_behind c item ls)
  unfolding repeated
  behind_fate ls = behind_within n c p k item b a s more done (law (sunk n (many (token c ⨟ p)) ⨟ k) follows) (suc (length ls)) ls (omega arith)

  pub run_fate : (ls : List Lexeme) → judge (sunk n (p ⨟ many (token c ⨟ p)) ⨟ k) ls ≡ fate k (read_run c item ls)
  run_fate ls = judge_order n p (many (token c ⨟ p)) k ls ∙ (law (sunk n (many (token c ⨟ p)) ⨟ k) follows ls
      ∙ chain (item ls) (λ x rest. read_as (λ xs. x ∷ xs) (read_behind c item rest)) (sunk n (many (token c ⨟ p)) ⨟ k) k
      (λ x rest. behind_fate rest ∙ fate_as (λ xs. x ∷ xs) (read_behind c item rest) k))

-- one of two signs

two_any : (c d : Terminal) (ls : List Lexeme) → sees_any (c ∷ d ∷ []) ls ≡ (sees c ls || sees d ls)
two_any c d [] = refl
two_any c d (t ∷ ts) = or_last (is c t) (is d t)
  where
    or_last : (a b : Bool) → (a || (b || false)) ≡ (a || b)
    or_last true b = refl
    or_last false true = refl
    or_last false false = refl

pub opens_two : (c d : Terminal) (p : Part) (ls : List Lexeme) → firsts ((token c ∣ token d) ⨟ p) ≡ c ∷ d ∷ [] → opens ((token c ∣ token d) ⨟ p) ls ≡ (sees c ls || sees d ls)
opens_two c d p ls h = opens_firsts ls ((token c ∣ token d) ⨟ p) ∙ (ap (λ cs. sees_any cs ls) h ∙ two_any c d ls)

pub other_two : (a b : Bool) → IsTrue (a || b) → a ≡ false → IsTrue b
other_two true b h g = absurd (cc)
other_two false b h g = h

-- a repetition of an operation, read whole

pub repeated_fate : {A : Type 0} (n : ℕ) (p k : Part) (begins : List Lexeme → Bool) (item : List Lexeme → Read A) → Shrinks item
    → ((ls : List Lexeme) → IsTrue (begins ls) → judge (sunk n (many p) ⨟ k) ls ≡ judge (sunk n p ⨟ (sunk n (many p) ⨟ k)) ls)
    → ((ls : List Lexeme) → begins ls ≡ false → judge (sunk n (many p) ⨟ k) ls ≡ judge k ls)
    → ((ls : List Lexeme) → IsTrue (begins ls) → judge (sunk n p ⨟ (sunk n (many p) ⨟ k)) ls ≡ fate (sunk n (many p) ⨟ k) (item ls))
    → (m : ℕ) (ls : List Lexeme) → length ls < m → judge (sunk n (many p) ⨟ k) ls ≡ fate k (repeated_within begins item m ls)
repeated_fate n p k begins item s more done law zero ls w = absurd (omega arith)
repeated_fate {A} n p k begins item s more done law (suc m) ls w = turned (begins ls) refl (repeated_fate n p k begins item s more done law m)
  where
    turned : (t : Bool) → begins ls ≡ t → ((us : List Lexeme) → length us < m → judge (sunk n (many p) ⨟ k) us ≡ fate k (repeated_within begins item m us))
        → judge (sunk n (many p) ⨟ k) ls ≡ fate {A = List A} k (turn t (item ls) (λ rest. repeated_within begins item m rest) ls)
    turned false h ih = done ls h
    turned true h ih = more ls h ∙ (law ls h ∙ chain_by (item ls) (λ x rest. read_as (λ xs. x ∷ xs) (repeated_within begins item m rest)) (sunk n (many p) ⨟ k) k
        (λ x rest g. ih rest (omega (arith, w, s ls x rest g)) ∙ fate_as (λ xs. x ∷ xs) (repeated_within begins item m rest) k))

-- the sign of a relation

abbrev from_ge : Part
from_ge = the ">="

abbrev from_gt : Part
from_gt = the ">" ∣ from_ge

abbrev from_le : Part
from_le = the "<=" ∣ from_gt

abbrev from_lt : Part
from_lt = the "<" ∣ from_le

abbrev from_ne : Part
from_ne = the "!=" ∣ from_lt

abbrev pub at_sign : String → List Lexeme → Bool
at_sign w ls = sees (fixed (codes w)) ls

abbrev pub chosen : Bool → Bool → Bool → Bool → Bool → Bool → Option Relation
chosen a b c d e f = cond a (Some eq) (cond b (Some ne) (cond c (Some lt) (cond d (Some le) (cond e (Some gt) (cond f (Some ge) None)))))

module _ (n : ℕ) (k : Part) (ls : List Lexeme) (b : n ≤ 200) where
  first_sign : (w : String) (p : Part) → IsTrue (apart (fixed (codes w)) (kind number_kind)) → empties 12 p ≡ false → IsTrue (apart_from (fixed (codes w)) (firsts p)) → IsTrue (at_sign w ls) → judge (sunk n (the w ∣ p) ⨟ k) ls ≡ judge k (drop 1 ls)
  first_sign w p a x y h = left_at n (the w) p k ls x (shut (fixed (codes w)) p ls h y) ∙ seen_there n (fixed (codes w)) k ls b a h

  next_sign : (w : String) (p : Part) → at_sign w ls ≡ false → judge (sunk n p ⨟ k) ls ≡ judge k (drop 1 ls) → judge (sunk n (the w ∣ p) ⨟ k) ls ≡ judge k (drop 1 ls)
  next_sign w p h g = right_at n (the w) p k ls refl (opens_token (fixed (codes w)) ls ∙ h) ∙ g

  taken_sign : (a c d e f g : Bool) (r : Relation) → at_sign "==" ls ≡ a → at_sign "!=" ls ≡ c → at_sign "<" ls ≡ d → at_sign "<=" ls ≡ e → at_sign ">" ls ≡ f → at_sign ">=" ls ≡ g → chosen a c d e f g ≡ Some r → judge (sunk n relation_sign ⨟ k) ls ≡ judge k (drop 1 ls)
  taken_sign true c d e f g r h1 h2 h3 h4 h5 h6 q = first_sign "==" from_ne refl refl refl h1
  taken_sign false true d e f g r h1 h2 h3 h4 h5 h6 q = next_sign "==" from_ne h1 (first_sign "!=" from_lt refl refl refl h2)
  taken_sign false false true e f g r h1 h2 h3 h4 h5 h6 q = next_sign "==" from_ne h1 (next_sign "!=" from_lt h2 (first_sign "<" from_le refl refl refl h3))
  taken_sign false false false true f g r h1 h2 h3 h4 h5 h6 q = next_sign "==" from_ne h1 (next_sign "!=" from_lt h2 (next_sign "<" from_le h3 (first_sign "<=" from_gt refl refl refl h4)))
  taken_sign false false false false true g r h1 h2 h3 h4 h5 h6 q = next_sign "==" from_ne h1 (next_sign "!=" from_lt h2 (next_sign "<" from_le h3 (next_sign "<=" from_gt h4 (first_sign ">" from_ge refl refl refl h5))))
  taken_sign false false false false false true r h1 h2 h3 h4 h5 h6 q = next_sign "==" from_ne h1 (next_sign "!=" from_lt h2 (next_sign "<" from_le h3 (next_sign "<=" from_gt h4 (next_sign ">" from_ge h5 (seen_there n (fixed (codes ">=")) k ls b refl h6)))))
  taken_sign false false false false false false r h1 h2 h3 h4 h5 h6 q = absurd (cc)

relation_taken : (n : ℕ) (k : Part) (ls : List Lexeme) (r : Relation) → n ≤ 200 → relation_at ls ≡ Some r → judge (sunk n relation_sign ⨟ k) ls ≡ judge k (drop 1 ls)
relation_taken n k ls r b h = taken_sign n k ls b (at_sign "==" ls) (at_sign "!=" ls) (at_sign "<" ls) (at_sign "<=" ls) (at_sign ">" ls) (at_sign ">=" ls) r refl refl refl refl refl refl h

six_any : (ls : List Lexeme) → opens (operation relation) ls ≡ (at_sign "==" ls || (at_sign "!=" ls || (at_sign "<" ls || (at_sign "<=" ls || (at_sign ">" ls || (at_sign ">=" ls || false))))))
six_any [] = refl
six_any (t ∷ ts) = starts_firsts t (operation relation)

six_chosen : (a c d e f g : Bool) (r : Relation) → chosen a c d e f g ≡ Some r → IsTrue (a || (c || (d || (e || (f || (g || false))))))
six_chosen true c d e f g r h = refl
six_chosen false true d e f g r h = refl
six_chosen false false true e f g r h = refl
six_chosen false false false true f g r h = refl
six_chosen false false false false true g r h = refl
six_chosen false false false false false true r h = refl
six_chosen false false false false false false r h = absurd (cc)

a_relation : (ls : List Lexeme) (r : Relation) → relation_at ls ≡ Some r → IsTrue (opens (operation relation) ls)
a_relation ls r h = six_any ls ∙ six_chosen (at_sign "==" ls) (at_sign "!=" ls) (at_sign "<" ls) (at_sign "<=" ls) (at_sign ">" ls) (at_sign ">=" ls) r h

six_none : (a c d e f g : Bool) → chosen a c d e f g ≡ None → (a || (c || (d || (e || (f || (g || false)))))) ≡ false
six_none true c d e f g h = absurd (cc)
six_none false true d e f g h = absurd (cc)
six_none false false true e f g h = absurd (cc)
six_none false false false true f g h = absurd (cc)
six_none false false false false true g h = absurd (cc)
six_none false false false false false true h = absurd (cc)
six_none false false false false false false h = refl

no_relation : (ls : List Lexeme) → relation_at ls ≡ None → opens (operation relation) ls ≡ false
no_relation ls h = six_any ls ∙ six_none (at_sign "==" ls) (at_sign "!=" ls) (at_sign "<" ls) (at_sign "<=" ls) (at_sign ">" ls) (at_sign ">=" ls) h

module _ (n room : ℕ) (inner : Inner → List Lexeme → Read Expr) (b : n ≤ 200)
    (un_shrinks : Shrinks (un_with room inner)) (log_shrinks : Shrinks (log_with room inner)) (rel_shrinks : Shrinks (rel_with room inner)) (imp_shrinks : Shrinks (imp_with room inner)) (term_shrinks : Shrinks (term_with room inner)) (index_shrinks : Shrinks (index_with room inner))
    (law_operand : (k : Part) → After (suc n) k → (ls : List Lexeme) → judge (sunk (suc n) (rule un) ⨟ k) ls ≡ fate k (inner operand ls))
    (index_fate : (k : Part) (ls : List Lexeme) → judge (sunk n (operation index) ⨟ k) ls ≡ fate k (index_with room inner ls))
    (atom_fate : (k : Part) → After n k → (ls : List Lexeme) → judge (sunk n (rule atom) ⨟ k) ls ≡ fate k (atom_with room inner ls)) where
  -- Post = Atom {"[" E [":=" E] "]"}
  indices_fate : (k : Part) → After n k → (ls : List Lexeme) → judge (sunk n (many (operation index)) ⨟ k) ls ≡ fate k (indices_with room inner ls)
  unfolding indices_with repeated
  indices_fate k f ls = repeated_fate n (operation index) k (sees (fixed (codes "["))) (index_with room inner) index_shrinks
      (λ us h. more_follows n index k us f.follows (opens_behind (fixed (codes "[")) _ us ∙ h))
      (λ us h. done_at n (operation index) k us refl (opens_behind (fixed (codes "[")) _ us ∙ h))
      (λ us h. index_fate (sunk n (many (operation index)) ⨟ k) us) (suc (length ls)) ls (omega arith)

  post_fate : (k : Part) → After n k → (ls : List Lexeme) → judge (sunk n (rule post) ⨟ k) ls ≡ fate k (post_with room inner ls)
  unfolding post_with
  post_fate k f ls = judge_rule n post k ls ∙ (judge_order n (rule atom) (many (operation index)) k ls
      ∙ (atom_fate (sunk n (many (operation index)) ⨟ k) (after_many n index k f) ls
      ∙ chain (atom_with room inner ls) _ (sunk n (many (operation index)) ⨟ k) k (λ x rest. indices_fate k f rest ∙ fate_as _ (indices_with room inner rest) k)))

  -- Un = ("!" | "-") Un | Post
  sign_fate : (c : Terminal) (k : Part) (ls : List Lexeme) → After n k → IsTrue (apart c (kind number_kind)) → IsTrue (sees c ls) → judge (sunk n (token c) ⨟ (sunk (suc n) (rule un) ⨟ k)) ls ≡ fate k (inner operand (drop 1 ls))
  sign_fate c k ls f a h = seen_there n c (sunk (suc n) (rule un) ⨟ k) ls b a h ∙ law_operand k (after_deeper n k f) (drop 1 ls)

  pub un_fate : (k : Part) → After n k → (ls : List Lexeme) → judge (sunk n (rule un) ⨟ k) ls ≡ fate k (un_with room inner ls)
  unfolding un_with
  un_fate k f ls = judge_rule n un k ls ∙ branch (sees (fixed (codes "!")) ls) (judge (sunk n (grammar un) ⨟ k) ls) _ _ k
      (λ h. left_at n ((the "!" ∣ the "-") ⨟ inside (rule un)) (rule post) k ls refl (shut (fixed (codes "!")) (rule post) ls h refl)
      ∙ (judge_order n (the "!" ∣ the "-") (inside (rule un)) k ls
      ∙ (left_at n (the "!") (the "-") (sunk (suc n) (rule un) ⨟ k) ls refl (shut (fixed (codes "!")) (the "-") ls h refl)
      ∙ (sign_fate (fixed (codes "!")) k ls f refl h ∙ fate_as _ (inner operand (drop 1 ls)) k))))
      (λ no. branch (sees (fixed (codes "-")) ls) (judge (sunk n (grammar un) ⨟ k) ls) _ _ k
      (λ h. left_at n ((the "!" ∣ the "-") ⨟ inside (rule un)) (rule post) k ls refl (shut (fixed (codes "-")) (rule post) ls h refl)
      ∙ (judge_order n (the "!" ∣ the "-") (inside (rule un)) k ls
      ∙ (right_at n (the "!") (the "-") (sunk (suc n) (rule un) ⨟ k) ls refl (opens_token (fixed (codes "!")) ls ∙ no)
      ∙ (sign_fate (fixed (codes "-")) k ls f refl h ∙ fate_as _ (inner operand (drop 1 ls)) k))))
      (λ neither. right_at n ((the "!" ∣ the "-") ⨟ inside (rule un)) (rule post) k ls refl (opens_two (fixed (codes "!")) (fixed (codes "-")) (inside (rule un)) ls refl ∙ neither_two (sees (fixed (codes "!")) ls) (sees (fixed (codes "-")) ls) no neither) ∙ post_fate k f ls))

  -- Prod = Un {"*" Un}
  pub prod_fate : (k : Part) → After n k → (ls : List Lexeme) → judge (sunk n (rule prod) ⨟ k) ls ≡ fate k (prod_with room inner ls)
  unfolding prod_with factors_with
  prod_fate k f ls = judge_rule n prod k ls ∙ (run_fate n factor (fixed (codes "*")) (rule un) k refl (un_with room inner) b refl un_shrinks f un_fate ls ∙ fate_as _ (read_run (fixed (codes "*")) (un_with room inner) ls) k)

  -- ("+" | "-") Prod
  plus_fate : (c : Terminal) (k : Part) (ls : List Lexeme) → After n k → IsTrue (apart c (kind number_kind)) → IsTrue (sees c ls) → judge (sunk n (token c) ⨟ (sunk n (rule prod) ⨟ k)) ls ≡ fate k (prod_with room inner (drop 1 ls))
  plus_fate c k ls f a h = seen_there n c (sunk n (rule prod) ⨟ k) ls b a h ∙ prod_fate k f (drop 1 ls)

  term_fate : (k : Part) → After n k → (ls : List Lexeme) → IsTrue (sees (fixed (codes "+")) ls || sees (fixed (codes "-")) ls) → judge (sunk n (operation term) ⨟ k) ls ≡ fate k (term_with room inner ls)
  unfolding term_with
  term_fate k f ls g = judge_order n (the "+" ∣ the "-") (rule prod) k ls ∙ branch (sees (fixed (codes "+")) ls) (judge (sunk n (the "+" ∣ the "-") ⨟ (sunk n (rule prod) ⨟ k)) ls) _ _ k
      (λ h. left_at n (the "+") (the "-") (sunk n (rule prod) ⨟ k) ls refl (shut (fixed (codes "+")) (the "-") ls h refl)
      ∙ (plus_fate (fixed (codes "+")) k ls f refl h ∙ fate_as _ (prod_with room inner (drop 1 ls)) k))
      (λ no. right_at n (the "+") (the "-") (sunk n (rule prod) ⨟ k) ls refl (opens_token (fixed (codes "+")) ls ∙ no)
      ∙ (plus_fate (fixed (codes "-")) k ls f refl (other_two (sees (fixed (codes "+")) ls) (sees (fixed (codes "-")) ls) g no) ∙ fate_as _ (prod_with room inner (drop 1 ls)) k))

  opens_term : (ls : List Lexeme) → opens (operation term) ls ≡ (sees (fixed (codes "+")) ls || sees (fixed (codes "-")) ls)
  opens_term ls = opens_two (fixed (codes "+")) (fixed (codes "-")) (rule prod) ls refl

  terms_fate : (k : Part) → After n k → (ls : List Lexeme) → judge (sunk n (many (operation term)) ⨟ k) ls ≡ fate k (terms_with room inner ls)
  unfolding terms_with repeated
  terms_fate k f ls = repeated_fate n (operation term) k (λ us. sees (fixed (codes "+")) us || sees (fixed (codes "-")) us) (term_with room inner) term_shrinks
      (λ us h. more_follows n term k us f.follows (opens_term us ∙ h))
      (λ us h. done_at n (operation term) k us refl (opens_term us ∙ h))
      (λ us h. term_fate (sunk n (many (operation term)) ⨟ k) (after_many n term k f) us h) (suc (length ls)) ls (omega arith)

  -- Sum = Prod {("+" | "-") Prod}
  pub sum_fate : (k : Part) → After n k → (ls : List Lexeme) → judge (sunk n (rule sum) ⨟ k) ls ≡ fate k (sum_with room inner ls)
  unfolding sum_with
  sum_fate k f ls = judge_rule n sum k ls ∙ (judge_order n (rule prod) (many (operation term)) k ls
      ∙ (prod_fate (sunk n (many (operation term)) ⨟ k) (after_many n term k f) ls
      ∙ chain (prod_with room inner ls) _ (sunk n (many (operation term)) ⨟ k) k (λ x rest. terms_fate k f rest ∙ fate_as _ (terms_with room inner rest) k)))

  -- Rel = Sum [("==" | "!=" | "<" | "<=" | ">" | ">=") Sum]
  compared_fate : (k : Part) → After n k → (x : Expr) (ls : List Lexeme) (o : Option Relation) → relation_at ls ≡ o → judge (sunk n (maybe (operation relation)) ⨟ k) ls ≡ fate k (compared (sum_with room inner) x o ls)
  compared_fate k f x ls None h = absent_at n (operation relation) k ls refl (no_relation ls h)
  compared_fate k f x ls (Some r) h = present_follows n relation k ls f.follows (a_relation ls r h)
      ∙ (judge_order n relation_sign (rule sum) k ls ∙ (relation_taken n (sunk n (rule sum) ⨟ k) ls r b h ∙ (sum_fate k f (drop 1 ls) ∙ fate_as _ (sum_with room inner (drop 1 ls)) k)))

  pub rel_fate : (k : Part) → After n k → (ls : List Lexeme) → judge (sunk n (rule rel) ⨟ k) ls ≡ fate k (rel_with room inner ls)
  unfolding rel_with
  rel_fate k f ls = judge_rule n rel k ls ∙ (judge_order n (rule sum) (maybe (operation relation)) k ls
      ∙ (sum_fate (sunk n (maybe (operation relation)) ⨟ k) (after_maybe n relation k f) ls
      ∙ chain (sum_with room inner ls) _ (sunk n (maybe (operation relation)) ⨟ k) k (λ x rest. compared_fate k f x rest (relation_at rest) refl)))

  -- Log = Rel ({"&&" Rel} | {"||" Rel})
  pub log_fate : (k : Part) → After n k → (ls : List Lexeme) → judge (sunk n (rule log) ⨟ k) ls ≡ fate k (log_with room inner ls)
  unfolding log_with rels_with
  log_fate k f ls = judge_rule n log k ls ∙ (judge_order n (rule rel) (many (operation conjunct) ∣ many (operation disjunct)) k ls
      ∙ (rel_fate (sunk n (many (operation conjunct) ∣ many (operation disjunct)) ⨟ k) (after_runs n k f) ls
      ∙ chain (rel_with room inner ls) _ (sunk n (many (operation conjunct) ∣ many (operation disjunct)) ⨟ k) k (λ x rest.
      branch (sees (fixed (codes "&&")) rest) (judge (sunk n (many (operation conjunct) ∣ many (operation disjunct)) ⨟ k) rest) _ _ k
      (λ h. run_first n conjunct disjunct k rest (shut (fixed (codes "&&")) (operation disjunct) rest h refl)
      ∙ (behind_fate n conjunct (fixed (codes "&&")) (rule rel) k refl (rel_with room inner) b refl rel_shrinks f rel_fate rest ∙ fate_as _ (read_behind (fixed (codes "&&")) (rel_with room inner) rest) k))
      (λ no. run_second n conjunct disjunct k rest (opens_behind (fixed (codes "&&")) (rule rel) rest ∙ no)
      ∙ (behind_fate n disjunct (fixed (codes "||")) (rule rel) k refl (rel_with room inner) b refl rel_shrinks f rel_fate rest ∙ fate_as _ (read_behind (fixed (codes "||")) (rel_with room inner) rest) k)))))

  -- Imp = Log ["==>" Imp]
  pub imp_fate : (k : Part) → After n k → (ls : List Lexeme) → judge (sunk n (rule imp) ⨟ k) ls ≡ fate k (imp_with room inner ls)
  unfolding imp_with
  imp_fate k f ls = judge_rule n imp k ls ∙ (alike n (rule log ⨟ maybe (the "==>" ⨟ rule imp)) (rule log ⨟ many (the "==>" ⨟ rule log)) k alike_imp ls
      ∙ (run_fate n consequent (fixed (codes "==>")) (rule log) k refl (log_with room inner) b refl log_shrinks f log_fate ls ∙ fate_as _ (read_run (fixed (codes "==>")) (log_with room inner) ls) k))

  -- E = Imp {"<==>" Imp}
  pub e_fate : (k : Part) → After n k → (ls : List Lexeme) → judge (sunk n (rule expression) ⨟ k) ls ≡ fate k (e_with room inner ls)
  unfolding e_with
  e_fate k f ls = judge_rule n expression k ls ∙ (run_fate n equivalent (fixed (codes "<==>")) (rule imp) k refl (imp_with room inner) b refl imp_shrinks f imp_fate ls ∙ fate_as _ (read_run (fixed (codes "<==>")) (imp_with room inner) ls) k)
