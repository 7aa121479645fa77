-- What becomes of expressions that are read, where there is room for so many nestings.
use Rattle.std.specs.Prelude.{◌≡◌, ℕ, zero, suc, ◌+◌, ◌≤◌, Bool, true, false, ◌||◌, List, [], ◌∷◌, codes, Ok}
use Rattle.std.proofs.Common.{refl, ap, ◌∙◌, arith}
use Rattle.bv_base.specs.declared.place.Place.{Place}
use Rattle.bpl_lex.specs.Token.{id, number as number_kind}
use Rattle.bpl_ast.specs.Tree.{Expr}
use Rattle.bpl_grammar.specs.Lexeme.{Lexeme}
use Rattle.bpl_grammar.specs.Part.{Part, ◌⨟◌, ◌∣◌, maybe, many, rule, groups, attr, trig, e as expression, imp, log, rel, sum, prod, un, es, atom, group}
use Rattle.bpl_grammar.specs.Grammar.{the, round, attrs, listed as listed_part}
use Rattle.bpl_grammar.specs.Derivative.{empties}
use Rattle.bpl_grammar.specs.Judge.{judge}
use Rattle.bpl_grammar.specs.Reads.{sunk}
use Rattle.bpl_grammar.specs.Terminal.{kind, fixed, is, is_any, firsts}
use Rattle.bpl_grammar.specs.Follows.{index, operation, any_operation, Bars, opening, After, Ends, Closes}
use Rattle.bpl_grammar.specs.Reading.{listed}
use Rattle.bpl_grammar.specs.ReadExpressions.{Inner, whole, operand, enclosed, firsts_of, args_with, atom_with, index_with, un_with, prod_with, sum_with, rel_with, log_with, imp_with, e_with, group_with, groups_with, attr_with, attrs_with, marks_with, inside_with, read_inner}
use Rattle.bpl_grammar.specs.Law.{fate}
use Rattle.bpl_grammar.proofs.Firsts.{any_append}
use Rattle.bpl_grammar.proofs.Sunk.{judge_rule}
use Rattle.bpl_grammar.proofs.Tails.{bars_follows, bars_over}
use Rattle.bpl_grammar.proofs.Fates.{AreFirsts, refused_fate}
use Rattle.bpl_grammar.proofs.TypeLaws.{listed_fate}
use Rattle.bpl_grammar.proofs.ExprParts.{bound_part}
use Rattle.bpl_grammar.proofs.ExprFates.{un_fate, prod_fate, sum_fate, rel_fate, log_fate, imp_fate, e_fate}
use Rattle.bpl_grammar.proofs.AtomFates.{args_fate, atom_fate, index_fate}
use Rattle.bpl_grammar.proofs.BoundFates.{attr_fate, attrs_fate, marks_fate, group_fate, groups_fate, inside_fate}
use Rattle.bpl_grammar.proofs.ExprShrinks.{whole_shrinks, index_shrinks, un_shrinks, term_shrinks, rel_shrinks, log_shrinks, imp_shrinks, group_shrinks, arg_shrinks, attr_shrinks, mark_shrinks}

-- the production of what is read inside
abbrev pub part_of : Inner → Part
part_of whole = rule expression
part_of operand = rule un
part_of (enclosed p) = rule expression ∣ bound_part

-- its first tokens

twice : (i o p f : Bool) → (i || (i || (o || (p || (f || (p || false)))))) ≡ (i || (o || (p || (f || false))))
twice true o p f = refl
twice false true p f = refl
twice false false true f = refl
twice false false false true = refl
twice false false false false = refl

firsts_expr : AreFirsts (firsts_of whole) (rule expression)
firsts_expr t = ap (λ b. is (fixed (codes "!")) t || (is (fixed (codes "-")) t || (is (kind number_kind) t || (is (fixed (codes "true")) t || (is (fixed (codes "false")) t || b)))))
    (twice (is (kind id) t) (is (fixed (codes "old")) t) (is (fixed (codes "(")) t) (is (fixed (codes "if")) t))

turned : (x a b : Bool) → (x || (a || (b || false))) ≡ (a || (b || x))
turned true true b = refl
turned true false true = refl
turned true false false = refl
turned false true b = refl
turned false false true = refl
turned false false false = refl

firsts_enclosed : (p : Place) → AreFirsts (firsts_of (enclosed p)) (part_of (enclosed p))
firsts_enclosed p t = any_append (firsts (rule expression)) (firsts bound_part) t
    ∙ (turned (is_any (firsts (rule expression)) t) (is (fixed (codes "forall")) t) (is (fixed (codes "exists")) t)
    ∙ ap (λ b. is (fixed (codes "forall")) t || (is (fixed (codes "exists")) t || b)) (firsts_expr t))

pub firsts_inner : (g : Inner) → AreFirsts (firsts_of g) (part_of g)
firsts_inner whole = firsts_expr
firsts_inner operand = firsts_expr
firsts_inner (enclosed p) = firsts_enclosed p

-- what is read doesn't lie too deep
pub inner_within : (room n : ℕ) → n + room ≡ 201 → (ls : List Lexeme) (x : Expr) (rest : List Lexeme) → read_inner room whole ls ≡ Ok (x, rest) → n ≤ 200
inner_within zero n e ls x rest h = absurd (cc)
inner_within (suc room) n e ls x rest h = omega (arith, e)

module _ (n room : ℕ) (total : n + room ≡ 200) (law : (g : Inner) (k : Part) → After (suc n) k → (ls : List Lexeme) → judge (sunk (suc n) (part_of g) ⨟ k) ls ≡ fate k (read_inner room g ls)) where
  fits : n ≤ 200
  fits = omega (arith, total)

  within : (ls : List Lexeme) (x : Expr) (rest : List Lexeme) → read_inner room whole ls ≡ Ok (x, rest) → suc n ≤ 200
  within = inner_within room (suc n) (omega (arith, total))

  index_law : (k : Part) (ls : List Lexeme) → judge (sunk n (operation index) ⨟ k) ls ≡ fate k (index_with room (read_inner room) ls)
  index_law = index_fate n room (read_inner room) fits within (whole_shrinks room) (law whole) (λ p. law (enclosed p))

  pub atom_law : (k : Part) → After n k → (ls : List Lexeme) → judge (sunk n (rule atom) ⨟ k) ls ≡ fate k (atom_with room (read_inner room) ls)
  atom_law = atom_fate n room (read_inner room) fits within (whole_shrinks room) (law whole) (λ p. law (enclosed p))

  pub un_law : (k : Part) → After n k → (ls : List Lexeme) → judge (sunk n (rule un) ⨟ k) ls ≡ fate k (un_with room (read_inner room) ls)
  un_law = un_fate n room (read_inner room) fits (un_shrinks room) (log_shrinks room) (rel_shrinks room) (imp_shrinks room) (term_shrinks room) (index_shrinks room) (law operand) index_law atom_law

  pub prod_law : (k : Part) → After n k → (ls : List Lexeme) → judge (sunk n (rule prod) ⨟ k) ls ≡ fate k (prod_with room (read_inner room) ls)
  prod_law = prod_fate n room (read_inner room) fits (un_shrinks room) (log_shrinks room) (rel_shrinks room) (imp_shrinks room) (term_shrinks room) (index_shrinks room) (law operand) index_law atom_law

  pub sum_law : (k : Part) → After n k → (ls : List Lexeme) → judge (sunk n (rule sum) ⨟ k) ls ≡ fate k (sum_with room (read_inner room) ls)
  sum_law = sum_fate n room (read_inner room) fits (un_shrinks room) (log_shrinks room) (rel_shrinks room) (imp_shrinks room) (term_shrinks room) (index_shrinks room) (law operand) index_law atom_law

  pub rel_law : (k : Part) → After n k → (ls : List Lexeme) → judge (sunk n (rule rel) ⨟ k) ls ≡ fate k (rel_with room (read_inner room) ls)
  rel_law = rel_fate n room (read_inner room) fits (un_shrinks room) (log_shrinks room) (rel_shrinks room) (imp_shrinks room) (term_shrinks room) (index_shrinks room) (law operand) index_law atom_law

  pub log_law : (k : Part) → After n k → (ls : List Lexeme) → judge (sunk n (rule log) ⨟ k) ls ≡ fate k (log_with room (read_inner room) ls)
  log_law = log_fate n room (read_inner room) fits (un_shrinks room) (log_shrinks room) (rel_shrinks room) (imp_shrinks room) (term_shrinks room) (index_shrinks room) (law operand) index_law atom_law

  pub imp_law : (k : Part) → After n k → (ls : List Lexeme) → judge (sunk n (rule imp) ⨟ k) ls ≡ fate k (imp_with room (read_inner room) ls)
  imp_law = imp_fate n room (read_inner room) fits (un_shrinks room) (log_shrinks room) (rel_shrinks room) (imp_shrinks room) (term_shrinks room) (index_shrinks room) (law operand) index_law atom_law

  pub e_law : (k : Part) → After n k → (ls : List Lexeme) → judge (sunk n (rule expression) ⨟ k) ls ≡ fate k (e_with room (read_inner room) ls)
  e_law = e_fate n room (read_inner room) fits (un_shrinks room) (log_shrinks room) (rel_shrinks room) (imp_shrinks room) (term_shrinks room) (index_shrinks room) (law operand) index_law atom_law

  pub group_law : (k : Part) → After n k → Bars (fixed (codes "where") ∷ []) k → (ls : List Lexeme) → judge (sunk n (rule group) ⨟ k) ls ≡ fate k (group_with room (read_inner room) ls)
  group_law = group_fate n room (read_inner room) total (group_shrinks room) e_law

  marks_law : (k : Part) → Bars (fixed (codes "{") ∷ []) k → (ls : List Lexeme) → judge (sunk n (many (rule attr ∣ rule trig)) ⨟ k) ls ≡ fate k (marks_with room (read_inner room) ls)
  marks_law = marks_fate n room (read_inner room) total within (whole_shrinks room) (arg_shrinks room) (law whole) (mark_shrinks room)

  enclosed_law : (p : Place) (k : Part) → After n k → (ls : List Lexeme) → judge (sunk n (rule expression ∣ bound_part) ⨟ k) ls ≡ fate k (inside_with room (read_inner room) p ls)
  enclosed_law = inside_fate n room (read_inner room) total (group_shrinks room) e_law marks_law

-- an expression, the operand of a sign, or what stands in parentheses
pub inner_fate : (room n : ℕ) → n + room ≡ 201 → (g : Inner) (k : Part) → After n k → (ls : List Lexeme) → judge (sunk n (part_of g) ⨟ k) ls ≡ fate k (read_inner room g ls)
inner_fate zero n e g k f ls = refused_fate Expr n (firsts_of g) (part_of g) k ls (firsts_inner g) (filled g) (omega (arith, e))
  where
    filled : (g : Inner) → empties 12 (part_of g) ≡ false
    filled whole = refl
    filled operand = refl
    filled (enclosed p) = refl
inner_fate (suc room) n e whole k f ls = e_law n room (omega (arith, e)) (inner_fate room (suc n) (omega (arith, e))) k f ls
inner_fate (suc room) n e operand k f ls = un_law n room (omega (arith, e)) (inner_fate room (suc n) (omega (arith, e))) k f ls
inner_fate (suc room) n e (enclosed p) k f ls = enclosed_law n room (omega (arith, e)) (inner_fate room (suc n) (omega (arith, e))) p k f ls

-- what statements and declarations call

pub whole_fate : (room n : ℕ) → n + room ≡ 201 → (k : Part) → After n k → (ls : List Lexeme) → judge (sunk n (rule expression) ⨟ k) ls ≡ fate k (read_inner room whole ls)
whole_fate room n e k f ls = inner_fate room n e whole k f ls

after_item : (n : ℕ) (k : Part) → Ends k → After n (sunk n (many (the "," ⨟ rule expression)) ⨟ k)
after_item n k d = record {
  follows = bars_follows n (sunk n (many (the "," ⨟ rule expression)) ⨟ k) (bars_over (firsts any_operation) n (many (the "," ⨟ rule expression)) k refl d.no_operation);
  no_call = bars_over opening n (many (the "," ⨟ rule expression)) k refl d.no_call;
}

pub exprs_fate : (room n : ℕ) → n + room ≡ 201 → (k : Part) → Ends k → (ls : List Lexeme) → judge (sunk n (listed_part (rule expression)) ⨟ k) ls ≡ fate k (listed (read_inner room whole) ls)
exprs_fate room n e k d ls = listed_fate n (rule expression) k (read_inner room whole) (whole_shrinks room) d.no_comma
    (λ us. whole_fate room n e (sunk n (many (the "," ⨟ rule expression)) ⨟ k) (after_item n k d) us) (inner_within room n e) ls

pub es_law : (room n : ℕ) → n + room ≡ 201 → (k : Part) → Ends k → (ls : List Lexeme) → judge (sunk n (rule es) ⨟ k) ls ≡ fate k (listed (read_inner room whole) ls)
es_law room n e k d ls = judge_rule n es k ls ∙ exprs_fate room n e k d ls

module _ (room n : ℕ) (total : n + room ≡ 200) where
  pub inward : (g : Inner) (k : Part) → After (suc n) k → (ls : List Lexeme) → judge (sunk (suc n) (part_of g) ⨟ k) ls ≡ fate k (read_inner room g ls)
  inward = inner_fate room (suc n) (omega (arith, total))

  pub args_law : (k : Part) (ls : List Lexeme) → judge (sunk n (round (maybe (rule es))) ⨟ k) ls ≡ fate k (args_with room (read_inner room) ls)
  args_law = args_fate n room (read_inner room) (omega (arith, total)) (within n room total inward) (whole_shrinks room) (inward whole) (λ p. inward (enclosed p))

  pub groups_law : (k : Part) → Closes k → (ls : List Lexeme) → judge (sunk n (rule groups) ⨟ k) ls ≡ fate k (groups_with room (read_inner room) ls)
  groups_law = groups_fate n room (read_inner room) total (group_shrinks room) (e_law n room total inward)

  pub attr_law : (k : Part) (ls : List Lexeme) → judge (sunk n (rule attr) ⨟ k) ls ≡ fate k (attr_with room (read_inner room) ls)
  attr_law = attr_fate n room (read_inner room) total (within n room total inward) (whole_shrinks room) (arg_shrinks room) (inward whole)

  pub attrs_law : (k : Part) → Bars (fixed (codes "{") ∷ []) k → (ls : List Lexeme) → judge (sunk n attrs ⨟ k) ls ≡ fate k (attrs_with room (read_inner room) ls)
  attrs_law = attrs_fate n room (read_inner room) total (within n room total inward) (whole_shrinks room) (arg_shrinks room) (inward whole) (attr_shrinks room)

  pub index_part_law : (k : Part) (ls : List Lexeme) → judge (sunk n (operation index) ⨟ k) ls ≡ fate k (index_with room (read_inner room) ls)
  index_part_law = index_law n room total inward
