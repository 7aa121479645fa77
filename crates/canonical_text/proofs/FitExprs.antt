-- Expressions fit the grammar, and one of their tokens lies as deep as is computed.
use Rattle.std.specs.Prelude.{◌≡◌, ℕ, suc, max, ◌≤◌, Bool, true, false, List, [], ◌∷◌, ◌++◌, IsTrue, Option, Some, None, codes}
use Rattle.std.proofs.Common.{refl, subst, arith, append_assoc}
use Rattle.bpl_grammar.proofs.Booleans.{neither as either_no}
use Rattle.bv_base.specs.declared.place.Place.{Place}
use Rattle.bpl_lex.specs.Token.{id, number as number_kind}
use Rattle.bpl_ast.specs.Tree.{Relation, eq, ne, lt, le, gt, ge, Expr, expr, Node, related, negation, minus, indexed, Exprs, no_exprs, item, Terms, no_terms, plus, less, Indices, no_indices, at_index, update}
use Rattle.canonical_text.specs.declared.level.Level.{Level}
use Rattle.canonical_text.specs.declared.level.Level.TheVariants.{Equivalence, Implication, Junction, Comparison, Sum, Product, Unary, Postfix, Atom}
use Rattle.canonical_text.specs.Level.{rank, is_looser}
use Rattle.canonical_text.specs.declared.sign.Sign.{Sign}
use Rattle.canonical_text.specs.declared.sign.Sign.TheVariants.{ImpliesSign, RelationSign, IndexSign}
use Rattle.canonical_text.specs.Parens.{level, is_caught, needs_parens}
use Rattle.canonical_text.specs.Glyph.{Glyph, word, opening, closing, prefix, index}
use Rattle.canonical_text.specs.Expression.{relation, behind, behind_term, operand, node, run, more_run, listed as listed_tokens, more_listed, terms, indices}
use Rattle.bpl_grammar.specs.Lexeme.{reads}
use Rattle.bpl_grammar.specs.Part.{Part, some, spelled, ◌⨟◌, ◌∣◌, maybe, many, inside, Rule, rule, e, imp, log, rel, sum, prod, un, post, es, atom}
use Rattle.bpl_grammar.specs.Grammar.{the, listed, round, square}
use Rattle.canonical_text.specs.WrittenExpression.{some_exprs, two_exprs}
use Rattle.canonical_text.specs.Nestings.{operand_depth, node_depth, run_depth, enclosed_depth, terms_depth, indices_depth}
use Rattle.canonical_text.specs.Spelled.{token}
use Rattle.canonical_text.proofs.Ranks.{above, most, not_looser, step_down}
use Rattle.canonical_text.proofs.Fitting.{Fit, Slack, slack_none, slack_absent, slack_empty_inside, fit_less, slack_less, fit_alone, fit_left, fit_right, slack_left, fit_present, fit_inside, fit_by, fit_text, seq, seq_fits, slack_fits, once_more, loosely}
use Rattle.canonical_text.proofs.FitTypes.{fit_bracketed, fit_round, round_then}

-- levels

abbrev pub rule_at : Level → Rule
rule_at Equivalence = e
rule_at Implication = imp
rule_at Junction = log
rule_at Comparison = rel
rule_at Sum = sum
rule_at Product = prod
rule_at Unary = un
rule_at Postfix = post
rule_at Atom = atom

abbrev relation_part : Part
relation_part = the "==" ∣ the "!=" ∣ the "<" ∣ the "<=" ∣ the ">" ∣ the ">="

down : (w : Level) (gs : List Glyph) (d : ℕ) → Fit (rule (rule_at (above w))) gs d → Fit (rule (rule_at w)) gs d
down Equivalence gs d f = fit_by e gs d (fit_alone (rule imp) (many (the "<==>" ⨟ rule imp)) gs d f (slack_none (the "<==>" ⨟ rule imp)))
down Implication gs d f = fit_by imp gs d (fit_alone (rule log) (maybe (the "==>" ⨟ rule imp)) gs d f (slack_absent (the "==>" ⨟ rule imp)))
down Junction gs d f = fit_by log gs d (fit_alone (rule rel) (many (the "&&" ⨟ rule rel) ∣ many (the "||" ⨟ rule rel)) gs d f (slack_left (many (the "&&" ⨟ rule rel)) (many (the "||" ⨟ rule rel)) [] 0 (slack_none (the "&&" ⨟ rule rel))))
down Comparison gs d f = fit_by rel gs d (fit_alone (rule sum) (maybe (relation_part ⨟ rule sum)) gs d f (slack_absent (relation_part ⨟ rule sum)))
down Sum gs d f = fit_by sum gs d (fit_alone (rule prod) (many ((the "+" ∣ the "-") ⨟ rule prod)) gs d f (slack_none ((the "+" ∣ the "-") ⨟ rule prod)))
down Product gs d f = fit_by prod gs d (fit_alone (rule un) (many (the "*" ⨟ rule un)) gs d f (slack_none (the "*" ⨟ rule un)))
down Unary gs d f = fit_by un gs d (fit_right ((the "!" ∣ the "-") ⨟ inside (rule un)) (rule post) gs d f)
down Postfix gs d f = fit_by post gs d (fit_alone (rule atom) (many (square (rule e ⨟ maybe (the ":=" ⨟ rule e)))) gs d f (slack_none (square (rule e ⨟ maybe (the ":=" ⨟ rule e)))))
down Atom gs d f = f

lower : (w l : Level) (gs : List Glyph) (d : ℕ) → rank w ≤ rank l → Fit (rule (rule_at l)) gs d → Fit (rule (rule_at w)) gs d
lower w l gs d h f = step_down (λ k. Fit (rule (rule_at k)) gs d) w l h (λ k a b g. down k gs d g) f

-- operands

abbrev pub NodeFits : Node → Type 0
NodeFits n = (s : Option Sign) → Fit (rule (rule_at (level n))) (node s n) (node_depth s n)

abbrev pub OperandFits : Expr → Type 0
OperandFits x = (w : Level) (s : Option Sign) → Fit (rule (rule_at w)) (operand w s x) (operand_depth w s x)

-- an atom, by its place among the alternatives
abbrev pub call_part : Part
call_part = some id ⨟ round (maybe (rule es))

abbrev pub old_part : Part
old_part = the "old" ⨟ round (rule e)

fit_enclosed : (gs : List Glyph) (d : ℕ) → Fit (rule e) gs d → Fit (rule atom) (opening "(" ∷ (gs ++ closing ")" ∷ [])) (suc d)
fit_enclosed gs d f =
    fit_by atom _ (suc d) (fit_right (some number_kind) _ _ _ (fit_right (the "true") _ _ _ (fit_right (the "false") _ _ _ (fit_right (some id) _ _ _ (fit_right call_part _ _ _ (fit_right old_part _ _ _ (fit_left (round (rule e)) _ _ _ (fit_round (rule e) gs d f))))))))

pub operand_from : (p : Place) (n : Node) → NodeFits n → OperandFits (expr p n)
operand_from p n f w s = chosen (needs_parens w s n) refl
  where
    chosen : (b : Bool) → needs_parens w s n ≡ b → Fit (rule (rule_at w)) (elim b [ true ↦ opening "(" ∷ (node None n ++ closing ")" ∷ []) | false ↦ node s n ]) (elim b [ true ↦ suc (node_depth None n) | false ↦ node_depth s n ])
    chosen true q = lower w Atom _ _ (most w) (fit_enclosed (node None n) (node_depth None n) (lower Equivalence (level n) _ _ (omega arith) (f None)))
    chosen false q = lower w (level n) _ _ (not_looser (level n) w (either_no (is_looser (level n) w) (is_caught s n) q).0) (f s)

-- runs

abbrev pub EachFits : Exprs → Type 0
EachFits no_exprs = Unit {0}
EachFits (item x xs) = OperandFits x × EachFits xs

-- a sign in front
pub behind_sign : (g : Glyph) (w : List ℕ) → ((p : Place) → IsTrue (reads w (token p g))) → (p : Part) (gs : List Glyph) (d : ℕ) → Fit p gs d → Fit (spelled w ⨟ p) (g ∷ gs) d
behind_sign g w h p gs d f = fit_less (spelled w ⨟ p) (g ∷ gs) (max 0 d) d (omega arith) (seq_fits (fit_text g w h) f)

module _ (w : Level) (inner : Sign) (g : Glyph) (v : List ℕ) (h : (p : Place) → IsTrue (reads v (token p g))) (s : Option Sign) where
  pub slack_run : (xs : Exprs) → EachFits xs → Slack (many (spelled v ⨟ rule (rule_at w))) (more_run w inner g s xs) (run_depth w inner s xs)
  slack_run no_exprs f = slack_none (spelled v ⨟ rule (rule_at w))
  slack_run (item x xs) f = once_more (behind_sign g v h (rule (rule_at w)) (operand w (behind inner s xs) x) (operand_depth w (behind inner s xs) x) (f.0 w (behind inner s xs))) (slack_run xs f.1)

  pub fit_run : (xs : Exprs) → IsTrue (two_exprs xs) → EachFits xs → Fit (rule (rule_at w) ⨟ many (spelled v ⨟ rule (rule_at w))) (run w inner g s xs) (run_depth w inner s xs)
  fit_run no_exprs t f = absurd (cc)
  fit_run (item x xs) t f = seq (f.0 w (behind inner s xs)) (slack_run xs f.1)

-- the chain of ==> nests to the right
pub fit_chain : (s : Option Sign) (xs : Exprs) → IsTrue (some_exprs xs) → EachFits xs → Fit (rule imp) (run Junction ImpliesSign (word "==>") s xs) (run_depth Junction ImpliesSign s xs)
fit_chain s no_exprs t f = absurd (cc)
fit_chain s (item x no_exprs) t f = fit_by imp _ _ (seq (f.0 Junction s) (slack_absent (the "==>" ⨟ rule imp)))
fit_chain s (item x (item y ys)) t f =
    fit_by imp _ _ (seq (f.0 Junction (Some ImpliesSign)) (loosely (fit_present (the "==>" ⨟ rule imp) _ _ (behind_sign (word "==>") (codes "==>") (λ p. refl) (rule imp) _ _ (fit_chain s (item y ys) refl f.1)))))

pub some_of_two : (xs : Exprs) → IsTrue (two_exprs xs) → IsTrue (some_exprs xs)
some_of_two no_exprs t = absurd (cc)
some_of_two (item x xs) t = refl

-- lists

-- the deepest of them, without brackets
abbrev pub listed_depth : Exprs → ℕ
listed_depth no_exprs = 0
listed_depth (item x xs) = max (operand_depth Equivalence None x) (listed_depth xs)

pub enclosed_is : (xs : Exprs) → enclosed_depth xs ≤ suc (listed_depth xs)
enclosed_is no_exprs = omega arith
enclosed_is (item x xs) = omega (arith, enclosed_is xs)

pub slack_more_listed : (xs : Exprs) → EachFits xs → Slack (many (the "," ⨟ rule e)) (more_listed xs) (listed_depth xs)
slack_more_listed no_exprs f = slack_none (the "," ⨟ rule e)
slack_more_listed (item x xs) f = once_more (behind_sign (closing ",") (codes ",") (λ p. refl) (rule e) (operand Equivalence None x) (operand_depth Equivalence None x) (f.0 Equivalence None)) (slack_more_listed xs f.1)

pub fit_listed : (xs : Exprs) → IsTrue (some_exprs xs) → EachFits xs → Fit (listed (rule e)) (listed_tokens xs) (listed_depth xs)
fit_listed no_exprs t f = absurd (cc)
fit_listed (item x xs) t f = seq (f.0 Equivalence None) (slack_more_listed xs f.1)

pub fit_es : (xs : Exprs) → IsTrue (some_exprs xs) → EachFits xs → Fit (rule es) (listed_tokens xs) (listed_depth xs)
fit_es xs t f = fit_by es (listed_tokens xs) (listed_depth xs) (fit_listed xs t f)

pub args_then : (q : Part) (hs : List Glyph) (b : ℕ) (xs : Exprs) → EachFits xs → Slack q hs b → Fit (round (maybe (rule es)) ⨟ q) (opening "(" ∷ (listed_tokens xs ++ closing ")" ∷ hs)) (max (enclosed_depth xs) b)
args_then q hs b no_exprs f g = seq (seq_fits (fit_text (opening "(") (codes "(") (λ p. refl)) (slack_fits (slack_empty_inside (maybe (rule es)) (slack_absent (rule es))) (fit_text (closing ")") (codes ")") (λ p. refl)))) g
args_then q hs b (item x xs) f g =
    fit_less (round (maybe (rule es)) ⨟ q) (opening "(" ∷ (listed_tokens (item x xs) ++ closing ")" ∷ hs)) (max (suc (listed_depth (item x xs))) b) (max (enclosed_depth (item x xs)) b) (omega (arith, enclosed_is (item x xs)))
    (round_then (maybe (rule es)) q (listed_tokens (item x xs)) hs (listed_depth (item x xs)) b (fit_present (rule es) (listed_tokens (item x xs)) (listed_depth (item x xs)) (fit_es (item x xs) refl f)) g)

pub fit_args : (xs : Exprs) → EachFits xs → Fit (round (maybe (rule es))) (opening "(" ∷ (listed_tokens xs ++ closing ")" ∷ [])) (enclosed_depth xs)
fit_args no_exprs f = seq_fits (fit_text (opening "(") (codes "(") (λ p. refl)) (slack_fits (slack_empty_inside (maybe (rule es)) (slack_absent (rule es))) (fit_text (closing ")") (codes ")") (λ p. refl)))
fit_args (item x xs) f =
    fit_less (round (maybe (rule es))) (opening "(" ∷ (listed_tokens (item x xs) ++ closing ")" ∷ [])) (suc (listed_depth (item x xs))) (enclosed_depth (item x xs)) (enclosed_is (item x xs))
    (fit_round (maybe (rule es)) (listed_tokens (item x xs)) (listed_depth (item x xs)) (fit_present (rule es) (listed_tokens (item x xs)) (listed_depth (item x xs)) (fit_es (item x xs) refl f)))

-- sums and comparisons

abbrev pub EachTerm : Terms → Type 0
EachTerm no_terms = Unit {0}
EachTerm (plus x ts) = OperandFits x × EachTerm ts
EachTerm (less x ts) = OperandFits x × EachTerm ts

abbrev pub term_part : Part
term_part = (the "+" ∣ the "-") ⨟ rule prod

pub slack_terms : (s : Option Sign) (ts : Terms) → EachTerm ts → Slack (many term_part) (terms s ts) (terms_depth s ts)
slack_terms s no_terms f = slack_none term_part
slack_terms s (plus x ts) f =
    slack_less (many term_part) (terms s (plus x ts)) (max (max 0 (operand_depth Product (behind_term s ts) x)) (terms_depth s ts)) (terms_depth s (plus x ts)) (omega arith)
    (once_more (seq_fits (fit_left (the "+") (the "-") _ 0 (fit_text (word "+") (codes "+") (λ p. refl))) (f.0 Product (behind_term s ts))) (slack_terms s ts f.1))
slack_terms s (less x ts) f =
    slack_less (many term_part) (terms s (less x ts)) (max (max 0 (operand_depth Product (behind_term s ts) x)) (terms_depth s ts)) (terms_depth s (less x ts)) (omega arith)
    (once_more (seq_fits (fit_right (the "+") (the "-") _ 0 (fit_text (word "-") (codes "-") (λ p. refl))) (f.0 Product (behind_term s ts))) (slack_terms s ts f.1))

fit_relation : (o : Relation) → Fit relation_part (relation o ∷ []) 0
fit_relation eq = fit_left (the "==") _ _ 0 (fit_text (word "==") (codes "==") (λ p. refl))
fit_relation ne = fit_right (the "==") _ _ 0 (fit_left (the "!=") _ _ 0 (fit_text (word "!=") (codes "!=") (λ p. refl)))
fit_relation lt = fit_right (the "==") _ _ 0 (fit_right (the "!=") _ _ 0 (fit_left (the "<") _ _ 0 (fit_text (word "<") (codes "<") (λ p. refl))))
fit_relation le = fit_right (the "==") _ _ 0 (fit_right (the "!=") _ _ 0 (fit_right (the "<") _ _ 0 (fit_left (the "<=") _ _ 0 (fit_text (word "<=") (codes "<=") (λ p. refl)))))
fit_relation gt = fit_right (the "==") _ _ 0 (fit_right (the "!=") _ _ 0 (fit_right (the "<") _ _ 0 (fit_right (the "<=") _ _ 0 (fit_left (the ">") _ _ 0 (fit_text (word ">") (codes ">") (λ p. refl))))))
fit_relation ge = fit_right (the "==") _ _ 0 (fit_right (the "!=") _ _ 0 (fit_right (the "<") _ _ 0 (fit_right (the "<=") _ _ 0 (fit_right (the ">") _ _ 0 (fit_text (word ">=") (codes ">=") (λ p. refl))))))

pub fit_related : (o : Relation) (x y : Expr) → OperandFits x → OperandFits y → NodeFits (related o x y)
fit_related o x y f g s =
    fit_by rel _ _ (fit_less (rule sum ⨟ maybe (relation_part ⨟ rule sum)) (node s (related o x y)) (max (operand_depth Sum (Some RelationSign) x) (max 0 (operand_depth Sum s y))) (node_depth s (related o x y)) (omega arith)
    (seq (f Sum (Some RelationSign)) (loosely (fit_present (relation_part ⨟ rule sum) _ _ (seq_fits (fit_relation o) (g Sum s))))))

-- prefix signs

abbrev sign_part : Part
sign_part = the "!" ∣ the "-"

pub fit_negation : (x : Expr) → OperandFits x → NodeFits (negation x)
fit_negation x f s =
    fit_by un _ _ (fit_left (sign_part ⨟ inside (rule un)) (rule post) _ _ (fit_less (sign_part ⨟ inside (rule un)) (node s (negation x)) (max 0 (suc (operand_depth Unary s x))) (node_depth s (negation x)) (omega arith)
    (seq_fits (fit_left (the "!") (the "-") _ 0 (fit_text (prefix (codes "!")) (codes "!") (λ p. refl))) (fit_inside (rule un) _ _ (f Unary s)))))

pub fit_minus : (x : Expr) → OperandFits x → NodeFits (minus x)
fit_minus x f s =
    fit_by un _ _ (fit_left (sign_part ⨟ inside (rule un)) (rule post) _ _ (fit_less (sign_part ⨟ inside (rule un)) (node s (minus x)) (max 0 (suc (operand_depth Unary s x))) (node_depth s (minus x)) (omega arith)
    (seq_fits (fit_right (the "!") (the "-") _ 0 (fit_text (prefix (codes "-")) (codes "-") (λ p. refl))) (fit_inside (rule un) _ _ (f Unary s)))))

-- indices

abbrev pub EachIndex : Indices → Type 0
EachIndex no_indices = Unit {0}
EachIndex (at_index x is) = OperandFits x × EachIndex is
EachIndex (update x y is) = OperandFits x × OperandFits y × EachIndex is

abbrev index_part : Part
index_part = rule e ⨟ maybe (the ":=" ⨟ rule e)

slack_index : (gs : List Glyph) (d : ℕ) (is : Indices) → Fit index_part gs d → Slack (many (square index_part)) (indices is) (indices_depth is) → Slack (many (square index_part)) (index ∷ (gs ++ closing "]" ∷ indices is)) (max (suc d) (indices_depth is))
slack_index gs d is f g =
    subst (λ x. Slack (many (square index_part)) (index ∷ x) (max (suc d) (indices_depth is))) (append_assoc gs (closing "]" ∷ []) (indices is))
    (once_more (fit_bracketed index (closing "]") (codes "[") (codes "]") (λ q. refl) (λ q. refl) index_part gs d f) g)

slack_indices : (is : Indices) → EachIndex is → Slack (many (square index_part)) (indices is) (indices_depth is)
slack_indices no_indices f = slack_none (square index_part)
slack_indices (at_index x is) f = slack_index (operand Equivalence None x) (operand_depth Equivalence None x) is (fit_alone (rule e) (maybe (the ":=" ⨟ rule e)) (operand Equivalence None x) (operand_depth Equivalence None x) (f.0 Equivalence None) (slack_absent (the ":=" ⨟ rule e))) (slack_indices is f.1)
slack_indices (update x y is) f =
    subst (λ z. Slack (many (square index_part)) (index ∷ z) (indices_depth (update x y is))) (append_assoc (operand Equivalence None x) (word ":=" ∷ operand Equivalence None y) (closing "]" ∷ indices is))
    (slack_less (many (square index_part)) (index ∷ ((operand Equivalence None x ++ word ":=" ∷ operand Equivalence None y) ++ closing "]" ∷ indices is)) (max (suc (max (operand_depth Equivalence None x) (operand_depth Equivalence None y))) (indices_depth is)) (indices_depth (update x y is)) (omega arith)
    (slack_index (operand Equivalence None x ++ word ":=" ∷ operand Equivalence None y) (max (operand_depth Equivalence None x) (operand_depth Equivalence None y)) is
    (seq (f.0 Equivalence None) (loosely (fit_present (the ":=" ⨟ rule e) _ _ (behind_sign (word ":=") (codes ":=") (λ p. refl) (rule e) (operand Equivalence None y) (operand_depth Equivalence None y) (f.1 Equivalence None))))) (slack_indices is f.2)))

pub fit_indexed : (x : Expr) (is : Indices) → OperandFits x → EachIndex is → NodeFits (indexed x is)
fit_indexed x is f g s = fit_by post _ _ (seq (f Atom (Some IndexSign)) (slack_indices is g))
