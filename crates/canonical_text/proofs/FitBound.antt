-- Groups, triggers, quantifiers and so all expressions fit the grammar.
use Rattle.std.specs.Prelude.{◌≡◌, ℕ, suc, max, ◌<◌, ◌^◌, Bool, true, false, decimal, List, [], ◌∷◌, ◌++◌, IsTrue, Option, Some, None, codes}
use Rattle.std.proofs.Common.{refl, ap, subst, ◌∙◌, arith, append_assoc}
use Rattle.bv_base.specs.declared.place.Place.{Place}
use Rattle.bpl_lex.specs.Token.{id, number as number_kind}
use Rattle.bpl_ast.specs.Place.{Name, Params, Ty}
use Rattle.bpl_ast.specs.Tree.{Quantifier, for_all, exists, Expr, expr, Node, number, truth, variable, apply, old, choose, quantified, iffs, implies, ands, ors, related, sums, products, negation, minus, indexed, Exprs, no_exprs, item, Terms, no_terms, plus, less, Indices, no_indices, at_index, update, Triggers, no_triggers, trigger, Groups, no_groups, group, Clause, no_clause, clause}
use Rattle.canonical_text.specs.declared.level.Level.TheVariants.{Equivalence, Implication, Comparison, Product, Unary}
use Rattle.canonical_text.specs.declared.sign.Sign.{Sign}
use Rattle.canonical_text.specs.declared.sign.Sign.TheVariants.{IffSign, AndSign, OrSign, TermSign, FactorSign}
use Rattle.canonical_text.specs.Glyph.{Glyph, plain, word, opening, closing}
use Rattle.canonical_text.specs.Expression.{names, params, type, quantifier, behind, operand, node, run, listed as listed_tokens, triggers, groups as groups_tokens, more_groups, where_clause}
use Rattle.bpl_grammar.specs.Part.{Part, some, ◌⨟◌, ◌∣◌, maybe, many, inside, longest, rule, ids, tpar, type as type_rule, groups, group as group_rule, attr, trig, e, log, rel, sum, prod, es, atom}
use Rattle.bpl_grammar.specs.Grammar.{the, listed, round}
use Rattle.canonical_text.specs.WrittenExpression.{IsName, SomeNames, AreParams, some_exprs, two_exprs, some_groups, IsWrittenType, IsWritten, IsWrittenNode, AreWritten, AreWrittenTerms, AreWrittenIndices, AreWrittenTriggers, AreWrittenGroups, IsWrittenClause}
use Rattle.canonical_text.specs.Nestings.{type_depth, operand_depth, node_depth, run_depth, enclosed_depth, triggers_depth, groups_depth, clause_depth}
use Rattle.canonical_text.proofs.Numbers.{decimal_kind}
use Rattle.canonical_text.proofs.Fitting.{Fit, Slack, slack_none, slack_absent, fit_less, slack_less, fit_left, fit_right, slack_left, slack_right, fit_present, fit_inside, fit_longest, fit_by, fit_text, fit_kind, seq, seq_fits, slack_fits, once_more, loosely}
use Rattle.canonical_text.proofs.FitTypes.{fit_name, fit_called, fit_names, slack_params, fit_bracketed, fit_round, fit_type}
use Rattle.canonical_text.proofs.FitExprs.{enclosed_is, NodeFits, OperandFits, call_part, old_part, operand_from, EachFits, behind_sign, slack_run, fit_run, fit_chain, some_of_two, listed_depth, fit_es, fit_args, EachTerm, slack_terms, fit_related, fit_negation, fit_minus, EachIndex, fit_indexed}

-- triggers

abbrev EachTrigger : Triggers → Type 0
EachTrigger no_triggers = Unit {0}
EachTrigger (trigger p xs rs) = IsTrue (some_exprs xs) × EachFits xs × EachTrigger rs

abbrev mark_part : Part
mark_part = rule attr ∣ rule trig

fit_trigger : (xs : Exprs) → IsTrue (some_exprs xs) → EachFits xs → Fit mark_part (word "{" ∷ (listed_tokens xs ++ word "}" ∷ [])) (enclosed_depth xs)
fit_trigger xs t f =
    fit_less mark_part (word "{" ∷ (listed_tokens xs ++ word "}" ∷ [])) (suc (listed_depth xs)) (enclosed_depth xs) (enclosed_is xs)
    (fit_right (rule attr) (rule trig) _ _ (fit_by trig _ _ (fit_bracketed (word "{") (word "}") (codes "{") (codes "}") (λ q. refl) (λ q. refl) (rule es) (listed_tokens xs) (listed_depth xs) (fit_es xs t f))))

slack_triggers : (rs : Triggers) → EachTrigger rs → Slack (many mark_part) (triggers rs) (triggers_depth rs)
slack_triggers no_triggers f = slack_none mark_part
slack_triggers (trigger p xs rs) f =
    subst (λ x. Slack (many mark_part) (word "{" ∷ x) (triggers_depth (trigger p xs rs))) (append_assoc (listed_tokens xs) (word "}" ∷ []) (triggers rs)) (once_more (fit_trigger xs f.0 f.1) (slack_triggers rs f.2))

-- groups

abbrev ClauseFits : Clause → Type 0
ClauseFits no_clause = Unit {0}
ClauseFits (clause p x) = OperandFits x

abbrev EachGroup : Groups → Type 0
EachGroup no_groups = Unit {0}
EachGroup (group ns t c gs) = SomeNames ns × IsWrittenType t × ClauseFits c × EachGroup gs

abbrev where_part : Part
where_part = maybe (the "where" ⨟ rule e)

slack_clause : (c : Clause) → ClauseFits c → Slack where_part (where_clause c) (clause_depth c)
slack_clause no_clause f = slack_absent (the "where" ⨟ rule e)
slack_clause (clause p x) f = loosely (fit_present (the "where" ⨟ rule e) _ _ (behind_sign (word "where") (codes "where") (λ p. refl) (rule e) (operand Equivalence None x) (operand_depth Equivalence None x) (f Equivalence None)))

fit_group : (ns : List Name) (t : Ty) (c : Clause) → SomeNames ns → IsWrittenType t → ClauseFits c → Fit (rule group_rule) (names ns ++ closing ":" ∷ (type t ++ where_clause c)) (max (type_depth t) (clause_depth c))
fit_group ns t c w v f =
    fit_by group_rule _ _ (fit_less (rule ids ⨟ the ":" ⨟ rule type_rule ⨟ where_part) (names ns ++ closing ":" ∷ (type t ++ where_clause c)) (max 0 (max 0 (max (type_depth t) (clause_depth c)))) (max (type_depth t) (clause_depth c)) (omega arith)
    (seq_fits (fit_names ns w) (seq_fits (fit_text (closing ":") (codes ":") (λ p. refl)) (seq (fit_type t v) (slack_clause c f)))))

group_shape : (a b c d : List Glyph) (g : Glyph) → (a ++ g ∷ (b ++ c)) ++ d ≡ a ++ g ∷ (b ++ (c ++ d))
group_shape a b c d g = append_assoc a (g ∷ (b ++ c)) d ∙ ap (λ x. a ++ g ∷ x) (append_assoc b c d)

slack_more_groups : (gs : Groups) → EachGroup gs → Slack (many (the "," ⨟ rule group_rule)) (more_groups gs) (groups_depth gs)
slack_more_groups no_groups f = slack_none (the "," ⨟ rule group_rule)
slack_more_groups (group ns t c gs) f =
    subst (λ x. Slack (many (the "," ⨟ rule group_rule)) (closing "," ∷ x) (groups_depth (group ns t c gs))) (group_shape (names ns) (type t) (where_clause c) (more_groups gs) (closing ":"))
    (slack_less (many (the "," ⨟ rule group_rule)) (closing "," ∷ ((names ns ++ closing ":" ∷ (type t ++ where_clause c)) ++ more_groups gs)) (max (max (type_depth t) (clause_depth c)) (groups_depth gs)) (groups_depth (group ns t c gs)) (omega arith)
    (once_more (behind_sign (closing ",") (codes ",") (λ p. refl) (rule group_rule) (names ns ++ closing ":" ∷ (type t ++ where_clause c)) (max (type_depth t) (clause_depth c)) (fit_group ns t c f.0 f.1 f.2)) (slack_more_groups gs f.3)))

fit_groups_by : (gs : Groups) → IsTrue (some_groups gs) → EachGroup gs → Fit (rule groups) (groups_tokens gs) (groups_depth gs)
fit_groups_by no_groups s f = absurd (cc)
fit_groups_by (group ns t c gs) s f =
    fit_by groups _ _ (subst (λ x. Fit (listed (rule group_rule)) x (groups_depth (group ns t c gs))) (group_shape (names ns) (type t) (where_clause c) (more_groups gs) (closing ":"))
    (fit_less (listed (rule group_rule)) ((names ns ++ closing ":" ∷ (type t ++ where_clause c)) ++ more_groups gs) (max (max (type_depth t) (clause_depth c)) (groups_depth gs)) (groups_depth (group ns t c gs)) (omega arith)
    (seq (fit_group ns t c f.0 f.1 f.2) (slack_more_groups gs f.3))))

-- atoms

fit_call : (n : Name) (xs : Exprs) → IsName n → EachFits xs → NodeFits (apply n xs)
fit_call n xs w f s =
    fit_by atom _ _ (fit_right (some number_kind) _ _ _ (fit_right (the "true") _ _ _ (fit_right (the "false") _ _ _ (fit_right (some id) _ _ _ (fit_left call_part _ _ _
    (fit_less call_part (node s (apply n xs)) (max 0 (enclosed_depth xs)) (enclosed_depth xs) (omega arith) (seq_fits (fit_called n w) (fit_args xs f))))))))

fit_old : (p : Place) (x : Expr) → OperandFits x → NodeFits (old p x)
fit_old p x f s =
    fit_by atom _ _ (fit_right (some number_kind) _ _ _ (fit_right (the "true") _ _ _ (fit_right (the "false") _ _ _ (fit_right (some id) _ _ _ (fit_right call_part _ _ _ (fit_left old_part _ _ _
    (behind_sign (word "old") (codes "old") (λ q. refl) (round (rule e)) (opening "(" ∷ (operand Equivalence None x ++ closing ")" ∷ [])) (suc (operand_depth Equivalence None x)) (fit_round (rule e) (operand Equivalence None x) (operand_depth Equivalence None x) (f Equivalence None)))))))))

abbrev arms_part : Part
arms_part = rule e ⨟ the "then" ⨟ rule e ⨟ the "else" ⨟ longest (rule e)

fit_choose : (c x y : Expr) → OperandFits c → OperandFits x → OperandFits y → NodeFits (choose c x y)
fit_choose c x y f g h s =
    fit_by atom _ _ (fit_right (some number_kind) _ _ _ (fit_right (the "true") _ _ _ (fit_right (the "false") _ _ _ (fit_right (some id) _ _ _ (fit_right call_part _ _ _ (fit_right old_part _ _ _ (fit_right (round (rule e)) _ _ _ (fit_left (the "if" ⨟ inside arms_part) _ _ _
    (fit_less (the "if" ⨟ inside arms_part) (node s (choose c x y)) (max 0 (suc (max (operand_depth Equivalence None c) (max 0 (max (operand_depth Equivalence None x) (max 0 (operand_depth Equivalence s y))))))) (node_depth s (choose c x y)) (omega arith)
    (seq_fits (fit_text (word "if") (codes "if") (λ q. refl)) (fit_inside arms_part _ _
    (seq_fits (f Equivalence None) (seq_fits (fit_text (word "then") (codes "then") (λ q. refl)) (seq_fits (g Equivalence None) (seq_fits (fit_text (word "else") (codes "else") (λ q. refl)) (fit_longest (rule e) _ _ (h Equivalence s)))))))))))))))))

fit_quantifier : (q : Quantifier) → Fit (the "forall" ∣ the "exists") (quantifier q ∷ []) 0
fit_quantifier for_all = fit_left (the "forall") (the "exists") _ 0 (fit_text (word "forall") (codes "forall") (λ p. refl))
fit_quantifier exists = fit_right (the "forall") (the "exists") _ 0 (fit_text (word "exists") (codes "exists") (λ p. refl))

abbrev bound_part : Part
bound_part = (the "forall" ∣ the "exists") ⨟ maybe (rule tpar) ⨟ rule groups ⨟ the "::" ⨟ many mark_part ⨟ rule e

bound_shape : (a b c d z : List Glyph) (g h : Glyph) → (g ∷ (a ++ (b ++ h ∷ (c ++ d)))) ++ z ≡ g ∷ (a ++ (b ++ h ∷ (c ++ (d ++ z))))
bound_shape a b c d z g h = ap (λ x. g ∷ x) (append_assoc a (b ++ h ∷ (c ++ d)) z ∙ ap (λ x. a ++ x) (append_assoc b (h ∷ (c ++ d)) z ∙ ap (λ x. b ++ h ∷ x) (append_assoc c d z)))

fit_quantified : (q : Quantifier) (p : Place) (ps : Option Params) (gs : Groups) (rs : Triggers) (x : Expr) → AreParams ps → IsTrue (some_groups gs) → EachGroup gs → EachTrigger rs → OperandFits x → NodeFits (quantified q p ps gs rs x)
fit_quantified q p ps gs rs x w sg eg er f s =
    fit_by atom _ _ (fit_right (some number_kind) _ _ _ (fit_right (the "true") _ _ _ (fit_right (the "false") _ _ _ (fit_right (some id) _ _ _ (fit_right call_part _ _ _ (fit_right old_part _ _ _ (fit_right (round (rule e)) _ _ _ (fit_right (the "if" ⨟ inside arms_part) _ _ _
    (subst (λ y. Fit (round bound_part) (opening "(" ∷ y) (node_depth s (quantified q p ps gs rs x))) (bound_shape (params ps) (groups_tokens gs) (triggers rs) (operand Equivalence None x) (closing ")" ∷ []) (quantifier q) (word "::"))
    (fit_less (round bound_part) (opening "(" ∷ ((quantifier q ∷ (params ps ++ (groups_tokens gs ++ word "::" ∷ (triggers rs ++ operand Equivalence None x)))) ++ closing ")" ∷ []))
    (suc (max 0 (max 0 (max (groups_depth gs) (max 0 (max (triggers_depth rs) (operand_depth Equivalence None x))))))) (node_depth s (quantified q p ps gs rs x)) (omega arith)
    (fit_round bound_part _ _
    (seq_fits (fit_quantifier q) (slack_fits (slack_params ps w) (seq_fits (fit_groups_by gs sg eg) (seq_fits (fit_text (word "::") (codes "::") (λ p. refl)) (slack_fits (slack_triggers rs er) (f Equivalence None)))))))))))))))))

fit_truth : (b : Bool) → NodeFits (truth b)
fit_truth true s = fit_by atom _ _ (fit_right (some number_kind) _ _ _ (fit_left (the "true") _ _ _ (fit_text (word "true") (codes "true") (λ p. refl))))
fit_truth false s = fit_by atom _ _ (fit_right (some number_kind) _ _ _ (fit_right (the "true") _ _ _ (fit_left (the "false") _ _ _ (fit_text (word "false") (codes "false") (λ p. refl)))))

fit_number : (n : ℕ) → n < 2 ^ 127 → NodeFits (number n)
fit_number n w s = fit_by atom _ _ (fit_left (some number_kind) _ _ _ (fit_kind (plain (decimal n)) number_kind (λ p. rw (decimal_kind n w) refl)))

fit_variable : (n : Name) → IsName n → NodeFits (variable n)
fit_variable n w s = fit_by atom _ _ (fit_right (some number_kind) _ _ _ (fit_right (the "true") _ _ _ (fit_right (the "false") _ _ _ (fit_left (some id) _ _ _ (fit_name n w)))))

-- runs of && and ||

fit_ands : (s : Option Sign) (xs : Exprs) → IsTrue (two_exprs xs) → EachFits xs → Fit (rule log) (run Comparison AndSign (word "&&") s xs) (run_depth Comparison AndSign s xs)
fit_ands s no_exprs t f = absurd (cc)
fit_ands s (item x xs) t f =
    fit_by log _ _ (seq (f.0 Comparison (behind AndSign s xs)) (slack_left (many (the "&&" ⨟ rule rel)) (many (the "||" ⨟ rule rel)) _ _ (slack_run Comparison AndSign (word "&&") (codes "&&") (λ p. refl) s xs f.1)))

fit_ors : (s : Option Sign) (xs : Exprs) → IsTrue (two_exprs xs) → EachFits xs → Fit (rule log) (run Comparison OrSign (word "||") s xs) (run_depth Comparison OrSign s xs)
fit_ors s no_exprs t f = absurd (cc)
fit_ors s (item x xs) t f =
    fit_by log _ _ (seq (f.0 Comparison (behind OrSign s xs)) (slack_right (many (the "&&" ⨟ rule rel)) (many (the "||" ⨟ rule rel)) _ _ (slack_run Comparison OrSign (word "||") (codes "||") (λ p. refl) s xs f.1)))

-- all expressions

mutual
  pub fit_operand : (x : Expr) → IsWritten x → OperandFits x
  fit_operand (expr p n) h = operand_from p n (fit_node n h)

  fit_node : (n : Node) → IsWrittenNode n → NodeFits n
  fit_node (number n) h = fit_number n h
  fit_node (truth b) h = fit_truth b
  fit_node (variable n) h = fit_variable n h
  fit_node (apply n xs) h = fit_call n xs h.0 (each_fits xs h.1)
  fit_node (old p x) h = fit_old p x (fit_operand x h)
  fit_node (choose c x y) h = fit_choose c x y (fit_operand c h.0) (fit_operand x h.1) (fit_operand y h.2)
  fit_node (quantified q p ps gs rs x) h = fit_quantified q p ps gs rs x h.0 h.1 (each_group gs h.2) (each_trigger rs h.3) (fit_operand x h.4)
  fit_node (iffs xs) h = λ s. fit_by e _ _ (fit_run Implication IffSign (word "<==>") (codes "<==>") (λ p. refl) s xs h.0 (each_fits xs h.1))
  fit_node (implies xs) h = λ s. fit_chain s xs (some_of_two xs h.0) (each_fits xs h.1)
  fit_node (ands xs) h = λ s. fit_ands s xs h.0 (each_fits xs h.1)
  fit_node (ors xs) h = λ s. fit_ors s xs h.0 (each_fits xs h.1)
  fit_node (related o x y) h = fit_related o x y (fit_operand x h.0) (fit_operand y h.1)
  fit_node (sums x ts) h = λ s. fit_by sum _ _ (seq (fit_operand x h.0 Product (Some TermSign)) (slack_terms s ts (each_term ts h.2)))
  fit_node (products xs) h = λ s. fit_by prod _ _ (fit_run Unary FactorSign (word "*") (codes "*") (λ p. refl) s xs h.0 (each_fits xs h.1))
  fit_node (negation x) h = fit_negation x (fit_operand x h)
  fit_node (minus x) h = fit_minus x (fit_operand x h)
  fit_node (indexed x is) h = fit_indexed x is (fit_operand x h.0) (each_index is h.2)

  pub each_fits : (xs : Exprs) → AreWritten xs → EachFits xs
  each_fits no_exprs h = tt
  each_fits (item x xs) h = (fit_operand x h.0, each_fits xs h.1)

  each_term : (ts : Terms) → AreWrittenTerms ts → EachTerm ts
  each_term no_terms h = tt
  each_term (plus x ts) h = (fit_operand x h.0, each_term ts h.1)
  each_term (less x ts) h = (fit_operand x h.0, each_term ts h.1)

  each_index : (is : Indices) → AreWrittenIndices is → EachIndex is
  each_index no_indices h = tt
  each_index (at_index x is) h = (fit_operand x h.0, each_index is h.1)
  each_index (update x y is) h = (fit_operand x h.0, fit_operand y h.1, each_index is h.2)

  each_trigger : (rs : Triggers) → AreWrittenTriggers rs → EachTrigger rs
  each_trigger no_triggers h = tt
  each_trigger (trigger p xs rs) h = (h.0, each_fits xs h.1, each_trigger rs h.2)

  each_group : (gs : Groups) → AreWrittenGroups gs → EachGroup gs
  each_group no_groups h = tt
  each_group (group ns t c gs) h = (h.0, h.1, clause_fits c h.2, each_group gs h.3)

  clause_fits : (c : Clause) → IsWrittenClause c → ClauseFits c
  clause_fits no_clause h = tt
  clause_fits (clause p x) h = fit_operand x h

pub fit_groups : (gs : Groups) → IsTrue (some_groups gs) → AreWrittenGroups gs → Fit (rule groups) (groups_tokens gs) (groups_depth gs)
fit_groups gs s w = fit_groups_by gs s (each_group gs w)

pub fit_expression : (x : Expr) → IsWritten x → Fit (rule e) (operand Equivalence None x) (operand_depth Equivalence None x)
fit_expression x w = fit_operand x w Equivalence None
