-- Each expression that some tokens spell is read back from its canonical text.
use Rattle.std.specs.Prelude.{None}
use Rattle.std.proofs.Common.{refl}
use Rattle.bpl_ast.specs.Tree.{Expr, expr, Node, number, truth, variable, apply, old, choose, quantified, iffs, implies, ands, ors, related, sums, products, negation, minus, indexed, Exprs, no_exprs, item, Terms, no_terms, plus, less, Indices, no_indices, at_index, update, Triggers, no_triggers, trigger, Groups, no_groups, group, Clause, no_clause, clause}
use Rattle.canonical_text.specs.declared.level.Level.TheVariants.{Equivalence}
use Rattle.canonical_text.specs.WrittenExpression.{IsWritten, IsWrittenNode, AreWritten, AreWrittenTerms, AreWrittenIndices, AreWrittenTriggers, AreWrittenGroups, IsWrittenClause}
use Rattle.canonical_text.specs.ReadBack.{TypesAreReadBack, ExpressionsAreReadBack}
use Rattle.canonical_text.proofs.Operands.{OperandReads, NodeReads, operand_from}
use Rattle.canonical_text.proofs.RunReads.{EachReads}
use Rattle.canonical_text.proofs.ChainReads.{iffs_read, implies_read, ands_read, ors_read, products_read}
use Rattle.canonical_text.proofs.TypeReads.{type_reads}
use Rattle.canonical_text.proofs.AtomReads.{truth_reads, variable_reads, apply_reads, old_reads, choose_reads}
use Rattle.canonical_text.proofs.Numbers.{number_reads}
use Rattle.canonical_text.proofs.OperationReads.{EachTerm, related_reads, sums_read}
use Rattle.canonical_text.proofs.PostfixReads.{EachIndex, negation_reads, minus_reads, indexed_reads}
use Rattle.canonical_text.proofs.QuantifiedReads.{ClauseReads, EachGroup, EachTrigger, quantified_reads}

mutual
  pub operand_reads : (x : Expr) → IsWritten x → OperandReads x
  operand_reads (expr p n) h = operand_from n (node_reads n h) p

  node_reads : (n : Node) → IsWrittenNode n → NodeReads n
  node_reads (number n) h = number_reads n h
  node_reads (truth b) h = truth_reads b
  node_reads (variable n) h = variable_reads n h
  node_reads (apply n xs) h = apply_reads n xs h.0 (each_reads xs h.1)
  node_reads (old p x) h = old_reads p x (operand_reads x h)
  node_reads (choose c x y) h = choose_reads c x y (operand_reads c h.0) (operand_reads x h.1) (operand_reads y h.2)
  node_reads (quantified q p ps gs rs x) h = quantified_reads q p ps gs rs x h.0 h.1 (each_group gs h.2) (each_trigger rs h.3) (operand_reads x h.4)
  node_reads (iffs xs) h = iffs_read xs h.0 (each_reads xs h.1)
  node_reads (implies xs) h = implies_read xs h.0 (each_reads xs h.1)
  node_reads (ands xs) h = ands_read xs h.0 (each_reads xs h.1)
  node_reads (ors xs) h = ors_read xs h.0 (each_reads xs h.1)
  node_reads (related o x y) h = related_reads o x y (operand_reads x h.0) (operand_reads y h.1)
  node_reads (sums x ts) h = sums_read x ts h.1 (operand_reads x h.0) (each_term ts h.2)
  node_reads (products xs) h = products_read xs h.0 (each_reads xs h.1)
  node_reads (negation x) h = negation_reads x (operand_reads x h)
  node_reads (minus x) h = minus_reads x (operand_reads x h)
  node_reads (indexed x is) h = indexed_reads x is h.1 (operand_reads x h.0) (each_index is h.2)

  pub each_reads : (xs : Exprs) → AreWritten xs → EachReads xs
  each_reads no_exprs h = tt
  each_reads (item x xs) h = (operand_reads x h.0, each_reads xs h.1)

  each_term : (ts : Terms) → AreWrittenTerms ts → EachTerm ts
  each_term no_terms h = tt
  each_term (plus x ts) h = (operand_reads x h.0, each_term ts h.1)
  each_term (less x ts) h = (operand_reads x h.0, each_term ts h.1)

  each_index : (is : Indices) → AreWrittenIndices is → EachIndex is
  each_index no_indices h = tt
  each_index (at_index x is) h = (operand_reads x h.0, each_index is h.1)
  each_index (update x y is) h = (operand_reads x h.0, operand_reads y h.1, each_index is h.2)

  each_trigger : (rs : Triggers) → AreWrittenTriggers rs → EachTrigger rs
  each_trigger no_triggers h = tt
  each_trigger (trigger p xs rs) h = (h.0, each_reads xs h.1, each_trigger rs h.2)

  pub each_group : (gs : Groups) → AreWrittenGroups gs → EachGroup gs
  each_group no_groups h = tt
  each_group (group ns t c gs) h = (h.0, type_reads t h.1, clause_reads c h.2, each_group gs h.3)

  clause_reads : (c : Clause) → IsWrittenClause c → ClauseReads c
  clause_reads no_clause h = tt
  clause_reads (clause p x) h = operand_reads x h

pub types_back : TypesAreReadBack
types_back = λ t h room d ls us g.
    let r = type_reads t h room ls us d g in
    (r.value, r.reads, r.same)

pub expressions_back : ExpressionsAreReadBack
expressions_back = λ x h room d ls us k g.
    let r = operand_reads x h Equivalence None room ls us d refl k g in
    (r.value, r.reads, r.same)
