-- Parts of trees, as reading sees them.
use Rattle.bpl_ast.specs.Tree.{Exprs, Node, iffs, implies, ands, ors, products}
use Rattle.bpl_ast.specs.ExprView.{clause_of}
use Rattle.bpl_ast.specs.declared.expr.Group.{Group}
use Rattle.bpl_ast.specs.declared.expr.Trigger.{Trigger}
use Rattle.bpl_grammar.specs.ReadExpressions.{Together, Patterns}
use Rattle.bpl_parse.specs.declared.operators.Run.{Run}
use Rattle.bpl_parse.specs.declared.operators.Run.TheVariants.{Iff, Implies, And, Or, Product}

abbrev pub node_of_run : Run → Exprs → Node
node_of_run Iff xs = iffs xs
node_of_run Implies xs = implies xs
node_of_run And xs = ands xs
node_of_run Or xs = ors xs
node_of_run Product xs = products xs

abbrev pub group_seen : Group → Together
group_seen g = record { names = g.names.items; of = g.of; condition = clause_of g.condition }

abbrev pub trigger_seen : Trigger → Patterns
trigger_seen t = record { at = t.at; patterns = t.patterns.items }
