-- What a declaration of the code stands for.
use Rattle.std.specs.Arc.{arc_value}
use Rattle.bpl_ast.specs.ExprView.{groups_of}
use Rattle.bpl_ast.specs.Statement.{constant, function, axiom_of, variables, synonym, procedure, implementation, DeclBody as Declared}
use Rattle.bpl_ast.specs.declared.decl.DeclBody.{DeclBody}
use Rattle.bpl_ast.specs.declared.decl.DeclBody.TheVariants.{Const, Function, Axiom, Var, TypeName, Procedure, Implementation}

abbrev pub body_of : DeclBody → Declared
body_of (Const u ns t) = constant u ns.items t
body_of (Function n ps ins t x) = function n ps ins.items t x
body_of (Axiom x) = axiom_of x
body_of (Var gs) = variables (groups_of gs.items)
body_of (TypeName n t) = synonym n t
body_of (Procedure n ps s ss b) = procedure n ps (arc_value s) (arc_value ss).items b
body_of (Implementation n ps s b) = implementation n ps s b
