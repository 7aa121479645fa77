-- The parts of terms that the code makes of lists of the tree.
use Rattle.std.specs.Prelude.{ℤ, pos, negsuc, Bool, List, map}
use Rattle.logic_core.specs.Tree.{Tree}
use Rattle.bpl_ast.specs.Tree.{Expr}
use Rattle.bpl_ast.specs.declared.expr.Term.{Term}
use Rattle.bpl_ast.specs.declared.expr.Term.TheVariants.{Plus, Less}
use Rattle.bpl_ast.specs.declared.expr.Trigger.{Trigger}
use Rattle.bpl_scopes.specs.Scopes.{Scope}
use Rattle.bpl_terms.specs.Terms.{term_in}

-- the terms of expressions, in order
abbrev pub each_term : Scope → Bool → List Expr → List Tree
each_term s in_old xs = map (term_in s in_old) xs

-- a part of a sum behind its sign
abbrev pub part_in : Scope → Bool → Term → ℤ × Tree
part_in s in_old (Plus x) = (pos 1, term_in s in_old x)
part_in s in_old (Less x) = (negsuc 0, term_in s in_old x)

abbrev pub each_part : Scope → Bool → List Term → List (ℤ × Tree)
each_part s in_old ts = map (part_in s in_old) ts

-- the patterns of each trigger
abbrev pub each_pattern : Scope → Bool → List Trigger → List (List Tree)
each_pattern s in_old rs = map (λ r. each_term s in_old r.patterns.items) rs
