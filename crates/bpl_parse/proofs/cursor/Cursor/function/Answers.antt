use Rattle.std.proofs.Common.{refl}
use Rattle.bpl_ast.specs.DeclView.{body_of}
use Rattle.std.specs.Prelude.{Option}
use Rattle.bpl_ast.specs.Tree.{Expr}
use Rattle.bpl_grammar.specs.ReadDeclarations.{value_with, function_with}
use Rattle.bpl_parse.proofs.Refused.{refused_as}
use Rattle.bpl_parse.proofs.Steps.{goes, stops_as}
use Rattle.bpl_parse.proofs.cursor.Cursor.function.Goals as goal

pub returns-in_err-value : goal.returns-in_err-value
unfolding function_with
returns-in_err-value c = refused_as {C = Option Expr} (λ a. a) body_of (value_with 199 c.output.new.self) (function_with 199 c.args.self.now) c.from_residual-in_err-value.result c.in_err-value.field-0.0 c.value.new.self c.value.new.self
    c.from_residual-in_err-value.ensures.1 c.in_err-value.ensures refl
    (λ x h. (goes _ _ tt c.expect.new.self _ c.in_ok-expect.ensures.gives (goes _ _ tt c.attributes.new.self _ c.in_ok-attributes.ensures (goes _ _ c.in_ok-name.name c.name.new.self _ c.in_ok-name.ensures (goes _ _ c.in_ok-params.params c.params.new.self _ c.in_ok-params.ensures (goes _ _ c.in_ok-inputs.inputs.items c.inputs.new.self _ c.in_ok-inputs.ensures (goes _ _ c.in_ok-output.output c.output.new.self _ c.in_ok-output.ensures (stops_as _ _ x h))))))))
