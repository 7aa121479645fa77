use Rattle.std.proofs.Common.{refl}
use Rattle.bpl_ast.specs.DeclView.{body_of}
use Rattle.bpl_ast.specs.Statement.{Body}
use Rattle.bpl_grammar.specs.ReadStatements.{body_with}
use Rattle.bpl_grammar.specs.ReadDeclarations.{implementation_with}
use Rattle.bpl_parse.proofs.Refused.{refused_as}
use Rattle.bpl_parse.proofs.Steps.{goes, stops_as}
use Rattle.bpl_parse.proofs.cursor.Cursor.implementation.Goals as goal

pub returns-in_err-body : goal.returns-in_err-body
unfolding implementation_with
returns-in_err-body c = refused_as {C = Body} (λ a. a) body_of (body_with 199 c.signature.new.self) (implementation_with 199 c.args.self.now) c.from_residual-in_err-body.result c.in_err-body.field-0.0 c.body.new.self c.body.new.self
    c.from_residual-in_err-body.ensures.1 c.in_err-body.ensures refl
    (λ x h. (goes _ _ tt c.expect.new.self _ c.in_ok-expect.ensures.gives (goes _ _ tt c.attributes.new.self _ c.in_ok-attributes.ensures (goes _ _ c.in_ok-name.name c.name.new.self _ c.in_ok-name.ensures (goes _ _ c.in_ok-params.params c.params.new.self _ c.in_ok-params.ensures (goes _ _ c.in_ok-signature.signature c.signature.new.self _ c.in_ok-signature.ensures (stops_as _ _ x h)))))))
