use Rattle.std.proofs.Common.{refl, codes}
use Rattle.bpl_ast.specs.DeclView.{body_of}
use Rattle.bpl_grammar.specs.Reading.{read_fixed}
use Rattle.bpl_grammar.specs.ReadDeclarations.{type_decl_with}
use Rattle.bpl_parse.proofs.Refused.{refused_as}
use Rattle.bpl_parse.proofs.Steps.{goes, stops_as}
use Rattle.bpl_parse.proofs.cursor.Cursor.type_name.Goals as goal

pub returns-in_err-expect-2 : goal.returns-in_err-expect-2
unfolding type_decl_with
returns-in_err-expect-2 c = refused_as {C = Unit {0}} (λ a. a) body_of (read_fixed (codes ";") c.synonym.new.self) (type_decl_with 199 c.args.self.now) c.from_residual-in_err-expect-2.result c.in_err-expect-2.field-0.0 c.expect-2.new.self c.expect-2.new.self
    c.from_residual-in_err-expect-2.ensures.1 c.in_err-expect-2.ensures.gives refl
    (λ x h. (goes _ _ tt c.expect.new.self _ c.in_ok-expect.ensures.gives (goes _ _ tt c.attributes.new.self _ c.in_ok-attributes.ensures (goes _ _ c.in_ok-name.name c.name.new.self _ c.in_ok-name.ensures (goes _ _ c.in_ok-of.of c.synonym.new.self _ c.in_ok-of.ensures (stops_as _ _ x h))))))
