use Rattle.std.proofs.Common.{refl, codes}
use Rattle.bpl_ast.specs.DeclView.{body_of}
use Rattle.bpl_grammar.specs.Reading.{read_fixed}
use Rattle.bpl_grammar.specs.ReadDeclarations.{const_with}
use Rattle.bpl_parse.proofs.Refused.{refused_as}
use Rattle.bpl_parse.proofs.Steps.{goes, stops_as}
use Rattle.bpl_parse.proofs.cursor.Cursor.constants.Goals as goal

pub returns-in_err-expect-3 : goal.returns-in_err-expect-3
unfolding const_with
returns-in_err-expect-3 c = refused_as {C = Unit {0}} (λ a. a) body_of (read_fixed (codes ";") c.roomy_type.new.self) (const_with 199 c.args.self.now) c.from_residual-in_err-expect-3.result c.in_err-expect-3.field-0.0 c.expect-3.new.self c.expect-3.new.self
    c.from_residual-in_err-expect-3.ensures.1 c.in_err-expect-3.ensures.gives refl
    (λ x h. (goes _ _ tt c.expect.new.self _ c.in_ok-expect.ensures.gives (goes _ _ tt c.attributes.new.self _ c.in_ok-attributes.ensures (goes _ _ c.in_ok-unique.unique c.unique.new.self _ c.in_ok-unique.ensures.gives (goes _ _ c.in_ok-names.names.items c.ids.new.self _ c.in_ok-names.ensures (goes _ _ tt c.expect-2.new.self _ c.in_ok-expect-2.ensures.gives (goes _ _ c.in_ok-of.of c.roomy_type.new.self _ c.in_ok-of.ensures (stops_as _ _ x h))))))))
