use Rattle.std.specs.Prelude.{◌≡◌, true, List, drop, codes, Some, Err}
use Rattle.std.proofs.Common.{refl, ap, sym, ◌∙◌}
use Rattle.bpl_ast.specs.Place.{Ty}
use Rattle.bpl_grammar.specs.Lexeme.{Lexeme}
use Rattle.bpl_grammar.specs.Terminal.{fixed, sees}
use Rattle.bpl_grammar.specs.Reading.{Read, read_as}
use Rattle.bpl_grammar.specs.ReadTypes.{read_type}
use Rattle.bpl_grammar.specs.ReadDeclarations.{synonym_with}
use Rattle.bpl_parse.proofs.Refused.{refused_as}
use Rattle.bpl_parse.proofs.cursor.Cursor.synonym.Goals as goal

there : (ls us : List Lexeme) (r : Read Ty) → sees (fixed (codes "=")) ls ≡ true → us ≡ drop 1 ls → read_type 201 us ≡ r → synonym_with 199 ls ≡ read_as (λ t. Some t) r
unfolding synonym_with
there ls us r s d h = rw s (ap (read_as (λ t. Some t)) (ap (read_type 201) (sym d) ∙ h))

pub returns-in_err-of : goal.returns-in_err-of
returns-in_err-of c = refused_as {C = Ty} (λ a. a) (λ a. a) (read_type 201 c.skip.new.self) (synonym_with 199 c.args.self.now) c.from_residual.result c.in_err-of.field-0.0 c.roomy_type.new.self c.roomy_type.new.self
    c.from_residual.ensures.1 c.in_err-of.ensures refl
    (λ x h. there c.args.self.now c.skip.new.self (Err x) (sym c.sees.ensures ∙ c.if-sees.true) c.skip.ensures h)

pub returns-then-sees : goal.returns-then-sees
returns-then-sees c = there c.args.self.now c.skip.new.self _ (sym c.sees.ensures ∙ c.if-sees.true) c.skip.ensures c.in_ok-of.ensures
