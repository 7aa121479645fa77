use Rattle.std.proofs.Common.{◌≡◌, ◌∙◌, ap, sym, Some}
use Rattle.bpl_lex.specs.Token.{id}
use Rattle.bpl_lex.specs.TokenView.{kind_seen}
use Rattle.bpl_parse.proofs.Identifiers.{identifiers_are_text, first_lies}
use Rattle.bpl_parse.proofs.cursor.Cursor.identifier.Goals as goal

pub unreachable-requires : goal.unreachable-requires
unreachable-requires c =
    let lies = first_lies c.self.inside.text.now c.self.inside.from c.in-Some.token.now c.self.inside.tokens.now c.in-Some.ensures.value c.self.invariant.4 in
    let is_id : c.in-Some.token.now.kind ≡ id = sym (ap (λ v. v.kind) c.token.view_is) ∙ ap kind_seen c.in-Id.is in
    c.in-Err.ensures.cases.0 (rw c.text_in.ensures (identifiers_are_text _ (lies.spelled ∙ ap Some is_id)))
