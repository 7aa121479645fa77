use Rattle.std.proofs.Common.{ap, ◌∙◌, Some}
use Rattle.body_revision.proofs.PutBack.{function_among}
use Rattle.body_revision.proofs.putting.put_function_among.Goals as goal

pub returns-clause-put : goal.returns-clause-put
returns-clause-put c =
    (function_among _ c.args.parts.now c.parts.view_is c.args.at c.args.decl_at c.args.declared.body c.args.declared.text c.index_mut-2.result.now c.replace-text.new.dest c.index_mut.result.now c.put_value-body.new.function c.requires.functions c.requires.texts
    c.index_mut.ensures.value c.index_mut-2.ensures.value c.put_value-body.ensures.put c.replace-text.ensures.after).0

pub returns-clause-body : goal.returns-clause-body
returns-clause-body c =
    ap Some c.put_value-body.ensures.body
    ∙ (function_among _ c.args.parts.now c.parts.view_is c.args.at c.args.decl_at c.args.declared.body c.args.declared.text c.index_mut-2.result.now c.replace-text.new.dest c.index_mut.result.now c.put_value-body.new.function c.requires.functions c.requires.texts
    c.index_mut.ensures.value c.index_mut-2.ensures.value c.put_value-body.ensures.put c.replace-text.ensures.after).1

pub returns-clause-text : goal.returns-clause-text
returns-clause-text c =
    ap Some c.replace-text.ensures.value
    ∙ (function_among _ c.args.parts.now c.parts.view_is c.args.at c.args.decl_at c.args.declared.body c.args.declared.text c.index_mut-2.result.now c.replace-text.new.dest c.index_mut.result.now c.put_value-body.new.function c.requires.functions c.requires.texts
    c.index_mut.ensures.value c.index_mut-2.ensures.value c.put_value-body.ensures.put c.replace-text.ensures.after).2
