use Rattle.std.proofs.Common.{◌≡◌, ◌∙◌}
use Rattle.bpl_scopes.specs.Scopes.{texts_of}
use Rattle.bpl_faults.specs.Arguments.{names_seen}
use Rattle.bpl_declaration_faults.specs.DeclFaults.{same_texts}
use Rattle.body_revision.proofs.SameTexts.{modified_equal, modified_told}
use Rattle.body_revision.proofs.specs.same_modified.Goals as goal

pub returns-clause-equal : goal.returns-clause-equal
returns-clause-equal c =
    let own = c.in_ok-own.own.items in
    let others = c.in_ok-others.others.items in
    let is : c.same_texts.result ≡ same_texts (texts_of (names_seen own)) (texts_of (names_seen others)) = c.same_texts.ensures ∙ (λ i. same_texts (texts_of (names_seen (c.deref.ensures.value i))) (texts_of (names_seen (c.deref-2.ensures.value i)))) in
    modified_equal c.args.mine.now c.args.theirs.now own others c.same_texts.result c.in_ok-own.ensures c.in_ok-others.ensures is

pub returns-clause-told : goal.returns-clause-told
returns-clause-told c =
    let own = c.in_ok-own.own.items in
    let others = c.in_ok-others.others.items in
    let is : c.same_texts.result ≡ same_texts (texts_of (names_seen own)) (texts_of (names_seen others)) = c.same_texts.ensures ∙ (λ i. same_texts (texts_of (names_seen (c.deref.ensures.value i))) (texts_of (names_seen (c.deref-2.ensures.value i)))) in
    modified_told c.args.mine.now c.args.theirs.now own others c.same_texts.result c.in_ok-own.ensures c.in_ok-others.ensures is
