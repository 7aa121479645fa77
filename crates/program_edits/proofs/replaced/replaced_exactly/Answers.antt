use Rattle.std.proofs.Common.{◌≡◌, ◌<◌, ◌∙◌, arith, List, [], length, map, string_bytes, sym, ap, subst}
use Rattle.std.proofs.lemmas.Bool.{eqb-true}
use Rattle.std.proofs.lemmas.List.{nil_from_length}
use Rattle.std.proofs.lemmas.Result.{IfErr-weaker}
use Rattle.std.specs.Vec.{vec_len}
use Rattle.std.specs.List.{All}
use Rattle.request_text.specs.Request.{edit}
use Rattle.request_text.specs.RequestView.{put_view, request_view}
use Rattle.request_text.specs.declared.request.Put.{Put}
use Rattle.request_text.specs.declared.request.Request.{Request}
use Rattle.program_edits.specs.Edited.{puts_of}
use Rattle.program_edits.specs.Refusals.{TextsAreShort, RefusedBy, reading}
use Rattle.program_edits.proofs.Named.{refused_edit}
use Rattle.program_edits.proofs.Steps.{texts_each}
use Rattle.program_edits.proofs.replaced.replaced_exactly.Goals as goal

pub replaced_puts-requires : goal.replaced_puts-requires
replaced_puts-requires c =
    let short = texts_each c.in-Edit.put.items (subst (λ (r : Request). TextsAreShort (request_view r)) c.in-Edit.is c.requires.short) in
    record { short = subst (λ (ps : List Put). All (λ (p : Put). length (string_bytes p.text) < 4294967295) ps) (sym c.deref.ensures.value) short }

pub returns-then-is_empty-clause-err : goal.returns-then-is_empty-clause-err
returns-then-is_empty-clause-err c =
    let puts = c.in-Edit.put.items in
    let drops = c.in-Edit.drop.items in
    let empty : vec_len c.in-Edit.drop ≡ 0 = eqb-true (vec_len c.in-Edit.drop) 0 (sym c.is_empty.ensures ∙ c.if-is_empty.true) in
    let none : length drops ≡ 0 = omega (arith, empty) in
    let nothing : map string_bytes drops ≡ [] = ap (map string_bytes) (nil_from_length drops none) in
    let is : request_view c.args.edit.now ≡ edit (map put_view puts) (map string_bytes drops) = ap request_view c.in-Edit.is in
    IfErr-weaker c.replaced_puts.result _ _ (λ fault h. refused_edit c.args.old.now (request_view c.args.edit.now) (map put_view puts) (map string_bytes drops) fault is nothing (subst (λ (ps : List Put). RefusedBy (puts_of reading (map put_view ps)) fault) c.deref.ensures.value h)) c.replaced_puts.ensures.err
