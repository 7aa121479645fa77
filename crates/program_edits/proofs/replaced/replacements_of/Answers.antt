use Rattle.std.proofs.Common.{sym}
use Rattle.std.proofs.lemmas.Result.{IfOk-weaker, IfErr-weaker}
use Rattle.request_text.specs.RequestView.{request_view}
use Rattle.program_edits.specs.Refusals.{reading}
use Rattle.program_edits.proofs.Readings.{reading_tells, is_edited}
use Rattle.program_edits.proofs.Placed.{places_are, edits_are, sources_are}
use Rattle.program_edits.proofs.replaced.replacements_of.Goals as goal

pub returns-clause-exact : goal.returns-clause-exact
returns-clause-exact c = IfOk-weaker c.replaced_exactly.result _ _ (λ o h. (reading, reading_tells, sym h)) c.replaced_exactly.ensures.ok

pub returns-clause-there : goal.returns-clause-there
returns-clause-there c = IfOk-weaker c.replaced_exactly.result _ _ (λ o h. places_are c.args.old.now (request_view c.args.edit.now) o (λ v. v.items) c.requires.numbered h) c.replaced_exactly.ensures.ok

pub returns-clause-edited : goal.returns-clause-edited
returns-clause-edited c = IfOk-weaker c.replaced_exactly.result _ _ (λ o h. edits_are c.args.old.now (request_view c.args.edit.now) o (λ v. v.items) c.requires.numbered h) c.replaced_exactly.ensures.ok

pub returns-clause-sources : goal.returns-clause-sources
returns-clause-sources c = IfOk-weaker c.replaced_exactly.result _ _ (λ o h. sources_are c.args.old.now (request_view c.args.edit.now) o (λ v. v.items) c.requires.numbered c.requires.short h) c.replaced_exactly.ensures.ok

pub returns-clause-refused : goal.returns-clause-refused
returns-clause-refused c = IfErr-weaker c.replaced_exactly.result _ _ (λ fault h. (h.0, is_edited _ _ h.0 h.1, h.2)) c.replaced_exactly.ensures.err
