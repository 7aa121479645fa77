use Rattle.std.proofs.Common.{◌≡◌, ◌∙◌, ◌==◌, sym, subst, true, length}
use Rattle.std.specs.List.{list_all}
use Rattle.bpl_model.specs.Walk.{text_at}
use Rattle.vc_rebuild.proofs.text.reached_by_own.Goals as goal

pub reached_always-requires-clause-nowhere : goal.reached_always-requires-clause-nowhere
reached_always-requires-clause-nowhere c =
    subst (λ ts. list_all (λ d. length (text_at ts d).leads == 0) c.args.own.now ≡ true) c.texts_of.ensures (sym c.lead_nowhere.ensures ∙ c.if-lead_nowhere.true)
