use Rattle.std.proofs.Common.{sym, ap, ◌∙◌, map}
use Rattle.std.specs.Prelude.{option_map}
use Rattle.bpl_scopes.specs.Positions.{first_at}
use Rattle.bpl_scopes.specs.Scopes.{Entry, entry_of}
use Rattle.bpl_texts.specs.Leads.{looked_decl}
use Rattle.bpl_texts.proofs.RisingLeads.{decl_looked}
use Rattle.bpl_texts.proofs.leads.decl_of.Goals as goal

pub returns : goal.returns
returns c =
    let es = c.entries.result.now in
    let n = c.args.name.now in
    c.decl_at.ensures
    ∙ ap (looked_decl es) (c.find.ensures ∙ ap (λ t. first_at n (map (λ (e : Entry). e.name) t)) (sym c.entries.ensures))
    ∙ sym (decl_looked es n)
    ∙ ap (λ t. option_map (λ (e : Entry). e.decl) (entry_of t n)) c.entries.ensures
