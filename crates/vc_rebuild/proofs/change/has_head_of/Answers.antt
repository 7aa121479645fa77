use Rattle.std.proofs.Common.{◌∙◌, sym, true≢false}
use Rattle.std.proofs.lemmas.Slice.Eq.{bytes_eq-Decides}
use Rattle.vc_rebuild.proofs.change.has_head_of.Goals as goal

pub returns-then-not-same_names : goal.returns-then-not-same_names
returns-then-not-same_names c told = absurd (true≢false (sym told))

pub returns-then-not-same_contracts : goal.returns-then-not-same_contracts
returns-then-not-same_contracts c told = absurd (true≢false (sym told))

pub returns-then-not-same_leads : goal.returns-then-not-same_leads
returns-then-not-same_leads c told = absurd (true≢false (sym told))

pub returns : goal.returns
returns c told = record {
  name = (bytes_eq-Decides c.args.old.now.name c.args.new.now.name).0 (sym c.same_names.ensures ∙ c.if-not-same_names.false);
  contract = (bytes_eq-Decides c.args.old.now.contract c.args.new.now.contract).0 (sym c.same_contracts.ensures ∙ c.if-not-same_contracts.false);
  leads = c.same_leads.ensures c.if-not-same_leads.false;
  contract_leads = c.same_contract_leads.ensures told;
}
