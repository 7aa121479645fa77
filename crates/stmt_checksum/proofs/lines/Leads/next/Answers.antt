use Rattle.std.proofs.Common.{◌≡◌, ◌∙◌, ◌<◌, length, sym, ap, subst, arith}
use Rattle.std.specs.List.{AllByRecursion}
use Rattle.std.proofs.lemmas.List.{length-map}
use Rattle.sha2.specs.Sha256.{sha256}
use Rattle.bpl_texts.specs.Uses.{leads_of}
use Rattle.bpl_model.specs.Module.{DeclText}
use Rattle.bpl_dependencies.specs.AppliedView.{texts_seen}
use Rattle.stmt_checksum.proofs.Led.{leads_there, digests_are}
use Rattle.stmt_checksum.proofs.lines.Leads.next.Goals as goal

pub reached_from-requires : goal.reached_from-requires
reached_from-requires c =
    let m = c.args.self.now.links in
    let t = c.args.self.now.table in
    let long : length c.args.self.now.digests.items ≡ length m.texts = ap length c.args.self.now.made ∙ length-map m.texts (λ (t : DeclText). sha256 t.contract) in
    let count : c.len.result ≡ length m.texts = omega (arith, c.len.ensures, long) in
    subst (AllByRecursion (λ d. d < length m.texts)) (sym (c.deref-2.ensures.value ∙ c.in_ok-leads.ensures ∙ (λ i. leads_of t (count i) (texts_seen (c.deref.ensures.value i))))) (leads_there t (length m.texts) (texts_seen c.args.part.now.uses.items))
