use Rattle.std.proofs.Common.{◌≡◌, ◌∙◌, ◌++◌, map, ap, subst}
use Rattle.std.specs.Prelude.{OnOk, codes}
use Rattle.hex.specs.Hex.{encode_lower}
use Rattle.report_text.specs.Report.{head}
use Rattle.stmt_checksum.specs.Chain.{links, first_sum, chain_lines, goal_sum}
use Rattle.stmt_checksum.proofs.checksums.push_procedure.Goals as goal

pub returns : goal.returns
returns c =
    let m = c.args.leads.now.links in
    let ds = c.args.decls.now in
    let n = c.args.name.now in
    let chain : c.deref.result.now ≡ links m first_sum (chain_lines m ds n) = c.deref.ensures.value ∙ c.in_ok-chain.ensures ∙ ap (λ k. links m first_sum (chain_lines m ds k)) c.as_bytes.ensures.value in
    subst (λ ks. OnOk c.push_goals.result (map (λ l. l.items) c.push_goals.new.lines.items ≡ map (λ l. l.items) c.args.lines.now.items ++ map (λ g. head n g ++ codes " " ++ encode_lower (goal_sum ks g)) c.args.marks.now)) chain c.push_goals.ensures
