use Rattle.std.proofs.Common.{◌≡◌, ◌∙◌, refl, sym, ap, Some, length, arith, rules}
use Rattle.std.proofs.lemmas.Option.{slice_get_read, slice_get_past}
use Rattle.logic_core.specs.Tree.{call}
use Rattle.logic_core.specs.Substitute.{substitute}
use Rattle.logic_core.specs.View.{trees_of}
use Rattle.proof_core.specs.Replace.{body_of}
use Rattle.proof_check.proofs.Listed.{body_is, no_body}
use Rattle.proof_check.proofs.rules.body_of.Goals as goal

pub returns-in_ok-substitute-in-Some : goal.returns-in_ok-substitute-in-Some
returns-in_ok-substitute-in-Some c =
    let defs = c.args.defs.now in
    let n = c.in-Call.n in
    let def = c.in-Some.def.now in
    let is : c.args.t.now ≡ call n (trees_of c.in-Call.terms.items) = search rules in
    let put : c.in_ok-substitute-in-Some.field-0 ≡ substitute def.body c.in-Call.terms.items = search rules in
    let at = c.in-Some.ensures.lookup in
    ap (body_of defs) is ∙ body_is defs n c.in-Call.terms.items def (slice_get_read defs (length defs) n def refl (omega (arith, at.3.0)) at.1) ∙ ap Some (sym put)

pub returns-in-None : goal.returns-in-None
returns-in-None c = λ _.
    let defs = c.args.defs.now in
    let n = c.in-Call.n in
    let is : c.args.t.now ≡ call n (trees_of c.in-Call.terms.items) = search rules in
    let past = c.in-None.ensures.lookup in
    ap (body_of defs) is ∙ no_body defs n c.in-Call.terms.items (slice_get_past defs n (omega (arith, past.3)))
