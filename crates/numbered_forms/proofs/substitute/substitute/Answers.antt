use Rattle.std.proofs.Common.{◌≡◌, ◌∙◌, sym, ap, subst, reverse}
use Rattle.logic_core.specs.Substitute.{put_within, substitute}
use Rattle.term_bank.specs.Numbered.{at}
use Rattle.term_bank.proofs.Numbers.{begins_at}
use Rattle.numbered_terms.specs.At.{IsAt}
use Rattle.numbered_terms.specs.Lists.{terms_at}
use Rattle.numbered_forms.proofs.Substituting.{put_reversed}
use Rattle.numbered_forms.proofs.substitute.substitute.Goals as goal

pub returns-clause-gives : goal.returns-clause-gives
returns-clause-gives c =
    let ts = c.args.terms.now in let us = c.put_in.new.terms in let f = c.in_ok-put_in.ensures.found in
    let e : c.deref.result.now ≡ reverse c.args.args.now = c.deref.ensures.value ∙ c.reverse.ensures.items ∙ ap reverse c.in_ok-reversed.ensures in
    let whole = begins_at ts us c.args.body c.put_in.ensures.grows c.requires.body in
    subst (λ j. IsAt us j (substitute (at ts c.args.body) (terms_at ts c.args.args.now))) (sym c.new_number.ensures) (
      f.1.0,
      f.1.1 ∙ (λ k. put_within (terms_at ts (e k)) 0 (whole k)) ∙ put_reversed ts c.args.args.now (at ts c.args.body),
    )
