use Rattle.std.proofs.Common.{◌≡◌, ◌∙◌, ℕ, ◌+◌, ap, sym, subst, false, drop, length, arith}
use Rattle.bv_base.specs.declared.place.Place.{Place}
use Rattle.bv_base.specs.Place.{place_at}
use Rattle.bpl_lex.specs.Token.{Token}
use Rattle.bpl_lex.specs.Spelled.{AreInOrder}
use Rattle.fault_text.specs.Words.{same_place, stands_at}
use Rattle.fault_text.proofs.InOrder.{inside_at, GoesOn, goes_on}
use Rattle.fault_text.proofs.Found.{found_later}
use Rattle.fault_text.proofs.words.word_standing.Goals as goal
use Rattle.fault_text.proofs.words.word_standing.Goals.{After-token}

onward : (c : After-token) → GoesOn c.loop-token.at (length c.args.text.now) c.loop-token.token-index c.args.tokens.now c.token-item.result
onward c = goes_on c.loop-token.at (length c.args.text.now) c.loop-token.token-index c.args.tokens.now c.token-item.result
    c.loop-token.invariant.ordered c.loop-token-test.true c.token-item.is

begins : (c : After-token) → c.token.inside.span.start ≡ (c.token-item.result).start
begins c = ap (λ (t : Token). t.start) c.token.view_is

pub place_onward-here-requires-clause-known : goal.place_onward-here-requires-clause-known
place_onward-here-requires-clause-known c = c.loop-token.invariant.known

pub place_onward-here-requires-clause-in_order : goal.place_onward-here-requires-clause-in_order
place_onward-here-requires-clause-in_order c = (omega arith, omega (arith, begins c, (onward c).not_before))

pub place_onward-here-requires-clause-in_text : goal.place_onward-here-requires-clause-in_text
place_onward-here-requires-clause-in_text c = omega (arith, begins c, (onward c).inside.ordered, (onward c).inside.within)

pub place_onward-here-requires-clause-fits : goal.place_onward-here-requires-clause-fits
place_onward-here-requires-clause-fits c = omega (arith, begins c, (onward c).inside.ordered, (onward c).inside.within, c.requires.short)

pub text_in-requires-clause-inside : goal.text_in-requires-clause-inside
text_in-requires-clause-inside c =
    (inside_at 0 (length c.args.text.now) c.args.tokens.now c.loop-token.token-index c.token-item.result c.requires.in_order c.loop-token-test.true c.token-item.is).within

pub loop-token-preserved : goal.loop-token-preserved
loop-token-preserved c =
    let text = c.args.text.now in
    let is_start : c.token.inside.span.start ≡ (c.token-item.result).start = ap (λ (t : Token). t.start) c.token.view_is in
    let here : c.place_onward-here.result ≡ place_at c.args.text.now 0 (c.token-item.result).start =
    c.place_onward-here.ensures ∙ ap (λ (at : ℕ). place_at c.args.text.now 0 at) is_start in
    let elsewhere : stands_at c.args.text.now c.args.place c.token-item.result ≡ false =
    ap (λ (p : Place). same_place p c.args.place) (sym here) ∙ sym c.eq.ensures ∙ c.if-eq.false in
    let on : GoesOn c.loop-token.at (length c.args.text.now) c.loop-token.token-index c.args.tokens.now c.token-item.result =
    goes_on c.loop-token.at (length c.args.text.now) c.loop-token.token-index c.args.tokens.now c.token-item.result
    c.loop-token.invariant.ordered c.loop-token-test.true c.token-item.is in
    record {
      first = found_later (stands_at text c.args.place) c.args.tokens.now c.loop-token.token-index c.token-item.result c.loop-token-test.true c.token-item.is elsewhere
          c.loop-token.invariant.first;
      known = c.place_onward-here.ensures;
      ordered = subst (λ (at : ℕ). AreInOrder at (length c.args.text.now) (drop (c.loop-token.token-index + 1) c.args.tokens.now)) (sym is_start) on.rest;
    }
