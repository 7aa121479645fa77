use Rattle.std.proofs.Common.{◌≡◌, ◌∙◌, subst, pos, option_map}
use Rattle.logic_core.specs.Tree.{num, equal}
use Rattle.logic_core.specs.Normal.{equals_zero}
use Rattle.term_bank.specs.Numbered.{at}
use Rattle.term_bank.proofs.Numbers.{begins_then}
use Rattle.numbered_forms.proofs.Zeros.{side_of, no_number, sides_made}
use Rattle.numbered_forms.proofs.arithmetic.equals_zero.Goals as goal

pub returns-in_ok-make-in_default : goal.returns-in_ok-make-in_default
returns-in_ok-make-in_default c =
    let ts = c.args.terms.now in
    let is : equals_zero (at ts c.args.d) ≡ option_map (λ e. equal e (num (pos 0))) (side_of (at ts c.args.d)) = subst (λ t. equals_zero t ≡ option_map (λ e. equal e (num (pos 0))) (side_of t)) c.node.ensures.node (no_number (at ts) c.node.result.now c.in_default.not-Num) in
    let made = sides_made (side_of (at ts c.args.d)) _ _ _ c.in_ok-side-in_default.side c.in_ok-zero-in_default.zero c.in_ok-make-in_default.field-0 c.in_ok-zero-in_default.ensures.grows c.in_ok-side-in_default.ensures.gives c.in_ok-zero-in_default.ensures.number c.in_ok-make-in_default.ensures.number in
    record {
      grows = begins_then _ _ _ c.in_ok-side-in_default.ensures.grows (begins_then _ _ _ c.in_ok-zero-in_default.ensures.grows c.in_ok-make-in_default.ensures.grows);
      gives = (made.0, is ∙ made.1);
    }
