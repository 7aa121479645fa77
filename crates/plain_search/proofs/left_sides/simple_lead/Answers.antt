use Rattle.std.proofs.Common.{◌≡◌, ◌≢◌, refl, ℤ, None, List, [], ◌∷◌, length, arith}
use Rattle.logic_core.specs.Tree.{Tree}
use Rattle.logic_core.specs.View.{parts_of}
use Rattle.tableau_branch.specs.Oriented.{simple_lead}
use Rattle.plain_search.proofs.left_sides.simple_lead.Goals as goal

-- with more than two parts there is none
no_simple_lead : (ps : List (ℤ × Tree)) (c : ℤ) → length ps ≢ 1 → length ps ≢ 2 → simple_lead (parts_of ps) c ≡ None
no_simple_lead [] c h k = refl
no_simple_lead (p ∷ []) c h k = absurd (h refl)
no_simple_lead (p ∷ (q ∷ [])) c h k = absurd (k refl)
no_simple_lead (p ∷ (q ∷ (r ∷ ps))) c h k = refl

pub returns-in_default : goal.returns-in_default
returns-in_default c =
    let one : length c.args.parts.now ≢ 1 = omega arith in
    let two : length c.args.parts.now ≢ 2 = omega arith in
    let none = no_simple_lead c.args.parts.now c.args.rest one two in cc
