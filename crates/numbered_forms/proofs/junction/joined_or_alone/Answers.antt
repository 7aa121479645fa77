use Rattle.std.proofs.Common.{◌∙◌, ◌<◌, sym, ap, subst, length, IfOk, arith}
use Rattle.std.proofs.lemmas.List.{length-map}
use Rattle.logic_core.specs.View.{trees_of}
use Rattle.logic_core.specs.Junction.{joined_or_alone}
use Rattle.logic_core.specs.declared.junction.Connective.TheVariants.{And, Or}
use Rattle.logic_core.proofs.Junctions.{several}
use Rattle.term_bank.specs.Numbered.{at}
use Rattle.numbered_terms.specs.At.{IsAt}
use Rattle.numbered_terms.specs.Lists.{terms_at}
use Rattle.numbered_forms.proofs.junction.joined_or_alone.Goals as goal

pub returns-in-And-clause-gives : goal.returns-in-And-clause-gives
returns-in-And-clause-gives c =
    let ts = c.args.terms.now in
    let several_parts : 1 < length c.args.parts.items = omega arith in
    let whole = several And (terms_at ts c.args.parts.items) (omega (arith, several_parts, length-map c.args.parts.items (at ts))) ∙ ap (λ k. joined_or_alone k (trees_of (terms_at ts c.args.parts.items))) (sym c.in-And.is) in
    subst (λ t. IfOk c.make.result (λ i. IsAt c.make.new.self i t)) whole c.make.ensures.number

pub returns-in-Or-clause-gives : goal.returns-in-Or-clause-gives
returns-in-Or-clause-gives c =
    let ts = c.args.terms.now in
    let several_parts : 1 < length c.args.parts.items = omega arith in
    let whole = several Or (terms_at ts c.args.parts.items) (omega (arith, several_parts, length-map c.args.parts.items (at ts))) ∙ ap (λ k. joined_or_alone k (trees_of (terms_at ts c.args.parts.items))) (sym c.in-Or.is) in
    subst (λ t. IfOk c.make-in-Or.result (λ i. IsAt c.make-in-Or.new.self i t)) whole c.make-in-Or.ensures.number
