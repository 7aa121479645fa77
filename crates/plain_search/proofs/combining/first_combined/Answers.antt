use Rattle.std.proofs.Common.{◌≡◌, ◌∙◌, sym, take, map}
use Rattle.tableau_branch.specs.Branch.{none, leaves, gives, first_attempt}
use Rattle.theory_rules.specs.Combining.{combine_pair}
use Rattle.plain_search.specs.CombinedView.{combined_of}
use Rattle.theory_rules.proofs.CombinedPairs.{pairs_passed, pairs_taken}
use Rattle.theory_rules.proofs.Tried.{attempts_err}
use Rattle.plain_search.proofs.combining.first_combined.Goals as goal

pub returns-in_err-combined : goal.returns-in_err-combined
returns-in_err-combined c = attempts_err combined_of c.from_residual.result c.in_err-combined.field-0.0 _ c.from_residual.ensures.1 (λ wide.
    let es = c.args.entries.now in
    let e = c.index-entries-i.result in
    let here : first_attempt (combine_pair es) (map (λ d. (d, e)) (take c.loop-i.i es)) ≡ leaves = c.in_err-combined.ensures wide in
    sym c.loop-i.invariant ∙ pairs_taken (combine_pair es) es c.loop-i.i e leaves c.loop-i-test.true c.index-entries-i.is tt here)

pub returns-in-Some : goal.returns-in-Some
returns-in-Some c =
    let es = c.args.entries.now in
    let e = c.index-entries-i.result in
    let here : first_attempt (combine_pair es) (map (λ d. (d, e)) (take c.loop-i.i es)) ≡ gives (combined_of c.in-Some.combined) = rw c.in-Some.is at c.in_ok-combined.ensures in
    sym c.loop-i.invariant ∙ pairs_taken (combine_pair es) es c.loop-i.i e (gives (combined_of c.in-Some.combined)) c.loop-i-test.true c.index-entries-i.is tt here

pub loop-i-preserved : goal.loop-i-preserved
loop-i-preserved c =
    let es = c.args.entries.now in
    let e = c.index-entries-i.result in
    let here : first_attempt (combine_pair es) (map (λ d. (d, e)) (take c.loop-i.i es)) ≡ none = rw c.in_default.is at c.in_ok-combined.ensures in
    pairs_passed (combine_pair es) es c.loop-i.i e c.loop-i-test.true c.index-entries-i.is here ∙ c.loop-i.invariant
