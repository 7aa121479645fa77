-- A report on two procedures.
use Rattle.std.specs.Prelude.{◌≡◌, refl, ℕ, [], ◌∷◌, codes}
use Rattle.std.specs.Fmt.{digits}
use Rattle.flow_core.specs.declared.mark.GoalKind.{GoalKind}
use Rattle.flow_core.specs.declared.mark.Mark.{Mark}
use Rattle.flow_core.specs.declared.mark.GoalKind.TheVariants as kind
use Rattle.tableau.specs.Search.{proved, «open»}
use Rattle.report_text.specs.Report.{report}

abbrev marked : ℕ → ℕ → GoalKind → Mark
marked l c k = record { place = record { line = l; col = c }; kind = k }

two : report (codes "Use" ∷ codes "B" ∷ []) ((marked 2 3 (kind.Requires 1) ∷ marked 3 3 (kind.Requires 12) ∷ []) ∷ (marked 10 15 kind.InvariantKept ∷ []) ∷ []) ((proved ∷ «open» ∷ []) ∷ (proved ∷ []) ∷ [])
    ≡ codes "Use 2:3 requires(1) proved" ∷ codes "Use 3:3 requires(12) open" ∷ codes "Use not proved" ∷ codes "B 10:15 invariant-kept proved" ∷ codes "B correct" ∷ []
unfolding digits
two = refl
