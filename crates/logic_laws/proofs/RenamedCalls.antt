-- Renamed definitions have the calls of the old ones, so a renamed term means what the term means.
use Rattle.std.specs.Prelude.{◌≡◌, ℕ, zero, suc, ◌<◌, Bool, IsTrue, List, reverse, take}
use Rattle.std.proofs.Common.{arith, ◌∙◌}
use mathlib.Core.Path.{sym, transport, transport⁻¹}
use Rattle.logic_core.specs.Tree.{Tree}
use Rattle.logic_core.specs.Def.{Def}
use Rattle.logic_core.specs.Value.{Value}
use Rattle.logic_core.specs.Meaning.{With}
use Rattle.logic_core.specs.Valid.{calls_of}
use Rattle.logic_core.specs.Renamed.{both_renamed, def_renamed}
use Rattle.logic_laws.specs.RenamingLaws.{Covers, AreRenamed, KeepValues, RenamingKeepsValues}
use Rattle.logic_laws.proofs.BothRenamedMeanings.{same_meaning}
use Rattle.logic_laws.proofs.CallsByNumber.{by_body, call_is_body, earlier_call}

module _ (new_def new_var : ℕ → ℕ) (defs? vars? : ℕ → Bool) (defs defs' : List Def) (frees frees' : List Value)
    (values : KeepValues new_def new_var defs? vars? frees frees') (renamed : AreRenamed new_def new_var defs? vars? defs defs') where
  -- by induction on a number above the definition's
  same_below : (bound : ℕ) (f : ℕ) → f < bound → IsTrue (defs? f) → calls_of frees' defs' (new_def f) ≡ calls_of frees defs f
  same_below zero f below c = absurd (omega (below, arith))
  same_below (suc bound) f below c =
      let r = renamed f c in
      let body : With frees' (calls_of frees' (take (new_def f) defs')) (both_renamed new_def new_var r.definition.body) ≡ With frees (calls_of frees (take f defs)) r.definition.body
      = same_meaning new_def new_var frees frees' (calls_of frees (take f defs)) (calls_of frees' (take (new_def f) defs')) (λ v. IsTrue (vars? v)) (λ g. IsTrue (defs? g) × (g < f) × (new_def g < new_def f))
      values (λ g h. earlier_call frees' defs' (new_def f) (new_def g) h.2 ∙ same_below bound g (omega (h.1, below, arith)) h.0 ∙ sym (earlier_call frees defs f g h.1)) r.definition.body r.calls_lower in
      let by_bodies : by_body frees' (calls_of frees' (take (new_def f) defs')) (def_renamed new_def new_var r.definition) ≡ by_body frees (calls_of frees (take f defs)) r.definition
      = λ j vs P. body j (reverse vs) P in
      call_is_body frees' defs' (new_def f) (def_renamed new_def new_var r.definition) r.new ∙ by_bodies ∙ sym (call_is_body frees defs f r.definition r.old)

  pub same_calls : (f : ℕ) → IsTrue (defs? f) → calls_of frees' defs' (new_def f) ≡ calls_of frees defs f
  same_calls f c = same_below (suc f) f (omega arith) c

  pub renamed_means : (t : Tree) → Covers new_def new_var defs? vars? t → With frees' (calls_of frees' defs') (both_renamed new_def new_var t) ≡ With frees (calls_of frees defs) t
  renamed_means t covered = same_meaning new_def new_var frees frees' (calls_of frees defs) (calls_of frees' defs') (λ v. IsTrue (vars? v)) (λ f. IsTrue (defs? f)) values same_calls t covered

pub renaming_keeps_values : RenamingKeepsValues
renaming_keeps_values new_def new_var defs? vars? defs defs' frees frees' t b values renamed covered w =
    let same : With frees' (calls_of frees' defs') (both_renamed new_def new_var t) b (λ v. v ≡ w) ≡ With frees (calls_of frees defs) t b (λ v. v ≡ w)
    = λ j. renamed_means new_def new_var defs? vars? defs defs' frees frees' values renamed t covered j b (λ v. v ≡ w) in
    (transport⁻¹ same, transport same)
