-- Chosen triggers change no term's value and no obligation's validity.
use Rattle.std.specs.Prelude.{◌≡◌, ◌↔◌, refl, ℕ, ◌+◌, pos, nat_eq, IsTrue, List, [], ◌∷◌, map, reverse, slice_index_or}
use Rattle.std.proofs.lemmas.List.Elements.{All-map}
use mathlib.Core.Path.{transport, transport⁻¹}
use Rattle.logic_core.specs.Tree.{Tree}
use Rattle.logic_core.specs.Value.{Value, whole, holds}
use Rattle.logic_core.specs.Def.{Def, Obligation}
use Rattle.logic_core.specs.Meaning.{If, With, Holds}
use Rattle.logic_core.specs.Valid.{Calls, with_def, calls_from, calls_of, Valid}
use Rattle.quantifier_triggers.specs.Choice.{with_triggers, def_with_triggers, obligation_with_triggers}
use Rattle.quantifier_triggers.proofs.SameValue.{same_meaning}

-- a term has the value that it has without chosen triggers
pub keeps_values : (defs : List Def) (t : Tree) (frees : List Value) (w : Value) → With frees (calls_of frees defs) t [] (λ v. v ≡ w) ↔ With frees (calls_of frees defs) (with_triggers defs t) [] (λ v. v ≡ w)
keeps_values defs t frees w =
    let p : With frees (calls_of frees defs) t [] (λ v. v ≡ w) ≡ With frees (calls_of frees defs) (with_triggers defs t) [] (λ v. v ≡ w) = λ j. same_meaning defs frees (calls_of frees defs) (calls_of frees defs) refl t j [] (λ v. v ≡ w) in
    (transport p, transport⁻¹ p)

-- calls by definitions whose bodies have chosen triggers are the same
same_calls_from : (defs : List Def) (frees : List Value) (ds : List Def) (n : ℕ) (calls calls' : Calls) → calls ≡ calls'
    → calls_from frees n ds calls ≡ calls_from frees n (map (def_with_triggers defs) ds) calls'
same_calls_from defs frees [] n calls calls' e = e
same_calls_from defs frees (d ∷ ds) n calls calls' e =
    same_calls_from defs frees ds (n + 1) (with_def frees n d calls) (with_def frees n (def_with_triggers defs d) calls')
    (λ j f args P. If (nat_eq f n) (same_meaning defs frees calls calls' e d.body j (reverse args) P) (e j f args P))

same_calls : (frees : List Value) (o : Obligation) → calls_of frees o.defs ≡ calls_of frees (obligation_with_triggers o).defs
same_calls frees o = same_calls_from o.defs frees o.defs 0 (λ f args P. P (whole (pos 0))) (λ f args P. P (whole (pos 0))) refl

same_holding : (frees : List Value) (o : Obligation) (t : Tree) → Holds frees (calls_of frees o.defs) t [] ≡ Holds frees (calls_of frees (obligation_with_triggers o).defs) (with_triggers o.defs t) []
same_holding frees o t = λ j. same_meaning o.defs frees (calls_of frees o.defs) (calls_of frees (obligation_with_triggers o).defs) (same_calls frees o) t j [] (λ v. IsTrue (holds v))

-- so an obligation is valid where it is with chosen triggers
pub valid_before : (o : Obligation) → Valid (obligation_with_triggers o) → Valid o
valid_before o valid frees are axioms =
    transport⁻¹ (same_holding frees o o.goal)
    (valid frees are (All-map (λ a. Holds frees (calls_of frees (obligation_with_triggers o).defs) a []) (with_triggers o.defs) o.axioms
    (λ i d below. transport (same_holding frees o (slice_index_or o.axioms i d)) (axioms i d below))))
