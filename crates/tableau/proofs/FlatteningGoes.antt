-- The rule flatten is a rule of proofs.
use Rattle.std.specs.Prelude.{◌≡◌, refl, ◌+◌, Some, List, [], ◌∷◌, ◌++◌, length}
use Rattle.std.proofs.Common.{◌∙◌, ap, subst, arith}
use Rattle.std.proofs.lemmas.List.{length-append}
use Rattle.logic_core.specs.Tree.{Tree, all, Trees}
use Rattle.logic_core.specs.Def.{Def}
use Rattle.logic_core.specs.Subterm.{listed}
use Rattle.logic_laws.proofs.Options.{bind_some}
use Rattle.proof_core.specs.Proof.{by_split}
use Rattle.proof_core.specs.Context.{Context, fact}
use Rattle.proof_core.specs.Steps.{after_step}
use Rattle.proof_core.proofs.SplitSound.{split_is_sound}
use Rattle.tableau_branch.specs.Branch.{Branch, gives, normal_in, without, each}
use Rattle.tableau_branch.specs.Change.{begun, appended, added_each}
use Rattle.tableau_branch.specs.Move.{Move, on_one}
use Rattle.logic_rules.specs.Flattening.{conjuncts_of, as_all, flattened_at, flatten}
use Rattle.tableau.proofs.Tracked.{IsKnown, with_facts, numbered_known, each_appended, found_known}
use Rattle.tableau.proofs.Outcomes.{IsPlaced, Outcome}
use Rattle.tableau.proofs.Tightening.{grows_by, grows_on, each_tightened, placed_later, placed_without, Reached, added_each_reached, on_one_goes}
use Rattle.tableau.proofs.ClosingGoes.{found_at_oldest}

is_and : (t : Tree) (ts : List Tree) → conjuncts_of t ≡ Some ts → (us : Trees) × (t ≡ all us) × (listed us ≡ ts)
is_and (all us) ts h = (us, refl, cc)
is_and t ts h = absurd (cc)

module _ (defs : List Def) where
  pub flatten_goes : (b : Branch) (c : Context) (m : Move) → flatten defs b ≡ gives m → IsPlaced defs b c → Outcome defs c m
  flatten_goes b c m h placed =
      let t = placed.tracks in
      let o = found_at_oldest as_all (flattened_at defs b) b m h in
      let a = o.0 in
      let k = found_known as_all (IsKnown c) 0 b.facts a o.1 t.facts in
      let number = (a.fact).number in
      let base = begun (without a.at b) in
      let parts = bind_some (each (normal_in defs b) a.what) (λ ts. let p = appended (by_split number ∷ []) ts base in Some (on_one (added_each p.0 p.1))) m o.2 in
      let us = parts.0 in
      let p = appended (by_split number ∷ []) us base in
      let is_m : on_one (added_each p.0 p.1) ≡ m = cc in
      let d = with_facts c us in
      let form = is_and (a.fact).term a.what k.1 in
      let step : after_step defs c (by_split number) ≡ Some d = (let here : fact c number ≡ Some (all form.0) = k.0 ∙ ap Some form.1 in rw here (each_appended defs (listed form.0) us c b t.vars (ap (each (normal_in defs b)) form.2 ∙ parts.1))) in
      let sorted = (split_is_sound number defs c d placed.sorted step).0 in
      let count : b.next + length us ≡ length (c.facts ++ us) = (let n = t.next in let l = length-append c.facts us in omega arith) in
      let r = each_tightened defs d b.next (b.next + length us) us sorted count (numbered_known c.vars c.facts us b.next t.next) in
      let reached : Reached defs c p.1 r.at = record {
        leads = (d, step, r.leads);
        placed = placed_later defs (without a.at b) c r.at _ (placed_without defs b c a.at placed) (grows_on c d r.at (grows_by c us) r.grows) r.next r.sorted;
      } in
      subst (λ n. Outcome defs c n) is_m (on_one_goes defs c r.at (added_each p.0 p.1) (added_each_reached defs c r.at p.0 p.1 reached r.facts))
