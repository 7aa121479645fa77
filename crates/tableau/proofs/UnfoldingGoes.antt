-- The rule unfold is a rule of proofs.
use Rattle.std.specs.Prelude.{◌≡◌, refl, ℕ, Bool, true, false, cond, Option, Some, is_some, List, [], ◌∷◌, ◌++◌, find}
use Rattle.std.specs.List.{list_any}
use Rattle.std.proofs.Common.{sym, subst}
use Rattle.logic_core.proofs.Booleans.{or_second as second}
use Rattle.logic_core.specs.Tree.{Kind, boolean, Tree}
use Rattle.logic_core.specs.Def.{Def}
use Rattle.logic_core.specs.Normal.{normal}
use Rattle.logic_core.specs.Same.{same_term}
use Rattle.logic_core.specs.Wide.{◌>>=◌}
use Rattle.logic_core.specs.Subterm.{outside, replaced}
use Rattle.logic_core.specs.WellSorted.{IsFormula}
use Rattle.logic_core.proofs.SameTerm.{same_as_itself}
use Rattle.logic_laws.proofs.Options.{bind_some, cond_has}
use Rattle.proof_core.specs.Proof.{by_unfold}
use Rattle.proof_core.specs.Context.{Context, fact, with_fact, named}
use Rattle.proof_core.specs.Split.{stands_in}
use Rattle.proof_core.specs.Replace.{body_of}
use Rattle.proof_core.specs.Steps.{after_step}
use Rattle.proof_core.specs.Soundness.{IsSorted}
use Rattle.proof_core.proofs.Appended.{at_fact}
use Rattle.proof_core.proofs.ReplaceSound.{unfold_is_sound}
use Rattle.tableau_branch.specs.Branch.{Fact, Branch, gives, normal_in}
use Rattle.tableau_branch.specs.Change.{begun, appended_one, changed_at}
use Rattle.tableau_branch.specs.Move.{Move, on_one}
use Rattle.tableau_branch.specs.Shapes.{is_call}
use Rattle.logic_rules.specs.Unfolding.{first_call, is_plain, with_call, unfolded_at, unfold_call}
use Rattle.tableau.proofs.Tracked.{IsKnown, found_known}
use Rattle.tableau.proofs.OutsideSorts.{HasSort, outside_sorts, found_has}
use Rattle.tableau.proofs.Outcomes.{IsPlaced, Outcome}
use Rattle.tableau.proofs.Tightening.{changed_reached, on_one_goes}
use Rattle.tableau.proofs.Appending.{appended_normal, one_appended}
use Rattle.tableau.proofs.ClosingGoes.{found_at_oldest}
use Rattle.tableau.proofs.RewritingGoes.{some_is}

-- what is found outside quantifiers stands there
pub found_stands : (p : Tree → Bool) (t : Tree) (ts : List Tree) → find p ts ≡ Some t → list_any (same_term t) ts ≡ true
found_stands p t [] h = absurd (cc)
found_stands p t (u ∷ us) h = at_test (p u) h (λ k. found_stands p t us k)
  where
    at_test : (x : Bool) → cond x (Some u) (find p us) ≡ Some t → (find p us ≡ Some t → list_any (same_term t) us ≡ true) → list_any (same_term t) (u ∷ us) ≡ true
    at_test true k further = let is_t : u ≡ t = cc in let same : same_term t u ≡ true = subst (λ x. same_term t x ≡ true) (sym is_t) (same_as_itself t) in rw same refl
    at_test false k further = second (same_term t u) (list_any (same_term t) us) (further k)

-- where it is found it has a sort
pub found_sort : (defs : List Def) (c : Context) (f : Fact) (p : Tree → Bool) (t : Tree) → IsSorted defs c → IsKnown c f → find p (outside f.term) ≡ Some t → HasSort c.vars defs [] t
found_sort defs c f p t s k h =
    let formula : IsFormula c.vars defs f.term = at_fact (IsFormula c.vars defs) c.facts f.number f.term k s.facts in
    found_has (HasSort c.vars defs []) p (outside f.term) t h (outside_sorts c.vars defs [] f.term boolean formula)

module _ (defs : List Def) where
  with_call_placed : (b : Branch) (c : Context) (t : Tree) → IsPlaced defs b c → IsPlaced defs (with_call defs t b) c
  with_call_placed b c t p = cond_has (λ (x : Branch). IsPlaced defs x c) (is_plain defs t) (record b { calls = b.calls ++ t ∷ [] }) b
      (λ _. let k = p.tracks in record { tracks = record { vars = k.vars; next = k.next; facts = k.facts }; sorted = p.sorted }) (λ _. p)

  unfolds : (c : Context) (vars : List Kind) (n : ℕ) (g t u v : Tree) → fact c n ≡ Some g → is_some (named defs c t) ≡ true → stands_in t g ≡ true → body_of defs t ≡ Some u → vars ≡ c.vars → normal vars defs [] (replaced t u g) ≡ Some v
      → after_step defs c (by_unfold n t) ≡ Some (with_fact c v)
  unfolds c vars n g t u v known sorted stands body same e = let new = appended_normal defs vars c (replaced t u g) v same e in rw (known, sorted, stands, body) new

  pub unfold_goes : (b : Branch) (c : Context) (m : Move) → unfold_call defs b ≡ gives m → IsPlaced defs b c → Outcome defs c m
  unfold_goes b c m h placed =
      let t = placed.tracks in
      let o = found_at_oldest first_call (unfolded_at defs b) b m h in
      let a = o.0 in
      let k = found_known first_call (IsKnown c) 0 b.facts a o.1 t.facts in
      let number = (a.fact).number in
      let base = begun (with_call defs a.what b) in
      let finish : Tree → Option Move = λ v. let p = appended_one (by_unfold number a.what ∷ []) v base in Some (on_one (changed_at a.at p.0 p.1)) in
      let p = bind_some (body_of defs a.what) (λ u. normal_in defs b (replaced a.what u (a.fact).term) >>= finish) m o.2 in
      let q = bind_some (normal_in defs b (replaced a.what p.0 (a.fact).term)) finish m p.2 in
      let v = q.0 in
      let one = appended_one (by_unfold number a.what ∷ []) v base in
      let is_m : on_one (changed_at a.at one.0 one.1) ≡ m = cc in
      let sort = found_sort defs c a.fact is_call a.what placed.sorted k.0 k.1 in
      let named_call : is_some (named defs c a.what) ≡ true = some_is (named defs c a.what) sort.0 sort.1 in
      let stands : stands_in a.what (a.fact).term ≡ true = found_stands is_call a.what (outside (a.fact).term) k.1 in
      let step = unfolds c b.vars number (a.fact).term a.what p.0 v k.0 named_call stands p.1 t.vars q.1 in
      let r = one_appended defs c c c base (by_unfold number a.what) v refl step (with_call_placed b c a.what placed) (unfold_is_sound number a.what defs c (with_fact c v) placed.sorted step).0 in
      subst (λ n. Outcome defs c n) is_m (on_one_goes defs c r.at (changed_at a.at one.0 one.1) (changed_reached defs c r.at a.at one.0 one.1 r.reached r.known))
