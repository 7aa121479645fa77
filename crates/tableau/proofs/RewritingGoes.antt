-- The rule rewrite is a rule of proofs.
use Rattle.std.specs.Prelude.{◌≡◌, refl, ℕ, true, Option, Some, None, is_some, List, []}
use Rattle.std.proofs.Common.{◌∙◌, subst}
use Rattle.logic_core.specs.Tree.{Kind, Tree}
use Rattle.logic_core.specs.Def.{Def}
use Rattle.logic_core.specs.Normal.{normal}
use Rattle.logic_core.specs.Wide.{◌>>=◌}
use Rattle.logic_core.specs.Subterm.{replaced}
use Rattle.logic_core.specs.WellSorted.{IsFormula}
use Rattle.logic_laws.proofs.Options.{bind_some}
use Rattle.proof_core.specs.Proof.{Step, by_replace}
use Rattle.proof_core.specs.Context.{Context, fact, with_fact, named}
use Rattle.proof_core.specs.Says.{says}
use Rattle.proof_core.specs.Steps.{after_step}
use Rattle.proof_core.specs.Soundness.{IsSorted}
use Rattle.proof_core.proofs.Appended.{at_fact}
use Rattle.proof_core.proofs.ReplaceSound.{replace_is_sound}
use Rattle.tableau_branch.specs.Branch.{Fact, Branch, gives, each}
use Rattle.tableau_branch.specs.Change.{begun, changed_each}
use Rattle.tableau_branch.specs.Move.{Move, on_one}
use Rattle.tableau_branch.specs.Replacing.{rewrites}
use Rattle.logic_rules.specs.Rewriting.{left_in_another, rewritten, rewritten_within, rewritten_mark, with_calls_and_marks, rewritten_by, rewrite}
use Rattle.tableau.proofs.Tracked.{IsKnown, found_known}
use Rattle.tableau.proofs.OutsideSorts.{said_of_sorted}
use Rattle.tableau.proofs.Outcomes.{IsPlaced, Outcome}
use Rattle.tableau.proofs.Tightening.{grows_not, Reached, on_one_goes}
use Rattle.tableau.proofs.Appending.{appended_normal, each_changed}
use Rattle.tableau.proofs.ClosingGoes.{found_at_oldest}

pub some_is : {A : Type 0} (o : Option A) (x : A) → o ≡ Some x → is_some o ≡ true
some_is None x h = absurd (cc)
some_is (Some y) x h = refl

module _ (defs : List Def) where
  -- the node of a replacement, by a fact that says what the term is equal to
  pub replaces : (vars : List Kind) (f : ℕ) (said l r : Tree) (e : Context) (g : Fact) (t : Tree) → vars ≡ e.vars → IsSorted defs e → fact e f ≡ Some said → says said l ≡ Some r → IsKnown e g → normal vars defs [] (replaced l r g.term) ≡ Some t
      → (after_step defs e (by_replace g.number f l) ≡ Some (with_fact e t)) × IsSorted defs (with_fact e t)
  replaces vars f said l r e g t v s kf says_so kg new =
      let formula : IsFormula e.vars defs said = at_fact (IsFormula e.vars defs) e.facts f said kf s.facts in
      let sort = said_of_sorted e.vars defs said l r formula says_so in
      let named_l : is_some (named defs e l) ≡ true = some_is (named defs e l) sort.0 sort.1 in
      let made = appended_normal defs vars e (replaced l r g.term) t v new in
      let step : after_step defs e (by_replace g.number f l) ≡ Some (with_fact e t) = rw (kg, kf, named_l, says_so) made in
      (step, (replace_is_sound g.number f l defs e (with_fact e t) s step).0)

  rewritten_goes : (b : Branch) (f : Fact) (l r : Tree) (c : Context) (m : Move) → IsPlaced defs b c → IsKnown c f → says f.term l ≡ Some r → rewritten_by defs b f l ≡ Some m → Outcome defs c m
  rewritten_goes b f l r c m placed kf said h =
      let t = placed.tracks in
      let made = rw said at h in
      let picks = rewrites f.number l in
      let new = rewritten defs b l r in
      let node : Fact → Step = λ g. by_replace g.number f.number l in
      let p = bind_some (changed_each picks new node (begun b)) (λ n. each (rewritten_within defs b l r) b.calls >>= λ calls. each (rewritten_mark defs b l r) b.marks >>= λ marks. Some (on_one (with_calls_and_marks calls marks n))) m made in
      let q = bind_some (each (rewritten_within defs b l r) b.calls) (λ calls. each (rewritten_mark defs b l r) b.marks >>= λ marks. Some (on_one (with_calls_and_marks calls marks p.0))) m p.2 in
      let w = bind_some (each (rewritten_mark defs b l r) b.marks) (λ marks. Some (on_one (with_calls_and_marks q.0 marks p.0))) m q.2 in
      let is_m : on_one (with_calls_and_marks q.0 w.0 p.0) ≡ m = cc in
      let start : Reached defs c (begun b) c = record { leads = refl; placed = placed } in
      let o = each_changed defs picks new node c (λ e g u grown s kg _ k. replaces b.vars f.number f.term l r e g u (t.vars ∙ grown.vars) s (grown.facts f.number f.term kf) said kg k) c c (begun b) p.0 (grows_not c) start p.1 in
      let at = o.2.placed.tracks in
      let reached : Reached defs c (with_calls_and_marks q.0 w.0 p.0) o.0 = record {
        leads = o.2.leads;
        placed = record { tracks = record { vars = at.vars; next = at.next; facts = at.facts }; sorted = o.2.placed.sorted };
      } in
      subst (λ n. Outcome defs c n) is_m (on_one_goes defs c o.0 (with_calls_and_marks q.0 w.0 p.0) reached)

  pub rewrite_goes : (b : Branch) (c : Context) (m : Move) → rewrite defs b ≡ gives m → IsPlaced defs b c → Outcome defs c m
  rewrite_goes b c m h placed =
      let o = found_at_oldest (left_in_another defs b) (λ a. rewritten_by defs b a.fact a.what) b m h in
      let a = o.0 in
      let k = found_known (left_in_another defs b) (IsKnown c) 0 b.facts a o.1 placed.tracks.facts in
      let f = a.fact in
      let l = a.what in
      let p = bind_some (says f.term l) (λ r. changed_each (rewrites f.number l) (rewritten defs b l r) (λ g. by_replace g.number f.number l) (begun b) >>= λ n.
      each (rewritten_within defs b l r) b.calls >>= λ calls. each (rewritten_mark defs b l r) b.marks >>= λ marks. Some (on_one (with_calls_and_marks calls marks n))) m o.2 in
      rewritten_goes b f l p.0 c m placed k.0 p.1 o.2
