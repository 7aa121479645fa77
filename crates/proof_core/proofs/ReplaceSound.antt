-- Replace and unfold are sound.
use Rattle.std.proofs.Common.{◌≡◌, subst, ℕ, true, ◌&&◌, Some, List, []}
use Rattle.std.specs.Prelude.{is_some, slice_get}
use Rattle.logic_core.proofs.Booleans.{both_true}
use Rattle.logic_core.specs.Tree.{Kind, Tree, call}
use Rattle.logic_core.specs.Def.{Def}
use Rattle.logic_core.specs.Wide.{◌>>=◌}
use Rattle.logic_core.specs.Sorts.{sort_of, are}
use Rattle.logic_core.specs.Substitute.{substitute}
use Rattle.logic_core.specs.Subterm.{listed, replaced}
use Rattle.logic_core.proofs.Replaced.{Same}
use Rattle.proof_core.specs.Context.{Context, fact, appended, named}
use Rattle.proof_core.specs.Says.{says}
use Rattle.proof_core.specs.Split.{stands_in}
use Rattle.proof_core.specs.Replace.{replacement, body_of, unfolded}
use Rattle.proof_core.specs.Soundness.{IsSorted, IsUnsatisfiable, ReplaceIsSound, UnfoldIsSound}
use Rattle.logic_core.specs.WellSorted.{IsFormula}
use Rattle.logic_laws.proofs.Options.{bind_some}
use Rattle.logic_laws.proofs.NormalSorts.{parts_of_call}
use Rattle.proof_core.proofs.Closed.{Of, HoldsIn, body_sort, called_value}
use Rattle.proof_core.proofs.Conditions.{when_then, some_given}
use Rattle.proof_core.proofs.Said.{said_sort, said_value}
use Rattle.proof_core.proofs.Appended.{at_fact}
use Rattle.proof_core.proofs.Replacing.{replaced_followed}

pub replace_is_sound : ReplaceIsSound
replace_is_sound f g t defs c d s e =
    let p = bind_some (fact c f) (λ u. fact c g >>= λ v. replacement defs c u v t) d e in
    let q = bind_some (fact c g) (λ v. replacement defs c p.0 v t) d p.2 in
    let w = when_then (is_some (named defs c t)) (says q.0 t >>= λ u. appended defs c (replaced t u p.0)) d q.2 in
    let sort = some_given (named defs c t) w.0 in
    let new = bind_some (says q.0 t) (λ u. appended defs c (replaced t u p.0)) d w.1 in
    let equation : IsFormula c.vars defs q.0 = at_fact (IsFormula c.vars defs) c.facts g q.0 q.1 s.facts in
    replaced_followed defs c s f p.0 p.1 t new.0 sort.0 sort.1 (said_sort c.vars defs q.0 t new.0 sort.0 equation sort.1 new.1) d new.2
    (λ frees fit hold. said_value c.vars defs s.definitions frees fit q.0 t new.0 equation (at_fact (HoldsIn defs frees) c.facts g q.0 q.1 hold) new.1)

unfold_at : (defs : List Def) (c d : Context) (f : ℕ) (t u b : Tree) (k : Kind) → IsSorted defs c → fact c f ≡ Some u → named defs c t ≡ Some k → body_of defs t ≡ Some b → appended defs c (replaced t b u) ≡ Some d → IsSorted defs d × (IsUnsatisfiable defs d → IsUnsatisfiable defs c)
unfold_at defs c d f (call n ts) u b k s g sort body e =
    let p = bind_some (slice_get defs n) (λ d. Some (substitute d.body (listed ts))) b body in
    let is_b : substitute (p.0).body (listed ts) ≡ b = cc in
    let q = parts_of_call c.vars defs n ts [] k sort in
    let own : q.0 ≡ p.0 = cc (q.1, p.1) in
    let sorts : are c.vars defs [] (p.0).params ts ≡ true = subst (λ (x : Def). are c.vars defs [] x.params ts ≡ true) own q.2 in
    let kind : (p.0).sort ≡ k = subst (λ (x : Def). x.sort ≡ k) own q.3 in
    let b_sort : sort_of c.vars defs [] b ≡ Some k = subst (λ x. sort_of c.vars defs [] x ≡ Some k) is_b (subst (λ j. sort_of c.vars defs [] (substitute (p.0).body (listed ts)) ≡ Some j) kind (body_sort c.vars defs s.definitions n p.0 ts p.1 sorts)) in
    replaced_followed defs c s f u g (call n ts) b k sort b_sort d e
    (λ frees fit hold. subst (λ x. Same (Of defs frees (call n ts)) (Of defs frees x)) is_b (called_value c.vars defs s.definitions frees fit n p.0 ts p.1 sorts))
unfold_at defs c d f t u b k s g sort body e = absurd (cc)

pub unfold_is_sound : UnfoldIsSound
unfold_is_sound f t defs c d s e =
    let p = bind_some (fact c f) (λ u. unfolded defs c u t) d e in
    let w = when_then (is_some (named defs c t) && stands_in t p.0) (body_of defs t >>= λ u. appended defs c (replaced t u p.0)) d p.2 in
    let sort = some_given (named defs c t) (both_true (is_some (named defs c t)) (stands_in t p.0) w.0).0 in
    let body = bind_some (body_of defs t) (λ u. appended defs c (replaced t u p.0)) d w.1 in
    unfold_at defs c d f t p.0 body.0 sort.0 s p.1 sort.1 body.1 body.2
