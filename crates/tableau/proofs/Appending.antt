-- Nodes that append one fact or two, with the `t` nodes that follow, and facts that are changed one after another: what is made stands beside the context to which the nodes lead.
use Rattle.std.specs.Prelude.{◌≡◌, refl, ◌+◌, Bool, true, false, Option, Some, List, [], ◌∷◌, ◌++◌, length, All}
use Rattle.std.proofs.Common.{subst, arith}
use Rattle.std.proofs.lemmas.List.{length-append, length_push}
use Rattle.std.proofs.lemmas.List.Elements.{All-nil, All-head, All-tail, All-push}
use Rattle.logic_core.specs.Tree.{Kind, Tree}
use Rattle.logic_core.specs.Def.{Def}
use Rattle.logic_core.specs.Wide.{◌>>=◌}
use Rattle.logic_core.specs.Normal.{normal}
use Rattle.logic_laws.proofs.Options.{bind_some}
use Rattle.proof_core.specs.Proof.{Step}
use Rattle.proof_core.specs.Context.{Context, with_fact}
use Rattle.proof_core.specs.Context as context
use Rattle.proof_core.specs.Steps.{after_step}
use Rattle.proof_core.specs.Accepted.{Leads}
use Rattle.proof_core.specs.Soundness.{IsSorted}
use Rattle.proof_core.proofs.Building.{leads_on}
use Rattle.tableau_branch.specs.Branch.{Fact, Branch, numbered}
use Rattle.tableau_branch.specs.Change.{Made, begun, tightened, appended_one, appended_two, kept, emptied, with_size, changed_from, changed_each}
use Rattle.tableau_branch.specs.Cases.{case}
use Rattle.tableau.proofs.Tracked.{IsKnown, get_next, with_facts, numbered_known, kept_known}
use Rattle.tableau.proofs.Outcomes.{IsPlaced}
use Rattle.tableau.proofs.Tightening.{Grows, grows_by, grows_on, all_known_later, one_tightened, placed_later, Reached, added_reached}

-- the normal form over the context's variables is appended
pub appended_normal : (defs : List Def) (vars : List Kind) (c : Context) (t u : Tree) → vars ≡ c.vars → normal vars defs [] t ≡ Some u → context.appended defs c t ≡ Some (with_fact c u)
appended_normal defs vars c t u v h = let n : normal c.vars defs [] t ≡ Some u = subst (λ vs. normal vs defs [] t ≡ Some u) v h in rw n refl

module _ (defs : List Def) where
  -- what is made, beside the context at the end, in which a new fact stands
  pub record Further (c d : Context) (f : Fact) (m : Made) : Type 0 where
    pub at : Context
    pub grows : Grows d at
    pub reached : Reached defs c m at
    pub known : IsKnown at f

  one_after : (c x d : Context) (m : Made) (ss : List Step) (t : Tree) → Leads defs c m.steps x → Leads defs x ss (with_fact d t) → IsPlaced defs m.branch d → IsSorted defs (with_fact d t)
      → Further c d (appended_one ss t m).0 (appended_one ss t m).1
  one_after c x d m ss t so_far step placed sorted =
      let n = m.branch.next in
      let y = with_fact d t in
      let next = placed.tracks.next in
      let count : n + 1 ≡ length (d.facts ++ t ∷ []) = (let l = length_push d.facts t in omega arith) in
      let r = tightened n (n + 1) t in
      let q = one_tightened defs y n (n + 1) t sorted count (get_next d.facts t n next) in
      let g = grows_on d y q.at (grows_by d (t ∷ [])) q.grows in record {
        at = q.at;
        grows = g;
        reached = record {
          leads = leads_on defs m.steps (ss ++ r.steps) c x q.at so_far (leads_on defs ss r.steps x y q.at step q.leads);
          placed = placed_later defs m.branch d q.at r.next placed g q.next q.sorted;
        };
        known = All-head (IsKnown q.at) r.fact [] q.facts;
      }

  pub one_appended : (c x d : Context) (m : Made) (s : Step) (t : Tree) → Leads defs c m.steps x → after_step defs x s ≡ Some (with_fact d t) → IsPlaced defs m.branch d → IsSorted defs (with_fact d t)
      → Further c d (appended_one (s ∷ []) t m).0 (appended_one (s ∷ []) t m).1
  one_appended c x d m s t so_far step placed sorted = one_after c x d m (s ∷ []) t so_far (with_fact d t, step, refl) placed sorted

  -- the branch of a child with one more fact
  pub case_reached : (b : Branch) (c : Context) (t : Tree) → IsPlaced defs b c → IsSorted defs (with_fact c t) → (d : Context) × Reached defs (with_fact c t) (case b t) d
  case_reached b c t placed sorted =
      let y = with_fact c t in
      let p = appended_one [] t (begun b) in
      let r = one_after y y c (begun b) [] t refl refl placed sorted in
      (r.at, added_reached defs y r.at p.0 p.1 r.reached r.known)

  -- two facts of a child
  pub record Both (c d : Context) (f g : Fact) (m : Made) : Type 0 where
    pub at : Context
    pub grows : Grows d at
    pub reached : Reached defs c m at
    pub first : IsKnown at f
    pub second : IsKnown at g

  pub two_appended : (b : Branch) (c : Context) (t u : Tree) → IsPlaced defs b c → IsSorted defs (with_facts c (t ∷ u ∷ []))
      → Both (with_facts c (t ∷ u ∷ [])) c (appended_two t u (begun b)).0 (appended_two t u (begun b)).1 (appended_two t u (begun b)).2
  two_appended b c t u placed sorted =
      let n = b.next in
      let y = with_facts c (t ∷ u ∷ []) in
      let next = placed.tracks.next in
      let count : n + 2 ≡ length (c.facts ++ t ∷ u ∷ []) = (let l = length-append c.facts (t ∷ u ∷ []) in omega arith) in
      let known = numbered_known c.vars c.facts (t ∷ u ∷ []) n next in
      let rest = All-tail (IsKnown y) (record { term = t; number = n }) (numbered (n + 1) (u ∷ [])) known in
      let p = tightened n (n + 2) t in
      let q = tightened (n + 1) p.next u in
      let r = one_tightened defs y n (n + 2) t sorted count (All-head (IsKnown y) (record { term = t; number = n }) (numbered (n + 1) (u ∷ [])) known) in
      let s = one_tightened defs r.at (n + 1) p.next u r.sorted r.next (r.grows.facts (n + 1) u (All-head (IsKnown y) (record { term = u; number = n + 1 }) [] rest)) in
      let g = grows_on c y s.at (grows_by c (t ∷ u ∷ [])) (grows_on y r.at s.at r.grows s.grows) in record {
        at = s.at;
        grows = g;
        reached = record { leads = leads_on defs p.steps q.steps y r.at s.at r.leads s.leads; placed = placed_later defs b c s.at q.next placed g s.next s.sorted };
        first = s.grows.facts (p.fact).number (p.fact).term (All-head (IsKnown r.at) p.fact [] r.facts);
        second = All-head (IsKnown s.at) q.fact [] s.facts;
      }

  -- each fact that is picked is changed by a node that every later context allows
  module _ (picks : Fact → Bool) (new : Tree → Option Tree) (node : Fact → Step) (base : Context)
      (allows : (e : Context) (g : Fact) (t : Tree) → Grows base e → IsSorted defs e → IsKnown e g → picks g ≡ true → new g.term ≡ Some t → (after_step defs e (node g) ≡ Some (with_fact e t)) × IsSorted defs (with_fact e t)) where
    abbrev on_change : List Fact → Fact → List Fact → Made → Tree → Option Made
    on_change done g gs m t = let p = appended_one (node g ∷ []) t m in
        changed_from picks new node (kept done p.0 gs) gs (record { branch = (p.1).branch; steps = (p.1).steps; size = with_size (p.1).size (p.0).term })

    abbrev Ends : Context → Made → Type 0
    Ends c n = (e : Context) × Grows base e × Reached defs c n e

    changed_goes : (c : Context) (done fs : List Fact) (m n : Made) (d : Context) → Grows base d → Reached defs c m d → All (IsKnown d) done → All (IsKnown d) fs → changed_from picks new node done fs m ≡ Some n → Ends c n
    changed_goes c done [] m n d g r kd kf h =
        let is_n : record { branch = record (m.branch) { facts = done }; steps = m.steps; size = m.size } ≡ n = cc in
        let t = r.placed.tracks in
        subst (λ x. Ends c x) is_n (d, g, record { leads = r.leads; placed = record { tracks = record { vars = t.vars; next = t.next; facts = kd }; sorted = r.placed.sorted } })
    changed_goes c done (f ∷ fs) m n d g r kd kfs h =
        let kf = All-head (IsKnown d) f fs kfs in
        let kgs = All-tail (IsKnown d) f fs kfs in
        at_test (picks f) refl h
        (λ k. changed_goes c (done ++ f ∷ []) fs m n d g r (All-push (IsKnown d) done f kd kf) kgs k)
        (λ e k. let p = bind_some (new f.term) (on_change done f fs m) n k in
        let t = p.0 in
        let step = allows d f t g r.placed.sorted kf e p.1 in
        let a = appended_one (node f ∷ []) t m in
        let o = one_appended c d d m (node f) t r.leads step.0 r.placed step.1 in
        changed_goes c (kept done a.0 fs) fs (record { branch = (a.1).branch; steps = (a.1).steps; size = with_size (a.1).size (a.0).term }) n o.at (grows_on base d o.at g o.grows)
        (record { leads = o.reached.leads; placed = o.reached.placed })
        (kept_known o.at done a.0 fs (all_known_later d o.at done o.grows kd) o.known) (all_known_later d o.at fs o.grows kgs) p.2)
      where
        at_test : (x : Bool) → picks f ≡ x → ◌≡◌ {A = Option Made} (elim x [ false ↦ changed_from picks new node (done ++ f ∷ []) fs m | true ↦ (new f.term >>= on_change done f fs m) ]) (Some n)
            → (changed_from picks new node (done ++ f ∷ []) fs m ≡ Some n → Ends c n) → (picks f ≡ true → (new f.term >>= on_change done f fs m) ≡ Some n → Ends c n) → Ends c n
        at_test true e k stays goes = goes e k
        at_test false e k stays goes = stays k

    pub each_changed : (c d : Context) (m n : Made) → Grows base d → Reached defs c m d → changed_each picks new node m ≡ Some n → Ends c n
    each_changed c d m n g r h =
        let t = r.placed.tracks in
        let empty : Reached defs c (emptied m) d = record { leads = r.leads; placed = record { tracks = record { vars = t.vars; next = t.next; facts = All-nil (IsKnown d) }; sorted = r.placed.sorted } } in
        changed_goes c [] m.branch.facts (emptied m) n d g empty (All-nil (IsKnown d)) t.facts h
