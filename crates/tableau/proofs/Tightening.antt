-- New facts with the `t` nodes that follow: they are facts of a context to which the nodes lead; and what is made of a branch beside its context.
use Rattle.std.specs.Prelude.{◌≡◌, refl, ℕ, ◌+◌, true, ◌||◌, Some, List, [], ◌∷◌, length, take, drop, All}
use Rattle.std.proofs.Common.{◌∙◌, arith}
use Rattle.std.proofs.lemmas.List.{length_push}
use Rattle.std.proofs.lemmas.List.Elements.{All-nil, All-cons, All-head, All-tail, All-append, All-take, All-drop, All-weaker, All-push}
use Rattle.logic_core.specs.Tree.{Tree}
use Rattle.logic_core.specs.Def.{Def}
use Rattle.logic_core.specs.Same.{same_term}
use Rattle.logic_core.specs.Junction.{is_truth}
use Rattle.logic_core.specs.Tighten.{tighten}
use Rattle.logic_laws.proofs.Options.{cond_has}
use Rattle.proof_core.specs.Proof.{Step, by_tighten}
use Rattle.proof_core.specs.Context.{Context, fact, with_fact}
use Rattle.proof_core.specs.Steps.{after_step}
use Rattle.proof_core.specs.Accepted.{Leads}
use Rattle.proof_core.specs.Soundness.{IsSorted}
use Rattle.proof_core.proofs.ArithmeticSound.{tighten_is_sound}
use Rattle.proof_core.proofs.Building.{leads_on}
use Rattle.tableau_branch.specs.Branch.{Fact, Branch, numbered, is_there, without}
use Rattle.tableau_branch.specs.Change.{Made, Tightened, tightened, tightened_each, added, added_each, kept, changed_at}
use Rattle.tableau_branch.specs.Move.{on_one}
use Rattle.tableau.proofs.Tracked.{IsKnown, get_before, get_next, with_facts, kept_known}
use Rattle.tableau.proofs.Outcomes.{IsPlaced, Outcome}

-- the same variables, and the facts with their numbers, of which there may be more
pub record Grows (c d : Context) : Type 0 where
  pub vars : c.vars ≡ d.vars
  pub facts : (k : ℕ) (t : Tree) → fact c k ≡ Some t → fact d k ≡ Some t

pub grows_not : (c : Context) → Grows c c
grows_not c = record { vars = refl; facts = (λ k t h. h) }

pub grows_by : (c : Context) (ts : List Tree) → Grows c (with_facts c ts)
grows_by c ts = record { vars = refl; facts = (λ k t h. get_before c.facts ts k t h) }

pub grows_on : (c d e : Context) → Grows c d → Grows d e → Grows c e
grows_on c d e g h = record { vars = g.vars ∙ h.vars; facts = (λ k t x. h.facts k t (g.facts k t x)) }

pub all_known_later : (c d : Context) (fs : List Fact) → Grows c d → All (IsKnown c) fs → All (IsKnown d) fs
all_known_later c d fs g all = All-weaker (IsKnown c) (IsKnown d) (λ f h. g.facts f.number f.term h) fs all

module _ (defs : List Def) where
  -- nodes after which these facts stand in the context, whose next fact has number n
  pub record Tightens (c : Context) (ss : List Step) (n : ℕ) (fs : List Fact) : Type 0 where
    pub at : Context
    pub grows : Grows c at
    pub leads : Leads defs c ss at
    pub next : n ≡ length at.facts
    pub sorted : IsSorted defs at
    pub facts : All (IsKnown at) fs

  pub one_tightened : (c : Context) (number n : ℕ) (t : Tree) → IsSorted defs c → n ≡ length c.facts → fact c number ≡ Some t
      → Tightens c (tightened number n t).steps (tightened number n t).next ((tightened number n t).fact ∷ [])
  one_tightened c number n t sorted e known = cond_has (λ (r : Tightened). Tightens c r.steps r.next (r.fact ∷ [])) (same_term (tighten t) t)
      (record { fact = record { term = t; number = number }; steps = []; next = n })
      (record { fact = record { term = tighten t; number = n }; steps = by_tighten number ∷ []; next = n + 1 })
      (λ _. record { at = c; grows = grows_not c; leads = refl; next = e; sorted = sorted; facts = All-cons (IsKnown c) (record { term = t; number = number }) [] known (All-nil (IsKnown c)) })
      (λ _. let d = with_fact c (tighten t) in
      let step : after_step defs c (by_tighten number) ≡ Some d = rw known refl in
      let here : fact d n ≡ Some (tighten t) = get_next c.facts (tighten t) n e in record {
        at = d;
        grows = grows_by c (tighten t ∷ []);
        leads = (d, step, refl);
        next = (let y = length_push c.facts (tighten t) in omega arith);
        sorted = (tighten_is_sound number defs c d sorted step).0;
        facts = All-cons (IsKnown d) (record { term = tighten t; number = n }) [] here (All-nil (IsKnown d));
      })

  pub each_tightened : (c : Context) (number n : ℕ) (ts : List Tree) → IsSorted defs c → n ≡ length c.facts → All (IsKnown c) (numbered number ts)
      → Tightens c (tightened_each number n ts).steps (tightened_each number n ts).next (tightened_each number n ts).facts
  each_tightened c number n [] sorted e known = record { at = c; grows = grows_not c; leads = refl; next = e; sorted = sorted; facts = All-nil (IsKnown c) }
  each_tightened c number n (t ∷ ts) sorted e known =
      let first = All-head (IsKnown c) (record { term = t; number = number }) (numbered (number + 1) ts) known in
      let others = All-tail (IsKnown c) (record { term = t; number = number }) (numbered (number + 1) ts) known in
      let one = tightened number n t in
      let p = one_tightened c number n t sorted e first in
      let q = each_tightened p.at (number + 1) one.next ts p.sorted p.next (all_known_later c p.at (numbered (number + 1) ts) p.grows others) in
      let rest = tightened_each (number + 1) one.next ts in record {
        at = q.at;
        grows = grows_on c p.at q.at p.grows q.grows;
        leads = leads_on defs one.steps rest.steps c p.at q.at p.leads q.leads;
        next = q.next;
        sorted = q.sorted;
        facts = All-cons (IsKnown q.at) one.fact rest.facts (q.grows.facts (one.fact).number (one.fact).term (All-head (IsKnown p.at) one.fact [] p.facts)) q.facts;
      }

  -- a branch after nodes that append facts
  pub placed_later : (b : Branch) (c d : Context) (n : ℕ) → IsPlaced defs b c → Grows c d → n ≡ length d.facts → IsSorted defs d → IsPlaced defs (record b { next = n }) d
  placed_later b c d n p g e sorted = record {
    tracks = record { vars = p.tracks.vars ∙ g.vars; next = e; facts = all_known_later c d b.facts g p.tracks.facts };
    sorted = sorted;
  }

  pub placed_without : (b : Branch) (c : Context) (n : ℕ) → IsPlaced defs b c → IsPlaced defs (without n b) c
  placed_without b c n p = let t = p.tracks in record {
    tracks = record { vars = t.vars; next = t.next; facts = All-append (IsKnown c) (take n b.facts) (drop (n + 1) b.facts) (All-take (IsKnown c) n b.facts t.facts) (All-drop (IsKnown c) (n + 1) b.facts t.facts) };
    sorted = p.sorted;
  }

  -- what is made of a branch beside the context to which its nodes lead
  pub record Reached (c : Context) (m : Made) (d : Context) : Type 0 where
    pub leads : Leads defs c m.steps d
    pub placed : IsPlaced defs m.branch d

  pub added_reached : (c d : Context) (f : Fact) (m : Made) → Reached c m d → IsKnown d f → Reached c (added f m) d
  added_reached c d f m r k = let t = r.placed.tracks in cond_has (λ (n : Made). Reached c n d) (is_truth true f.term || is_there f.term m.branch.facts) m _ (λ _. r)
      (λ _. record { leads = r.leads; placed = record { tracks = record { vars = t.vars; next = t.next; facts = All-push (IsKnown d) m.branch.facts f t.facts k }; sorted = r.placed.sorted } })

  pub added_each_reached : (c d : Context) (fs : List Fact) (m : Made) → Reached c m d → All (IsKnown d) fs → Reached c (added_each fs m) d
  added_each_reached c d [] m r k = r
  added_each_reached c d (f ∷ fs) m r k = added_each_reached c d fs (added f m) (added_reached c d f m r (All-head (IsKnown d) f fs k)) (All-tail (IsKnown d) f fs k)

  pub changed_reached : (c d : Context) (n : ℕ) (f : Fact) (m : Made) → Reached c m d → IsKnown d f → Reached c (changed_at n f m) d
  changed_reached c d n f m r k = let fs = m.branch.facts in let t = r.placed.tracks in record {
    leads = r.leads;
    placed = record {
      tracks = record {
        vars = t.vars;
        next = t.next;
        facts = All-append (IsKnown d) (kept (take n fs) f (drop (n + 1) fs)) (drop (n + 1) fs) (kept_known d (take n fs) f (drop (n + 1) fs) (All-take (IsKnown d) n fs t.facts) k) (All-drop (IsKnown d) (n + 1) fs t.facts);
      };
      sorted = r.placed.sorted;
    };
  }

  -- a move that goes on in one context
  pub on_one_goes : (c d : Context) (m : Made) → Reached c m d → Outcome defs c (on_one m)
  on_one_goes c d m r = record { contexts = d ∷ []; goes = (r.leads, tt); placed = (r.placed, tt) }
