-- Facts that are changed between two places: those before the first and from the second one on stay.
use Rattle.std.proofs.Common.{◌≡◌, refl, sym, ap, subst, ◌∙◌, ℕ, ◌+◌, ◌-◌, ◌<◌, ◌≤◌, false, Bool, Option, Some, List, [], ◌∷◌, ◌++◌, map, length, take, drop, arith}
use Rattle.std.specs.List.{AllByRecursion}
use Rattle.std.proofs.lemmas.List.{append-nil, append_assoc, take-append-drop, drop-drop, drop-map, drop_all, length-drop, length-map}
use Rattle.logic_core.specs.Tree.{Tree}
use Rattle.logic_core.specs.Normal.{normal}
use Rattle.logic_core.specs.Subterm.{replaced}
use Rattle.proof_core.specs.Proof.{Step}
use Rattle.term_bank.specs.Numbered.{at}
use Rattle.tableau_branch.specs.Branch.{Fact, with_facts}
use Rattle.tableau_branch.specs.Change.{Made, appended_one, emptied, changed_from}
use Rattle.tableau_branch.specs.Replacing.{picks_on, node_on}
use Rattle.tableau_branch.proofs.ChangedFacts.{passes}
use Rattle.numbered_terms.specs.Stored.{Numbered, Grows}
use Rattle.numbered_branches.specs.Branches.{NumberedFact, NumberedMade, fact_at, made_at, IsMadeOver}
use Rattle.numbered_branches.specs.Replacing.{IsReplacing, IsPassed, changed_on}
use Rattle.numbered_branches.specs.declared.replacing.Replacing.{Replacing}
use Rattle.numbered_branches.proofs.Changing.{made_more}
use Rattle.numbered_branches.proofs.Growing.{stays}

module _ (picks : Fact → Bool) (new : Tree → Option Tree) (node : Fact → Step) where
  front_stays : (done xs ys : List Fact) (m : Made) → AllByRecursion (λ (f : Fact). picks f ≡ false) xs → changed_from picks new node (done ++ xs) ys m ≡ changed_from picks new node done (xs ++ ys) m
  front_stays done [] ys m h = ap (λ ds. changed_from picks new node ds ys m) (append-nil done)
  front_stays done (x ∷ xs) ys m h = ap (λ ds. changed_from picks new node ds ys m) (sym (append_assoc done (x ∷ []) xs))
      ∙ front_stays (done ++ x ∷ []) xs ys m h.1
      ∙ sym (passes picks new node done x (xs ++ ys) m h.0)

  rest_stays : (done xs : List Fact) (m : Made) → AllByRecursion (λ (f : Fact). picks f ≡ false) xs → changed_from picks new node done xs m ≡ Some (record { branch = with_facts m.branch (done ++ xs); steps = m.steps; size = m.size })
  rest_stays done [] m h = ap (λ ds. Some (record { branch = with_facts m.branch ds; steps = m.steps; size = m.size })) (sym (append-nil done))
  rest_stays done (x ∷ xs) m h = passes picks new node done x xs m h.0
      ∙ rest_stays (done ++ x ∷ []) xs m h.1
      ∙ ap (λ ds. Some (record { branch = with_facts m.branch ds; steps = m.steps; size = m.size })) (append_assoc done (x ∷ []) xs)

-- from the first place on, and up to the second one
module _ (n : Numbered) (r : Replacing) (m : NumberedMade) (k : ℕ) where
  abbrev facts : List Fact
  facts = map (fact_at n.terms) m.branch.facts

  abbrev whole : Made
  whole = made_at n.terms m

  abbrev picks : Fact → Bool
  picks = picks_on r.ground (at n.terms r.left)

  abbrev new : Tree → Option Tree
  new t = normal m.branch.vars n.defs [] (replaced (at n.terms r.left) (at n.terms r.right) t)

  pub from_front : AllByRecursion (IsPassed n.terms r) (take k facts) → changed_on n r m k ≡ changed_on n r m 0
  from_front h = front_stays picks new (node_on r.ground (at n.terms r.left)) [] (take k facts) (drop k facts) (emptied whole) h
      ∙ ap (λ fs. changed_from picks new (node_on r.ground (at n.terms r.left)) [] fs (emptied whole)) (take-append-drop k facts)

  pub to_rest : AllByRecursion (IsPassed n.terms r) (drop k facts) → changed_on n r m k ≡ Some whole
  to_rest h = rest_stays picks new (node_on r.ground (at n.terms r.left)) (take k facts) (drop k facts) (emptied whole) h
      ∙ ap (λ fs. Some (record { branch = with_facts (whole.branch) fs; steps = whole.steps; size = whole.size })) (take-append-drop k facts)

-- the rest is the same over a longer store
pub passed_on : (n m : Numbered) (g : Grows n m) (r : Replacing) → IsReplacing n.terms r → (fs gs : List Fact) → gs ≡ fs → AllByRecursion (IsPassed n.terms r) fs → AllByRecursion (IsPassed m.terms r) gs
passed_on n m g r h fs gs e passed =
    subst (λ (l : Tree). AllByRecursion (λ (f : Fact). picks_on r.ground l f ≡ false) gs) (sym (stays n m r.left g h.left)) (subst (λ (xs : List Fact). AllByRecursion (IsPassed n.terms r) xs) (sym e) passed)

-- what is behind a fact that was looked at: the fact stays, or is changed
pub behind_passed : (n u : Numbered) (g : Grows n u) (place : ℕ) (old : NumberedMade) → IsMadeOver n.terms old → drop (place + 1) (map (fact_at u.terms) old.branch.facts) ≡ drop (place + 1) (map (fact_at n.terms) old.branch.facts)
behind_passed n u g place old over = ap (λ (x : Made). drop (place + 1) x.branch.facts) (made_more n.terms u.terms g.terms old over).1

pub behind_changed : (n u v : Numbered) (g : Grows n u) (step : Step) (t : Tree) (place k : ℕ) (old more made : NumberedMade) → IsMadeOver n.terms old → made_at v.terms more ≡ (appended_one (step ∷ []) t (made_at u.terms old)).1
    → drop k made.branch.facts ≡ drop (place + 1) more.branch.facts → drop k (map (fact_at v.terms) made.branch.facts) ≡ drop (place + 1) (map (fact_at n.terms) old.branch.facts)
behind_changed n u v g step t place k old more made over is_more behind =
    drop-map (fact_at v.terms) k made.branch.facts ∙ ap (map (fact_at v.terms)) behind ∙ sym (drop-map (fact_at v.terms) (place + 1) more.branch.facts)
    ∙ ap (λ (x : Made). drop (place + 1) x.branch.facts) is_more ∙ behind_passed n u g place old over

-- one more on
pub behind_next : (xs ys : List Fact) (i j : ℕ) → drop i xs ≡ drop j ys → drop (i + 1) xs ≡ drop (j + 1) ys
behind_next xs ys i j e = sym (drop-drop 1 i xs) ∙ ap (drop 1) e ∙ drop-drop 1 j ys

-- there is a fact
pub still_there : (ts us : List Tree) (fs gs : List NumberedFact) (i j until : ℕ) → drop i (map (fact_at us) gs) ≡ drop j (map (fact_at ts) fs) → j < until → until ≤ length fs → i < length gs
still_there ts us fs gs i j until e l w = omega (arith, l, w, ap length e, length-drop i (map (fact_at us) gs), length-drop j (map (fact_at ts) fs), length-map gs (fact_at us), length-map fs (fact_at ts))

pub none_behind : (ts : List Tree) (P : Fact → Type 0) (fs : List NumberedFact) (k : ℕ) → length fs ≤ k → AllByRecursion P (drop k (map (fact_at ts) fs))
none_behind ts P fs k l = subst (AllByRecursion P) (sym (drop_all k (map (fact_at ts) fs) (omega (arith, l, length-map fs (fact_at ts))))) tt
