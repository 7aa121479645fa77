-- The search for the first pair of facts of numbers that close a branch, one fact on.
use Rattle.std.proofs.Common.{◌≡◌, refl, sym, ap, ◌∙◌, ℕ, ◌+◌, ◌<◌, ◌≤◌, Bool, true, false, Option, Some, None, List, [], ◌∷◌, ◌++◌, map, find, length, take, drop, get_or}
use Rattle.std.proofs.lemmas.List.{map-append, append-nil, append_assoc, take-append-drop, at_drop_all}
use Rattle.logic_core.specs.Tree.{Tree}
use Rattle.logic_core.specs.Junction.{is_truth}
use Rattle.term_bank.specs.Numbered.{at}
use Rattle.tableau_branch.specs.Branch.{Fact}
use Rattle.tableau_branch.proofs.Lists.{drop_item, take_item}
use Rattle.logic_rules.specs.Closing.{are_opposed, pair_from}
use Rattle.logic_rules.proofs.Pairs.{pairs_with, pairs_with_itself, pairs_later}
use Rattle.numbered_logic.specs.declared.closing.Denied.{Denied}
use Rattle.numbered_logic.specs.Denied.{denied_at}

-- where the first facts have no pair
no_pair : {A : Type 0} (p : Fact × Fact) → Some p ≡ None → A
no_pair p h = absurd (cc)

skip_one : (before : List Fact) (g : Fact) (gs ys : List Fact) (o : Option Fact) (b : Bool) → find (λ f. are_opposed f g) before ≡ o → is_truth false g.term ≡ b → pair_from before (g ∷ gs) ≡ None
    → (pair_from (before ++ g ∷ []) gs ≡ None → pair_from (before ++ g ∷ []) (gs ++ ys) ≡ pair_from ((before ++ g ∷ []) ++ gs) ys) → pair_from before (g ∷ (gs ++ ys)) ≡ pair_from (before ++ g ∷ gs) ys
skip_one before g gs ys (Some f) b e d h next = no_pair (f, g) (sym (pairs_with before g gs f e) ∙ h)
skip_one before g gs ys None true e d h next = no_pair (g, g) (sym (pairs_with_itself before g gs e d) ∙ h)
skip_one before g gs ys None false e d h next = pairs_later before g (gs ++ ys) e d ∙ next (sym (pairs_later before g gs e d) ∙ h) ∙ ap (λ fs. pair_from fs ys) (append_assoc before (g ∷ []) gs)

skip : (before xs ys : List Fact) → pair_from before xs ≡ None → pair_from before (xs ++ ys) ≡ pair_from (before ++ xs) ys
skip before [] ys h = ap (λ fs. pair_from fs ys) (sym (append-nil before))
skip before (g ∷ gs) ys h = skip_one before g gs ys (find (λ f. are_opposed f g) before) (is_truth false g.term) refl refl h (λ r. skip (before ++ g ∷ []) gs ys r)

module _ (ts : List Tree) where
  abbrev seen : List Denied → List Fact
  seen ds = map (denied_at ts) ds

  pub find_nowhere : (p : Fact → Bool) (ds : List Denied) (i : ℕ) → length ds ≤ i → find p (seen (drop i ds)) ≡ None
  find_nowhere p ds i l = at_drop_all (λ gs. find p (seen gs)) ds i l

  pub pair_nowhere : (ds : List Denied) (i : ℕ) → length ds ≤ i → pair_from (seen (take i ds)) (seen (drop i ds)) ≡ None
  pair_nowhere ds i l = at_drop_all (λ gs. pair_from (seen (take i ds)) (seen gs)) ds i l

  pub pair_skipped : (ds : List Denied) (i : ℕ) → pair_from [] (seen (take i ds)) ≡ None → pair_from [] (seen ds) ≡ pair_from (seen (take i ds)) (seen (drop i ds))
  pair_skipped ds i h = ap (λ es. pair_from [] (seen es)) (sym (take-append-drop i ds)) ∙ ap (pair_from []) (map-append (denied_at ts) (take i ds) (drop i ds)) ∙ skip [] (seen (take i ds)) (seen (drop i ds)) h

  module _ (ds : List Denied) (i : ℕ) (d : Denied) (l : i < length ds) (e : d ≡ get_or ds i d) where
    pub find_here : (p : Fact → Bool) → p (denied_at ts d) ≡ true → find p (seen (drop i ds)) ≡ Some (denied_at ts d)
    find_here p h = ap (λ gs. find p (seen gs)) (drop_item ds i d l e) ∙ rw h refl

    pub find_later : (p : Fact → Bool) → p (denied_at ts d) ≡ false → find p (seen (drop i ds)) ≡ find p (seen (drop (i + 1) ds))
    find_later p h = ap (λ gs. find p (seen gs)) (drop_item ds i d l e) ∙ rw h refl

    abbrev Earlier : Option Fact → Type 0
    Earlier o = find (λ f. are_opposed f (denied_at ts d)) (seen (take i ds)) ≡ o

    next : pair_from (seen (take i ds)) (seen (drop i ds)) ≡ pair_from (seen (take i ds)) (denied_at ts d ∷ seen (drop (i + 1) ds))
    next = ap (λ gs. pair_from (seen (take i ds)) (seen gs)) (drop_item ds i d l e)

    pub pair_here : (f : Fact) → Earlier (Some f) → pair_from (seen (take i ds)) (seen (drop i ds)) ≡ Some (f, denied_at ts d)
    pair_here f h = next ∙ pairs_with (seen (take i ds)) (denied_at ts d) (seen (drop (i + 1) ds)) f h

    pub pair_itself : Earlier None → is_truth false (at ts (d.fact).term) ≡ true → pair_from (seen (take i ds)) (seen (drop i ds)) ≡ Some (denied_at ts d, denied_at ts d)
    pair_itself h t = next ∙ pairs_with_itself (seen (take i ds)) (denied_at ts d) (seen (drop (i + 1) ds)) h t

    pub pair_later : Earlier None → is_truth false (at ts (d.fact).term) ≡ false → pair_from (seen (take i ds)) (seen (drop i ds)) ≡ pair_from (seen (take (i + 1) ds)) (seen (drop (i + 1) ds))
    pair_later h t = next ∙ pairs_later (seen (take i ds)) (denied_at ts d) (seen (drop (i + 1) ds)) h t
        ∙ ap (λ fs. pair_from fs (seen (drop (i + 1) ds))) (sym (ap seen (take_item ds i d l e) ∙ map-append (denied_at ts) (take i ds) (d ∷ [])))
