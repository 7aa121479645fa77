-- The rule instantiate is a rule of proofs: the terms of a tuple are closed and well sorted.
use Rattle.std.specs.Prelude.{◌≡◌, refl, ℕ, true, Option, Some, None, option_to_list, List, [], ◌∷◌, ◌++◌, All, find, map, flat_map}
use Rattle.std.proofs.Common.{◌∙◌, ap, subst}
use Rattle.std.proofs.lemmas.List.Elements.{All-nil, All-cons, All-head, All-tail, All-append}
use Rattle.logic_core.specs.Tree.{Kind, Tree, for_all, Patterns, no_patterns, pattern}
use Rattle.logic_core.specs.Def.{Def}
use Rattle.logic_core.specs.View.{trees_of}
use Rattle.logic_core.specs.Sorts.{are}
use Rattle.logic_core.specs.Substitute.{substitute}
use Rattle.logic_laws.proofs.Options.{bind_some}
use Rattle.quantifier_triggers.specs.Match.{tuples}
use Rattle.quantifier_triggers.proofs.TupleSorts.{tuples_sorted}
use Rattle.proof_core.specs.Proof.{by_instantiate}
use Rattle.proof_core.specs.Context.{Context, fact, with_fact, appended}
use Rattle.proof_core.specs.Steps.{after_step}
use Rattle.proof_core.proofs.QuantifiersSound.{instantiate_is_sound}
use Rattle.tableau_branch.specs.Branch.{Fact, Mark, Branch, Attempt, none, gives, unless_wide, normal_in}
use Rattle.tableau_branch.specs.Change.{begun, appended_one, added}
use Rattle.tableau_branch.specs.Move.{Move, on_one}
use Rattle.logic_rules.specs.Instantiating.{ground_terms, Quantified, as_for_all, Candidate, mark_of, is_unmarked, candidates_by, candidates_of, candidates, instantiated_by, instantiate}
use Rattle.tableau.proofs.Tracked.{IsKnown}
use Rattle.tableau.proofs.OutsideSorts.{found_has}
use Rattle.tableau.proofs.Outcomes.{IsPlaced, Outcome}
use Rattle.tableau.proofs.Tightening.{added_reached, on_one_goes}
use Rattle.tableau.proofs.Appending.{appended_normal, one_appended}
use Rattle.tableau.proofs.PastGoes.{flat_has}

mapped_has : {A B : Type 0} (P : A → Type 0) (Q : B → Type 0) (f : A → B) (xs : List A) → ((x : A) → P x → Q (f x)) → All P xs → All Q (map f xs)
mapped_has P Q f [] go all = All-nil Q
mapped_has P Q f (x ∷ xs) go all = All-cons Q (f x) (map f xs) (go x (All-head P x xs all)) (mapped_has P Q f xs go (All-tail P x xs all))

module _ (defs : List Def) where
  -- a ForAll that stands in the context, and a tuple of terms of its variables' sorts
  record Fits (c : Context) (x : Candidate) : Type 0 where
    sorts : List Kind
    triggers : Patterns
    known : fact c (x.fact).number ≡ Some (for_all sorts triggers x.body)
    fit : are c.vars defs [] sorts (trees_of x.tuple) ≡ true

  by_fit : (b : Branch) (c : Context) (terms : List Tree) (f : Fact) (q : Quantified) (ps : Patterns) → b.vars ≡ c.vars → fact c f.number ≡ Some (for_all q.sorts q.triggers q.body) → All (Fits c) (candidates_by defs b terms f q ps)
  by_fit b c terms f q no_patterns v k = All-nil (Fits c)
  by_fit b c terms f q (pattern ts ps) v k =
      let one = mapped_has (λ us. are b.vars defs [] q.sorts (trees_of us) ≡ true) (Fits c) (λ us. record { fact = f; body = q.body; tuple = us }) (tuples b.vars defs ts q.sorts terms)
      (λ us fit. record { sorts = q.sorts; triggers = q.triggers; known = k; fit = subst (λ vs. are vs defs [] q.sorts (trees_of us) ≡ true) v fit }) (tuples_sorted b.vars defs ts q.sorts terms) in
      All-append (Fits c) (map (λ us. record { fact = f; body = q.body; tuple = us }) (tuples b.vars defs ts q.sorts terms)) (candidates_by defs b terms f q ps) one (by_fit b c terms f q ps v k)

  quantified_is : (t : Tree) (q : Quantified) → as_for_all t ≡ Some q → t ≡ for_all q.sorts q.triggers q.body
  quantified_is (for_all ss ps u) q h = let is_q : record { sorts = ss; triggers = ps; body = u } ≡ q = cc in subst (λ (x : Quantified). for_all ss ps u ≡ for_all x.sorts x.triggers x.body) is_q refl
  quantified_is t q h = absurd (cc)

  of_fit : (b : Branch) (c : Context) (terms : List Tree) (f : Fact) → b.vars ≡ c.vars → IsKnown c f → All (Fits c) (candidates_of defs b terms f)
  of_fit b c terms f v k = at_form (as_for_all f.term) refl
    where
      at_form : (o : Option Quantified) → as_for_all f.term ≡ o → All (Fits c) (flat_map (λ q. candidates_by defs b terms f q q.triggers) (option_to_list o))
      at_form None e = All-nil (Fits c)
      at_form (Some q) e = All-append (Fits c) (candidates_by defs b terms f q q.triggers) [] (by_fit b c terms f q q.triggers v (k ∙ ap Some (quantified_is f.term q e))) (All-nil (Fits c))

  instantiates : (c : Context) (n : ℕ) (ss : List Kind) (ps : Patterns) (u : Tree) (ts : List Tree) (d : Context) → fact c n ≡ Some (for_all ss ps u) → are c.vars defs [] ss (trees_of ts) ≡ true → appended defs c (substitute u ts) ≡ Some d → after_step defs c (by_instantiate n ts) ≡ Some d
  instantiates c n ss ps u ts d known fit new = rw (known, fit) new

  marked_placed : (b : Branch) (c : Context) (ms : List Mark) → IsPlaced defs b c → IsPlaced defs (record b { marks = ms }) c
  marked_placed b c ms p = let t = p.tracks in record { tracks = record { vars = t.vars; next = t.next; facts = t.facts }; sorted = p.sorted }

  instantiated_goes : (b : Branch) (c : Context) (x : Candidate) (m : Move) → IsPlaced defs b c → Fits c x → instantiated_by defs b x ≡ Some m → Outcome defs c m
  instantiated_goes b c x m placed fits h =
      let number = (x.fact).number in
      let y : Branch = record b { marks = b.marks ++ mark_of x ∷ [] } in
      let p = bind_some (normal_in defs b (substitute x.body x.tuple)) (λ t. let r = appended_one (by_instantiate number x.tuple ∷ []) t (begun y) in Some (on_one (added r.0 r.1))) m h in
      let one = appended_one (by_instantiate number x.tuple ∷ []) p.0 (begun y) in
      let is_m : on_one (added one.0 one.1) ≡ m = cc in
      let step = instantiates c number fits.sorts fits.triggers x.body x.tuple (with_fact c p.0) fits.known fits.fit (appended_normal defs b.vars c (substitute x.body x.tuple) p.0 placed.tracks.vars p.1) in
      let r = one_appended defs c c c (begun y) (by_instantiate number x.tuple) p.0 refl step (marked_placed b c (b.marks ++ mark_of x ∷ []) placed) (instantiate_is_sound number x.tuple defs c (with_fact c p.0) placed.sorted step).0 in
      subst (λ n. Outcome defs c n) is_m (on_one_goes defs c r.at (added one.0 one.1) (added_reached defs c r.at one.0 one.1 r.reached r.known))

  pub instantiate_goes : (b : Branch) (c : Context) (m : Move) → instantiate defs b ≡ gives m → IsPlaced defs b c → Outcome defs c m
  instantiate_goes b c m h placed = at_found (find (is_unmarked b) (candidates defs b)) refl h
    where
      gives_some : (y : Option Move) → unless_wide y ≡ gives m → y ≡ Some m
      gives_some None k = absurd (cc)
      gives_some (Some n) k = cc

      at_found : (o : Option Candidate) → find (is_unmarked b) (candidates defs b) ≡ o → ◌≡◌ {A = Attempt Move} (elim o [ None ↦ none | Some x ↦ unless_wide (instantiated_by defs b x) ]) (gives m) → Outcome defs c m
      at_found None e k = absurd (cc)
      at_found (Some x) e k =
          let all = flat_has (IsKnown c) (Fits c) (candidates_of defs b (ground_terms b)) b.facts (λ f known. of_fit b c (ground_terms b) f placed.tracks.vars known) placed.tracks.facts in
          instantiated_goes b c x m placed (found_has (Fits c) (is_unmarked b) (candidates defs b) x e all) (gives_some (instantiated_by defs b x) k)
