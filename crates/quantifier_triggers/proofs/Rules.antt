-- Each chosen trigger meets the rules of triggers, and one is missing only where the candidates together don't cover.
use Rattle.std.specs.Prelude.{◌≡◌, refl, ◌↔◌, ℕ, nat_lt, Bool, true, false, cond, ◌&&◌, is_some, IsTrue, List, [], ◌∷◌, ◌++◌, filter, fold, Option, Some, None, option_map, ⊤, if◌then◌else◌}
use Rattle.std.specs.List.{AllByRecursion, list_any, range_with_len}
use Rattle.std.proofs.Common.{arith}
use Rattle.std.proofs.lemmas.List.{append_assoc, append-nil}
use Rattle.logic_core.proofs.Booleans.{both_true}
use mathlib.Core.Path.{subst, sym}
use mathlib.Core.Logic.{inl, inr}
use Rattle.logic_core.specs.Tree.{Tree, no_patterns, pattern}
use Rattle.logic_core.specs.Same.{same_term}
use Rattle.logic_core.specs.Subterm.{outside, listed}
use Rattle.logic_core.specs.View.{trees_of}
use Rattle.logic_core.specs.Def.{Def}
use Rattle.logic_core.proofs.EachOf.{every_append}
use Rattle.quantifier_triggers.specs.Candidates.{is_built, is_read_or_call, is_candidate, touches, bound_numbers, covers, joined, candidates, mentioned_by}
use Rattle.quantifier_triggers.specs.Choice.{smaller, least, adds, cover, pick, as_trigger}
use Rattle.quantifier_triggers.specs.Kept.{IsPattern, IsTrigger, lists, ChosenTriggersMeetTheRules, LeftOutOnlyUncovered}
use Rattle.quantifier_triggers.proofs.Lists.{every_kept, Has, has_left, has_right, has_one, all_there, range_below, not_new}

pub every_joined : (P : Tree → Type 0) (ts acc : List Tree) → AllByRecursion P acc → AllByRecursion P ts → AllByRecursion P (fold joined acc ts)
every_joined P [] acc a h = a
every_joined P (t ∷ ts) acc a h = every_joined P ts (joined acc t) (at_test (list_any (same_term t) acc)) h.1
  where
    at_test : (b : Bool) → AllByRecursion P (if b then acc else acc ++ t ∷ [])
    at_test true = a
    at_test false = every_append P acc (t ∷ []) a (h.0, tt)

every_term : (ts : List Tree) → AllByRecursion (λ t. ⊤) ts
every_term [] = tt
every_term (t ∷ ts) = (tt, every_term ts)

candidates_are_patterns : (defs : List Def) (n : ℕ) (body : Tree) → AllByRecursion (IsPattern defs) (candidates defs n body)
candidates_are_patterns defs n body =
    every_joined (IsPattern defs) (filter (is_candidate defs n) (outside body)) [] tt
    (every_kept (is_candidate defs n) (λ t. ⊤) (IsPattern defs) (λ t u h.
    let p = both_true (is_read_or_call defs t) (is_built t && touches n (bound_numbers t)) h in
    let q = both_true (is_built t) (touches n (bound_numbers t)) p.1 in record { head = p.0; built = q.0 }) (outside body) (every_term (outside body)))

-- over a property of all candidates
module _ (P : Tree → Type 0) (n : ℕ) where
  -- what is picked has it, and covers with what was covered before
  abbrev pub Covers : List ℕ → Option (List Tree) → Type 0
  Covers before None = ⊤
  Covers before (Some us) = AllByRecursion P us × (covers n (before ++ mentioned_by us) ≡ true)

  covers_now : (before : List ℕ) → covers n before ≡ true → Covers before (Some [])
  covers_now before e = (tt, subst (λ (xs : List ℕ). covers n xs ≡ true) (sym (append-nil before)) e)

  taken : (before : List ℕ) (t : Tree) → P t → (o : Option (List Tree)) → Covers (before ++ bound_numbers t) o → Covers before (option_map (λ us. t ∷ us) o)
  taken before t p None r = tt
  taken before t p (Some us) r = ((p, r.0), subst (λ (xs : List ℕ). covers n xs ≡ true) (append_assoc before (bound_numbers t) (mentioned_by us)) r.1)

  is_cover : (ts : List Tree) (before : List ℕ) → AllByRecursion P ts → Covers before (cover n before ts)
  is_cover [] before h = at_end (covers n before) (covers_now before)
    where
      at_end : (b : Bool) → (b ≡ true → Covers before (Some [])) → Covers before (cond b (Some []) None)
      at_end true f = f refl
      at_end false f = tt
  is_cover (t ∷ ts) before h = at_head (covers n before) (covers_now before) (adds n before t) (is_cover ts (before ++ bound_numbers t) h.1) (is_cover ts before h.1)
    where
      at_head : (b : Bool) → (b ≡ true → Covers before (Some [])) → (c : Bool) → Covers (before ++ bound_numbers t) (cover n (before ++ bound_numbers t) ts) → Covers before (cover n before ts)
          → Covers before (elim b [ true ↦ Some [] | false ↦ elim c [ true ↦ option_map (λ us. t ∷ us) (cover n (before ++ bound_numbers t) ts) | false ↦ cover n before ts ] ])
      at_head true f c r s = f refl
      at_head false f true r s = taken before t h.0 _ r
      at_head false f false r s = s

  abbrev Whole : Tree → Type 0
  Whole t = P t × (covers n (bound_numbers t) ≡ true)

  the_smaller : (ts : List Tree) (t : Tree) → Whole t → AllByRecursion Whole ts → Whole (fold smaller t ts)
  the_smaller [] t w h = w
  the_smaller (u ∷ us) t w h = the_smaller us (smaller t u) (at_test _) h.1
    where
      at_test : (b : Bool) → Whole (cond b u t)
      at_test true = h.0
      at_test false = w

  pub is_picked : (ts : List Tree) → AllByRecursion P ts → Covers [] (pick n ts)
  is_picked ts h = of_least (filter (λ t. covers n (bound_numbers t)) ts) (every_kept (λ t. covers n (bound_numbers t)) P Whole (λ t p e. (p, e)) ts h)
    where
      of_least : (us : List Tree) → AllByRecursion Whole us → Covers [] (elim (least us) [ Some t ↦ Some (t ∷ []) | None ↦ cover n [] ts ])
      of_least [] w = is_cover ts [] h
      of_least (u ∷ us) w = let r = the_smaller us u w.0 w.1 in ((r.0, tt), subst (λ (xs : List ℕ). covers n xs ≡ true) (sym (append-nil (bound_numbers (fold smaller u us)))) r.1)

listed_again : (ts : List Tree) → listed (trees_of ts) ≡ ts
listed_again [] = refl
listed_again (t ∷ ts) = λ j. t ∷ listed_again ts j

pub chosen_triggers_meet_the_rules : ChosenTriggersMeetTheRules
chosen_triggers_meet_the_rules defs n body = of_pick (pick n (candidates defs n body)) (is_picked (IsPattern defs) n (candidates defs n body) (candidates_are_patterns defs n body))
  where
    of_pick : (o : Option (List Tree)) → Covers (IsPattern defs) n [] o → AllByRecursion (IsTrigger defs n) (lists (as_trigger o))
    of_pick None r = tt
    of_pick (Some us) r = (
      record {
        patterns = subst (AllByRecursion (IsPattern defs)) (sym (listed_again us)) r.0;
        covers = subst (λ (ts : List Tree). IsTrue (covers n (mentioned_by ts))) (sym (listed_again us)) r.1;
      },
      tt,
    )

-- where the terms cover together, some of them are picked
is_found : (n : ℕ) (ts : List Tree) (before : List ℕ) → covers n (before ++ mentioned_by ts) ≡ true → is_some (cover n before ts) ≡ true
is_found n [] before h = at_end (covers n before) (subst (λ (xs : List ℕ). covers n xs ≡ true) (append-nil before) h)
  where
    at_end : (b : Bool) → b ≡ true → is_some (cond {A = Option (List Tree)} b (Some []) None) ≡ true
    at_end true e = refl
    at_end false e = let c : false ≡ true = e in absurd cc
is_found n (t ∷ ts) before h = at_head (covers n before) (adds n before t) refl (is_found n ts (before ++ bound_numbers t) (subst (λ (xs : List ℕ). covers n xs ≡ true) (sym (append_assoc before (bound_numbers t) (mentioned_by ts))) h)) (is_found n ts before)
  where
    still : (o : Option (List Tree)) → is_some o ≡ true → is_some (option_map (λ us. t ∷ us) o) ≡ true
    still None e = let c : false ≡ true = e in absurd cc
    still (Some us) e = refl

    without : adds n before t ≡ false → (v : ℕ) → nat_lt v n ≡ true → Has v (before ++ (bound_numbers t ++ mentioned_by ts)) → Has v (before ++ mentioned_by ts)
    without none v below k = elim (has_one v before (bound_numbers t ++ mentioned_by ts) k) [
      | inl a ↦ has_left v before (mentioned_by ts) a
      | inr b ↦ elim (has_one v (bound_numbers t) (mentioned_by ts) b) [
        | inl c ↦ has_left v before (mentioned_by ts) (not_new n before v below (bound_numbers t) none c)
        | inr d ↦ has_right v before (mentioned_by ts) d
      ]
    ]

    at_head : (b c : Bool) → adds n before t ≡ c → is_some (cover n (before ++ bound_numbers t) ts) ≡ true → (covers n (before ++ mentioned_by ts) ≡ true → is_some (cover n before ts) ≡ true)
        → is_some (elim b [ true ↦ Some [] | false ↦ elim c [ true ↦ option_map (λ us. t ∷ us) (cover n (before ++ bound_numbers t) ts) | false ↦ cover n before ts ] ]) ≡ true
    at_head true c e later f = refl
    at_head false true e later f = still _ later
    at_head false false e later f = f (all_there n (before ++ (bound_numbers t ++ mentioned_by ts)) (before ++ mentioned_by ts) (without e) (range_with_len 0 n) (range_below n 0 n (omega arith)) h)

is_picked_where_covered : (n : ℕ) (ts : List Tree) → covers n (mentioned_by ts) ≡ true → is_some (pick n ts) ≡ true
is_picked_where_covered n ts h = of_least (least (filter (λ t. covers n (bound_numbers t)) ts))
  where
    of_least : (o : Option Tree) → is_some (elim o [ Some t ↦ Some (t ∷ []) | None ↦ cover n [] ts ]) ≡ true
    of_least None = is_found n ts [] h
    of_least (Some t) = refl

-- what one of the terms mentions they mention together
abbrev MentionedBy : List Tree → Tree → Type 0
MentionedBy ts t = (v : ℕ) → Has v (bound_numbers t) → Has v (mentioned_by ts)

weaker : (t : Tree) (ts us : List Tree) → AllByRecursion (MentionedBy ts) us → AllByRecursion (MentionedBy (t ∷ ts)) us
weaker t ts [] h = tt
weaker t ts (u ∷ us) h = ((λ v k. has_right v (bound_numbers t) (mentioned_by ts) (h.0 v k)), weaker t ts us h.1)

each_mentioned : (ts : List Tree) → AllByRecursion (MentionedBy ts) ts
each_mentioned [] = tt
each_mentioned (t ∷ ts) = ((λ v k. has_left v (bound_numbers t) (mentioned_by ts) k), weaker t ts ts (each_mentioned ts))

all_mentioned : (ts us : List Tree) → AllByRecursion (MentionedBy ts) us → (v : ℕ) → Has v (mentioned_by us) → Has v (mentioned_by ts)
all_mentioned ts [] h v k = let c : false ≡ true = k in absurd cc
all_mentioned ts (u ∷ us) h v k = elim (has_one v (bound_numbers u) (mentioned_by us) k) [ inl a ↦ h.0 v a | inr b ↦ all_mentioned ts us h.1 v b ]

pub left_out_only_uncovered : LeftOutOnlyUncovered
left_out_only_uncovered defs n (pattern ts ps) body = ((λ e. let c : pattern ts ps ≡ no_patterns = e in absurd cc), (λ h. let c : pattern ts ps ≡ no_patterns = h.0 in absurd cc))
left_out_only_uncovered defs n no_patterns body = of_pick (pick n cs) (is_picked (MentionedBy cs) n cs (each_mentioned cs)) (is_picked_where_covered n cs)
  where
    cs : List Tree
    cs = candidates defs n body

    of_pick : (o : Option (List Tree)) → Covers (MentionedBy cs) n [] o → (covers n (mentioned_by cs) ≡ true → is_some o ≡ true)
        → (as_trigger o ≡ no_patterns) ↔ ((no_patterns ≡ no_patterns) × ¬ IsTrue (covers n (mentioned_by cs)))
    of_pick None r f = ((λ e. (refl, λ k. let c : false ≡ true = f k in cc)), (λ h. refl))
    of_pick (Some us) r f = (
      (λ e. let c : pattern (trees_of us) no_patterns ≡ no_patterns = e in absurd cc),
      (λ h. absurd (h.1 (all_there n (mentioned_by us) (mentioned_by cs) (λ v below k. all_mentioned cs us r.0 v k) (range_with_len 0 n) (range_below n 0 n (omega arith)) r.1))),
    )
