-- Where blocks meet: variables on which all before agree keep their incarnations, and the others' new ones are made equal to the old.
use Rattle.std.specs.Prelude.{◌≡◌, refl, ℕ, ◌+◌, ◌<◌, nat_eq, nat_lt, Bool, true, false, not, cond, List, [], ◌∷◌, ◌++◌, map, filter, length, slice_index_or, Contains}
use Rattle.std.specs.List.{AllByRecursion, list_all, range_with_len}
use Rattle.std.proofs.Common.{arith, ap, ◌∙◌, sym, subst, eqb-true, eq-eqb}
use Rattle.std.proofs.lemmas.Bool.{cases_lt, lt-ltb}
use Rattle.std.proofs.lemmas.List.{append_assoc, get_or_past, length-append}
use Rattle.std.proofs.lemmas.List.FromFn.{get_or-map-range_with_len, length-map-range_with_len}
use Rattle.logic_core.proofs.Booleans.{both_true, all_true as and_true}
use mathlib.Core.Logic.{inl, inr}
use Rattle.logic_core.specs.Tree.{Kind, int, free, equal}
use Rattle.logic_core.specs.Def.{Def}
use Rattle.logic_core.specs.Value.{Value, same, at}
use Rattle.flow_core.specs.declared.command.Command.TheVariants.{Assume}
use Rattle.flow_core.specs.State.{State, HoldsIn}
use Rattle.passive_form.specs.Passive.{formulas}
use Rattle.passive_form.specs.declared.made.Made.{Made}
use Rattle.passive_form.specs.Incarnations.{Incarnations, incarnation, anew, disagree, arriving, new_at_join}
use Rattle.passive_form.proofs.Lists.{Prefix, contains_cases, contains_first, contains_later, contains_none, filter_has, of_filter, range_has, of_range}
use Rattle.passive_form.proofs.Monotone.{same_itself}
use Rattle.passive_form.proofs.Values.{at_kept, at_next}

all_each : {A : Type 0} (p : A → Bool) (xs : List A) (x : A) → list_all p xs ≡ true → Contains xs x → p x ≡ true
all_each p [] x h c = absurd (contains_none x c)
all_each p (y ∷ ys) x h c = let k = both_true (p y) (list_all p ys) h in elim (contains_cases y ys x c) [
  | inl e ↦ subst (λ z. p z ≡ true) e k.0
  | inr m ↦ all_each p ys x k.1 m
]

each_all : {A : Type 0} (p : A → Bool) (xs : List A) → ((x : A) → Contains xs x → p x ≡ true) → list_all p xs ≡ true
each_all p [] f = refl
each_all p (y ∷ ys) f = and_true (p y) (list_all p ys) (f y (contains_first y ys y refl)) (each_all p ys (λ x c. f x (contains_later y ys x c)))

true_or_false : (b : Bool) → (not b ≡ true → ⊥) → b ≡ true
true_or_false true h = refl
true_or_false false h = absurd (h refl)

not_of : (b : Bool) → b ≡ true → not b ≡ true → ⊥
not_of true h k = let bad : false ≡ true = k in absurd (cc)
not_of false h k = let bad : false ≡ true = h in absurd (cc)

none_pass : {A : Type 0} (p : A → Bool) (xs : List A) → ((x : A) → p x ≡ true → ⊥) → filter p xs ≡ []
none_pass p [] f = refl
none_pass {A} p (x ∷ xs) f = at_test (p x) (f x) (none_pass p xs f)
  where
    at_test : (b : Bool) → (b ≡ true → ⊥) → filter p xs ≡ [] → cond b (x ∷ filter p xs) (filter p xs) ≡ []
    at_test true n e = absurd (n refl)
    at_test false n e = e

abbrev agrees : ℕ → Incarnations → Incarnations → Bool
agrees v i j = nat_eq (incarnation i v) (incarnation j v)

module _ (own : ℕ) where
  -- all agree on a variable that isn't among those
  pub agree_there : (i : Incarnations) (is : List Incarnations) (v : ℕ) → v < own → ¬ Contains (disagree own (i ∷ is)) v → (j : Incarnations) → Contains (i ∷ is) j → incarnation i v ≡ incarnation j v
  agree_there i is v h n j c =
      let all : list_all (agrees v i) is ≡ true = true_or_false (list_all (agrees v i) is) (λ t. n (filter_has (λ v. not (list_all (agrees v i) is)) (range_with_len 0 own) v (range_has own v h) t)) in
      elim (contains_cases i is j c) [
        | inl e ↦ ap (λ k. incarnation k v) e
        | inr m ↦ eqb-true (incarnation i v) (incarnation j v) (all_each (agrees v i) is j all m)
      ]

  pub disagree_own : (ls : List Incarnations) (v : ℕ) → Contains (disagree own ls) v → v < own
  disagree_own [] v c = absurd (contains_none v c)
  disagree_own (i ∷ is) v c = of_range own v (of_filter (λ v. not (list_all (agrees v i) is)) (range_with_len 0 own) v c).0

  pub disagree_there : (n : ℕ) (ls : List Incarnations) → ((j : Incarnations) → Contains ls j → length j ≡ n) → (v : ℕ) → Contains (disagree own ls) v → v < n
  disagree_there n [] w v c = absurd (contains_none v c)
  disagree_there n (i ∷ is) w v c = elim (cases_lt v n) [
    | inl l ↦ l
    | inr h ↦
        let itself : (j : Incarnations) → Contains (i ∷ is) j → incarnation j v ≡ v = λ j m. get_or_past j v v (let e : length j ≡ n = w j m in omega arith) in
        absurd (not_of (list_all (agrees v i) is)
        (each_all (agrees v i) is (λ j m. eq-eqb (incarnation i v) (incarnation j v) (itself i (contains_first i is i refl) ∙ sym (itself j (contains_later i is j m)))))
        (of_filter (λ v. not (list_all (agrees v i) is)) (range_with_len 0 own) v c).1)
  ]

  -- where all are one, none disagree
  pub alone_agrees : (ls : List Incarnations) (l : Incarnations) → ((j : Incarnations) → Contains ls j → j ≡ l) → disagree own ls ≡ []
  alone_agrees [] l f = refl
  alone_agrees (i ∷ is) l f = none_pass (λ v. not (list_all (agrees v i) is)) (range_with_len 0 own)
      (λ v. not_of (list_all (agrees v i) is) (each_all (agrees v i) is (λ j m. eq-eqb (incarnation i v) (incarnation j v) (ap (λ k. incarnation k v) (f i (contains_first i is i refl) ∙ sym (f j (contains_later i is j m)))))))

  pub arriving_wide : (first : Incarnations) (ls : List Incarnations) → length (arriving own first ls) ≡ length first
  arriving_wide first [] = refl
  arriving_wide first (i ∷ is) = length-map-range_with_len (λ v. cond (nat_lt v own) (incarnation i v) v) 0 (length first)

  -- a variable on which all agree arrives with the incarnation that it has in each
  pub arrives_as : (first : Incarnations) (ls : List Incarnations) (l : Incarnations) (v : ℕ) → Contains ls l → v < own → v < length first → ¬ Contains (disagree own ls) v → incarnation (arriving own first ls) v ≡ incarnation l v
  arrives_as first [] l v c h w n = absurd (contains_none l c)
  arrives_as first (i ∷ is) l v c h w n =
      let f : ℕ → ℕ = λ v. cond (nat_lt v own) (incarnation i v) v in
      let here : slice_index_or (map f (range_with_len 0 (length first))) v v ≡ f v = get_or-map-range_with_len f 0 (length first) v v v w (omega arith) in
      here ∙ ap (λ b. cond b (incarnation i v) v) (lt-ltb v own h) ∙ agree_there i is v h n l c

  module _ (vars : List Kind) where
    -- a new incarnation at a join, and the variable: it has the variable's value
    abbrev pub IsJoined : State → State → ℕ × ℕ → Type 0
    IsJoined frees σ q = (q.0 < own) × (q.0 < length vars) × (at frees q.1 ≡ at σ q.0)

    pub joined_says : (vs : List ℕ) (s : Made) (vals : List Value) (σ frees : State) → length s.sorts ≡ length vals → ((v : ℕ) → Contains vs v → (v < own) × (v < length vars)) → Prefix (vals ++ map (at σ) vs) frees
        → AllByRecursion (IsJoined frees σ) (new_at_join s vs)
    joined_says [] s vals σ frees e b p = tt
    joined_says (v ∷ vs) s vals σ frees e b p =
        let w : Value = at σ v in
        let k = b v (contains_first v vs v refl) in
        let next : at (vals ++ map (at σ) (v ∷ vs)) (length s.sorts) ≡ w = ap (at (vals ++ w ∷ map (at σ) vs)) e ∙ at_next vals w (map (at σ) vs) in
        let low : length s.sorts < length (vals ++ w ∷ map (at σ) vs) = omega (arith, length-append vals (w ∷ map (at σ) vs)) in (
          (k.0, k.1, at_kept (vals ++ w ∷ map (at σ) vs) frees (length s.sorts) p low ∙ next),
          joined_says vs (anew s v) (vals ++ w ∷ []) σ frees (length-append s.sorts (slice_index_or s.sorts v int ∷ []) ∙ ap (λ n. n + 1) e ∙ sym (length-append vals (w ∷ []))) (λ u c. b u (contains_later v vs u c))
              (subst (λ l. Prefix l frees) (sym (append_assoc vals (w ∷ []) (map (at σ) vs))) p),
        )

  -- so the equations hold
  pub equations_hold : (defs : List Def) (frees : State) (last : Incarnations) (qs : List (ℕ × ℕ)) → AllByRecursion (λ q. at frees q.1 ≡ at frees (incarnation last q.0)) qs
      → AllByRecursion (HoldsIn defs frees) (formulas (map (λ q. Assume (equal (free q.1) (free (incarnation last q.0)))) qs))
  equations_hold defs frees last [] h = tt
  equations_hold defs frees last (q ∷ qs) h = (ap (same (at frees q.1)) (sym h.0) ∙ same_itself (at frees q.1), equations_hold defs frees last qs h.1)
