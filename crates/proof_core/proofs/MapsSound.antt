-- Back, past and differ are sound.
use Rattle.std.proofs.Common.{◌≡◌, ◌∙◌, refl, sym, ap, subst, ℕ, ◌+◌, ℤ, pos, int_eq, true, not, cond, ◌&&◌, IsTrue, Option, Some, None, List, [], ◌∷◌, ◌++◌, length, arith}
use Rattle.std.specs.Prelude.{is_some}
use Rattle.std.proofs.lemmas.Bool.Decides.{Decides-int_eq}
use Rattle.logic_core.proofs.Booleans.{both_true}
use Rattle.logic_core.specs.Tree.{Kind, int, boolean, map, Tree, num, free, read, negation, equal}
use Rattle.logic_core.specs.Value.{Value, whole, flag, int_of, same, look, at, are_of}
use Rattle.logic_core.specs.Def.{Def}
use Rattle.logic_core.specs.Wide.{◌>>=◌}
use Rattle.logic_core.specs.Sorts.{sort_of}
use Rattle.logic_core.specs.Subterm.{replaced}
use Rattle.logic_core.proofs.Replaced.{Same}
use Rattle.logic_laws.proofs.Options.{bind_some, cond_has}
use Rattle.logic_laws.proofs.FormulaSorts.{equal_sort, negation_sort, part_of_negation, parts_of_equal}
use Rattle.logic_laws.proofs.NormalSorts.{read_sort}
use Rattle.logic_laws.proofs.SameValue.{same_equal, equal_same, value_stable}
use Rattle.logic_laws.proofs.WrittenTables.{same_by_reads}
use Rattle.proof_core.specs.Context.{Context, fact, named, with_variables, appended, appended_each}
use Rattle.proof_core.specs.Split.{stands_in}
use Rattle.proof_core.specs.Maps.{Access, access, before_write, as_number, below_zero, at_zero, above_zero, distance, read_at_distance, moved_back, different_at, different, differing}
use Rattle.proof_core.specs.Soundness.{IsSorted, IsUnsatisfiable, IsRefutedBy, BackIsSound, PastIsSound, DifferIsSound}
use Rattle.logic_core.specs.WellSorted.{IsFormula}
use Rattle.proof_core.proofs.Closed.{Of, HoldsIn, Has, has_one, value_holds, holds_by_value, value_sort, same_by_value}
use Rattle.proof_core.proofs.Conditions.{when_then, some_given, three_given, at_test}
use Rattle.proof_core.proofs.Appended.{appended_extends, each_extends, three_children, at_fact, All-one, All-two}
use Rattle.proof_core.proofs.Replacing.{replaced_followed}
use Rattle.proof_core.proofs.Signs.{below_formula, zero_formula, above_formula, by_sign}
use Rattle.proof_core.proofs.Accesses as reading
use Rattle.proof_core.proofs.Accesses.{accessed, access_is, number_is}
use Rattle.proof_core.proofs.NewVariables.{slice_after, more_sort, more_sorted, next_value, more_value, newly_followed}

-- back: what is read at a constant distance has the term's value and sort
module _ (defs : List Def) (c : Context) (s : IsSorted defs c) (a : Access) (k : Kind) (sort : sort_of c.vars defs [] (accessed a) ≡ Some k) where
  abbrev at_distance : ℤ → Tree
  at_distance n = cond (int_eq n (pos 0)) a.value (before_write a)

  at_distance_sort : (n : ℤ) → sort_of c.vars defs [] (at_distance n) ≡ Some k
  at_distance_sort n = cond_has (λ u. sort_of c.vars defs [] u ≡ Some k) (int_eq n (pos 0)) a.value (before_write a)
      (λ _. (reading.sorts defs c.vars s.definitions a k sort).value) (λ _. reading.before_sort defs c.vars s.definitions a k sort)

  at_distance_same : (frees : List Value) (fit : IsTrue (are_of c.vars frees)) (d : Tree) (n : ℤ) → distance defs c a ≡ Some d → d ≡ num n → Same (Of defs frees (accessed a)) (Of defs frees (at_distance n))
  at_distance_same frees fit d n e is_n = same_by_value defs frees (accessed a) (at_distance n) (λ go. has_one defs frees (accessed a) (λ r g.
      let p = reading.parts_of defs c.vars s.definitions a k sort frees fit r g in
      let has_d = subst (λ x. Has defs frees x (whole (reading.apart (int_of (p.0).at) (int_of (p.0).index)))) is_n (reading.distance_has defs c.vars s.definitions a k sort frees fit p.0 d e) in
      let far : reading.apart (int_of (p.0).at) (int_of (p.0).index) ≡ n = ap int_of has_d in
      go r g (cond_has (λ u. Has defs frees u r) (int_eq n (pos 0)) a.value (before_write a)
      (λ zero. reading.reads_value defs c.vars s.definitions a k sort frees fit r p.0 p.1 (far ∙ (Decides-int_eq n (pos 0)).0 zero))
      (λ other. reading.reads_before defs c.vars s.definitions a k sort frees fit r p.0 p.1 (λ zero. let same' : int_eq n (pos 0) ≡ true = (Decides-int_eq n (pos 0)).1 (sym far ∙ zero) in absurd (cc))))))

back_at : (defs : List Def) (c d : Context) (f : ℕ) (g t u : Tree) (a : Access) (k : Kind) → IsSorted defs c → fact c f ≡ Some g → named defs c t ≡ Some k → t ≡ accessed a → read_at_distance defs c a ≡ Some u → appended defs c (replaced t u g) ≡ Some d → IsSorted defs d × (IsUnsatisfiable defs d → IsUnsatisfiable defs c)
back_at defs c d f g t u a k s at sort is_t reads e =
    let p = bind_some (distance defs c a) (λ x. as_number x >>= λ n. Some (cond (int_eq n (pos 0)) a.value (before_write a))) u reads in
    let q = bind_some (as_number p.0) (λ n. Some (cond (int_eq n (pos 0)) a.value (before_write a))) u p.2 in
    let is_u : cond (int_eq q.0 (pos 0)) a.value (before_write a) ≡ u = cc in
    let a_sort : sort_of c.vars defs [] (accessed a) ≡ Some k = subst (λ x. sort_of c.vars defs [] x ≡ Some k) is_t sort in
    replaced_followed defs c s f g at t u k sort (subst (λ x. sort_of c.vars defs [] x ≡ Some k) is_u (at_distance_sort defs c s a k a_sort q.0)) d e
    (λ frees fit hold. subst (λ x. Same (Of defs frees t) (Of defs frees x)) is_u (subst (λ x. Same (Of defs frees x) (Of defs frees (cond (int_eq q.0 (pos 0)) a.value (before_write a)))) (sym is_t)
    (at_distance_same defs c s a k a_sort frees fit p.0 q.0 p.1 (number_is p.0 q.0 q.1))))

pub back_is_sound : BackIsSound
back_is_sound f t defs c d s e =
    let p = bind_some (fact c f) (λ u. moved_back defs c u t) d e in
    let w = when_then (is_some (named defs c t) && stands_in t p.0) (access t >>= λ a. read_at_distance defs c a >>= λ u. appended defs c (replaced t u p.0)) d p.2 in
    let sort = some_given (named defs c t) (both_true (is_some (named defs c t)) (stands_in t p.0) w.0).0 in
    let a = bind_some (access t) (λ a. read_at_distance defs c a >>= λ u. appended defs c (replaced t u p.0)) d w.1 in
    let u = bind_some (read_at_distance defs c a.0) (λ u. appended defs c (replaced t u p.0)) d a.2 in
    back_at defs c d f p.0 t u.0 a.0 sort.0 s p.1 sort.1 (access_is t a.0 a.1) u.1 u.2

-- past: by the sign of the distance the term reads what stood before, or what was written
module _ (defs : List Def) (c : Context) (s : IsSorted defs c) (a : Access) (k : Kind) (sort : sort_of c.vars defs [] (accessed a) ≡ Some k) (d : Tree) (e : distance defs c a ≡ Some d) where
  d_sort : sort_of c.vars defs [] d ≡ Some int
  d_sort = reading.distance_sort defs c.vars s.definitions a k sort d e

  before_formula : IsFormula c.vars defs (equal (accessed a) (before_write a))
  before_formula = equal_sort c.vars defs (accessed a) (before_write a) [] k sort (reading.before_sort defs c.vars s.definitions a k sort)

  value_formula : IsFormula c.vars defs (equal (accessed a) a.value)
  value_formula = equal_sort c.vars defs (accessed a) a.value [] k sort (reading.sorts defs c.vars s.definitions a k sort).value

  abbrev below_facts : List Tree
  below_facts = below_zero d ∷ equal (accessed a) (before_write a) ∷ []

  abbrev same_facts : List Tree
  same_facts = at_zero d ∷ equal (accessed a) a.value ∷ []

  abbrev above_facts : List Tree
  above_facts = above_zero d ∷ equal (accessed a) (before_write a) ∷ []

  equal_holds : (frees : List Value) (t u : Tree) (r : Value) → Has defs frees t r → Has defs frees u r → HoldsIn defs frees (equal t u)
  equal_holds frees t u r g h = holds_by_value defs frees (equal t u) (flag (same r r)) (r, r, g, h, refl) (equal_same r r refl)

  past_followed : (below same' above : Context) → appended_each defs c below_facts ≡ Some below → appended_each defs c same_facts ≡ Some same' → appended_each defs c above_facts ≡ Some above → IsRefutedBy defs c (below ∷ same' ∷ above ∷ [])
  past_followed below same' above b z g = three_children defs c below same' above below_facts same_facts above_facts
      (each_extends defs below_facts c below s (All-two (IsFormula c.vars defs) (below_zero d) (equal (accessed a) (before_write a)) (below_formula c.vars defs d d_sort) before_formula) b)
      (each_extends defs same_facts c same' s (All-two (IsFormula c.vars defs) (at_zero d) (equal (accessed a) a.value) (zero_formula c.vars defs d d_sort) value_formula) z)
      (each_extends defs above_facts c above s (All-two (IsFormula c.vars defs) (above_zero d) (equal (accessed a) (before_write a)) (above_formula c.vars defs d d_sort) before_formula) g)
      (λ frees fit hold no_below no_same no_above. has_one defs frees (accessed a) (λ r g.
      let p = reading.parts_of defs c.vars s.definitions a k sort frees fit r g in
      let has_d = reading.distance_has defs c.vars s.definitions a k sort frees fit p.0 d e in
      by_sign defs frees d (whole (reading.apart (int_of (p.0).at) (int_of (p.0).index))) has_d refl
      (λ h other. no_below (All-two (HoldsIn defs frees) (below_zero d) (equal (accessed a) (before_write a)) h (equal_holds frees (accessed a) (before_write a) r g (reading.reads_before defs c.vars s.definitions a k sort frees fit r p.0 p.1 other))))
      (λ h zero. no_same (All-two (HoldsIn defs frees) (at_zero d) (equal (accessed a) a.value) h (equal_holds frees (accessed a) a.value r g (reading.reads_value defs c.vars s.definitions a k sort frees fit r p.0 p.1 zero))))
      (λ h other. no_above (All-two (HoldsIn defs frees) (above_zero d) (equal (accessed a) (before_write a)) h (equal_holds frees (accessed a) (before_write a) r g (reading.reads_before defs c.vars s.definitions a k sort frees fit r p.0 p.1 other))))))

abbrev past_contexts : List Def → Context → Tree → Access → Tree → Option (Context × Context × Context)
past_contexts defs c t a d =
    appended_each defs c (below_zero d ∷ equal t (before_write a) ∷ []) >>= λ below.
    appended_each defs c (at_zero d ∷ equal t a.value ∷ []) >>= λ same.
    appended_each defs c (above_zero d ∷ equal t (before_write a) ∷ []) >>= λ above. Some (below, same, above)

pub past_is_sound : PastIsSound
past_is_sound t defs c below same' above s e =
    let w = when_then (is_some (named defs c t)) (access t >>= λ a. distance defs c a >>= λ d. past_contexts defs c t a d) (below, same', above) e in
    let sort = some_given (named defs c t) w.0 in
    let a = bind_some (access t) (λ a. distance defs c a >>= λ d. past_contexts defs c t a d) (below, same', above) w.1 in
    let d = bind_some (distance defs c a.0) (λ d. past_contexts defs c t a.0 d) (below, same', above) a.2 in
    let is_t = access_is t a.0 a.1 in
    let three = subst (λ x. past_contexts defs c x a.0 d.0 ≡ Some (below, same', above)) is_t d.2 in
    let a_sort : sort_of c.vars defs [] (accessed a.0) ≡ Some sort.0 = subst (λ x. sort_of c.vars defs [] x ≡ Some sort.0) is_t sort.1 in
    let each = three_given (appended_each defs c (below_facts defs c s a.0 sort.0 a_sort d.0 d.1)) (appended_each defs c (same_facts defs c s a.0 sort.0 a_sort d.0 d.1)) (appended_each defs c (above_facts defs c s a.0 sort.0 a_sort d.0 d.1)) below same' above three in
    past_followed defs c s a.0 sort.0 a_sort d.0 d.1 below same' above each.0 each.1 each.2

-- differ: maps that aren't equal differ somewhere
module _ (defs : List Def) (c : Context) (s : IsSorted defs c) (a b : Tree) (k : Kind) (a_sort : sort_of c.vars defs [] a ≡ Some (map k)) (b_sort : sort_of c.vars defs [] b ≡ Some (map k)) where
  abbrev place : Tree
  place = free (length c.vars)

  abbrev difference : Tree
  difference = negation (equal (read a place) (read b place))

  abbrev vars' : List Kind
  vars' = c.vars ++ int ∷ []

  place_sort : sort_of vars' defs [] place ≡ Some int
  place_sort = slice_after c.vars (int ∷ []) (length c.vars) 0 (omega arith)

  difference_formula : IsFormula vars' defs difference
  difference_formula = negation_sort vars' defs (equal (read a place) (read b place)) []
      (equal_sort vars' defs (read a place) (read b place) [] k (read_sort vars' defs a place [] k (more_sort defs c (int ∷ []) s a [] (map k) a_sort) place_sort) (read_sort vars' defs b place [] k (more_sort defs c (int ∷ []) s b [] (map k) b_sort) place_sort))

  difference_holds : (frees : List Value) (fit : IsTrue (are_of c.vars frees)) (v w : Value) (n : ℤ) → Has defs frees a v → Has defs frees b w → ¬ (look v n ≡ look w n) → HoldsIn defs (frees ++ whole n ∷ []) difference
  difference_holds frees fit v w n g h other =
      let frees' = frees ++ whole n ∷ [] in
      let here : length c.vars ≡ length c.vars + 0 = omega arith in
      let stands : whole n ≡ at frees' (length c.vars) = sym (ap (at frees') here ∙ next_value defs c (int ∷ []) s frees fit (whole n ∷ []) 0) in
      let first = more_value defs c (int ∷ []) s frees fit (whole n ∷ []) a (map k) v a_sort g in
      let second = more_value defs c (int ∷ []) s frees fit (whole n ∷ []) b (map k) w b_sort h in
      holds_by_value defs frees' difference (flag (not (same (look v n) (look w n))))
      (flag (same (look v n) (look w n)), (look v n, look w n, (v, whole n, first, stands, refl), (w, whole n, second, stands, refl), refl), refl)
      (at_test (same (look v n) (look w n)) (λ t. absurd (other (same_equal (look v n) (look w n) t))) (λ f. ap not f))

  differ_somewhere : (frees : List Value) (fit : IsTrue (are_of c.vars frees)) → HoldsIn defs frees (negation (equal a b)) → ((n : ℤ) → HoldsIn defs (frees ++ whole n ∷ []) difference → ⊥) → ⊥
  differ_somewhere frees fit hold go = has_one defs frees a (λ v g. has_one defs frees b (λ w h.
      let untrue : not (same v w) ≡ true = value_holds defs frees (negation (equal a b)) (flag (not (same v w))) (flag (same v w), (v, w, g, h, refl), refl) hold in
      let v_sort = value_sort c.vars defs s.definitions frees fit a (map k) v a_sort g in
      let w_sort = value_sort c.vars defs s.definitions frees fit b (map k) w b_sort h in
      let one : v ≡ w = same_by_reads k v w v_sort w_sort (λ n. value_stable (look v n) (look w n) (λ other. go n (difference_holds frees fit v w n g h other))) in
      let equal' : same v w ≡ true = equal_same v w one in cc))

differ_by : (defs : List Def) (c d : Context) (f : ℕ) (a b : Tree) (o : Option Kind) → IsSorted defs c → fact c f ≡ Some (negation (equal a b)) → named defs c a ≡ o → different_at defs c a b o ≡ Some d → IsSorted defs d × (IsUnsatisfiable defs d → IsUnsatisfiable defs c)
differ_by defs c d f a b (Some (map k)) s at sort e =
    let formula : IsFormula c.vars defs (equal a b) = part_of_negation c.vars defs (equal a b) [] boolean (at_fact (IsFormula c.vars defs) c.facts f (negation (equal a b)) at s.facts) in
    let p = parts_of_equal c.vars defs a b [] boolean formula in
    let here : sort_of c.vars defs [] a ≡ Some (map k) = sort in
    let kind : p.0 ≡ map k = cc (p.1, here) in
    let b_sort : sort_of c.vars defs [] b ≡ Some (map k) = subst (λ j. sort_of c.vars defs [] b ≡ Some j) kind p.2 in
    let new = difference defs c s a b k sort b_sort in
    newly_followed defs c (int ∷ []) s d (new ∷ []) (appended_extends defs (with_variables c (int ∷ [])) d new (more_sorted defs c (int ∷ []) s) (difference_formula defs c s a b k sort b_sort) e)
    (λ frees fit hold go. differ_somewhere defs c s a b k sort b_sort frees fit (at_fact (HoldsIn defs frees) c.facts f (negation (equal a b)) at hold)
    (λ n h. go (whole n ∷ []) refl (All-one (HoldsIn defs (frees ++ whole n ∷ [])) new h)))
differ_by defs c d f a b (Some int) s at sort e = absurd (cc)
differ_by defs c d f a b (Some boolean) s at sort e = absurd (cc)
differ_by defs c d f a b None s at sort e = absurd (cc)

differ_equal : (defs : List Def) (c d : Context) (f : ℕ) (t : Tree) → IsSorted defs c → fact c f ≡ Some (negation t) → different defs c t ≡ Some d → IsSorted defs d × (IsUnsatisfiable defs d → IsUnsatisfiable defs c)
differ_equal defs c d f (equal a b) s at e = differ_by defs c d f a b (named defs c a) s at refl e
differ_equal defs c d f t s at e = absurd (cc)

differ_at : (defs : List Def) (c d : Context) (f : ℕ) (t : Tree) → IsSorted defs c → fact c f ≡ Some t → differing defs c t ≡ Some d → IsSorted defs d × (IsUnsatisfiable defs d → IsUnsatisfiable defs c)
differ_at defs c d f (negation t) s at e = differ_equal defs c d f t s at e
differ_at defs c d f t s at e = absurd (cc)

pub differ_is_sound : DifferIsSound
differ_is_sound f defs c d s e = let p = bind_some (fact c f) (λ t. differing defs c t) d e in differ_at defs c d f p.0 s p.1 p.2
