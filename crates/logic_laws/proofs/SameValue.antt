-- The test of values is equality, and equations of values can be shown by contradiction.
use Rattle.std.proofs.Common.{◌≡◌, refl, sym, ap, subst, Bool, true, false, ◌&&◌, int_eq}
use Rattle.std.proofs.lemmas.Bool.Decides.{Decides-int_eq}
use Rattle.logic_core.proofs.Booleans.{both_true, all_true, same_test, bool_equal, bool_itself}
use Rattle.logic_core.specs.Value.{Value, whole, flag, table, Entries, no_entries, entry, bool_eq, same, same_entries}
use Rattle.logic_core.proofs.Kept.{Stable}

mutual
  pub same_equal : (v w : Value) → same v w ≡ true → v ≡ w
  same_equal (whole m) (whole n) h = ap whole ((Decides-int_eq m n).0 h)
  same_equal (flag b) (flag c) h = ap flag (bool_equal b c h)
  same_equal (table d es) (table e fs) h = let p = both_true (same d e) (same_entries es fs) h in cc (same_equal d e p.0, entries_equal es fs p.1)
  same_equal v w h = absurd (cc)

  entries_equal : (es fs : Entries) → same_entries es fs ≡ true → es ≡ fs
  entries_equal no_entries no_entries h = refl
  entries_equal (entry i v es) (entry j w fs) h =
      let p = both_true (int_eq i j) (same v w && same_entries es fs) h in
      let q = both_true (same v w) (same_entries es fs) p.1 in
      cc ((Decides-int_eq i j).0 p.0, same_equal v w q.0, entries_equal es fs q.1)
  entries_equal es fs h = absurd (cc)

mutual
  pub same_itself : (v : Value) → same v v ≡ true
  same_itself (whole n) = (Decides-int_eq n n).1 refl
  same_itself (flag b) = bool_itself b
  same_itself (table d es) = all_true (same d d) (same_entries es es) (same_itself d) (entries_themselves es)

  entries_themselves : (es : Entries) → same_entries es es ≡ true
  entries_themselves no_entries = refl
  entries_themselves (entry i v es) = all_true (int_eq i i) (same v v && same_entries es es) ((Decides-int_eq i i).1 refl) (all_true (same v v) (same_entries es es) (same_itself v) (entries_themselves es))

pub equal_same : (v w : Value) → v ≡ w → same v w ≡ true
equal_same v w e = subst (λ x. same v x ≡ true) e (same_itself v)

-- whichever stands first
pub same_swap : (v w : Value) → same v w ≡ same w v
same_swap v w = same_test (same v w) (same w v) (λ h. equal_same w v (sym (same_equal v w h))) (λ h. equal_same v w (sym (same_equal w v h)))

stable_by : (v w : Value) (c : Bool) → same v w ≡ c → Stable (v ≡ w)
stable_by v w true e n = same_equal v w e
stable_by v w false e n = absurd (n (λ p. let f = equal_same v w p in (cc)))

pub value_stable : (v w : Value) → Stable (v ≡ w)
value_stable v w = stable_by v w (same v w) refl
