-- Whether a declaration is none of the other procedures'.
use Rattle.std.specs.Prelude.{◌≡◌, refl, ℕ, ◌+◌, ◌<◌, ◌≤◌, nat_eq, nat_lt, Bool, true, false, ◌||◌, List, ◌++◌, length, get_or, codes, bytes_eq, Some, slice_get}
use Rattle.std.proofs.Common.{ap, sym, arith, ◌∙◌, true≢false}
use Rattle.std.proofs.lemmas.Bool.{ltb-true, ltb-false}
use Rattle.std.proofs.lemmas.Option.{slice_get-get_or, slice_get_within}
use Rattle.std.proofs.lemmas.Slice.Eq.{bytes_eq-Decides}
use Rattle.bpl_model.specs.Module.{Name, Proc, Module}
use Rattle.vc_rebuild.specs.Change.{is_no_blank, is_own, IsOwnAlone}
use Rattle.vc_rebuild.specs.declared.change.ChangedBody.{ChangedBody}

or_none : (b : Bool) → (b || false) ≡ b
or_none true = refl
or_none false = refl

-- a name without a blank there is no implementation's
no_implementation : (n x : Name) → is_no_blank (slice_get n 14) ≡ true → bytes_eq (codes "implementation " ++ x) n ≡ false
no_implementation n x plain = by (bytes_eq (codes "implementation " ++ x) n) refl
  where
    by : (b : Bool) → bytes_eq (codes "implementation " ++ x) n ≡ b → b ≡ false
    by false e = refl
    by true e =
        let blank : is_no_blank (slice_get n 14) ≡ false = ap (λ m. is_no_blank (slice_get m 14)) (sym ((bytes_eq-Decides (codes "implementation " ++ x) n).0 e)) in
        absurd (true≢false (sym plain ∙ blank))

pub plain_own : (n x : Name) → is_no_blank (slice_get n 14) ≡ true → bytes_eq x n ≡ (bytes_eq x n || bytes_eq (codes "implementation " ++ x) n)
plain_own n x plain = sym (ap (λ b. bytes_eq x n || b) (no_implementation n x plain) ∙ or_none (bytes_eq x n))

-- it is none of the first ones
abbrev pub IsAloneUpTo : Module → ChangedBody → List Proc → ℕ → Type 0
IsAloneUpTo m c ps n = (i : ℕ) (q : Proc) → i < n → nat_eq i c.proc_at ≡ false → slice_get ps i ≡ Some q → is_own m c.decl_at q ≡ false

pub alone_first : (m : Module) (c : ChangedBody) (ps : List Proc) → IsAloneUpTo m c ps 0
alone_first m c ps i q below other at = absurd (omega (below, arith))

pub alone_more : (m : Module) (c : ChangedBody) (ps : List Proc) (n : ℕ) (p : Proc) → n < length ps → p ≡ get_or ps n p → (nat_eq n c.proc_at ≡ false → is_own m c.decl_at p ≡ false) → IsAloneUpTo m c ps n → IsAloneUpTo m c ps (n + 1)
alone_more m c ps n p below is here so_far i q less other at = by (nat_lt i n) refl
  where
    by : (b : Bool) → nat_lt i n ≡ b → is_own m c.decl_at q ≡ false
    by true e = so_far i q (ltb-true i n e) other at
    by false e =
        let past : n ≤ i = ltb-false i n e in
        let same : i ≡ n = omega (less, past, arith) in
        let found : Some q ≡ Some p = sym at ∙ ap (slice_get ps) same ∙ slice_get-get_or ps n p below ∙ ap Some (sym is) in
        let it : q ≡ p = cc in
        ap (is_own m c.decl_at) it ∙ here (sym (ap (λ k. nat_eq k c.proc_at) same) ∙ other)

pub alone_all : (m : Module) (c : ChangedBody) (ps : List Proc) (n : ℕ) → length ps ≤ n → IsAloneUpTo m c ps n → IsOwnAlone m c ps
alone_all m c ps n all so_far i q other at = so_far i q (omega (slice_get_within ps i q at, all, arith)) other at
